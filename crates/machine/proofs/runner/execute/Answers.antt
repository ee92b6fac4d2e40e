-- `machine::runner::execute` meets its contract. Assumes nothing.
use mathlib.Core.Path.{sym, ap, ◌∙◌, subst}
use Prim.Native.Nat.{ℕ}
use lib.ListN.{set}
use lib.Seq.{sets}
use Rattle.words.specs.declared.handle.Handle.{Handle}
use Rattle.words.proofs.StripLaws.{handle_none}
use Rattle.machine.specs.Unit.{strip_record, unit_state}
use Rattle.machine.specs.Runner.{ended, Executed}
use Rattle.machine.proofs.ExecuteLaws.{passed, opened_by, executed_short, executed_refused, executed_ran}
use Rattle.machine.proofs.runner.execute.Goals as goal

pub returns-then-answers-calls : goal.returns-then-answers-calls
returns-then-answers-calls c =
    let a = c.args in
    executed_short a.script.now a.capacity a.order a.words.now a.counters.now a.image.now a.answers.now c.if-answers-calls.true

pub returns-in-Err : goal.returns-in-Err
returns-in-Err c =
    let a = c.args in
    let k = c.check_opening-opening in
    subst
    (λ (n : ℕ).
    Executed a.script.now a.capacity a.order a.words.now a.counters.now a.image.now a.answers.now
    (ended 0 a.words.now a.counters.now a.image.now (set a.answers.now 0 n)))
    (sym c.from.ensures.0)
    (executed_refused a.script.now a.capacity a.order a.words.now a.counters.now a.image.now a.answers.now k.result c.in-Err.r
    c.if-answers-calls.false k.ensures c.in-Err.is)

pub returns : goal.returns
returns c =
    let a = c.args in
    let k = c.check_opening-opening in
    let laid = c.create in
    let cleared = c.clear in
    let new = c.new-opened in
    let d = c.run_calls-last in
    let put = c.put_answers in
    let p = passed a.capacity a.order a.words.now a.counters.now a.image.now k.result k.ensures c.in_default.is in
    executed_ran a.script.now a.capacity a.order a.words.now a.counters.now a.image.now a.answers.now
    (unit_state (strip_record new.result laid.new.words laid.new.counters) cleared.new.image)
    (unit_state (strip_record d.result d.new.words d.new.counters) d.new.image) d.new.answers put.new.answers
    c.if-answers-calls.false p
    (ap (λ (h : Handle). unit_state (strip_record h laid.new.words laid.new.counters) cleared.new.image) (new.ensures ∙ handle_none a.capacity)
    ∙ opened_by a.capacity a.order a.words.now a.counters.now a.image.now p _ _ laid.new.words
    laid.new.counters cleared.new.image laid.ensures cleared.ensures)
    d.ensures (put.ensures ∙ ap (sets d.new.answers 0) c.head.ensures)
