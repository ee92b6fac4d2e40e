-- `machine::runner::check_opening` meets its contract. Assumes nothing.
use mathlib.Core.Path.{sym, ap, ◌∙◌}
use mathlib.Core.Bool.{Bool}
use mathlib.Core.List.{[]}
use Rattle.words.specs.Refusals.{judge}
use Rattle.words.specs.Handles.{handle_of}
use Rattle.words.proofs.CheckLaws.{raised_first, passed_first}
use Rattle.counters.specs.Calls.{checks}
use Rattle.image.specs.Calls.{clear_table}
use Rattle.machine.specs.Machine.{opening_table}
use Rattle.machine.proofs.ExecuteLaws.{create_says}
use Rattle.machine.proofs.runner.check_opening.Goals as goal

pub returns-then-clear_first : goal.returns-then-clear_first
returns-then-clear_first c =
    let a = c.args in
    create_says _ _ _ _ _ c.new-h.ensures c.check_record.ensures
    ∙ sym (passed_first (clear_table a.bytes) (checks (handle_of a.capacity []) a.words a.counters) _ c.check_clear.ensures c.in_ok-check_clear.was)
    ∙ ap (λ (b : Bool). judge (opening_table a.capacity b a.words a.counters a.bytes)) (sym c.if-clear_first.true)

pub returns-in_err-check_record : goal.returns-in_err-check_record
returns-in_err-check_record c =
    let a = c.args in
    raised_first (checks (handle_of a.capacity []) a.words a.counters) (clear_table a.bytes) _ _ _
    (create_says _ _ _ _ _ c.new-h.ensures c.check_record-2.ensures) c.in_err-check_record.was c.from_residual-in_err-check_record.ensures.1
    ∙ ap (λ (b : Bool). judge (opening_table a.capacity b a.words a.counters a.bytes)) (sym c.if-clear_first.false)

pub returns : goal.returns
returns c =
    let a = c.args in
    c.check_clear-2.ensures
    ∙ sym (passed_first (checks (handle_of a.capacity []) a.words a.counters) (clear_table a.bytes) _
    (create_says _ _ _ _ _ c.new-h.ensures c.check_record-2.ensures) c.in_ok-check_record.was)
    ∙ ap (λ (b : Bool). judge (opening_table a.capacity b a.words a.counters a.bytes)) (sym c.if-clear_first.false)
