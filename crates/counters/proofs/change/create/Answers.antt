-- `counters::change::create` meets its contract. Assumes nothing.
use Rattle.std.proofs.Common.{◌≡◌, ℕ, List, [], length, replicate, sym, ap, ◌∙◌, ap₂}
use Rattle.std.specs.Prelude.{Result}
use Rattle.words.specs.declared.handle.Handle.{Handle}
use Rattle.words.specs.declared.refusal.Refusal.{Refusal}
use Rattle.words.specs.Refusals.{judge, verdict_of}
use Rattle.words.specs.Handles.{handle_of}
use Rattle.words.proofs.StripLaws.{handle_none}
use Rattle.words.proofs.CheckLaws.{raised, judged_pass, unless_refused, unless_passed}
use Rattle.counters.specs.declared.answer.Laid.{Laid}
use Rattle.counters.specs.Tree.{blocks_of, counter_count}
use Rattle.counters.specs.Record.{packed_words, built_counters}
use Rattle.counters.specs.Promises.{created, created_of, uncreated, outcome}
use Rattle.counters.specs.Calls.{checks}
use Rattle.counters.proofs.AfreshLaws.{words_zero, counters_zero}
use Rattle.counters.proofs.PromiseLaws.{sizes}
use Rattle.counters.proofs.change.create.Goals as goal
use Rattle.counters.proofs.change.create.Goals.{After-check_record}

-- the checks of the handle of the empty strip
judged : (c : After-check_record)
    → verdict_of c.check_record.result ≡ judge (checks (handle_of c.args.capacity []) (length c.args.words.now) (length c.args.counters.now))
judged c =
    let a = c.args in
    c.check_record.ensures ∙ ap (λ (h : Handle). judge (checks h (length a.words.now) (length a.counters.now))) (c.new-h.ensures ∙ handle_none a.capacity)

pub returns-in_err-check_record : goal.returns-in_err-check_record
returns-in_err-check_record c =
    let a = c.args in
    ap (λ (q : Result Laid Refusal). outcome (created_of q) a.words.now a.counters.now) (raised c.from_residual.result _ c.from_residual.ensures.1)
    ∙ unless_refused (checks (handle_of a.capacity []) (length a.words.now) (length a.counters.now)) c.check_record.result _
    (λ n. outcome (uncreated n) a.words.now a.counters.now) _ (judged (goal.at.returns-in_err-check_record c).After-check_record)
    c.in_err-check_record.was

pub returns : goal.returns
returns c =
    let a = c.args in
    let t = checks (handle_of a.capacity []) (length a.words.now) (length a.counters.now) in
    let ws = c.fill in
    let cs = c.fill-2 in
    let j = judged (goal.at.returns c).After-check_record in
    let z = sizes (handle_of a.capacity []) a.words.now a.counters.now (judged_pass t c.check_record.result j c.in_ok-check_record.was) in
    let words_are : ws.new.self ≡ packed_words a.capacity [] =
    ws.ensures.after (λ y e. e) ∙ ap (λ (n : ℕ). replicate n 0) z.words ∙ sym (words_zero a.capacity) in
    let counters_are : cs.new.self ≡ built_counters a.capacity [] =
    cs.ensures.after (λ y e. e) ∙ ap (λ (n : ℕ). replicate n 0) z.counters ∙ sym (counters_zero a.capacity) in
    ap₂ (λ (g : Handle) (n : ℕ). outcome (created g n) ws.new.self cs.new.self) (c.new-h.ensures ∙ handle_none a.capacity) (cs.ensures.len ∙ z.counters)
    ∙ ap₂ (λ (x y : List ℕ). outcome (created (handle_of a.capacity []) (counter_count (blocks_of a.capacity))) x y) words_are counters_are
    ∙ unless_passed t c.check_record.result (λ n. outcome (uncreated n) a.words.now a.counters.now) _ j c.in_ok-check_record.was
