-- `counters::check::check_flip` meets its contract. Assumes nothing.
use Rattle.std.proofs.Common.{◌≡◌, ℕ, ◌-◌, Bool, eqb, ltb, [], ◌∷◌, length, sym, ap, ◌∙◌, le-ltb, lt-ltb}
use Rattle.words.specs.Refusals.{◌⇒◌, judge, verdict_of}
use Rattle.words.specs.Calls.{below_table}
use Rattle.words.proofs.CheckLaws.{passed_first, judged_pass, checked_below}
use Rattle.words.proofs.StripLaws.{strip_cell}
use Rattle.counters.specs.Tree.{blocks_of, counter_count}
use Rattle.counters.specs.Calls.{flip_table, turned_bit, total_line, move_table}
use Rattle.counters.proofs.check.check_flip.Goals as goal
use Rattle.counters.proofs.check.check_flip.Goals.{After-moved_total}

-- past the lines 1, 2, 3, 4 the total moved tells
told : (c : After-moved_total)
    → let a = c.args in
    judge (move_table a.h a.words.now a.counters a.i) ≡ judge ((ltb a.h.length c.moved_total.result ⇒ 9) ∷ [])
told c =
    let a = c.args in
    let t = flip_table a.h (length a.words.now) a.counters a.i in
    let judged : verdict_of c.check_below.result ≡ judge t =
    c.check_below.ensures ∙ ap (λ (n : ℕ). judge (below_table a.h (length a.words.now) (eqb a.counters n) a.i)) c.counter_count.ensures in
    let known =
    checked_below a.h (length a.words.now) (eqb a.counters (counter_count (blocks_of a.h.capacity))) a.i
    (judged_pass t c.check_below.result judged c.in_ok-check_below.was) in
    let b : turned_bit a.h a.words.now a.i ≡ c.turned_bit.result =
    ap (λ (x : ℕ). 1 - x) (strip_cell a.words.now a.h.length a.i known.1) ∙ sym c.turned_bit.ensures in
    passed_first t (total_line a.h (turned_bit a.h a.words.now a.i) ∷ []) _ judged c.in_ok-check_below.was
    ∙ ap (λ (x : Bool). judge ((x ⇒ 9) ∷ [])) (ap (λ (x : ℕ). (total_line a.h x).applies) b ∙ sym c.moved_total.ensures.0)

pub returns-then-h-moved_total : goal.returns-then-h-moved_total
returns-then-h-moved_total c = sym (told (goal.at.returns-then-h-moved_total c).After-moved_total ∙ simp (lt-ltb _ _ c.if-h-moved_total.true))

pub returns : goal.returns
returns c = sym (told (goal.at.returns c).After-moved_total ∙ simp (le-ltb _ _ c.if-h-moved_total.false))
