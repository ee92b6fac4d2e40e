-- `counters::change::fill` meets its contract. Assumes nothing.
use Rattle.std.proofs.Common.{◌≡◌, ℕ, eqb, [], ◌∷◌, length, ap, ◌∙◌, subst, arith, ltb-false}
use Rattle.words.specs.Calls.{value_line, within_line, span_line}
use Rattle.words.specs.Strip.{as_bit}
use Rattle.words.specs.Working.{RangePut}
use Rattle.words.proofs.WordLaws.{as_bit_of}
use Rattle.words.proofs.CheckLaws.{unless_passed}
use Rattle.counters.specs.Promises.{stays}
use Rattle.counters.specs.Calls.{relaid, fill_table}
use Rattle.counters.proofs.ChangeLaws.{fill_strip}
use Rattle.counters.proofs.PromiseLaws.{tree_over, PassedRecord, record_passed}
use Rattle.counters.proofs.change.fill.Goals as goal
use Rattle.counters.proofs.change.fill.Goals.{In_ok-check_fill}

-- what the checks leave
passed : (c : In_ok-check_fill)
    → let a = c.args in
    PassedRecord a.h a.words.now a.counters.now (value_line a.v ∷ span_line a.a a.b ∷ within_line a.h.length a.b ∷ [])
passed c =
    let a = c.args in
    record_passed a.h a.words.now a.counters.now _ c.check_fill.result c.check_fill.ensures c.in_ok-check_fill.was

pub put_positions-requires : goal.put_positions-requires
put_positions-requires c =
    let a = c.args in
    let p = passed (goal.at.put_positions-requires c).In_ok-check_fill in
    let z = p.known in
    (ltb-false a.b a.a p.own.1.0, omega (arith, ltb-false a.h.length a.b p.own.1.1.0, z.words, z.step, z.long), omega (arith, z.words, z.most))

pub rebuild-requires : goal.rebuild-requires
rebuild-requires c =
    let z = (passed (goal.at.rebuild-requires c).In_ok-check_fill).known in
    (z.long, z.most, omega (arith, z.step), omega (arith, c.put_positions.ensures.long, z.words, z.step), tree_over z)

pub returns : goal.returns
returns c =
    let a = c.args in
    let put = c.put_positions in
    let p = passed (goal.at.returns c).In_ok-check_fill in
    let bit : as_bit (eqb a.v 1) ≡ a.v = as_bit_of a.v (ltb-false 1 a.v p.own.0) in
    c.rebuild.ensures
    ∙ ap (relaid a.h.capacity)
    (fill_strip a.words.now put.new.words a.h.length a.a a.b a.v (subst (λ (b : ℕ). RangePut a.words.now a.a a.b b put.new.words) bit put.ensures))
    ∙ unless_passed (fill_table a.h (length a.words.now) (length a.counters.now) a.a a.b a.v) c.check_fill.result
    (stays a.h a.words.now a.counters.now) _ c.check_fill.ensures c.in_ok-check_fill.was
