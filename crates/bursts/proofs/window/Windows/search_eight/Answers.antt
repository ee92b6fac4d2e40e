-- `bursts::window::Windows::search_eight` meets its contract. The invariant: what is held and needed past i words, and no start in them unless a bound was
-- reached. Assumes nothing.
use Rattle.std.proofs.Common.{◌+◌, ◌*◌, inl, inr, arith}
use Rattle.bursts.proofs.BoundLaws.{have_le, need_le, bounded_more, bounded_le, bounded_done}
use Rattle.bursts.proofs.window.Windows.search_eight.Goals as goal
use Rattle.bursts.proofs.window.Windows.search_eight.Goals.{then-need-have, else-need-have}

pub overflow_add-have : goal.overflow_add-have
overflow_add-have c = omega (arith, have_le c.loop-i.invariant.1 c.leaving_ones-leaves.ensures c.entering_ones-enters.ensures c.loop-i-test.true)

pub overflow_add-need : goal.overflow_add-need
overflow_add-need c = omega (arith, need_le c.loop-i.invariant.1 c.leaving_ones-leaves.ensures c.entering_ones-enters.ensures c.loop-i-test.true)

pub loop-i-preserved : goal.loop-i-preserved
loop-i-preserved c = (
  omega arith,
  bounded_more c.loop-i.invariant.1 c.leaving_ones-leaves.ensures c.entering_ones-enters.ensures
      c.loop-i-test.true c.if-need-have.reached (elim c.if-need-have.branch [ then-need-have w ↦ inl w.reached-is | else-need-have w ↦ inr (w.if-need-have.false, w.reached-is) ]),
)

pub overflow_add-result : goal.overflow_add-result
overflow_add-result c = omega (arith, (bounded_le c.loop-i.invariant.1).0)

pub overflow_sub-result : goal.overflow_sub-result
overflow_sub-result c = (bounded_le c.loop-i.invariant.1).1

pub returns : goal.returns
returns c = bounded_done c.loop-i.invariant.1 (64 * (c.args.j + 8)) (omega arith) c.if-reached.false
