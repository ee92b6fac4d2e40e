-- `counters::shape::counter_count` meets its contract. The invariant: `count` is the nodes of level t, and `sum` those of the levels 1 to t.
-- Assumes nothing.
use Rattle.std.proofs.Common.{ℕ, ◌/◌, ◌≤◌, arith}
use Rattle.counters.proofs.TreeLaws.{nodes_zero, nodes_more, total_zero, total_more, height_le}
use Rattle.counters.proofs.shape.counter_count.Goals as goal
use Rattle.counters.proofs.shape.counter_count.Goals.{At-loop-t}

pub loop-t-init : goal.loop-t-init
loop-t-init c = omega (arith, nodes_zero (c.args.capacity / 512), total_zero (c.args.capacity / 512), c.ranges.capacity.fits)

-- at most three levels
few : (c : At-loop-t) → c.height_of-levels.result ≤ 3
few c =
    omega (arith, c.height_of-levels.ensures, height_le (c.args.capacity / 512))

pub overflow_add-sum : goal.overflow_add-sum
overflow_add-sum c = omega (arith, few (goal.at.overflow_add-sum c).At-loop-t)

pub loop-t-preserved : goal.loop-t-preserved
loop-t-preserved c =
    let n : ℕ = c.args.capacity / 512 in
    let t : ℕ = c.loop-t.t in
    (omega arith, omega (arith, nodes_more n t), omega (arith, nodes_more n t, total_more n t), omega arith, omega arith)

pub overflow_mul-result : goal.overflow_mul-result
overflow_mul-result c = omega (arith, few (goal.at.overflow_mul-result c).At-loop-t)
