-- `counters::shape::counter_count` meets its contract. The invariant: `count` is the nodes of level t, and `sum` those of the levels 1 to t.
-- Assumes nothing.
use Rattle.std.proofs.Common.{◌≡◌, ◌*◌, ◌≤◌}
use Rattle.counters.specs.Tree.{nodes, total}
use Rattle.counters.proofs.shape.counter_count.Given as goal

abbrev pub invariant-loop-t : goal.invariant-loop-t
invariant-loop-t l = (l.t ≤ l.levels) × (l.count ≡ nodes l.blocks l.t) × (l.sum ≡ total l.blocks l.t) × (l.count ≤ 36028797018963968) × (l.sum ≤ l.t * 36028797018963968)
