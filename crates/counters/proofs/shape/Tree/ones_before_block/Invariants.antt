-- `counters::shape::Tree::ones_before_block` meets its contract. The invariant is `Climbed` after t levels. Assumes nothing.
use Rattle.std.proofs.Common.{◌≤◌}
use Rattle.counters.proofs.RankLaws.{Climbed}
use Rattle.counters.proofs.shape.Tree.ones_before_block.Given as goal

abbrev pub invariant-loop-t : goal.invariant-loop-t
invariant-loop-t l = (l.t ≤ l.levels) × Climbed l.self.blocks l.block l.self.counters.now l.t l.climb l.sum
