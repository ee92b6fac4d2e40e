-- `counters::build::build_counters` meets its contract. The invariant: the levels 1 to t are laid. Assumes nothing.
use Rattle.std.proofs.Common.{◌≡◌}
use Rattle.counters.specs.Tree.{height}
use Rattle.counters.proofs.BuildLaws.{Upto}
use Rattle.counters.proofs.build.build_counters.Given as goal

abbrev pub invariant-loop-t : goal.invariant-loop-t
invariant-loop-t l = (l.levels ≡ height l.blocks) × Upto l.words l.blocks l.counters l.t l.level
