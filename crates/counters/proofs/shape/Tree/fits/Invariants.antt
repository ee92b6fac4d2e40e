-- `counters::shape::Tree::fits` meets its contract. The invariant: the levels 1 to t fit. Assumes nothing.
use Rattle.std.proofs.Common.{◌≡◌}
use Rattle.counters.specs.Tree.{height}
use Rattle.counters.proofs.BuildLaws.{Upto}
use Rattle.counters.proofs.shape.Tree.fits.Given as goal

abbrev pub invariant-loop-t : goal.invariant-loop-t
invariant-loop-t l = (l.levels ≡ height l.self.blocks) × Upto l.self.words.now l.self.blocks l.self.counters.now l.t l.level
