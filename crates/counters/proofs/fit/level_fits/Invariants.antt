-- `counters::fit::level_fits` meets its contract. The invariant: the nodes before j are as laid. Assumes nothing.
use Rattle.std.proofs.Common.{◌≤◌}
use Rattle.counters.specs.Building.{child_holds, LevelFrom}
use Rattle.counters.proofs.fit.level_fits.Given as goal

abbrev pub invariant-loop-j : goal.invariant-loop-j
invariant-loop-j l = (l.j ≤ l.count) × LevelFrom (child_holds l.words l.counters l.t l.below) l.counters l.level.start l.j
