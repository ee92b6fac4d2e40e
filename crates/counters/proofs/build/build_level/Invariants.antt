-- `counters::build::build_level` meets its contract. The invariant: the nodes before j are laid, and what stands past the level stays. Assumes nothing.
use Rattle.std.proofs.Common.{◌≡◌, ℕ, ◌≤◌, length, get_or}
use Rattle.counters.specs.Building.{child_holds, LevelFrom}
use Rattle.counters.proofs.build.build_level.Given as goal

abbrev pub invariant-loop-j : goal.invariant-loop-j
invariant-loop-j l = (length l.counters ≡ length l.initial.counters)
    × (l.j ≤ l.count)
    × LevelFrom (child_holds l.words l.initial.counters l.t l.below) l.counters l.level.start l.j
    × ((x : ℕ) → l.below.start ≤ x → get_or l.counters x 0 ≡ get_or l.initial.counters x 0)
