-- `counters::build::children_ones` meets its contract. The invariant: the elements below c hold the ones of their children. Assumes nothing.
use Rattle.std.proofs.Common.{◌≡◌, ℕ, ◌+◌, ◌*◌, ◌<◌, ◌≤◌, length, get_or}
use Rattle.counters.specs.Building.{child_holds}
use Rattle.counters.proofs.build.children_ones.Given as goal

abbrev pub invariant-loop-c : goal.invariant-loop-c
invariant-loop-c l = (length l.children ≡ 64) × (l.c ≤ 64)
    × ((d : ℕ) → d < l.c → get_or l.children d 0 ≡ child_holds l.words l.counters l.t l.below (64 * l.j + d))
