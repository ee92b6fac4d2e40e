-- `bursts::window::leaving_ones` meets its contract. The invariant: the numbers before i are the ones of the runs. Assumes nothing.
use mathlib.Core.Path.{◌≡◌}
use Prim.Native.Nat.{ℕ, ◌*◌, ◌≤◌, ◌<◌}
use lib.ListN.{length, get_or}
use Rattle.bursts.specs.Working.{run_ones}
use Rattle.bursts.proofs.window.leaving_ones.Given as goal

abbrev pub invariant-loop-i : goal.invariant-loop-i
invariant-loop-i l = (length l.counts ≡ 8) × (l.i ≤ 8) × ((d : ℕ) → d < l.i → get_or l.counts d 0 ≡ run_ones l.words (64 * l.j) d)
