-- `bursts::window::Windows::try_eight` meets its contract. The invariant: no start before word j + i serves, and what the window there holds. Assumes nothing.
use Prim.Native.Nat.{◌+◌, ◌*◌, ◌≤◌}
use Rattle.bursts.specs.Working.{Passed}
use Rattle.bursts.proofs.window.Windows.try_eight.Given as goal

abbrev pub invariant-loop-i : goal.invariant-loop-i
invariant-loop-i l = (l.i ≤ 8) × Passed l.self.words.now l.self.w l.self.m (64 * l.j) (64 * (l.j + l.i)) l.count
