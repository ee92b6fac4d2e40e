-- `bursts::window::Windows::search_words` meets its contract. The invariant: no start before word j serves, and what the window there holds. Assumes nothing.
use Prim.Native.Nat.{◌*◌, ◌≤◌}
use Rattle.bursts.specs.Working.{Passed}
use Rattle.bursts.proofs.window.Windows.search_words.Given as goal

abbrev pub invariant-loop-j : goal.invariant-loop-j
invariant-loop-j l = (l.from ≤ l.j) × (l.j ≤ l.to) × Passed l.self.words.now l.self.w l.self.m (64 * l.from) (64 * l.j) l.count
