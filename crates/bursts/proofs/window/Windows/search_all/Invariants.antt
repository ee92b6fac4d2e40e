-- `bursts::window::Windows::search_all` meets its contract. The invariant: no start before word 8 b serves, and what the window there holds. Assumes nothing.
use Rattle.std.proofs.Common.{◌*◌, ◌/◌, ◌≤◌}
use Rattle.bursts.specs.Working.{Passed}
use Rattle.bursts.proofs.window.Windows.search_all.Given as goal

abbrev pub invariant-loop-b : goal.invariant-loop-b
invariant-loop-b l = (l.b ≤ l.to / 8) × Passed l.self.words.now l.self.w l.self.m 0 (64 * (8 * l.b)) l.count
