-- `bursts::window::Windows::search_eight` meets its contract. The invariant: what is held and needed past i words, and no start in them unless a bound was reached.
-- Assumes nothing.
use Prim.Native.Nat.{◌*◌, ◌≤◌}
use Rattle.bursts.proofs.BoundLaws.{Bounded}
use Rattle.bursts.proofs.window.Windows.search_eight.Given as goal

abbrev pub invariant-loop-i : goal.invariant-loop-i
invariant-loop-i l = (l.i ≤ 8) × Bounded l.self.words.now l.self.w l.self.m (64 * l.j) l.have l.need l.reached l.i
