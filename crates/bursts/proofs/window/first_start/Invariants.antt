-- `bursts::window::first_start` meets its contract. The invariant: no start before d serves, and what is held and needed there. Assumes nothing.
use Rattle.std.proofs.Common.{◌≡◌, ◌+◌}
use Rattle.words.specs.Bits.{bit, ones}
use Rattle.bursts.specs.Working.{NoStart}
use Rattle.bursts.proofs.window.first_start.Given as goal

abbrev pub invariant-loop-d : goal.invariant-loop-d
invariant-loop-d l =
    (l.have ≡ l.c + ones (bit l.e) l.d) × (l.need ≡ l.m + ones (bit l.x) l.d) × NoStart (bit l.x) (bit l.e) l.c l.m l.d
