-- `words::scan::last_in_words` meets its contract. The invariant: no position of the words passed holds v. Assumes nothing.
use Rattle.std.proofs.Common.{◌*◌, ◌≤◌}
use Rattle.words.specs.Bits.{bit_at}
use Rattle.words.specs.Strip.{as_bit}
use Rattle.words.proofs.ScanLaws.{Clear}
use Rattle.words.proofs.scan.last_in_words.Given as goal

abbrev pub invariant-loop-j : goal.invariant-loop-j
invariant-loop-j l = (l.j ≤ l.to) × Clear (bit_at l.words) (as_bit l.v) (64 * l.j) (64 * l.to)
