-- `image::reading::Record::padding_zero` meets its contract. The invariant: the bits from n on, before word w, are zero. Assumes nothing.
use Rattle.std.proofs.Common.{◌≡◌, ℕ, ◌*◌, ◌≤◌, ◌<◌}
use Rattle.image.specs.Bytes.{bit_from}
use Rattle.image.proofs.reading.Record.padding_zero.Given as goal

abbrev pub invariant-loop-w : goal.invariant-loop-w
invariant-loop-w l = (q : ℕ) → l.n ≤ q → q < 64 * l.w → bit_from l.part l.start q ≡ 0
