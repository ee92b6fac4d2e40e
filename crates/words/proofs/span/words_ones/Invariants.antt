-- `words::span::words_ones` meets its contract. The invariant: `sum` is the ones of the words passed. Assumes nothing.
use Rattle.std.proofs.Common.{◌≡◌, ◌*◌}
use Rattle.words.specs.Bits.{bit_at, ones}
use Rattle.words.proofs.span.words_ones.Given as goal

abbrev pub invariant-loop-x : goal.invariant-loop-x
invariant-loop-x l = l.sum ≡ ones (bit_at l.words) (64 * l.x-index)
