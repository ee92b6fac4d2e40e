-- `words::block::block_rank` meets its contract. The invariant: `sum` is the ones below m in the words before j. Assumes nothing.
use Rattle.std.proofs.Common.{◌≡◌, ◌*◌, ◌≤◌, min}
use Rattle.words.specs.Bits.{bit_at, ones}
use Rattle.words.proofs.block.block_rank.Given as goal

abbrev pub invariant-loop-j : goal.invariant-loop-j
invariant-loop-j l = (l.j ≤ 8) × (l.sum ≡ ones (bit_at l.block) (min (64 * l.j) l.m))
