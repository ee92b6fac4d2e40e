-- `words::block::block_select` meets its contract. The invariant: of the first i words, which hold `sum` of v, those before word j are passed, with
-- `passed` of v. Assumes nothing.
use Rattle.std.proofs.Common.{◌≡◌, ◌*◌, ◌≤◌}
use Rattle.words.specs.Bits.{bit_at}
use Rattle.words.specs.Strip.{as_bit, rank_of}
use Rattle.words.proofs.BlockSelectLaws.{Passed}
use Rattle.words.proofs.block.block_select.Given as goal

abbrev pub invariant-loop-i : goal.invariant-loop-i
invariant-loop-i l = (l.i ≤ 7) × (l.sum ≡ rank_of (bit_at l.block) (as_bit l.v) (64 * l.i)) × Passed (bit_at l.block) (as_bit l.v) l.k l.i l.j l.passed
