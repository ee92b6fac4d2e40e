-- `words::block::word_count` meets its contract. Assumes nothing.
use Rattle.std.proofs.Common.{ℕ, ◌∙◌, le_refl, arith}
use Rattle.words.specs.Bits.{bit}
use Rattle.words.specs.Strip.{as_bit}
use Rattle.words.proofs.Sums.{ones_le}
use Rattle.words.proofs.BitLaws.{bit_le}
use Rattle.words.proofs.SelectLaws.{matched_rank}
use Rattle.words.proofs.block.word_count.Goals as goal

pub returns : goal.returns
returns c =
    let a = c.args in
    let x : ℕ = c.matches.result in (
      omega (arith, ones_le (bit x) 64 (bit_le x), c.ones_of.ensures),
      c.ones_of.ensures ∙ matched_rank a.x (as_bit a.v) x 64 c.matches.ensures (le_refl 64),
    )
