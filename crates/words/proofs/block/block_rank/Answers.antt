-- `words::block::block_rank` meets its contract. The invariant: `sum` is the ones below m in the words before j. Assumes nothing.
use Rattle.std.proofs.Common.{◌≡◌, ℕ, ◌+◌, ◌*◌, min, get_or, sym, ap, ◌∙◌, arith}
use lib.Bits.{bit_and}
use Rattle.words.specs.Bits.{bit, bit_at, ones}
use Rattle.words.proofs.Sums.{sum_zero, ones_le}
use Rattle.words.proofs.WordLaws.{bit_at_le}
use Rattle.words.proofs.BlockLaws.{masked_word}
use Rattle.words.proofs.block.block_rank.Goals as goal
use Rattle.words.proofs.block.block_rank.Goals.{After-ones_of-sum}

pub loop-j-init : goal.loop-j-init
loop-j-init c =
    let a = c.args in
    let e : min (64 * 0) a.m ≡ 0 = omega arith in
    (omega arith, sym (ap (ones (bit_at a.block.now)) e ∙ sum_zero (bit_at a.block.now)))

-- the ones with those of word j
next : (c : After-ones_of-sum)
    → c.loop-j.sum + c.ones_of-sum.result
    ≡ ones (bit_at c.args.block.now)
    (min (64 * (c.loop-j.j + 1)) c.args.m)
next c =
    let a = c.args in
    let loop = c.loop-j in
    let mask = ap (λ (n : ℕ). ones (bit (bit_and (get_or a.block.now loop.j 0) n)) 64) c.word_mask.ensures in
    omega (arith, loop.invariant.1, c.ones_of-sum.ensures, mask, masked_word a.block.now a.m loop.j)

pub overflow_add-sum : goal.overflow_add-sum
overflow_add-sum c =
    let a = c.args in
    let loop = c.loop-j in
    omega (arith, next (goal.at.overflow_add-sum c).After-ones_of-sum, ones_le (bit_at a.block.now) (min (64 * (loop.j + 1)) a.m) (bit_at_le a.block.now))

pub loop-j-preserved : goal.loop-j-preserved
loop-j-preserved c = (omega arith, next (goal.at.loop-j-preserved c).After-ones_of-sum)
