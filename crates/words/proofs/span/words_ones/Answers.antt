-- `words::span::words_ones` meets its contract. Assumes nothing.
use Rattle.std.proofs.Common.{◌≡◌, ◌+◌, ◌*◌, sym, ap, le_refl, arith}
use Rattle.words.specs.Bits.{bit_at, ones}
use Rattle.words.proofs.Sums.{sum_zero, ones_le}
use Rattle.words.proofs.WordLaws.{bit_at_le, word_ones}
use Rattle.words.proofs.span.words_ones.Goals as goal
use Rattle.words.proofs.span.words_ones.Goals.{After-ones_of-sum}

pub loop-x-init : goal.loop-x-init
loop-x-init c = sym (sum_zero (bit_at c.args.words.now))

-- the ones with those of the next word
next : (c : After-ones_of-sum)
    → c.loop-x.sum + c.ones_of-sum.result ≡ ones (bit_at c.args.words.now) (64 * (c.loop-x.x-index + 1))
next c =
    let ws = c.args.words.now in
    let j = c.loop-x.x-index in
    let e : 64 * j + 64 ≡ 64 * (j + 1) = omega arith in
    omega (arith, word_ones ws j 64 (le_refl 64), ap (ones (bit_at ws)) e, c.ones_of-sum.ensures, c.loop-x.invariant)

pub overflow_add-sum : goal.overflow_add-sum
overflow_add-sum c =
    let ws = c.args.words.now in
    omega (arith, next (goal.at.overflow_add-sum c).After-ones_of-sum, ones_le (bit_at ws) (64 * (c.loop-x.x-index + 1)) (bit_at_le ws))

pub loop-x-preserved : goal.loop-x-preserved
loop-x-preserved c = next (goal.at.loop-x-preserved c).After-ones_of-sum
