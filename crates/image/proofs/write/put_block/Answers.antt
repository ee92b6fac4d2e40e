-- `image::write::put_block` meets its contract. The invariant: the words before j are stored and counted. Assumes nothing.
use mathlib.Core.Path.{refl, sym}
use Prim.Native.Nat.{◌+◌, ◌*◌}
use native.Mathlib.Omega.{arith}
use Rattle.words.specs.Bits.{bit_at}
use Rattle.words.proofs.WordLaws.{word_bit, bit_at_le}
use Rattle.image.specs.Writing.{BitsPut}
use Rattle.image.proofs.WriteLaws.{bits_none, bits_length, bits_le, word_more}
use Rattle.image.proofs.write.put_block.Goals as goal
use Rattle.image.proofs.write.put_block.Goals.{After-ones_of-sum}

pub loop-j-init : goal.loop-j-init
loop-j-init c = (omega arith, refl, bits_none _ _ _)

-- one word more
next : (c : After-ones_of-sum)
    → let l = c.loop-j in
    let a = c.args in
    BitsPut (bit_at a.block) (8 * (l.j + 1)) a.at a.bytes.now c.put_word.new.s (l.sum + c.ones_of-sum.result)
next c =
    let l = c.loop-j in
    let a = c.args in
    word_more (bit_at a.block) a.at a.bytes.now l.bytes _ l.j _ l.sum _ l.invariant.2 c.put_word.ensures
    (λ p h. sym (word_bit a.block l.j p h)) c.ones_of-sum.ensures

pub overflow_add-sum : goal.overflow_add-sum
overflow_add-sum c =
    let l = c.loop-j in
    let a = c.args in
    let b = bits_le _ _ _ _ (8 * (l.j + 1)) (l.sum + c.ones_of-sum.result) (next (goal.at.overflow_add-sum c).After-ones_of-sum) (bit_at_le a.block) in
    omega (arith, b)

pub loop-j-preserved : goal.loop-j-preserved
loop-j-preserved c = (omega arith, bits_length _ _ _ _ _ _ (next (goal.at.loop-j-preserved c).After-ones_of-sum), next (goal.at.loop-j-preserved c).After-ones_of-sum)
