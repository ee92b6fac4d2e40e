-- `image::write::put_cut_block` meets its contract. The invariant: the words before j are stored and counted. Assumes nothing.
use Rattle.std.proofs.Common.{◌≡◌, ℕ, ◌+◌, ◌*◌, refl, ap, ◌∙◌, arith}
use Rattle.words.specs.Strip.{cell, strip_of}
use Rattle.words.proofs.StripLaws.{strip_le}
use Rattle.image.specs.Writing.{block_cells, BitsPut}
use Rattle.image.proofs.WriteLaws.{bits_none, bits_length, bits_le, word_more}
use Rattle.image.proofs.write.put_cut_block.Goals as goal
use Rattle.image.proofs.write.put_cut_block.Goals.{After-ones_of-sum}

pub loop-j-init : goal.loop-j-init
loop-j-init c = (omega arith, refl, bits_none _ _ _)

-- one word more
next : (c : After-ones_of-sum)
    → let l = c.loop-j in
    let a = c.args in
    BitsPut (block_cells (strip_of a.words.now a.n) a.b) (8 * (l.j + 1)) a.at a.bytes.now c.put_word.new.s (l.sum + c.ones_of-sum.result)
next c =
    let l = c.loop-j in
    let a = c.args in
    let t = strip_of a.words.now a.n in
    let place : (p : ℕ) → 64 * (8 * a.b + l.j) + p ≡ 512 * a.b + (64 * l.j + p) = λ p. omega arith in
    word_more (block_cells t a.b) a.at a.bytes.now l.bytes _ l.j _ l.sum _ l.invariant.2 c.put_word.ensures
    (λ p h. c.strip_word-x.ensures p h ∙ ap (cell t) (place p)) c.ones_of-sum.ensures

pub overflow_add-sum : goal.overflow_add-sum
overflow_add-sum c =
    let l = c.loop-j in
    let a = c.args in
    let b = bits_le _ _ _ _ (8 * (l.j + 1)) _ (next (goal.at.overflow_add-sum c).After-ones_of-sum) (λ p. strip_le a.words.now a.n (512 * a.b + p)) in
    omega (arith, b)

pub loop-j-preserved : goal.loop-j-preserved
loop-j-preserved c = (omega arith, bits_length _ _ _ _ _ _ (next (goal.at.loop-j-preserved c).After-ones_of-sum), next (goal.at.loop-j-preserved c).After-ones_of-sum)
