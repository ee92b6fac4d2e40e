-- `image::write::put_superblock` meets its contract. The invariant: the blocks before j are stored and counted. Assumes nothing.
use mathlib.Core.Path.{◌≡◌, refl, ap}
use Prim.Native.Nat.{ℕ, ◌+◌, ◌*◌}
use native.Mathlib.Omega.{arith}
use lib.ListN.{set}
use Rattle.words.specs.Strip.{cell, strip_of}
use Rattle.words.proofs.StripLaws.{strip_le}
use Rattle.image.specs.Kinds.{kind1}
use Rattle.image.specs.Writing.{superblock_cells}
use Rattle.image.proofs.WriteLaws.{Blocks, blocks_none, blocks_more, bits_ext, bits_length, bits_le}
use Rattle.image.proofs.write.put_superblock.Goals as goal
use Rattle.image.proofs.write.put_superblock.Goals.{After-slice_known-in-loop-j-1}

pub loop-j-init : goal.loop-j-init
loop-j-init c = (refl, blocks_none kind1 _ _ _ _ refl)

-- one block more
next : (c : After-slice_known-in-loop-j-1)
    → let l = c.loop-j in
    let a = c.args in
    Blocks kind1 (superblock_cells kind1 (strip_of a.words.now a.n) a.e) a.at a.bytes.now c.put_strip_block-sum.new.bytes
    (set l.counts l.j (l.sum + c.put_strip_block-sum.result)) (l.sum + c.put_strip_block-sum.result) (l.j + 1)
next c =
    let l = c.loop-j in
    let a = c.args in
    let t = strip_of a.words.now a.n in
    let g = superblock_cells kind1 t a.e in
    let place : (p : ℕ) → 512 * (8 * a.e + l.j) + p ≡ 4096 * a.e + (8 * (64 * l.j) + p) = λ p. omega arith in
    blocks_more kind1 g a.at a.bytes.now l.bytes _ l.counts l.sum l.j _ l.invariant.1 c.loop-j-test.true
    (bits_ext (λ p. g (8 * (64 * l.j) + p)) _ _ _ _ 64 _ c.put_strip_block-sum.ensures (λ p h. ap (cell t) (place p)))

pub overflow_add-sum : goal.overflow_add-sum
overflow_add-sum c =
    let l = c.loop-j in
    let a = c.args in
    let b = bits_le _ _ _ _ (64 * (l.j + 1)) _ (next (goal.at.overflow_add-sum c).After-slice_known-in-loop-j-1).put (λ p. strip_le a.words.now a.n (4096 * a.e + p)) in
    omega (arith, b)

pub loop-j-preserved : goal.loop-j-preserved
loop-j-preserved c = (bits_length _ _ _ _ _ _ (next (goal.at.loop-j-preserved c).After-slice_known-in-loop-j-1).put, next (goal.at.loop-j-preserved c).After-slice_known-in-loop-j-1)
