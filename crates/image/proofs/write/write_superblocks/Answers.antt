-- `image::write::write_superblocks` meets its contract. The invariant: the superblocks before e are stored. Assumes nothing.
use mathlib.Core.Path.{refl}
use native.Mathlib.Omega.{arith}
use Rattle.words.specs.Strip.{cell, strip_of}
use Rattle.image.specs.Kinds.{kind1}
use Rattle.words.proofs.StripLaws.{strip_le}
use Rattle.image.proofs.KindLaws.{kind1_fits}
use Rattle.image.proofs.WriteLaws.{row_none, row_more, row_length_lem, row_le}
use Rattle.image.proofs.write.write_superblocks.Goals as goal

pub loop-e-init : goal.loop-e-init
loop-e-init c = (omega arith, refl, row_none kind1 _ _ _ _)

pub write_superblock-sum-requires : goal.write_superblock-sum-requires
write_superblock-sum-requires c =
    let l = c.loop-e in
    let a = c.args in
    let ones = row_le kind1 _ _ _ _ l.e l.image l.sum l.invariant.2 (strip_le a.words.now a.n) in
    omega (arith, ones)

pub loop-e-preserved : goal.loop-e-preserved
loop-e-preserved c =
    let l = c.loop-e in
    let a = c.args in
    let row = row_more kind1 (cell (strip_of a.words.now a.n)) a.a a.b a.image.now kind1_fits l.e l.image _ l.sum _ l.invariant.2
    c.write_superblock-sum.ensures (omega arith) in
    (omega arith, row_length_lem kind1 _ _ _ _ _ _ _ row, row)
