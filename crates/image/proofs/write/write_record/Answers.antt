-- `image::write::write_record` meets its contract. Assumes nothing.
use mathlib.Core.Path.{sym, ap}
use Prim.Native.Nat.{ℕ, ◌+◌}
use native.Mathlib.Omega.{arith}
use lib.Seq.{sets}
use Rattle.words.specs.Strip.{strip_of}
use Rattle.words.proofs.StripLaws.{strip_length, strip_le}
use Rattle.image.specs.Kinds.{kind1}
use Rattle.image.specs.Layout.{head_bytes, entries_bytes, zeros}
use Rattle.image.proofs.KindLaws.{kind1_fits, kind1_unpadded}
use Rattle.image.proofs.WriteLaws.{record_stored}
use Rattle.image.proofs.write.write_record.Goals as goal

pub returns : goal.returns
returns c =
    let start = c.bits_start in
    let a = c.args in
    record_stored kind1 kind1_fits (strip_of a.words.now a.n) a.n a.label c.write_superblocks-sum.result a.at (a.at + start.result)
    a.image.now
    c.write_superblocks-sum.new.image c.write_superblocks-sum.new.image c.put_le.new.s c.put_le-2.new.s c.put_le-3.new.s c.put_le-4.new.s
    (strip_length a.words.now a.n) (strip_le a.words.now a.n) (omega (arith, start.ensures.0)) c.write_superblocks-sum.ensures
    (ap (λ (m : ℕ). sets c.write_superblocks-sum.new.image (a.at + head_bytes + entries_bytes kind1 a.n) (zeros m)) (sym (kind1_unpadded a.n)))
    c.put_le.ensures c.put_le-2.ensures c.put_le-3.ensures c.put_le-4.ensures
