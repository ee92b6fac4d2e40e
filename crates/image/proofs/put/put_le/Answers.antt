-- `image::put::put_le` meets its contract. The invariant: what is still to be stored makes the whole. Assumes nothing.
use Rattle.std.proofs.Common.{◌+◌, ◌-◌, arith}
use Rattle.image.specs.Bytes.{le}
use Rattle.image.proofs.PutLaws.{part_stored, length_le, lent_length, storing_none, storing_more, storing_done}
use Rattle.image.proofs.put.put_le.Goals as goal

pub loop-byte-init : goal.loop-byte-init
loop-byte-init c = storing_none _ _ _

pub loop-byte-preserved : goal.loop-byte-preserved
loop-byte-preserved c =
    let a = c.args in
    let l = c.loop-byte in
    let e = lent_length a.s.now a.at (a.at + a.n - a.at) a.n c.requires (omega arith) in
    storing_more _ _ _ l.byte-items l.byte-index l.rest _ l.invariant (omega (arith, e, c.loop-byte-test.true)) c.low_byte.ensures

pub returns : goal.returns
returns c =
    let a = c.args in
    let l = c.loop-byte in
    let e = lent_length a.s.now a.at (a.at + a.n - a.at) a.n c.requires (omega arith) in
    part_stored a.s.now (le a.n a.v) l.byte-items a.at _ (omega (arith, length_le a.n a.v)) (omega (arith, length_le a.n a.v))
    (storing_done _ a.n a.v l.byte-items l.byte-index l.rest l.invariant e (omega (arith, e, c.loop-byte-test.false)))
