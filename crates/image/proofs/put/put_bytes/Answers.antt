-- `image::put::put_bytes` meets its contract. Assumes nothing.
use Rattle.std.proofs.Common.{arith}
use Rattle.image.proofs.PutLaws.{part_stored}
use Rattle.image.proofs.put.put_bytes.Goals as goal

pub returns : goal.returns
returns c = part_stored c.args.s.now c.args.b.now _ c.args.at _ c.requires (omega arith) c.copy_from_slice.ensures.after
