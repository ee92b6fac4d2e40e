-- `image::write::put_zero_block` meets its contract. Assumes nothing.
use Rattle.std.proofs.Common.{arith, replicate, rules}
use Rattle.image.proofs.PutLaws.{part_stored}
use Rattle.image.proofs.WriteLaws.{zeros_put}
use Rattle.image.proofs.write.put_zero_block.Goals as goal

pub returns : goal.returns
returns c =
    let a = c.args in
    zeros_put a.at 64 a.bytes.now _ (part_stored a.bytes.now (replicate 64 0) _ a.at _ c.requires (omega arith) (search rules))
