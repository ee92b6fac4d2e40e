-- `image::clearing::put_header` meets its contract. Assumes nothing.
use Rattle.image.specs.Kinds.{kind1}
use Rattle.image.proofs.WriteLaws.{header_stored}
use Rattle.image.proofs.clearing.put_header.Goals as goal

pub returns : goal.returns
returns c =
    header_stored kind1 c.args.image.now c.put_le.new.s c.put_le-2.new.s c.put_word.new.s c.args.first
    c.requires c.put_le.ensures c.put_le-2.ensures c.put_word.ensures
