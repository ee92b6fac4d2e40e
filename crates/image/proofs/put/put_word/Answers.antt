-- `image::put::put_word` meets its contract. Assumes nothing.
use Rattle.std.proofs.Common.{◌∙◌, arith}
use Rattle.image.proofs.PutLaws.{word_lent}
use Rattle.image.proofs.put.put_word.Goals as goal

pub returns : goal.returns
returns c =
    let a = c.args in
    word_lent a.s.now _ a.at _ a.v c.requires (omega arith) (c.copy_from_slice.ensures.after ∙ c.to_le_bytes.ensures)
