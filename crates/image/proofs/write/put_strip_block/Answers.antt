-- `image::write::put_strip_block` meets its contract. Assumes nothing.
use Rattle.image.proofs.WriteLaws.{bits_ext, block_cell, block_cell_past}
use Rattle.image.proofs.write.put_strip_block.Goals as goal

pub returns-then-b-n : goal.returns-then-b-n
returns-then-b-n c =
    let a = c.args in
    bits_ext _ _ _ _ _ 64 _ c.put_block.ensures (λ p l. block_cell a.words.now a.n a.b _ p c.block_at.ensures c.if-b-n.true l)

pub returns-then-n-b : goal.returns-then-n-b
returns-then-n-b c =
    let a = c.args in
    bits_ext _ _ _ _ _ 64 _ c.put_zero_block.ensures (λ p l. block_cell_past a.words.now a.n a.b p c.if-n-b.true)
