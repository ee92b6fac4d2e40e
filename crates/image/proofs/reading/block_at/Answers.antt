-- `image::reading::block_at` meets its contract. The invariant: the words below j are the numbers of their eight bytes. Assumes nothing.
use native.Mathlib.Omega.{arith}
use Rattle.image.proofs.PartLaws.{words_bit}
use Rattle.image.proofs.reading.block_at.Goals as goal

pub returns : goal.returns
returns c =
    let l = c.loop-j in
    let a = c.args in
    let small = c.shared_slice_known-1 in
    (l.invariant.0, words_bit a.part.now l.block a.at (λ i. omega (arith, small.given i)) (λ d h. l.invariant.2 d (omega arith)))
