-- `image::right::block_counts` meets its contract. The invariant: the blocks before j are counted, and `sum` is their ones. Assumes nothing.
use Rattle.image.specs.Bytes.{bit_from}
use Rattle.image.specs.Kinds.{kind1}
use Rattle.image.proofs.CountLaws.{Counting}
use Rattle.image.proofs.right.block_counts.Given as goal

abbrev pub invariant-loop-j : goal.invariant-loop-j
invariant-loop-j l = Counting kind1 (bit_from l.part l.at) l.counts l.sum l.j
