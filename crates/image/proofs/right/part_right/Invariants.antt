-- `image::right::part_right` meets its contract. The invariant: pad and padding are zero, the entries before superblock e are right, and `sum` is the
-- ones before it. Assumes nothing.
use Rattle.image.specs.Kinds.{kind1}
use Rattle.image.proofs.RightLaws.{SuperblocksRead}
use Rattle.image.proofs.right.part_right.Given as goal

abbrev pub invariant-loop-e : goal.invariant-loop-e
invariant-loop-e l = SuperblocksRead kind1 l.part l.n l.e l.sum
