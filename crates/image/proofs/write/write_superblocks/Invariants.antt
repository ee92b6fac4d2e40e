-- `image::write::write_superblocks` meets its contract. The invariant: the superblocks before e are stored. Assumes nothing.
use mathlib.Core.Path.{◌≡◌}
use Prim.Native.Nat.{◌≤◌}
use lib.ListN.{length}
use Rattle.words.specs.Strip.{cell, strip_of}
use Rattle.image.specs.Kinds.{kind1}
use Rattle.image.specs.Layout.{superblocks_of}
use Rattle.image.specs.Writing.{RowPut}
use Rattle.image.proofs.write.write_superblocks.Given as goal

abbrev pub invariant-loop-e : goal.invariant-loop-e
invariant-loop-e l = (l.e ≤ superblocks_of kind1 l.n) × (length l.image ≡ length l.initial.image) × RowPut kind1 (cell (strip_of l.words l.n)) l.e l.a l.b l.initial.image l.image l.sum
