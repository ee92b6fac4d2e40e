-- `image::write::put_superblock` meets its contract. The invariant: the blocks before j are stored and counted. Assumes nothing.
use mathlib.Core.Path.{◌≡◌}
use lib.ListN.{length}
use Rattle.words.specs.Strip.{strip_of}
use Rattle.image.specs.Kinds.{kind1}
use Rattle.image.specs.Writing.{superblock_cells}
use Rattle.image.proofs.WriteLaws.{Blocks}
use Rattle.image.proofs.write.put_superblock.Given as goal

abbrev pub invariant-loop-j : goal.invariant-loop-j
invariant-loop-j l = (length l.bytes ≡ length l.initial.bytes) × Blocks kind1 (superblock_cells kind1 (strip_of l.words l.n) l.e) l.at l.initial.bytes l.bytes l.counts l.sum l.j
