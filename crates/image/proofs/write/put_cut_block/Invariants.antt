-- `image::write::put_cut_block` meets its contract. The invariant: the words before j are stored and counted. Assumes nothing.
use Rattle.std.proofs.Common.{◌≡◌, ◌*◌, ◌≤◌, length}
use Rattle.words.specs.Strip.{strip_of}
use Rattle.image.specs.Writing.{block_cells, BitsPut}
use Rattle.image.proofs.write.put_cut_block.Given as goal

abbrev pub invariant-loop-j : goal.invariant-loop-j
invariant-loop-j l = (l.j ≤ 8) × (length l.bytes ≡ length l.initial.bytes) × BitsPut (block_cells (strip_of l.words l.n) l.b) (8 * l.j) l.at l.initial.bytes l.bytes l.sum
