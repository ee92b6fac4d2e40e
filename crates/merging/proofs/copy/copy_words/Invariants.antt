-- `merging::copy::copy_words` meets its contract. The invariant: what is still to be stored makes the whole. Assumes nothing.
use Rattle.std.proofs.Common.{◌*◌}
use Rattle.image.proofs.PutLaws.{Copying}
use Rattle.merging.proofs.copy.copy_words.Given as goal

abbrev pub invariant-loop-i : goal.invariant-loop-i
invariant-loop-i l = Copying l.initial.s l.at l.b l.s (8 * l.i)
