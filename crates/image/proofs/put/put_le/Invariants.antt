-- `image::put::put_le` meets its contract. The invariant: what is still to be stored makes the whole. Assumes nothing.
use Rattle.image.proofs.PutLaws.{Storing}
use Rattle.image.proofs.put.put_le.Given as goal

abbrev pub invariant-loop-byte : goal.invariant-loop-byte
invariant-loop-byte l = Storing l.initial.byte-items l.fn.n l.fn.v l.byte-items l.byte-index l.rest
