-- `merging::copy::words_equal` meets its contract. The invariant: the words before i are equal. Assumes nothing.
use Rattle.merging.proofs.CopyLaws.{Compared}
use Rattle.merging.proofs.copy.words_equal.Given as goal

abbrev pub invariant-loop-i : goal.invariant-loop-i
invariant-loop-i l = Compared l.a l.b l.n l.i
