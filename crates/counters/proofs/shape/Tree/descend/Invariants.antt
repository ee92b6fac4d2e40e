-- `counters::shape::Tree::descend` meets its contract. The invariant: node `index` of level t is on the way to the k-th v. Assumes nothing.
use Rattle.words.specs.Strip.{as_bit}
use Rattle.counters.proofs.SelectionLaws.{Way}
use Rattle.counters.proofs.shape.Tree.descend.Given as goal

abbrev pub invariant-loop-t : goal.invariant-loop-t
invariant-loop-t l = Way l.self.blocks (as_bit l.v) l.k l.self.counters.now l.t l.level l.spot.index l.spot.left
