-- `counters::path::add_each` meets its contract. The invariant: the numbers before i have their steps added. Assumes nothing.
use Rattle.counters.proofs.PathLaws.{Lanes}
use Rattle.counters.proofs.path.add_each.Given as goal

abbrev pub invariant-loop-i : goal.invariant-loop-i
invariant-loop-i l = Lanes l.steps l.initial.lanes l.i l.lanes
