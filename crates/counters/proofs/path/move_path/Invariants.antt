-- `counters::path::move_path` meets its contract. The invariant: the levels 1 to t are done. Assumes nothing.
use Rattle.std.proofs.Common.{◌≤◌}
use Rattle.counters.proofs.PathLaws.{Moving}
use Rattle.counters.proofs.path.move_path.Given as goal

abbrev pub invariant-loop-t : goal.invariant-loop-t
invariant-loop-t l = (l.t ≤ l.levels) × (Moving l.blocks l.p l.d l.initial.counters l.t l.counters l.climb l.number)
