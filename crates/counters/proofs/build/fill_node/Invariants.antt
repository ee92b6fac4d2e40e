-- `counters::build::fill_node` meets its contract. The invariant: the groups before g are laid. Assumes nothing.
use Rattle.std.proofs.Common.{◌≤◌}
use Rattle.counters.proofs.BuildLaws.{Groups}
use Rattle.counters.proofs.build.fill_node.Given as goal

abbrev pub invariant-loop-g : goal.invariant-loop-g
invariant-loop-g l = (l.g ≤ 8) × Groups l.children l.node l.g l.sum
