-- `counters::shape::ones_held` meets its contract. Assumes nothing.
use Rattle.std.proofs.Common.{◌∙◌, arith}
use Rattle.counters.proofs.TreeLaws.{root_there}
use Rattle.counters.proofs.FitLaws.{root_ones}
use Rattle.counters.proofs.shape.ones_held.Goals as goal

pub node_ones-requires : goal.node_ones-requires
node_ones-requires c = omega (arith, root_there c.args.blocks c.requires)

pub returns : goal.returns
returns c = (c.node_ones.ensures.1, λ f fit clean. c.node_ones.ensures.0 ∙ root_ones f c.args.blocks c.args.counters.now c.requires fit clean)
