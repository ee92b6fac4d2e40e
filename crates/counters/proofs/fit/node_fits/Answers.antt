-- `counters::fit::node_fits` meets its contract. Assumes nothing.
use Rattle.std.proofs.Common.{ℕ, ◌+◌, ◌-◌, ◌*◌, arith}
use Rattle.counters.proofs.BuildLaws.{node_compared}
use Rattle.counters.proofs.fit.node_fits.Goals as goal

pub returns : goal.returns
returns c =
    let s = c.args in
    let laid = c.fill_node in
    let a : ℕ = s.at + 72 * s.j in
    node_compared c.eq.result s.children s.counters.now laid.new.node s.at s.j (a + 72 - a) (omega arith) c.requires.0 laid.auto.node laid.ensures c.eq.ensures
