-- `counters::build::fill_node` meets its contract. The invariant: the groups before g are laid. Assumes nothing.
use Rattle.std.proofs.Common.{refl, ◌%◌, ◌^◌, ℕ, ◌+◌, ◌-◌, ◌*◌, arith}
use Rattle.counters.proofs.BuildLaws.{groups_none, groups_more, groups_done}
use Rattle.counters.proofs.build.fill_node.Goals as goal

pub loop-g-init : goal.loop-g-init
loop-g-init c = (omega arith, groups_none c.args.children c.args.node.now c.requires.0)

pub loop-g-preserved : goal.loop-g-preserved
loop-g-preserved c =
    let l = c.loop-g in
    let call = c.fill_group-group in
    let g : ℕ = l.g in (
      omega arith,
      groups_more l.invariant.1 (omega arith) call.new.keys call.result ((l.sum + call.result) % 2 ^ 32) (8 * g + 8 + 8 - (8 * g + 8)) (8 * g + 8 - 8 * g)
          (omega arith) (omega arith) call.auto.keys call.ensures.1 call.ensures.0 refl,
    )

pub returns : goal.returns
returns c = groups_done c.loop-g.invariant.1 (omega arith)
