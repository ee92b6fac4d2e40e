-- `counters::path::move_path` meets its contract. The invariant: the levels 1 to t are done. Assumes nothing.
use Rattle.std.proofs.Common.{ℕ, ◌+◌, ◌-◌, ◌/◌, ◌<◌, length, arith}
use Rattle.counters.specs.Tree.{height}
use Rattle.counters.proofs.TreeLaws.{height_le, climb_block, climb_ready}
use Rattle.counters.proofs.PathLaws.{steps_made, moving_none, moving_more, moving_done}
use Rattle.counters.proofs.path.move_path.Goals as goal
use Rattle.counters.proofs.path.move_path.Goals.{After-up-rise, In-loop-t}

pub loop-t-init : goal.loop-t-init
loop-t-init c =
    let f = c.from_block-climb in (
      omega arith,
      moving_none c.args.blocks c.args.p c.args.d c.args.counters.now f.result
          (climb_block c.args.blocks (length c.args.counters.now) (c.args.p / 512) f.result c.requires.0.size (omega arith) f.ensures) f.ensures.2,
    )

-- there is a level more
higher : (c : In-loop-t) → c.loop-t.t < height c.args.blocks
higher c =
    omega (arith, c.height_of-levels.ensures)

pub up-rise-requires : goal.up-rise-requires
up-rise-requires c = climb_ready c.loop-t.invariant.1.climb (higher (goal.at.up-rise-requires c).In-loop-t) c.requires.0

-- at most three levels
few : (c : After-up-rise) (higher : c.loop-t.t < height c.args.blocks) → c.loop-t.t < 3
few c higher =
    omega (arith, higher, height_le c.args.blocks)

pub overflow_add-number : goal.overflow_add-number
overflow_add-number c =
    omega (
      arith,
      few (goal.at.overflow_add-number c).After-up-rise (higher (goal.at.overflow_add-number c).In-loop-t),
      c.loop-t.invariant.1.number_le,
      c.move_node-number.ensures.0,
    )

pub loop-t-preserved : goal.loop-t-preserved
loop-t-preserved c =
    let l = c.loop-t in
    let call = c.move_node-number in
    let a : ℕ = c.up-rise.result.at in (
      omega arith,
      moving_more l.invariant.1 (higher (goal.at.loop-t-preserved c).In-loop-t) c.requires.0.size c.up-rise.ensures (a + 72 - a) call.result call.new.node (omega arith)
          call.ensures.0 call.auto.node (call.ensures.1 c.args.d (steps_made c.args.d)),
    )

pub returns : goal.returns
returns c = moving_done c.loop-t.invariant.1 (omega arith)
