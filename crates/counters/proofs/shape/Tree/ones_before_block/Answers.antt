-- `counters::shape::Tree::ones_before_block` meets its contract. The invariant is `Climbed` after t levels. Assumes nothing.
use Rattle.std.proofs.Common.{◌≡◌, ◌+◌, ◌-◌, ◌<◌, length, arith}
use Rattle.counters.specs.Tree.{height}
use Rattle.counters.proofs.TreeLaws.{height_le, climb_block, climb_ready}
use Rattle.counters.proofs.RankLaws.{Climbed, climbed_none, climbed_more, climbed_done}
use Rattle.counters.proofs.shape.Tree.ones_before_block.Goals as goal
use Rattle.counters.proofs.shape.Tree.ones_before_block.Goals.{After-before_child-sum, After-up-rise, In-loop-t}

pub loop-t-init : goal.loop-t-init
loop-t-init c =
    let f = c.from_block-climb in (
      omega arith,
      climbed_none c.args.self.blocks c.args.block c.args.self.counters.now f.result
          (climb_block c.args.self.blocks (length c.args.self.counters.now) c.args.block f.result c.args.self.whole.size c.requires f.ensures) f.ensures.2,
    )

-- there is a level more
higher : (c : In-loop-t) → c.loop-t.t < height c.args.self.blocks
higher c =
    omega (arith, c.height_of-levels.ensures)

pub up-rise-requires : goal.up-rise-requires
up-rise-requires c = climb_ready c.loop-t.invariant.1.climb (higher (goal.at.up-rise-requires c).In-loop-t) c.args.self.whole

-- one level more
next : (c : After-before_child-sum) (higher : c.loop-t.t < height c.args.self.blocks)
    → let s = c.args in
    let l = c.loop-t in
    Climbed s.self.blocks s.block s.self.counters.now (l.t + 1) c.up-rise.result.climb (l.sum + c.before_child-sum.result)
next c higher =
    let l = c.loop-t in
    let r = c.up-rise in
    let x = c.before_child-sum in
    climbed_more l.invariant.1 (higher) r.ensures x.result (r.result.at + 72 - r.result.at) x.ensures.0
    (omega arith) x.ensures.1

pub overflow_add-sum : goal.overflow_add-sum
overflow_add-sum c = omega (arith, (next (goal.at.overflow_add-sum c).After-before_child-sum (higher (goal.at.overflow_add-sum c).In-loop-t)).small, higher (goal.at.overflow_add-sum c).In-loop-t, height_le c.args.self.blocks)

pub loop-t-preserved : goal.loop-t-preserved
loop-t-preserved c = (omega arith, next (goal.at.loop-t-preserved c).After-before_child-sum (higher (goal.at.loop-t-preserved c).In-loop-t))

pub returns : goal.returns
returns c =
    let a = c.args in
    let l = c.loop-t in
    let top : l.t ≡ height a.self.blocks = omega (arith, c.height_of-levels.ensures) in
    (omega (arith, l.invariant.1.small, top, height_le a.self.blocks), climbed_done l.invariant.1 top c.args.self.whole)
