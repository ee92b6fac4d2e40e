-- `counters::shape::Tree::fits` meets its contract. The invariant: the levels 1 to t fit. Assumes nothing.
use Rattle.std.proofs.Common.{◌<◌, arith, ap, not}
use Rattle.counters.specs.Tree.{height}
use Rattle.counters.proofs.BuildLaws.{upto_none, upto_room, upto_next, more_no, more_yes, upto_all}
use Rattle.counters.proofs.shape.Tree.fits.Goals as goal
use Rattle.counters.proofs.shape.Tree.fits.Goals.{In-loop-t}

pub loop-t-init : goal.loop-t-init
loop-t-init c = (c.height_of-levels.ensures, upto_none c.args.self.words.now c.args.self.blocks c.args.self.counters.now c.args.self.covered c.args.self.whole)

-- there is a next level
more : (c : In-loop-t) → c.loop-t.t < height c.args.self.blocks
more c =
    omega (arith, c.loop-t.invariant.0)

pub above-level-requires : goal.above-level-requires
above-level-requires c = upto_room c.loop-t.invariant.1 (more (goal.at.above-level-requires c).In-loop-t)

pub level_fits-requires : goal.level_fits-requires
level_fits-requires c = upto_next c.loop-t.invariant.1 (more (goal.at.level_fits-requires c).In-loop-t) c.above-level.ensures

pub returns-then-not-level_fits : goal.returns-then-not-level_fits
returns-then-not-level_fits c =
    more_no c.loop-t.invariant.1 (more (goal.at.returns-then-not-level_fits c).In-loop-t) c.above-level.ensures c.level_fits.result
    c.level_fits.ensures (ap not c.if-not-level_fits.true)

pub loop-t-preserved : goal.loop-t-preserved
loop-t-preserved c =
    let l = c.loop-t in
    (l.invariant.0, more_yes l.invariant.1 (more (goal.at.loop-t-preserved c).In-loop-t) c.above-level.ensures c.level_fits.result c.level_fits.ensures (ap not c.if-not-level_fits.false))

pub returns : goal.returns
returns c = upto_all c.loop-t.invariant.1 (omega (arith, c.loop-t.invariant.0))
