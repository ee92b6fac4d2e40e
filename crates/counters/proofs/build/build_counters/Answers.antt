-- `counters::build::build_counters` meets its contract. The invariant: the levels 1 to t are laid. Assumes nothing.
use Rattle.std.proofs.Common.{◌<◌, arith}
use Rattle.words.specs.Bits.{bit_at}
use Rattle.counters.specs.Tree.{height}
use Rattle.counters.proofs.BuildLaws.{upto_none, upto_bits, upto_room, upto_next, upto_more, upto_all}
use Rattle.counters.proofs.build.build_counters.Goals as goal
use Rattle.counters.proofs.build.build_counters.Goals.{In-loop-t}

pub loop-t-init : goal.loop-t-init
loop-t-init c = (c.height_of-levels.ensures, upto_none c.args.words.now c.args.blocks c.args.counters.now c.requires.0 c.requires.1)

-- there is a next level
more : (c : In-loop-t) → c.loop-t.t < height c.args.blocks
more c =
    omega (arith, c.loop-t.invariant.0)

pub above-level-requires : goal.above-level-requires
above-level-requires c = upto_room c.loop-t.invariant.1 (more (goal.at.above-level-requires c).In-loop-t)

pub build_level-requires : goal.build_level-requires
build_level-requires c = upto_next c.loop-t.invariant.1 (more (goal.at.build_level-requires c).In-loop-t) c.above-level.ensures

pub loop-t-preserved : goal.loop-t-preserved
loop-t-preserved c =
    let l = c.loop-t in
    let call = c.build_level in
    (l.invariant.0, upto_more l.invariant.1 (more (goal.at.loop-t-preserved c).In-loop-t) c.above-level.ensures call.new.counters call.auto.counters call.ensures)

pub returns : goal.returns
returns c =
    let l = c.loop-t in
    let fit = upto_all l.invariant.1 (omega (arith, l.invariant.0)) in
    (c.ones_held.ensures.1 (bit_at c.args.words.now) fit (upto_bits l.invariant.1).past, fit)
