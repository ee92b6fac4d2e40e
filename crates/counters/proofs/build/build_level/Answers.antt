-- `counters::build::build_level` meets its contract. The invariant: the nodes before j are laid, and what stands past the level stays. Assumes nothing.
use Rattle.std.proofs.Common.{◌∙◌, arith}
use Rattle.counters.specs.Building.{child_holds}
use Rattle.counters.proofs.BuildLaws.{children_same, level_built, level_keeps}
use Rattle.counters.proofs.build.build_level.Goals as goal

pub loop-j-preserved : goal.loop-j-preserved
loop-j-preserved c =
    let l = c.loop-j in
    let ts = c.children_ones-children in
    let call = c.build_node in
    let a = c.args in
    let are = ts.ensures ∙ children_same a.words.now a.counters.now a.t a.below l.counters l.invariant.3 l.j in (
      call.auto.counters ∙ l.invariant.0,
      omega arith,
      level_built (child_holds a.words.now a.counters.now a.t a.below) ts.result l.j are call.ensures l.invariant.2,
      level_keeps a.counters.now a.below.start call.ensures (omega (arith, c.requires.1.ends)) l.invariant.3,
    )
