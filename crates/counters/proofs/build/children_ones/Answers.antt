-- `counters::build::children_ones` meets its contract. The invariant: the elements below c hold the ones of their children. Assumes nothing.
use Rattle.std.proofs.Common.{arith}
use Rattle.counters.specs.Building.{child_holds}
use Rattle.counters.proofs.BuildLaws.{children_are}
use Rattle.counters.proofs.build.children_ones.Goals as goal

pub returns : goal.returns
returns c =
    let l = c.loop-c in
    let a = c.args in
    children_are (child_holds a.words.now a.counters.now a.t a.below) l.children a.j l.invariant.0 (λ d h. l.invariant.2 d (omega arith))
