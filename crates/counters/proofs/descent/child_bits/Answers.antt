-- `counters::descent::child_bits` meets its contract. Assumes nothing.
use Rattle.std.proofs.Common.{◌≡◌, sym, ap, arith, lit≤}
use Rattle.counters.specs.Tree.{child_bits}
use Rattle.counters.proofs.descent.child_bits.Goals as goal

pub returns-then-t-eq1 : goal.returns-then-t-eq1
unfolding child_bits
returns-then-t-eq1 c = (ap child_bits (sym c.if-t-eq1.true), lit≤ tt)

pub returns-then-t-eq2 : goal.returns-then-t-eq2
unfolding child_bits
returns-then-t-eq2 c = (ap child_bits (sym c.if-t-eq2.true), lit≤ tt)

pub returns : goal.returns
unfolding child_bits
returns c =
    let e : c.args.t ≡ 3 = omega (arith, c.if-t-eq2.false, c.if-t-eq1.false) in
    (ap child_bits (sym e), lit≤ tt)
