-- `counters::descent::nodes_of` meets its contract. Assumes nothing.
use Rattle.std.proofs.Common.{◌≡◌, ℕ, sym, ap, ◌∙◌, arith}
use Rattle.counters.specs.Tree.{nodes}
use Rattle.counters.proofs.TreeLaws.{nodes_zero, nodes_suc}
use Rattle.counters.proofs.descent.nodes_of.Goals as goal

pub returns-then-t-eq0 : goal.returns-then-t-eq0
returns-then-t-eq0 c = let n : ℕ = c.args.blocks in sym (ap (nodes n) c.if-t-eq0.true ∙ nodes_zero n)

pub returns-then-t-eq1 : goal.returns-then-t-eq1
returns-then-t-eq1 c =
    let n : ℕ = c.args.blocks in
    omega (arith, ap (nodes n) c.if-t-eq1.true, nodes_zero n, nodes_suc n 0)

pub returns : goal.returns
returns c =
    let s = c.args in
    let e : s.t ≡ 2 = omega (arith, c.if-t-eq1.false, c.if-t-eq0.false) in
    omega (arith, ap (nodes s.blocks) e, nodes_zero s.blocks, nodes_suc s.blocks 0, nodes_suc s.blocks 1)
