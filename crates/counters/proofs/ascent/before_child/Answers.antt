-- `counters::ascent::before_child` meets its contract: child c starts its group of eight, or it does not. Assumes nothing.
use Rattle.std.proofs.Common.{ℕ, ◌+◌, ◌*◌, ap, ◌∙◌, ap₂, arith}
use Rattle.counters.proofs.RankLaws.{before_group, before_key}
use Rattle.counters.proofs.ascent.before_child.Goals as goal

pub returns-then-c-eq0 : goal.returns-then-c-eq0
returns-then-c-eq0 c =
    let a = c.args in
    let s = c.wide-s in (
      omega arith,
      λ B j node. ap (λ (x : ℕ). x + B (64 * j)) s.ensures.0 ∙ before_group B j a.node.now node a.c (omega arith) c.if-c-eq0.true,
    )

pub returns-else-c-eq0 : goal.returns-else-c-eq0
returns-else-c-eq0 c =
    let a = c.args in
    let s = c.wide-s in
    let y = c.wide-y in (
      omega arith,
      λ B j node. ap₂ (λ (x z : ℕ). x + z + B (64 * j)) s.ensures.0 y.ensures.0 ∙ before_key B j a.node.now node a.c (omega arith) c.if-c-eq0.false,
    )
