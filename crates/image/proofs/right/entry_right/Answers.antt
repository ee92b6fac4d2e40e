-- `image::right::entry_right` meets its contract. Assumes nothing.
use mathlib.Core.Path.{refl, sym}
use native.Mathlib.Omega.{arith}
use borrow.Author.Tests.{eqb-true, eq-eqb, ne_eqb}
use Rattle.image.proofs.ChainLaws.{decides}
use Rattle.image.proofs.EntryLaws.{halves_same, same_halves}
use Rattle.image.proofs.right.entry_right.Goals as goal

pub returns-then-u64_at-halves : goal.returns-then-u64_at-halves
returns-then-u64_at-halves c =
    let low = c.u64_at in
    let h = c.entry_halves-halves in
    let a = c.args in
    sym (ne_eqb _ _ (λ e. c.if-u64_at-halves.true
    (same_halves a.part.now a.at h.result.low h.result.high low.result _ _ low.ensures.0 refl h.ensures (omega arith) e).0))

pub returns : goal.returns
returns c =
    let low = c.u64_at in
    let high = c.u64_at-2 in
    let h = c.entry_halves-halves in
    let a = c.args in
    decides _ _ (eqb-true _ _) (eq-eqb _ _)
    (λ t. (same_halves a.part.now a.at h.result.low h.result.high low.result high.result _ low.ensures.0 high.ensures.0
    h.ensures (omega arith) (eqb-true _ _ t)).1)
    (λ e. eq-eqb _ _ (halves_same a.part.now a.at h.result.low h.result.high low.result high.result _ low.ensures.0 high.ensures.0
    h.ensures c.if-u64_at-halves.false e))
