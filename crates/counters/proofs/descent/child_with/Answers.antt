-- `counters::descent::child_with` meets its contract: the summaries give the group, its keys the child, that hold the k-th v. Assumes nothing.
use Rattle.std.proofs.Common.{◌≡◌, ℕ, ◌+◌, ◌*◌, ◌<◌, ap, subst, add-zero, arith}
use Rattle.words.specs.Strip.{as_bit}
use Rattle.counters.specs.Descent.{FoundIn}
use Rattle.counters.proofs.SelectionLaws.{gain, eighth, group_valued, key_valued}
use Rattle.counters.proofs.descent.child_with.Goals as goal

pub returns : goal.returns
returns c =
    let s = c.args in
    let x = c.part_with-group in
    let y = c.part_with-key in
    let g : ℕ = x.result in
    let i : ℕ = y.result in
    let mid : ℕ = c.left_after-left.result in
    let left : ℕ = c.left_after.result in (
      omega (arith, x.ensures.0, y.ensures.0),
      λ B n up counts e top.
          let ps = group_valued B (as_bit s.v) s.size s.counters.now s.at up counts in
          let group : FoundIn (λ m. B (8 * m)) n g mid =
          eighth (λ m. B (8 * m)) s.k n g mid (λ a b l. up (8 * a) (8 * b) (omega arith)) e top (x.ensures.1 (gain (λ m. B (8 * m))) ps)
          (c.left_after-left.ensures (gain (λ m. B (8 * m))) ps) in
          let qs = key_valued B (as_bit s.v) s.size s.counters.now s.at up counts g x.ensures.0 in
          let next : 8 * (g + 1) ≡ 8 * g + 8 = omega arith in
          let child : FoundIn (λ m. B (8 * g + m)) n i left =
          eighth (λ m. B (8 * g + m)) mid n i left (λ a b l. up (8 * g + a) (8 * g + b) (omega arith))
          (omega (arith, group.under, ap B (add-zero (8 * g)))) (subst (λ (m : ℕ). n < B m) next group.over)
          (y.ensures.1 (gain (λ m. B (8 * g + m))) qs) (c.left_after.ensures (gain (λ m. B (8 * g + m))) qs) in
          let past : 8 * g + (i + 1) ≡ 8 * g + i + 1 = omega arith in
          record { under = child.under; over = subst (λ (m : ℕ). n < B m) past child.over },
    )
