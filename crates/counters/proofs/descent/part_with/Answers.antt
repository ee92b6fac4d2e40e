-- `counters::descent::part_with` meets its contract. Assumes nothing.
use Rattle.std.proofs.Common.{◌≡◌, ℕ, ◌+◌, ◌-◌, ◌*◌, sym, subst₂, inl, inr, mul-zero, arith}
use Rattle.words.specs.Strip.{as_bit}
use Rattle.words.specs.Working.{at_most}
use Rattle.words.proofs.Sums.{sum_zero, part_at_lem}
use Rattle.counters.specs.Descent.{ValueCount}
use Rattle.counters.proofs.SelectionLaws.{times_more, reach_more}
use Rattle.counters.proofs.descent.part_with.Goals as goal
use Rattle.counters.proofs.descent.part_with.Goals.{then-value_count-k, else-value_count-k}

pub loop-x-init : goal.loop-x-init
loop-x-init c =
    record { bits = sym (mul-zero c.args.size); fits = omega arith; few = omega arith; reach = λ P h. sym (sum_zero (at_most (λ j. P (j + 1)) c.args.k)) }

pub loop-x-preserved : goal.loop-x-preserved
loop-x-preserved c =
    let s = c.args in
    let l = c.loop-x in
    let i : ℕ = l.x-index in
    let x = c.value_count in
    let e : s.size * (i + 1) ≡ l.bits + s.size = omega (arith, l.invariant.bits, times_more s.size i) in
    record {
      bits = sym e;
      fits = omega arith;
      few = elim c.if-value_count-k.branch [ then-value_count-k w ↦ omega arith | else-value_count-k w ↦ omega arith ];
      reach =
          λ P h.
          reach_more (λ j. P (j + 1)) s.k i l.count c.if-value_count-k.count x.result
          (x.ensures (P (i + 1)) (subst₂ (λ (n y : ℕ). ValueCount (as_bit s.v) n y (P (i + 1))) e
          (sym (part_at_lem s.counters.now s.from (s.from + 7 - s.from) 0 i (omega arith))) (h i (omega arith))))
          (l.invariant.reach P h)
          (elim c.if-value_count-k.branch [
            | then-value_count-k w ↦ inl (w.if-value_count-k.true, w.count-is)
            | else-value_count-k w ↦ inr (w.if-value_count-k.false, w.count-is)
          ]);
    }
