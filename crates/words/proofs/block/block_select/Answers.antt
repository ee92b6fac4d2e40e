-- `words::block::block_select` meets its contract. The invariant: of the first i words, which hold `sum` of v, those before word j are passed, with
-- `passed` of v. Assumes nothing.
use Rattle.std.proofs.Common.{◌≡◌, ℕ, ◌+◌, ◌-◌, ◌*◌, ◌≤◌, subst, inl, inr, arith}
use Rattle.words.specs.Bits.{bit_at}
use Rattle.words.specs.Strip.{as_bit, holds, rank_of, select_of}
use Rattle.words.specs.Words.{place_in}
use Rattle.words.proofs.Sums.{sum_zero}
use Rattle.words.proofs.SearchLaws.{rank_le}
use Rattle.words.proofs.BlockSelectLaws.{word_rank, Passed, passed_none, passed_more, passed_place}
use Rattle.words.proofs.block.block_select.Goals as goal
use Rattle.words.proofs.block.block_select.Goals.{then-sum-k, else-sum-k, After-loop-i, After-select_value, After-word_count-sum}

pub loop-i-init : goal.loop-i-init
loop-i-init c =
    let a = c.args in
    let f : ℕ → ℕ = bit_at a.block.now in
    (omega arith, omega (arith, sum_zero (holds f (as_bit a.v))), passed_none f (as_bit a.v) a.k)

-- the v with those of word i
next : (c : After-word_count-sum)
    → let a = c.args in
    let l = c.loop-i in
    l.sum + c.word_count-sum.result ≡ rank_of (bit_at a.block.now) (as_bit a.v) (64 * (l.i + 1))
next c =
    let a = c.args in
    let l = c.loop-i in
    omega (arith, l.invariant.1, c.word_count-sum.ensures.1, word_rank a.block.now (as_bit a.v) l.i)

pub overflow_add-sum : goal.overflow_add-sum
overflow_add-sum c =
    let a = c.args in
    let l = c.loop-i in
    omega (arith, l.invariant.1, c.word_count-sum.ensures.0, rank_le (bit_at a.block.now) (as_bit a.v) (64 * l.i))

pub loop-i-preserved : goal.loop-i-preserved
loop-i-preserved c =
    let a = c.args in
    let l = c.loop-i in (
      omega arith,
      next (goal.at.loop-i-preserved c).After-word_count-sum,
      passed_more (bit_at a.block.now) (as_bit a.v) a.k l.i l.j l.passed (l.sum + c.word_count-sum.result) c.if-sum-k.j c.if-sum-k.passed
          (next (goal.at.loop-i-preserved c).After-word_count-sum) l.invariant.2
          (elim c.if-sum-k.branch [ then-sum-k w ↦ inl (omega arith, (w.j-is, w.passed-is)) | else-sum-k w ↦ inr (omega arith, (w.j-is, w.passed-is)) ]),
    )

-- seven words are counted
seven : (c : After-loop-i)
    → let a = c.args in
    Passed (bit_at a.block.now) (as_bit a.v) a.k 7 c.loop-i.j c.loop-i.passed
seven c =
    let a = c.args in
    let l = c.loop-i in
    let e : l.i ≡ 7 = omega arith in
    subst (λ (i : ℕ). Passed (bit_at a.block.now) (as_bit a.v) a.k i l.j l.passed) e l.invariant.2

-- the position in that word
place : (c : After-select_value) (seven : let a = c.args in
    Passed (bit_at a.block.now) (as_bit a.v) a.k 7 c.loop-i.j c.loop-i.passed)
    → let a = c.args in
    let r = c.select_value.result in
    (r ≤ 64) × (64 * c.loop-i.j + r ≡ place_in 512 (select_of (bit_at a.block.now) 512 (as_bit a.v) a.k))
place c seven =
    let a = c.args in
    let l = c.loop-i in
    let h = seven in
    passed_place a.block.now (as_bit a.v) a.k l.j l.passed (a.k - l.passed) c.select_value.result h (omega (arith, h.low)) c.select_value.ensures

pub overflow_add-result : goal.overflow_add-result
overflow_add-result c = omega (arith, (place (goal.at.overflow_add-result c).After-select_value (seven (goal.at.overflow_add-result c).After-loop-i)).0, (seven (goal.at.overflow_add-result c).After-loop-i).within)

pub returns : goal.returns
returns c = (place (goal.at.returns c).After-select_value (seven (goal.at.returns c).After-loop-i)).1
