-- `words::span::span_ones` meets its contract: the ones before each end, by the word that it lies in. Assumes nothing.
use Rattle.std.proofs.Common.{◌≡◌, ℕ, ◌+◌, ◌-◌, ◌*◌, ◌/◌, ◌%◌, ◌≤◌, get_or, ap, ◌∙◌, le_refl, arith}
use Rattle.words.specs.Bits.{bit, bit_at, ones}
use Rattle.words.specs.Handles.{most_bits}
use Rattle.words.proofs.Sums.{sum_mono, ones_le}
use Rattle.words.proofs.BitLaws.{masked_is}
use Rattle.words.proofs.WordLaws.{bit_at_le, ones_before, slice_ones}
use Rattle.words.proofs.SpanLaws.{span_counted}
use Rattle.words.proofs.span.span_ones.Goals as goal
use Rattle.words.proofs.span.span_ones.Goals.{After-ones_of, After-ones_of-3, After-ones_of-under, After-words_ones}

-- `under` is the ones of the first word below a
below : (c : After-ones_of-under)
    → let a = c.args in
    c.ones_of-under.result ≡ ones (bit (get_or a.words.now (a.a / 64) 0)) (a.a % 64)
below c =
    let a = c.args in
    masked_is (get_or a.words.now (a.a / 64) 0) (a.a % 64) c.low_mask.result c.ones_of-under.result (omega arith) c.low_mask.ensures
    c.ones_of-under.ensures

-- and with the ones before that word those before a
first : (c : After-ones_of-under) (below : let a = c.args in
    c.ones_of-under.result ≡ ones (bit (get_or a.words.now (a.a / 64) 0)) (a.a % 64))
    → let a = c.args in
    ones (bit_at a.words.now) a.a ≡ ones (bit_at a.words.now) (64 * (a.a / 64)) + c.ones_of-under.result
first c below =
    let a = c.args in
    omega (arith, below, ones_before a.words.now (a.a / 64) (a.a % 64) a.a (omega arith) (omega arith))

-- both ends in one word: its ones below b
upto : (c : After-ones_of)
    → let a = c.args in
    c.ones_of.result ≡ ones (bit (get_or a.words.now (a.a / 64) 0)) (a.b % 64)
upto c =
    let a = c.args in
    masked_is (get_or a.words.now (a.a / 64) 0) (a.b % 64) c.low_mask-then-from-to.result c.ones_of.result (omega arith) c.low_mask-then-from-to.ensures
    c.ones_of.ensures

pub overflow_sub-result : goal.overflow_sub-result
overflow_sub-result c =
    let a = c.args in
    let m : a.a % 64 ≤ a.b % 64 = omega arith in
    omega (arith, below (goal.at.overflow_sub-result c).After-ones_of-under, upto (goal.at.overflow_sub-result c).After-ones_of, sum_mono (bit (get_or a.words.now (a.a / 64) 0)) m)

pub returns-then-from-to : goal.returns-then-from-to
returns-then-from-to c =
    let a = c.args in
    let x : ℕ = get_or a.words.now (a.a / 64) 0 in
    let m : a.a % 64 ≤ a.b % 64 = omega arith in
    let e : a.b ≡ 64 * (a.a / 64) + a.b % 64 = omega arith in
    let last = ones_before a.words.now (a.a / 64) (a.b % 64) a.b (omega arith) e in
    span_counted a.words.now a.a a.b (c.ones_of.result - c.ones_of-under.result) most_bits c.requires.2
    (omega (arith, first (goal.at.returns-then-from-to c).After-ones_of-under (below (goal.at.returns-then-from-to c).After-ones_of-under), below (goal.at.returns-then-from-to c).After-ones_of-under, upto (goal.at.returns-then-from-to c).After-ones_of, sum_mono (bit x) m, last))

pub overflow_sub-sum : goal.overflow_sub-sum
overflow_sub-sum c =
    let a = c.args in
    let m : a.a % 64 ≤ 64 = omega arith in
    omega (arith, below (goal.at.overflow_sub-sum c).After-ones_of-under, c.ones_of-2.ensures, sum_mono (bit (get_or a.words.now (a.a / 64) 0)) m)

-- whole words from that of a on: the ones before the last word
whole : (c : After-words_ones) (below : let a = c.args in
    c.ones_of-under.result ≡ ones (bit (get_or a.words.now (a.a / 64) 0)) (a.a % 64)) (first : let a = c.args in
    ones (bit_at a.words.now) a.a ≡ ones (bit_at a.words.now) (64 * (a.a / 64)) + c.ones_of-under.result)
    → let a = c.args in
    let under = c.ones_of-under.result in
    (under ≤ c.ones_of-2.result)
    × (ones (bit_at a.words.now) a.a + (c.ones_of-2.result - under + c.words_ones.result) ≡ ones (bit_at a.words.now) (64 * (a.b / 64)))
whole c below first =
    let a = c.args in
    let ws = a.words.now in
    let m : a.a % 64 ≤ 64 = omega arith in
    let l : c.ones_of-under.result ≤ c.ones_of-2.result = omega (arith, below, c.ones_of-2.ensures, sum_mono (bit (get_or ws (a.a / 64) 0)) m) in
    let e : 64 * (a.a / 64 + 1) ≡ 64 * (a.a / 64) + 64 = omega arith in
    let next = ones_before ws (a.a / 64) 64 (64 * (a.a / 64 + 1)) (le_refl 64) e in
    (l, omega (arith, l, first, next, c.ones_of-2.ensures, c.words_ones.ensures, slice_ones ws (a.a / 64 + 1) (a.b / 64) (omega arith) (omega arith)))

pub overflow_add-sum : goal.overflow_add-sum
overflow_add-sum c =
    let a = c.args in
    omega (arith, (whole (goal.at.overflow_add-sum c).After-words_ones (below (goal.at.overflow_add-sum c).After-ones_of-under) (first (goal.at.overflow_add-sum c).After-ones_of-under (below (goal.at.overflow_add-sum c).After-ones_of-under))).1, ones_le (bit_at a.words.now) (64 * (a.b / 64)) (bit_at_le a.words.now))

pub returns-then-b-eq0 : goal.returns-then-b-eq0
returns-then-b-eq0 c =
    let a = c.args in
    let e : 64 * (a.b / 64) ≡ a.b = omega arith in
    span_counted a.words.now a.a a.b ((c.ones_of-2.result - c.ones_of-under.result + c.words_ones.result)) most_bits c.requires.2
    ((whole (goal.at.returns-then-b-eq0 c).After-words_ones (below (goal.at.returns-then-b-eq0 c).After-ones_of-under) (first (goal.at.returns-then-b-eq0 c).After-ones_of-under (below (goal.at.returns-then-b-eq0 c).After-ones_of-under))).1 ∙ ap (ones (bit_at a.words.now)) e)

-- and those of the last word below b
last : (c : After-ones_of-3)
    → let a = c.args in
    ones (bit_at a.words.now) (64 * (a.b / 64)) + c.ones_of-3.result ≡ ones (bit_at a.words.now) a.b
last c =
    let a = c.args in
    let low = masked_is (get_or a.words.now (a.b / 64) 0) (a.b % 64) c.low_mask-2.result c.ones_of-3.result (omega arith)
    c.low_mask-2.ensures c.ones_of-3.ensures in
    omega (arith, low, ones_before a.words.now (a.b / 64) (a.b % 64) a.b (omega arith) (omega arith))

pub overflow_add-result : goal.overflow_add-result
overflow_add-result c =
    let a = c.args in
    omega (arith, (whole (goal.at.overflow_add-result c).After-words_ones (below (goal.at.overflow_add-result c).After-ones_of-under) (first (goal.at.overflow_add-result c).After-ones_of-under (below (goal.at.overflow_add-result c).After-ones_of-under))).1, last (goal.at.overflow_add-result c).After-ones_of-3, ones_le (bit_at a.words.now) a.b (bit_at_le a.words.now))

pub returns : goal.returns
returns c =
    let a = c.args in
    span_counted a.words.now a.a a.b ((c.ones_of-2.result - c.ones_of-under.result + c.words_ones.result) + c.ones_of-3.result) most_bits c.requires.2
    (omega (arith, (whole (goal.at.returns c).After-words_ones (below (goal.at.returns c).After-ones_of-under) (first (goal.at.returns c).After-ones_of-under (below (goal.at.returns c).After-ones_of-under))).1, last (goal.at.returns c).After-ones_of-3))
