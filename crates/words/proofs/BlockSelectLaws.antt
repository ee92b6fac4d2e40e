-- Select in a block by running counts: the word that holds the k-th v, how many v come before it, and the position. Assumes nothing.
use Rattle.std.proofs.Common.{◌≡◌, ℕ, ◌+◌, ◌*◌, ◌<◌, ◌≤◌, ◌⊎◌, List, get_or, sym, ap, ◌∙◌, inl, inr, zero-le, le_refl, arith}
use Rattle.words.specs.Bits.{bit, bit_at}
use Rattle.words.specs.Strip.{holds, rank_of, select_of}
use Rattle.words.specs.Words.{place_in, select_in}
use Rattle.words.proofs.Sums.{lt_or, sum_zero, sum_mono}
use Rattle.words.proofs.WordLaws.{word_bit}
use Rattle.words.proofs.SearchLaws.{rank_part, place_in_none, part_select}

-- the v before the end of word j
pub word_rank : (ws : List ℕ) (v j : ℕ) → rank_of (bit_at ws) v (64 * j) + rank_of (bit (get_or ws j 0)) v 64 ≡ rank_of (bit_at ws) v (64 * (j + 1))
word_rank ws v j =
    let e : 64 * (j + 1) ≡ 64 * j + 64 = omega arith in
    sym (ap (rank_of (bit_at ws) v) e ∙ rank_part (bit_at ws) (bit (get_or ws j 0)) (64 * j) 64 v 64 (λ p l. sym (word_bit ws j p l)) (le_refl 64))

-- of the first i words, those before word j hold `passed` of v, at most k, and with word j, if it is one of them, more than k
pub record Passed (f : ℕ → ℕ) (v k i j passed : ℕ) : Type 0 where
  pub within : j ≤ i
  pub count : passed ≡ rank_of f v (64 * j)
  pub low : passed ≤ k
  pub above : j < i → k < rank_of f v (64 * (j + 1))

-- at the start
pub passed_none : (f : ℕ → ℕ) (v k : ℕ) → Passed f v k 0 0 0
passed_none f v k = record { within = zero-le; count = sym (sum_zero (holds f v)); low = zero-le; above = (λ l. absurd (omega arith)) }

-- one more word, with which there are `sum` of v: at most k or above it
pub passed_more : (f : ℕ → ℕ) (v k i j passed sum m rest : ℕ) → sum ≡ rank_of f v (64 * (i + 1)) → Passed f v k i j passed
    → ((sum ≤ k) × ((m ≡ j + 1) × (rest ≡ sum))) ⊎ ((k < sum) × ((m ≡ j) × (rest ≡ passed))) → Passed f v k (i + 1) m rest
passed_more f v k i j passed sum m rest e h (inl w) =
    let all : i ≡ j = full (lt_or j i) in
    record {
      within = omega (arith, w.1.0);
      count = w.1.1 ∙ e ∙ ap (λ (n : ℕ). rank_of f v (64 * n)) (ap (λ (n : ℕ). n + 1) all ∙ sym w.1.0);
      low = omega (arith, w);
      above = (λ l. absurd (omega (arith, w.1.0)));
    }
  where
    full : (j < i) ⊎ (i ≤ j) → i ≡ j
    full (inl l) = let up : 64 * (j + 1) ≤ 64 * (i + 1) = omega arith in absurd (omega (arith, h.above l, sum_mono (holds f v) up, e, w.0))
    full (inr l) = omega (arith, h.within)
passed_more f v k i j passed sum m rest e h (inr w) =
    record {
      within = omega (arith, h.within, w.1.0);
      count = w.1.1 ∙ h.count ∙ ap (λ (n : ℕ). rank_of f v (64 * n)) (sym w.1.0);
      low = omega (arith, h.low, w.1.1);
      above = (λ l. omega (arith, over (lt_or j i), ap (λ (n : ℕ). rank_of f v (64 * (n + 1))) w.1.0));
    }
  where
    over : (j < i) ⊎ (i ≤ j) → k < rank_of f v (64 * (j + 1))
    over (inl l) = h.above l
    over (inr l) = let s : i ≡ j = omega (arith, h.within) in omega (arith, w.0, e, ap (λ (n : ℕ). rank_of f v (64 * (n + 1))) s)

-- of eight words seven are counted: the position in word j gives that in the block, and so does the end
pub passed_place : (ws : List ℕ) (v k j passed left r : ℕ) → Passed (bit_at ws) v k 7 j passed → passed + left ≡ k → r ≡ select_in 64 (get_or ws j 0) v left
    → (r ≤ 64) × (64 * j + r ≡ place_in 512 (select_of (bit_at ws) 512 v k))
passed_place ws v k j passed left r h el e = go (lt_or left (rank_of (bit (get_or ws j 0)) v 64)) (lt_or j 7)
  where
    go : (left < rank_of (bit (get_or ws j 0)) v 64) ⊎ (rank_of (bit (get_or ws j 0)) v 64 ≤ left) → (j < 7) ⊎ (7 ≤ j)
        → (r ≤ 64) × (64 * j + r ≡ place_in 512 (select_of (bit_at ws) 512 v k))
    go (inl l) o =
        let under : rank_of (bit_at ws) v (64 * j) + left ≡ k = omega (arith, h.count) in
        let w = part_select (bit_at ws) (bit (get_or ws j 0)) (64 * j) 64 512 v k left r (λ p m. sym (word_bit ws j p m)) (omega (arith, h.within)) under l e in
        (omega (arith, w.0), w.1)
    go (inr l) (inl o) = absurd (omega (arith, word_rank ws v j, h.count, h.above o))
    go (inr l) (inr o) =
        let er : r ≡ 64 = e ∙ place_in_none (bit (get_or ws j 0)) 64 v left l in
        let top : 64 * (j + 1) ≡ 512 = omega (arith, h.within) in
        let few : rank_of (bit_at ws) v 512 ≤ k = omega (arith, word_rank ws v j, h.count, ap (rank_of (bit_at ws) v) top) in
        let end : 64 * j + r ≡ 512 = omega arith in
        (omega arith, end ∙ sym (place_in_none (bit_at ws) 512 v k few))
