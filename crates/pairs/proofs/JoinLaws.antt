-- Two strips joined by a rule, for any rule: words joined bit by bit join the strips; counting and finding in them, word by word. Then the four rules.
-- Assumes nothing.
use mathlib.Core.Path.{◌≡◌, refl, sym, ap, ap₂, ◌∙◌}
use mathlib.Core.List.{List}
use mathlib.Core.Option.{some, none}
use Prim.Native.Nat.{ℕ, zero, suc, min, max, ◌+◌, ◌-◌, ◌*◌, ◌/◌, ◌%◌, ◌^◌, ◌≤◌, ◌<◌}
use native.Mathlib.Nat.{le_refl}
use native.Mathlib.Omega.{arith}
use lib.ListN.{length, get_or}
use lib.Bits.{bit_and, bit_or, bit_xor}
use lib.Bits as B
use Rattle.words.specs.Bits.{bit, bit_at, ones, list_of}
use Rattle.words.specs.Strip.{cell, strip_of, rank_of, select_of, rank, select}
use Rattle.words.specs.Words.{place_in, select_in}
use Rattle.words.proofs.Sums.{length_list_of, get_or_list_of, list_of_is}
use Rattle.words.proofs.BitLaws.{bit_le, bit_of_and, bit_of_or, bit_of_xor, bit_not}
use Rattle.words.proofs.WordLaws.{word_bit}
use Rattle.words.proofs.SearchLaws.{rank_part, rank_ones, part_select, place_in_below, place_in_past}
use Rattle.words.proofs.StripLaws.{strip_cell, strip_length, listed_rank, listed_select}
use Rattle.pairs.specs.Rules.{both, either, only_first, differ, joined}
use Rattle.pairs.specs.Working.{JoinedWord, joined_bit}

-- ---- any rule
module _ (r : ℕ → ℕ → ℕ) where
  -- the strip that the rule makes of the strips of two lists of words
  pub joined_strip_lem : (ws vs : List ℕ) (n m : ℕ) → n ≡ m → joined r (strip_of ws n) (strip_of vs m) ≡ list_of (joined_bit r ws vs) n
  joined_strip_lem ws vs n m e =
      list_of_is (λ p. r (cell (strip_of ws n) p) (cell (strip_of vs m) p)) (length (strip_of ws n)) (list_of (joined_bit r ws vs) n)
      (length_list_of (joined_bit r ws vs) n ∙ sym (strip_length ws n))
      (λ p l.
      let q : p < n = omega (arith, strip_length ws n) in
      ap₂ r (strip_cell ws n p q) (strip_cell vs m p (omega arith)) ∙ sym (get_or_list_of (joined_bit r ws vs) n p q))

  -- counting in it
  pub joined_rank : (ws vs : List ℕ) (n m i : ℕ) → n ≡ m → i ≤ n
      → rank (joined r (strip_of ws n) (strip_of vs m)) 1 i ≡ rank_of (joined_bit r ws vs) 1 i
  joined_rank ws vs n m i e h = ap (λ (s : List ℕ). rank s 1 i) (joined_strip_lem ws vs n m e) ∙ listed_rank (joined_bit r ws vs) n 1 i h

  -- finding in it
  pub joined_select : (ws vs : List ℕ) (n m k : ℕ) → n ≡ m
      → select (joined r (strip_of ws n) (strip_of vs m)) 1 k ≡ select_of (joined_bit r ws vs) n 1 k
  joined_select ws vs n m k e = ap (λ (s : List ℕ). select s 1 k) (joined_strip_lem ws vs n m e) ∙ listed_select (joined_bit r ws vs) n 1 k

  -- its length
  pub joined_length : (ws vs : List ℕ) (n m : ℕ) → length (joined r (strip_of ws n) (strip_of vs m)) ≡ n
  joined_length ws vs n m = length_list_of (λ p. r (cell (strip_of ws n) p) (cell (strip_of vs m) p)) (length (strip_of ws n)) ∙ strip_length ws n

  -- words j of the two lists, joined bit by bit to z, are the positions from 64 j on
  module _ (ws vs : List ℕ) (j z : ℕ) (join : JoinedWord r (get_or ws j 0) (get_or vs j 0) z) where
    pub joined_word : (p : ℕ) → p < 64 → bit z p ≡ joined_bit r ws vs (64 * j + p)
    joined_word p l = join p l ∙ ap₂ r (sym (word_bit ws j p l)) (sym (word_bit vs j p l))

    -- the ones before position m of that word
    joined_word_ones : (m : ℕ) → m ≤ 64 → rank_of (joined_bit r ws vs) 1 (64 * j) + ones (bit z) m ≡ rank_of (joined_bit r ws vs) 1 (64 * j + m)
    joined_word_ones m l =
        ap (λ (c : ℕ). rank_of (joined_bit r ws vs) 1 (64 * j) + c) (sym (rank_ones (bit z) m (bit_le z)))
        ∙ sym (rank_part (joined_bit r ws vs) (bit z) (64 * j) 64 1 m joined_word l)

    -- all of them: the ones before the next word
    pub joined_next : rank_of (joined_bit r ws vs) 1 (64 * j) + ones (bit z) 64 ≡ rank_of (joined_bit r ws vs) 1 (64 * (j + 1))
    joined_next =
        let e : 64 * j + 64 ≡ 64 * (j + 1) = omega arith in
        joined_word_ones 64 (le_refl 64) ∙ ap (rank_of (joined_bit r ws vs) 1) e

    -- those below position i in the word that i lies in: the ones before i
    pub joined_last : (i : ℕ) → j ≡ i / 64 → rank_of (joined_bit r ws vs) 1 (64 * j) + ones (bit z) (i % 64) ≡ rank_of (joined_bit r ws vs) 1 i
    joined_last i l =
        let e : 64 * j + i % 64 ≡ i = omega arith in
        joined_word_ones (i % 64) (omega arith) ∙ ap (rank_of (joined_bit r ws vs) 1) e

    -- the k-th one lies in that word
    pub joined_word_select : (to k left e : ℕ) → j < to → rank_of (joined_bit r ws vs) 1 (64 * j) + left ≡ k → left < ones (bit z) 64 → e ≡ select_in 64 z 1 left
        → (e < 64) × (select_of (joined_bit r ws vs) (64 * to) 1 k ≡ some (64 * j + e))
    joined_word_select to k left e l ek few ee =
        let w = part_select (joined_bit r ws vs) (bit z) (64 * j) 64 (64 * to) 1 k left e joined_word (omega arith) ek
        (omega (arith, rank_ones (bit z) 64 (bit_le z))) ee in
        (w.0, place_in_below (joined_bit r ws vs) (64 * to) (64 * to) 1 k (64 * j + e) (le_refl (64 * to)) w.1 (omega (arith, w.0)))

  -- so a function on words that joins bit by bit joins the strips: words zs, each that has a position below n so joined, hold the joined strip
  pub joined_words : (ws vs zs : List ℕ) (n m : ℕ) → n ≡ m → ((j : ℕ) → 64 * j < n → JoinedWord r (get_or ws j 0) (get_or vs j 0) (get_or zs j 0))
      → strip_of zs n ≡ joined r (strip_of ws n) (strip_of vs m)
  joined_words ws vs zs n m e join =
      list_of_is (bit_at zs) n (list_of (joined_bit r ws vs) n) (length_list_of (joined_bit r ws vs) n) (λ p l.
      let at : 64 * (p / 64) + p % 64 ≡ p = omega arith in
      joined_word ws vs (p / 64) (get_or zs (p / 64) 0) (join (p / 64) (omega arith)) (p % 64) (omega arith)
      ∙ ap (joined_bit r ws vs) at
      ∙ sym (get_or_list_of (joined_bit r ws vs) n p l))
      ∙ sym (joined_strip_lem ws vs n m e)

-- ---- what a find among m cells says of one among the first n of them
module _ (f : ℕ → ℕ) (n m k : ℕ) (h : n ≤ m) where
  -- a position below n is theirs
  pub kth_below : (p : ℕ) → select_of f m 1 k ≡ some p → p < n → select_of f n 1 k ≡ some p
  kth_below p e l = place_in_below f n m 1 k p h (ap (place_in m) (sym e)) l

  -- one past them is not
  pub kth_past : (p : ℕ) → select_of f m 1 k ≡ some p → n ≤ p → select_of f n 1 k ≡ none
  kth_past p e l = place_in_past f n m 1 k p h (ap (place_in m) (sym e)) l

  -- no position, none there either
  pub kth_none : select_of f m 1 k ≡ none → select_of f n 1 k ≡ none
  kth_none e = place_in_past f n m 1 k m h (ap (place_in m) (sym e)) h

-- ---- the four rules
-- what holds of the four pairs of bits holds of any two bits
pub of_bits : (P : ℕ → ℕ → Type 0) → P 0 0 → P 0 1 → P 1 0 → P 1 1 → (a b : ℕ) → a ≤ 1 → b ≤ 1 → P a b
of_bits P p0 p1 p2 p3 zero zero la lb = p0
of_bits P p0 p1 p2 p3 zero (suc zero) la lb = p1
of_bits P p0 p1 p2 p3 (suc zero) zero la lb = p2
of_bits P p0 p1 p2 p3 (suc zero) (suc zero) la lb = p3
of_bits P p0 p1 p2 p3 (suc (suc a)) b la lb = absurd (omega arith)
of_bits P p0 p1 p2 p3 zero (suc (suc b)) la lb = absurd (omega arith)
of_bits P p0 p1 p2 p3 (suc zero) (suc (suc b)) la lb = absurd (omega arith)

-- so a word whose bits are joined by g is joined by the rule r
by_table : (g r : ℕ → ℕ → ℕ) (x y z : ℕ) → g 0 0 ≡ r 0 0 → g 0 1 ≡ r 0 1 → g 1 0 ≡ r 1 0 → g 1 1 ≡ r 1 1 → JoinedWord g x y z → JoinedWord r x y z
by_table g r x y z e0 e1 e2 e3 h p l = h p l ∙ of_bits (λ a b. g a b ≡ r a b) e0 e1 e2 e3 (bit x p) (bit y p) (bit_le x p) (bit_le y p)

pub joined_both : (x y : ℕ) → JoinedWord both x y (bit_and x y)
joined_both x y = by_table min both x y (bit_and x y) refl refl refl refl (λ p l. bit_of_and x y p)

pub joined_either : (x y : ℕ) → JoinedWord either x y (bit_or x y)
joined_either x y = by_table max either x y (bit_or x y) refl refl refl refl (λ p l. bit_of_or x y p)

pub joined_only_first : (x y : ℕ) → y < 2 ^ 64 → JoinedWord only_first x y (bit_and x ((2 ^ 64 - 1) - y))
joined_only_first x y h =
    by_table (λ a b. min a (1 - b)) only_first x y (bit_and x ((2 ^ 64 - 1) - y)) refl refl refl refl
    (λ p l. bit_of_and x ((2 ^ 64 - 1) - y) p ∙ ap (min (bit x p)) (bit_not 64 y p h l))

pub joined_differ : (x y : ℕ) → JoinedWord differ x y (bit_xor x y)
joined_differ x y = by_table B.differ differ x y (bit_xor x y) refl refl refl refl (λ p l. bit_of_xor x y p)
