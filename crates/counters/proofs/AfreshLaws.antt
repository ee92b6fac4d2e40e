-- A record that fits is the one laid afresh from its strip: lengths, elements, and both ways between the two. Assumes nothing.
use Rattle.std.proofs.Common.{◌≡◌, ℕ, zero, suc, ◌+◌, ◌-◌, ◌*◌, ◌/◌, ◌%◌, ◌^◌, ◌<◌, ◌≤◌, ◌⊎◌, List, [], ◌∷◌, ◌++◌, length, get_or, replicate, sym, refl, ap, ◌∙◌, ap₂, inl, inr, one-mul, arith, length-append, get_or-append-add, ext_get_or}
use mathlib.Core.Path.{fun_ext}
use lib.ListN.{get_or-append, get_or-eq_default, replicate-append-replicate}
use Rattle.words.specs.Bits.{bit, bit_at, ones, digits, list_of}
use Rattle.words.specs.Strip.{cell, strip_of, total_of}
use Rattle.words.specs.Handles.{handle_of}
use Rattle.words.specs.declared.handle.Handle.{Handle}
use Rattle.words.proofs.Sums.{lt_or, sum_none, sum_flat, ones_le, list_of_is, length_list_of, get_or_list_of}
use Rattle.words.proofs.WordLaws.{word_bit, bit_at_past}
use Rattle.words.proofs.DigitLaws.{field, digits_ext, digits_at, digits_of}
use Rattle.words.proofs.StripLaws.{strip_cell, strip_length, strip_total}
use Rattle.counters.specs.Tree.{blocks_of, nodes, height, child_bits, child_ones, from_child, to_child, counter, total, counter_count, index_of, levels}
use Rattle.counters.specs.Record.{Fits, packed_words, built_counters}
use Rattle.counters.proofs.TreeLaws.{total_zero, total_suc, total_mono, counter_children, counter_prefix, index_is, index_cover}

-- ---- counters and levels of equal strips
-- equal bits, equal counters
pub counter_ext : (f g : ℕ → ℕ) (t j i : ℕ) → ((p : ℕ) → f p ≡ g p) → counter f t j i ≡ counter g t j i
counter_ext f g t j i h = ap (λ (k : ℕ → ℕ). counter k t j i) (fun_ext h)

-- equal bits, equal levels
pub levels_ext : (f g : ℕ → ℕ) (n t : ℕ) → ((p : ℕ) → f p ≡ g p) → levels f n t ≡ levels g n t
levels_ext f g n t h = ap (λ (k : ℕ → ℕ). levels k n t) (fun_ext h)

-- ---- the levels as one list
-- the counters of level t, node by node
abbrev level : (ℕ → ℕ) → ℕ → ℕ → List ℕ
level f n t = list_of (λ y. counter f t (y / 72) (y % 72)) (72 * nodes n t)

-- 72 counters for each node of the levels t to 1
pub levels_length : (f : ℕ → ℕ) (n t : ℕ) → length (levels f n t) ≡ 72 * total n t
unfolding levels
levels_length f n zero = omega (arith, total_zero n)
levels_length f n (suc t) =
    length-append (level f n (suc t)) (levels f n t)
    ∙ omega (arith, length_list_of (λ y. counter f (suc t) (y / 72) (y % 72)) (72 * nodes n (suc t)), levels_length f n t, total_suc n t)

-- counter i of node j of level t, in the levels s to 1
levels_in : (f : ℕ → ℕ) (n s t j i : ℕ) → 1 ≤ t → t ≤ s → j < nodes n t → i < 72
    → get_or (levels f n s) (72 * (total n s - total n t) + 72 * j + i) 0 ≡ counter f t j i
unfolding levels
levels_in f n zero t j i a b c d = absurd (omega arith)
levels_in f n (suc s) t j i a b c d = go (lt_or s t) (levels_in f n s t j i a)
  where
    this : List ℕ
    this = level f n (suc s)

    size : length this ≡ 72 * nodes n (suc s)
    size = length_list_of (λ y. counter f (suc s) (y / 72) (y % 72)) (72 * nodes n (suc s))

    go : (s < t) ⊎ (t ≤ s) → (t ≤ s → j < nodes n t → i < 72 → get_or (levels f n s) (72 * (total n s - total n t) + 72 * j + i) 0 ≡ counter f t j i)
        → get_or (this ++ levels f n s) (72 * (total n (suc s) - total n t) + 72 * j + i) 0 ≡ counter f t j i
    go (inl l) ih =
        let e : t ≡ suc s = omega arith in
        let x : 72 * (total n (suc s) - total n t) + 72 * j + i ≡ 72 * j + i = omega (arith, ap (total n) e) in
        let low : 72 * j + i < 72 * nodes n (suc s) = omega (arith, ap (nodes n) e) in
        ap (λ (k : ℕ). get_or (this ++ levels f n s) k 0) x
        ∙ get_or-append this (levels f n s) 0 (72 * j + i) (omega (arith, size))
        ∙ get_or_list_of (λ y. counter f (suc s) (y / 72) (y % 72)) (72 * nodes n (suc s)) (72 * j + i) low
        ∙ ap₂ (λ (u v : ℕ). counter f (suc s) u v) (omega arith) (omega arith)
        ∙ ap (λ (k : ℕ). counter f k j i) (sym e)
    go (inr l) ih =
        let r : ℕ = 72 * (total n s - total n t) + 72 * j + i in
        let x : 72 * (total n (suc s) - total n t) + 72 * j + i ≡ length this + r = omega (arith, size, total_suc n s, total_mono n l) in
        ap (λ (k : ℕ). get_or (this ++ levels f n s) k 0) x ∙ get_or-append-add this (levels f n s) r 0 ∙ ih l c d

-- where it stands in all levels
pub levels_at : (f : ℕ → ℕ) (n t j i : ℕ) → 1 ≤ t → t ≤ height n → j < nodes n t → i < 72
    → get_or (levels f n (height n)) (index_of n t j i) 0 ≡ counter f t j i
levels_at f n t j i a b c d = ap (λ (x : ℕ). get_or (levels f n (height n)) x 0) (index_is n t j i) ∙ levels_in f n (height n) t j i a b c d

-- ---- a word and its bits
-- a word from its bits
pub bits_word : (x : ℕ) → x < 2 ^ 64 → digits 2 (bit x) 64 ≡ x
bits_word x h =
    digits_ext 2 (bit x) (field 1 x) 64 (λ i l. ap (λ (e : ℕ). x / 2 ^ e % 2) (sym (one-mul i))) ∙ sym (digits_of 1 64 x h)

-- the bits of a word from bits
pub word_bits : (g : ℕ → ℕ) (j : ℕ) → ((i : ℕ) → i < 64 → g i < 2) → j < 64 → bit (digits 2 g 64) j ≡ g j
word_bits g j h l = ap (λ (e : ℕ). digits 2 g 64 / 2 ^ e % 2) (sym (one-mul j)) ∙ digits_at 1 g 64 j h l

-- ---- strips of bits
-- bits at the cells that a strip has: bits at all
pub bits_all : (s : List ℕ) → ((p : ℕ) → p < length s → cell s p ≤ 1) → (p : ℕ) → cell s p ≤ 1
bits_all s bits p = go (lt_or p (length s))
  where
    go : (p < length s) ⊎ (length s ≤ p) → cell s p ≤ 1
    go (inl l) = bits p l
    go (inr l) = omega (arith, get_or-eq_default s 0 {n = p} l)

-- ---- laid afresh from a strip
-- as many words as the capacity has
pub words_length : (c : ℕ) (s : List ℕ) → length (packed_words c s) ≡ c / 64
unfolding packed_words
words_length c s = length_list_of (λ k. digits 2 (λ j. cell s (64 * k + j)) 64) (c / 64)

-- as many counters as the capacity needs
pub counters_length : (c : ℕ) (s : List ℕ) → length (built_counters c s) ≡ counter_count (blocks_of c)
unfolding built_counters
counters_length c s = levels_length (cell s) (blocks_of c) (height (blocks_of c))

-- word k
pub words_at : (c : ℕ) (s : List ℕ) (k : ℕ) → k < c / 64 → get_or (packed_words c s) k 0 ≡ digits 2 (λ j. cell s (64 * k + j)) 64
unfolding packed_words
words_at c s k h = get_or_list_of (λ k. digits 2 (λ j. cell s (64 * k + j)) 64) (c / 64) k h

-- counter i of node j of level t
pub counters_at : (c : ℕ) (s : List ℕ) (t j i : ℕ) → 1 ≤ t → t ≤ height (blocks_of c) → j < nodes (blocks_of c) t → i < 72
    → get_or (built_counters c s) (index_of (blocks_of c) t j i) 0 ≡ counter (cell s) t j i
unfolding built_counters
counters_at c s t j i = levels_at (cell s) (blocks_of c) t j i

module _ (c : ℕ) (s : List ℕ) (whole : c % 512 ≡ 0) (within : length s ≤ c) (bits : (p : ℕ) → cell s p ≤ 1) where
  -- the words hold the strip's bits, and zeros past it
  pub bit_at_packed : (p : ℕ) → bit_at (packed_words c s) p ≡ cell s p
  bit_at_packed p = go (lt_or (p / 64) (c / 64))
    where
      go : (p / 64 < c / 64) ⊎ (c / 64 ≤ p / 64) → bit_at (packed_words c s) p ≡ cell s p
      go (inl l) =
          ap (λ (w : ℕ). bit w (p % 64)) (words_at c s (p / 64) l)
          ∙ word_bits (λ j. cell s (64 * (p / 64) + j)) (p % 64) (λ i q. omega (arith, bits (64 * (p / 64) + i))) (omega arith)
          ∙ ap (cell s) (omega arith)
      go (inr l) =
          bit_at_past (packed_words c s) p (omega (arith, words_length c s))
          ∙ sym (get_or-eq_default s 0 {n = p} (omega arith))

  -- so the strip is read back
  pub strip_packed : strip_of (packed_words c s) (length s) ≡ s
  strip_packed =
      list_of_is (bit_at (packed_words c s)) (length s) s refl (λ p l. bit_at_packed p)

  -- and the record fits
  pub built_fits : Fits (handle_of c s) (packed_words c s) (built_counters c s)
  built_fits =
      record {
        clean = (λ p l. bit_at_packed p ∙ get_or-eq_default s 0 {n = p} l);
        right = (λ t j i a b d e. counters_at c s t j i a b d e ∙ counter_ext (cell s) (bit_at (packed_words c s)) t j i (λ p. sym (bit_at_packed p)));
        held = ap total_of (sym strip_packed);
      }

-- ---- a record that fits
-- its words' bits are those of its strip, at every position
pub fits_cell : (h : Handle) (ws cs : List ℕ) → Fits h ws cs → (p : ℕ) → cell (strip_of ws h.length) p ≡ bit_at ws p
fits_cell h ws cs fit p = go (lt_or p h.length)
  where
    go : (p < h.length) ⊎ (h.length ≤ p) → cell (strip_of ws h.length) p ≡ bit_at ws p
    go (inl l) = strip_cell ws h.length p l
    go (inr l) =
        get_or-eq_default (strip_of ws h.length) 0 {n = p} (omega (arith, strip_length ws h.length)) ∙ sym (fit.clean p l)

-- its total is the ones of its words before the length
pub fits_total : (h : Handle) (ws cs : List ℕ) → Fits h ws cs → h.total ≡ ones (bit_at ws) h.length
fits_total h ws cs fit = fit.held ∙ strip_total ws h.length

-- it is the one laid afresh from its strip
pub fits_built : (h : Handle) (ws cs : List ℕ) → length ws ≡ h.capacity / 64 → length cs ≡ counter_count (blocks_of h.capacity)
    → ((k : ℕ) → get_or ws k 0 < 2 ^ 64) → Fits h ws cs
    → (ws ≡ packed_words h.capacity (strip_of ws h.length)) × (cs ≡ built_counters h.capacity (strip_of ws h.length))
fits_built h ws cs lw lc small fit =
    (ext_get_or 0 ws (packed_words c s) (lw ∙ sym (words_length c s)) word, ext_get_or 0 cs (built_counters c s) (lc ∙ sym (counters_length c s)) counted)
  where
    c : ℕ
    c = h.capacity

    s : List ℕ
    s = strip_of ws h.length

    word : (k : ℕ) → k < length ws → get_or ws k 0 ≡ get_or (packed_words c s) k 0
    word k l =
        sym (bits_word (get_or ws k 0) (small k))
        ∙ digits_ext 2 (bit (get_or ws k 0)) (λ j. cell s (64 * k + j)) 64 (λ j q. sym (fits_cell h ws cs fit (64 * k + j) ∙ word_bit ws k j q))
        ∙ sym (words_at c s k (omega arith))

    counted : (x : ℕ) → x < length cs → get_or cs x 0 ≡ get_or (built_counters c s) x 0
    counted x l = at (index_cover (blocks_of c) x (omega arith))
      where
        at : (t : ℕ) × ((j : ℕ) × ((i : ℕ) × ((1 ≤ t) × ((t ≤ height (blocks_of c)) × ((j < nodes (blocks_of c) t) × ((i < 72) × (x ≡ index_of (blocks_of c) t j i)))))))
            → get_or cs x 0 ≡ get_or (built_counters c s) x 0
        at (t, (j, (i, (p, (q, (r, (u, e))))))) =
            ap (λ (y : ℕ). get_or cs y 0) e
            ∙ fit.right t j i p q r u
            ∙ counter_ext (bit_at ws) (cell s) t j i (λ k. sym (fits_cell h ws cs fit k))
            ∙ sym (counters_at c s t j i p q r u)
            ∙ ap (λ (y : ℕ). get_or (built_counters c s) y 0) (sym e)

-- ---- bounds and zeros
-- bits that are 0 from c on: at most c ones
pub ones_bound : (f : ℕ → ℕ) (c n : ℕ) → ((p : ℕ) → f p ≤ 1) → ((p : ℕ) → c ≤ p → f p ≡ 0) → ones f n ≤ c
ones_bound f c n small past = go (lt_or n c)
  where
    go : (n < c) ⊎ (c ≤ n) → ones f n ≤ c
    go (inl l) = omega (arith, ones_le f n small)
    go (inr l) =
        omega (arith, ones_le f c small, sum_flat f c n l past)

-- every counter of an allowed capacity is below 2 ^ 32
pub counter_lt : (f : ℕ → ℕ) (t j i : ℕ) → i < 72 → ((p : ℕ) → f p ≤ 1) → ((p : ℕ) → 134217728 ≤ p → f p ≡ 0) → counter f t j i < 2 ^ 32
counter_lt f t j i h small past =
    omega (arith, counter_prefix f t j i h, ones_bound f 134217728 (child_bits t * (64 * j + to_child i)) small past)

-- no bit set, no counter
pub counter_zero : (f : ℕ → ℕ) (t j i : ℕ) → ((p : ℕ) → f p ≡ 0) → counter f t j i ≡ 0
unfolding child_ones
counter_zero f t j i h =
    counter_children f t j i
    ∙ sum_none (λ m. child_ones f t (64 * j + from_child i + m)) (to_child i - from_child i)
    (λ m q. sum_none (λ p. f (child_bits t * (64 * j + from_child i + m) + p)) (child_bits t) (λ p l. h (child_bits t * (64 * j + from_child i + m) + p)))

-- a list of equal elements
list_of_same : (f : ℕ → ℕ) (b n : ℕ) → ((p : ℕ) → f p ≡ b) → list_of f n ≡ replicate n b
unfolding list_of
list_of_same f b zero h = refl
list_of_same f b (suc n) h = ap₂ (λ (x : ℕ) (l : List ℕ). x ∷ l) (h zero) (list_of_same (λ i. f (suc i)) b n (λ p. h (suc p)))

-- no bit set: every level is zeros
pub levels_zero : (f : ℕ → ℕ) (n t : ℕ) → ((p : ℕ) → f p ≡ 0) → levels f n t ≡ replicate (72 * total n t) 0
unfolding levels
levels_zero f n zero h = ap (λ (k : ℕ). replicate (72 * k) 0) (sym (total_zero n))
levels_zero f n (suc t) h =
    let e : 72 * nodes n (suc t) + 72 * total n t ≡ 72 * total n (suc t) = omega (arith, total_suc n t) in
    ap₂ (λ (x y : List ℕ). x ++ y)
    (list_of_same (λ y. counter f (suc t) (y / 72) (y % 72)) 0 (72 * nodes n (suc t)) (λ y. counter_zero f (suc t) (y / 72) (y % 72) h))
    (levels_zero f n t h)
    ∙ replicate-append-replicate (72 * nodes n (suc t)) (72 * total n t) 0
    ∙ ap (λ (k : ℕ). replicate k 0) e

-- the empty strip laid afresh: words of zeros
pub words_zero : (c : ℕ) → packed_words c [] ≡ replicate (c / 64) 0
unfolding packed_words digits
words_zero c = list_of_same (λ k. digits 2 (λ j. cell [] (64 * k + j)) 64) 0 (c / 64) (λ k. refl)

-- and counters of zeros
pub counters_zero : (c : ℕ) → built_counters c [] ≡ replicate (counter_count (blocks_of c)) 0
unfolding built_counters
counters_zero c = levels_zero (cell []) (blocks_of c) (height (blocks_of c)) (λ p. refl)
