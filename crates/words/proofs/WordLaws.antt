-- The laws of a written word, of the bits that hold a value, and of a list of words as one list of bits. Assumes nothing.
use Rattle.std.proofs.Common.{◌≡◌, ℕ, zero, suc, ◌+◌, ◌-◌, ◌*◌, ◌/◌, ◌%◌, ◌^◌, ◌<◌, ◌≤◌, Bool, true, false, cond, eqb, ◌⊎◌, List, length, get_or, take, drop, sym, refl, ap, ◌∙◌, ap₂, inl, inr, zero-le, le_refl, length-take, length-drop, one-mul, arith, eq-eqb, ne_eqb}
use lib.ListN.{get_or-eq_default}
use lib.Bits.{bit_and, bit_or, bit_xor, differ}
use Rattle.words.specs.Bits.{bit, bit_at, ones}
use Rattle.words.specs.Strip.{as_bit, holds}
use Rattle.words.specs.Working.{WordPut, Matched}
use Rattle.words.proofs.Sums.{lt_or, sum_more, sum_range, part_ones, part_at_lem}
use Rattle.words.proofs.BitLaws.{bit_lt, bit_le, zero_bit, bit_of_xor, bit_of_and, bit_of_or, bit_not, bit_high, differ_one, differ_zero, mask, mask_in, mask_below, mask_above, mask_lt, mask_one}

-- ---- bits that hold a value
pub holds_yes : (f : ℕ → ℕ) (v p : ℕ) → f p ≡ v → holds f v p ≡ 1
holds_yes f v p e = simp (eq-eqb (f p) v e)

pub holds_no : (f : ℕ → ℕ) (v p : ℕ) → (f p ≡ v → ⊥) → holds f v p ≡ 0
holds_no f v p n = simp (ne_eqb (f p) v n)

-- a value that is a bit, as a truth value and back
pub as_bit_of : (v : ℕ) → v ≤ 1 → as_bit (eqb v 1) ≡ v
as_bit_of zero h = refl
as_bit_of (suc zero) h = refl
as_bit_of (suc (suc v)) h = absurd (omega arith)

-- it is at most 1
pub as_bit_le : (b : Bool) → as_bit b ≤ 1
as_bit_le true = le_refl 1
as_bit_le false = zero-le

-- for bits: v = 1 is the bit itself, v = 0 its opposite
pub holds_bit : (f : ℕ → ℕ) (v p : ℕ) → f p ≤ 1 → v ≤ 1 → holds f v p ≡ (f p * v) + (1 - f p) * (1 - v)
holds_bit f v p lf lv = go (lt_or (f p) 1) (lt_or v 1)
  where
    go : (f p < 1) ⊎ (1 ≤ f p) → (v < 1) ⊎ (1 ≤ v) → holds f v p ≡ (f p * v) + (1 - f p) * (1 - v)
    go (inl a) (inl b) =
        let x : f p ≡ 0 = omega arith in
        let y : v ≡ 0 = omega arith in
        holds_yes f v p (x ∙ sym y) ∙ sym (ap₂ (λ (m n : ℕ). (m * n) + (1 - m) * (1 - n)) x y)
    go (inl a) (inr b) =
        let x : f p ≡ 0 = omega arith in
        let y : v ≡ 1 = omega arith in
        holds_no f v p (λ e. omega arith) ∙ sym (ap₂ (λ (m n : ℕ). (m * n) + (1 - m) * (1 - n)) x y)
    go (inr a) (inl b) =
        let x : f p ≡ 1 = omega arith in
        let y : v ≡ 0 = omega arith in
        holds_no f v p (λ e. omega arith) ∙ sym (ap₂ (λ (m n : ℕ). (m * n) + (1 - m) * (1 - n)) x y)
    go (inr a) (inr b) =
        let x : f p ≡ 1 = omega arith in
        let y : v ≡ 1 = omega arith in
        holds_yes f v p (x ∙ sym y) ∙ sym (ap₂ (λ (m n : ℕ). (m * n) + (1 - m) * (1 - n)) x y)

pub holds_one : (f : ℕ → ℕ) (p : ℕ) → f p ≤ 1 → holds f 1 p ≡ f p
holds_one f p l = omega (arith, holds_bit f 1 p l (native.Mathlib.Nat.le_refl 1))

pub holds_zero : (f : ℕ → ℕ) (p : ℕ) → f p ≤ 1 → holds f 0 p ≡ 1 - f p
holds_zero f p l = omega (arith, holds_bit f 0 p l Prim.Native.Nat.zero-le)

pub holds_le : (f : ℕ → ℕ) (v p : ℕ) → holds f v p ≤ 1
holds_le f v p = go (eqb (f p) v)
  where
    go : (b : mathlib.Core.Bool.Bool) → cond b 1 0 ≤ 1
    go mathlib.Core.Bool.true = native.Mathlib.Nat.le_refl 1
    go mathlib.Core.Bool.false = Prim.Native.Nat.zero-le

-- ---- a word with some bits written
pub written_set : (x n a : ℕ) → WordPut x a (a + n) 1 (bit_or x (mask n a))
written_set x n a =
    record {
      inside = (λ p l h. bit_of_or x (mask n a) p ∙ omega (arith, mask_in n a p l h, bit_lt x p));
      under = (λ p h. bit_of_or x (mask n a) p ∙ omega (arith, mask_below n a p h));
      over = (λ p h. bit_of_or x (mask n a) p ∙ omega (arith, mask_above n a p h));
    }

pub written_clear : (x n a : ℕ) → x < 2 ^ 64 → n + a ≤ 64 → WordPut x a (a + n) 0 (bit_and x ((2 ^ 64 - 1) - mask n a))
written_clear x n a hx h =
    let lm : mask n a < 2 ^ 64 = mask_lt n a 64 h in
    record {
      inside = (λ p l u. bit_of_and x ((2 ^ 64 - 1) - mask n a) p ∙ omega (arith, bit_not 64 (mask n a) p lm (omega arith), mask_in n a p l u));
      under = (λ p u. bit_of_and x ((2 ^ 64 - 1) - mask n a) p ∙ omega (arith, bit_not 64 (mask n a) p lm (omega arith), mask_below n a p u, bit_lt x p));
      over = (λ p u. go p u (lt_or p 64));
    }
  where
    go : (p : ℕ) → a + n ≤ p → (p < 64) ⊎ (64 ≤ p) → bit (bit_and x ((2 ^ 64 - 1) - mask n a)) p ≡ bit x p
    go p u (inl l) =
        bit_of_and x ((2 ^ 64 - 1) - mask n a) p ∙ omega (arith, bit_not 64 (mask n a) p (mask_lt n a 64 h) l, mask_above n a p u, bit_lt x p)
    go p u (inr l) = bit_of_and x ((2 ^ 64 - 1) - mask n a) p ∙ omega (arith, bit_high x 64 p hx l)

pub written_flip : (x i : ℕ) → WordPut x i (i + 1) (1 - bit x i) (bit_xor x (2 ^ i))
written_flip x i =
    let m : 2 ^ i ≡ mask 1 i = sym (mask_one i) in
    let flipped : (p b : ℕ) → bit (mask 1 i) p ≡ b → bit (bit_xor x (2 ^ i)) p ≡ differ (bit x p) b =
    (λ p b e. bit_of_xor x (2 ^ i) p ∙ ap (λ (n : ℕ). differ (bit x p) (bit n p)) m ∙ ap (differ (bit x p)) e) in
    record {
      inside = (λ p l h.
          let e : p ≡ i = omega arith in
          flipped p 1 (mask_in 1 i p l h) ∙ differ_one (bit x p) (bit_lt x p) ∙ ap (λ (q : ℕ). 1 - bit x q) e);
      under = (λ p h. flipped p 0 (mask_below 1 i p h) ∙ differ_zero (bit x p));
      over = (λ p h. flipped p 0 (mask_above 1 i p h) ∙ differ_zero (bit x p));
    }

-- the ones move by the range: those of x between a and e go, and e - a times b come
pub written_ones : (x a e b r n : ℕ) → WordPut x a e b r → a ≤ e → e ≤ n
    → ones (bit r) n + ones (bit x) e ≡ ones (bit x) n + (ones (bit x) a + (e - a) * b)
written_ones x a e b r n w la le =
    sum_range (bit r) (bit x) a e n b la le w.under w.inside (λ p l u. w.over p l)

-- one bit: the ones move by the new bit and the old
pub written_one : (x i b r n : ℕ) → WordPut x i (i + 1) b r → i < n → ones (bit r) n + bit x i ≡ ones (bit x) n + b
written_one x i b r n w l =
    omega (arith, written_ones x i (i + 1) b r n w (omega arith) (omega arith), sum_more (bit x) i, ap (λ (k : ℕ). k * b) (only i), one-mul b)
  where
    only : (i : ℕ) → i + 1 - i ≡ 1
    only i = omega arith

pub matched_zero : (x : ℕ) → x < 2 ^ 64 → Matched x 0 ((2 ^ 64 - 1) - x)
matched_zero x h p l = bit_not 64 x p h l ∙ sym (holds_zero (bit x) p (bit_le x p))

-- ---- a list of words
-- position 64 j + i is bit i of word j
pub word_bit : (ws : List ℕ) (j i : ℕ) → i < 64 → bit_at ws (64 * j + i) ≡ bit (get_or ws j 0) i
word_bit ws j i h =
    let q : (64 * j + i) / 64 ≡ j = omega arith in
    let m : (64 * j + i) % 64 ≡ i = omega arith in
    ap₂ (λ (a b : ℕ). bit (get_or ws a 0) b) q m

-- the ones below position 64 j + i
pub word_ones : (ws : List ℕ) (j i : ℕ) → i ≤ 64 → ones (bit_at ws) (64 * j + i) ≡ ones (bit_at ws) (64 * j) + ones (bit (get_or ws j 0)) i
word_ones ws j i h = part_ones (bit_at ws) (bit (get_or ws j 0)) (64 * j) 64 i (λ p l. sym (word_bit ws j p l)) h

-- those below position p, which is position i of word j
pub ones_before : (ws : List ℕ) (j i p : ℕ) → i ≤ 64 → p ≡ 64 * j + i → ones (bit_at ws) p ≡ ones (bit_at ws) (64 * j) + ones (bit (get_or ws j 0)) i
ones_before ws j i p h e = ap (ones (bit_at ws)) e ∙ word_ones ws j i h

pub bit_at_le : (ws : List ℕ) (p : ℕ) → bit_at ws p ≤ 1
bit_at_le ws p = bit_le (get_or ws (p / 64) 0) (p % 64)

-- no position past the words is set
pub bit_at_past : (ws : List ℕ) (p : ℕ) → 64 * length ws ≤ p → bit_at ws p ≡ 0
bit_at_past ws p h = ap (λ (w : ℕ). bit w (p % 64)) (get_or-eq_default ws 0 {n = p / 64} (omega arith)) ∙ zero_bit (p % 64)

-- position p of the n words from word k on
pub part_bit : (ws : List ℕ) (k n p : ℕ) → p < 64 * n → bit_at (take n (drop k ws)) p ≡ bit_at ws (64 * k + p)
part_bit ws k n p h =
    ap (λ (w : ℕ). bit w (p % 64)) (part_at_lem ws k n 0 (p / 64) (omega arith))
    ∙ ap₂ (λ (a b : ℕ). bit (get_or ws a 0) b) (omega arith) (omega arith)

-- position p of block b, whose words are eight
pub block_bit : (ws : List ℕ) (b n p : ℕ) → n ≡ 8 → p < 512 → bit_at (take n (drop (8 * b) ws)) p ≡ bit_at ws (512 * b + p)
block_bit ws b n p e h = part_bit ws (8 * b) n p (omega arith) ∙ ap (bit_at ws) (omega arith)

-- the ones of the words from word `from` on, up to word `to`
pub slice_ones : (ws : List ℕ) (from to : ℕ) → from ≤ to → to ≤ length ws
    → let vs = take (to - from) (drop from ws) in
    ones (bit_at ws) (64 * from) + ones (bit_at vs) (64 * length vs) ≡ ones (bit_at ws) (64 * to)
slice_ones ws from to l u =
    let n : length (take (to - from) (drop from ws)) ≡ to - from = rw (length-take, length-drop) (omega arith) in
    let m : 64 * from + 64 * (to - from) ≡ 64 * to = omega arith in
    rw n (sym (part_ones (bit_at ws) (bit_at (take (to - from) (drop from ws))) (64 * from) (64 * (to - from)) (64 * (to - from))
    (λ p h. part_bit ws from (to - from) p h) (le_refl (64 * (to - from)))) ∙ ap (ones (bit_at ws)) m)
