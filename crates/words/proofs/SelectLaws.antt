-- Select in a word by its bytes: which byte, how many ones before it, and the position. Assumes nothing.
use Rattle.std.proofs.Common.{◌≡◌, ℕ, zero, suc, ◌+◌, ◌-◌, ◌*◌, ◌/◌, ◌%◌, ◌^◌, ◌<◌, ◌≤◌, cond, leb, sym, ap, ◌∙◌, subst, le_refl, div-one, mul-div_cancel, arith, lit≤}
use native.Mathlib.Nat.{mul-mod_left}
use lib.Pow as W
use Rattle.words.specs.Bits.{bit, ones}
use Rattle.words.specs.Strip.{holds, rank_of}
use Rattle.words.specs.Words.{byte_of, ones_in_byte, Prefixes, place_in, select_in}
use Rattle.words.specs.Working.{Matched, at_most}
use Rattle.words.proofs.Sums.{sum_zero, sum_suc, sum_ext, ones_le, sum_mono}
use Rattle.words.proofs.WordLaws.{holds_one}
use Rattle.words.proofs.BitLaws.{bit_le, byte_bit, byte_ones}
use Rattle.words.proofs.SearchLaws.{KthAt, Reached, reached, select_ext, place_in_lem, place_in_at, place_in_none, place_in_place, rank_ones}

-- the ones of the first j bytes
pub bytes_ones : (x j : ℕ) → ones (ones_in_byte x) j ≡ ones (bit x) (8 * j)
bytes_ones x zero = sum_zero (ones_in_byte x) ∙ sym (sum_zero (bit x))
bytes_ones x (suc j) =
    let e : 8 * suc j ≡ 8 * j + 8 = omega arith in
    sum_suc (ones_in_byte x) j
    ∙ ap (λ (n : ℕ). n + ones_in_byte x j) (bytes_ones x j)
    ∙ sym (ap (ones (bit x)) e ∙ byte_ones x (8 * j) 8 (lit≤ tt))

-- ---- the byte that holds the k-th one
-- the ones of bytes 0 to j
abbrev upto : ℕ → ℕ → ℕ
upto x j = ones (bit x) (8 * j + 8)

upto_is : (x s j : ℕ) → Prefixes x s → j < 8 → byte_of s j ≡ upto x j
upto_is x s j h l = let e : 8 * (j + 1) ≡ 8 * j + 8 = omega arith in h j l ∙ bytes_ones x (j + 1) ∙ ap (ones (bit x)) e

-- no prefix sum is above 64
pub prefix_le : (x s j : ℕ) → Prefixes x s → j < 8 → byte_of s j ≤ 64
prefix_le x s j h l = omega (arith, upto_is x s j h l, ones_le (bit x) (8 * j + 8) (bit_le x))

pub byte_reached : (x s k c : ℕ) → Prefixes x s → c ≡ ones (at_most (byte_of s) k) 8 → Reached (upto x) k 8 c
byte_reached x s k c h e =
    let same : ones (at_most (byte_of s) k) 8 ≡ ones (at_most (upto x) k) 8 =
    sum_ext (at_most (byte_of s) k) (at_most (upto x) k) 8 (λ j l. ap (λ (n : ℕ). cond (leb n k) 1 0) (upto_is x s j h l)) in
    subst (λ (n : ℕ). Reached (upto x) k 8 n) (sym (e ∙ same)) (reached (upto x) k 8 (λ i j l. sum_mono (bit x) (omega arith)))

-- the sums shifted up by a lane: lane j has the ones before byte j
pub under_is : (x s j : ℕ) → Prefixes x s → j < 8 → (s * 2 ^ 8) % 2 ^ 64 / 2 ^ (8 * j) % 2 ^ 8 ≡ ones (bit x) (8 * j)
under_is x s j h l =
    let e : (64 - 8 * j) + 8 * j ≡ 64 = omega arith in
    let d : (56 - 8 * j) + 8 ≡ 64 - 8 * j = omega arith in
    ap (λ (n : ℕ). (s * 2 ^ 8) % 2 ^ n / 2 ^ (8 * j) % 2 ^ 8) (sym e)
    ∙ ap (λ (n : ℕ). n % 2 ^ 8) (W.field (s * 2 ^ 8) (64 - 8 * j) (8 * j))
    ∙ ap (λ (n : ℕ). s * 2 ^ 8 / 2 ^ (8 * j) % 2 ^ n % 2 ^ 8) (sym d)
    ∙ W.mod-mod-pow (s * 2 ^ 8 / 2 ^ (8 * j)) (56 - 8 * j) 8
    ∙ lane j l
  where
    lane : (j : ℕ) → j < 8 → s * 2 ^ 8 / 2 ^ (8 * j) % 2 ^ 8 ≡ ones (bit x) (8 * j)
    lane zero q = ap (λ (n : ℕ). n % 2 ^ 8) (div-one (s * 2 ^ 8)) ∙ mul-mod_left s (2 ^ 8) ∙ sym (sum_zero (bit x))
    lane (suc i) q =
        let m : 8 * suc i ≡ 8 + 8 * i = omega arith in
        let m2 : 8 * i + 8 ≡ 8 * suc i = omega arith in
        ap (λ (n : ℕ). s * 2 ^ 8 / 2 ^ n % 2 ^ 8) m
        ∙ ap (λ (n : ℕ). n % 2 ^ 8) (sym (W.shr-shr (s * 2 ^ 8) 8 (8 * i)))
        ∙ ap (λ (n : ℕ). n / 2 ^ (8 * i) % 2 ^ 8) (mul-div_cancel s (W.pow_pos 8))
        ∙ upto_is x s i h (omega arith)
        ∙ ap (ones (bit x)) m2

-- ---- the answer
pub few : (x k : ℕ) → ones (bit x) 64 ≤ k → select_in 64 x 1 k ≡ 64
few x k h = place_in_none (bit x) 64 1 k (omega (arith, rank_ones (bit x) 64 (bit_le x)))

-- byte j has the k-th one at the place e
pub found : (x k j under e : ℕ) → j < 8 → under ≡ ones (bit x) (8 * j) → under ≤ k → k < upto x j → e ≡ select_in 8 (byte_of x j) 1 (k - under)
    → (select_in 64 x 1 k ≡ 8 * j + e) × (e < 8)
found x k j under e l eu lu h ee =
    let b : ℕ = byte_of x j in
    let some : k - under < rank_of (bit b) 1 8 = omega (arith, rank_ones (bit b) 8 (bit_le b), byte_ones x (8 * j) 8 (le_refl 8)) in
    let p : KthAt (bit b) 8 1 (k - under) e = subst (λ (n : ℕ). KthAt (bit b) 8 1 (k - under) n) (sym ee) (place_in_place (bit b) 8 1 (k - under) some) in
    let q : KthAt (bit x) 64 1 k (8 * j + e) =
    place_in_lem (bit x) (bit b) (8 * j) 8 64 1 k under e (byte_bit x (8 * j)) (omega arith) (eu ∙ sym (rank_ones (bit x) (8 * j) (bit_le x))) lu p in
    (place_in_at (bit x) 64 1 k (8 * j + e) q, p.below)

-- of the word whose ones are the bits that equal v, the ones are the v, and select of 1 is select of v
pub matched_rank : (x v r i : ℕ) → Matched x v r → i ≤ 64 → ones (bit r) i ≡ rank_of (bit x) v i
matched_rank x v r i m h = sum_ext (bit r) (holds (bit x) v) i (λ p l. m p (omega arith))

pub matched_select : (x v r k : ℕ) → Matched x v r → select_in 64 r 1 k ≡ select_in 64 x v k
matched_select x v r k m =
    ap (place_in 64) (select_ext (bit r) (bit x) 64 1 v k (λ p l. holds_one (bit r) p (bit_le r p) ∙ m p l))
