-- The laws of `bit x p`: of shifts, masks and the machine's operators, and of the machine's count of ones. Assumes nothing.
use Rattle.std.proofs.Common.{◌≡◌, ℕ, zero, suc, ◌+◌, ◌-◌, ◌*◌, ◌/◌, ◌%◌, ◌^◌, ◌<◌, ◌≤◌, min, max, sym, refl, ap, ◌∙◌, subst, lt_of_lt_of_le, le_of_suc-le-suc, lt_of_le_of_lt, mod-lt, mod-eq_of_lt, zero-lt-suc, mul_assoc, one-mul, pow-suc, le-div_iff_mul-le, div-one, mul-div_cancel, add-one, one-add, arith, lit<, pow_pos, pow_mono, pow-add, shl_lt, shl_exact, shr-shr, shr_lt}
use native.Mathlib.Nat.{div-eq_of_lt, mul-mod_left, zero-div, zero-mod, min-le_left}
use lib.Arith.{lt-one, digits_mod}
use lib.Pow.{field, mod-mod-pow, high, ones_lt, ones_split, high_ones}
use lib.Bits.{bit_and, bit_or, bit_xor, differ, and_mask, and_shr, and_step, or_shr, or_step, xor_shr, xor_step, xor_add_and}
use lib.Count as C
use Rattle.words.specs.Bits.{bit, ones}
use Rattle.words.proofs.Sums as S

pub bit_lt : (x p : ℕ) → bit x p < 2
bit_lt x p = mod-lt (x / 2 ^ p) (zero-lt-suc 1)

pub bit_le : (x p : ℕ) → bit x p ≤ 1
bit_le x p = le_of_suc-le-suc (bit_lt x p)

-- 0 has no one
pub zero_bit : (p : ℕ) → bit 0 p ≡ 0
zero_bit p = ap (λ (n : ℕ). n % 2) (zero-div (2 ^ p)) ∙ zero-mod 2

-- ---- shifts
pub bit_shr : (x a p : ℕ) → bit (x / 2 ^ a) p ≡ bit x (a + p)
bit_shr x a p = ap (λ (n : ℕ). n % 2) (shr-shr x a p)

-- the low bits of a number
pub bit_mod : (x a p : ℕ) → p < a → bit (x % 2 ^ a) p ≡ bit x p
bit_mod x a p h =
    let e : (a - suc p + 1) + p ≡ a = omega arith in
    ap (λ (m : ℕ). x % 2 ^ m / 2 ^ p % 2) (sym e)
    ∙ ap (λ (n : ℕ). n % 2) (field x (a - suc p + 1) p)
    ∙ mod-mod-pow (x / 2 ^ p) (a - suc p) 1

-- a number below 2 ^ w has no bit at or past w
pub bit_high : (x w p : ℕ) → x < 2 ^ w → w ≤ p → bit x p ≡ 0
bit_high x w p h l = ap (λ (n : ℕ). n % 2) (div-eq_of_lt (lt_of_lt_of_le h (pow_mono l))) ∙ zero-mod 2

-- the highest one of a number
pub bit_top : (x p : ℕ) → 2 ^ p ≤ x → x < 2 ^ suc p → bit x p ≡ 1
bit_top x p l h =
    let some : 1 ≤ x / 2 ^ p = (le-div_iff_mul-le (pow_pos p)).1 (subst (λ (m : ℕ). m ≤ x) (sym (one-mul (2 ^ p))) l) in
    let only : x / 2 ^ p < 2 = shr_lt 1 p (subst (λ (m : ℕ). x < 2 ^ m) (sym (one-add p)) h) in
    omega arith

pub bit_shl_at : (x a p : ℕ) → bit (x * 2 ^ a) (a + p) ≡ bit x p
bit_shl_at x a p = sym (bit_shr (x * 2 ^ a) a p) ∙ ap (λ (n : ℕ). bit n p) (mul-div_cancel x (pow_pos a))

pub bit_shl_below : (x a p : ℕ) → p < a → bit (x * 2 ^ a) p ≡ 0
bit_shl_below x a p h =
    let e : (a - suc p + 1) + p ≡ a = omega arith in
    ap (λ (n : ℕ). x * 2 ^ n / 2 ^ p % 2) (sym e)
    ∙ ap (λ (n : ℕ). x * n / 2 ^ p % 2) (pow-add 2 (a - suc p + 1) p)
    ∙ ap (λ (n : ℕ). n / 2 ^ p % 2) (sym (mul_assoc x (2 ^ (a - suc p + 1)) (2 ^ p)))
    ∙ ap (λ (n : ℕ). n % 2) (mul-div_cancel (x * 2 ^ (a - suc p + 1)) (pow_pos p))
    ∙ ap (λ (n : ℕ). (x * n) % 2) (pow-add 2 (a - suc p) 1)
    ∙ ap (λ (n : ℕ). n % 2) (sym (mul_assoc x (2 ^ (a - suc p)) 2))
    ∙ mul-mod_left (x * 2 ^ (a - suc p)) 2

-- `1 << i` at 64 bits
pub one_shl : (i : ℕ) → i < 64 → (1 * 2 ^ i) % 2 ^ 64 ≡ 2 ^ i
one_shl i h = shl_exact {a = 1} 1 i 64 (lit< tt) (subst (λ (x : ℕ). x ≤ 64) (sym (one-add i)) h) ∙ one-mul (2 ^ i)

-- ---- the machine's count of ones
pub count_is : (k x : ℕ) → x < 2 ^ k → C.ones x ≡ ones (bit x) k
unfolding C.ones
count_is zero x h = ap C.ones (lt-one h) ∙ sym (S.sum_zero (bit x))
count_is (suc k) x h =
    let low : bit x 0 ≡ x % 2 = ap (λ (n : ℕ). n % 2) (div-one x) in
    let rest : ones (bit (x / 2)) k ≡ ones (λ p. bit x (1 + p)) k = S.sum_ext (bit (x / 2)) (λ p. bit x (1 + p)) k (λ p l. bit_shr x 1 p) in
    let ih : C.ones (x / 2) ≡ ones (bit (x / 2)) k = count_is k (x / 2) (shr_lt k 1 (subst (λ (n : ℕ). x < 2 ^ n) (sym (add-one k)) h)) in
    let s : ones (bit x) (1 + k) ≡ ones (bit x) 1 + ones (λ p. bit x (1 + p)) k = S.sum_split (bit x) 1 k in
    let one : ones (bit x) 1 ≡ ones (bit x) 0 + bit x 0 = S.sum_suc (bit x) 0 in
    let step : C.ones x ≡ x % 2 + C.ones (x / 2) = C.ones_step x in
    let t : ones (bit x) (1 + k) ≡ ones (bit x) (suc k) = ap (ones (bit x)) (one-add k) in
    omega (arith, S.sum_zero (bit x), low, rest, ih, s, one, step, t)

-- the ones of the low i bits, as those of a number with no other
pub ones_mod : (x i n : ℕ) → i ≤ n → ones (bit (x % 2 ^ i)) n ≡ ones (bit x) i
ones_mod x i n h =
    S.sum_flat (bit (x % 2 ^ i)) i n h (λ p l. bit_high (x % 2 ^ i) i p (mod-lt x (pow_pos i)) l)
    ∙ S.sum_ext (bit (x % 2 ^ i)) (bit x) i (λ p l. bit_mod x i p l)

-- those that a mask of the low i bits leaves
pub masked_ones : (x i : ℕ) → i ≤ 64 → ones (bit (bit_and x (2 ^ i - 1))) 64 ≡ ones (bit x) i
masked_ones x i h = ap (λ (n : ℕ). ones (bit n) 64) (and_mask x i) ∙ ones_mod x i 64 h

-- so for a count e of what a mask m leaves, where m is the low i bits
pub masked_is : (x i m e : ℕ) → i ≤ 64 → m ≡ 2 ^ i - 1 → e ≡ ones (bit (bit_and x m)) 64 → e ≡ ones (bit x) i
masked_is x i m e l em h = h ∙ ap (λ (n : ℕ). ones (bit (bit_and x n)) 64) em ∙ masked_ones x i l

-- ---- and, or, exclusive or, not
differ_lt : (x y : ℕ) → x < 2 → y < 2 → differ x y < 2
differ_lt zero y h k = k
differ_lt (suc x) zero h k = h
differ_lt (suc x) (suc y) h k = differ_lt x y (omega arith) (omega arith)

pub differ_zero : (x : ℕ) → differ x 0 ≡ x
differ_zero zero = refl
differ_zero (suc x) = refl

pub differ_one : (x : ℕ) → x < 2 → differ x 1 ≡ 1 - x
differ_one zero h = refl
differ_one (suc zero) h = refl
differ_one (suc (suc x)) h = absurd (omega arith)

pub bit_of_xor : (x y p : ℕ) → bit (bit_xor x y) p ≡ differ (bit x p) (bit y p)
bit_of_xor x y p =
    ap (λ (n : ℕ). n % 2) (xor_shr x y p ∙ xor_step (x / 2 ^ p) (y / 2 ^ p))
    ∙ digits_mod (bit_xor (x / 2 ^ p / 2) (y / 2 ^ p / 2)) (differ_lt (bit x p) (bit y p) (bit_lt x p) (bit_lt y p))

pub bit_of_and : (x y p : ℕ) → bit (bit_and x y) p ≡ min (bit x p) (bit y p)
bit_of_and x y p =
    ap (λ (n : ℕ). n % 2) (and_shr x y p ∙ and_step (x / 2 ^ p) (y / 2 ^ p))
    ∙ digits_mod (bit_and (x / 2 ^ p / 2) (y / 2 ^ p / 2)) (lt_of_le_of_lt (min-le_left (bit x p) (bit y p)) (bit_lt x p))

pub bit_of_or : (x y p : ℕ) → bit (bit_or x y) p ≡ max (bit x p) (bit y p)
bit_of_or x y p =
    ap (λ (n : ℕ). n % 2) (or_shr x y p ∙ or_step (x / 2 ^ p) (y / 2 ^ p))
    ∙ digits_mod (bit_or (x / 2 ^ p / 2) (y / 2 ^ p / 2)) (omega (arith, bit_lt x p, bit_lt y p))

-- w ones
pub bit_all : (w p : ℕ) → p < w → bit (2 ^ w - 1) p ≡ 1
bit_all w p h =
    let e : suc (w - suc p) + p ≡ w = omega arith in
    ap (λ (n : ℕ). (2 ^ n - 1) / 2 ^ p % 2) (sym e)
    ∙ ap (λ (n : ℕ). n / 2 ^ p % 2) (ones_split (suc (w - suc p)) p)
    ∙ ap (λ (n : ℕ). n % 2) (high (2 ^ suc (w - suc p) - 1) p (ones_lt p))
    ∙ ap (λ (n : ℕ). (n - 1) % 2) (pow-suc 2 (w - suc p))
    ∙ omega (arith, pow_pos (w - suc p))

-- `!x` at w bits
not_is : (w x : ℕ) → x < 2 ^ w → (2 ^ w - 1) - x ≡ bit_xor x (2 ^ w - 1)
not_is w x h =
    let m : bit_and x (2 ^ w - 1) ≡ x = and_mask x w ∙ mod-eq_of_lt h in
    omega (arith, xor_add_and x (2 ^ w - 1))

pub bit_not : (w x p : ℕ) → x < 2 ^ w → p < w → bit ((2 ^ w - 1) - x) p ≡ 1 - bit x p
bit_not w x p h l =
    ap (λ (n : ℕ). bit n p) (not_is w x h) ∙ bit_of_xor x (2 ^ w - 1) p ∙ ap (differ (bit x p)) (bit_all w p l) ∙ differ_one (bit x p) (bit_lt x p)

-- ---- n ones from bit a on
abbrev pub mask : ℕ → ℕ → ℕ
mask n a = (2 ^ n - 1) * 2 ^ a

pub mask_in : (n a p : ℕ) → a ≤ p → p < a + n → bit (mask n a) p ≡ 1
mask_in n a p l h =
    let e : a + (p - a) ≡ p = omega arith in
    ap (bit (mask n a)) (sym e) ∙ bit_shl_at (2 ^ n - 1) a (p - a) ∙ bit_all n (p - a) (omega arith)

pub mask_below : (n a p : ℕ) → p < a → bit (mask n a) p ≡ 0
mask_below n a p h = bit_shl_below (2 ^ n - 1) a p h

pub mask_above : (n a p : ℕ) → a + n ≤ p → bit (mask n a) p ≡ 0
mask_above n a p h =
    let e : a + (p - a) ≡ p = omega arith in
    ap (bit (mask n a)) (sym e) ∙ bit_shl_at (2 ^ n - 1) a (p - a) ∙ bit_high (2 ^ n - 1) n (p - a) (ones_lt n) (omega arith)

pub mask_lt : (n a w : ℕ) → n + a ≤ w → mask n a < 2 ^ w
mask_lt n a w h = lt_of_lt_of_le (shl_lt n a (ones_lt n)) (pow_mono h)

-- a single one
pub mask_one : (a : ℕ) → mask 1 a ≡ 2 ^ a
mask_one a = one-mul (2 ^ a)

-- as the code makes it: the low a + n ones less the low a
pub mask_is : (n a : ℕ) → (2 ^ (n + a) - 1) - (2 ^ a - 1) ≡ mask n a
mask_is n a = omega (arith, high_ones n a, pow_pos a)

-- ---- the ones of a byte of a word: 8 bits from a on
pub byte_bit : (x a p : ℕ) → p < 8 → bit (x / 2 ^ a % 2 ^ 8) p ≡ bit x (a + p)
byte_bit x a p h = bit_mod (x / 2 ^ a) 8 p h ∙ bit_shr x a p

pub byte_ones : (x a n : ℕ) → n ≤ 8 → ones (bit x) (a + n) ≡ ones (bit x) a + ones (bit (x / 2 ^ a % 2 ^ 8)) n
byte_ones x a n h = S.part_ones (bit x) (bit (x / 2 ^ a % 2 ^ 8)) a 8 n (byte_bit x a) h
