-- The laws of `digits` and of the fields of a number. Assumes nothing.
use Rattle.std.proofs.Common.{◌≡◌, ℕ, zero, suc, ◌+◌, ◌*◌, ◌/◌, ◌%◌, ◌^◌, ◌<◌, sym, refl, ap, ◌∙◌, subst, ap₂, suc-le-suc, le_of_suc-le-suc, not-suc-le-zero, mod-lt, zero-lt-suc, mul_assoc, mul_comm, add-mul, add_comm, mul-zero, mul-suc, mul-add, div-one, arith, pow_pos, shr-shr, shr_lt}
use lib.Arith.{lt-one}
use lib.Pow.{split, high, low}
use lib.Bits.{bit_and, and_zero_r, and_block}
use Rattle.words.specs.Bits.{digits}

-- field i of z, of w bits
abbrev pub field : ℕ → ℕ → ℕ → ℕ
field w z i = z / 2 ^ (w * i) % 2 ^ w

-- the lowest field
pub field_zero : (w z : ℕ) → field w z 0 ≡ z % 2 ^ w
field_zero w z = ap (λ (e : ℕ). z / 2 ^ e % 2 ^ w) (mul-zero w) ∙ ap (λ (t : ℕ). t % 2 ^ w) (div-one z)

-- a field past the lowest
pub field_suc : (w z i : ℕ) → field w (z / 2 ^ w) i ≡ field w z (suc i)
field_suc w z i =
    ap (λ (t : ℕ). t % 2 ^ w) (shr-shr z w (w * i)) ∙ ap (λ (e : ℕ). z / 2 ^ e % 2 ^ w) (add_comm w (w * i) ∙ sym (mul-suc w i))

-- ---- digits, in any base
-- the lowest digit last
pub digits_suc : (b : ℕ) (g : ℕ → ℕ) (n : ℕ) → digits b g (suc n) ≡ digits b (λ i. g (suc i)) n * b + g 0
unfolding digits
digits_suc b g n =
    add_comm (g 0) (b * digits b (λ i. g (suc i)) n) ∙ ap (λ (t : ℕ). t + g 0) (mul_comm b (digits b (λ i. g (suc i)) n))

-- equal digits, equal numbers
pub digits_ext : (b : ℕ) (g h : ℕ → ℕ) (n : ℕ) → ((i : ℕ) → i < n → g i ≡ h i) → digits b g n ≡ digits b h n
unfolding digits
digits_ext b g h zero e = refl
digits_ext b g h (suc n) e =
    ap₂ (λ (x y : ℕ). x + b * y) (e zero (zero-lt-suc n))
    (digits_ext b (λ i. g (suc i)) (λ i. h (suc i)) n (λ i l. e (suc i) (suc-le-suc l)))

-- a sum, digit by digit
pub digits_add : (b : ℕ) (g h : ℕ → ℕ) (n : ℕ) → digits b g n + digits b h n ≡ digits b (λ i. g i + h i) n
unfolding digits
digits_add b g h zero = refl
digits_add b g h (suc n) =
    let x : ℕ = digits b (λ i. g (suc i)) n in
    let y : ℕ = digits b (λ i. h (suc i)) n in
    let ih : b * digits b (λ i. g (suc i) + h (suc i)) n ≡ b * x + b * y =
    ap (λ (t : ℕ). b * t) (sym (digits_add b (λ i. g (suc i)) (λ i. h (suc i)) n)) ∙ mul-add b x y in
    omega (arith, ih)

-- a product, digit by digit
pub digits_mul : (b c : ℕ) (g : ℕ → ℕ) (n : ℕ) → digits b (λ i. g i * c) n ≡ digits b g n * c
unfolding digits
digits_mul b c g zero = omega arith
digits_mul b c g (suc n) =
    let x : ℕ = digits b (λ i. g (suc i)) n in
    ap (λ (t : ℕ). g 0 * c + b * t) (digits_mul b c (λ i. g (suc i)) n)
    ∙ ap (λ (t : ℕ). g 0 * c + t) (sym (mul_assoc b x c))
    ∙ sym (add-mul (g 0) (b * x) c)

-- ---- digits in base 2 ^ w are fields of w bits
-- a digit is a field
pub digits_at : (w : ℕ) (g : ℕ → ℕ) (n j : ℕ) → ((i : ℕ) → i < n → g i < 2 ^ w) → j < n → field w (digits (2 ^ w) g n) j ≡ g j
digits_at w g zero j h l = absurd (not-suc-le-zero l)
digits_at w g (suc n) zero h l =
    field_zero w (digits (2 ^ w) g (suc n))
    ∙ ap (λ (t : ℕ). t % 2 ^ w) (digits_suc (2 ^ w) g n)
    ∙ low (digits (2 ^ w) (λ i. g (suc i)) n) w (h 0 (zero-lt-suc n))
digits_at w g (suc n) (suc j) h l =
    let rest : digits (2 ^ w) g (suc n) / 2 ^ w ≡ digits (2 ^ w) (λ i. g (suc i)) n =
    ap (λ (t : ℕ). t / 2 ^ w) (digits_suc (2 ^ w) g n) ∙ high (digits (2 ^ w) (λ i. g (suc i)) n) w (h 0 (zero-lt-suc n)) in
    sym (field_suc w (digits (2 ^ w) g (suc n)) j)
    ∙ ap (λ (t : ℕ). field w t j) rest
    ∙ digits_at w (λ i. g (suc i)) n j (λ i q. h (suc i) (suc-le-suc q)) (le_of_suc-le-suc l)

-- a number of n fields, from its fields
pub digits_of : (w n z : ℕ) → z < 2 ^ (w * n) → z ≡ digits (2 ^ w) (field w z) n
unfolding digits
digits_of w zero z h = lt-one (subst (λ (e : ℕ). z < 2 ^ e) (mul-zero w) h)
digits_of w (suc n) z h =
    let ih : z / 2 ^ w ≡ digits (2 ^ w) (field w (z / 2 ^ w)) n = digits_of w n (z / 2 ^ w) (shr_lt (w * n) w (subst (λ (e : ℕ). z < 2 ^ e) (mul-suc w n) h)) in
    let rest : digits (2 ^ w) (field w (z / 2 ^ w)) n ≡ digits (2 ^ w) (λ i. field w z (suc i)) n =
    digits_ext (2 ^ w) (field w (z / 2 ^ w)) (λ i. field w z (suc i)) n (λ i l. field_suc w z i) in
    sym (split z w)
    ∙ ap₂ (λ (x y : ℕ). x * 2 ^ w + y) (ih ∙ rest) (sym (field_zero w z))
    ∙ sym (digits_suc (2 ^ w) (field w z) n)

-- `&` of any number with digits, field by field
pub digits_and : (w z : ℕ) (h : ℕ → ℕ) (n : ℕ) → ((i : ℕ) → i < n → h i < 2 ^ w)
    → bit_and z (digits (2 ^ w) h n) ≡ digits (2 ^ w) (λ i. bit_and (field w z i) (h i)) n
unfolding digits
digits_and w z h zero small = and_zero_r z
digits_and w z h (suc n) small =
    let rest : bit_and (z / 2 ^ w) (digits (2 ^ w) (λ i. h (suc i)) n) ≡ digits (2 ^ w) (λ i. bit_and (field w z (suc i)) (h (suc i))) n =
    digits_and w (z / 2 ^ w) (λ i. h (suc i)) n (λ i l. small (suc i) (suc-le-suc l))
    ∙ digits_ext (2 ^ w) (λ i. bit_and (field w (z / 2 ^ w) i) (h (suc i))) (λ i. bit_and (field w z (suc i)) (h (suc i))) n (λ i l.
    ap (λ (t : ℕ). bit_and t (h (suc i))) (field_suc w z i)) in
    ap₂ bit_and (sym (split z w)) (digits_suc (2 ^ w) h n)
    ∙ and_block w (z / 2 ^ w) (digits (2 ^ w) (λ i. h (suc i)) n) (z % 2 ^ w) (h 0) (mod-lt z (pow_pos w)) (small 0 (zero-lt-suc n))
    ∙ ap₂ (λ (x y : ℕ). x * 2 ^ w + y) rest (ap (λ (t : ℕ). bit_and t (h 0)) (sym (field_zero w z)))
    ∙ sym (digits_suc (2 ^ w) (λ i. bit_and (field w z i) (h i)) n)
