-- Counting ones by adding neighbouring fields: one law for every width. Assumes nothing.
use Rattle.std.proofs.Common.{◌≡◌, ℕ, zero, suc, ◌+◌, ◌-◌, ◌*◌, ◌/◌, ◌%◌, ◌^◌, ◌<◌, sym, refl, ap, ◌∙◌, ap₂, lt_of_lt_of_le, le-add_right, lt_of_le_of_lt, add-zero, add-mul, add_comm, mul-suc, mul-add, arith, lit<, pow_mono, shr-shr}
use native.Mathlib.Nat.{two-pow-succ}
use lib.Pow.{ones_lt, mod-mod-pow}
use lib.Bits.{bit_and, and_mask}
use Rattle.words.specs.Bits.{bit, digits, ones}
use Rattle.words.specs.Words.{byte_of, ones_in_byte}
use Rattle.words.proofs.Sums.{sum_zero, sum_suc, sum_ext, sum_split, ones_le}
use Rattle.words.proofs.BitLaws.{bit_le, byte_bit}
use Rattle.words.proofs.DigitLaws.{field, digits_ext, digits_add, digits_at, digits_and}

-- the ones of field i of x, of w bits
abbrev pub field_ones : ℕ → ℕ → ℕ → ℕ
field_ones x w i = ones (λ p. bit x (w * i + p)) w

-- the fields of y count the ones of the fields of x: n fields of w bits
abbrev FieldsCounted : ℕ → ℕ → ℕ → ℕ → Type 0
FieldsCounted x w n y = (j : ℕ) → j < n → field w y j ≡ field_ones x w j

-- the low halves of m fields of k + k bits
abbrev evens : ℕ → ℕ → ℕ
evens k m = digits (2 ^ (k + k)) (λ _. 2 ^ k - 1) m

-- the low halves of a number, and its high halves shifted down, added
abbrev pub halves : ℕ → ℕ → ℕ → ℕ
halves mask k y = bit_and y mask + bit_and (y / 2 ^ k) mask

-- the first half of a field of k + k bits is field i + i of k bits
double : (k i : ℕ) → (k + k) * i ≡ k * (i + i)
double k i = add-mul k k i ∙ sym (mul-add k i i)

-- its second half is the next one
double_next : (k i : ℕ) → k + (k + k) * i ≡ k * suc (i + i)
double_next k i = add_comm k ((k + k) * i) ∙ ap (λ (t : ℕ). t + k) (double k i) ∙ sym (mul-suc k (i + i))

-- the low halves, taken by the mask
and_evens : (k m z : ℕ) → bit_and z (evens k m) ≡ digits (2 ^ (k + k)) (λ i. z / 2 ^ ((k + k) * i) % 2 ^ k) m
and_evens k m z =
    digits_and (k + k) z (λ _. 2 ^ k - 1) m (λ i l. lt_of_lt_of_le (ones_lt k) (pow_mono (le-add_right k k)))
    ∙ digits_ext (2 ^ (k + k)) (λ i. bit_and (field (k + k) z i) (2 ^ k - 1)) (λ i. z / 2 ^ ((k + k) * i) % 2 ^ k) m (λ i l.
    and_mask (field (k + k) z i) k ∙ mod-mod-pow (z / 2 ^ ((k + k) * i)) k k)

-- the ones of a field are those of its halves
field_ones_double : (x k i : ℕ) → field_ones x k (i + i) + field_ones x k (suc (i + i)) ≡ field_ones x (k + k) i
field_ones_double x k i =
    let first : field_ones x k (i + i) ≡ ones (λ p. bit x ((k + k) * i + p)) k = ap (λ (e : ℕ). ones (λ p. bit x (e + p)) k) (sym (double k i)) in
    let second : field_ones x k (suc (i + i)) ≡ ones (λ p. bit x ((k + k) * i + (k + p))) k =
    sum_ext (λ p. bit x (k * suc (i + i) + p)) (λ p. bit x ((k + k) * i + (k + p))) k (λ p l. ap (bit x) (omega (arith, double_next k i))) in
    ap₂ (λ (a b : ℕ). a + b) first second ∙ sym (sum_split (λ p. bit x ((k + k) * i + p)) k k)

-- counts of fields of k bits become counts of fields of k + k bits
pub pairing : (x k m y mask : ℕ) → mask ≡ evens k m → FieldsCounted x k (m + m) y → halves mask k y ≡ digits (2 ^ (k + k)) (field_ones x (k + k)) m
pairing x k m y mask e counted =
    let first : (i : ℕ) → i < m → y / 2 ^ ((k + k) * i) % 2 ^ k ≡ field_ones x k (i + i) =
    (λ i l. ap (λ (t : ℕ). y / 2 ^ t % 2 ^ k) (double k i) ∙ counted (i + i) (omega arith)) in
    let second : (i : ℕ) → i < m → y / 2 ^ k / 2 ^ ((k + k) * i) % 2 ^ k ≡ field_ones x k (suc (i + i)) =
    (λ i l.
    ap (λ (t : ℕ). t % 2 ^ k) (shr-shr y k ((k + k) * i))
    ∙ ap (λ (t : ℕ). y / 2 ^ t % 2 ^ k) (double_next k i)
    ∙ counted (suc (i + i)) (omega arith)) in
    ap (λ (t : ℕ). halves t k y) e
    ∙ ap₂ (λ (a b : ℕ). a + b) (and_evens k m y) (and_evens k m (y / 2 ^ k))
    ∙ digits_add (2 ^ (k + k)) (λ i. y / 2 ^ ((k + k) * i) % 2 ^ k) (λ i. y / 2 ^ k / 2 ^ ((k + k) * i) % 2 ^ k) m
    ∙ digits_ext (2 ^ (k + k)) (λ i. y / 2 ^ ((k + k) * i) % 2 ^ k + y / 2 ^ k / 2 ^ ((k + k) * i) % 2 ^ k) (field_ones x (k + k)) m (λ i l.
    ap₂ (λ (a b : ℕ). a + b) (first i l) (second i l) ∙ field_ones_double x k i)

-- a width is below its power
lt_two_pow : (w : ℕ) → w < 2 ^ w
lt_two_pow zero = lit< tt
lt_two_pow (suc w) = omega (arith, lt_two_pow w, two-pow-succ w)

-- a number put together of counts counts
pub counted_digits : (x w n y : ℕ) → y ≡ digits (2 ^ w) (field_ones x w) n → FieldsCounted x w n y
counted_digits x w n y e j l =
    ap (λ (t : ℕ). field w t j) e
    ∙ digits_at w (field_ones x w) n j (λ i q.
    lt_of_le_of_lt (ones_le (λ p. bit x (w * i + p)) w (λ p. bit_le x (w * i + p))) (lt_two_pow w)) l

-- a number's bits count themselves
counted_bits : (x n : ℕ) → FieldsCounted x 1 n x
counted_bits x n j l =
    let f : ℕ → ℕ = (λ p. bit x (1 * j + p)) in
    let only : f 0 ≡ bit x (1 * j) = ap (bit x) (add-zero (1 * j)) in
    omega (arith, sum_suc f 0, sum_zero f)

-- a field of eight bits is a byte
field_ones_byte : (x i : ℕ) → field_ones x 8 i ≡ ones_in_byte x i
field_ones_byte x i = sum_ext (λ p. bit x (8 * i + p)) (bit (byte_of x i)) 8 (λ p l. sym (byte_bit x (8 * i) p l))

-- three pairings count the ones of each byte
pub byte_law : (x : ℕ)
    → halves 0x0f0f_0f0f_0f0f_0f0f 4 (halves 0x3333_3333_3333_3333 2 (halves 0x5555_5555_5555_5555 1 x)) ≡ digits (2 ^ 8) (ones_in_byte x) 8
unfolding digits
byte_law x =
    let a : ℕ = halves 0x5555_5555_5555_5555 1 x in
    let b : ℕ = halves 0x3333_3333_3333_3333 2 a in
    let ea : a ≡ digits (2 ^ 2) (field_ones x 2) 32 = pairing x 1 32 x 0x5555_5555_5555_5555 refl (counted_bits x 64) in
    let eb : b ≡ digits (2 ^ 4) (field_ones x 4) 16 = pairing x 2 16 a 0x3333_3333_3333_3333 refl (counted_digits x 2 32 a ea) in
    pairing x 4 8 b 0x0f0f_0f0f_0f0f_0f0f refl (counted_digits x 4 16 b eb)
    ∙ digits_ext (2 ^ 8) (field_ones x 8) (ones_in_byte x) 8 (λ i l. field_ones_byte x i)
