-- Numbers of bytes by their digits. Assumes nothing.
use mathlib.Core.Path.{◌≡◌, sym, ap, ap₂, ◌∙◌}
use mathlib.Core.List.{List}
use Prim.Native.Nat.{ℕ, zero, suc, ◌+◌, ◌*◌, ◌/◌, ◌%◌, ◌^◌, ◌≤◌, ◌<◌}
use native.Mathlib.Nat.{add_assoc, add-zero, pow-zero, pow-succ', mul-add, mul_assoc, one-mul}
use native.Mathlib.Omega.{arith}
use lib.ListN.{get_or, take, drop}
use Rattle.std.specs.Int.{w32, w64, from_le_bytes}
use Rattle.words.specs.Bits.{bit, digits}
use Rattle.words.proofs.Sums.{part_at_lem}
use Rattle.words.proofs.BitLaws.{byte_bit}
use Rattle.words.proofs.DigitLaws.{digits_ext, digits_at}
use Rattle.image.specs.Bytes.{num}

-- a number of m + n digits is that of its low m and that of its high n
pub digits_split : (b : ℕ) (g : ℕ → ℕ) (m n : ℕ) → digits b g (m + n) ≡ digits b g m + b ^ m * digits b (λ i. g (m + i)) n
unfolding digits
digits_split b g zero n =
    let e : zero + n ≡ n = omega arith in
    let k : digits b g n ≡ digits b (λ i. g (zero + i)) n = digits_ext b g (λ i. g (zero + i)) n (λ i l. ap g (omega arith)) in
    let t : b ^ zero * digits b (λ i. g (zero + i)) n ≡ digits b (λ i. g (zero + i)) n =
    ap (λ (y : ℕ). y * digits b (λ i. g (zero + i)) n) (pow-zero b) ∙ one-mul (digits b (λ i. g (zero + i)) n) in
    omega (arith, ap (digits b g) e, k, t)
digits_split b g (suc m) n =
    let e : suc m + n ≡ suc (m + n) = omega arith in
    let h : ℕ → ℕ = λ j. g (suc j) in
    let r : ℕ = digits b (λ i. g (suc m + i)) n in
    let k : digits b (λ i. h (m + i)) n ≡ r = digits_ext b (λ i. h (m + i)) (λ i. g (suc m + i)) n (λ i l. ap g (omega arith)) in
    let ih : digits b h (m + n) ≡ digits b h m + b ^ m * r = digits_split b h m n ∙ ap (λ (y : ℕ). digits b h m + b ^ m * y) k in
    let d : b * digits b h (m + n) ≡ b * digits b h m + b ^ suc m * r =
    ap (λ (y : ℕ). b * y) ih ∙ mul-add b (digits b h m) (b ^ m * r)
    ∙ ap (λ (y : ℕ). b * digits b h m + y) (sym (mul_assoc b (b ^ m) r) ∙ ap (λ (y : ℕ). y * r) (sym (pow-succ' b m))) in
    ap (digits b g) e ∙ omega (arith, d)

-- bit p of a number of n bytes is bit p mod 8 of byte p div 8
pub bytes_bit : (g : ℕ → ℕ) (n p : ℕ) → ((i : ℕ) → i < n → g i < 256) → p < 8 * n → bit (digits 256 g n) p ≡ bit (g (p / 8)) (p % 8)
bytes_bit g n p h l =
    let x : ℕ = digits 256 g n in
    let e : 8 * (p / 8) + p % 8 ≡ p = omega arith in
    sym (byte_bit x (8 * (p / 8)) (p % 8) (omega arith) ∙ ap (bit x) e)
    ∙ ap (λ (y : ℕ). bit y (p % 8)) (digits_at 8 g n (p / 8) h (omega arith))

-- a number of m + n bytes is that of the first m and that of the n after them
pub num_split : (s : List ℕ) (at m n : ℕ) → num s at (m + n) ≡ num s at m + 256 ^ m * num s (at + m) n
num_split s at m n =
    digits_split 256 (λ i. get_or s (at + i) 0) m n
    ∙ ap (λ (y : ℕ). num s at m + 256 ^ m * y)
    (digits_ext 256 (λ i. get_or s (at + (m + i)) 0) (λ i. get_or s (at + m + i) 0) n (λ i l. ap (λ (k : ℕ). get_or s k 0) (omega arith)))

-- a number of 16 bytes is that of its two halves
pub num_halves : (s : List ℕ) (at low high : ℕ) → low ≡ num s at 8 → high ≡ num s (at + 8) 8 → low + 2 ^ 64 * high ≡ num s at 16
num_halves s at low high l h = ap₂ (λ (x y : ℕ). x + 2 ^ 64 * y) l h ∙ sym (num_split s at 8 8)

-- a number in the m bytes from byte a on
pub num_taken : (s : List ℕ) (a m at n : ℕ) → at + n ≤ m → num (take m (drop a s)) at n ≡ num s (a + at) n
num_taken s a m at n h =
    digits_ext 256 (λ i. get_or (take m (drop a s)) (at + i) 0) (λ i. get_or s (a + at + i) 0) n (λ i l.
    part_at_lem s a m 0 (at + i) (omega arith) ∙ ap (λ (k : ℕ). get_or s k 0) (sym (add_assoc a at i)))

-- ---- what `from_le_bytes` reads
pub number_of_4 : (xs : List ℕ) → from_le_bytes w32 xs ≡ num xs 0 4
unfolding digits
number_of_4 xs = omega arith

pub number_of_8 : (xs : List ℕ) → from_le_bytes w64 xs ≡ num xs 0 8
unfolding digits
number_of_8 xs = omega arith

-- the number of n bytes from byte `at` on is that of the part that they are
pub num_part : (s xs : List ℕ) (at n m : ℕ) → xs ≡ take m (drop at s) → m ≡ n → num xs 0 n ≡ num s at n
num_part s xs at n m e k =
    ap (λ (l : List ℕ). num l 0 n) e ∙ num_taken s at m 0 n (omega arith) ∙ ap (λ (j : ℕ). num s j n) (add-zero at)
