-- The laws of byte lanes. Assumes nothing.
use Rattle.std.proofs.Common.{◌≡◌, ℕ, suc, ◌+◌, ◌-◌, ◌*◌, ◌/◌, ◌%◌, ◌^◌, ◌<◌, ◌≤◌, Bool, true, false, cond, leb, sym, refl, ap, ◌∙◌, ap₂, mod-lt, mul-div_cancel, add-one, arith, lit<, lit≤, pow_pos, leb-false, leb-true}
use lib.Arith.{digits_mod}
use lib.Pow.{shr_mod}
use lib.Bits.{bit_and, and_high}
use Rattle.words.specs.Bits.{bit, digits, sum_to, ones}
use Rattle.words.specs.Words.{byte_of, ones_in_byte, Prefixes}
use Rattle.words.specs.Working.{at_most}
use Rattle.words.proofs.Sums.{ones_le, sum_most}
use Rattle.words.proofs.BitLaws.{bit_le}
use Rattle.words.proofs.DigitLaws.{field, digits_ext, digits_add, digits_mul, digits_at, digits_of, digits_and}

-- ---- the product of eight lanes by 0x0101_0101_0101_0101
-- lane j of it is the sum of the lanes 0 to j
pub lane_sums : (g : ℕ → ℕ) → ((i : ℕ) → g i ≤ 8) → (digits (2 ^ 8) g 8 * 0x0101_0101_0101_0101) % 2 ^ 64 ≡ digits (2 ^ 8) (λ j. ones g (suc j)) 8
unfolding digits sum_to
lane_sums g h =
    let over : ℕ =
    g 1 + g 2 * 0x0101 + g 3 * 0x01_0101 + g 4 * 0x0101_0101 + g 5 * 0x01_0101_0101 + g 6 * 0x0101_0101_0101 + g 7 * 0x01_0101_0101_0101 in
    let e : digits (2 ^ 8) g 8 * 0x0101_0101_0101_0101 ≡ over * 2 ^ 64 + digits (2 ^ 8) (λ j. ones g (suc j)) 8 = omega arith in
    let small : digits (2 ^ 8) (λ j. ones g (suc j)) 8 < 2 ^ 64 = omega (arith, h 0, h 1, h 2, h 3, h 4, h 5, h 6, h 7) in
    ap (λ (t : ℕ). t % 2 ^ 64) e ∙ digits_mod over small

-- lane j as a byte
pub lane_sum : (g : ℕ → ℕ) → ((i : ℕ) → g i ≤ 8) → (j : ℕ) → j < 8 → byte_of ((digits (2 ^ 8) g 8 * 0x0101_0101_0101_0101) % 2 ^ 64) j ≡ ones g (suc j)
lane_sum g h j l =
    ap (λ (t : ℕ). byte_of t j) (lane_sums g h)
    ∙ digits_at 8 (λ i. ones g (suc i)) 8 j (λ i q. omega (arith, sum_most g 8 (suc i) h)) l

-- the top lane, by a shift
pub top_lane : (g : ℕ → ℕ) → ((i : ℕ) → g i ≤ 8) → (digits (2 ^ 8) g 8 * 0x0101_0101_0101_0101) % 2 ^ 64 / 2 ^ 56 ≡ ones g 8
top_lane g h = sym (shr_mod 8 56 (mod-lt (digits (2 ^ 8) g 8 * 0x0101_0101_0101_0101) (pow_pos 64))) ∙ lane_sum g h 7 (lit< tt)

-- a byte has at most eight ones
pub byte_le : (x i : ℕ) → ones_in_byte x i ≤ 8
byte_le x i = ones_le (bit (byte_of x i)) 8 (bit_le (byte_of x i))

-- of the byte counts, the product is the prefix sums
pub prefix_law : (x r : ℕ) → r ≡ (digits (2 ^ 8) (ones_in_byte x) 8 * 0x0101_0101_0101_0101) % 2 ^ 64 → Prefixes x r
prefix_law x r e j l =
    ap (λ (t : ℕ). byte_of t j) e ∙ lane_sum (ones_in_byte x) (byte_le x) j l ∙ ap (ones (ones_in_byte x)) (sym (add-one j))

-- ---- the lanes of s that are at most k
-- lane j of k + 128 in each lane, less s
abbrev gap : ℕ → ℕ → ℕ → ℕ
gap s k j = k + 128 - byte_of s j

-- a test is 0 or 1, so at most 8
at_most_le : (s k j : ℕ) → at_most (byte_of s) k j ≤ 8
at_most_le s k j = go (leb (byte_of s j) k)
  where
    go : (b : Bool) → cond {A = ℕ} b 1 0 ≤ 8
    go true = lit≤ tt
    go false = lit≤ tt

-- the high bit of a lane's difference is the test
high_bit : (p k : ℕ) → p ≤ 64 → k < 64 → (k + 128 - p) / 2 ^ 7 % 2 ^ 1 ≡ cond (leb p k) 1 0
high_bit p k l h = go (leb p k) refl
  where
    go : (b : Bool) → leb p k ≡ b → (k + 128 - p) / 2 ^ 7 % 2 ^ 1 ≡ cond b 1 0
    go true e = omega (arith, leb-true p k e)
    go false e = omega (arith, leb-false p k e)

-- the same, with `&`
high_and : (p k : ℕ) → p ≤ 64 → k < 64 → bit_and (k + 128 - p) 128 ≡ cond (leb p k) 1 0 * 2 ^ 7
high_and p k l h = and_high (k + 128 - p) 1 7 ∙ ap (λ (t : ℕ). t * 2 ^ 7) (high_bit p k l h)

-- k + 128 in each lane
abbrev pub raised : ℕ → ℕ
raised k = k * 0x0101_0101_0101_0101 + 0x8080_8080_8080_8080

-- as digits
raised_is : (k : ℕ) → raised k ≡ digits (2 ^ 8) (λ _. k + 128) 8
unfolding digits
raised_is k = omega arith

-- the mask of the high bits, as digits
eighties : 0x8080_8080_8080_8080 ≡ digits (2 ^ 8) (λ _. 128) 8
unfolding digits
eighties = refl

module _ (s k : ℕ) (fits : s < 2 ^ 64) (small : k < 64) (lanes : (j : ℕ) → j < 8 → byte_of s j ≤ 64) where
  -- no lane borrows
  pub raised_split : raised k ≡ digits (2 ^ 8) (gap s k) 8 + s
  raised_split =
      raised_is k
      ∙ digits_ext (2 ^ 8) (λ _. k + 128) (λ j. gap s k j + byte_of s j) 8 (λ j l. omega (arith, lanes j l))
      ∙ sym (digits_add (2 ^ 8) (gap s k) (byte_of s) 8)
      ∙ ap (λ (t : ℕ). digits (2 ^ 8) (gap s k) 8 + t) (sym (digits_of 8 8 s fits))

  -- the tests, each in the high bit of its lane
  lane_tests : bit_and (raised k - s) 0x8080_8080_8080_8080 ≡ digits (2 ^ 8) (λ j. at_most (byte_of s) k j * 2 ^ 7) 8
  lane_tests =
      let less : raised k - s ≡ digits (2 ^ 8) (gap s k) 8 = omega (arith, raised_split) in
      let lane : (j : ℕ) → j < 8 → bit_and (field 8 (digits (2 ^ 8) (gap s k) 8) j) 128 ≡ at_most (byte_of s) k j * 2 ^ 7 =
      (λ j l.
      ap (λ (t : ℕ). bit_and t 128) (digits_at 8 (gap s k) 8 j (λ i q. omega arith) l) ∙ high_and (byte_of s j) k (lanes j l) small) in
      ap₂ bit_and less eighties
      ∙ digits_and 8 (digits (2 ^ 8) (gap s k) 8) (λ _. 128) 8 (λ i l. lit< tt)
      ∙ digits_ext (2 ^ 8) (λ j. bit_and (field 8 (digits (2 ^ 8) (gap s k) 8) j) 128) (λ j. at_most (byte_of s) k j * 2 ^ 7) 8 lane

  -- their sum
  pub at_most_law : (r : ℕ) → r ≡ (bit_and (raised k - s) 0x8080_8080_8080_8080 / 2 ^ 7 * 0x0101_0101_0101_0101) % 2 ^ 64 → r / 2 ^ 56 ≡ ones (at_most (byte_of s) k) 8
  at_most_law r e =
      let shifted : bit_and (raised k - s) 0x8080_8080_8080_8080 / 2 ^ 7 ≡ digits (2 ^ 8) (at_most (byte_of s) k) 8 =
      ap (λ (t : ℕ). t / 2 ^ 7) (lane_tests ∙ digits_mul (2 ^ 8) (2 ^ 7) (at_most (byte_of s) k) 8) ∙ mul-div_cancel (digits (2 ^ 8) (at_most (byte_of s) k) 8) (pow_pos 7) in
      ap (λ (t : ℕ). t / 2 ^ 56) (e ∙ ap (λ (t : ℕ). (t * 0x0101_0101_0101_0101) % 2 ^ 64) shifted) ∙ top_lane (at_most (byte_of s) k) (at_most_le s k)
