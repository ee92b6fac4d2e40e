-- Numbers in decimal: the last digit, and how many digits there are. Assumes nothing.
use mathlib.Core.Path.{◌≡◌, refl, ap, ◌∙◌}
use mathlib.Core.Bool.{Bool, true, false}
use mathlib.Core.List.{List, [], ◌∷◌, ◌++◌}
use Prim.Native.Nat.{ℕ, zero, suc, ◌+◌, ◌*◌, ◌/◌, ◌%◌, ◌^◌, ◌≤◌, ◌<◌}
use native.Mathlib.Nat.{pow-succ'}
use native.Mathlib.Omega.{arith}
use lib.ListN.{length, length-append}
use lib.Dec.{ltb}
use borrow.Author.Tests.{ltb-false, lt-ltb, le-ltb}
use Rattle.image.specs.Layout.{most_label, most_row}
use Rattle.listing.specs.Text.{digits_in, decimal, ended_by, line, line_bytes}

-- nothing, or else xs
abbrev higher : Bool → List ℕ → List ℕ
higher t xs = elim t [ true ↦ [] | false ↦ xs ]

-- the digits before the last one
unfoldable pub front : ℕ → List ℕ
front n = higher (ltb n 10) (decimal (n / 10))

-- more steps than n change nothing
digits_steps : (k m n : ℕ) → n < k → n < m → digits_in k n ≡ digits_in m n
unfolding digits_in
digits_steps zero m n h l = absurd (omega arith)
digits_steps (suc k) zero n h l = absurd (omega arith)
digits_steps (suc k) (suc m) n h l = ap (λ (xs : List ℕ). xs ++ ((48 + n % 10) ∷ [])) (go (ltb n 10) refl (digits_steps k m (n / 10)))
  where
    go : (t : Bool) → ltb n 10 ≡ t → (n / 10 < k → n / 10 < m → digits_in k (n / 10) ≡ digits_in m (n / 10))
        → higher t (digits_in k (n / 10)) ≡ higher t (digits_in m (n / 10))
    go true p later = refl
    go false p later = later (omega (arith, ltb-false n 10 p)) (omega (arith, ltb-false n 10 p))

-- the last digit
pub decimal_last : (n : ℕ) → decimal n ≡ front n ++ ((48 + n % 10) ∷ [])
unfolding decimal digits_in front
decimal_last n = ap (λ (xs : List ℕ). xs ++ ((48 + n % 10) ∷ [])) (go (ltb n 10) refl)
  where
    go : (t : Bool) → ltb n 10 ≡ t → higher t (digits_in n (n / 10)) ≡ higher t (digits_in (suc (n / 10)) (n / 10))
    go true p = refl
    go false p = digits_steps n (suc (n / 10)) (n / 10) (omega (arith, ltb-false n 10 p)) (omega arith)

-- a number of one digit
pub front_small : (n : ℕ) → n ≤ 9 → front n ≡ []
unfolding front
front_small n h = simp (lt-ltb n 10 (omega arith))

-- and of more
pub front_large : (n : ℕ) → 9 < n → front n ≡ decimal (n / 10)
unfolding front
front_large n h = simp (le-ltb n 10 (omega arith))

-- one byte more than the digits before the last
pub decimal_long : (n : ℕ) → length (decimal n) ≡ length (front n) + 1
decimal_long n = ap length (decimal_last n) ∙ length-append (front n) ((48 + n % 10) ∷ [])

-- n below 10 ^ k has at most k digits
digits_few : (steps k n : ℕ) → n < 10 ^ suc k → length (digits_in steps n) ≤ suc k
unfolding digits_in
digits_few zero k n h = omega arith
digits_few (suc steps) zero n h =
    let l : n < 10 = h in
    simp (lt-ltb n 10 l) (omega arith)
digits_few (suc steps) (suc k) n h =
    let l : n < 10 * 10 ^ suc k = omega (arith, pow-succ' 10 (suc k)) in
    omega (arith, length-append (higher (ltb n 10) (digits_in steps (n / 10))) ((48 + n % 10) ∷ []), go (ltb n 10) (digits_few steps k (n / 10) (omega arith)))
  where
    go : (t : Bool) → length (digits_in steps (n / 10)) ≤ suc k → length (higher t (digits_in steps (n / 10))) ≤ suc k
    go true l = omega arith
    go false l = l

pub decimal_few : (k n : ℕ) → n < 10 ^ suc k → length (decimal n) ≤ suc k
unfolding decimal
decimal_few k n h = digits_few (suc n) k n h

-- a number and the byte after it
pub ended_long : (n last : ℕ) → length (ended_by n last) ≡ length (decimal n) + 1
ended_long n last = length-append (decimal n) (last ∷ [])

-- the three parts of a line
pub line_parts : (label n ones : ℕ) → length (line label n ones) ≡ length (ended_by label 32) + (length (ended_by n 32) + length (ended_by ones 10))
line_parts label n ones =
    length-append (ended_by label 32) (ended_by n 32 ++ ended_by ones 10)
    ∙ ap (λ (k : ℕ). length (ended_by label 32) + k) (length-append (ended_by n 32) (ended_by ones 10))

-- a label has two digits at most, a length and ones nine
pub line_most : (label n ones : ℕ) → label ≤ most_label → n ≤ most_row → ones ≤ most_row → length (line label n ones) ≤ line_bytes
line_most label n ones p q r =
    omega (arith, line_parts label n ones, ended_long label 32, ended_long n 32, ended_long ones 10, decimal_few 1 label (omega arith), decimal_few 8 n (omega arith), decimal_few 8 ones (omega arith))
