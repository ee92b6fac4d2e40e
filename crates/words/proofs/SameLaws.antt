-- Two lists compared: the test is true exactly where they are equal. Assumes nothing.
use Rattle.std.proofs.Common.{◌≡◌, ℕ, true, eqb, List, [], ◌∷◌, ◌++◌, refl, ap₂, eq-eqb, eqb-true}
use mathlib.Core.Bool.{false≢true}
use Rattle.words.proofs.BoolLaws.{and_intro, and_first, and_second}
use Rattle.words.specs.Bits.{same}

-- lists that the test finds the same
pub same_eq : (xs ys : List ℕ) → same xs ys ≡ true → xs ≡ ys
unfolding same
same_eq [] [] h = refl
same_eq [] (y ∷ ys) h = absurd (false≢true h)
same_eq (x ∷ xs) [] h = absurd (false≢true h)
same_eq (x ∷ xs) (y ∷ ys) h =
    ap₂ (λ (z : ℕ) (zs : List ℕ). z ∷ zs) (eqb-true x y (and_first (eqb x y) (same xs ys) h))
    (same_eq xs ys (and_second (eqb x y) (same xs ys) h))

-- and a list is the same as itself
pub same_refl : (xs : List ℕ) → same xs xs ≡ true
unfolding same
same_refl [] = refl
same_refl (x ∷ xs) = and_intro (eq-eqb x x refl) (same_refl xs)

-- the same elements in front of two lists
pub same_front : (xs ys zs : List ℕ) → same (xs ++ ys) (xs ++ zs) ≡ same ys zs
unfolding same
same_front [] ys zs = refl
same_front (x ∷ xs) ys zs = simp (eq-eqb x x refl) (same_front xs ys zs)
