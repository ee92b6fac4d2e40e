-- The difference of two numbers as an integer: its range, and that 64 bits hold it. Assumes nothing.
use mathlib.Core.Path.{◌≡◌, refl, sym, ap, ap₂, subst, ◌∙◌}
use mathlib.Core.Bool.{Bool, true, false, cond}
use Prim.Native.Nat.{ℕ, zero, suc, ◌+◌, ◌-◌, ◌^◌, ◌≤◌, ◌<◌}
use native.Mathlib.Omega.{arith}
use lib.Dec.{ltb, leb→le, le→leb}
use lib.IntN.{ℤ, pos, negsuc, neg_ℤ, ◌-ℤ◌}
use lib.Signed.{◌≤ℤ◌}
use mir.Syntax.{w64}
use mir.Val.{SFits, to_z, of_z}
use mir.ValLaws.{to_z_pos, to_z-of_z}
use borrow.Author.Tests.{ltb-true}
use Rattle.pairs.specs.Calls.{Within}

-- a number not above m, and the opposite of one
up : (m n : ℕ) → n ≤ m → Within m (pos n)
up m n h = record { least = low m; most = record { le = le→leb n m h } }
  where
    low : (m : ℕ) → neg_ℤ (pos m) ≤ℤ pos n
    low zero = record { le = le→leb 0 n Prim.Native.Nat.zero-le }
    low (suc m) = record { le = tt }

down : (m n : ℕ) → n < m → Within m (negsuc n)
down (suc m) n h = record { least = record { le = le→leb n m (omega arith) }; most = record { le = tt } }
down zero n h = absurd (omega arith)

-- two numbers not above m: their difference
pub difference_within : (m p q : ℕ) → p ≤ m → q ≤ m → Within m (pos p -ℤ pos q)
difference_within m p zero hp hq = up m (p + 0) (omega arith)
difference_within m p (suc q) hp hq = go (ltb p (suc q)) refl
  where
    go : (b : Bool) → ltb p (suc q) ≡ b → Within m (cond b (negsuc (suc q - suc p)) (pos (p - suc q)))
    go true e = let l : p < suc q = ltb-true p (suc q) e in down m (suc q - suc p) (omega arith)
    go false e = up m (p - suc q) (omega arith)

-- an integer from -m to m, m below 2^63, fits 64 bits
pub within_fits : (m : ℕ) (z : ℤ) → m < 2 ^ 63 → Within m z → SFits w64 z
within_fits m (pos n) l h = record { sfits = omega (arith, leb→le n m h.most.le) }
within_fits m (negsuc n) l h = record { sfits = go m l h.least }
  where
    go : (m : ℕ) → m < 2 ^ 63 → neg_ℤ (pos m) ≤ℤ negsuc n → n < 2 ^ 63
    go zero a b = absurd b.le
    go (suc m) a b = omega (arith, leb→le n m b.le)

-- the difference of two numbers below 2^63, as the machine holds it
pub held_difference : (m p q : ℕ) → m < 2 ^ 63 → p ≤ m → q ≤ m
    → SFits w64 (to_z w64 p -ℤ to_z w64 q) × (to_z w64 (of_z w64 (to_z w64 p -ℤ to_z w64 q)) ≡ pos p -ℤ pos q)
held_difference m p q l hp hq =
    let e : to_z w64 p -ℤ to_z w64 q ≡ pos p -ℤ pos q = ap₂ (λ (x y : ℤ). x -ℤ y) (to_z_pos w64 p (omega arith)) (to_z_pos w64 q (omega arith)) in
    let f : SFits w64 (pos p -ℤ pos q) = within_fits m (pos p -ℤ pos q) l (difference_within m p q hp hq) in
    (subst (λ (z : ℤ). SFits w64 z) (sym e) f, ap (λ (z : ℤ). to_z w64 (of_z w64 z)) e ∙ to_z-of_z w64 (pos p -ℤ pos q) f)
