-- Bytes compared and copied, a word at a time. Assumes nothing.
use mathlib.Core.Bool.{Bool, true, false}
use mathlib.Core.Path.{◌≡◌, refl, sym, ap, ap₂, ◌∙◌, subst}
use mathlib.Core.List.{List, ◌++◌}
use Prim.Native.Nat.{ℕ, ◌+◌, ◌*◌, ◌/◌, ◌≤◌, ◌<◌}
use native.Mathlib.Omega.{arith}
use lib.ListN.{length, get_or, drop}
use lib.Seq.{sets, length-sets, drop-length}
use Rattle.words.specs.Bits.{same}
use Rattle.words.proofs.SameLaws.{same_eq, same_front}
use Rattle.image.specs.Bytes.{num, le}
use Rattle.image.proofs.PutLaws.{Copying, length_le, drop_num, sets_append}

-- ---- two lists compared
-- two lists of n words, equal in the first i
pub record Compared (a b : List ℕ) (n i : ℕ) : Type 0 where
  pub within : i ≤ n
  pub rest : same (drop (8 * i) a) (drop (8 * i) b) ≡ same a b

-- none yet
pub compared_none : (a b : List ℕ) (n : ℕ) → Compared a b n 0
compared_none a b n = record { within = omega arith; rest = refl }

-- one word more
pub compared_more : {a b : List ℕ} {n i : ℕ} → Compared a b n i → i < n → length a ≡ 8 * n → length b ≡ 8 * n → ((j : ℕ) → get_or a j 0 < 256)
    → ((j : ℕ) → get_or b j 0 < 256) → num a (8 * i) 8 ≡ num b (8 * i) 8 → Compared a b n (i + 1)
compared_more {a} {b} {n} {i} w l la lb sa sb e =
    let v : ℕ = num b (8 * i) 8 in
    let k : 8 * i + 8 ≡ 8 * (i + 1) = omega arith in
    let p : drop (8 * i) a ≡ le 8 v ++ drop (8 * i + 8) a = drop_num a (8 * i) 8 v sa (omega arith) e in
    let q : drop (8 * i) b ≡ le 8 v ++ drop (8 * i + 8) b = drop_num b (8 * i) 8 v sb (omega arith) refl in
    record {
      within = omega arith;
      rest =
          ap (λ (m : ℕ). same (drop m a) (drop m b)) (sym k)
          ∙ sym (ap₂ same p q ∙ same_front (le 8 v) (drop (8 * i + 8) a) (drop (8 * i + 8) b))
          ∙ w.rest;
    }

-- a word that differs
pub compared_unequal : (a b : List ℕ) (x : ℕ) → (num a x 8 ≡ num b x 8 → ⊥) → false ≡ same a b
compared_unequal a b x n = go (same a b) refl
  where
    go : (t : Bool) → same a b ≡ t → false ≡ t
    go true p = absurd (n (ap (λ (l : List ℕ). num l x 8) (same_eq a b p)))
    go false p = refl

-- all words equal
pub compared_done : {a b : List ℕ} {n i : ℕ} → Compared a b n i → n ≤ i → length a ≡ 8 * n → length b ≡ 8 * n → true ≡ same a b
unfolding same
compared_done {a} {b} {n} {i} w l la lb =
    let ea : 8 * i ≡ length a = omega (arith, w.within) in
    let eb : 8 * i ≡ length b = omega (arith, w.within) in
    sym (ap₂ same (ap (λ (m : ℕ). drop m a) ea ∙ drop-length a) (ap (λ (m : ℕ). drop m b) eb ∙ drop-length b)) ∙ w.rest

-- ---- bytes copied
-- one word more
pub copying_word : {s₀ : List ℕ} {at : ℕ} {b s t : List ℕ} {i v : ℕ} → Copying s₀ at b s (8 * i) → i < length b / 8 → ((j : ℕ) → get_or b j 0 < 256)
    → v ≡ num b (8 * i) 8 → t ≡ sets s (at + 8 * i) (le 8 v) → Copying s₀ at b t (8 * (i + 1))
copying_word {s₀} {at} {b} {s} {t} {i} {v} w l small e z =
    let k : 8 * i + 8 ≡ 8 * (i + 1) = omega arith in
    let d : drop (8 * i) b ≡ le 8 v ++ drop (8 * i + 8) b = drop_num b (8 * i) 8 v small (omega arith) (sym e) in
    let m : at + (8 * i + 8) ≡ at + 8 * i + length (le 8 v) = omega (arith, length_le 8 v) in
    subst (Copying s₀ at b t) k
    (record {
      within = omega arith;
      long = ap length z ∙ length-sets s (at + 8 * i) (le 8 v) ∙ w.long;
      same =
          ap₂ (λ (x : List ℕ) (y : ℕ). sets x y (drop (8 * i + 8) b)) z m
          ∙ sym (sets_append (le 8 v) (drop (8 * i + 8) b) s (at + 8 * i))
          ∙ ap (sets s (at + 8 * i)) (sym d)
          ∙ w.same;
    })
