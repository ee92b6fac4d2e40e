-- The laws of `RangePut`, a list of words with some positions written: by one word stored, by ranges that meet, and what it does to the ones;
-- and of a list whose elements become 0. Assumes nothing.
use Rattle.std.proofs.Common.{◌≡◌, ℕ, ◌+◌, ◌-◌, ◌*◌, ◌/◌, ◌%◌, ◌<◌, ◌≤◌, ◌⊎◌, List, ◌++◌, length, get_or, drop, set, replicate, sym, refl, ap, ◌∙◌, subst₂, inl, inr, append-nil, arith, length-set, get_or-set_other, get_or-set_same}
use native.Mathlib.Decide.{ℕ_discrete}
use lib.Seq.{drop-length}
use Rattle.words.specs.Bits.{bit, bit_at}
use Rattle.words.specs.Working.{WordPut, RangePut}
use Rattle.words.proofs.Sums.{lt_or}
use Rattle.words.proofs.WordLaws.{word_bit}

-- ---- ranges

-- the ends of a range, written another way
pub put_ends : (ws vs : List ℕ) (a a' e e' b : ℕ) → a ≡ a' → e ≡ e' → RangePut ws a e b vs → RangePut ws a' e' b vs
put_ends ws vs a a' e e' b x y = subst₂ (λ (m n : ℕ). RangePut ws m n b vs) x y

-- nothing is written
pub put_none : (ws : List ℕ) (a b : ℕ) → RangePut ws a a b ws
put_none ws a b = record { long = refl; inside = (λ p l u. absurd (omega arith)); under = (λ p l. refl); over = (λ p l. refl) }

-- two ranges that meet
pub put_join : (ws vs us : List ℕ) (a m e b : ℕ) → a ≤ m → m ≤ e → RangePut ws a m b vs → RangePut vs m e b us → RangePut ws a e b us
put_join ws vs us a m e b la le x y =
    record {
      long = y.long ∙ x.long;
      inside = (λ p l u. go p l u (lt_or p m));
      under = (λ p l. y.under p (omega arith) ∙ x.under p l);
      over = (λ p l. y.over p l ∙ x.over p (omega arith));
    }
  where
    go : (p : ℕ) → a ≤ p → p < e → (p < m) ⊎ (m ≤ p) → bit_at us p ≡ b
    go p l u (inl h) = y.under p h ∙ x.inside p l h
    go p l u (inr h) = y.inside p h u

-- ---- one word stored

-- bit q of the word that is stored at k
stored_bit : (ws : List ℕ) (k r q : ℕ) → k < length ws → q < 64 → bit_at (set ws k r) (64 * k + q) ≡ bit r q
stored_bit ws k r q h l = word_bit (set ws k r) k q l ∙ ap (λ (x : ℕ). bit x q) (get_or-set_same ws k r 0 h)

-- a position of another word
other_bit : (ws : List ℕ) (k r p : ℕ) → (p / 64 ≡ k → ⊥) → bit_at (set ws k r) p ≡ bit_at ws p
other_bit ws k r p h = ap (λ (x : ℕ). bit x (p % 64)) (get_or-set_other ws k (p / 64) r 0 h)

-- word k replaced by r, whose bits from i to j - 1 are b and whose other bits below 64 are the old word's
pub word_stored : (ws : List ℕ) (k i j b r : ℕ) → k < length ws → j ≤ 64 → ((q : ℕ) → i ≤ q → q < j → bit r q ≡ b)
    → ((q : ℕ) → q < 64 → (q < i) ⊎ (j ≤ q) → bit r q ≡ bit (get_or ws k 0) q) → RangePut ws (64 * k + i) (64 * k + j) b (set ws k r)
word_stored ws k i j b r h w new old =
    record {
      long = length-set ws k r;
      inside = (λ p l u.
          let e : 64 * k + (p - 64 * k) ≡ p = omega arith in
          ap (bit_at (set ws k r)) (sym e) ∙ stored_bit ws k r (p - 64 * k) h (omega arith) ∙ new (p - 64 * k) (omega arith) (omega arith));
      under = (λ p l. kept p (inl l) (ℕ_discrete (p / 64) k));
      over = (λ p l. kept p (inr l) (ℕ_discrete (p / 64) k));
    }
  where
    side : (p q : ℕ) → 64 * k + q ≡ p → (p < 64 * k + i) ⊎ (64 * k + j ≤ p) → (q < i) ⊎ (j ≤ q)
    side p q e (inl l) = inl (omega arith)
    side p q e (inr l) = inr (omega arith)

    kept : (p : ℕ) → (p < 64 * k + i) ⊎ (64 * k + j ≤ p) → Dec (p / 64 ≡ k) → bit_at (set ws k r) p ≡ bit_at ws p
    kept p o (yes m) =
        let q : ℕ = p - 64 * k in
        let e : 64 * k + q ≡ p = omega arith in
        let l : q < 64 = omega arith in
        ap (bit_at (set ws k r)) (sym e) ∙ stored_bit ws k r q h l ∙ old q l (side p q e o) ∙ sym (word_bit ws k q l) ∙ ap (bit_at ws) e
    kept p o (no m) = other_bit ws k r p m

-- word k with its bits from i to j - 1 made b
pub word_put : (ws : List ℕ) (k i j b r : ℕ) → k < length ws → j ≤ 64 → WordPut (get_or ws k 0) i j b r → RangePut ws (64 * k + i) (64 * k + j) b (set ws k r)
word_put ws k i j b r h w x = word_stored ws k i j b r h w x.inside (λ q l o. outside q o)
  where
    outside : (q : ℕ) → (q < i) ⊎ (j ≤ q) → bit r q ≡ bit (get_or ws k 0) q
    outside q (inl l) = x.under q l
    outside q (inr l) = x.over q l

-- the one position p
pub position_put : (ws : List ℕ) (p b r : ℕ) → p < 64 * length ws → WordPut (get_or ws (p / 64) 0) (p % 64) (p % 64 + 1) b r
    → RangePut ws p (p + 1) b (set ws (p / 64) r)
position_put ws p b r h x =
    put_ends ws (set ws (p / 64) r) (64 * (p / 64) + p % 64) p (64 * (p / 64) + (p % 64 + 1)) (p + 1) b (omega arith) (omega arith)
    (word_put ws (p / 64) (p % 64) (p % 64 + 1) b r (omega arith) (omega arith) x)

-- ---- a list whose elements become 0

-- ys is xs with its first k elements made 0
abbrev pub Zeroed : List ℕ → List ℕ → ℕ → Type 0
Zeroed xs ys k = (k ≤ length xs) × (length ys ≡ length xs) × (ys ≡ replicate k 0 ++ drop k xs)

-- all
pub zeroed_done : (xs ys : List ℕ) (k : ℕ) → Zeroed xs ys k → length xs ≤ k → ys ≡ replicate (length xs) 0
zeroed_done xs ys k z h =
    let e : k ≡ length xs = omega (arith, z.0) in
    z.2
    ∙ ap (λ (n : ℕ). replicate n 0 ++ drop n xs) e
    ∙ ap (λ (zs : List ℕ). replicate (length xs) 0 ++ zs) (drop-length xs)
    ∙ append-nil (replicate (length xs) 0)
