-- What is told is small: every value is below 2^32, so that its code tells a value from a refusal. Assumes nothing.
use Rattle.std.proofs.Common.{◌≡◌, ℕ, zero, suc, ◌+◌, ◌-◌, ◌^◌, ◌<◌, ◌≤◌, min, Bool, true, false, cond, ◌&&◌, eqb, leb, List, length, sym, refl, ap, ◌∙◌, subst, arith}
use mathlib.Core.Option.{Option, some, none}
use Rattle.words.specs.declared.handle.Handle.{Handle}
use Rattle.words.specs.Strip.{cell, strip_of, least, greatest}
use Rattle.words.specs.Refusals.{Line, judge, unless, Judged, Told, value, refused, found, coded, CodedAs, Small}
use Rattle.words.specs.Handles.{untaken}
use Rattle.words.specs.Calls.{below_table, value_table, get_told, successor_told, predecessor_told}
use Rattle.words.proofs.WordLaws.{bit_at_le}
use Rattle.words.proofs.SearchLaws.{Searched, hit, miss, least_is}
use Rattle.words.proofs.CheckLaws.{Checked, checked_below, checked_value}
use Rattle.words.proofs.StripLaws.{strip_cell, strip_length}

-- ---- the code
-- a value's code is the value, below 2^32
pub value_coded : (t : Told) (x : ℕ) → Small t → t ≡ value x → (coded t ≡ x) × (x < 2 ^ 32)
value_coded (value y) x h e = let z : y ≡ x = cc in (z, omega arith)
value_coded (refused n) x h e = let z : ◌≡◌ {A = ℕ} 0 1 = cc in absurd (omega arith)

-- a refusal's is not below it
pub refused_coded : (t : Told) (n : ℕ) → t ≡ refused n → (coded t ≡ 2 ^ 32 + n) × (2 ^ 32 ≤ coded t)
refused_coded t n e = let z : coded t ≡ 2 ^ 32 + n = ap coded e in (z, omega arith)

-- and so the code says which it is: below 2^32 the value
pub coded_value : (t : Told) → Small t → coded t < 2 ^ 32 → t ≡ value (coded t)
coded_value (value x) h l = refl
coded_value (refused n) h l = absurd (omega arith)

-- else a refusal, and its number
pub coded_refused : (t : Told) → Small t → 2 ^ 32 ≤ coded t → t ≡ refused (coded t - 2 ^ 32)
coded_refused (value x) h l = absurd (omega arith)
coded_refused (refused n) h l = let z : n ≡ 2 ^ 32 + n - 2 ^ 32 = omega arith in ap refused z

-- the same of the code of something told of which P holds
module _ (P : Told → Type 0) (small : (t : Told) → P t → Small t) (r : ℕ) (c : CodedAs P r) where
  pub coded_as_value : r < 2 ^ 32 → P (value r)
  coded_as_value l =
      subst P (coded_value c.told (small c.told c.holds) (omega (arith, c.code)) ∙ ap value (sym c.code)) c.holds

  pub coded_as_refused : 2 ^ 32 ≤ r → P (refused (r - 2 ^ 32))
  coded_as_refused l =
      subst P (coded_refused c.told (small c.told c.holds) (omega (arith, c.code)) ∙ ap (λ (x : ℕ). refused (x - 2 ^ 32)) (sym c.code))
      c.holds

-- ---- the forms of what is told
-- refused by a table, or small where it passes
pub small_unless : (v : Option ℕ) (t : Told) → (v ≡ none → Small t) → Small (unless v refused t)
small_unless none t h = h refl
small_unless (some n) t h = tt

-- the refusal that a table gives, or small where the answer is right
pub small_judged : (ls : List Line) (Right : Told → Type 0) (t : Told) → Judged ls refused Right t → (judge ls ≡ none → Right t → Small t) → Small t
small_judged ls Right t j h = go (judge ls) refl
  where
    go : (o : Option ℕ) → judge ls ≡ o → Small t
    go (some n) e = subst Small (sym (j.early n e)) tt
    go none e = h e (j.late e)

-- the smallest position below n that passes a test
pub small_least : (t : ℕ → Bool) (n : ℕ) → n < 2 ^ 32 → Small (found (least t n))
small_least t n l = go (least t n) (least_is t n)
  where
    go : (o : Option ℕ) → Searched t n o → Small (found o)
    go o (hit p h) = omega (arith, h.below)
    go o (miss h) = tt

-- the largest
pub small_greatest : (t : ℕ → Bool) (n : ℕ) → n < 2 ^ 32 → Small (found (greatest t n))
unfolding greatest
small_greatest t zero l = tt
small_greatest t (suc n) l = go (t n) (small_greatest t n (omega arith))
  where
    go : (b : Bool) → Small (found (greatest t n)) → Small (found (cond b (some n) (greatest t n)))
    go true h = omega arith
    go false h = h

-- ---- the calls on words alone
-- the strip of a handle that the checks pass is short
short : (h : Handle) (ws : List ℕ) (words : ℕ) (counted : Bool) → Checked h words counted → length (strip_of ws h.length) < 2 ^ 32
short h ws words counted k = omega (arith, strip_length ws h.length, k.long, k.most)

-- look
pub small_get : (h : Handle) (ws : List ℕ) (i : ℕ) → Small (get_told h ws i)
small_get h ws i =
    small_unless (judge (below_table h (length ws) untaken i)) (value (cell (strip_of ws h.length) i)) (λ e.
    omega (arith, strip_cell ws h.length i (checked_below h (length ws) untaken i e).1, bit_at_le ws i))

-- next
pub small_successor : (h : Handle) (ws : List ℕ) (v i : ℕ) → Small (successor_told h ws v i)
small_successor h ws v i =
    let s : List ℕ = strip_of ws h.length in
    small_unless (judge (value_table h (length ws) untaken v i)) (found (least (λ p. leb i p && eqb (cell s p) v) (length s))) (λ e.
    small_least (λ p. leb i p && eqb (cell s p) v) (length s) (short h ws (length ws) untaken (checked_value h (length ws) untaken v i e).0))

-- prior
pub small_predecessor : (h : Handle) (ws : List ℕ) (v i : ℕ) → Small (predecessor_told h ws v i)
small_predecessor h ws v i =
    let s : List ℕ = strip_of ws h.length in
    small_unless (judge (value_table h (length ws) untaken v i)) (found (greatest (λ p. eqb (cell s p) v) (min i (length s)))) (λ e.
    small_greatest (λ p. eqb (cell s p) v) (min i (length s)) (omega (arith, short h ws (length ws) untaken (checked_value h (length ws) untaken v i e).0)))
