-- The laws of `least` and `greatest`, and of rank and select over any cells: select is unique, exists exactly where k is below the number
-- of v, and rank and select undo each other; and of the number of v by the ones. Assumes nothing.
use Rattle.std.proofs.Common.{◌≡◌, ℕ, zero, suc, ◌+◌, ◌-◌, ◌<◌, ◌≤◌, Bool, true, false, cond, ◌&&◌, eqb, ◌⊎◌, sym, refl, ap, ◌∙◌, subst, ap₂, inl, inr, zero-le, le_refl, not-suc-le-zero, lt-suc_self, add-sub_of_le, arith, eq-eqb, ne_eqb, eqb-true, le-leb}
use mathlib.Core.Option.{Option, some, none}
use native.Mathlib.Decide.{ℕ_discrete}
use borrow.Author.Tests.{lt-leb}
use Rattle.words.specs.Bits.{sum_to, ones}
use Rattle.words.specs.Strip.{or_else, least, greatest, holds, rank_of, select_of, of_value}
use Rattle.words.specs.Working.{at_most}
use Rattle.words.specs.Words.{place_in}
use Rattle.words.proofs.BoolLaws.{bool_or, true_false, and_intro, and_first, and_second}
use Rattle.words.proofs.Sums.{lt_or, sum_suc, sum_zero, sum_ext, ones_le, rank_one, part_ones}
use Rattle.words.proofs.WordLaws.{holds_yes, holds_no, holds_le, holds_zero, holds_one}

-- ---- the smallest position that passes a test

-- p is below n, passes, and none before it does
pub record Least (t : ℕ → Bool) (n p : ℕ) : Type 0 where
  pub below : p < n
  pub passes : t p ≡ true
  pub first : (q : ℕ) → q < p → t q ≡ false

-- what `least` answers
pub data Searched (t : ℕ → Bool) (n : ℕ) : Option ℕ → Type 0 where
  hit : (p : ℕ) → Least t n p → Searched t n (some p)
  miss : ((q : ℕ) → q < n → t q ≡ false) → Searched t n none

pub least_is : (t : ℕ → Bool) (n : ℕ) → Searched t n (least t n)
unfolding least
least_is t zero = miss (λ q l. absurd (not-suc-le-zero l))
least_is t (suc n) = go (least t n) (least_is t n) (t n) refl
  where
    go : (r : Option ℕ) → Searched t n r → (b : Bool) → t n ≡ b → Searched t (suc n) (or_else r (cond b (some n) none))
    go r (hit p h) b e = hit p (record { below = omega (arith, h.below); passes = h.passes; first = h.first })
    go r (miss h) true e = hit n (record { below = lt-suc_self n; passes = e; first = h })
    go r (miss h) false e = miss (λ q l. none_at q l (lt_or q n))
      where
        none_at : (q : ℕ) → q < suc n → (q < n) ⊎ (n ≤ q) → t q ≡ false
        none_at q l (inl a) = h q a
        none_at q l (inr a) = let e2 : q ≡ n = omega arith in ap t e2 ∙ e

-- such a position is the answer
pub least_at : (t : ℕ → Bool) (n p : ℕ) → Least t n p → least t n ≡ some p
least_at t n p h = go (least t n) (least_is t n)
  where
    go : (r : Option ℕ) → Searched t n r → r ≡ some p
    go r (hit q g) = ap some (same (lt_or p q) (lt_or q p))
      where
        same : (p < q) ⊎ (q ≤ p) → (q < p) ⊎ (p ≤ q) → q ≡ p
        same (inl l) m = absurd (true_false h.passes (g.first p l))
        same (inr l) (inl m) = absurd (true_false g.passes (h.first q m))
        same (inr l) (inr m) = omega arith
    go r (miss g) = absurd (true_false h.passes (g p h.below))

pub least_none : (t : ℕ → Bool) (n : ℕ) → ((q : ℕ) → q < n → t q ≡ false) → least t n ≡ none
least_none t n h = go (least t n) (least_is t n)
  where
    go : (r : Option ℕ) → Searched t n r → r ≡ none
    go r (hit q g) = absurd (true_false g.passes (h q g.below))
    go r (miss g) = refl

-- the same tests, the same answer
pub least_ext : (t u : ℕ → Bool) (n : ℕ) → ((p : ℕ) → p < n → t p ≡ u p) → least t n ≡ least u n
unfolding least
least_ext t u zero h = refl
least_ext t u (suc n) h =
    ap₂ (λ (r : Option ℕ) (b : Bool). or_else r (cond b (some n) none)) (least_ext t u n (λ p l. h p (omega arith))) (h n (lt-suc_self n))

-- ---- the largest

pub greatest_at : (t : ℕ → Bool) (n p : ℕ) → p < n → t p ≡ true → ((q : ℕ) → p < q → q < n → t q ≡ false) → greatest t n ≡ some p
unfolding greatest
greatest_at t zero p l e h = absurd (not-suc-le-zero l)
greatest_at t (suc n) p l e h = go (lt_or p n) (greatest_at t n p)
  where
    go : (p < n) ⊎ (n ≤ p) → (p < n → t p ≡ true → ((q : ℕ) → p < q → q < n → t q ≡ false) → greatest t n ≡ some p)
        → cond (t n) (some n) (greatest t n) ≡ some p
    go (inl a) ih = rw (h n a (lt-suc_self n)) (ih a e (λ q b c. h q b (omega arith)))
    go (inr a) ih = let s : n ≡ p = omega arith in rw (ap t s ∙ e) (ap some s)

pub greatest_none : (t : ℕ → Bool) (n : ℕ) → ((q : ℕ) → q < n → t q ≡ false) → greatest t n ≡ none
unfolding greatest
greatest_none t zero h = refl
greatest_none t (suc n) h = rw (h n (lt-suc_self n)) (greatest_none t n (λ q l. h q (omega arith)))

pub greatest_ext : (t u : ℕ → Bool) (n : ℕ) → ((p : ℕ) → p < n → t p ≡ u p) → greatest t n ≡ greatest u n
unfolding greatest
greatest_ext t u zero h = refl
greatest_ext t u (suc n) h =
    ap₂ (λ (r : Option ℕ) (b : Bool). cond b (some n) r) (greatest_ext t u n (λ p l. h p (omega arith))) (h n (lt-suc_self n))

-- ---- rank and select over cells f

-- p holds v and has k of v before it
pub record KthAt (f : ℕ → ℕ) (n v k p : ℕ) : Type 0 where
  pub below : p < n
  pub held : f p ≡ v
  pub rank : rank_of f v p ≡ k

-- two positions that hold v and have as many of v before them are one
pub place_unique : (f : ℕ → ℕ) (n v k p q : ℕ) → KthAt f n v k p → KthAt f n v k q → p ≡ q
place_unique f n v k p q a b = go (lt_or p q) (lt_or q p)
  where
    go : (p < q) ⊎ (q ≤ p) → (q < p) ⊎ (p ≤ q) → p ≡ q
    go (inl l) m = absurd (omega (arith, rank_one (holds f v) p q (holds_yes f v p a.held) l, a.rank, b.rank))
    go (inr l) (inl m) = absurd (omega (arith, rank_one (holds f v) q p (holds_yes f v q b.held) m, a.rank, b.rank))
    go (inr l) (inr m) = omega arith

-- select answers that position
pub select_at : (f : ℕ → ℕ) (n v k p : ℕ) → KthAt f n v k p → select_of f n v k ≡ some p
select_at f n v k p h =
    least_at (λ q. eqb (f q) v && eqb (rank_of f v q) k) n p
    (record {
      below = h.below;
      passes = and_intro (eq-eqb (f p) v h.held) (eq-eqb (rank_of f v p) k h.rank);
      first = (λ q l. other q l (bool_or (eqb (f q) v && eqb (rank_of f v q) k)));
    })
  where
    other : (q : ℕ) → q < p → ((eqb (f q) v && eqb (rank_of f v q) k) ≡ true) ⊎ ((eqb (f q) v && eqb (rank_of f v q) k) ≡ false)
        → (eqb (f q) v && eqb (rank_of f v q) k) ≡ false
    other q l (inl t) =
        let e : f q ≡ v = eqb-true (f q) v (and_first (eqb (f q) v) (eqb (rank_of f v q) k) t) in
        let r : rank_of f v q ≡ k = eqb-true (rank_of f v q) k (and_second (eqb (f q) v) (eqb (rank_of f v q) k) t) in
        absurd (omega (arith, rank_one (holds f v) q p (holds_yes f v q e) l, r, h.rank))
    other q l (inr t) = t

-- and no other
pub select_place : (f : ℕ → ℕ) (n v k p : ℕ) → select_of f n v k ≡ some p → KthAt f n v k p
select_place f n v k p e = go (select_of f n v k) (least_is (λ q. eqb (f q) v && eqb (rank_of f v q) k) n) e
  where
    go : (r : Option ℕ) → Searched (λ q. eqb (f q) v && eqb (rank_of f v q) k) n r → r ≡ some p → KthAt f n v k p
    go r (hit q g) e2 =
        let s : q ≡ p = cc in
        subst (λ (x : ℕ). KthAt f n v k x) s
        (record {
          below = g.below;
          held = eqb-true (f q) v (and_first (eqb (f q) v) (eqb (rank_of f v q) k) g.passes);
          rank = eqb-true (rank_of f v q) k (and_second (eqb (f q) v) (eqb (rank_of f v q) k) g.passes);
        })
    go r (miss g) e2 = let z : ◌≡◌ {A = ℕ} 0 1 = cc in absurd (omega arith)

-- where k is below the number of v, there is such a position
pub place_exists : (f : ℕ → ℕ) (n v k : ℕ) → k < rank_of f v n → (p : ℕ) × KthAt f n v k p
place_exists f zero v k h = absurd (omega (arith, sum_zero (holds f v)))
place_exists f (suc n) v k h = go (lt_or k (rank_of f v n)) (place_exists f n v k)
  where
    go : (k < rank_of f v n) ⊎ (rank_of f v n ≤ k) → (k < rank_of f v n → (p : ℕ) × KthAt f n v k p) → (p : ℕ) × KthAt f (suc n) v k p
    go (inl l) ih =
        let w = ih l in
        (w.0, record { below = omega (arith, w.1.below); held = w.1.held; rank = w.1.rank })
    go (inr l) ih = last (ℕ_discrete (f n) v)
      where
        last : Dec (f n ≡ v) → (p : ℕ) × KthAt f (suc n) v k p
        last (yes e) =
            (n, record { below = lt-suc_self n; held = e; rank = omega (arith, sum_suc (holds f v) n, holds_le f v n) })
        last (no d) = absurd (omega (arith, sum_suc (holds f v) n, holds_no f v n d))

-- find has an answer exactly where k is below the number of v
pub select_exists : (f : ℕ → ℕ) (n v k : ℕ) → k < rank_of f v n → (p : ℕ) × (select_of f n v k ≡ some p)
select_exists f n v k h = let w = place_exists f n v k h in (w.0, select_at f n v k w.0 w.1)

pub select_below : (f : ℕ → ℕ) (n v k p : ℕ) → select_of f n v k ≡ some p → k < rank_of f v n
select_below f n v k p e =
    let w = select_place f n v k p e in
    omega (arith, rank_one (holds f v) p n (holds_yes f v p w.held) w.below, w.rank)

pub select_none : (f : ℕ → ℕ) (n v k : ℕ) → rank_of f v n ≤ k → select_of f n v k ≡ none
select_none f n v k h = go (select_of f n v k) refl
  where
    go : (r : Option ℕ) → select_of f n v k ≡ r → r ≡ none
    go (some p) e = absurd (omega (arith, select_below f n v k p e))
    go none e = refl

-- a position that is found among the first n cells is found among more
pub select_longer : (f : ℕ → ℕ) (n c v k : ℕ) → n ≤ c → k < rank_of f v n → select_of f c v k ≡ select_of f n v k
select_longer f n c v k h l =
    let w = select_exists f n v k l in
    let p = select_place f n v k w.0 w.1 in
    select_at f c v k w.0 (record { below = omega (arith, p.below); held = p.held; rank = p.rank }) ∙ sym w.1

-- count undoes find, and find undoes count
pub rank_select : (f : ℕ → ℕ) (n v k p : ℕ) → select_of f n v k ≡ some p → rank_of f v p ≡ k
rank_select f n v k p e = (select_place f n v k p e).rank

pub select_rank : (f : ℕ → ℕ) (n v p : ℕ) → p < n → f p ≡ v → select_of f n v (rank_of f v p) ≡ some p
select_rank f n v p l e = select_at f n v (rank_of f v p) p (record { below = l; held = e; rank = refl })

-- ---- the answer as one number: the position, or the width
pub place_in_at : (f : ℕ → ℕ) (n v k p : ℕ) → KthAt f n v k p → place_in n (select_of f n v k) ≡ p
place_in_at f n v k p h = ap (place_in n) (select_at f n v k p h)

pub place_in_none : (f : ℕ → ℕ) (n v k : ℕ) → rank_of f v n ≤ k → place_in n (select_of f n v k) ≡ n
place_in_none f n v k h = ap (place_in n) (select_none f n v k h)

pub place_in_place : (f : ℕ → ℕ) (n v k : ℕ) → k < rank_of f v n → KthAt f n v k (place_in n (select_of f n v k))
place_in_place f n v k h =
    let w = place_exists f n v k h in
    subst (λ (p : ℕ). KthAt f n v k p) (sym (place_in_at f n v k w.0 w.1)) w.1

-- an answer is a position, or the end
pub select_le : (f : ℕ → ℕ) (n v k : ℕ) → place_in n (select_of f n v k) ≤ n
select_le f n v k = go (lt_or k (rank_of f v n))
  where
    go : (k < rank_of f v n) ⊎ (rank_of f v n ≤ k) → place_in n (select_of f n v k) ≤ n
    go (inl l) = omega (arith, (place_in_place f n v k l).below)
    go (inr l) = omega (arith, place_in_none f n v k l)

-- an answer among m cells, of which the first n count: a position below n is theirs
pub place_in_below : (f : ℕ → ℕ) (n m v k p : ℕ) → n ≤ m → p ≡ place_in m (select_of f m v k) → p < n → select_of f n v k ≡ some p
place_in_below f n m v k p h e l = go (lt_or k (rank_of f v m))
  where
    go : (k < rank_of f v m) ⊎ (rank_of f v m ≤ k) → select_of f n v k ≡ some p
    go (inl a) =
        let w : KthAt f m v k p = subst (λ (q : ℕ). KthAt f m v k q) (sym e) (place_in_place f m v k a) in
        select_at f n v k p (record { below = l; held = w.held; rank = w.rank })
    go (inr a) = absurd (omega (arith, place_in_none f m v k a))

-- and past them there is none
pub place_in_past : (f : ℕ → ℕ) (n m v k p : ℕ) → n ≤ m → p ≡ place_in m (select_of f m v k) → n ≤ p → select_of f n v k ≡ none
place_in_past f n m v k p h e l = go (lt_or k (rank_of f v n))
  where
    go : (k < rank_of f v n) ⊎ (rank_of f v n ≤ k) → select_of f n v k ≡ none
    go (inl a) =
        let q : ℕ = place_in n (select_of f n v k) in
        let w : KthAt f n v k q = place_in_place f n v k a in
        let b : q < n = w.below in
        absurd (omega (arith, e, place_in_at f m v k q (record { below = omega arith; held = w.held; rank = w.rank })))
    go (inr a) = select_none f n v k a

-- ---- cells g that are a part of f, w of them from a on
pub rank_ext : (f g : ℕ → ℕ) (v n : ℕ) → ((p : ℕ) → p < n → f p ≡ g p) → rank_of f v n ≡ rank_of g v n
rank_ext f g v n h = sum_ext (holds f v) (holds g v) n (λ p l. ap (λ (x : ℕ). cond (eqb x v) 1 0) (h p l))

pub rank_part : (f g : ℕ → ℕ) (a w v m : ℕ) → ((p : ℕ) → p < w → g p ≡ f (a + p)) → m ≤ w → rank_of f v (a + m) ≡ rank_of f v a + rank_of g v m
rank_part f g a w v m part l =
    part_ones (holds f v) (holds g v) a w m (λ p q. ap (λ (x : ℕ). cond (eqb x v) 1 0) (part p q)) l

-- the k-th v lies in that part, which has `under` of v before it
pub place_in_lem : (f g : ℕ → ℕ) (a w n v k under e : ℕ) → ((p : ℕ) → p < w → g p ≡ f (a + p)) → a + w ≤ n
    → under ≡ rank_of f v a → under ≤ k → KthAt g w v (k - under) e → KthAt f n v k (a + e)
place_in_lem f g a w n v k under e part top eu l h =
    let below : e < w = h.below in
    record {
      below = omega arith;
      held = sym (part e below) ∙ h.held;
      rank = omega (arith, rank_part f g a w v e part (omega arith), h.rank);
    }

-- no more v than positions
pub rank_le : (f : ℕ → ℕ) (v n : ℕ) → rank_of f v n ≤ n
rank_le f v n = ones_le (holds f v) n (holds_le f v)

-- nor from position a to b
pub rank_from : (f : ℕ → ℕ) (v a b : ℕ) → a ≤ b → rank_of f v b ≤ rank_of f v a + (b - a)
rank_from f v a b h =
    let e : a + (b - a) ≡ b = add-sub_of_le h in
    let g : ℕ → ℕ = (λ p. f (a + p)) in
    omega (arith, ap (rank_of f v) e, rank_part f g a (b - a) v (b - a) (λ p l. refl) (le_refl (b - a)), rank_le g v (b - a))

-- so k not below the number of positions is not below the number of v
pub select_beyond : (f : ℕ → ℕ) (n v k : ℕ) → n ≤ k → select_of f n v k ≡ none
select_beyond f n v k h = select_none f n v k (omega (arith, rank_le f v n))

-- of bits, the rank of 1 is the ones
pub rank_ones : (f : ℕ → ℕ) (n : ℕ) → ((p : ℕ) → f p ≤ 1) → rank_of f 1 n ≡ ones f n
rank_ones f n h = sum_ext (holds f 1) f n (λ p l. holds_one f p (h p))

-- cells f and g of which the same positions hold v and w: the same answer
pub select_ext : (f g : ℕ → ℕ) (n v w k : ℕ) → ((p : ℕ) → p < n → holds f v p ≡ holds g w p) → select_of f n v k ≡ select_of g n w k
select_ext f g n v w k h =
    least_ext (λ p. eqb (f p) v && eqb (rank_of f v p) k) (λ p. eqb (g p) w && eqb (rank_of g w p) k) n (λ p l.
    ap₂ (λ (a b : Bool). a && b) (test_ext (f p) v (g p) w (h p l))
    (ap (λ (m : ℕ). eqb m k) (sum_ext (holds f v) (holds g w) p (λ q r. h q (omega arith)))))
  where
    test_ext : (a b c d : ℕ) → ◌≡◌ {A = ℕ} (cond (eqb a b) 1 0) (cond (eqb c d) 1 0) → eqb a b ≡ eqb c d
    test_ext a b c d = go (eqb a b) (eqb c d)
      where
        go : (s t : Bool) → ◌≡◌ {A = ℕ} (cond s 1 0) (cond t 1 0) → s ≡ t
        go true true e = refl
        go true false e = absurd (omega arith)
        go false true e = absurd (omega arith)
        go false false e = refl

-- every cell holds one of the two values of a bit: the zeros and the ones before i are i
pub rank_both : (f : ℕ → ℕ) (i : ℕ) → ((p : ℕ) → f p ≤ 1) → rank_of f 0 i + rank_of f 1 i ≡ i
unfolding sum_to
rank_both f zero h = refl
rank_both f (suc i) h = omega (arith, rank_both f i h, holds_zero f i (h i), holds_one f i (h i), h i)

-- the k-th v lies in the part g of f, w positions from a on, with `left` of v before it there: its position in the part gives that in the whole
pub part_select : (f g : ℕ → ℕ) (a w n v k left r : ℕ) → ((p : ℕ) → p < w → g p ≡ f (a + p)) → a + w ≤ n → rank_of f v a + left ≡ k → left < rank_of g v w
    → r ≡ place_in w (select_of g w v left) → (r < w) × (a + r ≡ place_in n (select_of f n v k))
part_select f g a w n v k left r part top e l er =
    let ek : left ≡ k - rank_of f v a = omega arith in
    let p : KthAt g w v left r = subst (λ (q : ℕ). KthAt g w v left q) (sym er) (place_in_place g w v left l) in
    let q : KthAt f n v k (a + r) = place_in_lem f g a w n v k (rank_of f v a) r part top refl (omega arith) (subst (λ (x : ℕ). KthAt g w v x r) ek p) in
    (p.below, sym (place_in_at f n v k (a + r) q))

-- ---- the number of v among n bits of which x are ones

-- for v = 1
pub value_one : (v n x : ℕ) → v ≡ 1 → of_value v n x ≡ x
value_one v n x e = simp (eq-eqb v 1 e)

-- for another v
pub value_zero : (v n x : ℕ) → (v ≡ 1 → ⊥) → of_value v n x ≡ n - x
value_zero v n x d = simp (ne_eqb v 1 d)

-- where x is their ones, that is count(v, n)
pub value_rank : (f : ℕ → ℕ) (v n : ℕ) → ((p : ℕ) → f p ≤ 1) → v ≤ 1 → of_value v n (ones f n) ≡ rank_of f v n
value_rank f v n small h = go (lt_or v 1)
  where
    go : (v < 1) ⊎ (1 ≤ v) → of_value v n (ones f n) ≡ rank_of f v n
    go (inl l) =
        let z : 0 ≡ v = omega arith in
        value_zero v n (ones f n) (λ e. omega arith) ∙ omega (arith, rank_ones f n small, rank_both f n small) ∙ ap (λ (w : ℕ). rank_of f w n) z
    go (inr l) =
        let o : 1 ≡ v = omega arith in
        value_one v n (ones f n) (sym o) ∙ sym (rank_ones f n small) ∙ ap (λ (w : ℕ). rank_of f w n) o

module _ (f : ℕ → ℕ) (n v k x : ℕ) (bits : (p : ℕ) → f p ≤ 1) (small : v ≤ 1) (e : x ≡ ones f n) where
  -- a k below it is found, at a position below n
  pub value_found : k < of_value v n x → (p : ℕ) × (select_of f n v k ≡ some p) × (p < n)
  value_found l =
      let w = select_exists f n v k (omega (arith, ap (of_value v n) e, value_rank f v n bits small)) in
      (w.0, w.1, (select_place f n v k w.0 w.1).below)

  -- no other is
  pub value_absent : of_value v n x ≤ k → select_of f n v k ≡ none
  value_absent l = select_none f n v k (omega (arith, ap (of_value v n) e, value_rank f v n bits small))

-- at most as many as there are bits
pub value_le : (v n x : ℕ) → x ≤ n → of_value v n x ≤ n
value_le v n x h = go (eqb v 1)
  where
    go : (b : Bool) → cond b x (n - x) ≤ n
    go true = h
    go false = omega arith

-- ---- of rising numbers, how many are at most k: those before the first that is above it
pub record Reached (P : ℕ → ℕ) (k n c : ℕ) : Type 0 where
  pub within : c ≤ n
  pub low : (j : ℕ) → j < c → P j ≤ k
  pub above : c < n → k < P c

pub reached : (P : ℕ → ℕ) (k n : ℕ) → ((i j : ℕ) → i ≤ j → P i ≤ P j) → Reached P k n (ones (at_most P k) n)
reached P k zero up =
    rw (sum_zero (at_most P k)) (record { within = zero-le; low = (λ j l. absurd (omega arith)); above = (λ l. absurd (omega arith)) })
reached P k (suc n) up = go (lt_or k (P n)) (reached P k n up)
  where
    go : (k < P n) ⊎ (P n ≤ k) → Reached P k n (ones (at_most P k) n) → Reached P k (suc n) (ones (at_most P k) (suc n))
    go (inl l) ih =
        let c : ℕ = ones (at_most P k) n in
        let t : at_most P k n ≡ 0 = simp (lt-leb (P n) k l) in
        let e : ones (at_most P k) (suc n) ≡ c = sum_suc (at_most P k) n ∙ omega (arith, t) in
        rw e (record {
          within = omega (arith, ih.within);
          low = ih.low;
          above = (λ h. first c ih.within ih.above (lt_or c n));
        })
      where
        first : (c : ℕ) → c ≤ n → (c < n → k < P c) → (c < n) ⊎ (n ≤ c) → k < P c
        first c w a (inl h) = a h
        first c w a (inr h) = let s : c ≡ n = omega arith in rw s l
    go (inr l) ih =
        let c : ℕ = ones (at_most P k) n in
        let t : at_most P k n ≡ 1 = simp (le-leb (P n) k l) in
        let all : c ≡ n = full c ih.within ih.above (lt_or c n) in
        let e : ones (at_most P k) (suc n) ≡ suc n = sum_suc (at_most P k) n ∙ omega (arith, t, all) in
        rw e (record {
          within = le_refl (suc n);
          low = (λ j h. native.Mathlib.Nat.le_trans (up j n (omega arith)) l);
          above = (λ h. absurd (omega arith));
        })
      where
        full : (c : ℕ) → c ≤ n → (c < n → k < P c) → (c < n) ⊎ (n ≤ c) → c ≡ n
        full c w a (inl h) = absurd (omega (arith, a h, up c n w))
        full c w a (inr h) = omega arith
