-- What a reader of the answers may conclude: where nothing waits, by the marks, by the counts, and as the pressure comes. Assumes nothing.
use mathlib.Core.Path.{◌≡◌, sym, ap, ◌∙◌}
use mathlib.Core.List.{List}
use mathlib.Core.Option.{some, none}
use Prim.Native.Nat.{ℕ, min, ◌≤◌, ◌<◌}
use native.Mathlib.Omega.{arith}
use lib.ListN.{length}
use Rattle.words.specs.Strip.{cell, rank_of, rank, select}
use Rattle.words.proofs.CheckLaws.{not_both, same_some}
use Rattle.words.proofs.SearchLaws.{select_exists, select_none}
use Rattle.waiting.specs.Outcomes.{Outcome, Reached, RankRange, Earliest, Latest, SomeLacks, AllLack, NoneLacks}
use Rattle.waiting.specs.Calls.{from_to, RightSelect}
use Rattle.waiting.proofs.OutcomeLaws.{itself, unmarked}

module _ (s t : List ℕ) where
  -- where nothing is marked: the strip's own count, twice
  module _ (bare : (p : ℕ) → p < length s → cell t p ≡ 0) where
    own : {A : Type 0} (f : List ℕ → A) (x : A) → Reached s t f x → x ≡ f s
    own f x r = sym r.has ∙ ap f (unmarked s t r.outcome bare r.is)

    pub bare_rank : (i a b : ℕ) → RankRange s t i a b → (a ≡ rank s 1 i) × (b ≡ rank s 1 i)
    bare_rank i a b r = (own (λ o. rank o 1 i) a r.least_reached, own (λ o. rank o 1 i) b r.most_reached)

    -- the strip's own position, twice
    pub bare_select : ((p : ℕ) → cell s p ≤ 1) → (k p : ℕ) → select s 1 k ≡ some p → RightSelect s t k (from_to p p)
    bare_select bits k p e =
        let all : (o : List ℕ) → Outcome s t o → select o 1 k ≡ some p = (λ o u. ap (λ (o : List ℕ). select o 1 k) (unmarked s t o bare u) ∙ e) in
        let here : Reached s t (λ o. select o 1 k) (some p) = record { outcome = s; is = itself s t bits; has = e } in (
          (λ o u x. not_both (all o u) x),
          record { reached = here; none_before = (λ o q u x. let z : p ≡ q = same_some (select o 1 k) p q (all o u) x in omega arith) },
          record { reached = here; none_after = (λ o q u x. let z : p ≡ q = same_some (select o 1 k) p q (all o u) x in omega arith) },
        )

  -- the kind of a find's answer, by the least and the most of the whole strip
  module _ (a b k : ℕ) (r : RankRange s t (length s) a b) where
    whole : (o : List ℕ) → Outcome s t o → rank o 1 (length s) ≡ rank_of (cell o) 1 (length o)
    whole o u = let e : min (length s) (length o) ≡ length o = omega (arith, u.long) in ap (rank_of (cell o) 1) e

    -- k below the least: every outcome has a k-th misfire
    pub kind_all : k < a → NoneLacks s t k
    kind_all l o u x = not_both (select_exists (cell o) (length o) 1 k (omega (arith, r.no_fewer o u, whole o u))).1 x

    -- at or past it: some outcome has none
    pub kind_lacks : a ≤ k → SomeLacks s t k
    kind_lacks l =
        let x = r.least_reached in
        record {
          outcome = x.outcome;
          is = x.is;
          has = select_none (cell x.outcome) (length x.outcome) 1 k (omega (arith, x.has, whole x.outcome x.is));
        }

    -- below the most: not all lack it
    pub kind_some : k < b → AllLack s t k → ⊥
    kind_some l h =
        let x = r.most_reached in
        not_both (select_exists (cell x.outcome) (length x.outcome) 1 k (omega (arith, x.has, whole x.outcome x.is))).1 (h x.outcome x.is)

    -- at or past the most: no outcome has one
    pub kind_none : b ≤ k → AllLack s t k
    kind_none l o u = select_none (cell o) (length o) 1 k (omega (arith, r.no_more o u, whole o u))

-- ---- the pressure of some strokes comes: strip r with marks u becomes strip s with marks t, as long; where u has no mark, t has none and s has r's bit
module _ (s r t u : List ℕ) (long : length s ≡ length r)
    (come : (p : ℕ) → p < length s → cell u p ≡ 0 → (cell t p ≡ 0) × (cell s p ≡ cell r p)) where
  -- no outcome is new
  pub settled : (o : List ℕ) → Outcome s t o → Outcome r u o
  settled o h =
      record {
        long = h.long ∙ long;
        bits = (λ p l. h.bits p (omega arith));
        agrees = (λ p l e. let q : p < length s = omega arith in let w = come p q e in h.agrees p q w.0 ∙ w.1);
      }

  still : {A : Type 0} (f : List ℕ → A) (x : A) → Reached s t f x → Reached r u f x
  still f x h = record { outcome = h.outcome; is = settled h.outcome h.is; has = h.has }

  -- so the least does not fall and the most does not rise
  pub narrower_rank : (i a b c d : ℕ) → RankRange s t i a b → RankRange r u i c d → (c ≤ a) × (b ≤ d)
  narrower_rank i a b c d x y =
      let f = still (λ o. rank o 1 i) a x.least_reached in
      let g = still (λ o. rank o 1 i) b x.most_reached in
      (omega (arith, f.has, y.no_fewer f.outcome f.is), omega (arith, g.has, y.no_more g.outcome g.is))

  -- the earliest comes no earlier, the latest no later
  pub narrower_earliest : (k a c : ℕ) → Earliest s t k a → Earliest r u k c → c ≤ a
  narrower_earliest k a c x y = let f = still (λ o. select o 1 k) (some a) x.reached in y.none_before f.outcome a f.is f.has

  pub narrower_latest : (k b d : ℕ) → Latest s t k b → Latest r u k d → b ≤ d
  narrower_latest k b d x y = let f = still (λ o. select o 1 k) (some b) x.reached in y.none_after f.outcome b f.is f.has

  -- and an outcome that lacks a k-th misfire was there before
  pub narrower_lacks : (k : ℕ) → SomeLacks s t k → SomeLacks r u k
  narrower_lacks k x = still (λ o. select o 1 k) none x
