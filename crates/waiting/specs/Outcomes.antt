-- The outcomes of a strip and its waiting strip, and what counting and finding give over all of them. Assumes nothing.
use Rattle.std.specs.Prelude.{ℕ, ◌≤◌, ◌<◌, ◌≡◌, List, length}
use Rattle.std.proofs.Math.Option.{some, none}
use Rattle.words.specs.Strip.{cell, rank, select}

-- an outcome o of a strip s and its waiting strip t, which marks the waiting strokes: a strip as long as s, its cells 0 or 1, that agrees with s wherever
-- there is no mark. A stroke with a mark may become either value, whatever s has there
pub record Outcome (s t o : List ℕ) : Type 0 where
  pub long : length o ≡ length s
  pub bits : (p : ℕ) → p < length s → cell o p ≤ 1
  pub agrees : (p : ℕ) → p < length s → cell t p ≡ 0 → cell o p ≡ cell s p

-- some outcome o has f o = x
pub record Reached {A : Type 0} (s t : List ℕ) (f : List ℕ → A) (x : A) : Type 0 where
  pub outcome : List ℕ
  pub is : Outcome s t outcome
  pub has : f outcome ≡ x

-- the least and the most misfires before i over all outcomes: no outcome has fewer or more, some outcome has the least, some the most, and every number
-- between is reached by some outcome
pub record RankRange (s t : List ℕ) (i least most : ℕ) : Type 0 where
  pub no_fewer : (o : List ℕ) → Outcome s t o → least ≤ rank o 1 i
  pub no_more : (o : List ℕ) → Outcome s t o → rank o 1 i ≤ most
  pub least_reached : Reached s t (λ o. rank o 1 i) least
  pub most_reached : Reached s t (λ o. rank o 1 i) most
  pub between : (n : ℕ) → least ≤ n → n ≤ most → Reached s t (λ o. rank o 1 i) n

-- the earliest position that the k-th misfire can take: some outcome has it there, none has it before
pub record Earliest (s t : List ℕ) (k earliest : ℕ) : Type 0 where
  pub reached : Reached s t (λ o. select o 1 k) (some earliest)
  pub none_before : (o : List ℕ) (p : ℕ) → Outcome s t o → select o 1 k ≡ some p → earliest ≤ p

-- the latest position that it can take
pub record Latest (s t : List ℕ) (k latest : ℕ) : Type 0 where
  pub reached : Reached s t (λ o. select o 1 k) (some latest)
  pub none_after : (o : List ℕ) (p : ℕ) → Outcome s t o → select o 1 k ≡ some p → p ≤ latest

-- some outcome has no k-th misfire
abbrev pub SomeLacks : List ℕ → List ℕ → ℕ → Type 0
SomeLacks s t k = Reached s t (λ o. select o 1 k) none

-- no outcome has a k-th misfire
abbrev pub AllLack : List ℕ → List ℕ → ℕ → Type 0
AllLack s t k = (o : List ℕ) → Outcome s t o → select o 1 k ≡ none

-- every outcome has a k-th misfire
abbrev pub NoneLacks : List ℕ → List ℕ → ℕ → Type 0
NoneLacks s t k = (o : List ℕ) → Outcome s t o → select o 1 k ≡ none → ⊥
