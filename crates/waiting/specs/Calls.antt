-- The waiting calls: their answers, their refusals in order, and when an answer is right. Assumes nothing.
use Rattle.std.specs.Prelude.{ℕ, ◌≡◌, List, length, Option, Some, None, Result, Ok, Err}
use Rattle.words.specs.declared.handle.Handle.{Handle}
use Rattle.words.specs.declared.refusal.Refusal.{Refusal}
use Rattle.words.specs.Strip.{strip_of}
use Rattle.words.specs.Refusals.{number_of, Judged}
use Rattle.pairs.specs.Calls.{pair_lines, pair_within_table}
use Rattle.waiting.specs.declared.scan.Counts.{Counts}
use Rattle.waiting.specs.declared.waiting.Places.{Places}
use Rattle.waiting.specs.Outcomes.{RankRange, Earliest, Latest, SomeLacks, AllLack, NoneLacks}

-- what a waiting count tells: the least and the most, or the number of a refusal
pub data RankTold : Type 0 where
  least_most : ℕ → ℕ → RankTold
  unranked : ℕ → RankTold

-- what a waiting find tells: from the earliest to the latest; from the earliest on, some outcome having none; or the number of a refusal
pub data SelectTold : Type 0 where
  from_to : ℕ → ℕ → SelectTold
  from_on : ℕ → SelectTold
  unselected : ℕ → SelectTold

-- the answers by their values or number
abbrev pub rank_told_of : Result Counts Refusal → RankTold
rank_told_of (Ok n) = least_most n.least n.most
rank_told_of (Err r) = unranked (number_of r)

-- from the earliest a on, to the latest where there is one
abbrev pub places_told : ℕ → Option ℕ → SelectTold
places_told a (Some b) = from_to a b
places_told a None = from_on a

abbrev pub select_told_of : Result Places Refusal → SelectTold
select_told_of (Ok p) = places_told p.earliest p.latest
select_told_of (Err r) = unselected (number_of r)

-- an answer to a count that no check refuses: the least and the most over all outcomes
abbrev pub RightRank : List ℕ → List ℕ → ℕ → RankTold → Type 0
RightRank s t i (least_most a b) = RankRange s t i a b
RightRank s t i (unranked n) = ⊥

-- an answer to a find that no check refuses: the earliest and the latest, where every outcome has a k-th misfire; the earliest alone, where some outcome
-- has one and some has none; 6 where no outcome has one
abbrev pub RightSelect : List ℕ → List ℕ → ℕ → SelectTold → Type 0
RightSelect s t k (from_to a b) = NoneLacks s t k × Earliest s t k a × Latest s t k b
RightSelect s t k (from_on a) = SomeLacks s t k × Earliest s t k a
RightSelect s t k (unselected n) = AllLack s t k × (n ≡ 6)

-- waiting count(i): 1, 2 of the strip; 1, 2 of the waiting strip; 16; 4 i above the length
abbrev pub WaitingRank : Handle → List ℕ → Handle → List ℕ → ℕ → RankTold → Type 0
WaitingRank strip ws waiting vs i =
    Judged (pair_within_table strip (length ws) waiting (length vs) i) unranked (RightRank (strip_of ws strip.length) (strip_of vs waiting.length) i)

-- waiting find(k): 1, 2 of the strip; 1, 2 of the waiting strip; 16; 6 no outcome has such a stroke
abbrev pub WaitingSelect : Handle → List ℕ → Handle → List ℕ → ℕ → SelectTold → Type 0
WaitingSelect strip ws waiting vs k =
    Judged (pair_lines strip (length ws) waiting (length vs)) unselected (RightSelect (strip_of ws strip.length) (strip_of vs waiting.length) k)
