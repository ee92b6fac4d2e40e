-- What the exported calls give. Assumes nothing.
use Rattle.std.specs.Prelude.{ℕ, ◌≤◌, ◌<◌, ◌≡◌, Bool, cond, List, [], ◌∷◌, ◌++◌, length, drop, ltb}
use Rattle.words.specs.declared.handle.Handle.{Handle}
use Rattle.words.specs.Handles.{handle}
use Rattle.counters.specs.Promises.{CreatedTold, created, uncreated, ChangedTold, done, kept, Outcome}
use Rattle.waiting.specs.Calls.{RankTold, least_most, unranked, SelectTold, from_to, from_on, unselected}

-- how many numbers a change writes to `out`
abbrev pub out_numbers : ℕ
out_numbers = 6

-- these are: refusal or 0, first value, second value or 0, capacity, length and total of the handle to go on with
abbrev pub out_with : ℕ → ℕ → ℕ → Handle → List ℕ
out_with n x y h = n ∷ x ∷ y ∷ h.capacity ∷ h.length ∷ h.total ∷ []

abbrev pub changed_out : ChangedTold → List ℕ
changed_out (done h x y) = out_with 0 x y h
changed_out (kept h n) = out_with n 0 0 h

-- a refused lay gives no handle: 0, 0, 0
abbrev pub created_out : CreatedTold → List ℕ
created_out (created h x) = out_with 0 x 0 h
created_out (uncreated n) = out_with n 0 0 (handle 0 0 0)

-- the first n numbers of `out` are xs, those past them stay
abbrev pub numbers_over : ℕ → List ℕ → List ℕ → List ℕ
numbers_over n xs out = xs ++ drop n out

-- the same of those that a change writes
abbrev pub out_over : List ℕ → List ℕ → List ℕ
out_over = numbers_over out_numbers

-- the three lent buffers
pub record Lent : Type 0 where
  pub words : List ℕ
  pub counters : List ℕ
  pub out : List ℕ

abbrev pub lent : List ℕ → List ℕ → List ℕ → Lent
lent ws cs os = record { words = ws; counters = cs; out = os }

-- the buffers after a call with this outcome
abbrev pub lent_after : {A : Type 0} → (A → List ℕ) → List ℕ → Outcome A → Lent
lent_after numbers os o = lent o.words o.counters (out_over (numbers o.told) os)

-- `out` has fewer than six numbers: nothing runs
abbrev pub short : List ℕ → Bool
short os = ltb (length os) out_numbers

-- a call whose outcome is fixed
abbrev pub reported : {A : Type 0} → (A → List ℕ) → List ℕ → List ℕ → List ℕ → Outcome A → Lent
reported numbers ws cs os o = cond (short os) (lent ws cs os) (lent_after numbers os o)

-- a change with some outcome of which P holds
pub record ChangeRan (P : Outcome ChangedTold → Type 0) (os : List ℕ) (l : Lent) : Type 0 where
  pub outcome : Outcome ChangedTold
  pub holds : P outcome
  pub same : l ≡ lent_after changed_out os outcome

pub record Reported (P : Outcome ChangedTold → Type 0) (ws cs os : List ℕ) (l : Lent) : Type 0 where
  pub idle : length os < out_numbers → l ≡ lent ws cs os
  pub ran : out_numbers ≤ length os → ChangeRan P os l

-- the three numbers of a waiting count: refusal or 0, the least, the most
abbrev pub rank_numbers : RankTold → List ℕ
rank_numbers (least_most a b) = 0 ∷ a ∷ b ∷ []
rank_numbers (unranked n) = n ∷ 0 ∷ 0 ∷ []

-- the four of a waiting find: refusal or 0, the earliest, 1 where every outcome of the strip and its waiting strip has such a stroke or else 0, the latest or 0
abbrev pub select_numbers : SelectTold → List ℕ
select_numbers (from_to a b) = 0 ∷ a ∷ 1 ∷ b ∷ []
select_numbers (from_on a) = 0 ∷ a ∷ 0 ∷ 0 ∷ []
select_numbers (unselected n) = n ∷ 0 ∷ 0 ∷ 0 ∷ []

-- `out` becomes es: the n numbers of something told of which P holds stand in front
pub record ReadingRan {A : Type 0} (n : ℕ) (numbers : A → List ℕ) (P : A → Type 0) (os es : List ℕ) : Type 0 where
  pub told : A
  pub holds : P told
  pub same : es ≡ numbers_over n (numbers told) os

-- a reading that writes n numbers; with a shorter `out` it does nothing
pub record Written {A : Type 0} (n : ℕ) (numbers : A → List ℕ) (P : A → Type 0) (os es : List ℕ) : Type 0 where
  pub idle : length os < n → es ≡ os
  pub ran : n ≤ length os → ReadingRan n numbers P os es
