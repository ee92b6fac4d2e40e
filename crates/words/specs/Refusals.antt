-- The refusals, their numbers, ordered tables of them, and what a call tells that changes no strip. Assumes nothing.
use Rattle.std.specs.Prelude.{◌≡◌, ℕ, ◌+◌, ◌^◌, ◌<◌, Bool, cond, List, [], ◌∷◌, Result, Ok, Err}
use Rattle.std.proofs.Math.Option.{Option, some, none}
use Rattle.words.specs.declared.refusal.Refusal.{Refusal}
use Rattle.words.specs.declared.refusal.Refusal.TheVariants as refusal

-- the number of a refusal
abbrev pub number_of : Refusal → ℕ
number_of refusal.BadHandle = 1
number_of refusal.WordCount = 2
number_of refusal.CounterCount = 3
number_of refusal.Position = 4
number_of refusal.Span = 5
number_of refusal.NotFound = 6
number_of refusal.Full = 7
number_of refusal.BadValue = 8
number_of refusal.Unfit = 9
number_of refusal.Unsound = 10
number_of refusal.BadLabel = 11
number_of refusal.LabelPresent = 12
number_of refusal.NoRoom = 13
number_of refusal.LabelAbsent = 14
number_of refusal.WrongRow = 15
number_of refusal.Unequal = 16
number_of refusal.BadWindow = 17
number_of refusal.Conflict = 18

-- a line of a table: the number of the refusal that is given where the condition holds
pub record Line : Type 0 where
  pub applies : Bool
  pub number : ℕ

infix 70 ◌⇒◌
abbrev pub ◌⇒◌ : Bool → ℕ → Line
b ⇒ n = record { applies = b; number = n }

-- refusals in order: the number of the first line that applies, if any
abbrev pub judge : List Line → Option ℕ
judge [] = none
judge (l ∷ ls) = cond l.applies (some l.number) (judge ls)

-- what the checks of a call say, by its number
abbrev pub verdict_of : Result Unit Refusal → Option ℕ
verdict_of (Ok x) = none
verdict_of (Err r) = some (number_of r)

-- `late`, or what a refusal of that number gives
abbrev pub unless : {A : Type 0} → Option ℕ → (ℕ → A) → A → A
unless none refuse late = late
unless (some n) refuse late = refuse n

-- x is the refusal that a table gives or, where it gives none, an answer that is right
pub record Judged {A : Type 0} (table : List Line) (refuse : ℕ → A) (Right : A → Type 0) (x : A) : Type 0 where
  pub early : (n : ℕ) → judge table ≡ some n → x ≡ refuse n
  pub late : judge table ≡ none → Right x

-- what a call tells that changes no strip: a value, or the number of a refusal
pub data Told : Type 0 where
  value : ℕ → Told
  refused : ℕ → Told

-- an answer by its value or number
abbrev pub told_of : Result ℕ Refusal → Told
told_of (Ok x) = value x
told_of (Err r) = refused (number_of r)

-- a position; 6 where there is none
abbrev pub found : Option ℕ → Told
found (some p) = value p
found none = refused 6

-- as one number: the value, or 2^32 plus the refusal's number
abbrev pub coded : Told → ℕ
coded (value x) = x
coded (refused n) = 2 ^ 32 + n

-- a value below 2^32, or a refusal: its code says which (SmallLaws.coded_value, coded_refused)
abbrev pub Small : Told → Type 0
Small (value x) = x < 2 ^ 32
Small (refused n) = Unit {0}

-- r is the code of something told of which P holds
pub record CodedAs (P : Told → Type 0) (r : ℕ) : Type 0 where
  pub told : Told
  pub holds : P told
  pub code : r ≡ coded told
