-- The forms of a promise: what a call gives with the lent buffers, and the promise of a call with a free part. Assumes nothing.
use Rattle.std.specs.Prelude.{◌≡◌, ℕ, ◌<◌, ◌≤◌, false, List, length, ◌≢◌, slice_index, Result, Ok, Err}
use Rattle.std.proofs.Math.Option.{Option, some, none}
use Rattle.words.specs.Bits.{bit_at}
use Rattle.words.specs.Refusals.{number_of, Told, value, refused}
use Rattle.words.specs.declared.handle.Handle.{Handle}
use Rattle.words.specs.declared.refusal.Refusal.{Refusal}
use Rattle.counters.specs.declared.answer.Laid.{Laid}
use Rattle.counters.specs.declared.answer.Change.{Change}
use Rattle.counters.specs.Tree.{blocks_of, nodes, height, index_of, counts}

-- what lay tells: the handle and the number of counters, or the number of a refusal
pub data CreatedTold : Type 0 where
  created : Handle → ℕ → CreatedTold
  uncreated : ℕ → CreatedTold

abbrev pub created_of : Result Laid Refusal → CreatedTold
created_of (Ok l) = created l.handle l.counters
created_of (Err r) = uncreated (number_of r)

-- what a change tells: the handle to go on with and what the call answers, or the handle that it got and the number of a refusal
pub data ChangedTold : Type 0 where
  done : Handle → ℕ → ℕ → ChangedTold
  kept : Handle → ℕ → ChangedTold

-- by the handle that the call got
abbrev pub changed_of : Handle → Result Change Refusal → ChangedTold
changed_of h (Ok c) = done c.handle c.first c.second
changed_of h (Err r) = kept h (number_of r)

-- with the words and counters as the call leaves them
pub record Outcome (A : Type 0) : Type 0 where
  pub told : A
  pub words : List ℕ
  pub counters : List ℕ

abbrev pub outcome : {A : Type 0} → A → List ℕ → List ℕ → Outcome A
outcome a ws cs = record { told = a; words = ws; counters = cs }

-- a refusal changes no word and no counter, and gives back the handle that it got
abbrev pub stays : Handle → List ℕ → List ℕ → ℕ → Outcome ChangedTold
stays h ws cs n = outcome (kept h n) ws cs

-- The promise of a call of which a part is free on a record that does not fit: the refusals of its table exactly; on a fitting record the whole
-- outcome; on any record that the table passes, what holds of it.
pub record Promise (A : Type 0) (table : Option ℕ) (refuse : ℕ → A) (late : A) (Fit : Type 0) (Loose : A → Type 0) (o : A) : Type 0 where
  pub early : (n : ℕ) → table ≡ some n → o ≡ refuse n
  pub exact : table ≡ none → Fit → o ≡ late
  pub loose : table ≡ none → Loose o

-- words in which position p alone may have changed, to b
pub record BitPut (p b : ℕ) (ws vs : List ℕ) : Type 0 where
  pub long : length vs ≡ length ws
  pub here : bit_at vs p ≡ b
  pub there : (q : ℕ) → (q ≢ p) → bit_at vs q ≡ bit_at ws q

-- counters of which those alone that count stroke p may have changed
pub record PathMoved (n p : ℕ) (cs ds : List ℕ) : Type 0 where
  pub long : length ds ≡ length cs
  pub off : (t j i : ℕ) → 1 ≤ t → t ≤ height n → j < nodes n t → i < 72 → counts t j i p ≡ false
      → slice_index ds (index_of n t j i) ≡ slice_index cs (index_of n t j i)

-- add and turn on any record, of stroke p, whose bit becomes b, with the handle g and the answer x: 9 and nothing changed, or no bit but the
-- stroke's and no counter off the path; the number is at most 45
pub data Near (h g : Handle) (x p b : ℕ) (ws cs : List ℕ) : Outcome ChangedTold → Type 0 where
  unfit : Near h g x p b ws cs (stays h ws cs 9)
  near : (number : ℕ) (vs ds : List ℕ) → number ≤ 45 → BitPut p b ws vs → PathMoved (blocks_of h.capacity) p cs ds
      → Near h g x p b ws cs (outcome (done g x number) vs ds)

-- a count on any record or row: at most n, or the refusal that it is wrong
pub data AtMost (wrong n : ℕ) : Told → Type 0 where
  is : (x : ℕ) → x ≤ n → AtMost wrong n (value x)
  unfit : AtMost wrong n (refused wrong)

-- a find on any record, of a stroke that is there by length and total: a position below n, or the refusal that it is wrong
pub data PlaceBelow (wrong n : ℕ) : Told → Type 0 where
  is : (x : ℕ) → x < n → PlaceBelow wrong n (value x)
  unfit : PlaceBelow wrong n (refused wrong)

-- a find on any row: a position below n, or 6, or the refusal that it is wrong
pub data Below (wrong n : ℕ) : Told → Type 0 where
  is : (x : ℕ) → x < n → Below wrong n (value x)
  absent : Below wrong n (refused 6)
  unfit : Below wrong n (refused wrong)
