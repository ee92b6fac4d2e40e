-- The unit: what is held between calls, a machine's state as it is held there, and what each call's own promise says of it. Assumes nothing.
use Rattle.std.specs.Prelude.{ℕ, ◌≡◌, List, Result}
use Rattle.words.specs.Refusals.{Told}
use Rattle.words.specs.Calls.{get_told, successor_told, predecessor_told}
use Rattle.words.specs.declared.handle.Handle.{Handle}
use Rattle.words.specs.declared.refusal.Refusal.{Refusal}
use Rattle.counters.specs.Record.{StripRecord, built_record}
use Rattle.counters.specs.declared.answer.Change.{Change}
use Rattle.counters.specs.Promises.{CreatedTold, created, uncreated, ChangedTold, done, kept, changed_of, Outcome}
use Rattle.counters.specs.Calls.{create_outcome, Pushed, Flipped, fill_outcome, truncate_outcome, Ranked, Selected, verify_told}
use Rattle.image.specs.Shelf.{written}
use Rattle.image.specs.Calls.{ImageOutcome, clear_outcome, freeze_outcome, inspect_told, row_get_told, RowRanked, RowSelected}
use Rattle.machine.specs.Machine.{StripState, ShelfState, State, shelf_kind, StripCall, create, push, flip, fill, truncate, get, rank, select, successor, predecessor, verify, ShelfCall, clear, freeze, inspect, row_rank, row_select, row_get, Call, on_strip, on_shelf, Step, accepted, refuses, tells, through}

-- the handle in use with the lent words and counters, and the lent image
pub record UnitState : Type 0 where
  pub strip : StripRecord
  pub image : List ℕ

abbrev pub strip_record : Handle → List ℕ → List ℕ → StripRecord
strip_record h ws cs = record { handle = h; words = ws; counters = cs }

abbrev pub unit_state : StripRecord → List ℕ → UnitState
unit_state r im = record { strip = r; image = im }

-- A machine's state as the unit has it.

-- the handle with C, the length of S and its ones, words and counters laid afresh from S
abbrev pub afresh_strip : StripState → StripRecord
afresh_strip a = built_record a.capacity a.strip

-- F written out over B
abbrev pub afresh_image : ShelfState → List ℕ
afresh_image b = written shelf_kind b.rows b.base

abbrev pub afresh : State → UnitState
afresh s = unit_state (afresh_strip s.strip) (afresh_image s.shelf)

-- What a call gives, as a step.

-- lay, from handle h: after a refused one the handle last given back stays in use
abbrev pub created_step : Handle → CreatedTold → Step Handle
created_step h (created g x) = accepted g x 0
created_step h (uncreated n) = refuses h n

-- a change, which gives a handle back in both cases
abbrev pub changed_step : ChangedTold → Step Handle
changed_step (done g x y) = accepted g x y
changed_step (kept g n) = refuses g n

-- with the words and counters as the call leaves them
abbrev pub by_created : Handle → Outcome CreatedTold → Step StripRecord
by_created h o = through (λ g. strip_record g o.words o.counters) (created_step h o.told)

abbrev pub by_changed : Outcome ChangedTold → Step StripRecord
by_changed o = through (λ g. strip_record g o.words o.counters) (changed_step o.told)

-- a call that may change the image, with the image as it leaves it
abbrev pub by_image : ImageOutcome → Step (List ℕ)
by_image o = tells o.image o.told

-- some outcome of which P holds
pub record BySome (A : Type 0) (P : A → Type 0) {B : Type 0} (by : A → Step B) (y : Step B) : Type 0 where
  pub outcome : A
  pub holds : P outcome
  pub same : y ≡ by outcome

-- one call on the strip, from any handle, words and counters r, by the call's own promise
abbrev pub StripActed : StripCall → StripRecord → Step StripRecord → Type 0
StripActed (create c) r y = y ≡ by_created r.handle (create_outcome c r.words r.counters)
StripActed (push v) r y = BySome (Outcome ChangedTold) (Pushed r.handle v r.words r.counters) by_changed y
StripActed (flip i) r y = BySome (Outcome ChangedTold) (Flipped r.handle i r.words r.counters) by_changed y
StripActed (fill p q v) r y = y ≡ by_changed (fill_outcome r.handle p q v r.words r.counters)
StripActed (truncate n) r y = y ≡ by_changed (truncate_outcome r.handle n r.words r.counters)
StripActed (get i) r y = y ≡ tells r (get_told r.handle r.words i)
StripActed (rank v i) r y = BySome Told (Ranked r.handle v i r.words r.counters) (tells r) y
StripActed (select v k) r y = BySome Told (Selected r.handle v k r.words r.counters) (tells r) y
StripActed (successor v i) r y = y ≡ tells r (successor_told r.handle r.words v i)
StripActed (predecessor v i) r y = y ≡ tells r (predecessor_told r.handle r.words v i)
StripActed verify r y = y ≡ tells r (verify_told r.handle r.words r.counters)

-- one call on the image im, with the handle and words of r in use
abbrev pub ShelfActed : ShelfCall → StripRecord → List ℕ → Step (List ℕ) → Type 0
ShelfActed clear r im y = y ≡ by_image (clear_outcome im)
ShelfActed (freeze label) r im y = y ≡ by_image (freeze_outcome r.handle r.words im label)
ShelfActed inspect r im y = y ≡ tells im (inspect_told im)
ShelfActed (row_rank label v i) r im y = BySome Told (RowRanked im label v i) (tells im) y
ShelfActed (row_select label v k) r im y = BySome Told (RowSelected im label v k) (tells im) y
ShelfActed (row_get label i) r im y = y ≡ tells im (row_get_told im label i)

-- one call of the unit: a call on the strip leaves the image, a call on the image leaves handle, words and counters
abbrev pub Acted : Call → UnitState → Step UnitState → Type 0
Acted (on_strip k) x y = StripActed k x.strip (through (λ u. u.strip) y) × (y.next.image ≡ x.image)
Acted (on_shelf k) x y = ShelfActed k x.strip x.image (through (λ u. u.image) y) × (y.next.strip ≡ x.strip)

-- the answer of a call of a script, from handle h
abbrev pub reply_step : Handle → Result Change Refusal → Step Handle
reply_step h r = changed_step (changed_of h r)

-- with the buffers as it leaves them
abbrev pub unit_step : Handle → Result Change Refusal → List ℕ → List ℕ → List ℕ → Step UnitState
unit_step h r ws cs im = through (λ g. unit_state (strip_record g ws cs) im) (reply_step h r)
