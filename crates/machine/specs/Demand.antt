-- Demand 3: lists of the unit's calls, what holds of each accepted turn in one, and the statement over every list. Assumes nothing.
use Rattle.std.specs.Prelude.{ℕ, ◌+◌, ◌≤◌, ◌<◌, ◌≡◌, cond, List, [], ◌∷◌, ◌++◌, length, get_or}
use Rattle.std.proofs.Math.Option.{none}
use Rattle.words.specs.Refusals.{judge}
use Rattle.words.specs.Handles.{handle_of}
use Rattle.counters.specs.Calls.{checks}
use Rattle.image.specs.Calls.{clear_table}
use Rattle.counters.specs.Tree.{blocks_of, nodes, height, counter_count, index_of, counts, differ}
use Rattle.machine.specs.Machine.{State, create, flip, clear, Call, on_strip, on_shelf, Step, run, answers, outputs, opened}
use Rattle.machine.specs.Unit.{UnitState, afresh, Acted}

-- a list of calls of the unit, from x to z: each call gets what the one before left, its own promise holds, and these are the answers and refusals, in order
pub data Trace : UnitState → List Call → List ℕ → UnitState → Type 0 where
  stop : {x : UnitState} → Trace x [] [] x
  more : {x z : UnitState} {ks : List Call} {out : List ℕ} (k : Call) (y : Step UnitState) → Acted k x y → Trace y.next ks out z
      → Trace x (k ∷ ks) (answers y ++ out) z

-- counter i of node j of level t, over n blocks; every counter is one of these (counters TreeLaws.index_cover)
abbrev pub counter_at : ℕ → List ℕ → ℕ → ℕ → ℕ → ℕ
counter_at n cs t j i = get_or cs (index_of n t j i) 0

-- an accepted turn of stroke p to bit b, over n blocks, with the number reported, from the counters cs to ds: exactly the counters that count the stroke
-- changed, each by one, up where b is 1 and down where it is 0; the number reported is that of the counters changed, at most 45
pub record Turned (n p b number : ℕ) (cs ds : List ℕ) : Type 0 where
  pub bit : b ≤ 1
  pub size : length cs ≡ counter_count n
  pub long : length ds ≡ length cs
  pub up : b ≡ 1 → (t j i : ℕ) → 1 ≤ t → t ≤ height n → j < nodes n t → i < 72
      → counter_at n ds t j i ≡ counter_at n cs t j i + cond (counts t j i p) 1 0
  pub down : b ≡ 0 → (t j i : ℕ) → 1 ≤ t → t ≤ height n → j < nodes n t → i < 72
      → counter_at n cs t j i ≡ counter_at n ds t j i + cond (counts t j i p) 1 0
  pub reported : number ≡ differ cs ds (length cs)
  pub most : number ≤ 45

-- of a call k from x: if it is a turn, and accepted, it changed exactly its counters
abbrev pub TurnHolds : Call → UnitState → Step UnitState → Type 0
TurnHolds k x y =
    (i : ℕ) → k ≡ on_strip (flip i) → y.refusal ≡ 0
    → Turned (blocks_of x.strip.handle.capacity) i y.first y.second x.strip.counters y.next.strip.counters

-- so of every call of a list
abbrev pub Turns : {x z : UnitState} {ks : List Call} {out : List ℕ} → Trace x ks out z → Type 0
Turns stop = Unit {0}
Turns (more {x} k y a t) = TurnHolds k x y × Turns t

-- an accepted lay of capacity c and an accepted clear, in either order with nothing between, from x to y
pub data Opens (c : ℕ) (x : UnitState) : UnitState → Type 0 where
  create_first : (y z : Step UnitState) → Acted (on_strip (create c)) x y → y.refusal ≡ 0 → Acted (on_shelf clear) y.next z → z.refusal ≡ 0
      → Opens c x z.next
  clear_first : (y z : Step UnitState) → Acted (on_shelf clear) x y → y.refusal ≡ 0 → Acted (on_strip (create c)) y.next z → z.refusal ≡ 0
      → Opens c x z.next

-- the machine as it is opened with lent buffers
abbrev pub start : ℕ → List ℕ → List ℕ → List ℕ → State
start c ws cs im = opened c (length ws) (length cs) im

abbrev pub start_of : ℕ → UnitState → State
start_of c x = start c x.strip.words x.strip.counters x.image

-- what is compared after a list of calls that gave the answers `out` and ended in z: all answers and refusals, in order; then the handle last given back,
-- words and counters, and every byte of the image
pub record Same (s : State) (ks : List Call) (out : List ℕ) (z : UnitState) : Type 0 where
  pub answers : out ≡ outputs s ks
  pub end : z ≡ afresh (run s ks)

-- the statement over every list of calls, of any length: after an accepted lay and clear, the calls' own promises give the machine's answers and end, and
-- every accepted turn changed exactly its counters
abbrev pub EveryList : Type 0
EveryList =
    (c : ℕ) (x y z : UnitState) (ks : List Call) (out : List ℕ) → Opens c x y → (t : Trace y ks out z) → Same (start_of c x) ks out z × Turns t

-- It is not empty. For every list of calls after an accepted lay and clear there is a trace:
pub record SomeTrace (x : UnitState) (ks : List Call) : Type 0 where
  pub out : List ℕ
  pub last : UnitState
  pub trace : Trace x ks out last

abbrev pub EveryListRuns : Type 0
EveryListRuns = (c : ℕ) (x y : UnitState) (ks : List Call) → Opens c x y → SomeTrace y ks

-- and the premise is had: where lay's table and clear's pass, from any handle and buffers, the two lead to the opened machine's state laid afresh
abbrev pub EveryOpening : Type 0
EveryOpening =
    (c : ℕ) (x : UnitState) → judge (checks (handle_of c []) (length x.strip.words) (length x.strip.counters)) ≡ none
    → judge (clear_table (length x.image)) ≡ none → Opens c x (afresh (start_of c x))
