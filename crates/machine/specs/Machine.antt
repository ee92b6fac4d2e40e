-- The paper machine: its state in two halves, the calls that it is fed, and what each does. Of the unit's it has the lengths of the lent buffers, and once the
-- image's bytes. Assumes nothing.
use Rattle.std.specs.Prelude.{ℕ, ◌+◌, ◌-◌, ◌/◌, Bool, true, cond, List, [], ◌∷◌, ◌++◌, length, set, take, eqb}
use Rattle.std.proofs.Math.Option.{Option, some, none}
use Rattle.words.specs.Strip as strip
use Rattle.words.specs.Refusals.{Line, judge, unless, Told, value, refused, found}
use Rattle.words.specs.Handles.{handle_of, untaken, strip_lines}
use Rattle.words.specs.Calls.{value_line, below_line, within_line, absent_line, below_table, value_table}
use Rattle.words.specs.declared.handle.Handle.{Handle}
use Rattle.counters.specs.Tree.{blocks_of, counter_count, change_count}
use Rattle.counters.specs.Calls.{checks, push_table, flip_table, fill_table, filled, truncate_table, rank_table, select_table}
use Rattle.image.specs.Kinds.{Kind, clear_kind}
use Rattle.image.specs.Layout.{unit_bytes, size_of}
use Rattle.image.specs.Chain.{good_size}
use Rattle.image.specs.Shelf.{Labelled, written, sizes_of, row_of}
use Rattle.image.specs.Calls.{is_some, clear_table, place_lines, inspect_lines, row_lines}

-- the half of its state that the strip calls read and change
pub record StripState : Type 0 where
  -- capacity C
  pub capacity : ℕ
  -- strip S, a list of bits
  pub strip : List ℕ
  -- the lengths of the lent words and counters
  pub words : ℕ
  pub counters : ℕ

-- the half that the image's calls read and change
pub record ShelfState : Type 0 where
  -- shelf F, a list of (label, bits)
  pub rows : List Labelled
  -- base B, the bytes under the shelf
  pub base : List ℕ
  -- the length of the lent image (Z)
  pub bytes : ℕ

-- its state
pub record State : Type 0 where
  pub strip : StripState
  pub shelf : ShelfState

abbrev pub state : StripState → ShelfState → State
state a b = record { strip = a; shelf = b }

-- the listed calls with their arguments except handle and buffers: those on the strip
pub data StripCall : Type 0 where
  -- lay(capacity)
  create : ℕ → StripCall
  -- add(v)
  push : ℕ → StripCall
  -- turn(i)
  flip : ℕ → StripCall
  -- run(a, b, v)
  fill : ℕ → ℕ → ℕ → StripCall
  -- cut(n)
  truncate : ℕ → StripCall
  -- look(i)
  get : ℕ → StripCall
  -- count(v, i)
  rank : ℕ → ℕ → StripCall
  -- find(v, k)
  select : ℕ → ℕ → StripCall
  -- next(v, i)
  successor : ℕ → ℕ → StripCall
  -- prior(v, i)
  predecessor : ℕ → ℕ → StripCall
  -- check
  verify : StripCall

-- those on the image
pub data ShelfCall : Type 0 where
  -- clear
  clear : ShelfCall
  -- freeze(label)
  freeze : ℕ → ShelfCall
  -- inspect
  inspect : ShelfCall
  -- row count(label, v, i)
  row_rank : ℕ → ℕ → ℕ → ShelfCall
  -- row find(label, v, k)
  row_select : ℕ → ℕ → ℕ → ShelfCall
  -- row look(label, i)
  row_get : ℕ → ℕ → ShelfCall

pub data Call : Type 0 where
  on_strip : StripCall → Call
  on_shelf : ShelfCall → Call

-- what a call does: what it leaves of what it works on, and the number of its refusal or 0, with the values that it answers, 0 where there is none
pub record Step (A : Type 0) : Type 0 where
  pub next : A
  pub refusal : ℕ
  pub first : ℕ
  pub second : ℕ

abbrev pub accepted : {A : Type 0} → A → ℕ → ℕ → Step A
accepted a x y = record { next = a; refusal = 0; first = x; second = y }

-- a refused call changes nothing
abbrev pub refuses : {A : Type 0} → A → ℕ → Step A
refuses a n = record { next = a; refusal = n; first = 0; second = 0 }

-- a step by what it tells
abbrev pub tells : {A : Type 0} → A → Told → Step A
tells a (value x) = accepted a x 0
tells a (refused n) = refuses a n

-- refusals in order; where none applies, what is done
abbrev pub judged : {A : Type 0} → A → List Line → Step A → Step A
judged a table done = unless (judge table) (refuses a) done

-- the step with f applied to what it leaves
abbrev pub through : {A B : Type 0} → (A → B) → Step A → Step B
through f m = record { next = f m.next; refusal = m.refusal; first = m.first; second = m.second }

-- The strip.

-- the handle with C, the length of S and its ones, for the tables of the strip calls
abbrev pub handle_in : StripState → Handle
handle_in a = handle_of a.capacity a.strip

-- another strip
abbrev pub with_strip : StripState → List ℕ → StripState
with_strip a t = record { capacity = a.capacity; strip = t; words = a.words; counters = a.counters }

-- another capacity and an empty strip
abbrev pub emptied : StripState → ℕ → StripState
emptied a c = record { capacity = c; strip = []; words = a.words; counters = a.counters }

-- the number of counters that a stroke's change changes, added over levels 1 to h
abbrev pub changes : StripState → ℕ → ℕ
changes a p = change_count (blocks_of a.capacity) p

-- turn replaces one bit by its opposite
abbrev pub flipped : List ℕ → ℕ → List ℕ
flipped t i = set t i (1 - strip.cell t i)

-- each call on the strip: its refusals in order, and what it does and answers
abbrev pub strip_move : StripState → StripCall → Step StripState
-- lay empties S and sets C
strip_move a (create c) = judged a (checks (handle_of c []) a.words a.counters) (accepted (emptied a c) (counter_count (blocks_of c)) 0)
-- add appends v
strip_move a (push v) =
    judged a (push_table (handle_in a) a.words a.counters v)
    (accepted (with_strip a (a.strip ++ (v ∷ []))) (length a.strip) (cond (eqb v 1) (changes a (length a.strip)) 0))
-- turn replaces one bit by its opposite
strip_move a (flip i) =
    judged a (flip_table (handle_in a) a.words a.counters i)
    (accepted (with_strip a (flipped a.strip i)) (1 - strip.cell a.strip i) (changes a i))
-- run sets positions p to q - 1 to v
strip_move a (fill p q v) =
    judged a (fill_table (handle_in a) a.words a.counters p q v)
    (accepted (with_strip a (filled a.strip p q v)) (strip.total_of (filled a.strip p q v)) 0)
-- cut keeps the first n
strip_move a (truncate n) =
    judged a (truncate_table (handle_in a) a.words a.counters n)
    (accepted (with_strip a (take n a.strip)) (strip.total_of (take n a.strip)) 0)
-- the other calls on the strip change nothing
strip_move a (get i) = judged a (below_table (handle_in a) a.words untaken i) (accepted a (strip.cell a.strip i) 0)
strip_move a (rank v i) = judged a (rank_table (handle_in a) a.words a.counters v i) (accepted a (strip.rank a.strip v i) 0)
strip_move a (select v k) = judged a (select_table (handle_in a) a.words a.counters v k) (tells a (found (strip.select a.strip v k)))
strip_move a (successor v i) = judged a (value_table (handle_in a) a.words untaken v i) (tells a (found (strip.successor a.strip v i)))
strip_move a (predecessor v i) = judged a (value_table (handle_in a) a.words untaken v i) (tells a (found (strip.predecessor a.strip v i)))
strip_move a verify = judged a (checks (handle_in a) a.words a.counters) (accepted a (strip.total_of a.strip) 0)

-- The shelf.

-- whether a label has a row in F, and the bits of that row
abbrev pub known : ShelfState → ℕ → Bool
known b label = is_some (row_of label b.rows)

abbrev pub bits_in : Option Labelled → List ℕ
bits_in none = []
bits_in (some r) = r.bits

abbrev pub row : ShelfState → ℕ → List ℕ
row b label = bits_in (row_of label b.rows)

-- whether the chain is sound: where the image has 16 to 2^32 bytes, as it has after an accepted clear, F written out is (ShelfStepLaws.chain_is)
abbrev pub sound : ShelfState → Bool
sound b = good_size b.bytes

-- the kind of the image, that which clear gives it
abbrev pub shelf_kind : Kind
shelf_kind = clear_kind

-- where the next record would start: after 16 bytes and the record sizes of F
abbrev pub shelf_end : ShelfState → ℕ
shelf_end b = unit_bytes + sizes_of shelf_kind b.rows

-- a row reading by its label: 10; 11; 14; then the lines that its row is judged by
abbrev pub row_table : ShelfState → ℕ → List Line → List Line
row_table b label lines = row_lines (sound b) label (known b label) ++ lines

-- another shelf over another base
abbrev pub with_rows : ShelfState → List Labelled → List ℕ → ShelfState
with_rows b rows base = record { rows = rows; base = base; bytes = b.bytes }

-- each call on the image; freeze reads the strip half
abbrev pub shelf_move : StripState → ShelfState → ShelfCall → Step ShelfState
-- clear replaces B by F written out over B, then empties F
shelf_move a b clear = judged b (clear_table b.bytes) (accepted (with_rows b [] (written shelf_kind b.rows b.base)) unit_bytes 0)
-- freeze appends (label, S) to F
shelf_move a b (freeze label) =
    judged b
    (strip_lines (handle_in a) a.words untaken
    ++ place_lines (sound b) label (known b label) b.bytes (shelf_end b + size_of shelf_kind (length a.strip)))
    (accepted (with_rows b (b.rows ++ (record { label = label; bits = a.strip } ∷ [])) b.base) (shelf_end b / unit_bytes) 0)
-- the other calls on the image change nothing; every row of F is right
shelf_move a b inspect = judged b (inspect_lines (sound b) true) (accepted b (length b.rows) 0)
shelf_move a b (row_rank label v i) =
    judged b (row_table b label (value_line v ∷ within_line (length (row b label)) i ∷ [])) (accepted b (strip.rank (row b label) v i) 0)
shelf_move a b (row_select label v k) =
    judged b (row_table b label (value_line v ∷ absent_line (length (row b label)) k ∷ [])) (tells b (found (strip.select (row b label) v k)))
shelf_move a b (row_get label i) =
    judged b (row_table b label (below_line (length (row b label)) i ∷ [])) (accepted b (strip.cell (row b label) i) 0)

-- The whole machine.

-- one call: a call on the strip leaves the shelf, a call on the image leaves the strip
abbrev pub move : State → Call → Step State
move s (on_strip k) = through (λ a. state a s.shelf) (strip_move s.strip k)
move s (on_shelf k) = through (λ b. state s.strip b) (shelf_move s.strip s.shelf k)

-- the state after a list of calls
abbrev pub run : State → List Call → State
run s [] = s
run s (k ∷ ks) = run (move s k).next ks

-- a call's answer: the number of its refusal or 0, and two values
abbrev pub answers : {A : Type 0} → Step A → List ℕ
answers m = m.refusal ∷ m.first ∷ m.second ∷ []

-- answers and refusals, in order
abbrev pub outputs : State → List Call → List ℕ
outputs s [] = []
outputs s (k ∷ ks) = answers (move s k) ++ outputs (move s k).next ks

-- after the opening lay and clear C is that lay's capacity, S and F are empty and B is the bytes lent
abbrev pub opened : ℕ → ℕ → ℕ → List ℕ → State
opened c words counters base =
    state (record { capacity = c; strip = []; words = words; counters = counters }) (record { rows = []; base = base; bytes = length base })

-- the refusals of the opening lay and clear, in either order: those of the first, then those of the second
abbrev pub opening_table : ℕ → Bool → ℕ → ℕ → ℕ → List Line
opening_table c clear_first words counters bytes =
    cond clear_first (clear_table bytes ++ checks (handle_of c []) words counters) (checks (handle_of c []) words counters ++ clear_table bytes)
