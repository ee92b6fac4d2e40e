-- The calls over words and counters: their refusals in order, and their outcomes. Assumes nothing.
use Rattle.std.specs.Prelude.{ℕ, ◌+◌, ◌-◌, Bool, cond, not, ◌&&◌, leb, List, [], ◌∷◌, ◌++◌, length, take, ◌==◌, nat_le, nat_lt, slice_set}
use Rattle.words.specs.declared.handle.Handle.{Handle}
use Rattle.words.specs.Bits.{list_of, same}
use Rattle.words.specs.Strip.{cell, strip_of, rank, total_of, of_value, select}
use Rattle.words.specs.Refusals.{Line, ◌⇒◌, judge, unless, Told, value, refused, found}
use Rattle.words.specs.Handles.{allowed, handle, handle_of, strip_lines}
use Rattle.words.specs.Calls.{value_line, below_line, within_line, span_line, absent_line}
use Rattle.counters.specs.Tree.{blocks_of, counter_count, change_count}
use Rattle.counters.specs.Record.{StripRecord, Fits, built_record}
use Rattle.counters.specs.Promises.{CreatedTold, created, uncreated, ChangedTold, done, Outcome, outcome, stays, Promise, Near, AtMost, PlaceBelow}

-- 1, 2, 3; `words` and `counters` are the numbers of words and counters lent
abbrev pub checks : Handle → ℕ → ℕ → List Line
checks h words counters = strip_lines h words (counters == counter_count (blocks_of h.capacity))

-- the strip that a record holds
abbrev pub held_strip : Handle → List ℕ → List ℕ
held_strip h ws = strip_of ws h.length

-- a change that leaves record r behind, and answers x and y
abbrev pub leaving : StripRecord → ℕ → ℕ → Outcome ChangedTold
leaving r x y = outcome (done r.handle x y) r.words r.counters

-- a change that leaves the record laid afresh from strip s
abbrev pub rebuilt : ℕ → List ℕ → ℕ → ℕ → Outcome ChangedTold
rebuilt c s x y = leaving (built_record c s) x y

-- .. with its total, the ones held, for the first answer and 0 for the second
abbrev pub relaid : ℕ → List ℕ → Outcome ChangedTold
relaid c s = rebuilt c s (total_of s) 0

-- lay(capacity): 1, 2, 3; zeroes words and counters, which is the record laid afresh from the empty strip (AfreshLaws.words_zero, counters_zero), gives its
-- handle, and answers the number of counters
abbrev pub create_outcome : ℕ → List ℕ → List ℕ → Outcome CreatedTold
create_outcome c ws cs =
    unless (judge (checks (handle_of c []) (length ws) (length cs)))
    (λ n. outcome (uncreated n) ws cs)
    (outcome (created (built_record c []).handle (counter_count (blocks_of c))) (built_record c []).words (built_record c []).counters)

-- add(v): 1, 2, 3; 8; 7 full
abbrev pub push_table : Handle → ℕ → ℕ → ℕ → List Line
push_table h words counters v = checks h words counters ++ (value_line v ∷ (leb h.capacity h.length ⇒ 7) ∷ [])

-- it appends v, adds it to the total, and answers the position and the number of counters changed, none for 0
abbrev pub Pushed : Handle → ℕ → List ℕ → List ℕ → Outcome ChangedTold → Type 0
Pushed h v ws cs =
    Promise (Outcome ChangedTold) (judge (push_table h (length ws) (length cs) v)) (stays h ws cs)
    (rebuilt h.capacity (held_strip h ws ++ (v ∷ [])) h.length (cond (v == 1) (change_count (blocks_of h.capacity) h.length) 0))
    (Fits h ws cs)
    (Near h (handle h.capacity (h.length + 1) (h.total + v)) h.length h.length v ws cs)

-- turn(i) but for 9 by the total, and so the paper machine's table: 1, 2, 3; 4 i not below the length
abbrev pub flip_table : Handle → ℕ → ℕ → ℕ → List Line
flip_table h words counters i = checks h words counters ++ (below_line h.length i ∷ [])

-- the new bit at i, the opposite of the old one
abbrev pub turned_bit : Handle → List ℕ → ℕ → ℕ
turned_bit h ws i = 1 - cell (held_strip h ws) i

-- 9 where the move of a bit that becomes b would take the total below 0 or above the length
abbrev pub total_line : Handle → ℕ → Line
total_line h b = cond (b == 1) (nat_le h.length h.total) (h.total == 0) ⇒ 9

-- the call's own table: 1, 2, 3; 4; then 9 by the total, on any record; it never comes on a fitting one (PromiseLaws.total_moves)
abbrev pub move_table : Handle → List ℕ → ℕ → ℕ → List Line
move_table h ws counters i = flip_table h (length ws) counters i ++ (total_line h (turned_bit h ws i) ∷ [])

-- the handle with the total moved by one: up where a bit becomes 1, else down
abbrev pub turned_handle : Handle → ℕ → Handle
turned_handle h b = handle h.capacity h.length (cond (b == 1) (h.total + 1) (h.total - 1))

-- it replaces one bit by its opposite, moves the total, and answers the new bit and the number of counters whose value changed
abbrev pub Flipped : Handle → ℕ → List ℕ → List ℕ → Outcome ChangedTold → Type 0
Flipped h i ws cs =
    Promise (Outcome ChangedTold) (judge (move_table h ws (length cs) i)) (stays h ws cs)
    (rebuilt h.capacity (slice_set (held_strip h ws) i (turned_bit h ws i)) (turned_bit h ws i) (change_count (blocks_of h.capacity) i))
    (Fits h ws cs)
    (Near h (turned_handle h (turned_bit h ws i)) (turned_bit h ws i) i (turned_bit h ws i) ws cs)

-- run(a, b, v): 1, 2, 3; 8; 5 a above b; 4 b above the length
abbrev pub fill_table : Handle → ℕ → ℕ → ℕ → ℕ → ℕ → List Line
fill_table h words counters a b v = checks h words counters ++ (value_line v ∷ span_line a b ∷ within_line h.length b ∷ [])

-- the strip with positions a to b - 1 set to v
unfoldable pub filled : List ℕ → ℕ → ℕ → ℕ → List ℕ
filled s a b v = list_of (λ p. cond (nat_le a p && nat_lt p b) v (cell s p)) (length s)

-- it sets them, zeroes the bits past the length, lays all counters and the total from the words, and answers the ones now held
abbrev pub fill_outcome : Handle → ℕ → ℕ → ℕ → List ℕ → List ℕ → Outcome ChangedTold
fill_outcome h a b v ws cs =
    unless (judge (fill_table h (length ws) (length cs) a b v)) (stays h ws cs)
    (relaid h.capacity (filled (held_strip h ws) a b v))

-- cut(n): 1, 2, 3; 4 n above the length
abbrev pub truncate_table : Handle → ℕ → ℕ → ℕ → List Line
truncate_table h words counters n = checks h words counters ++ (within_line h.length n ∷ [])

-- it keeps the first n, zeroes the bits past them, lays all counters and the total from the words, and answers the ones held
abbrev pub truncate_outcome : Handle → ℕ → List ℕ → List ℕ → Outcome ChangedTold
truncate_outcome h n ws cs =
    unless (judge (truncate_table h (length ws) (length cs) n)) (stays h ws cs)
    (relaid h.capacity (take n (held_strip h ws)))

-- count(v, i): 1, 2, 3; 8; 4 i above the length; then 9
abbrev pub rank_table : Handle → ℕ → ℕ → ℕ → ℕ → List Line
rank_table h words counters v i = checks h words counters ++ (value_line v ∷ within_line h.length i ∷ [])

-- on a record that does not fit: at most i, and so at most the length, or 9
abbrev pub Ranked : Handle → ℕ → ℕ → List ℕ → List ℕ → Told → Type 0
Ranked h v i ws cs =
    Promise Told (judge (rank_table h (length ws) (length cs) v i)) refused (value (rank (held_strip h ws) v i)) (Fits h ws cs) (AtMost 9 i)

-- find(v, k): 1, 2, 3; 8; 6 where k is not below the number of v that length and total give, on any record; on a fitting one that is where there is no such
-- stroke (ReadLaws.select_fits)
abbrev pub select_table : Handle → ℕ → ℕ → ℕ → ℕ → List Line
select_table h words counters v k = checks h words counters ++ (value_line v ∷ absent_line (of_value v h.length h.total) k ∷ [])

-- on a record that does not fit: a position below the length, or 9
abbrev pub Selected : Handle → ℕ → ℕ → List ℕ → List ℕ → Told → Type 0
Selected h v k ws cs =
    Promise Told (judge (select_table h (length ws) (length cs) v k)) refused (found (select (held_strip h ws) v k)) (Fits h ws cs)
    (PlaceBelow 9 h.length)

-- whether a record is the one laid afresh from the strip that it holds; of 64-bit words, exactly where it fits (ReadLaws.fits_fitting, fitting_fits)
unfoldable pub fitting : Handle → List ℕ → List ℕ → Bool
fitting h ws cs =
    same ws (built_record h.capacity (held_strip h ws)).words
    && (same cs (built_record h.capacity (held_strip h ws)).counters && h.total == (built_record h.capacity (held_strip h ws)).handle.total)

-- check: 1, 2, 3; 9 where the record does not fit
abbrev pub verify_table : Handle → List ℕ → List ℕ → List Line
verify_table h ws cs = checks h (length ws) (length cs) ++ ((not (fitting h ws cs) ⇒ 9) ∷ [])

-- it answers the ones
abbrev pub verify_told : Handle → List ℕ → List ℕ → Told
verify_told h ws cs = unless (judge (verify_table h ws cs)) refused (value (total_of (held_strip h ws)))

-- how many counters a capacity needs: 1 capacity not allowed
abbrev pub counters_told : ℕ → Told
counters_told c = unless (judge ((not (allowed c) ⇒ 1) ∷ [])) refused (value (counter_count (blocks_of c)))
