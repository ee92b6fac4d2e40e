-- What is told by the calls on an image is small: every value is below 2^32. Assumes nothing.
use mathlib.Core.Path.{◌≡◌, refl}
use mathlib.Core.List.{List, [], ◌∷◌, ◌++◌}
use mathlib.Core.Option.{Option, some, none}
use Prim.Native.Nat.{ℕ, ◌+◌, ◌/◌, ◌%◌, ◌≤◌, ◌<◌}
use native.Mathlib.Omega.{arith}
use lib.ListN.{length, get_or, drop}
use borrow.Author.Tests.{leb-false, ltb-false}
use Rattle.words.specs.declared.handle.Handle.{Handle}
use Rattle.words.specs.Strip.{cell, strip_of}
use Rattle.words.specs.Refusals.{Line, judge, unless, Told, value, refused, Small}
use Rattle.words.specs.Calls.{value_line, below_line, within_line, absent_line}
use Rattle.words.proofs.BoolLaws.{not_not}
use Rattle.words.proofs.BitLaws.{bit_le}
use Rattle.words.proofs.Sums.{get_or_list_of}
use Rattle.words.proofs.CheckLaws.{passes, passed_both}
use Rattle.words.proofs.SmallLaws.{small_unless}
use Rattle.counters.proofs.SmallLaws.{small_promise, small_at_most, small_below}
use Rattle.image.specs.Bytes.{bit_from}
use Rattle.image.specs.Kinds.{kind1}
use Rattle.image.specs.Layout.{unit_bytes, most_row, bits_start, size_of}
use Rattle.image.specs.Chain.{header_of, kind_of, label_at, chain_of, chain_end}
use Rattle.image.specs.Rows.{row_bits}
use Rattle.image.specs.Calls.{records_of, ImageOutcome, image_outcome, clear_table, clear_outcome, freeze_table, frozen, freeze_outcome, inspect_table, inspect_told, open_table, row_part, row_length, row_get_told, RowRanked, RowSelected, record_size_told, row_length_told, row_label_told}
use Rattle.image.proofs.ChainLaws.{chain_facts, chain_few, some_in, opened}
use Rattle.image.proofs.FreezeLaws.{freezing}
use Rattle.image.proofs.QueryLaws.{label_table, label_passed}

-- ---- the calls that write
-- refused by a table, or small where it passes
small_outcome : (v : Option ℕ) (s : List ℕ) (o : ImageOutcome) → (v ≡ none → Small o.told)
    → Small (unless v (λ n. image_outcome (refused n) s) o).told
small_outcome none s o h = h refl
small_outcome (some n) s o h = tt

-- clear
pub small_clear : (s : List ℕ) → Small (clear_outcome s).told
small_clear s =
    small_outcome (judge (clear_table (length s))) s (image_outcome (value unit_bytes) (header_of kind1 0 ++ drop unit_bytes s)) (λ e. omega arith)

-- freeze: the record's unit is inside the image
pub small_freeze : (h : Handle) (ws s : List ℕ) (label : ℕ) → Small (freeze_outcome h ws s label).told
small_freeze h ws s label =
    small_outcome (judge (freeze_table h (length ws) s label)) s
    (image_outcome (value (chain_end (kind_of s) s (records_of s) / unit_bytes)) (frozen s label (strip_of ws h.length))) (λ e.
    let f = (freezing h (length ws) s label e).facts in
    omega (arith, f.ended.inside, f.header.most))

-- inspect: the number of rows
pub small_inspect : (s : List ℕ) → Small (inspect_told s)
small_inspect s =
    small_unless (judge (inspect_table s)) (value (length (records_of s))) (λ e.
    omega (arith, chain_few s (records_of s) (some_in (chain_of s) (not_not _ (passes (inspect_table s) e).0))))

-- ---- a row by its label
-- a row that is opened is short
row_short : (s : List ℕ) (label : ℕ) → judge (open_table s label) ≡ none → row_length s label ≤ most_row
row_short s label e = (opened s label e).placed.facts.short

-- look
pub small_row_get : (s : List ℕ) (label i : ℕ) → Small (row_get_told s label i)
small_row_get s label i =
    let n : ℕ = row_length s label in
    let part : List ℕ = row_part s label in
    let ls : List Line = below_line n i ∷ [] in
    small_unless (judge (open_table s label ++ ls)) (value (cell (row_bits (kind_of s) part n) i)) (λ e.
    let l : i < n = leb-false _ _ (passes ls (passed_both (open_table s label) ls e).1).0 in
    omega (arith, get_or_list_of (bit_from part (bits_start (kind_of s) n)) n i l, bit_le (get_or part (bits_start (kind_of s) n + i / 8) 0) (i % 8)))

-- count
pub small_row_ranked : (s : List ℕ) (label v i : ℕ) (o : Told) → RowRanked s label v i o → Small o
small_row_ranked s label v i o p =
    let ls : List Line = value_line v ∷ within_line (row_length s label) i ∷ [] in
    small_promise (judge (open_table s label ++ ls)) o p (λ e.
    let b = passed_both (open_table s label) ls e in
    let l : i ≤ row_length s label = ltb-false _ _ (passes ls b.1).1.0 in
    small_at_most 15 i o (omega (arith, l, row_short s label b.0)))

-- find
pub small_row_selected : (s : List ℕ) (label v k : ℕ) (o : Told) → RowSelected s label v k o → Small o
small_row_selected s label v k o p =
    let ls : List Line = value_line v ∷ absent_line (row_length s label) k ∷ [] in
    small_promise (judge (open_table s label ++ ls)) o p (λ e.
    small_below 15 (row_length s label) o (omega (arith, row_short s label (passed_both (open_table s label) ls e).0)))

-- ---- sizes, lengths and labels
-- the bytes of a record
pub small_record_size : (n : ℕ) → Small (record_size_told n)
small_record_size n =
    small_unless (judge (within_line most_row n ∷ [])) (value (size_of kind1 n)) (λ e.
    let l : n ≤ most_row = ltb-false _ _ (passes (within_line most_row n ∷ []) e).0 in
    omega arith)

-- the length of a row
pub small_row_length : (s : List ℕ) (label : ℕ) → Small (row_length_told s label)
small_row_length s label = small_unless (judge (open_table s label)) (value (row_length s label)) (λ e. omega (arith, row_short s label e))

-- the label of the k-th row
pub small_row_label : (s : List ℕ) (k : ℕ) → Small (row_label_told s k)
small_row_label s k =
    small_unless (judge (label_table s k)) (value (label_at s (get_or (records_of s) k 0))) (λ e.
    let w = label_passed s k e in
    omega (arith, ((chain_facts s (records_of s) w.0).each k w.1).facts.high))
