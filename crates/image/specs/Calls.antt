-- The calls on an image: their refusals in order, and their outcomes. Assumes nothing.
use Rattle.std.specs.Prelude.{ℕ, ◌+◌, ◌/◌, Bool, true, false, cond, not, ◌&&◌, List, [], ◌∷◌, ◌++◌, length, get_or, drop, leb, ltb, eqb}
use Rattle.std.proofs.Math.Option.{Option, some, none}
use Rattle.std.proofs.lemmas.List.Edits.{sets}
use Rattle.words.specs.declared.handle.Handle.{Handle}
use Rattle.words.specs.Strip.{cell, strip_of, rank, select}
use Rattle.words.specs.Words.{place_in}
use Rattle.words.specs.Refusals.{Line, ◌⇒◌, judge, unless, Told, value, refused, found}
use Rattle.words.specs.Handles.{untaken, strip_lines}
use Rattle.words.specs.Calls.{value_line, below_line, within_line, absent_line}
use Rattle.counters.specs.Promises.{Promise, AtMost, Below}
use Rattle.image.specs.Bytes.{le}
use Rattle.image.specs.Kinds.{Kind, clear_kind}
use Rattle.image.specs.Layout.{unit_bytes, head_bytes, most_row, size_of, record_of}
use Rattle.image.specs.Chain.{header_of, kind_of, label_at, length_at, good_label, good_fields, good_size, chain_of, place_of, chain_end, link_of}
use Rattle.image.specs.Rows.{part_at, row_bits, right_part, Right}

-- whether there is something
abbrev pub is_some : {A : Type 0} → Option A → Bool
is_some none = false
is_some (some a) = true

-- the records of a sound chain; no record where it is not sound
abbrev pub records_in : Option (List ℕ) → List ℕ
records_in none = []
records_in (some rs) = rs

abbrev pub records_of : List ℕ → List ℕ
records_of s = records_in (chain_of s)

-- the answer, and the image as the call leaves it
pub record ImageOutcome : Type 0 where
  pub told : Told
  pub image : List ℕ

abbrev pub image_outcome : Told → List ℕ → ImageOutcome
image_outcome t s = record { told = t; image = s }

-- clear: 13 image under 16 or over 2^32 bytes
abbrev pub clear_table : ℕ → List Line
clear_table bytes = (not (good_size bytes) ⇒ 13) ∷ []

-- it writes the header of an empty chain and no other byte, and answers 16
abbrev pub clear_outcome : List ℕ → ImageOutcome
clear_outcome s =
    unless (judge (clear_table (length s))) (λ n. image_outcome (refused n) s)
    (image_outcome (value unit_bytes) (header_of clear_kind 0 ++ drop unit_bytes s))

-- 10 chain not sound
abbrev pub sound_line : Bool → Line
sound_line sound = not sound ⇒ 10

-- 11 label not 1 to 64
abbrev pub label_line : ℕ → Line
label_line label = not (good_label label) ⇒ 11

-- the record of a label, if there is one
abbrev pub record_with : List ℕ → ℕ → Option ℕ
record_with s label = place_of s label (records_of s)

-- a new record that ends at byte `end` of an image of `bytes` bytes: 10 chain not sound; 11; 12 label present; 13 the record does not end inside the image
abbrev pub place_lines : Bool → ℕ → Bool → ℕ → ℕ → List Line
place_lines sound label present bytes end = sound_line sound ∷ label_line label ∷ (present ⇒ 12) ∷ (ltb bytes end ⇒ 13) ∷ []

-- a new record of `size` bytes, at the end of an image's chain
abbrev pub record_lines : List ℕ → ℕ → ℕ → List Line
record_lines s label size =
    place_lines (is_some (chain_of s)) label (is_some (record_with s label)) (length s) (chain_end (kind_of s) s (records_of s) + size)

-- freeze(label): words only; 1, 2; 10; 11; 12; 13
abbrev pub freeze_table : Handle → ℕ → List ℕ → ℕ → List Line
freeze_table h words s label = strip_lines h words untaken ++ record_lines s label (size_of (kind_of s) h.length)

-- the image with the record of strip t: it starts at the last record's end, or unit 1; its unit index replaces the zero that ended the chain
abbrev pub frozen : List ℕ → ℕ → List ℕ → List ℕ
frozen s label t =
    sets (sets s (link_of (records_of s)) (le 4 (chain_end (kind_of s) s (records_of s) / unit_bytes))) (chain_end (kind_of s) s (records_of s))
    (record_of (kind_of s) 0 label t)

-- it answers its unit index
abbrev pub freeze_outcome : Handle → List ℕ → List ℕ → ℕ → ImageOutcome
freeze_outcome h ws s label =
    unless (judge (freeze_table h (length ws) s label)) (λ n. image_outcome (refused n) s)
    (image_outcome (value (chain_end (kind_of s) s (records_of s) / unit_bytes)) (frozen s label (strip_of ws h.length)))

-- a row by its label: 10; 11; 14 label absent
abbrev pub row_lines : Bool → ℕ → Bool → List Line
row_lines sound label present = sound_line sound ∷ label_line label ∷ (not present ⇒ 14) ∷ []

-- inspect: 10; 15 some row's ones, entries or padding wrong
abbrev pub inspect_lines : Bool → Bool → List Line
inspect_lines sound right = sound_line sound ∷ (not right ⇒ 15) ∷ []

-- whether every row of some records is right
unfoldable pub all_right : List ℕ → List ℕ → Bool
all_right s [] = true
all_right s (a ∷ rs) = right_part (kind_of s) (part_at (kind_of s) s a) (length_at s a) && all_right s rs

-- inspect's lines, of an image
abbrev pub inspect_table : List ℕ → List Line
inspect_table s = inspect_lines (is_some (chain_of s)) (all_right s (records_of s))

-- it answers the number of rows
abbrev pub inspect_told : List ℕ → Told
inspect_told s = unless (judge (inspect_table s)) refused (value (length (records_of s)))

-- opening a row
abbrev pub open_table : List ℕ → ℕ → List Line
open_table s label = row_lines (is_some (chain_of s)) label (is_some (record_with s label))

-- the place of a label's record, the row's own part of the image, and its length
abbrev pub row_place : List ℕ → ℕ → ℕ
row_place s label = place_in 0 (record_with s label)

abbrev pub row_part : List ℕ → ℕ → List ℕ
row_part s label = part_at (kind_of s) s (row_place s label)

abbrev pub row_length : List ℕ → ℕ → ℕ
row_length s label = length_at s (row_place s label)

-- opening answers the byte where the record starts
abbrev pub open_told : List ℕ → ℕ → Told
open_told s label = unless (judge (open_table s label)) refused (value (row_place s label))

-- and gives that row's own part of the image; a refused opening's part is empty
abbrev pub open_part : List ℕ → ℕ → List ℕ
open_part s label = unless (judge (open_table s label)) (λ n. []) (row_part s label)

-- the length that is held with a part: that of its record; 0 for a part too short for one
unfoldable pub held_length : List ℕ → ℕ
held_length part = cond (leb head_bytes (length part)) (length_at part 0) 0

-- A row's part, of kind K, and a held length n.

-- the part is exactly one record with label and length in range, and n is its length
unfoldable pub good_part : Kind → List ℕ → ℕ → Bool
good_part K part n =
    leb head_bytes (length part) && (good_fields part 0 && (eqb (length part) (size_of K (length_at part 0)) && eqb n (length_at part 0)))

-- 10 before all else
abbrev pub part_line : Kind → List ℕ → ℕ → Line
part_line K part n = not (good_part K part n) ⇒ 10

-- look(i) on a part: 10; 4; the bit
abbrev pub part_get_told : Kind → List ℕ → ℕ → ℕ → Told
part_get_told K part n i = unless (judge (part_line K part n ∷ below_line n i ∷ [])) refused (value (cell (row_bits K part n) i))

-- count(v, i) on a part: 10; 8; 4; then 15; on a wrong row at most i, and so at most the length, or 15
abbrev pub PartRanked : Kind → List ℕ → ℕ → ℕ → ℕ → Told → Type 0
PartRanked K part n v i =
    Promise Told (judge (part_line K part n ∷ value_line v ∷ within_line n i ∷ [])) refused (value (rank (row_bits K part n) v i)) (Right K part n) (AtMost 15 i)

-- find(v, k) on a part: 10; 8; 6 where k is not below the length, on any row. Below the length: on a right row 6 exactly where k is not below the number of
-- v; on any other a position, 6 or 15
abbrev pub PartSelected : Kind → List ℕ → ℕ → ℕ → ℕ → Told → Type 0
PartSelected K part n v k =
    Promise Told (judge (part_line K part n ∷ value_line v ∷ absent_line n k ∷ [])) refused (found (select (row_bits K part n) v k)) (Right K part n) (Below 15 n)

-- A row of an image, by its label: 10; 11; 14; then as on its part.

-- row look: then 4; the bit
abbrev pub row_get_told : List ℕ → ℕ → ℕ → Told
row_get_told s label i =
    unless (judge (open_table s label ++ (below_line (row_length s label) i ∷ []))) refused
    (value (cell (row_bits (kind_of s) (row_part s label) (row_length s label)) i))

-- row count: then 8; 4; 15 last; on a wrong row at most i, and so at most the length, or 15
abbrev pub RowRanked : List ℕ → ℕ → ℕ → ℕ → Told → Type 0
RowRanked s label v i =
    Promise Told (judge (open_table s label ++ (value_line v ∷ within_line (row_length s label) i ∷ []))) refused
    (value (rank (row_bits (kind_of s) (row_part s label) (row_length s label)) v i)) (Right (kind_of s) (row_part s label) (row_length s label)) (AtMost 15 i)

-- row find: then 8; 6; 15 last
abbrev pub RowSelected : List ℕ → ℕ → ℕ → ℕ → Told → Type 0
RowSelected s label v k =
    Promise Told (judge (open_table s label ++ (value_line v ∷ absent_line (row_length s label) k ∷ []))) refused
    (found (select (row_bits (kind_of s) (row_part s label) (row_length s label)) v k)) (Right (kind_of s) (row_part s label) (row_length s label))
    (Below 15 (row_length s label))

-- Queries about sizes, lengths and labels.

-- the bytes of the record of n bits, in an image that clear made: 4 n above the longest row
abbrev pub record_size_told : ℕ → Told
record_size_told n = unless (judge (within_line most_row n ∷ [])) refused (value (size_of clear_kind n))

-- the length of a row, by its label: 10; 11; 14
abbrev pub row_length_told : List ℕ → ℕ → Told
row_length_told s label = unless (judge (open_table s label)) refused (value (row_length s label))

-- the label of the k-th row in the chain's order, from 0 on: 10; 14 k not below the number of rows
abbrev pub row_label_told : List ℕ → ℕ → Told
row_label_told s k =
    unless (judge (sound_line (is_some (chain_of s)) ∷ (leb (length (records_of s)) k ⇒ 14) ∷ [])) refused (value (label_at s (get_or (records_of s) k 0)))
