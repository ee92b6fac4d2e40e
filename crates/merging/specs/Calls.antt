-- The merge of two images: its refusals in order, its outcome, and what holds of its result. Assumes nothing.
use Rattle.std.specs.Prelude.{ℕ, ◌+◌, ◌≡◌, Bool, true, not, cond, ◌&&◌, ◌||◌, List, [], ◌∷◌, ◌++◌, length, leb}
use Rattle.words.specs.Refusals.{Line, ◌⇒◌, judge, unless, Told, value, refused}
use Rattle.image.specs.Kinds.{Kind}
use Rattle.image.specs.Layout.{unit_bytes}
use Rattle.image.specs.Chain.{kind_of, good_size}
use Rattle.image.specs.Shelf.{Labelled, written, sizes_of}
use Rattle.image.specs.Calls.{is_some, record_with, inspect_table, inspect_told, ImageOutcome, image_outcome, open_table, row_length_told, row_get_told, RowRanked, RowSelected}
use Rattle.merging.specs.Merged.{rows_of, merged, conflict}

-- the rows of the result
abbrev pub merged_rows : List ℕ → List ℕ → List Labelled
merged_rows first second = merged (rows_of first) (rows_of second)

-- room for rows of kind K in a buffer: it has 16 to 2^32 bytes, and they end inside it
abbrev pub room_for : Kind → List Labelled → ℕ → Bool
room_for K rs bytes = good_size bytes && leb (unit_bytes + sizes_of K rs) bytes

-- two images that pass inspection: 18 a label in both with unequal rows; 13 no room for the result in the third buffer
abbrev pub merge_lines : List ℕ → List ℕ → ℕ → List Line
merge_lines first second bytes =
    (conflict (rows_of first) (rows_of second) ⇒ 18) ∷ (not (room_for (kind_of first) (merged_rows first second) bytes) ⇒ 13) ∷ []

-- merge: the first image's 10, 15; the second's; 18; 13
abbrev pub merge_table : List ℕ → List ℕ → ℕ → List Line
merge_table first second bytes = inspect_table first ++ (inspect_table second ++ merge_lines first second bytes)

-- it answers the number of rows, and leaves in the third buffer the merged rows written out over what it held, in an image of the first one's kind
abbrev pub merge_outcome : List ℕ → List ℕ → List ℕ → ImageOutcome
merge_outcome first second third =
    unless (judge (merge_table first second (length third))) (λ n. image_outcome (refused n) third)
    (image_outcome (value (length (merged_rows first second))) (written (kind_of first) (merged_rows first second) third))

-- the image that gave the row of a label: the first where it has one, else the second
abbrev pub giver : List ℕ → List ℕ → ℕ → List ℕ
giver first second label = cond (is_some (record_with first label)) first second

-- the same row is read by a label in both images: the opening's refusals, the length, and every look, count and find
pub record ReadAlike (s t : List ℕ) (label : ℕ) : Type 0 where
  pub opening : judge (open_table s label) ≡ judge (open_table t label)
  pub size : row_length_told s label ≡ row_length_told t label
  pub look : (i : ℕ) → row_get_told s label i ≡ row_get_told t label i
  pub count : (v i : ℕ) (o p : Told) → RowRanked s label v i o → RowRanked t label v i p → o ≡ p
  pub find : (v k : ℕ) (o p : Told) → RowSelected s label v k o → RowSelected t label v k p → o ≡ p

-- what an accepted merge leaves: it passes inspection with that number of rows, and each is read as in the image that gave it, one in both as in either
pub record MergedImage (first second third : List ℕ) : Type 0 where
  pub inspected : inspect_told third ≡ value (length (merged_rows first second))
  pub rows : rows_of third ≡ merged_rows first second
  pub labels : (label : ℕ) → is_some (record_with third label) ≡ (is_some (record_with first label) || is_some (record_with second label))
  pub reading : (label : ℕ) → ReadAlike third (giver first second label) label
  pub both : (label : ℕ) → is_some (record_with second label) ≡ true → ReadAlike third second label
