-- The rows of an image, and the merge of two lists of rows. Assumes nothing.
use Rattle.std.specs.Prelude.{ℕ, Bool, false, cond, not, ◌||◌, List, [], ◌∷◌, ◌++◌}
use Rattle.std.proofs.Math.Option.{Option, some, none}
use Rattle.words.specs.Bits.{same}
use Rattle.image.specs.Chain.{kind_of, label_at, length_at}
use Rattle.image.specs.Rows.{part_at, row_bits}
use Rattle.image.specs.Shelf.{Labelled, row_of}
use Rattle.image.specs.Calls.{is_some, records_of}

-- the row of the record at byte a: its label and its bits
abbrev pub row_at : List ℕ → ℕ → Labelled
row_at s a = record { label = label_at s a; bits = row_bits (kind_of s) (part_at (kind_of s) s a) (length_at s a) }

-- the rows of some records
unfoldable pub rows_from : List ℕ → List ℕ → List Labelled
rows_from s [] = []
rows_from s (a ∷ bs) = row_at s a ∷ rows_from s bs

-- the rows of an image, in chain order
abbrev pub rows_of : List ℕ → List Labelled
rows_of s = rows_from s (records_of s)

-- whether some row has the label
abbrev pub has_row : List Labelled → ℕ → Bool
has_row rs label = is_some (row_of label rs)

-- the rows whose label is not one of those that are left out, in their order
unfoldable pub rows_but : (ℕ → Bool) → List Labelled → List Labelled
rows_but out [] = []
rows_but out (r ∷ rs) = cond (out r.label) (rows_but out rs) (r ∷ rows_but out rs)

-- the merge of two lists of rows: the first's in their order, then those of the second whose label the first lacks, in theirs
abbrev pub merged : List Labelled → List Labelled → List Labelled
merged first second = first ++ rows_but (has_row first) second

-- the first list's row, if there is one, and a row of the second are unequal in length or bits
abbrev pub unequal : Option Labelled → Labelled → Bool
unequal none r = false
unequal (some q) r = not (same q.bits r.bits)

-- a label stands in both lists with unequal rows
unfoldable pub conflict : List Labelled → List Labelled → Bool
conflict first [] = false
conflict first (r ∷ rs) = unequal (row_of r.label first) r || conflict first rs
