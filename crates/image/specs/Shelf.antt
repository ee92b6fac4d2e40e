-- Rows written out over a base, in an image of kind K. Assumes nothing.
use Rattle.std.specs.Prelude.{ℕ, ◌+◌, ◌/◌, cond, List, [], ◌∷◌, ◌++◌, length, drop, eqb}
use Rattle.std.proofs.Math.Option.{Option, some, none}
use Rattle.image.specs.Kinds.{Kind}
use Rattle.image.specs.Layout.{unit_bytes, size_of, record_of}
use Rattle.image.specs.Chain.{header_of}

-- a row of the shelf: a label and bits
pub record Labelled : Type 0 where
  pub label : ℕ
  pub bits : List ℕ

-- the units of a row's record
abbrev pub units_of : Kind → Labelled → ℕ
units_of K r = size_of K (length r.bits) / unit_bytes

-- the index u, or zero where no row follows
abbrev pub index_for : ℕ → List Labelled → ℕ
index_for u [] = 0
index_for u (r ∷ rs) = u

-- the records of rows in order, the first at unit u, each where the one before ends
unfoldable pub records_from : Kind → ℕ → List Labelled → List ℕ
records_from K u [] = []
records_from K u (r ∷ rs) = record_of K (index_for (u + units_of K r) rs) r.label r.bits ++ records_from K (u + units_of K r) rs

-- the header, then the records, the first at unit 1
unfoldable pub image_of : Kind → List Labelled → List ℕ
image_of K rs = header_of K (index_for 1 rs) ++ records_from K 1 rs

-- F written out over B: every later byte as in B
abbrev pub written : Kind → List Labelled → List ℕ → List ℕ
written K rs base = image_of K rs ++ drop (length (image_of K rs)) base

-- the sizes of the rows' records, added
unfoldable pub sizes_of : Kind → List Labelled → ℕ
sizes_of K [] = 0
sizes_of K (r ∷ rs) = size_of K (length r.bits) + sizes_of K rs

-- the row of a label
unfoldable pub row_of : ℕ → List Labelled → Option Labelled
row_of label [] = none
row_of label (r ∷ rs) = cond (eqb r.label label) (some r) (row_of label rs)
