-- Derived, for inner contracts: places by label, what is measured, and the records of rows written one after another. Laws in proofs/ tie them to the
-- merge. Assumes nothing.
use Rattle.std.specs.Prelude.{ℕ, ◌+◌, ◌*◌, ◌/◌, ◌≤◌, ◌≡◌, Bool, cond, List, [], ◌∷◌, ◌++◌, length, get_or, false, eqb, is_some, Option, None, Some}
use Rattle.std.proofs.lemmas.List.Edits.{sets}
use Rattle.image.specs.Kinds.{Kind}
use Rattle.image.specs.Layout.{unit_bytes, head_bytes, most_bytes, most_label, size_of, record_of}
use Rattle.image.specs.Chain.{kind_of, end_at}
use Rattle.image.specs.Rows.{RightAt, Obeys}
use Rattle.image.specs.Shelf.{Labelled, sizes_of}
use Rattle.image.specs.Calls.{record_with}
use Rattle.image.specs.Walk.{found_at}
use Rattle.merging.specs.declared.rows.Placed.{Placed}
use Rattle.merging.specs.Merged.{rows_but}

-- a record that lies inside an image, and whose row is right
pub record RightRecord (s : List ℕ) (a : ℕ) : Type 0 where
  pub room : a + head_bytes ≤ length s
  pub inside : end_at (kind_of s) s a ≤ length s
  pub right : RightAt (kind_of s) s a

-- the byte where each label's record starts; a place for each label, and one for 0
pub record Places (s : List ℕ) (places : List (Option ℕ)) : Type 0 where
  pub long : length places ≡ most_label + 1
  pub each : (label : ℕ) → label ≤ most_label → get_or places label None ≡ found_at (record_with s label)

-- an image that obeys the layout, with its places
abbrev pub IsPlaced : Placed → Type 0
IsPlaced p = Obeys p.image.now × Places p.image.now p.places.now

-- whether a label is marked: it has a place. Without marks none is
abbrev pub marked : Option (List (Option ℕ)) → ℕ → Bool
marked None label = false
marked (Some places) label = is_some (get_or places label None)

-- the rows whose label is not
abbrev pub unmarked : Option (List (Option ℕ)) → List Labelled → List Labelled
unmarked marks rs = rows_but (marked marks) rs

-- so many rows, 64 at most, and the bytes of their records, with a bound
pub record Measured (K : Kind) (rs : List Labelled) (rows bytes : ℕ) : Type 0 where
  pub number : rows ≡ length rs
  pub sizes : bytes ≡ sizes_of K rs
  pub few : rows ≤ most_label
  pub bounded : bytes ≤ most_bytes * most_label

-- the index of the record at byte `at`; zero where the chain ends there
abbrev pub next_to : ℕ → ℕ → ℕ
next_to at end = cond (eqb at end) 0 (at / unit_bytes)

-- the records of rows in order, the first at byte `at`, each where the one before ends, in a chain that ends at byte `end`
unfoldable pub records_to : Kind → ℕ → ℕ → List Labelled → List ℕ
records_to K at end [] = []
records_to K at end (r ∷ rs) =
    record_of K (next_to (at + size_of K (length r.bits)) end) r.label r.bits ++ records_to K (at + size_of K (length r.bits)) end rs

-- t is s with them stored from byte `at` on, and they end at byte r
pub record Copied (K : Kind) (s : List ℕ) (at end : ℕ) (rs : List Labelled) (t : List ℕ) (r : ℕ) : Type 0 where
  pub same : t ≡ sets s at (records_to K at end rs)
  pub ends : r ≡ at + sizes_of K rs
