-- An opened row: its part is exactly one record of the length held, so that look, count and find on it are those of the row; a refused opening's part is
-- empty, so that every call on it gets 10. Assumes nothing.
use mathlib.Core.Path.{◌≡◌, refl, ap, ap₂, subst, ◌∙◌}
use mathlib.Core.Bool.{true, false}
use mathlib.Core.List.{List, [], ◌∷◌}
use mathlib.Core.Option.{Option, some, none}
use Prim.Native.Nat.{ℕ, ◌≤◌}
use borrow.Author.Tests.{le-leb}
use lib.ListN.{length}
use Rattle.words.specs.Strip.{cell}
use Rattle.words.specs.Refusals.{Line, judge, unless, Told, value, refused}
use Rattle.words.specs.Calls.{value_line, below_line, within_line, absent_line}
use Rattle.image.specs.Kinds.{Kind}
use Rattle.image.specs.Layout.{head_bytes}
use Rattle.image.specs.Chain.{kind_of, length_at}
use Rattle.image.specs.Rows.{row_bits}
use Rattle.image.specs.Calls.{open_table, open_part, held_length, good_part, part_line, part_get_told, PartRanked, PartSelected, row_place, row_part, row_length, row_get_told, RowRanked, RowSelected}
use Rattle.image.proofs.ChainLaws.{RecordFacts, opened}
use Rattle.image.proofs.RowLaws.{part_room, part_holds, part_good, RowHeld, row_look, row_count, row_find}

-- the length held with a part that has room for a record's numbers is the one among them
held_length_lem : (part : List ℕ) → head_bytes ≤ length part → held_length part ≡ length_at part 0
unfolding held_length
held_length_lem part room = simp (le-leb head_bytes (length part) room)

-- ---- a row whose opening no line refuses, in an image of kind K
module _ (K : Kind) (s : List ℕ) (label : ℕ) (kind : kind_of s ≡ K) (e : judge (open_table s label) ≡ none) where
  -- its record
  facts : RecordFacts (kind_of s) s (row_place s label)
  facts = (opened s label e).placed.facts

  -- its part is that of its record
  pub opened_part : open_part s label ≡ row_part s label
  opened_part = ap (λ (v : Option ℕ). unless v (λ n. []) (row_part s label)) e

  -- the length held is the row's
  pub opened_held : held_length (open_part s label) ≡ row_length s label
  opened_held =
      ap held_length opened_part
      ∙ held_length_lem (row_part s label) (part_room (kind_of s) s (row_place s label) facts (row_part s label) refl)
      ∙ part_holds (kind_of s) s (row_place s label)

  -- its part passes the check
  pub opened_good : good_part K (open_part s label) (held_length (open_part s label)) ≡ true
  opened_good =
      subst (λ (k : Kind). good_part k (open_part s label) (held_length (open_part s label)) ≡ true) kind
      (ap₂ (good_part (kind_of s)) opened_part opened_held ∙ part_good (kind_of s) s (row_place s label) facts)

  -- its part and the length held are the row's
  opened_row : RowHeld K s label (open_part s label) (held_length (open_part s label))
  opened_row = record { kind = kind; passed = e; its = opened_part; long = opened_held; good = part_good (kind_of s) s (row_place s label) facts }

  -- look on it is row look
  pub opened_look : (i : ℕ) → part_get_told K (open_part s label) (held_length (open_part s label)) i ≡ row_get_told s label i
  opened_look = row_look opened_row

  -- and so are count and find
  pub opened_count : (v i : ℕ) (t : Told) → PartRanked K (open_part s label) (held_length (open_part s label)) v i t → RowRanked s label v i t
  opened_count = row_count opened_row

  pub opened_find : (v k : ℕ) (t : Told) → PartSelected K (open_part s label) (held_length (open_part s label)) v k t → RowSelected s label v k t
  opened_find = row_find opened_row

-- ---- a refused opening

-- its part is empty
pub refused_part : (s : List ℕ) (label n : ℕ) → judge (open_table s label) ≡ some n → open_part s label ≡ []
refused_part s label n e = ap (λ (v : Option ℕ). unless v (λ n. []) (row_part s label)) e

-- whatever kind and length are held with it, the empty part fails the check
pub empty_bad : (K : Kind) (n : ℕ) → good_part K [] n ≡ false
unfolding good_part
empty_bad K n = refl

-- so a call on it gets 10 before all else
empty_refused : (K : Kind) (n : ℕ) (ls : List Line) → judge (part_line K [] n ∷ ls) ≡ some 10
empty_refused K n ls = simp (empty_bad K n)

-- look
pub empty_get : (K : Kind) (n i : ℕ) → part_get_told K [] n i ≡ refused 10
empty_get K n i = ap (λ (v : Option ℕ). unless v refused (value (cell (row_bits K [] n) i))) (empty_refused K n (below_line n i ∷ []))

-- count
pub empty_rank : (K : Kind) (n v i : ℕ) (t : Told) → PartRanked K [] n v i t → t ≡ refused 10
empty_rank K n v i t p = p.early 10 (empty_refused K n (value_line v ∷ within_line n i ∷ []))

-- find
pub empty_select : (K : Kind) (n v k : ℕ) (t : Told) → PartSelected K [] n v k t → t ≡ refused 10
empty_select K n v k t p = p.early 10 (empty_refused K n (value_line v ∷ absent_line n k ∷ []))
