-- A row of an image by its label: the part that its record takes, and a reading of it as a reading of that part. Assumes nothing.
use mathlib.Core.Path.{◌≡◌, refl, sym, ap, subst, ◌∙◌}
use mathlib.Core.Bool.{true}
use mathlib.Core.List.{List, [], ◌∷◌, ◌++◌}
use mathlib.Core.Option.{Option, some, none}
use Prim.Native.Nat.{ℕ, ◌+◌, ◌≤◌}
use native.Mathlib.Omega.{arith}
use lib.ListN.{length, drop, length-drop}
use lib.Seq.{length-take-le}
use borrow.Author.Tests.{le-leb, eq-eqb}
use Rattle.words.specs.Strip.{cell, rank, select, or_else}
use Rattle.words.specs.declared.refusal.Refusal.{Refusal}
use Rattle.std.specs.Prelude.{Result, Err}
use Rattle.words.specs.Refusals.{number_of, Line, judge, unless, Told, value, refused, found, told_of}
use Rattle.words.specs.Calls.{value_line, below_line, within_line, absent_line}
use Rattle.words.proofs.CheckLaws.{judge_append}
use Rattle.counters.specs.Promises.{Promise, AtMost, Below}
use Rattle.counters.proofs.PromiseLaws.{promise_refused}
use Rattle.image.specs.Kinds.{Kind}
use Rattle.image.specs.Layout.{head_bytes, size_of}
use Rattle.image.specs.Chain.{kind_of, label_at, length_at, end_at}
use Rattle.image.specs.Rows.{part_at, row_bits, Right}
use Rattle.image.specs.Calls.{open_table, open_told, good_part, part_line, part_get_told, PartRanked, PartSelected, row_place, row_part, row_length, row_get_told, RowRanked, RowSelected}
use Rattle.image.proofs.NumberLaws.{num_taken}
use Rattle.image.proofs.ChainLaws.{RecordFacts, fields_good, opened, value_told, opened_refused}

-- ---- the part that a record takes
-- its size
pub part_size : (K : Kind) (s : List ℕ) (at : ℕ) → end_at K s at ≤ length s → length (part_at K s at) ≡ size_of K (length_at s at)
part_size K s at h = length-take-le (size_of K (length_at s at)) (drop at s) (omega (arith, length-drop at s))

-- its length is the record's
pub part_holds : (K : Kind) (s : List ℕ) (at : ℕ) → length_at (part_at K s at) 0 ≡ length_at s at
part_holds K s at = num_taken s at (size_of K (length_at s at)) 8 4 (omega arith)

-- that of a sound record
module _ (K : Kind) (s : List ℕ) (at : ℕ) (f : RecordFacts K s at) where
  pub part_long : length (part_at K s at) ≡ size_of K (length_at s at)
  part_long = part_size K s at f.inside

  -- its label is the record's
  part_label : label_at (part_at K s at) 0 ≡ label_at s at
  part_label = num_taken s at (size_of K (length_at s at)) 4 4 (omega arith)

  -- it has room for a record's numbers
  pub part_room : (part : List ℕ) → part ≡ part_at K s at → head_bytes ≤ length part
  part_room part p = omega (arith, ap length p, part_long)

  -- the length that is read from it is the record's too
  pub part_held : (part : List ℕ) (n : ℕ) → part ≡ part_at K s at → n ≡ length_at part 0 → n ≡ length_at s at
  part_held part n p l = l ∙ ap (λ (q : List ℕ). length_at q 0) p ∙ part_holds K s at

  -- it is exactly one record with label and length in range
  pub part_good : good_part K (part_at K s at) (length_at s at) ≡ true
  unfolding good_part
  part_good =
      simp (
        le-leb head_bytes (length (part_at K s at)) (omega (arith, part_long)),
        fields_good (part_at K s at) 0 (omega (arith, part_label, f.low)) (omega (arith, part_label, f.high)) (omega (arith, part_holds K s at, f.short)),
        eq-eqb (length (part_at K s at)) (size_of K (length_at (part_at K s at) 0)) (part_long ∙ ap (size_of K) (sym (part_holds K s at))),
        eq-eqb (length_at s at) (length_at (part_at K s at) 0) (sym (part_holds K s at)),
      )

-- ---- the table of a row's reading
-- the lines after those of a table that passes
pub after_lines : (table rest : List Line) → judge table ≡ none → judge (table ++ rest) ≡ judge rest
after_lines table rest e = judge_append table rest ∙ ap (λ (v : Option ℕ). or_else v (judge rest)) e

-- what the opening refuses is refused
pub table_refused : (s : List ℕ) (label n : ℕ) (rest : List Line) → judge (open_table s label) ≡ some n → judge (open_table s label ++ rest) ≡ some n
table_refused s label n rest e = judge_append (open_table s label) rest ∙ ap (λ (v : Option ℕ). or_else v (judge rest)) e

-- an opened row's table is that of its part
pub table_opened : (K : Kind) (s : List ℕ) (label : ℕ) (part : List ℕ) (n : ℕ) (rest : List Line) → judge (open_table s label) ≡ none → good_part K part n ≡ true
    → judge (open_table s label ++ rest) ≡ judge (part_line K part n ∷ rest)
table_opened K s label part n rest e g =
    after_lines (open_table s label) rest e ∙ simp g

-- ---- a reading by label
-- a refused opening's answer is the reading's
module _ (s : List ℕ) (label : ℕ) (o : Result ℕ Refusal) (r : Refusal) (rest : List Line) (told : told_of o ≡ open_told s label) (refusal : o ≡ Err r) where
  -- the table refuses with its number
  row_table_lem : judge (open_table s label ++ rest) ≡ some (number_of r)
  row_table_lem = table_refused s label (number_of r) rest (opened_refused s label o r told refusal)

  -- of a reading whose answer is fixed
  pub row_refused : (late : Told) → told_of o ≡ unless (judge (open_table s label ++ rest)) refused late
  row_refused late = ap told_of refusal ∙ ap (λ (v : Option ℕ). unless v refused late) (sym row_table_lem)

  -- of a reading that leaves a result free
  pub row_refused_promise : (late : Told) (Fit : Type 0) (Loose : Told → Type 0)
      → Promise Told (judge (open_table s label ++ rest)) refused late Fit Loose (told_of o)
  row_refused_promise late Fit Loose =
      subst (Promise Told (judge (open_table s label ++ rest)) refused late Fit Loose) (sym (ap told_of refusal))
      (promise_refused (open_table s label ++ rest) refused late Fit Loose (Err r) r (sym row_table_lem) refl)

-- what is known of the kind, the part and the length of a row that was opened
pub record RowHeld (K : Kind) (s : List ℕ) (label : ℕ) (part : List ℕ) (n : ℕ) : Type 0 where
  pub kind : kind_of s ≡ K
  pub passed : judge (open_table s label) ≡ none
  pub its : part ≡ row_part s label
  pub long : n ≡ row_length s label
  pub good : good_part (kind_of s) (row_part s label) (row_length s label) ≡ true

-- the place that an opening gave
module _ (s : List ℕ) (label : ℕ) (at : ℕ) (told : value at ≡ open_told s label) where
  -- the table passes, and it is the row's
  its_place : (judge (open_table s label) ≡ none) × (at ≡ row_place s label)
  its_place = value_told (judge (open_table s label)) at (row_place s label) told

  -- its record
  its_record : RecordFacts (kind_of s) s at
  its_record = subst (RecordFacts (kind_of s) s) (sym its_place.1) (opened s label its_place.0).placed.facts

  -- lies inside the image
  pub row_inside : (at + head_bytes ≤ length s) × (end_at (kind_of s) s at ≤ length s)
  row_inside = (its_record.room, its_record.inside)

  -- the part that is taken there has room for a record's numbers
  pub row_room : (part : List ℕ) → part ≡ part_at (kind_of s) s at → head_bytes ≤ length part
  row_room = part_room (kind_of s) s at its_record

  -- that part and the length that it holds are the row's, and it is of the image's kind
  pub row_held : (K : Kind) (part : List ℕ) (n : ℕ) → kind_of s ≡ K → part ≡ part_at (kind_of s) s at → n ≡ length_at part 0 → RowHeld K s label part n
  row_held K part n kind p l =
      let f = (opened s label its_place.0).placed.facts in
      let its : part ≡ row_part s label = p ∙ ap (part_at (kind_of s) s) its_place.1 in
      record { kind = kind; passed = its_place.0; its = its; long = part_held (kind_of s) s _ f part n its l; good = part_good (kind_of s) s _ f }

-- what a call tells of that kind, part and length, it tells of the row
row_told : {K : Kind} {s : List ℕ} {label : ℕ} {part : List ℕ} {n : ℕ} → RowHeld K s label part n → (T : Kind → List ℕ → ℕ → Option ℕ → Type 0) (rest : ℕ
    → List Line)
    → T K part n (judge (part_line K part n ∷ rest n))
    → T (kind_of s) (row_part s label) (row_length s label) (judge (open_table s label ++ rest (row_length s label)))
row_told {K} {s} {label} {part} {n} h T rest t =
    let p : List ℕ = row_part s label in
    let m : ℕ = row_length s label in
    subst (T (kind_of s) p m) (sym (table_opened (kind_of s) s label p m (rest m) h.passed h.good))
    (subst (λ (j : ℕ). T (kind_of s) p j (judge (part_line (kind_of s) p j ∷ rest j))) h.long
    (subst (λ (q : List ℕ). T (kind_of s) q n (judge (part_line (kind_of s) q n ∷ rest n))) h.its
    (subst (λ (k : Kind). T k part n (judge (part_line k part n ∷ rest n))) (sym h.kind) t)))

module _ {K : Kind} {s : List ℕ} {label : ℕ} {part : List ℕ} {n : ℕ} (h : RowHeld K s label part n) where
  -- look
  pub row_look : (i : ℕ) → part_get_told K part n i ≡ row_get_told s label i
  row_look i =
      row_told h (λ k p m o. part_get_told K part n i ≡ unless o refused (value (cell (row_bits k p m) i))) (λ m. below_line m i ∷ []) refl

  -- count
  pub row_count : (v i : ℕ) (t : Told) → PartRanked K part n v i t → RowRanked s label v i t
  row_count v i t =
      row_told h (λ k p m o. Promise Told o refused (value (rank (row_bits k p m) v i)) (Right k p m) (AtMost 15 i) t) (λ m. value_line v ∷ within_line m i ∷ [])

  -- find
  pub row_find : (v k : ℕ) (t : Told) → PartSelected K part n v k t → RowSelected s label v k t
  row_find v k t =
      row_told h (λ j p m o. Promise Told o refused (found (select (row_bits j p m) v k)) (Right j p m) (Below 15 m) t) (λ m. value_line v ∷ absent_line m k ∷ [])
