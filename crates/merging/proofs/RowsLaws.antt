-- The rows of an image: by their records, by label, and one after another as a walk meets them. Assumes nothing.
use mathlib.Core.Path.{◌≡◌, refl, sym, ap, ap₂, ◌∙◌, subst}
use mathlib.Core.Bool.{Bool, true, false, cond, not, ◌||◌}
use mathlib.Core.List.{List, [], ◌∷◌, ◌++◌, append-nil}
use mathlib.Core.Option.{Option, some, none}
use Prim.Native.Nat.{ℕ, zero, suc, ◌*◌, ◌≤◌, ◌<◌}
use native.Mathlib.Omega.{arith}
use lib.ListN.{length, get_or, length-append, get_or-append}
use lib.Seq.{get_or-append_seam}
use lib.Dec.{eqb}
use borrow.Author.Tests.{eqb-true}
use Rattle.words.specs.Bits.{same}
use Rattle.words.specs.Strip.{or_else}
use Rattle.words.proofs.BoolLaws.{true_false, not_not, or_none}
use Rattle.words.proofs.SameLaws.{same_eq}
use Rattle.image.specs.Bytes.{num}
use Rattle.image.specs.Layout.{unit_bytes}
use Rattle.image.specs.Chain.{kind_of, label_at, length_at, next_at, place_of}
use Rattle.image.specs.Rows.{part_at, RightAt, Obeys}
use Rattle.image.specs.Shelf.{Labelled, row_of}
use Rattle.image.specs.Calls.{is_some, records_of, record_with}
use Rattle.image.proofs.ChainLaws.{no_confusion, RecordFacts, chain_facts, place_found, found_placed}
use Rattle.image.proofs.InspectLaws.{obeys_chain, obeys_right}
use Rattle.image.proofs.PartLaws.{row_length_lem}
use Rattle.image.proofs.WalkLaws.{SoundWalk, Turn, walk_none, walk_turn, walk_done}
use Rattle.merging.specs.Merged.{row_at, rows_from, rows_of, has_row, rows_but, merged, unequal, conflict}
use Rattle.merging.specs.Working.{RightRecord}

-- ---- rows by their records
-- some records, then others
from_append : (s xs ys : List ℕ) → rows_from s (xs ++ ys) ≡ rows_from s xs ++ rows_from s ys
unfolding rows_from
from_append s [] ys = refl
from_append s (a ∷ xs) ys = ap (λ (l : List Labelled). row_at s a ∷ l) (from_append s xs ys)

-- one record more
pub from_more : (s xs : List ℕ) (a : ℕ) → rows_from s (xs ++ (a ∷ [])) ≡ rows_from s xs ++ (row_at s a ∷ [])
unfolding rows_from
from_more s xs a = from_append s xs (a ∷ [])

-- as many as records
pub from_length : (s xs : List ℕ) → length (rows_from s xs) ≡ length xs
unfolding rows_from
from_length s [] = refl
from_length s (a ∷ xs) = ap suc (from_length s xs)

-- a row has as many bits as its record says
pub bits_length : (s : List ℕ) (a : ℕ) → length (row_at s a).bits ≡ length_at s a
bits_length s a = row_length_lem (kind_of s) (part_at (kind_of s) s a) (length_at s a)

-- ---- rows by their labels
-- the row of a place, if there is one
abbrev pub row_if : List ℕ → Option ℕ → Option Labelled
row_if s none = none
row_if s (some a) = some (row_at s a)

-- the row of a label is that of its place
pub row_placed : (s : List ℕ) (label : ℕ) (bs : List ℕ) → row_of label (rows_from s bs) ≡ row_if s (place_of s label bs)
unfolding rows_from row_of place_of
row_placed s label [] = refl
row_placed s label (a ∷ bs) = go (eqb (label_at s a) label) (row_placed s label bs)
  where
    go : (t : Bool) → row_of label (rows_from s bs) ≡ row_if s (place_of s label bs)
        → cond t (some (row_at s a)) (row_of label (rows_from s bs)) ≡ row_if s (cond t (some a) (place_of s label bs))
    go true e = refl
    go false e = e

-- ---- rows left out
-- those of one list, then of another
pub but_append : (out : ℕ → Bool) (xs ys : List Labelled) → rows_but out (xs ++ ys) ≡ rows_but out xs ++ rows_but out ys
unfolding rows_but
but_append out [] ys = refl
but_append out (r ∷ xs) ys = go (out r.label) (but_append out xs ys)
  where
    go : (t : Bool) → rows_but out (xs ++ ys) ≡ rows_but out xs ++ rows_but out ys
        → cond t (rows_but out (xs ++ ys)) (r ∷ rows_but out (xs ++ ys)) ≡ cond t (rows_but out xs) (r ∷ rows_but out xs) ++ rows_but out ys
    go true e = e
    go false e = ap (λ (l : List Labelled). r ∷ l) e

-- a row that is left out, or not
pub but_out : (out : ℕ → Bool) (xs : List Labelled) (r : Labelled) → out r.label ≡ true → rows_but out (xs ++ (r ∷ [])) ≡ rows_but out xs
unfolding rows_but
but_out out xs r e = but_append out xs (r ∷ []) ∙ ap (λ (t : Bool). rows_but out xs ++ cond t [] (r ∷ [])) e ∙ append-nil (rows_but out xs)

pub but_in : (out : ℕ → Bool) (xs : List Labelled) (r : Labelled) → out r.label ≡ false → rows_but out (xs ++ (r ∷ [])) ≡ rows_but out xs ++ (r ∷ [])
unfolding rows_but
but_in out xs r e = but_append out xs (r ∷ []) ∙ ap (λ (t : Bool). rows_but out xs ++ cond t [] (r ∷ [])) e

-- none left out
pub but_none : (out : ℕ → Bool) (rs : List Labelled) → ((label : ℕ) → out label ≡ false) → rows_but out rs ≡ rs
unfolding rows_but
but_none out [] h = refl
but_none out (r ∷ rs) h = simp (h r.label) (ap (λ (l : List Labelled). r ∷ l) (but_none out rs h))

-- the same labels left out
pub but_ext : (p q : ℕ → Bool) (s bs : List ℕ) → ((i : ℕ) → i < length bs → p (label_at s (get_or bs i 0)) ≡ q (label_at s (get_or bs i 0)))
    → rows_but p (rows_from s bs) ≡ rows_but q (rows_from s bs)
unfolding rows_but rows_from
but_ext p q s [] h = refl
but_ext p q s (a ∷ bs) h =
    ap₂ (λ (t : Bool) (l : List Labelled). cond t l (row_at s a ∷ l)) (h 0 (omega arith)) (but_ext p q s bs (λ i l. h (suc i) (omega arith)))

-- ---- unequal rows
-- those of one list, then of another
pub conflict_append : (first xs ys : List Labelled) → conflict first (xs ++ ys) ≡ (conflict first xs || conflict first ys)
unfolding conflict
conflict_append first [] ys = refl
conflict_append first (r ∷ xs) ys =
    ap (λ (t : Bool). unequal (row_of r.label first) r || t) (conflict_append first xs ys) ∙ go (unequal (row_of r.label first) r)
  where
    go : (t : Bool) → (t || (conflict first xs || conflict first ys)) ≡ (t || conflict first xs || conflict first ys)
    go true = refl
    go false = refl

-- where there are none, the rows of a label in both have the same bits
pub conflict_none : (first rs : List Labelled) (label : ℕ) (q r : Labelled) → conflict first rs ≡ false → row_of label first ≡ some q → row_of label rs ≡ some r
    → q.bits ≡ r.bits
unfolding conflict row_of
conflict_none first [] label q r h e d = no_confusion cc
conflict_none first (x ∷ rs) label q r h e d = go (eqb x.label label) refl d (λ f. conflict_none first rs label q r each.1 e f)
  where
    each : (unequal (row_of x.label first) x ≡ false) × (conflict first rs ≡ false)
    each = or_none (unequal (row_of x.label first) x) (conflict first rs) h

    go : (t : Bool) → eqb x.label label ≡ t → cond t (some x) (row_of label rs) ≡ some r → (row_of label rs ≡ some r → q.bits ≡ r.bits) → q.bits ≡ r.bits
    go true p f later =
        let z : x ≡ r = cc in
        let own : row_of x.label first ≡ some q = ap (λ (l : ℕ). row_of l first) (eqb-true x.label label p) ∙ e in
        let u : not (same q.bits x.bits) ≡ false = ap (λ (o : Option Labelled). unequal o x) (sym own) ∙ each.0 in
        same_eq q.bits x.bits (not_not _ u) ∙ ap (λ (y : Labelled). y.bits) z
    go false p f later = later f

-- ---- the walk over the rows of an image that obeys the layout
-- a walk that stands at byte `at` after the rows of the records `past`
pub record RowWalk (s : List ℕ) (at : ℕ) (past : List ℕ) : Type 0 where
  pub obeys : Obeys s
  pub walk : SoundWalk s at past

-- where it starts
pub row_walk_none : (s : List ℕ) → Obeys s → RowWalk s (unit_bytes * num s 0 4) []
row_walk_none s o = record { obeys = o; walk = walk_none s (obeys_chain o) }

-- there is a header to read the first index from
pub obeys_least : {s : List ℕ} → Obeys s → unit_bytes ≤ length s
obeys_least {s} o = (chain_facts s (records_of s) (obeys_chain o)).header.least

-- where it has not ended
module _ {s : List ℕ} {at : ℕ} {past : List ℕ} (w : RowWalk s at past) (n : at ≡ 0 → ⊥) where
  abbrev pub turn : Turn s at past
  turn = walk_turn w.walk n

  -- it stands at a sound record
  pub row_walk_facts : RecordFacts (kind_of s) s at
  row_walk_facts = turn.facts

  -- with a right row
  pub row_walk_right : RightRecord s at
  row_walk_right =
      let l : length past < length (records_of s) = omega (arith, ap length turn.whole, length-append past (at ∷ turn.rest)) in
      let e : get_or (records_of s) (length past) 0 ≡ at =
      ap (λ (bs : List ℕ). get_or bs (length past) 0) (sym turn.whole) ∙ get_or-append_seam past at turn.rest 0 in
      record {
        room = turn.facts.room;
        inside = turn.facts.inside;
        right = subst (λ (a : ℕ). RightAt (kind_of s) s a) e (obeys_right w.obeys (length past) l);
      }

  -- no record before it has its label
  pub row_walk_fresh : (label : ℕ) → label_at s at ≡ label → place_of s label past ≡ none
  row_walk_fresh label e = go (place_of s label past) refl
    where
      go : (o : Option ℕ) → place_of s label past ≡ o → o ≡ none
      go none p = refl
      go (some b) p =
          let f = place_found s label past b p in
          let i : ℕ = f.index in
          let whole : past ++ (at ∷ turn.rest) ≡ records_of s = turn.whole in
          let here : get_or (records_of s) i 0 ≡ b =
          ap (λ (l : List ℕ). get_or l i 0) (sym whole) ∙ get_or-append past (at ∷ turn.rest) 0 i f.within ∙ f.here in
          let there : get_or (records_of s) (length past) 0 ≡ at =
          ap (λ (l : List ℕ). get_or l (length past) 0) (sym whole) ∙ get_or-append_seam past at turn.rest 0 in
          absurd ((chain_facts s (records_of s) (obeys_chain w.obeys)).differ i (length past) f.within
          (omega (arith, ap length whole, length-append past (at ∷ turn.rest)))
          (ap (label_at s) here ∙ f.its ∙ sym e ∙ ap (label_at s) (sym there)))

  -- a turn
  pub row_walk_more : RowWalk s (unit_bytes * next_at s at) (past ++ (at ∷ []))
  row_walk_more = record { obeys = w.obeys; walk = turn.more }

  -- the rows after those walked
  pub row_walk_rest : rows_of s ≡ rows_from s past ++ (row_at s at ∷ rows_from s turn.rest)
  unfolding rows_from
  row_walk_rest = ap (rows_from s) (sym turn.whole) ∙ from_append s past (at ∷ turn.rest)

-- where it ends it has met all rows
pub row_walk_done : {s past : List ℕ} → RowWalk s 0 past → rows_from s past ≡ rows_of s
row_walk_done {s} w = ap (rows_from s) (walk_done w.walk refl)

-- ---- one row, by its place or by its label
-- that of record i
pub from_at : (s bs : List ℕ) (d : Labelled) (i : ℕ) → i < length bs → get_or (rows_from s bs) i d ≡ row_at s (get_or bs i 0)
unfolding rows_from
from_at s [] d i l = absurd (omega arith)
from_at s (a ∷ bs) d zero l = refl
from_at s (a ∷ bs) d (suc i) l = from_at s bs d i (omega arith)

-- the rows of one list, then of another
pub row_append : (label : ℕ) (xs ys : List Labelled) → row_of label (xs ++ ys) ≡ or_else (row_of label xs) (row_of label ys)
unfolding row_of
row_append label [] ys = refl
row_append label (r ∷ xs) ys = go (eqb r.label label) (row_append label xs ys)
  where
    go : (t : Bool) → row_of label (xs ++ ys) ≡ or_else (row_of label xs) (row_of label ys)
        → cond t (some r) (row_of label (xs ++ ys)) ≡ or_else (cond t (some r) (row_of label xs)) (row_of label ys)
    go true e = refl
    go false e = e

-- a label that is not left out keeps its row
but_row : (out : ℕ → Bool) (label : ℕ) → out label ≡ false → (rs : List Labelled) → row_of label (rows_but out rs) ≡ row_of label rs
unfolding row_of rows_but
but_row out label h [] = refl
but_row out label h (r ∷ rs) = go (out r.label) (eqb r.label label) refl refl (but_row out label h rs)
  where
    go : (t u : Bool) → out r.label ≡ t → eqb r.label label ≡ u → row_of label (rows_but out rs) ≡ row_of label rs
        → row_of label (cond t (rows_but out rs) (r ∷ rows_but out rs)) ≡ cond u (some r) (row_of label rs)
    go true true p q e = absurd (true_false p (ap out (eqb-true r.label label q) ∙ h))
    go true false p q e = e
    go false true p q e = simp (q, row_of)
    go false false p q e = simp (q, row_of) e

-- of two merged lists, the first's row or else the second's
pub merged_row : (label : ℕ) (first second : List Labelled) → row_of label (merged first second) ≡ or_else (row_of label first) (row_of label second)
merged_row label first second = row_append label first (rows_but (has_row first) second) ∙ go (row_of label first) refl
  where
    go : (o : Option Labelled) → row_of label first ≡ o → or_else o (row_of label (rows_but (has_row first) second)) ≡ or_else o (row_of label second)
    go none e = but_row (has_row first) label (ap is_some e) second
    go (some r) e = refl

-- ---- the record of a label
-- in an image that obeys the layout it is right
pub label_right : {s : List ℕ} → Obeys s → (label a : ℕ) → record_with s label ≡ some a → RightRecord s a
label_right {s} o label a e =
    let w = place_found s label (records_of s) a e in
    let f = (found_placed s (records_of s) label a (chain_facts s (records_of s) (obeys_chain o)) w).facts in
    record {
      room = f.room;
      inside = f.inside;
      right = subst (RightAt (kind_of s) s) w.here (obeys_right o w.index w.within);
    }
