-- The loops over the rows of an image: where each starts, a turn, and what it has made where it ends. Assumes nothing.
use mathlib.Core.Path.{◌≡◌, refl, sym, ap, ap₂, ◌∙◌, subst}
use mathlib.Core.Bool.{Bool, true, false, cond}
use mathlib.Core.List.{List, [], ◌∷◌, ◌++◌}
use mathlib.Core.Option.{some, none}
use mathlib.Core.Option as spec
use Rattle.std.specs.Prelude.{Option, Some, None}
use Rattle.std.specs.Prelude as rust
use Prim.Native.Nat.{ℕ, ◌+◌, ◌*◌, ◌≤◌}
use native.Mathlib.Omega.{arith}
use lib.ListN.{length, get_or, set, replicate, drop, length-append, length-replicate, get_or-replicate, length-set}
use lib.Seq.{get_or-set_same, get_or-set_other, length-sets}
use lib.Dec.{eqb}
use borrow.Author.Tests.{eqb-true, eqb-false}
use Rattle.image.specs.Bytes.{num}
use Rattle.image.specs.Kinds.{Kind}
use Rattle.image.specs.Layout.{unit_bytes, most_label, most_bytes, size_of}
use Rattle.image.specs.Chain.{kind_of, label_at, length_at, next_at, place_of, header_of}
use Rattle.image.specs.Rows.{Obeys}
use Rattle.image.specs.Shelf.{Labelled, sizes_of, row_of, written}
use Rattle.image.specs.Calls.{is_some, records_of, record_with}
use Rattle.image.specs.Walk.{found_at}
use Rattle.image.proofs.KindLaws.{KindFits}
use Rattle.image.proofs.ChainLaws.{no_confusion, chain_facts, chain_few}
use Rattle.image.proofs.InspectLaws.{obeys_chain}
use Rattle.image.proofs.WalkLaws.{placed_more, walk_done}
use Rattle.image.proofs.ShelfLaws.{sizes_append, sizes_more}
use Rattle.merging.specs.Merged.{row_at, rows_from, rows_of, has_row, rows_but, unequal, conflict}
use Rattle.merging.specs.Working.{RightRecord, Places, marked, unmarked, Measured, next_to, records_to, Copied}
use Rattle.merging.specs.Calls.{merged_rows}
use Rattle.merging.proofs.RowsLaws.{RowWalk, row_walk_none, row_walk_facts, row_walk_fresh, row_walk_more, row_walk_rest, row_walk_done, turn, label_right}
use Rattle.merging.proofs.RowsLaws.{from_more, bits_length, row_if, row_placed, but_append, but_out, but_in, but_none, but_ext, conflict_append}
use Rattle.merging.proofs.RecordsLaws.{copied_none, copied_append, copied_written}

-- ---- places by label
-- those of the records walked
pub record Placing (s : List ℕ) (places : List (Option ℕ)) (at : ℕ) : Type 0 where
  pub past : List ℕ
  pub walk : RowWalk s at past
  pub long : length places ≡ most_label + 1
  pub each : (label : ℕ) → label ≤ most_label → get_or places label None ≡ found_at (place_of s label past)

-- where it starts
pub placing_none : (s : List ℕ) → Obeys s → Placing s (replicate (most_label + 1) None) (unit_bytes * num s 0 4)
unfolding place_of
placing_none s o =
    record {
      past = [];
      walk = row_walk_none s o;
      long = length-replicate {A = Option ℕ} (most_label + 1) None;
      each = λ label l. get_or-replicate {A = Option ℕ} (most_label + 1) label None None (omega arith);
    }

-- a turn
pub placing_more : {s : List ℕ} {places : List (Option ℕ)} {at : ℕ} (w : Placing s places at) → (at ≡ 0 → ⊥) → (here : ℕ) → here ≡ label_at s at
    → Placing s (set places here (Some at)) (unit_bytes * next_at s at)
placing_more {s} {places} {at} w n here q =
    record {
      past = w.past ++ (at ∷ []);
      walk = row_walk_more w.walk n;
      long = length-set places here (Some at) ∙ w.long;
      each = λ label l. go label l (eqb (label_at s at) label) refl;
    }
  where
    more : (label : ℕ) → label ≤ most_label
        → cond (eqb (label_at s at) label) (Some at) (get_or places label None) ≡ found_at (place_of s label (w.past ++ (at ∷ [])))
    more label l = placed_more s label at w.past (get_or places label None) (w.each label l) (row_walk_fresh w.walk n label)

    go : (label : ℕ) → label ≤ most_label → (t : Bool) → eqb (label_at s at) label ≡ t
        → get_or (set places here (Some at)) label None ≡ found_at (place_of s label (w.past ++ (at ∷ [])))
    go label l true p =
        let z : here ≡ label = q ∙ eqb-true _ _ p in
        rw (z, get_or-set_same places label (Some at) None (omega (arith, w.long)))
        (ap (λ (t : Bool). cond t (Some at) (get_or places label None)) (sym p) ∙ more label l)
    go label l false p =
        get_or-set_other places here label (Some at) None (λ z. eqb-false _ _ p (sym q ∙ sym z))
        ∙ ap (λ (t : Bool). cond t (Some at) (get_or places label None)) (sym p) ∙ more label l

-- where it ends
pub placing_done : {s : List ℕ} {places : List (Option ℕ)} → Placing s places 0 → Places s places
placing_done {s} w =
    record { long = w.long; each = λ label l. w.each label l ∙ ap (λ (bs : List ℕ). found_at (place_of s label bs)) (walk_done w.walk.walk refl) }

-- ---- rows measured
-- the number of those walked whose label is not skipped, and the bytes of their records
pub record Measuring (K : Kind) (s : List ℕ) (skip : ℕ → Bool) (at rows bytes : ℕ) : Type 0 where
  pub past : List ℕ
  pub walk : RowWalk s at past
  pub number : rows ≡ length (rows_but skip (rows_from s past))
  pub sizes : bytes ≡ sizes_of K (rows_but skip (rows_from s past))
  pub few : rows ≤ length past
  pub bounded : bytes ≤ most_bytes * rows

-- where it starts
pub measuring_none : (K : Kind) (s : List ℕ) (skip : ℕ → Bool) → Obeys s → Measuring K s skip (unit_bytes * num s 0 4) 0 0
unfolding rows_but rows_from sizes_of
measuring_none K s skip o =
    record { past = []; walk = row_walk_none s o; number = refl; sizes = refl; few = omega arith; bounded = omega arith }

module _ {K : Kind} {s : List ℕ} {skip : ℕ → Bool} {at rows bytes : ℕ} (w : Measuring K s skip at rows bytes) (n : at ≡ 0 → ⊥) where
  -- a row whose label is skipped
  pub measuring_out : skip (label_at s at) ≡ true → Measuring K s skip (unit_bytes * next_at s at) rows bytes
  measuring_out m =
      let z : rows_but skip (rows_from s (w.past ++ (at ∷ []))) ≡ rows_but skip (rows_from s w.past) =
      ap (rows_but skip) (from_more s w.past at) ∙ but_out skip (rows_from s w.past) (row_at s at) m in
      record {
        past = w.past ++ (at ∷ []);
        walk = row_walk_more w.walk n;
        number = w.number ∙ ap length (sym z);
        sizes = w.sizes ∙ ap (sizes_of K) (sym z);
        few = omega (arith, w.few, length-append w.past (at ∷ []));
        bounded = w.bounded;
      }

  -- one whose label is not
  pub measuring_in : KindFits K → kind_of s ≡ K → (size : ℕ) → size ≡ size_of K (length_at s at)
      → skip (label_at s at) ≡ false → Measuring K s skip (unit_bytes * next_at s at) (rows + 1) (bytes + size)
  measuring_in F k size q m =
      let qs : List Labelled = rows_but skip (rows_from s w.past) in
      let z : rows_but skip (rows_from s (w.past ++ (at ∷ []))) ≡ qs ++ (row_at s at ∷ []) =
      ap (rows_but skip) (from_more s w.past at) ∙ but_in skip (rows_from s w.past) (row_at s at) m in
      record {
        past = w.past ++ (at ∷ []);
        walk = row_walk_more w.walk n;
        number = omega (arith, w.number, ap length z, length-append qs (row_at s at ∷ []));
        sizes = omega (arith, w.sizes, ap (sizes_of K) z, sizes_more K F qs (row_at s at), q, ap (size_of K) (bits_length s at));
        few = omega (arith, w.few, length-append w.past (at ∷ []));
        bounded =
            omega (
              arith,
              w.bounded,
              q,
              ap (λ (j : Kind). size_of j (length_at s at)) k,
              (row_walk_facts w.walk n).inside,
              (chain_facts s (records_of s) (obeys_chain w.walk.obeys)).header.most,
            );
      }

-- where it ends
pub measuring_done : {K : Kind} {s : List ℕ} {skip : ℕ → Bool} {rows bytes : ℕ} → Measuring K s skip 0 rows bytes
    → Measured K (rows_but skip (rows_of s)) rows bytes
measuring_done {K} {s} {skip} w =
    let e : rows_but skip (rows_from s w.past) ≡ rows_but skip (rows_of s) = ap (rows_but skip) (row_walk_done w.walk) in
    let few : length w.past ≤ most_label =
    omega (arith, ap length (walk_done w.walk.walk refl), chain_few s (records_of s) (obeys_chain w.walk.obeys)) in
    record {
      number = w.number ∙ ap length e;
      sizes = w.sizes ∙ ap (sizes_of K) e;
      few = omega (arith, w.few);
      bounded = omega (arith, w.bounded, w.few);
    }

-- ---- rows compared
-- a place of none, and one of a record
found_none : (o : spec.Option ℕ) → found_at o ≡ None → o ≡ none
found_none none e = refl
found_none (some a) e = no_confusion cc

found_some : (o : spec.Option ℕ) (a : ℕ) → found_at o ≡ Some a → o ≡ some a
found_some none a e = no_confusion cc
found_some (some b) a e = cc

-- the row that the first image has of a label, by its place
module _ {s : List ℕ} {places : List (Option ℕ)} (o : Obeys s) (k : Places s places) (label l : ℕ) (e : l ≡ label) (h : label ≤ most_label) where
  place_is : get_or places l None ≡ found_at (record_with s label)
  place_is = rw e (k.each label h)

  -- none without a place
  pub place_none : get_or places l None ≡ None → row_of label (rows_of s) ≡ none
  place_none z = row_placed s label (records_of s) ∙ ap (row_if s) (found_none _ (sym place_is ∙ z))

  -- else that of the record there
  pub place_row : (place : ℕ) → get_or places l None ≡ Some place → row_of label (rows_of s) ≡ some (row_at s place)
  place_row place z = row_placed s label (records_of s) ∙ ap (row_if s) (found_some _ place (sym place_is ∙ z))

  -- which is right
  pub place_right : (place : ℕ) → get_or places l None ≡ Some place → RightRecord s place
  place_right place z = label_right o label place (found_some _ place (sym place_is ∙ z))

-- no row of the second image that was walked is unequal to the first's of its label
pub record Comparing (first second : List ℕ) (at : ℕ) : Type 0 where
  pub past : List ℕ
  pub walk : RowWalk second at past
  pub equal : conflict (rows_of first) (rows_from second past) ≡ false

-- where it starts
pub comparing_none : (first second : List ℕ) → Obeys second → Comparing first second (unit_bytes * num second 0 4)
unfolding conflict rows_from
comparing_none first second o = record { past = []; walk = row_walk_none second o; equal = refl }

module _ {first second : List ℕ} {at : ℕ} (w : Comparing first second at) (n : at ≡ 0 → ⊥) where
  -- the row is not unequal: a turn
  pub comparing_more : unequal (row_of (label_at second at) (rows_of first)) (row_at second at) ≡ false
      → Comparing first second (unit_bytes * next_at second at)
  unfolding conflict
  comparing_more h =
      record {
        past = w.past ++ (at ∷ []);
        walk = row_walk_more w.walk n;
        equal =
            ap (conflict (rows_of first)) (from_more second w.past at)
            ∙ conflict_append (rows_of first) (rows_from second w.past) (row_at second at ∷ [])
            ∙ simp (w.equal, h);
      }

  -- it is: a conflict
  pub comparing_unequal : unequal (row_of (label_at second at) (rows_of first)) (row_at second at) ≡ true → true ≡ conflict (rows_of first) (rows_of second)
  unfolding conflict
  comparing_unequal h =
      sym (ap (conflict (rows_of first)) (row_walk_rest w.walk n)
      ∙ conflict_append (rows_of first) (rows_from second w.past) (row_at second at ∷ rows_from second (turn w.walk n).rest)
      ∙ simp (w.equal, h))

-- where it ends
pub comparing_done : {first second : List ℕ} → Comparing first second 0 → false ≡ conflict (rows_of first) (rows_of second)
comparing_done {first} w = sym (sym (ap (conflict (rows_of first)) (row_walk_done w.walk)) ∙ w.equal)

-- ---- rows copied
-- the records of those walked whose label is not skipped, from byte `start` on
pub record CopyingRows (K : Kind) (s : List ℕ) (skip : ℕ → Bool) (out₀ : List ℕ) (start end : ℕ) (out : List ℕ) (from at : ℕ) : Type 0 where
  pub past : List ℕ
  pub walk : RowWalk s from past
  pub long : length out ≡ length out₀
  pub copied : Copied K out₀ start end (rows_but skip (rows_from s past)) out at

-- where it starts
pub copying_rows_none : (K : Kind) → KindFits K → (s : List ℕ) (skip : ℕ → Bool) (out : List ℕ) (start end : ℕ) → Obeys s
    → CopyingRows K s skip out start end out (unit_bytes * num s 0 4) start
unfolding rows_but rows_from
copying_rows_none K F s skip out start end o = record { past = []; walk = row_walk_none s o; long = refl; copied = copied_none K F out start end }

module _ {K : Kind} (F : KindFits K) {s : List ℕ} {skip : ℕ → Bool} {out₀ : List ℕ} {start end : ℕ} {out : List ℕ} {from at : ℕ}
    (w : CopyingRows K s skip out₀ start end out from at) (n : from ≡ 0 → ⊥) where
  -- a row whose label is skipped
  pub copying_rows_out : skip (label_at s from) ≡ true
      → CopyingRows K s skip out₀ start end out (unit_bytes * next_at s from) at
  copying_rows_out m =
      record {
        past = w.past ++ (from ∷ []);
        walk = row_walk_more w.walk n;
        long = w.long;
        copied =
            subst (λ (rs : List Labelled). Copied K out₀ start end rs out at)
            (sym (ap (rows_but skip) (from_more s w.past from) ∙ but_out skip (rows_from s w.past) (row_at s from) m)) w.copied;
      }

  module _ (m : skip (label_at s from) ≡ false) where
    -- there is room for one whose label is not
    pub copying_rows_room : start + sizes_of K (rows_but skip (rows_of s)) ≤ length out₀ → at + size_of K (length_at s from) ≤ length out
    unfolding rows_but sizes_of
    copying_rows_room h =
        let qs : List Labelled = rows_but skip (rows_from s w.past) in
        let r : Labelled = row_at s from in
        let ys : List Labelled = rows_from s (turn w.walk n).rest in
        let e : rows_but skip (rows_of s) ≡ qs ++ (r ∷ rows_but skip ys) =
        ap (rows_but skip) (row_walk_rest w.walk n)
        ∙ but_append skip (rows_from s w.past) (r ∷ ys)
        ∙ ap (λ (t : Bool). qs ++ cond t (rows_but skip ys) (r ∷ rows_but skip ys)) m in
        omega (
          arith,
          w.copied.ends,
          ap (sizes_of K) e,
          sizes_append K F qs (r ∷ rows_but skip ys),
          ap (size_of K) (bits_length s from),
          w.long,
        )

    -- and it is copied
    pub copying_rows_in : {out' : List ℕ} {after : ℕ} → Copied K out at end (row_at s from ∷ []) out' after
        → CopyingRows K s skip out₀ start end out' (unit_bytes * next_at s from) after
    copying_rows_in {out'} {after} k =
        record {
          past = w.past ++ (from ∷ []);
          walk = row_walk_more w.walk n;
          long = ap length k.same ∙ length-sets out at (records_to K at end (row_at s from ∷ [])) ∙ w.long;
          copied =
              subst (λ (rs : List Labelled). Copied K out₀ start end rs out' after)
              (sym (ap (rows_but skip) (from_more s w.past from) ∙ but_in skip (rows_from s w.past) (row_at s from) m))
              (copied_append K F (rows_but skip (rows_from s w.past)) (row_at s from ∷ []) w.copied k);
        }

-- where it ends
pub copying_rows_done : {K : Kind} {s : List ℕ} {skip : ℕ → Bool} {out₀ : List ℕ} {start end : ℕ} {out : List ℕ} {at : ℕ} → CopyingRows K s skip out₀ start end out 0 at
    → Copied K out₀ start end (rows_but skip (rows_of s)) out at
copying_rows_done {K} {s} {skip} {out₀} {start} {end} {out} {at} w =
    subst (λ (rs : List Labelled). Copied K out₀ start end (rows_but skip rs) out at) (row_walk_done w.walk) w.copied

-- ---- the rows merged
-- without marks all rows are left
unmarked_none : (rs : List Labelled) → unmarked None rs ≡ rs
unmarked_none rs = but_none (marked None) rs (λ label. refl)

-- the places of an image mark the labels that it has
places_mark : {s : List ℕ} {places : List (Option ℕ)} → Places s places → (label : ℕ) → label ≤ most_label
    → marked (Some places) label ≡ has_row (rows_of s) label
places_mark {s} {places} k label h =
    ap rust.is_some (k.each label h) ∙ go (record_with s label) ∙ sym (ap is_some (row_placed s label (records_of s)))
  where
    go : (o : spec.Option ℕ) → rust.is_some (found_at o) ≡ is_some (row_if s o)
    go none = refl
    go (some a) = refl

-- so they leave the rows of another whose label it lacks
unmarked_places : {first second : List ℕ} {places : List (Option ℕ)} → Places first places → Obeys second
    → unmarked (Some places) (rows_of second) ≡ rows_but (has_row (rows_of first)) (rows_of second)
unmarked_places {first} {second} {places} k q =
    but_ext (marked (Some places)) (has_row (rows_of first)) second (records_of second)
    (λ i l. places_mark k _ ((chain_facts second (records_of second) (obeys_chain q)).each i l).facts.high)

-- all rows of the first image, then those of the second whose label is not marked, are the merged rows
module _ {first second : List ℕ} {places : List (Option ℕ)} (k : Places first places) (q : Obeys second) where
  merged_unmarked : unmarked None (rows_of first) ++ unmarked (Some places) (rows_of second) ≡ merged_rows first second
  merged_unmarked = ap₂ (λ (xs ys : List Labelled). xs ++ ys) (unmarked_none (rows_of first)) (unmarked_places k q)

  -- their number
  pub merged_number : length (unmarked None (rows_of first)) + length (unmarked (Some places) (rows_of second)) ≡ length (merged_rows first second)
  merged_number = sym (length-append (unmarked None (rows_of first)) (unmarked (Some places) (rows_of second))) ∙ ap length merged_unmarked

  module _ (K : Kind) (F : KindFits K) where
    -- the bytes of their records
    pub merged_sizes : sizes_of K (unmarked None (rows_of first)) + sizes_of K (unmarked (Some places) (rows_of second)) ≡ sizes_of K (merged_rows first second)
    merged_sizes = sym (sizes_append K F (unmarked None (rows_of first)) (unmarked (Some places) (rows_of second))) ∙ ap (sizes_of K) merged_unmarked

    -- a header, and both copied
    pub merged_written : (s t : List ℕ) {u v : List ℕ} {end at r : ℕ} → end ≡ unit_bytes + sizes_of K (merged_rows first second) → end ≤ length s
        → t ≡ header_of K (next_to unit_bytes end) ++ drop unit_bytes s → Copied K t unit_bytes end (unmarked None (rows_of first)) u at
        → Copied K u at end (unmarked (Some places) (rows_of second)) v r → v ≡ written K (merged_rows first second) s
    merged_written s t {u} {v} {end} {at} {r} e h ht x y =
        copied_written K F s t (merged_rows first second) e h ht
        (subst (λ (rs : List Labelled). Copied K t unit_bytes end rs v r) merged_unmarked
        (copied_append K F (unmarked None (rows_of first)) (unmarked (Some places) (rows_of second)) x y))
