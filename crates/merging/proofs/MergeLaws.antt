-- The merge: an accepted one's result passes inspection, has the merged rows, and reads each as the image that gave it; and the outcome, line by line. Assumes
-- nothing.
use mathlib.Core.Path.{◌≡◌, refl, sym, ap, ap₂, ◌∙◌, subst}
use mathlib.Core.Bool.{Bool, true, false, cond, not, ◌||◌, false≢true}
use mathlib.Core.List.{List, [], ◌∷◌, ◌++◌, append_assoc, append-nil}
use mathlib.Core.Option.{Option, some, none}
use Prim.Native.Nat.{ℕ, ◌+◌, ◌≤◌, ◌<◌}
use native.Mathlib.Omega.{arith}
use lib.ListN.{length, get_or}
use lib.Seq.{ext_get_or}
use lib.Dec.{leb}
use borrow.Author.Tests.{ne_eqb, leb-true, le-leb, lt-leb}
use Rattle.words.specs.Strip.{cell, or_else}
use Rattle.words.specs.Words.{place_in}
use Rattle.words.specs.declared.refusal.Refusal.{Refusal}
use Rattle.std.specs.Prelude.{Result, Err, IsErrAnd}
use Rattle.words.specs.Refusals.{Line, ◌⇒◌, judge, unless, Told, value, refused, told_of, Small}
use Rattle.words.specs.Calls.{value_line, below_line, within_line, absent_line}
use Rattle.words.proofs.BoolLaws.{and_first, and_second, not_not}
use Rattle.words.proofs.CheckLaws.{raised, judge_append, passes, passed_both}
use Rattle.image.specs.Kinds.{Kind}
use Rattle.image.specs.Layout.{unit_bytes}
use Rattle.image.specs.Chain.{kind_of, length_at, good_label, good_size, among}
use Rattle.image.specs.Rows.{part_at, row_bits, RightAt, Obeys}
use Rattle.image.specs.Shelf.{Labelled, written, sizes_of, row_of}
use Rattle.image.specs.Calls.{is_some, records_of, record_with, inspect_table, inspect_told, open_table, row_part, row_length, row_get_told, ImageOutcome, image_outcome}
use Rattle.image.specs.RoundTrip.{GivesBack}
use Rattle.image.proofs.KindLaws.{KindFits, KindNamed, image_fits, image_named}
use Rattle.image.proofs.ChainLaws.{no_confusion, size_facts, label_good, RecordFacts, Links, links_end, links_more, chain_links, among_first, among_rest, chain_facts, Found, place_found, found_placed}
use Rattle.image.proofs.FreezeLaws.{none_in}
use Rattle.image.proofs.RoundTripLaws.{gives_back, open_passes}
use Rattle.image.proofs.PartLaws.{row_le}
use Rattle.image.proofs.SmallLaws.{small_inspect}
use Rattle.image.proofs.RowLaws.{after_lines, table_refused}
use Rattle.image.proofs.ShelfLaws.{GoodRow, GoodRows, rows_end, rows_more, rows_snoc, Good, RowAt, places, length_image, length_places, written_kind, written_records, written_row, written_known, written_gives}
use Rattle.image.proofs.InspectLaws.{obeys_chain, obeys_passed, inspect_passed, inspect_refused, written_obeys, written_inspected}
use Rattle.merging.specs.Merged.{row_at, rows_from, rows_of, has_row, rows_but, conflict}
use Rattle.merging.specs.Calls.{merged_rows, room_for, merge_lines, merge_table, merge_outcome, giver, ReadAlike, MergedImage}
use Rattle.merging.proofs.RowsLaws.{from_length, from_at, bits_length, row_if, row_placed, row_append, merged_row, conflict_none, label_right}

-- ---- good rows
-- a sound record has a good row
row_good : (s : List ℕ) (a : ℕ) → RecordFacts (kind_of s) s a → GoodRow (row_at s a)
row_good s a f =
    record {
      low = f.low;
      high = f.high;
      bits = row_le (kind_of s) (part_at (kind_of s) s a) (length_at s a);
      short = omega (arith, bits_length s a, f.short);
    }

-- the records of a chain have good rows, no label twice
links_rows : (s : List ℕ) {a : ℕ} {met bs : List ℕ} → Links (kind_of s) s a met bs → GoodRows met (rows_from s bs)
unfolding rows_from
links_rows s links_end = rows_end
links_rows s (links_more {a} n f u k) = rows_more (row_good s a f) u (links_rows s k)

-- so has an image that obeys the layout
obeys_rows : (s : List ℕ) → Obeys s → GoodRows [] (rows_of s)
obeys_rows s o = links_rows s (chain_links s (records_of s) (obeys_chain o)).1

-- good rows, then those of another list that are not left out, where none of the first has the label of one of these
rows_join : (out : ℕ → Bool) {met : List ℕ} {xs ys : List Labelled} → GoodRows [] xs → GoodRows met ys
    → ((label : ℕ) → among label met ≡ false → out label ≡ false → row_of label xs ≡ none) → GoodRows [] (xs ++ rows_but out ys)
unfolding rows_but among row_of
rows_join out {xs = xs} g rows_end h = subst (GoodRows []) (sym (append-nil xs)) g
rows_join out {xs = xs} g (rows_more {met} {r} {rs} f m k) h = go (out r.label) refl (λ zs d u. rows_join out d k u)
  where
    go : (t : Bool) → out r.label ≡ t
        → ((zs : List Labelled) → GoodRows [] zs → ((label : ℕ) → among label (r.label ∷ met) ≡ false → out label ≡ false → row_of label zs ≡ none)
        → GoodRows [] (zs ++ rows_but out rs))
        → GoodRows [] (xs ++ cond t (rows_but out rs) (r ∷ rows_but out rs))
    go true e later = later xs g (λ label u o. h label (among_rest label r.label met u) o)
    go false e later =
        subst (GoodRows []) (append_assoc xs (r ∷ []) (rows_but out rs))
        (later (xs ++ (r ∷ [])) (rows_snoc r g f refl (h r.label m e))
        (λ label u o.
        row_append label xs (r ∷ [])
        ∙ simp (h label (among_rest label r.label met u) o, ne_eqb r.label label (λ z. among_first label r.label met u (sym z)))))

-- ---- rows read back
-- a record that is a row's own has that row
row_read : (K : Kind) (s : List ℕ) (a : ℕ) (r : Labelled) → kind_of s ≡ K → RowAt K s a r → row_at s a ≡ r
row_read K s a r kind x =
    ap₂ (λ (l : ℕ) (b : List ℕ). record { label = l; bits = b }) x.label
    (ap (λ (k : Kind). row_bits k (part_at k s a) (length_at s a)) kind ∙ ap (row_bits K (part_at K s a)) x.size ∙ x.bits)

-- good rows written out are the rows of the image
written_rows : (K : Kind) → KindFits K → KindNamed K → (rs : List Labelled) (base : List ℕ) → Good K rs base → rows_of (written K rs base) ≡ rs
written_rows K F N rs base g =
    let s : List ℕ = written K rs base in
    let d : Labelled = record { label = 0; bits = [] } in
    let bs : List ℕ = places K 1 rs in
    let n : length (rows_from s bs) ≡ length rs = from_length s bs ∙ length_places K F 1 rs in
    ap (rows_from s) (written_records K F N rs base g)
    ∙ ext_get_or d (rows_from s bs) rs n (λ i l.
    from_at s bs d i (omega (arith, from_length s bs))
    ∙ row_read K s (get_or bs i 0) (get_or rs i d) (written_kind K F N rs base g) (written_row K F N rs base g d i (omega (arith, n))))

-- ---- rows read alike
-- a row of an image that obeys the layout gives its bits back
obeys_gives : (s : List ℕ) (label a : ℕ) → Obeys s → record_with s label ≡ some a → GivesBack s label (row_at s a).bits
obeys_gives s label a o e =
    let w : Found s (records_of s) label a = place_found s label (records_of s) a e in
    let f = (found_placed s (records_of s) label a (chain_facts s (records_of s) (obeys_chain o)) w).facts in
    gives_back s label (row_at s a).bits
    (open_passes s label (records_of s) a (obeys_chain o) (label_good label (omega (arith, w.its, f.low)) (omega (arith, w.its, f.high))) e)
    (ap (λ (p : Option ℕ). length_at s (place_in 0 p)) e ∙ sym (bits_length s a))
    (ap (λ (p : Option ℕ). (row_at s (place_in 0 p)).bits) e)
    (subst (λ (p : Option ℕ). RightAt (kind_of s) s (place_in 0 p)) (sym e) (label_right o label a e).right)

-- two rows that give the same bits back
read_same : (s t : List ℕ) (label : ℕ) (bits : List ℕ) → GivesBack s label bits → GivesBack t label bits → ReadAlike s t label
read_same s t label bits g h =
    let opening : judge (open_table s label) ≡ judge (open_table t label) = g.opens ∙ sym h.opens in
    record {
      opening = opening;
      size = ap₂ (λ (o : Option ℕ) (n : ℕ). unless o refused (value n)) opening (g.size ∙ sym h.size);
      look = λ i. g.look i ∙ sym (h.look i);
      count = λ v i o p a b. g.count v i o a ∙ sym (h.count v i p b);
      find = λ v k o p a b. g.find v k o a ∙ sym (h.find v k p b);
    }

-- a label that has no record is refused, with 11 or 14
absent_refused : (s : List ℕ) (label : ℕ) → Obeys s → is_some (record_with s label) ≡ false → judge (open_table s label) ≡ some (cond (good_label label) 14 11)
absent_refused s label o e = simp (ap is_some (obeys_chain o), e) (go (good_label label))
  where
    go : (t : Bool) → judge ((not t ⇒ 11) ∷ (true ⇒ 14) ∷ []) ≡ some (cond t 14 11)
    go true = refl
    go false = refl

-- an opening that is refused, and a reading after it
told_refused : (s : List ℕ) (label n : ℕ) (rest : List Line) (late : Told) → judge (open_table s label) ≡ some n
    → unless (judge (open_table s label ++ rest)) refused late ≡ refused n
told_refused s label n rest late e = ap (λ (o : Option ℕ). unless o refused late) (table_refused s label n rest e)

-- two openings that are refused alike
read_refused : (s t : List ℕ) (label n : ℕ) → judge (open_table s label) ≡ some n → judge (open_table t label) ≡ some n → ReadAlike s t label
read_refused s t label n e d =
    record {
      opening = e ∙ sym d;
      size = told_refused s label n [] (value (row_length s label)) e ∙ sym (told_refused t label n [] (value (row_length t label)) d);
      look = λ i. looked s i e ∙ sym (looked t i d);
      count = λ v i o p a b. a.early n (counted s v i e) ∙ sym (b.early n (counted t v i d));
      find = λ v k o p a b. a.early n (searched s v k e) ∙ sym (b.early n (searched t v k d));
    }
  where
    looked : (u : List ℕ) (i : ℕ) → judge (open_table u label) ≡ some n → row_get_told u label i ≡ refused n
    looked u i =
        told_refused u label n (below_line (row_length u label) i ∷ []) (value (cell (row_bits (kind_of u) (row_part u label) (row_length u label)) i))

    counted : (u : List ℕ) (v i : ℕ) → judge (open_table u label) ≡ some n
        → judge (open_table u label ++ (value_line v ∷ within_line (row_length u label) i ∷ [])) ≡ some n
    counted u v i = table_refused u label n (value_line v ∷ within_line (row_length u label) i ∷ [])

    searched : (u : List ℕ) (v k : ℕ) → judge (open_table u label) ≡ some n
        → judge (open_table u label ++ (value_line v ∷ absent_line (row_length u label) k ∷ [])) ≡ some n
    searched u v k = table_refused u label n (value_line v ∷ absent_line (row_length u label) k ∷ [])

-- ---- the merge of two images
-- the row of a label is that of its record in the first, or else in the second
merged_placed : (first second : List ℕ) (label : ℕ)
    → row_of label (merged_rows first second) ≡ or_else (row_if first (record_with first label)) (row_if second (record_with second label))
merged_placed first second label =
    merged_row label (rows_of first) (rows_of second)
    ∙ ap₂ or_else (row_placed first label (records_of first)) (row_placed second label (records_of second))

-- a label has a row where it has a record in either
merged_known : (first second : List ℕ) (label : ℕ)
    → is_some (row_of label (merged_rows first second)) ≡ (is_some (record_with first label) || is_some (record_with second label))
merged_known first second label = ap is_some (merged_placed first second label) ∙ go (record_with first label) (record_with second label)
  where
    go : (o p : Option ℕ) → is_some (or_else (row_if first o) (row_if second p)) ≡ (is_some o || is_some p)
    go none none = refl
    go none (some a) = refl
    go (some a) p = refl

-- the rows of images that obey the layout merge into good rows
rows_merged : (first second : List ℕ) → Obeys first → Obeys second → GoodRows [] (merged_rows first second)
rows_merged first second o p =
    rows_join (has_row (rows_of first)) (obeys_rows first o) (obeys_rows second p) (λ label u e. none_in (row_of label (rows_of first)) e)

module _ (first second third : List ℕ) (pass : judge (merge_table first second (length third)) ≡ none) where
  -- the result: its rows, its kind, its bytes
  abbrev rs : List Labelled
  rs = merged_rows first second

  abbrev K : Kind
  K = kind_of first

  abbrev image : List ℕ
  image = written K rs third

  -- the kind has what is asked
  F : KindFits K
  F = image_fits first

  N : KindNamed K
  N = image_named first

  -- where all lines pass, those of each part do
  abbrev last : List Line
  last = merge_lines first second (length third)

  after_first : (judge (inspect_table first) ≡ none) × (judge (inspect_table second ++ last) ≡ none)
  after_first = passed_both (inspect_table first) (inspect_table second ++ last) pass

  after_second : (judge (inspect_table second) ≡ none) × (judge last ≡ none)
  after_second = passed_both (inspect_table second) last after_first.1

  -- both images obey the layout
  first_obeys : Obeys first
  first_obeys = inspect_passed first after_first.0

  second_obeys : Obeys second
  second_obeys = inspect_passed second after_second.0

  -- the merged rows are good, and fit the third buffer
  good : Good K rs third
  good =
      let n : ℕ = length third in
      let end : ℕ = unit_bytes + sizes_of K rs in
      let room : room_for K rs n ≡ true = not_not (room_for K rs n) (passes last after_second.1).1.0 in
      let sized = size_facts n (and_first (good_size n) (leb end n) room) in
      let ends = leb-true end n (and_second (good_size n) (leb end n) room) in
      record {
        rows = rows_merged first second first_obeys second_obeys;
        inside = omega (arith, ends, length_image K F rs);
        least = sized.0;
        most = sized.1;
      }

  -- the result obeys it too
  result_obeys : Obeys image
  result_obeys = written_obeys K F N rs third good

  -- it has the labels that either has
  result_known : (label : ℕ) → is_some (record_with image label) ≡ (is_some (record_with first label) || is_some (record_with second label))
  result_known label = written_known K F N rs third good label ∙ merged_known first second label

  module _ (label : ℕ) where
    -- a row of the result that is a record's is read as there
    result_gives : (s : List ℕ) (a : ℕ) → Obeys s → record_with s label ≡ some a → row_of label rs ≡ some (row_at s a) → ReadAlike image s label
    result_gives s a o e r =
        read_same image s label (row_at s a).bits (written_gives K F N rs third good label (row_at s a) r) (obeys_gives s label a o e)

    -- each label is read as in the image that gave its row
    result_reads : ReadAlike image (giver first second label) label
    result_reads = go (record_with first label) (record_with second label) refl refl
      where
        row : (o p : Option ℕ) → record_with first label ≡ o → record_with second label ≡ p → row_of label rs ≡ or_else (row_if first o) (row_if second p)
        row o p d e = merged_placed first second label ∙ ap₂ (λ (x y : Option ℕ). or_else (row_if first x) (row_if second y)) d e

        go : (o p : Option ℕ) → record_with first label ≡ o → record_with second label ≡ p → ReadAlike image (cond (is_some o) first second) label
        go (some a) p d e = result_gives first a first_obeys d (row (some a) p d e)
        go none (some a) d e = result_gives second a second_obeys e (row none (some a) d e)
        go none none d e =
            read_refused image second label (cond (good_label label) 14 11)
            (absent_refused image label result_obeys (result_known label ∙ ap₂ (λ (x y : Option ℕ). is_some x || is_some y) d e))
            (absent_refused second label second_obeys (ap is_some e))

  -- no row is unequal
  equal : conflict (rows_of first) (rows_of second) ≡ false
  equal = (passes last after_second.1).0

  -- a label of the second is read as there, whichever gave its row
  result_both : (label : ℕ) → is_some (record_with second label) ≡ true → ReadAlike image second label
  result_both label h = go (record_with first label) (record_with second label) refl refl h
    where
      row : (s : List ℕ) (a : ℕ) → record_with s label ≡ some a → row_of label (rows_of s) ≡ some (row_at s a)
      row s a e = row_placed s label (records_of s) ∙ ap (row_if s) e

      go : (o p : Option ℕ) → record_with first label ≡ o → record_with second label ≡ p → is_some p ≡ true → ReadAlike image second label
      go o none d e z = absurd (false≢true z)
      go none (some b) d e z = subst (λ (p : Option ℕ). ReadAlike image (cond (is_some p) first second) label) d (result_reads label)
      go (some a) (some b) d e z =
          let alike : (row_at first a).bits ≡ (row_at second b).bits =
          conflict_none (rows_of first) (rows_of second) label (row_at first a) (row_at second b) equal (row first a d) (row second b e) in
          let given : GivesBack image label (row_at first a).bits =
          written_gives K F N rs third good label (row_at first a)
          (merged_placed first second label ∙ ap (λ (p : Option ℕ). or_else (row_if first p) (row_if second (record_with second label))) d) in
          read_same image second label (row_at second b).bits (subst (GivesBack image label) alike given) (obeys_gives second label b second_obeys e)

  -- an accepted merge leaves an image of the merged rows
  pub merge_image : MergedImage first second image
  merge_image =
      record {
        inspected = written_inspected K F N rs third good;
        rows = written_rows K F N rs third good;
        labels = result_known;
        reading = result_reads;
        both = result_both;
      }

-- ---- room for rows
-- a buffer whose size is not in range has none
pub room_sized : (K : Kind) (rs : List Labelled) (bytes : ℕ) → good_size bytes ≡ false → room_for K rs bytes ≡ false
room_sized K rs bytes h = simp h

-- nor has one before whose end they do not end
pub room_short : (K : Kind) (rs : List Labelled) (bytes : ℕ) → good_size bytes ≡ true → bytes < unit_bytes + sizes_of K rs → room_for K rs bytes ≡ false
room_short K rs bytes h l = simp (h, lt-leb (unit_bytes + sizes_of K rs) bytes l)

-- any other has
pub room_enough : (K : Kind) (rs : List Labelled) (bytes : ℕ) → good_size bytes ≡ true → unit_bytes + sizes_of K rs ≤ bytes → room_for K rs bytes ≡ true
room_enough K rs bytes h l = simp (h, le-leb (unit_bytes + sizes_of K rs) bytes l)

-- ---- the outcome, line by line
module _ (first second third : List ℕ) where
  -- by what the table says
  abbrev outcome : Option ℕ → ImageOutcome
  outcome o =
      unless o (λ k. image_outcome (refused k) third)
      (image_outcome (value (length (merged_rows first second))) (written (kind_of first) (merged_rows first second) third))

  -- the lines after those of the images
  abbrev later : List Line
  later = merge_lines first second (length third)

  -- the first image is refused, which `?` passes on
  pub merge_first : (a q : Result ℕ Refusal) (r : Refusal) → told_of a ≡ inspect_told first → a ≡ Err r → IsErrAnd q (λ e. e ≡ r)
      → image_outcome (told_of q) third ≡ merge_outcome first second third
  merge_first a q r e d h =
      ap (λ (x : Result ℕ Refusal). image_outcome (told_of x) third) (raised q r h)
      ∙ sym (ap outcome (judge_append (inspect_table first) (inspect_table second ++ later)
      ∙ ap (λ (o : Option ℕ). or_else o (judge (inspect_table second ++ later))) (inspect_refused first a r e d)))

  module _ (o : Obeys first) where
    -- it is not
    past_first : judge (merge_table first second (length third)) ≡ judge (inspect_table second ++ later)
    past_first = after_lines (inspect_table first) (inspect_table second ++ later) (obeys_passed o)

    -- the second is
    pub merge_second : (a q : Result ℕ Refusal) (r : Refusal) → told_of a ≡ inspect_told second → a ≡ Err r → IsErrAnd q (λ e. e ≡ r)
        → image_outcome (told_of q) third ≡ merge_outcome first second third
    merge_second a q r e d h =
        ap (λ (x : Result ℕ Refusal). image_outcome (told_of x) third) (raised q r h)
        ∙ sym (ap outcome (past_first ∙ judge_append (inspect_table second) later
        ∙ ap (λ (p : Option ℕ). or_else p (judge later)) (inspect_refused second a r e d)))

    module _ (q : Obeys second) where
      -- neither is
      past_both : judge (merge_table first second (length third)) ≡ judge later
      past_both = past_first ∙ after_lines (inspect_table second) later (obeys_passed q)

      -- a label stands in both with unequal rows
      pub merge_conflict : conflict (rows_of first) (rows_of second) ≡ true → image_outcome (refused 18) third ≡ merge_outcome first second third
      merge_conflict e = let z : judge later ≡ some 18 = simp e in sym (ap outcome (past_both ∙ z))

      -- none does, but the result has no room
      pub merge_full : conflict (rows_of first) (rows_of second) ≡ false → room_for (kind_of first) (merged_rows first second) (length third) ≡ false
          → image_outcome (refused 13) third ≡ merge_outcome first second third
      merge_full e r = let z : judge later ≡ some 13 = simp (e, r) in sym (ap outcome (past_both ∙ z))

      -- it has
      pub merge_written : conflict (rows_of first) (rows_of second) ≡ false → room_for (kind_of first) (merged_rows first second) (length third) ≡ true
          → image_outcome (value (length (merged_rows first second))) (written (kind_of first) (merged_rows first second) third) ≡ merge_outcome first second third
      merge_written e r = let z : judge later ≡ none = simp (e, r) in sym (ap outcome (past_both ∙ z))

-- the answer of an accepted merge, and what it leaves
pub merge_accepted : (first second third : List ℕ) (n : ℕ) → (merge_outcome first second third).told ≡ value n
    → (n ≡ length (merged_rows first second)) × MergedImage first second (merge_outcome first second third).image
merge_accepted first second third n e = go (judge (merge_table first second (length third))) refl e
  where
    go : (o : Option ℕ) → judge (merge_table first second (length third)) ≡ o → (outcome first second third o).told ≡ value n
        → (n ≡ length (merged_rows first second)) × MergedImage first second (outcome first second third o).image
    go none p d = (cc, merge_image first second third p)
    go (some k) p d = no_confusion cc

-- a value that a merge tells is below 2^32
pub small_merge : (first second third : List ℕ) → Small (merge_outcome first second third).told
small_merge first second third = go (judge (merge_table first second (length third))) refl
  where
    go : (o : Option ℕ) → judge (merge_table first second (length third)) ≡ o → Small (outcome first second third o).told
    go none p =
        subst Small (merge_image first second third p).inspected (small_inspect (written (kind_of first) (merged_rows first second) third))
    go (some k) p = tt
