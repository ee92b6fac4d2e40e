-- Rows written out over a base: sizes, the chain, each row by its place and by its label, and one row more. Assumes nothing.
use mathlib.Core.Path.{◌≡◌, refl, sym, ap, ap₂, ◌∙◌, subst}
use mathlib.Core.Bool.{Bool, true, false, cond}
use mathlib.Core.Logic.{⊎_elim}
use mathlib.Core.List.{List, [], ◌∷◌, ◌++◌, append_assoc, append-nil, concat, eq-nil-or-concat, concat-eq-append}
use mathlib.Core.Option.{Option, some, none}
use Prim.Native.Nat.{ℕ, zero, suc, ◌+◌, ◌*◌, ◌/◌, ◌^◌, ◌≤◌, ◌<◌}
use native.Mathlib.Nat.{mod-eq_of_lt}
use native.Mathlib.Omega.{arith}
use lib.Dec.{eqb}
use lib.ListN.{length, get_or, take, drop, length-append, length-drop}
use lib.Seq.{sets, sets-eq, take_at, drop_at, drop-append-add, drop-drop}
use borrow.Author.Tests.{ne_eqb, eqb-false}
use Rattle.words.specs.Strip.{cell, strip_of}
use Rattle.words.specs.declared.handle.Handle.{Handle}
use Rattle.words.specs.Refusals.{judge, unless, value, refused}
use Rattle.words.proofs.StripLaws.{strip_length, strip_le}
use Rattle.words.specs.Words.{place_in}
use Rattle.image.specs.Bytes.{num, le}
use Rattle.image.specs.Kinds.{Kind, kinds, is_kind}
use Rattle.image.specs.Layout.{unit_bytes, most_bytes, most_label, most_row, size_of, record_of}
use Rattle.image.specs.Chain.{header_of, kind_of, next_at, label_at, length_at, end_at, among, chain_of, place_of, chain_end, link_of}
use Rattle.image.specs.Rows.{part_at, row_bits, Right}
use Rattle.image.specs.Shelf.{Labelled, units_of, index_for, records_from, image_of, written, sizes_of, row_of}
use Rattle.image.specs.Calls.{is_some, records_in, records_of, record_with, row_part, row_length, frozen, freeze_table, image_outcome, freeze_outcome}
use Rattle.image.specs.RoundTrip.{GivesBack}
use Rattle.image.proofs.KindLaws.{KindFits, KindNamed, size_units, named_kind}
use Rattle.image.proofs.ChainLaws.{RecordFacts, Links, links_end, links_more, links_chain, link_last, Found, place_found, found_placed, chain_facts, label_good}
use Rattle.image.proofs.PutLaws.{length_le, num_ext}
use Rattle.image.proofs.WriteLaws.{piece_after, piece_at, piece_small, length_header, record_front, record_length, record_next, record_label, record_long, record_bits, record_right}
use Rattle.image.proofs.FreezeLaws.{none_in, freezing}
use Rattle.image.proofs.RoundTripLaws.{gives_back, open_passes}

-- ---- good rows
-- a row that a record can hold
pub record GoodRow (r : Labelled) : Type 0 where
  pub low : 1 ≤ r.label
  pub high : r.label ≤ most_label
  pub bits : (p : ℕ) → cell r.bits p ≤ 1
  pub short : length r.bits ≤ most_row

-- good rows, no label twice and none of those in `met`
pub data GoodRows : List ℕ → List Labelled → Type 0 where
  rows_end : {met : List ℕ} → GoodRows met []
  rows_more : {met : List ℕ} {r : Labelled} {rs : List Labelled} → GoodRow r → among r.label met ≡ false → GoodRows (r.label ∷ met) rs
      → GoodRows met (r ∷ rs)

-- no row has the label: not the first, and none of the rest
row_unmet : (label : ℕ) (q : Labelled) (rs : List Labelled) → row_of label (q ∷ rs) ≡ none → (q.label ≡ label → ⊥) × (row_of label rs ≡ none)
unfolding row_of
row_unmet label q rs e = go (eqb q.label label) refl e
  where
    go : (t : Bool) → eqb q.label label ≡ t → cond t (some q) (row_of label rs) ≡ none → (q.label ≡ label → ⊥) × (row_of label rs ≡ none)
    go true p d = let z : ◌≡◌ {A = ℕ} 0 1 = cc in absurd (omega arith)
    go false p d = (eqb-false _ _ p, d)

-- one row more, with a label that was not met
pub rows_snoc : {met : List ℕ} {rs : List Labelled} (r : Labelled) → GoodRows met rs → GoodRow r → among r.label met ≡ false → row_of r.label rs ≡ none
    → GoodRows met (rs ++ (r ∷ []))
unfolding among
rows_snoc r rows_end g m e = rows_more g m rows_end
rows_snoc r (rows_more {met} {r = q} {rs} f n k) g m e =
    let w = row_unmet r.label q rs e in
    rows_more f n (rows_snoc r k g (simp (ne_eqb r.label q.label (λ z. w.0 (sym z)), m)) w.1)

-- the first rows
rows_front : {met : List ℕ} (rs ys : List Labelled) → GoodRows met (rs ++ ys) → GoodRows met rs
rows_front [] ys k = rows_end
rows_front (r ∷ rs) ys (rows_more g m k) = rows_more g m (rows_front rs ys k)

-- good rows that fit a base, itself of 16 to 2^32 bytes
pub record Good (K : Kind) (rs : List Labelled) (base : List ℕ) : Type 0 where
  pub rows : GoodRows [] rs
  pub inside : length (image_of K rs) ≤ length base
  pub least : unit_bytes ≤ length base
  pub most : length base ≤ most_bytes

-- ---- what the laws speak of: a row's record in an image, rows one after another, and one row more
-- the record at byte a is the row's own: its numbers and its bits read back, it is right, and it lies inside
pub record RowAt (K : Kind) (s : List ℕ) (a : ℕ) (r : Labelled) : Type 0 where
  pub part : part_at K s a ≡ record_of K (next_at s a) r.label r.bits
  pub label : label_at s a ≡ r.label
  pub size : length_at s a ≡ length r.bits
  pub bits : row_bits K (part_at K s a) (length r.bits) ≡ r.bits
  pub right : Right K (part_at K s a) (length r.bits)
  pub inside : end_at K s a ≤ length s

-- the byte where each record starts, the first at unit u
unfoldable pub places : Kind → ℕ → List Labelled → List ℕ
places K u [] = []
places K u (r ∷ rs) = unit_bytes * u ∷ places K (u + units_of K r) rs

-- rows that stand in an image from unit u on, each where the one before ends and its next index that of the one after
data Stand (K : Kind) (s : List ℕ) : ℕ → List Labelled → Type 0 where
  stand_end : {u : ℕ} → Stand K s u []
  stand_more : {u : ℕ} {r : Labelled} {rs : List Labelled} → RowAt K s (unit_bytes * u) r → next_at s (unit_bytes * u) ≡ index_for (u + units_of K r) rs
      → Stand K s (u + units_of K r) rs → Stand K s u (r ∷ rs)

-- a record of the image and a row of the list, or neither
data Paired (K : Kind) (s : List ℕ) : Option ℕ → Option Labelled → Type 0 where
  neither : Paired K s none none
  both : {a : ℕ} {r : Labelled} → RowAt K s a r → Paired K s (some a) (some r)

-- the row r has the label: its record is found among the chain's, and its length and bits are those read by the label
pub record RowWith (K : Kind) (s : List ℕ) (label : ℕ) (r : Labelled) : Type 0 where
  pub place : ℕ
  pub found : record_with s label ≡ some place
  pub its : Found s (records_of s) label place
  pub row : RowAt K s place r
  pub size : row_length s label ≡ length r.bits
  pub bits : row_bits (kind_of s) (row_part s label) (row_length s label) ≡ r.bits
  pub right : Right (kind_of s) (row_part s label) (row_length s label)

-- records in order that a record follows: each has the index of the one after it
unfoldable joined : Kind → ℕ → List Labelled → List ℕ
joined K u [] = []
joined K u (r ∷ rs) = record_of K (u + units_of K r) r.label r.bits ++ joined K (u + units_of K r) rs

-- rows written out, where a row follows
front_of : Kind → List Labelled → List ℕ
front_of K xs = header_of K 1 ++ joined K 1 xs

-- a record after its next index
abbrev after_next : Kind → Labelled → List ℕ
after_next K r = drop 4 (record_of K 0 r.label r.bits)

-- the index that ends the chain, between two parts of the rows written out: one row more replaces it and follows them
record Ending (K : Kind) (rs : List Labelled) (r : Labelled) : Type 0 where
  front : List ℕ
  back : List ℕ
  at : length front ≡ link_of (places K 1 rs)
  same : image_of K rs ≡ front ++ (le 4 0 ++ back)
  more : image_of K (rs ++ (r ∷ [])) ≡ front ++ (le 4 (length (image_of K rs) / unit_bytes) ++ (back ++ record_of K 0 r.label r.bits))

-- ---- the index of a row
-- an index is at most where the next row would be
index_le : (u : ℕ) (rs : List Labelled) → index_for u rs ≤ u
index_le u [] = omega arith
index_le u (r ∷ rs) = omega arith

-- a row follows
index_some : (u : ℕ) (xs : List Labelled) (y : Labelled) (ys : List Labelled) → index_for u (xs ++ (y ∷ ys)) ≡ u
index_some u [] y ys = refl
index_some u (x ∷ xs) y ys = refl

-- ---- pieces of a list
-- a number inside a piece
piece_number : (s xs ys : List ℕ) (at i n : ℕ) → drop at s ≡ xs ++ ys → i + n ≤ length xs → num s (at + i) n ≡ num xs i n
piece_number s xs ys at i n e h =
    num_ext s xs (at + i) i n (λ j l.
    let k : at + i + j ≡ at + (i + j) = omega arith in
    ap (λ (m : ℕ). get_or s m 0) k ∙ piece_at s xs ys at (i + j) e (omega arith))

-- a piece that is not empty lies inside
piece_fits : (s xs ys : List ℕ) (at : ℕ) → drop at s ≡ xs ++ ys → 0 < length xs → at + length xs ≤ length s
piece_fits s xs ys at e h = omega (arith, length-drop at s, ap length e, length-append xs ys)

-- bytes stored at the seam of two lists
sets_seam : (xs ys vs : List ℕ) (a : ℕ) → length xs ≡ a → length vs ≤ length ys → sets (xs ++ ys) a vs ≡ xs ++ (vs ++ drop (length vs) ys)
sets_seam xs ys vs a e h =
    let z : a + length vs ≡ length xs + length vs = omega arith in
    sets-eq vs (xs ++ ys) a (omega (arith, length-append xs ys))
    ∙ ap₂ (λ (x y : List ℕ). x ++ vs ++ y) (take_at xs ys a e) (ap (λ (k : ℕ). drop k (xs ++ ys)) z ∙ drop-append-add xs ys (length vs))
    ∙ append_assoc xs vs (drop (length vs) ys)

-- two stores: over the piece z by one as long, and from the end of the piece after it on
two_stores : (xs z w ys ds vs : List ℕ) (a b : ℕ) → length z ≡ length w → length xs ≡ a → length (xs ++ (z ++ ys)) ≡ b → length vs ≤ length ds
    → sets (sets ((xs ++ (z ++ ys)) ++ ds) a w) b vs ≡ (xs ++ (w ++ (ys ++ vs))) ++ drop (length vs) ds
two_stores xs z w ys ds vs a b e ea eb h =
    let flat : (xs ++ (z ++ ys)) ++ ds ≡ xs ++ (z ++ (ys ++ ds)) = simp append_assoc in
    let back : xs ++ (w ++ (ys ++ ds)) ≡ (xs ++ (w ++ ys)) ++ ds = simp append_assoc in
    let last : (xs ++ (w ++ ys)) ++ (vs ++ drop (length vs) ds) ≡ (xs ++ (w ++ (ys ++ vs))) ++ drop (length vs) ds = simp append_assoc in
    let long : length (xs ++ (w ++ ys)) ≡ b =
    omega (arith, length-append xs (w ++ ys), length-append w ys, length-append xs (z ++ ys), length-append z ys) in
    ap (λ (l : List ℕ). sets l b vs)
    (ap (λ (l : List ℕ). sets l a w) flat
    ∙ sets_seam xs (z ++ (ys ++ ds)) w a ea (omega (arith, length-append z (ys ++ ds)))
    ∙ ap (λ (l : List ℕ). xs ++ (w ++ l)) (drop_at z (ys ++ ds) (length w) e)
    ∙ back)
    ∙ sets_seam (xs ++ (w ++ ys)) ds vs b long h
    ∙ last

module _ (K : Kind) (F : KindFits K) where
  -- ---- sizes
  -- records are whole units
  pub sizes_units : (rs : List Labelled) → unit_bytes * (sizes_of K rs / unit_bytes) ≡ sizes_of K rs
  unfolding sizes_of
  sizes_units [] = refl
  sizes_units (r ∷ rs) = omega (arith, sizes_units rs, size_units K F (length r.bits))

  -- those of one list, then of another
  pub sizes_append : (xs ys : List Labelled) → sizes_of K (xs ++ ys) ≡ sizes_of K xs + sizes_of K ys
  unfolding sizes_of
  sizes_append [] ys = omega arith
  sizes_append (r ∷ xs) ys = omega (arith, sizes_append xs ys)

  -- one record more
  pub sizes_more : (rs : List Labelled) (r : Labelled) → sizes_of K (rs ++ (r ∷ [])) ≡ sizes_of K rs + size_of K (length r.bits)
  unfolding sizes_of
  sizes_more rs r = omega (arith, sizes_append rs (r ∷ []))

  -- the records have their sizes
  pub length_records : (u : ℕ) (rs : List Labelled) → length (records_from K u rs) ≡ sizes_of K rs
  unfolding records_from sizes_of
  length_records u [] = refl
  length_records u (r ∷ rs) =
      let next : ℕ = index_for (u + units_of K r) rs in
      length-append (record_of K next r.label r.bits) (records_from K (u + units_of K r) rs)
      ∙ ap₂ (λ (x y : ℕ). x + y) (record_length K next r.label r.bits) (length_records (u + units_of K r) rs)

  -- rows written out: 16 bytes and the records' sizes
  pub length_image : (rs : List Labelled) → length (image_of K rs) ≡ unit_bytes + sizes_of K rs
  unfolding image_of
  length_image rs =
      length-append (header_of K (index_for 1 rs)) (records_from K 1 rs)
      ∙ ap₂ (λ (x y : ℕ). x + y) (length_header K (index_for 1 rs)) (length_records 1 rs)

  -- written over a base, they leave its length
  pub length_written : (rs : List Labelled) (base : List ℕ) → length (image_of K rs) ≤ length base → length (written K rs base) ≡ length base
  length_written rs base h =
      omega (arith, length-append (image_of K rs) (drop (length (image_of K rs)) base), length-drop (length (image_of K rs)) base)

  -- ---- no row
  -- the header of an empty chain over any bytes
  pub written_none : (s : List ℕ) → header_of K 0 ++ drop unit_bytes s ≡ written K [] s
  unfolding image_of records_from le
  written_none s = refl

  -- ---- good rows that fit a base
  -- no row
  pub good_none : (base : List ℕ) → unit_bytes ≤ length base → length base ≤ most_bytes → Good K [] base
  unfolding sizes_of
  good_none base l m = record { rows = rows_end; inside = omega (arith, length_image []); least = l; most = m }

  -- one row more, where no row has its label and it fits
  pub good_more : (rs : List Labelled) (r : Labelled) (base : List ℕ) → Good K rs base → GoodRow r → row_of r.label rs ≡ none
      → unit_bytes + sizes_of K rs + size_of K (length r.bits) ≤ length base → Good K (rs ++ (r ∷ [])) base
  unfolding among
  good_more rs r base g f e h =
      record {
        rows = rows_snoc r g.rows f refl e;
        inside = omega (arith, length_image (rs ++ (r ∷ [])), sizes_more rs r);
        least = g.least;
        most = g.most;
      }

  -- one row less
  pub good_less : (rs : List Labelled) (r : Labelled) (base : List ℕ) → Good K (rs ++ (r ∷ [])) base → Good K rs base
  good_less rs r base g =
      record {
        rows = rows_front rs (r ∷ []) g.rows;
        inside = omega (arith, g.inside, length_image rs, length_image (rs ++ (r ∷ [])), sizes_more rs r);
        least = g.least;
        most = g.most;
      }

  -- the rows written out become the base, with no row
  pub good_cleared : (rs : List Labelled) (base : List ℕ) → Good K rs base → Good K [] (written K rs base)
  good_cleared rs base g =
      let long : length (written K rs base) ≡ length base = length_written rs base g.inside in
      good_none (written K rs base) (omega (arith, long, g.least)) (omega (arith, long, g.most))

  -- ---- a row's record in an image
  -- a piece that is a row's record
  module _ (s rest : List ℕ) (a next : ℕ) (r : Labelled) (g : GoodRow r) (small : next < 2 ^ 32)
      (e : drop a s ≡ record_of K next r.label r.bits ++ rest) where
    -- the record, and its size
    abbrev own : List ℕ
    own = record_of K next r.label r.bits

    long : length own ≡ size_of K (length r.bits)
    long = record_length K next r.label r.bits

    -- its next index
    next_is : next_at s a ≡ next
    next_is =
        let z : a ≡ a + 0 = omega arith in
        ap (λ (k : ℕ). num s k 4) z ∙ piece_number s own rest a 0 4 e (omega (arith, long))
        ∙ record_next K next r.label r.bits ∙ mod-eq_of_lt small

    -- its label
    label_is : label_at s a ≡ r.label
    label_is =
        piece_number s own rest a 4 4 e (omega (arith, long)) ∙ record_label K next r.label r.bits ∙ mod-eq_of_lt (omega (arith, g.high))

    -- its length
    size_is : length_at s a ≡ length r.bits
    size_is = piece_number s own rest a 8 4 e (omega (arith, long)) ∙ record_long K next r.label r.bits g.short

    -- its part
    part_is : part_at K s a ≡ own
    part_is =
        ap₂ (λ (n : ℕ) (l : List ℕ). take n l) (ap (size_of K) size_is) e ∙ take_at own rest (size_of K (length r.bits)) long

    -- where it ends
    end_is : end_at K s a ≡ a + size_of K (length r.bits)
    end_is = ap (λ (n : ℕ). a + size_of K n) size_is

    -- the row is there
    row_at : RowAt K s a r
    row_at =
        record {
          part = part_is ∙ ap (λ (x : ℕ). record_of K x r.label r.bits) (sym next_is);
          label = label_is;
          size = size_is;
          bits = ap (λ (l : List ℕ). row_bits K l (length r.bits)) part_is ∙ record_bits K next r.label r.bits g.bits F;
          right =
              subst (λ (l : List ℕ). Right K l (length r.bits)) (sym part_is)
              (record_right K next r.label r.bits g.bits F small (omega (arith, g.high)));
          inside = omega (arith, end_is, long, piece_fits s own rest a e (omega (arith, long)));
        }

  -- ---- the rows of an image, one after another
  -- good rows' records as a piece of an image
  stand : {met : List ℕ} {rs : List Labelled} (s rest : List ℕ) (u : ℕ) → GoodRows met rs → length s ≤ most_bytes
      → drop (unit_bytes * u) s ≡ records_from K u rs ++ rest → Stand K s u rs
  unfolding records_from
  stand s rest u rows_end m e = stand_end
  stand s rest u (rows_more {met} {r} {rs} g n k) m e =
      let a : ℕ = unit_bytes * u in
      let v : ℕ = u + units_of K r in
      let next : ℕ = index_for v rs in
      let own : List ℕ = record_of K next r.label r.bits in
      let long : length own ≡ size_of K (length r.bits) = record_length K next r.label r.bits in
      let d : drop a s ≡ own ++ (records_from K v rs ++ rest) = e ∙ append_assoc own (records_from K v rs) rest in
      let fits : a + length own ≤ length s = piece_fits s own (records_from K v rs ++ rest) a d (omega (arith, long)) in
      let small : next < 2 ^ 32 = omega (arith, index_le v rs, fits, long, size_units K F (length r.bits)) in
      let after : drop (unit_bytes * v) s ≡ records_from K v rs ++ rest =
      piece_after s own (records_from K v rs ++ rest) a (size_of K (length r.bits)) (unit_bytes * v) long d (omega (arith, size_units K F (length r.bits)))
      in
      stand_more (row_at s (records_from K v rs ++ rest) a next r g small d) (next_is s (records_from K v rs ++ rest) a next r g small d)
      (stand s rest v k m after)

  -- a row that stands is a sound record
  row_facts : (s : List ℕ) (a : ℕ) (r : Labelled) (rs : List Labelled) (v : ℕ) → GoodRow r → RowAt K s a r → next_at s a ≡ index_for v rs
      → unit_bytes * v ≡ a + size_of K (length r.bits) → RecordFacts K s a
  row_facts s a r rs v g x n e =
      let ends : end_at K s a ≡ unit_bytes * v = ap (λ (k : ℕ). a + size_of K k) x.size ∙ sym e in
      record {
        room = omega (arith, x.inside, ends);
        low = subst (λ (k : ℕ). 1 ≤ k) (sym x.label) g.low;
        high = subst (λ (k : ℕ). k ≤ most_label) (sym x.label) g.high;
        short = subst (λ (k : ℕ). k ≤ most_row) (sym x.size) g.short;
        inside = x.inside;
        ahead = λ z. go rs n z ends;
      }
    where
      go : (qs : List Labelled) → next_at s a ≡ index_for v qs → (next_at s a ≡ 0 → ⊥) → end_at K s a ≡ unit_bytes * v → end_at K s a ≤ unit_bytes * next_at s a
      go [] n z ends = absurd (z n)
      go (q ∷ qs) n z ends = omega (arith, ends, n)

  -- rows that stand make a chain
  stand_links : {s : List ℕ} {u : ℕ} {met : List ℕ} {rs : List Labelled} → Stand K s u rs → GoodRows met rs → 1 ≤ u
      → Links K s (unit_bytes * index_for u rs) met (places K u rs)
  unfolding places
  stand_links stand_end k l = links_end
  stand_links {s} {met = met} (stand_more {u} {r} {rs} x n y) (rows_more g m k) l =
      let a : ℕ = unit_bytes * u in
      let v : ℕ = u + units_of K r in
      links_more (λ (z : unit_bytes * u ≡ 0). omega arith) (row_facts s a r rs v g x n (omega (arith, size_units K F (length r.bits))))
      (subst (λ (k : ℕ). among k met ≡ false) (sym x.label) m)
      (subst (λ (k : ℕ). Links K s (unit_bytes * next_at s a) (k ∷ met) (places K v rs)) (sym x.label)
      (subst (λ (k : ℕ). Links K s (unit_bytes * k) (r.label ∷ met) (places K v rs)) (sym n) (stand_links y k (omega arith))))

  -- each row stands at its place
  stand_each : {s : List ℕ} {u : ℕ} {rs : List Labelled} → Stand K s u rs → (d : Labelled) (i : ℕ) → i < length rs
      → RowAt K s (get_or (places K u rs) i 0) (get_or rs i d)
  unfolding places
  stand_each stand_end d i l = absurd (omega arith)
  stand_each (stand_more x n y) d zero l = x
  stand_each (stand_more x n y) d (suc i) l = stand_each y d i (omega arith)

  -- as many places as rows
  pub length_places : (u : ℕ) (rs : List Labelled) → length (places K u rs) ≡ length rs
  unfolding places
  length_places u [] = refl
  length_places u (r ∷ rs) = ap suc (length_places (u + units_of K r) rs)

  -- the places of one list, then of another
  pub places_append : (u : ℕ) (xs ys : List Labelled) → places K u (xs ++ ys) ≡ places K u xs ++ places K (u + sizes_of K xs / unit_bytes) ys
  unfolding places sizes_of
  places_append u [] ys = let e : u ≡ u + 0 / unit_bytes = omega arith in ap (λ (k : ℕ). places K k ys) e
  places_append u (x ∷ xs) ys =
      let e : u + units_of K x + sizes_of K xs / unit_bytes ≡ u + (size_of K (length x.bits) + sizes_of K xs) / unit_bytes =
      omega (arith, size_units K F (length x.bits)) in
      ap (λ (l : List ℕ). unit_bytes * u ∷ l)
      (places_append (u + units_of K x) xs ys ∙ ap (λ (k : ℕ). places K (u + units_of K x) xs ++ places K k ys) e)

  -- the last row's place
  pub places_last : (u : ℕ) (rs : List Labelled) (r : Labelled) → places K u (rs ++ (r ∷ [])) ≡ places K u rs ++ ((unit_bytes * u + sizes_of K rs) ∷ [])
  unfolding places
  places_last u rs r =
      let e : unit_bytes * (u + sizes_of K rs / unit_bytes) ≡ unit_bytes * u + sizes_of K rs = omega (arith, sizes_units rs) in
      places_append u rs (r ∷ []) ∙ ap (λ (a : ℕ). places K u rs ++ (a ∷ [])) e

  -- rows that stand end after their sizes
  stand_ends : {s : List ℕ} {u : ℕ} {rs : List Labelled} → Stand K s u rs → 0 < length rs → chain_end K s (places K u rs) ≡ unit_bytes * u + sizes_of K rs
  unfolding places chain_end sizes_of
  stand_ends stand_end l = absurd (omega arith)
  stand_ends {s} (stand_more {u} x n stand_end) l = ap (λ (k : ℕ). unit_bytes * u + size_of K k) x.size ∙ omega arith
  stand_ends {s} (stand_more {u} {r} x n (stand_more y m k)) l = stand_ends (stand_more y m k) (omega arith) ∙ omega (arith, size_units K F (length r.bits))

  -- the record of a label and the row of that label
  stand_paired : {s : List ℕ} {u : ℕ} {rs : List Labelled} → Stand K s u rs → (label : ℕ) → Paired K s (place_of s label (places K u rs)) (row_of label rs)
  unfolding places place_of row_of
  stand_paired stand_end label = neither
  stand_paired {s} (stand_more {u} {r} {rs} x n y) label =
      let v : ℕ = u + units_of K r in
      subst
      (λ (k : ℕ). Paired K s (cond (eqb k label) (some (unit_bytes * u)) (place_of s label (places K v rs)))
      (cond (eqb r.label label) (some r) (row_of label rs)))
      (sym x.label) (go (eqb r.label label) (stand_paired y label))
    where
      go : {o : Option ℕ} {p : Option Labelled} (t : Bool) → Paired K s o p → Paired K s (cond t (some (unit_bytes * u)) o) (cond t (some r) p)
      go true k = both x
      go false k = k

  -- a record that is found in an image of this kind is read by its label
  row_with : (s : List ℕ) (label : ℕ) (r : Labelled) (a : ℕ) → kind_of s ≡ K → record_with s label ≡ some a → RowAt K s a r → RowWith K s label r
  row_with s label r a kind e x =
      let part : row_part s label ≡ part_at K s a = ap₂ (λ (j : Kind) (o : Option ℕ). part_at j s (place_in 0 o)) kind e in
      let size : row_length s label ≡ length r.bits = ap (λ (o : Option ℕ). length_at s (place_in 0 o)) e ∙ x.size in
      record {
        place = a;
        found = e;
        its = place_found s label (records_of s) a e;
        row = x;
        size = size;
        bits = ap (λ (j : Kind). row_bits j (row_part s label) (row_length s label)) kind ∙ ap₂ (row_bits K) part size ∙ x.bits;
        right =
            subst (λ (j : Kind). Right j (row_part s label) (row_length s label)) (sym kind)
            (subst (λ (l : List ℕ). Right K l (row_length s label)) (sym part) (subst (λ (n : ℕ). Right K (part_at K s a) n) (sym size) x.right));
      }

  -- ---- rows written out over a base
  -- the numbers of a header, and what follows it
  header_read : (s rest : List ℕ) (first : ℕ) → K.number < 2 ^ 32 → first < 2 ^ 32 → s ≡ header_of K first ++ rest
      → (num s 0 4 ≡ first) × (num s 4 4 ≡ K.number) × (num s 8 8 ≡ 0) × (drop unit_bytes s ≡ rest)
  header_read s rest first small h e =
      let r0 : drop 0 s ≡ le 4 first ++ (le 4 K.number ++ (le 8 0 ++ rest)) = e ∙ simp append_assoc in
      let r4 : drop 4 s ≡ le 4 K.number ++ (le 8 0 ++ rest) = piece_after s (le 4 first) (le 4 K.number ++ (le 8 0 ++ rest)) 0 4 4 (length_le 4 first) r0
      refl in
      let r8 : drop 8 s ≡ le 8 0 ++ rest = piece_after s (le 4 K.number) (le 8 0 ++ rest) 4 4 8 (length_le 4 K.number) r4 refl in (
        piece_small s (le 4 K.number ++ (le 8 0 ++ rest)) 0 4 first h r0,
        piece_small s (le 8 0 ++ rest) 4 4 K.number small r4,
        piece_small s rest 8 8 0 (omega arith) r8,
        piece_after s (le 8 0) rest 8 8 unit_bytes (length_le 8 0) r8 refl,
      )

  module _ (N : KindNamed K) (rs : List Labelled) (base : List ℕ) (g : Good K rs base) where
    -- the image, and the bytes after the records
    abbrev image : List ℕ
    image = written K rs base

    abbrev over : List ℕ
    over = drop (length (image_of K rs)) base

    -- its length
    pub written_length : length image ≡ length base
    written_length = length_written rs base g.inside

    -- its header
    header_is : (num image 0 4 ≡ index_for 1 rs) × (num image 4 4 ≡ K.number) × (num image 8 8 ≡ 0) × (drop unit_bytes image ≡ records_from K 1 rs ++ over)
    unfolding image_of
    header_is =
        header_read image (records_from K 1 rs ++ over) (index_for 1 rs) N.small (omega (arith, index_le 1 rs))
        (append_assoc (header_of K (index_for 1 rs)) (records_from K 1 rs) over)

    -- its kind
    pub written_kind : kind_of image ≡ K
    written_kind = named_kind K N image header_is.1

    -- its rows
    stands : Stand K image 1 rs
    stands = stand image over 1 g.rows (subst (λ (n : ℕ). n ≤ most_bytes) (sym written_length) g.most) header_is.3

    -- its chain is sound, and has the records of the rows
    pub written_chain : chain_of image ≡ some (places K 1 rs)
    written_chain =
        links_chain image (places K 1 rs)
        (record {
          least = subst (λ (n : ℕ). unit_bytes ≤ n) (sym written_length) g.least;
          most = subst (λ (n : ℕ). n ≤ most_bytes) (sym written_length) g.most;
          kind = ap (is_kind kinds) header_is.1 ∙ N.known;
          zeros = header_is.2;
        })
        (subst (λ (k : Kind). Links k image (unit_bytes * num image 0 4) [] (places K 1 rs)) (sym written_kind)
        (subst (λ (n : ℕ). Links K image (unit_bytes * n) [] (places K 1 rs)) (sym header_is.0) (stand_links stands g.rows (omega arith))))

    -- they are its records
    pub written_records : records_of image ≡ places K 1 rs
    written_records = ap records_in written_chain

    -- row i stands at its place
    pub written_row : (d : Labelled) (i : ℕ) → i < length rs → RowAt K image (get_or (places K 1 rs) i 0) (get_or rs i d)
    written_row = stand_each stands

    -- the records end where the rows written out do
    pub written_end : chain_end (kind_of image) image (places K 1 rs) ≡ length (image_of K rs)
    unfolding chain_end places sizes_of
    written_end = ap (λ (k : Kind). chain_end k image (places K 1 rs)) written_kind ∙ go rs stands ∙ sym (length_image rs)
      where
        go : (qs : List Labelled) → Stand K image 1 qs → chain_end K image (places K 1 qs) ≡ unit_bytes + sizes_of K qs
        go [] k = refl
        go (q ∷ qs) k = stand_ends k (omega arith)

    -- the record of a label and the row of that label
    paired : (label : ℕ) → Paired K image (record_with image label) (row_of label rs)
    paired label = subst (λ (bs : List ℕ). Paired K image (place_of image label bs) (row_of label rs)) (sym written_records) (stand_paired stands label)

    -- a label has a record exactly where it has a row
    pub written_known : (label : ℕ) → is_some (record_with image label) ≡ is_some (row_of label rs)
    written_known label = go (paired label)
      where
        go : {o : Option ℕ} {p : Option Labelled} → Paired K image o p → is_some o ≡ is_some p
        go neither = refl
        go (both x) = refl

    -- a row, by its label
    pub written_with : (label : ℕ) (r : Labelled) → row_of label rs ≡ some r → RowWith K image label r
    written_with label r e = go (record_with image label) (row_of label rs) refl e (paired label)
      where
        go : (o : Option ℕ) (p : Option Labelled) → record_with image label ≡ o → p ≡ some r → Paired K image o p → RowWith K image label r
        go none none d e neither = let z : ◌≡◌ {A = ℕ} 0 1 = cc in absurd (omega arith)
        go none (some q) d e x6 = elim x6 [ ]
        go (some a) none d e x5 = elim x5 [ ]
        go (some a) (some q) d e (both x) = let z : q ≡ r = cc in row_with image label r a written_kind d (subst (RowAt K image a) z x)

  -- the index that ends the chain is in the last record, which starts where the rows before it end
  pub link_more : (rs : List Labelled) (r : Labelled) → link_of (places K 1 (rs ++ (r ∷ []))) ≡ length (image_of K rs)
  link_more rs r = ap link_of (places_last 1 rs r) ∙ link_last (places K 1 rs) (unit_bytes * 1 + sizes_of K rs) ∙ sym (length_image rs)

  -- ---- one row more
  -- the records of one list, then of another
  records_append : (u : ℕ) (xs : List Labelled) (y : Labelled) (ys : List Labelled)
      → records_from K u (xs ++ (y ∷ ys)) ≡ joined K u xs ++ records_from K (u + sizes_of K xs / unit_bytes) (y ∷ ys)
  unfolding records_from joined sizes_of
  records_append u [] y ys = let e : u ≡ u + 0 / unit_bytes = omega arith in ap (λ (k : ℕ). records_from K k (y ∷ ys)) e
  records_append u (x ∷ xs) y ys =
      let v : ℕ = u + units_of K x in
      let own : List ℕ = record_of K v x.label x.bits in
      let e : v + sizes_of K xs / unit_bytes ≡ u + (size_of K (length x.bits) + sizes_of K xs) / unit_bytes =
      omega (arith, size_units K F (length x.bits)) in
      ap₂ (λ (k : ℕ) (l : List ℕ). record_of K k x.label x.bits ++ l) (index_some v xs y ys)
      (records_append v xs y ys ∙ ap (λ (k : ℕ). joined K v xs ++ records_from K k (y ∷ ys)) e)
      ∙ sym (append_assoc own (joined K v xs) (records_from K (u + (size_of K (length x.bits) + sizes_of K xs) / unit_bytes) (y ∷ ys)))

  -- then that row and those after it
  written_append : (xs : List Labelled) (y : Labelled) (ys : List Labelled)
      → image_of K (xs ++ (y ∷ ys)) ≡ front_of K xs ++ records_from K (1 + sizes_of K xs / unit_bytes) (y ∷ ys)
  unfolding image_of front_of
  written_append xs y ys =
      ap₂ (λ (k : ℕ) (l : List ℕ). header_of K k ++ l) (index_some 1 xs y ys) (records_append 1 xs y ys)
      ∙ sym (append_assoc (header_of K 1) (joined K 1 xs) (records_from K (1 + sizes_of K xs / unit_bytes) (y ∷ ys)))

  -- its length
  length_front : (xs : List Labelled) (y : Labelled) → length (front_of K xs) ≡ unit_bytes + sizes_of K xs
  length_front xs y =
      omega (
        arith,
        ap length (written_append xs y []),
        length-append (front_of K xs) (records_from K (1 + sizes_of K xs / unit_bytes) (y ∷ [])),
        length_image (xs ++ (y ∷ [])),
        length_records (1 + sizes_of K xs / unit_bytes) (y ∷ []),
        sizes_append xs (y ∷ []),
      )

  -- after no row
  ending_none : (r : Labelled) → Ending K [] r
  unfolding image_of records_from sizes_of places link_of
  ending_none r =
      let own : List ℕ = record_of K 0 r.label r.bits in
      let tail : List ℕ = le 4 K.number ++ le 8 0 in
      let e : 1 ≡ length (image_of K []) / unit_bytes = omega (arith, length_image []) in
      record {
        front = [];
        back = tail;
        at = refl;
        same = append-nil (le 4 0 ++ tail);
        more =
            ap (λ (l : List ℕ). header_of K 1 ++ l) (append-nil own)
            ∙ append_assoc (le 4 1) tail own
            ∙ ap (λ (k : ℕ). le 4 k ++ (tail ++ own)) e;
      }

  -- after a last row q
  ending_last : (qs : List Labelled) (q r : Labelled) → Ending K (qs ++ (q ∷ [])) r
  unfolding records_from
  ending_last qs q r =
      let own : List ℕ = record_of K 0 r.label r.bits in
      let v : ℕ = 1 + sizes_of K qs / unit_bytes in
      let w : ℕ = v + units_of K q in
      let e : w ≡ length (image_of K (qs ++ (q ∷ []))) / unit_bytes =
      omega (arith, length_image (qs ++ (q ∷ [])), sizes_more qs q, sizes_units qs, size_units K F (length q.bits)) in
      record {
        front = front_of K qs;
        back = after_next K q;
        at = length_front qs q ∙ sym (link_more qs q ∙ length_image qs);
        same = written_append qs q [] ∙ ap (λ (l : List ℕ). front_of K qs ++ l)
            (append-nil (record_of K 0 q.label q.bits) ∙ record_front K 0 q.label q.bits 0);
        more =
            ap (image_of K) (append_assoc qs (q ∷ []) (r ∷ []))
            ∙ written_append qs q (r ∷ [])
            ∙ ap (λ (l : List ℕ). front_of K qs ++ l)
            (ap₂ (λ (x y : List ℕ). x ++ y) (record_front K 0 q.label q.bits w) (append-nil own)
            ∙ append_assoc (le 4 w) (after_next K q) own
            ∙ ap (λ (k : ℕ). le 4 k ++ (after_next K q ++ own)) e);
      }

  -- after any rows
  ending : (rs : List Labelled) (r : Labelled) → Ending K rs r
  ending rs r =
      ⊎_elim
      (λ (e : rs ≡ []). subst (λ (l : List Labelled). Ending K l r) (sym e) (ending_none r))
      (λ (k : (qs : List Labelled) × (q : Labelled) × (rs ≡ concat qs q)).
      subst (λ (l : List Labelled). Ending K l r) (sym (k.2 ∙ concat-eq-append k.0 k.1)) (ending_last k.0 k.1 r))
      (eq-nil-or-concat rs)

  -- freezing onto rows written out: the longer list written out
  pub frozen_written : KindNamed K → (rs : List Labelled) (base : List ℕ) (label : ℕ) (t : List ℕ)
      → Good K (rs ++ (record { label = label; bits = t } ∷ [])) base
      → frozen (written K rs base) label t ≡ written K (rs ++ (record { label = label; bits = t } ∷ [])) base
  frozen_written N rs base label t g =
      let r : Labelled = record { label = label; bits = t } in
      let f : Good K rs base = good_less rs r base g in
      let k : Ending K rs r = ending rs r in
      let n : ℕ = length (image_of K rs) in
      let ds : List ℕ = drop n base in
      let own : List ℕ = record_of K 0 label t in
      let s : List ℕ = written K rs base in
      let long : length (image_of K (rs ++ (r ∷ []))) ≡ n + length own =
      omega (arith, length_image rs, length_image (rs ++ (r ∷ [])), sizes_more rs r, record_length K 0 label t) in
      ap₂ (λ (j : Kind) (bs : List ℕ). sets (sets s (link_of bs) (le 4 (chain_end (kind_of s) s bs / unit_bytes))) (chain_end (kind_of s) s bs)
      (record_of j 0 label t))
      (written_kind N rs base f) (written_records N rs base f)
      ∙ ap (λ (e : ℕ). sets (sets s (link_of (places K 1 rs)) (le 4 (e / unit_bytes))) e own) (written_end N rs base f)
      ∙ ap (λ (l : List ℕ). sets (sets (l ++ ds) (link_of (places K 1 rs)) (le 4 (n / unit_bytes))) n own) k.same
      ∙ two_stores k.front (le 4 0) (le 4 (n / unit_bytes)) k.back ds own (link_of (places K 1 rs)) n
      (length_le 4 0 ∙ sym (length_le 4 (n / unit_bytes))) k.at (ap length (sym k.same))
      (omega (arith, g.inside, long, length-drop n base))
      ∙ ap₂ (λ (x y : List ℕ). x ++ y) (sym k.more) (drop-drop (length own) n base ∙ ap (λ (i : ℕ). drop i base) (sym long))

  -- an accepted freeze onto rows written out answers the unit where they end, and leaves the longer list written out
  pub freeze_written : KindNamed K → (h : Handle) (ws : List ℕ) (rs : List Labelled) (base : List ℕ) (label : ℕ) → Good K rs base
      → judge (freeze_table h (length ws) (written K rs base) label) ≡ none
      → Good K (rs ++ (record { label = label; bits = strip_of ws h.length } ∷ [])) base
      × (freeze_outcome h ws (written K rs base) label
      ≡ image_outcome (value (length (image_of K rs) / unit_bytes)) (written K (rs ++ (record { label = label; bits = strip_of ws h.length } ∷ [])) base))
  freeze_written N h ws rs base label g e =
      let s : List ℕ = written K rs base in
      let t : List ℕ = strip_of ws h.length in
      let f = freezing h (length ws) s label e in
      let n = strip_length ws h.length in
      let kind : kind_of s ≡ K = written_kind N rs base g in
      let end : chain_end (kind_of s) s (records_of s) ≡ length (image_of K rs) = ap (chain_end (kind_of s) s) (written_records N rs base g) ∙ written_end N rs base
      g in
      let more : Good K (rs ++ (record { label = label; bits = t } ∷ [])) base =
      good_more rs (record { label = label; bits = t }) base g
      (record { low = f.low; high = f.high; bits = strip_le ws h.length; short = omega (arith, n, f.strip.long, f.strip.most) })
      (none_in (row_of label rs) (sym (written_known N rs base g label) ∙ ap is_some f.absent))
      (omega (arith, f.room, end, length_image rs, written_length N rs base g, ap₂ size_of kind (sym n))) in (
        more,
        ap (λ (o : Option ℕ). unless o (λ k. image_outcome (refused k) s)
            (image_outcome (value (chain_end (kind_of s) s (records_of s) / unit_bytes)) (frozen s label t))) e
            ∙ ap₂ (λ (x : ℕ) (u : List ℕ). image_outcome (value (x / unit_bytes)) u) end (frozen_written N rs base label t more),
      )

  -- a row written out gives its bits back
  pub written_gives : KindNamed K → (rs : List Labelled) (base : List ℕ) → Good K rs base → (label : ℕ) (r : Labelled) → row_of label rs ≡ some r
      → GivesBack (written K rs base) label r.bits
  written_gives N rs base g label r e =
      let w = written_with N rs base g label r e in
      let p = (found_placed (written K rs base) (records_of (written K rs base)) label w.place (chain_facts _ _ (written_chained rs base g)) w.its).facts in
      gives_back (written K rs base) label r.bits
      (open_passes (written K rs base) label (places K 1 rs) w.place (written_chain N rs base g)
      (label_good label (omega (arith, w.its.its, p.low)) (omega (arith, w.its.its, p.high))) w.found)
      w.size w.bits w.right
    where
      written_chained : (rs : List Labelled) (base : List ℕ) → Good K rs base → chain_of (written K rs base) ≡ some (records_of (written K rs base))
      written_chained rs base g = written_chain N rs base g ∙ ap some (sym (written_records N rs base g))
