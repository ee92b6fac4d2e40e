-- Right records: two compared, one copied, and records written one after another up to where a chain ends. Assumes nothing.
use mathlib.Core.Path.{◌≡◌, refl, sym, ap, ap₂, ◌∙◌, subst}
use mathlib.Core.Bool.{Bool, true, false}
use mathlib.Core.List.{List, [], ◌∷◌, ◌++◌, append_assoc, append-nil}
use Prim.Native.Nat.{ℕ, ◌+◌, ◌-◌, ◌*◌, ◌/◌, ◌≤◌}
use native.Mathlib.Omega.{arith}
use lib.ListN.{length, take, drop, length-append, length-drop}
use lib.Seq.{sets, drop_at, take_all}
use borrow.Author.Tests.{eq-eqb, ne_eqb}
use Rattle.words.specs.Bits.{same}
use Rattle.words.proofs.SameLaws.{same_eq, same_refl}
use Rattle.image.specs.Bytes.{le}
use Rattle.image.specs.Kinds.{Kind}
use Rattle.image.specs.Layout.{unit_bytes, size_of, record_of}
use Rattle.image.specs.Chain.{kind_of, header_of, next_at, label_at, length_at}
use Rattle.image.specs.Rows.{part_at, row_bits, Right}
use Rattle.image.specs.Shelf.{Labelled, units_of, index_for, records_from, image_of, written, sizes_of}
use Rattle.image.proofs.KindLaws.{KindFits, size_units}
use Rattle.image.proofs.ChainLaws.{decides}
use Rattle.image.proofs.PutLaws.{length_le, num_ext, sets_join, sets_front}
use Rattle.image.proofs.WriteLaws.{length_header, record_heads, record_length}
use Rattle.image.proofs.RowLaws.{part_size, part_holds}
use Rattle.image.proofs.RoundTripLaws.{byte_kept, bits_kept}
use Rattle.image.proofs.ShelfLaws.{sizes_append, length_image}
use Rattle.merging.specs.Merged.{row_at}
use Rattle.merging.specs.Working.{RightRecord, next_to, records_to, Copied}
use Rattle.merging.proofs.RowsLaws.{bits_length}

-- ---- two rows
-- the records of the same bits are the same from the length on
same_rest : (K : Kind) (x l y m : ℕ) (t : List ℕ) → drop 8 (record_of K x l t) ≡ drop 8 (record_of K y m t)
same_rest K x l y m t =
    let rest : List ℕ = drop 8 (record_of K y m t) in
    ap (drop 8) (record_heads K y m t x l ∙ sym (append_assoc (le 4 x) (le 4 l) rest))
    ∙ drop_at (le 4 x ++ le 4 l) rest 8 (length-append (le 4 x) (le 4 l) ∙ ap₂ ◌+◌ (length_le 4 x) (length_le 4 l))

-- the row of a right record by its part
module _ (K : Kind) (s : List ℕ) (a : ℕ) (f : RightRecord s a) (kind : kind_of s ≡ K) (part : List ℕ) (p : part ≡ part_at (kind_of s) s a) where
  -- its size
  pub part_whole : length part ≡ size_of K (length_at s a)
  part_whole = ap length p ∙ part_size (kind_of s) s a f.inside ∙ ap (λ (j : Kind). size_of j (length_at s a)) kind

  -- its length
  part_says : length_at part 0 ≡ length_at s a
  part_says = ap (λ (l : List ℕ). length_at l 0) p ∙ part_holds (kind_of s) s a

  -- its bits
  part_row : row_bits K part (length_at s a) ≡ (row_at s a).bits
  part_row = ap₂ (λ (j : Kind) (l : List ℕ). row_bits j l (length_at s a)) (sym kind) p

  -- it is right
  part_right : Right K part (length_at s a)
  part_right = subst (λ (j : Kind). Right j part (length_at s a)) kind (subst (λ (l : List ℕ). Right (kind_of s) l (length_at s a)) (sym p) f.right)

  -- with any next index and label it is the record of the row's bits
  part_again : (x l : ℕ) → record_of K x l (row_at s a).bits ≡ le 4 x ++ (le 4 l ++ drop 8 part)
  part_again x l =
      let t : List ℕ = row_bits K part (length_at s a) in
      ap (record_of K x l) (sym part_row)
      ∙ record_heads K (next_at part 0) (label_at part 0) t x l
      ∙ ap (λ (z : List ℕ). le 4 x ++ (le 4 l ++ drop 8 z)) (sym part_right)

-- ---- records one after another
module _ (K : Kind) (F : KindFits K) where
  -- they have their sizes
  to_length : (end at : ℕ) (rs : List Labelled) → length (records_to K at end rs) ≡ sizes_of K rs
  unfolding records_to sizes_of
  to_length end at [] = refl
  to_length end at (r ∷ rs) =
      let after : ℕ = at + size_of K (length r.bits) in
      length-append (record_of K (next_to after end) r.label r.bits) (records_to K after end rs)
      ∙ ap₂ ◌+◌ (record_length K (next_to after end) r.label r.bits) (to_length end after rs)

  -- those of one list, then of another
  to_append : (end at : ℕ) (xs ys : List Labelled) → records_to K at end (xs ++ ys) ≡ records_to K at end xs ++ records_to K (at + sizes_of K xs) end ys
  unfolding records_to sizes_of
  to_append end at [] ys = let z : at ≡ at + 0 = omega arith in ap (λ (x : ℕ). records_to K x end ys) z
  to_append end at (r ∷ xs) ys =
      let after : ℕ = at + size_of K (length r.bits) in
      let own : List ℕ = record_of K (next_to after end) r.label r.bits in
      let z : after + sizes_of K xs ≡ at + (size_of K (length r.bits) + sizes_of K xs) = omega arith in
      ap (λ (l : List ℕ). own ++ l) (to_append end after xs ys ∙ ap (λ (x : ℕ). records_to K after end xs ++ records_to K x end ys) z)
      ∙ sym (append_assoc own (records_to K after end xs) (records_to K (at + (size_of K (length r.bits) + sizes_of K xs)) end ys))

  -- the index of what follows
  next_follows : (end u : ℕ) (rs : List Labelled) → end ≡ unit_bytes * u + sizes_of K rs → next_to (unit_bytes * u) end ≡ index_for u rs
  unfolding sizes_of
  next_follows end u [] e = simp (eq-eqb (unit_bytes * u) end (omega arith))
  next_follows end u (r ∷ rs) e = simp (ne_eqb (unit_bytes * u) end (λ z. omega arith)) (omega arith)

  -- in a chain that ends with them they are the records of the rows
  to_from : (end u : ℕ) (rs : List Labelled) → end ≡ unit_bytes * u + sizes_of K rs → records_to K (unit_bytes * u) end rs ≡ records_from K u rs
  unfolding records_to records_from sizes_of
  to_from end u [] e = refl
  to_from end u (r ∷ rs) e =
      let v : ℕ = u + units_of K r in
      let z : unit_bytes * u + size_of K (length r.bits) ≡ unit_bytes * v = omega (arith, size_units K F (length r.bits)) in
      let d : end ≡ unit_bytes * v + sizes_of K rs = omega (arith, size_units K F (length r.bits)) in
      ap (λ (x : ℕ). record_of K (next_to x end) r.label r.bits ++ records_to K x end rs) z
      ∙ ap₂ (λ (x : ℕ) (l : List ℕ). record_of K x r.label r.bits ++ l) (next_follows end v rs d) (to_from end v rs d)

  -- none copied
  pub copied_none : (s : List ℕ) (at end : ℕ) → Copied K s at end [] s at
  unfolding records_to sizes_of
  copied_none s at end = record { same = refl; ends = omega arith }

  -- more copied
  pub copied_append : {s t u : List ℕ} {at end r q : ℕ} (xs ys : List Labelled) → Copied K s at end xs t r → Copied K t r end ys u q
      → Copied K s at end (xs ++ ys) u q
  copied_append {s} {t} {u} {at} {end} {r} {q} xs ys x y =
      record {
        same =
            y.same
            ∙ ap₂ (λ (l : List ℕ) (k : ℕ). sets l k (records_to K r end ys)) x.same x.ends
            ∙ sets_join (records_to K at end xs) (records_to K r end ys) s at (at + sizes_of K xs) (ap (λ (k : ℕ). at + k) (sym (to_length end at xs)))
            ∙ ap (λ (k : ℕ). sets s at (records_to K at end xs ++ records_to K k end ys)) x.ends
            ∙ ap (sets s at) (sym (to_append end at xs ys));
        ends = omega (arith, x.ends, y.ends, sizes_append K F xs ys);
      }

  -- a header, then rows copied up to where the chain ends: the rows written out
  pub copied_written : (s t : List ℕ) {u : List ℕ} {end q : ℕ} (rs : List Labelled) → end ≡ unit_bytes + sizes_of K rs → end ≤ length s
      → t ≡ header_of K (next_to unit_bytes end) ++ drop unit_bytes s → Copied K t unit_bytes end rs u q → u ≡ written K rs s
  unfolding image_of
  copied_written s t {u} {end} {q} rs e h ht y =
      let head : List ℕ = header_of K (index_for 1 rs) in
      let first : next_to unit_bytes end ≡ index_for 1 rs = next_follows end 1 rs (omega arith) in
      let long : length head ≡ unit_bytes = length_header K (index_for 1 rs) in
      y.same
      ∙ ap₂ (λ (l z : List ℕ). sets l unit_bytes z)
      (ht ∙ ap (λ (x : ℕ). header_of K x ++ drop unit_bytes s) first
      ∙ ap (λ (x : ℕ). head ++ drop x s) (sym long) ∙ sym (sets_front head s (omega (arith, long))))
      (to_from end 1 rs (omega arith))
      ∙ sets_join head (records_from K 1 rs) s 0 unit_bytes (omega (arith, long))
      ∙ sets_front (image_of K rs) s (omega (arith, length_image K F rs))

-- ---- a part from the length on
-- cut off the part
pub rest_taken : (part : List ℕ) → take (length part - 8) (drop 8 part) ≡ drop 8 part
rest_taken part = take_all (length part - 8) (drop 8 part) (omega (arith, length-drop 8 part))

-- it is of whole words
pub rest_words : (K : Kind) → KindFits K → (part : List ℕ) (n : ℕ) → length part ≡ size_of K n → length (drop 8 part) ≡ 8 * (length (drop 8 part) / 8)
rest_words K F part n e = omega (arith, size_units K F n, length-drop 8 part, e)

-- ---- a row copied
-- its new next index, its label, and the bytes of its part from the length on
pub record_copied : (K : Kind) (s : List ℕ) (a : ℕ) → RightRecord s a → kind_of s ≡ K → (part : List ℕ) → part ≡ part_at (kind_of s) s a
    → (out out1 out2 out3 : List ℕ) (at end after next label : ℕ) → after ≡ at + length part → next ≡ next_to after end → label ≡ label_at s a
    → out1 ≡ sets out at (le 4 next) → out2 ≡ sets out1 (at + 4) (le 4 label) → out3 ≡ sets out2 (at + 8) (drop 8 part)
    → Copied K out at end (row_at s a ∷ []) out3 after
unfolding records_to sizes_of
record_copied K s a f kind part p out out1 out2 out3 at end after next label ea en el e1 e2 e3 =
    let t : List ℕ = (row_at s a).bits in
    let size : length part ≡ size_of K (length t) = part_whole K s a f kind part p ∙ ap (size_of K) (sym (bits_length s a)) in
    let z : after ≡ at + size_of K (length t) = ea ∙ ap (λ (x : ℕ). at + x) size in
    record {
      same =
          e3
          ∙ ap (λ (l : List ℕ). sets l (at + 8) (drop 8 part)) (e2 ∙ ap (λ (l : List ℕ). sets l (at + 4) (le 4 label)) e1)
          ∙ ap (λ (l : List ℕ). sets l (at + 8) (drop 8 part)) (sets_join (le 4 next) (le 4 label) out at (at + 4) (omega (arith, length_le 4 next)))
          ∙ sets_join (le 4 next ++ le 4 label) (drop 8 part) out at (at + 8)
          (omega (arith, length-append (le 4 next) (le 4 label), length_le 4 next, length_le 4 label))
          ∙ ap (sets out at)
          (append_assoc (le 4 next) (le 4 label) (drop 8 part)
          ∙ sym (part_again K s a f kind part p next label)
          ∙ ap₂ (λ (x l : ℕ). record_of K x l t) (en ∙ ap (λ (x : ℕ). next_to x end) z) el
          ∙ sym (append-nil (record_of K (next_to (at + size_of K (length t)) end) (label_at s a) t)));
      ends = omega (arith, z);
    }

-- ---- two right rows
module _ (K : Kind) (s t : List ℕ) (a b : ℕ) (f : RightRecord s a) (g : RightRecord t b) (ks : kind_of s ≡ K) (kt : kind_of t ≡ K) (p q : List ℕ)
    (ep : p ≡ part_at (kind_of s) s a) (eq : q ≡ part_at (kind_of t) t b) where
  -- equal rows have equal bytes from the length on
  rest_equal : (row_at s a).bits ≡ (row_at t b).bits → drop 8 p ≡ drop 8 q
  rest_equal e =
      ap (drop 8) (part_right K s a f ks p ep)
      ∙ same_rest K (next_at p 0) (label_at p 0) (next_at q 0) (label_at q 0) (row_bits K p (length_at s a))
      ∙ ap (λ (l : List ℕ). drop 8 (record_of K (next_at q 0) (label_at q 0) l)) (part_row K s a f ks p ep ∙ e ∙ sym (part_row K t b g kt q eq))
      ∙ ap (drop 8) (sym (part_right K t b g kt q eq))

  -- and only they
  equal_rest : drop 8 p ≡ drop 8 q → (row_at s a).bits ≡ (row_at t b).bits
  equal_rest e =
      let long : length_at p 0 ≡ length_at q 0 = num_ext p q 8 8 4 (λ i l. byte_kept 8 q p e (8 + i) (omega arith)) in
      let n : length_at s a ≡ length_at t b = sym (part_says K s a f ks p ep) ∙ long ∙ part_says K t b g kt q eq in
      sym (part_row K s a f ks p ep) ∙ bits_kept 8 q p e (omega arith) K (length_at s a) ∙ ap (row_bits K q) n ∙ part_row K t b g kt q eq

  -- so the bytes decide
  pub rows_same : same (drop 8 p) (drop 8 q) ≡ same (row_at s a).bits (row_at t b).bits
  rows_same =
      decides (same (drop 8 p) (drop 8 q)) (same (row_at s a).bits (row_at t b).bits) (same_eq _ _) (λ e. ap (same (drop 8 p)) (sym e) ∙ same_refl _)
      (λ h. rest_equal (same_eq _ _ h)) (λ e. ap (same (row_at s a).bits) (sym (equal_rest e)) ∙ same_refl _)

  -- parts of unequal sizes have unequal rows
  pub rows_unequal : (length q ≡ length p → ⊥) → false ≡ same (row_at s a).bits (row_at t b).bits
  rows_unequal n = go (same (row_at s a).bits (row_at t b).bits) refl
    where
      go : (u : Bool) → same (row_at s a).bits (row_at t b).bits ≡ u → false ≡ u
      go true h =
          let e : length_at s a ≡ length_at t b = sym (bits_length s a) ∙ ap length (same_eq _ _ h) ∙ bits_length t b in
          absurd (n (part_whole K t b g kt q eq ∙ ap (size_of K) (sym e) ∙ sym (part_whole K s a f ks p ep)))
      go false h = refl
