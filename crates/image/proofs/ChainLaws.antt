-- The laws of the header, of records and of a sound chain. Assumes nothing.
use mathlib.Core.Path.{◌≡◌, refl, sym, ap, subst, ◌∙◌}
use mathlib.Core.Bool.{Bool, true, false, cond, not, ◌&&◌, ◌||◌, true≢false, false≢true}
use mathlib.Core.List.{List, [], ◌∷◌, ◌++◌}
use mathlib.Core.Option.{Option, some, none}
use Prim.Native.Nat.{ℕ, zero, suc, ◌+◌, ◌*◌, ◌%◌, ◌<◌, ◌≤◌}
use native.Mathlib.Omega.{arith}
use lib.ListN.{length, get_or}
use lib.Dec.{leb, eqb}
use borrow.Author.Tests.{le-leb, eq-eqb, ne_eqb, leb-true, eqb-true, eqb-false}
use Rattle.words.specs.Strip.{or_else}
use Rattle.words.specs.Words.{place_in}
use Rattle.words.specs.declared.refusal.Refusal.{Refusal}
use Rattle.std.specs.Prelude.{Result, Ok, Err}
use Rattle.words.specs.Refusals.{number_of, judge, unless, value, refused, told_of}
use Rattle.words.proofs.BoolLaws.{and_first, and_second, not_not, or_none}
use Rattle.words.proofs.CheckLaws.{passes}
use Rattle.image.specs.Bytes.{num}
use Rattle.image.specs.Kinds.{Kind, kinds, is_kind}
use Rattle.image.specs.Layout.{unit_bytes, head_bytes, most_bytes, most_label, most_row}
use Rattle.image.specs.Chain.{kind_of, next_at, label_at, length_at, end_at, good_label, good_fields, good_size, sound_header, sound_record, among, in_front, chain_from, chain_of, place_of, chain_end, link_of}
use Rattle.image.specs.Calls.{is_some, records_in, records_of, record_with, row_place, open_table, open_told}
use Rattle.image.proofs.KindLaws.{KindFits, size_units, image_fits}

-- ---- the header and a record
-- a test that holds exactly where the facts do
pub decides : {F : Type 0} (t u : Bool) → (t ≡ true → F) → (F → t ≡ true) → (u ≡ true → F) → (F → u ≡ true) → t ≡ u
decides true true a b c d = refl
decides true false a b c d = sym (d (a refl))
decides false true a b c d = b (c refl)
decides false false a b c d = refl

-- values of two constructors are not one
pub no_confusion : {A : Type 0} → ◌≡◌ {A = ℕ} 0 1 → A
no_confusion z = absurd (omega arith)

-- a size is good from 16 to 2^32 bytes
pub size_good : (n : ℕ) → unit_bytes ≤ n → n ≤ most_bytes → good_size n ≡ true
size_good n p q = simp (le-leb unit_bytes n p, le-leb n most_bytes q)

pub size_facts : (n : ℕ) → good_size n ≡ true → (unit_bytes ≤ n) × (n ≤ most_bytes)
size_facts n h = (leb-true _ _ (and_first (leb unit_bytes n) (leb n most_bytes) h), leb-true _ _ (and_second (leb unit_bytes n) (leb n most_bytes) h))

-- a label is good from 1 to 64
pub label_good : (n : ℕ) → 1 ≤ n → n ≤ most_label → good_label n ≡ true
label_good n p q = simp (le-leb 1 n p, le-leb n most_label q)

pub label_facts : (n : ℕ) → good_label n ≡ true → (1 ≤ n) × (n ≤ most_label)
label_facts n h = (leb-true _ _ (and_first (leb 1 n) (leb n most_label) h), leb-true _ _ (and_second (leb 1 n) (leb n most_label) h))

-- the fields of a record are good where the label and the length are in range
pub fields_good : (s : List ℕ) (a : ℕ) → 1 ≤ label_at s a → label_at s a ≤ most_label → length_at s a ≤ most_row → good_fields s a ≡ true
fields_good s a p q r = simp (label_good (label_at s a) p q, le-leb (length_at s a) most_row r)

pub fields_facts : (s : List ℕ) (a : ℕ) → good_fields s a ≡ true → (1 ≤ label_at s a) × (label_at s a ≤ most_label) × (length_at s a ≤ most_row)
fields_facts s a h =
    let l = label_facts (label_at s a) (and_first (good_label (label_at s a)) _ h) in
    (l.0, l.1, leb-true _ _ (and_second (good_label (label_at s a)) (leb (length_at s a) most_row) h))

-- what a sound header is known for
pub record HeaderFacts (s : List ℕ) : Type 0 where
  pub least : unit_bytes ≤ length s
  pub most : length s ≤ most_bytes
  pub kind : is_kind kinds (num s 4 4) ≡ true
  pub zeros : num s 8 8 ≡ 0

-- a sound header has the facts
pub header_facts : (s : List ℕ) → sound_header s ≡ true → HeaderFacts s
unfolding sound_header
header_facts s h =
    let h1 = size_facts (length s) (and_first (good_size (length s)) _ h) in
    let h2 = and_second (good_size (length s)) _ h in
    record {
      least = h1.0;
      most = h1.1;
      kind = and_first (is_kind kinds (num s 4 4)) _ h2;
      zeros = eqb-true _ _ (and_second (is_kind kinds (num s 4 4)) _ h2);
    }

-- and the facts make it sound
pub header_sound : (s : List ℕ) → HeaderFacts s → sound_header s ≡ true
unfolding sound_header
header_sound s f = simp (size_good (length s) f.least f.most, f.kind, eq-eqb _ _ f.zeros)

-- what a sound record is known for
pub record RecordFacts (K : Kind) (s : List ℕ) (a : ℕ) : Type 0 where
  pub room : a + head_bytes ≤ length s
  pub low : 1 ≤ label_at s a
  pub high : label_at s a ≤ most_label
  pub short : length_at s a ≤ most_row
  pub inside : end_at K s a ≤ length s
  pub ahead : (next_at s a ≡ 0 → ⊥) → end_at K s a ≤ unit_bytes * next_at s a

-- x, or else y
or_second : (x y : Bool) → x ≡ false → (x || y) ≡ true → y ≡ true
or_second true y h i = absurd (true≢false h)
or_second false y h i = i

-- a sound record has the facts
pub record_facts : (K : Kind) (s : List ℕ) (a : ℕ) → sound_record K s a ≡ true → RecordFacts K s a
unfolding sound_record
record_facts K s a h =
    let h1 = and_second (leb (a + head_bytes) (length s)) _ h in
    let h2 = and_second (good_fields s a) _ h1 in
    let f = fields_facts s a (and_first (good_fields s a) _ h1) in
    record {
      room = leb-true _ _ (and_first (leb (a + head_bytes) (length s)) _ h);
      low = f.0;
      high = f.1;
      short = f.2;
      inside = leb-true _ _ (and_first (leb (end_at K s a) (length s)) _ h2);
      ahead = λ n. leb-true _ _ (or_second (eqb (next_at s a) 0) _ (ne_eqb _ _ n) (and_second (leb (end_at K s a) (length s)) _ h2));
    }

-- and the facts make it sound
pub record_sound : (K : Kind) (s : List ℕ) (a : ℕ) → RecordFacts K s a → sound_record K s a ≡ true
unfolding sound_record
record_sound K s a f =
    simp (le-leb _ _ f.room, fields_good s a f.low f.high f.short, le-leb _ _ f.inside) (go (eqb (next_at s a) 0) refl)
  where
    go : (t : Bool) → eqb (next_at s a) 0 ≡ t → (t || leb (end_at K s a) (unit_bytes * next_at s a)) ≡ true
    go true p = refl
    go false p = le-leb _ _ (f.ahead (eqb-false _ _ p))

-- a flag that tells the facts is the test
pub tells_header : (s : List ℕ) (t : Bool) → (t ≡ true → HeaderFacts s) → (HeaderFacts s → t ≡ true) → t ≡ sound_header s
tells_header s t p q = decides t (sound_header s) p q (header_facts s) (header_sound s)

pub tells_record : (K : Kind) (s : List ℕ) (a : ℕ) (t : Bool) → (t ≡ true → RecordFacts K s a) → (RecordFacts K s a → t ≡ true) → t ≡ sound_record K s a
tells_record K s a t p q = decides t (sound_record K s a) p q (record_facts K s a) (record_sound K s a)

-- one fact that fails
pub no_header : (s : List ℕ) → (HeaderFacts s → ⊥) → false ≡ sound_header s
no_header s n = tells_header s false (λ e. absurd (false≢true e)) (λ f. absurd (n f))

pub no_record : (K : Kind) (s : List ℕ) (a : ℕ) → (RecordFacts K s a → ⊥) → false ≡ sound_record K s a
no_record K s a n = tells_record K s a false (λ e. absurd (false≢true e)) (λ f. absurd (n f))

-- ---- the walk of a chain
-- the records from byte a on, where byte 0 ends the chain
abbrev pub rest_from : Kind → ℕ → List ℕ → ℕ → List ℕ → Option (List ℕ)
rest_from K steps s a met = cond (eqb a 0) (some []) (chain_from K steps s a met)

-- the end
pub rest_end : (K : Kind) (steps : ℕ) (s : List ℕ) (a : ℕ) (met : List ℕ) → a ≡ 0 → rest_from K steps s a met ≡ some []
rest_end K steps s a met z = simp (eq-eqb _ _ z)

-- a record that is not sound, or whose label was met
pub rest_unsound : (K : Kind) (steps : ℕ) (s : List ℕ) (a : ℕ) (met : List ℕ) → (a ≡ 0 → ⊥) → (sound_record K s a && not (among (label_at s a) met)) ≡ false
    → rest_from K steps s a met ≡ none
unfolding chain_from
rest_unsound K zero s a met n h = simp (ne_eqb _ _ n, chain_from)
rest_unsound K (suc steps) s a met n h = simp (ne_eqb _ _ n, h, chain_from)

-- no steps are left
rest_zero : (K : Kind) (s : List ℕ) (a : ℕ) (met : List ℕ) → (a ≡ 0 → ⊥) → rest_from K zero s a met ≡ none
unfolding chain_from
rest_zero K s a met n = simp (ne_eqb _ _ n, chain_from)

-- the index zero is byte 0
units_zero : (x : ℕ) → eqb (unit_bytes * x) 0 ≡ eqb x 0
units_zero x = go (eqb x 0) refl
  where
    go : (t : Bool) → eqb x 0 ≡ t → eqb (unit_bytes * x) 0 ≡ t
    go true p = eq-eqb (unit_bytes * x) 0 (omega (arith, eqb-true x 0 p))
    go false p = ne_eqb (unit_bytes * x) 0 (λ z. eqb-false x 0 p (omega arith))

-- one record more
pub rest_more : (K : Kind) (steps : ℕ) (s : List ℕ) (a : ℕ) (met : List ℕ) → (a ≡ 0 → ⊥) → sound_record K s a ≡ true → among (label_at s a) met ≡ false
    → rest_from K (suc steps) s a met ≡ in_front a (rest_from K steps s (unit_bytes * next_at s a) (label_at s a ∷ met))
unfolding chain_from
rest_more K steps s a met n h i = simp (ne_eqb _ _ n, h, i, units_zero, chain_from) (go (eqb (next_at s a) 0) _)
  where
    go : (t : Bool) (o : Option (List ℕ)) → elim t [ true ↦ some (a ∷ []) | false ↦ in_front a o ] ≡ in_front a (cond t (some []) o)
    go true o = refl
    go false o = refl

-- a chain whose header is not sound
pub chain_unsound : (s : List ℕ) → sound_header s ≡ false → chain_of s ≡ none
unfolding chain_of
chain_unsound s h = simp (h, chain_of)

-- a chain whose header is sound
pub chain_rest : (s : List ℕ) → sound_header s ≡ true → chain_of s ≡ rest_from (kind_of s) (length s) s (unit_bytes * num s 0 4) []
unfolding chain_of
chain_rest s h = simp (h, units_zero, chain_of) (go (eqb (num s 0 4) 0) _)
  where
    go : (t : Bool) (o : Option (List ℕ)) → elim t [ true ↦ some [] | false ↦ o ] ≡ cond t (some []) o
    go true o = refl
    go false o = refl

-- the records of a chain that stands at byte a, where the labels in `met` were met before
pub data Links (K : Kind) (s : List ℕ) : ℕ → List ℕ → List ℕ → Type 0 where
  links_end : {met : List ℕ} → Links K s 0 met []
  links_more : {a : ℕ} {met bs : List ℕ} → (a ≡ 0 → ⊥) → RecordFacts K s a → among (label_at s a) met ≡ false
      → Links K s (unit_bytes * next_at s a) (label_at s a ∷ met) bs → Links K s a met (a ∷ bs)

-- what a record in front leaves
front_some : (a : ℕ) (o : Option (List ℕ)) (rs : List ℕ) → in_front a o ≡ some rs → (bs : List ℕ) × (o ≡ some bs) × (rs ≡ a ∷ bs)
front_some a none rs e = no_confusion cc
front_some a (some bs) rs e = (bs, refl, cc)

-- nothing is not something
pub none_some : {B : Type 0} {A : Type 0} {o : Option A} {x : A} → o ≡ none → o ≡ some x → B
none_some p q = no_confusion cc

-- at byte 0 the chain has ended
at_end : (K : Kind) (steps : ℕ) (s : List ℕ) (a : ℕ) (met rs : List ℕ) → rest_from K steps s a met ≡ some rs → ((a ≡ 0 → ⊥) → Links K s a met rs)
    → Links K s a met rs
at_end K steps s a met rs e go_on = go (eqb a 0) refl
  where
    go : (t : Bool) → eqb a 0 ≡ t → Links K s a met rs
    go true p =
        let z : a ≡ 0 = eqb-true _ _ p in
        let r : rs ≡ [] = cc (rest_end K steps s a met z) in
        rw (z, r) links_end
    go false p = go_on (eqb-false _ _ p)

-- a walk that ends does not stop
pub not_stopped : (K : Kind) (steps : ℕ) (s : List ℕ) (a : ℕ) (met rs : List ℕ) → rest_from K steps s a met ≡ some rs → (a ≡ 0 → ⊥)
    → (sound_record K s a ≡ true) × (among (label_at s a) met ≡ false)
not_stopped K steps s a met rs e n = go (sound_record K s a) (among (label_at s a) met) refl refl
  where
    go : (t u : Bool) → sound_record K s a ≡ t → among (label_at s a) met ≡ u → (sound_record K s a ≡ true) × (among (label_at s a) met ≡ false)
    go true false p q = (p, q)
    go true true p q = none_some (rest_unsound K steps s a met n (simp (p, q))) e
    go false u p q = none_some (rest_unsound K steps s a met n (simp p)) e

-- a walk that ends has such records
rest_links : (K : Kind) (steps : ℕ) (s : List ℕ) (a : ℕ) (met rs : List ℕ) → rest_from K steps s a met ≡ some rs → Links K s a met rs
rest_links K zero s a met rs e = at_end K zero s a met rs e (λ n. none_some (rest_zero K s a met n) e)
rest_links K (suc k) s a met rs e =
    at_end K (suc k) s a met rs e (λ n.
    let q = not_stopped K (suc k) s a met rs e n in
    let f = front_some a (rest_from K k s (unit_bytes * next_at s a) (label_at s a ∷ met)) rs (sym (rest_more K k s a met n q.0 q.1) ∙ e) in
    rw f.2 (links_more n (record_facts K s a q.0) q.1 (rest_links K k s (unit_bytes * next_at s a) (label_at s a ∷ met) f.0 f.1)))

-- and such records make a walk that ends, with steps enough
links_rest : {K : Kind} {s : List ℕ} {a : ℕ} {met rs : List ℕ} (steps : ℕ) → Links K s a met rs → ((a ≡ 0 → ⊥) → length s < a + steps)
    → rest_from K steps s a met ≡ some rs
links_rest {K} {s} {a} {met} steps links_end enough = rest_end K steps s 0 met refl
links_rest {K} {s} {a} {met} zero (links_more n f u l) enough = absurd (omega (arith, enough n, f.room))
links_rest {K} {s} {a} {met} (suc k) (links_more n f u l) enough =
    rest_more K k s a met n (record_sound K s a f) u
    ∙ ap (in_front a) (links_rest k l (λ m. omega (arith, enough n, f.ahead (λ z. m (omega arith)))))

-- a sound chain is a sound header and such records from the first on
pub chain_links : (s rs : List ℕ) → chain_of s ≡ some rs → HeaderFacts s × Links (kind_of s) s (unit_bytes * num s 0 4) [] rs
chain_links s rs e = go (sound_header s) refl
  where
    go : (t : Bool) → sound_header s ≡ t → HeaderFacts s × Links (kind_of s) s (unit_bytes * num s 0 4) [] rs
    go true p = (header_facts s p, rest_links (kind_of s) (length s) s (unit_bytes * num s 0 4) [] rs (sym (chain_rest s p) ∙ e))
    go false p = none_some (chain_unsound s p) e

-- and the other way round
pub links_chain : (s rs : List ℕ) → HeaderFacts s → Links (kind_of s) s (unit_bytes * num s 0 4) [] rs → chain_of s ≡ some rs
links_chain s rs h l = chain_rest s (header_sound s h) ∙ links_rest (length s) l (λ n. omega arith)

-- ---- what the records of a sound chain are known for
-- a record of a chain: sound, at a unit, past the header
pub record Placed (K : Kind) (s : List ℕ) (a : ℕ) : Type 0 where
  pub facts : RecordFacts K s a
  pub unit : a % unit_bytes ≡ 0
  pub past : unit_bytes ≤ a

-- each record
links_each : {K : Kind} {s : List ℕ} {a : ℕ} {met rs : List ℕ} → Links K s a met rs → a % unit_bytes ≡ 0 → (i : ℕ) → i < length rs → Placed K s (get_or rs i 0)
links_each links_end z i l = absurd (omega arith)
links_each (links_more n f u k) z zero l = record { facts = f; unit = z; past = omega arith }
links_each (links_more n f u k) z (suc i) l = links_each k (omega arith) i (omega arith)

-- where there is a record, the chain has not ended
pub links_some : {K : Kind} {s : List ℕ} {a : ℕ} {met rs : List ℕ} → Links K s a met rs → (j : ℕ) → j < length rs → a ≡ 0 → ⊥
links_some links_end j l = absurd (omega arith)
links_some (links_more n f u k) j l = n

-- a record ends before the next one
links_ahead : {K : Kind} {s : List ℕ} {a : ℕ} {met bs : List ℕ} → RecordFacts K s a → Links K s (unit_bytes * next_at s a) met bs → (j : ℕ) → j < length bs
    → end_at K s a ≤ unit_bytes * next_at s a
links_ahead f k j l = f.ahead (λ z. links_some k j l (omega arith))

-- no record is before the first
links_from : {K : Kind} {s : List ℕ} {a : ℕ} {met rs : List ℕ} → Links K s a met rs → (j : ℕ) → j < length rs → a ≤ get_or rs j 0
links_from links_end j l = absurd (omega arith)
links_from (links_more n f u k) zero l = omega arith
links_from (links_more n f u k) (suc j) l = omega (arith, links_ahead f k j (omega arith), links_from k j (omega arith))

-- nor before the end of an earlier one
links_order : {K : Kind} {s : List ℕ} {a : ℕ} {met rs : List ℕ} → Links K s a met rs → (i j : ℕ) → i < j → j < length rs → end_at K s (get_or rs i 0) ≤ get_or rs j 0
links_order links_end i j h l = absurd (omega arith)
links_order (links_more n f u k) i zero h l = absurd (omega arith)
links_order (links_more n f u k) zero (suc j) h l = omega (arith, links_ahead f k j (omega arith), links_from k j (omega arith))
links_order (links_more n f u k) (suc i) (suc j) h l = links_order k i j (omega arith) (omega arith)

-- not in a list: not its first
pub among_first : (x y : ℕ) (ys : List ℕ) → among x (y ∷ ys) ≡ false → x ≡ y → ⊥
unfolding among
among_first x y ys h = eqb-false x y (or_none (eqb x y) (among x ys) h).0

-- and not in the rest
pub among_rest : (x y : ℕ) (ys : List ℕ) → among x (y ∷ ys) ≡ false → among x ys ≡ false
unfolding among
among_rest x y ys h = (or_none (eqb x y) (among x ys) h).1

-- no label was met before
links_unmet : {K : Kind} {s : List ℕ} {a : ℕ} {met rs : List ℕ} → Links K s a met rs → (j : ℕ) → j < length rs → among (label_at s (get_or rs j 0)) met ≡ false
links_unmet links_end j l = absurd (omega arith)
links_unmet (links_more n f u k) zero l = u
links_unmet (links_more n f u k) (suc j) l = among_rest _ _ _ (links_unmet k j (omega arith))

-- labels differ
links_differ : {K : Kind} {s : List ℕ} {a : ℕ} {met rs : List ℕ} → Links K s a met rs → (i j : ℕ) → i < j → j < length rs
    → label_at s (get_or rs i 0) ≡ label_at s (get_or rs j 0) → ⊥
links_differ links_end i j h l = absurd (omega arith)
links_differ (links_more n f u k) i zero h l = absurd (omega arith)
links_differ (links_more n f u k) zero (suc j) h l = λ e. among_first _ _ _ (links_unmet k j (omega arith)) (sym e)
links_differ (links_more n f u k) (suc i) (suc j) h l = links_differ k i j (omega arith) (omega arith)

-- what the end of a chain is known for
pub record EndFacts (K : Kind) (s rs : List ℕ) : Type 0 where
  pub unit : chain_end K s rs % unit_bytes ≡ 0
  pub past : link_of rs + unit_bytes ≤ chain_end K s rs
  pub inside : chain_end K s rs ≤ length s

-- with no record
end_none : (K : Kind) (s : List ℕ) → HeaderFacts s → EndFacts K s []
unfolding chain_end link_of
end_none K s h = record { unit = omega arith; past = omega arith; inside = h.least }

-- with one record more in front
end_more : (K : Kind) → KindFits K → (s : List ℕ) (a : ℕ) (bs : List ℕ) → RecordFacts K s a → a % unit_bytes ≡ 0 → EndFacts K s bs → EndFacts K s (a ∷ bs)
unfolding chain_end link_of
end_more K F s a [] f z e = record { unit = omega (arith, size_units K F (length_at s a)); past = omega arith; inside = f.inside }
end_more K F s a (b ∷ bs) f z e = record { unit = e.unit; past = e.past; inside = e.inside }

-- of all records
links_ended : {K : Kind} {s : List ℕ} {a : ℕ} {met rs : List ℕ} → KindFits K → HeaderFacts s → Links K s a met rs → a % unit_bytes ≡ 0 → EndFacts K s rs
links_ended {K} {s} F h links_end z = end_none K s h
links_ended {K} {s} {a} F h (links_more n f u k) z = end_more K F s a _ f z (links_ended F h k (omega arith))

-- the end of more records than one
end_rest : (K : Kind) (s : List ℕ) (a : ℕ) (bs : List ℕ) → 0 < length bs → chain_end K s (a ∷ bs) ≡ chain_end K s bs
unfolding chain_end
end_rest K s a [] l = absurd (omega arith)
end_rest K s a (b ∷ bs) l = refl

-- the first record ends by the end of the last
end_first : (K : Kind) (s : List ℕ) (a : ℕ) (bs : List ℕ) → (0 < length bs → end_at K s a ≤ chain_end K s bs) → end_at K s a ≤ chain_end K s (a ∷ bs)
unfolding chain_end
end_first K s a [] h = omega arith
end_first K s a (b ∷ bs) h = h (omega arith)

-- and so does each
links_within : {K : Kind} {s : List ℕ} {a : ℕ} {met rs : List ℕ} → Links K s a met rs → (i : ℕ) → i < length rs → end_at K s (get_or rs i 0) ≤ chain_end K s rs
links_within links_end i l = absurd (omega arith)
links_within {K} {s} (links_more {a} {met} {bs} n f u k) zero l =
    end_first K s a bs (λ m. omega (arith, links_order (links_more n f u k) 0 1 (omega arith) (omega arith), links_within k 0 m))
links_within {K} {s} (links_more {a} {met} {bs} n f u k) (suc i) l = rw (end_rest K s a bs (omega arith)) (links_within k i (omega arith))

-- what the records of a sound chain are known for, by their places in the chain
pub record ChainFacts (s rs : List ℕ) : Type 0 where
  pub header : HeaderFacts s
  pub each : (i : ℕ) → i < length rs → Placed (kind_of s) s (get_or rs i 0)
  pub order : (i j : ℕ) → i < j → j < length rs → end_at (kind_of s) s (get_or rs i 0) ≤ get_or rs j 0
  pub differ : (i j : ℕ) → i < j → j < length rs → label_at s (get_or rs i 0) ≡ label_at s (get_or rs j 0) → ⊥
  pub within : (i : ℕ) → i < length rs → end_at (kind_of s) s (get_or rs i 0) ≤ chain_end (kind_of s) s rs
  pub ended : EndFacts (kind_of s) s rs

-- a sound chain has the facts
pub chain_facts : (s rs : List ℕ) → chain_of s ≡ some rs → ChainFacts s rs
chain_facts s rs e =
    let k = chain_links s rs e in
    record {
      header = k.0;
      each = links_each k.1 (omega arith);
      order = links_order k.1;
      differ = links_differ k.1;
      within = links_within k.1;
      ended = links_ended (image_fits s) k.0 k.1 (omega arith);
    }

-- ---- how many records there are
-- the labels from 1 to n that are not among those met
unfoldable free : List ℕ → ℕ → ℕ
free met zero = 0
free met (suc n) = free met n + cond (among (suc n) met) 0 1

free_all : (n : ℕ) → free [] n ≡ n
unfolding free among
free_all zero = refl
free_all (suc n) = omega (arith, free_all n)

-- a label past n is none of them
free_past : (met : List ℕ) (l n : ℕ) → n < l → free (l ∷ met) n ≡ free met n
unfolding free among
free_past met l zero h = refl
free_past met l (suc n) h =
    let k : eqb (suc n) l ≡ false = ne_eqb (suc n) l (λ e. omega arith) in
    simp (k, free_past met l n (omega arith))

-- a label not met takes one away
free_more : (met : List ℕ) (l n : ℕ) → 1 ≤ l → l ≤ n → among l met ≡ false → free met n ≡ free (l ∷ met) n + 1
unfolding free among
free_more met l zero p q h = absurd (omega arith)
free_more met l (suc n) p q h = go (eqb (suc n) l) refl (free_more met l n p)
  where
    go : (t : Bool) → eqb (suc n) l ≡ t → (l ≤ n → among l met ≡ false → free met n ≡ free (l ∷ met) n + 1)
        → free met n + cond (among (suc n) met) 0 1 ≡ free (l ∷ met) n + cond (t || among (suc n) met) 0 1 + 1
    go true e later =
        let z : suc n ≡ l = eqb-true (suc n) l e in
        let m : among (suc n) met ≡ false = ap (λ (k : ℕ). among k met) z ∙ h in
        simp (m, free_past met l n (omega arith)) (omega arith)
    go false e later =
        let z : l ≤ n = omega (arith, eqb-false (suc n) l e) in
        omega (arith, later z h)

-- the records of a chain have labels of their own
links_labels : {K : Kind} {s : List ℕ} {a : ℕ} {met rs : List ℕ} → Links K s a met rs → length rs ≤ free met most_label
links_labels links_end = omega arith
links_labels {K} {s} {a} {met} (links_more n f u k) = omega (arith, links_labels k, free_more met (label_at s a) most_label f.low f.high u)

-- so there are at most 64
pub chain_few : (s rs : List ℕ) → chain_of s ≡ some rs → length rs ≤ most_label
chain_few s rs e = omega (arith, links_labels (chain_links s rs e).1, free_all most_label)

-- ---- the record of a label
-- one of the records, with that label
pub record Found (s rs : List ℕ) (label a : ℕ) : Type 0 where
  pub index : ℕ
  pub within : index < length rs
  pub here : get_or rs index 0 ≡ a
  pub its : label_at s a ≡ label

-- the place of a label is such a record
pub place_found : (s : List ℕ) (label : ℕ) (rs : List ℕ) (a : ℕ) → place_of s label rs ≡ some a → Found s rs label a
unfolding place_of
place_found s label [] a e = none_some refl e
place_found s label (b ∷ bs) a e = go (eqb (label_at s b) label) refl e (place_found s label bs a)
  where
    go : (t : Bool) → eqb (label_at s b) label ≡ t → cond t (some b) (place_of s label bs) ≡ some a → (place_of s label bs ≡ some a → Found s bs label a)
        → Found s (b ∷ bs) label a
    go true p q later =
        let z : b ≡ a = cc in
        record { index = 0; within = omega arith; here = z; its = ap (label_at s) (sym z) ∙ eqb-true _ _ p }
    go false p q later = let f = later q in record { index = suc f.index; within = omega (arith, f.within); here = f.here; its = f.its }

-- the records of one list, then of another
pub place_append : (s : List ℕ) (label : ℕ) (xs ys : List ℕ) → place_of s label (xs ++ ys) ≡ or_else (place_of s label xs) (place_of s label ys)
unfolding place_of
place_append s label [] ys = refl
place_append s label (a ∷ xs) ys = go (eqb (label_at s a) label) (place_append s label xs ys)
  where
    go : (t : Bool) → place_of s label (xs ++ ys) ≡ or_else (place_of s label xs) (place_of s label ys)
        → cond t (some a) (place_of s label (xs ++ ys)) ≡ or_else (cond t (some a) (place_of s label xs)) (place_of s label ys)
    go true e = refl
    go false e = e

-- the index that ends the chain stands in the last record
pub link_last : (xs : List ℕ) (a : ℕ) → link_of (xs ++ (a ∷ [])) ≡ a
unfolding link_of
link_last [] a = refl
link_last (b ∷ []) a = refl
link_last (b ∷ c ∷ cs) a = link_last (c ∷ cs) a

-- and the chain ends where that one ends
pub end_last : (K : Kind) (s xs : List ℕ) (a : ℕ) → chain_end K s (xs ++ (a ∷ [])) ≡ end_at K s a
unfolding chain_end
end_last K s [] a = refl
end_last K s (b ∷ []) a = refl
end_last K s (b ∷ c ∷ cs) a = end_last K s (c ∷ cs) a

-- ---- opening a row
-- what an opened row is known for
pub record Opened (s : List ℕ) (label : ℕ) : Type 0 where
  pub chain : chain_of s ≡ some (records_of s)
  pub low : 1 ≤ label
  pub high : label ≤ most_label
  pub found : record_with s label ≡ some (row_place s label)
  pub its : label_at s (row_place s label) ≡ label
  pub placed : Placed (kind_of s) s (row_place s label)

-- a chain that is there has its records
pub some_in : (o : Option (List ℕ)) → is_some o ≡ true → o ≡ some (records_in o)
some_in none h = absurd (false≢true h)
some_in (some rs) h = refl

-- a place that is there
some_place : (o : Option ℕ) → is_some o ≡ true → o ≡ some (place_in 0 o)
some_place none h = absurd (false≢true h)
some_place (some a) h = refl

-- a record with the label is a record of the chain
pub found_placed : (s rs : List ℕ) (label a : ℕ) → ChainFacts s rs → Found s rs label a → Placed (kind_of s) s a
found_placed s rs label a f k = subst (Placed (kind_of s) s) k.here (f.each k.index k.within)

-- a row whose opening no line refuses
pub opened : (s : List ℕ) (label : ℕ) → judge (open_table s label) ≡ none → Opened s label
opened s label e =
    let w = passes (open_table s label) e in
    let g = label_facts label (not_not (good_label label) w.1.0) in
    let c : chain_of s ≡ some (records_of s) = some_in (chain_of s) (not_not _ w.0) in
    let p : record_with s label ≡ some (row_place s label) = some_place (record_with s label) (not_not _ w.1.1.0) in
    let k = place_found s label (records_of s) (row_place s label) p in
    record {
      chain = c;
      low = g.0;
      high = g.1;
      found = p;
      its = k.its;
      placed = found_placed s (records_of s) label (row_place s label) (chain_facts s (records_of s) c) k;
    }

-- a value says that no line applies
pub value_told : (v : Option ℕ) (x y : ℕ) → value x ≡ unless v refused (value y) → (v ≡ none) × (x ≡ y)
value_told none x y e = (refl, cc)
value_told (some n) x y e = no_confusion cc

-- a refusal says which line does
pub refused_told : (v : Option ℕ) (n y : ℕ) → refused n ≡ unless v refused (value y) → v ≡ some n
refused_told none n y e = no_confusion cc
refused_told (some m) n y e = cc

-- an opening that answers a value is not refused, and the value is the row's place
pub opened_value : (s : List ℕ) (label : ℕ) (o : Result ℕ Refusal) (at : ℕ) → told_of o ≡ open_told s label → o ≡ Ok at
    → (judge (open_table s label) ≡ none) × (at ≡ row_place s label)
opened_value s label o at e d = value_told (judge (open_table s label)) at (row_place s label) (sym (ap told_of d) ∙ e)

-- an opening that answers a refusal
pub opened_refused : (s : List ℕ) (label : ℕ) (o : Result ℕ Refusal) (r : Refusal) → told_of o ≡ open_told s label → o ≡ Err r
    → judge (open_table s label) ≡ some (number_of r)
opened_refused s label o r e d = refused_told (judge (open_table s label)) (number_of r) (row_place s label) (sym (ap told_of d) ∙ e)
