-- What an accepted freeze leaves: the chain with one record more, the strip given back by its row, every earlier row as it was. Assumes nothing.
use mathlib.Core.Path.{◌≡◌, refl, sym, ap, ap₂, subst, ◌∙◌}
use mathlib.Core.Bool.{Bool, true, false, cond}
use mathlib.Core.Logic.{◌⊎◌, inl, inr, ⊎_elim}
use mathlib.Core.List.{List, [], ◌∷◌, ◌++◌}
use mathlib.Core.Option.{Option, some, none}
use Prim.Native.Nat.{ℕ, zero, suc, ◌+◌, ◌-◌, ◌*◌, ◌/◌, ◌%◌, ◌≤◌, ◌<◌}
use native.Mathlib.Nat.{mod-eq_of_lt}
use native.Mathlib.Omega.{arith}
use lib.ListN.{length, get_or, take, drop, length-drop, length-take, get_or-eq_default}
use lib.Seq.{sets, length-sets, get_or-drop, ext_get_or}
use lib.Dec.{eqb, lit<}
use borrow.Author.Tests.{eq-eqb, ne_eqb, eqb-false}
use Rattle.words.specs.Bits.{bit}
use Rattle.words.specs.Strip.{cell, strip_of, rank, select, or_else}
use Rattle.words.specs.Words.{place_in}
use Rattle.words.specs.Refusals.{Line, judge, unless, Told, value, refused, found}
use Rattle.words.specs.Handles.{untaken, strip_lines}
use Rattle.words.specs.Calls.{value_line, below_line, within_line, absent_line, get_told}
use Rattle.words.proofs.CheckLaws.{absent_found, passed_both}
use Rattle.counters.specs.Record.{Fits}
use Rattle.counters.specs.Promises.{Promise, Below}
use Rattle.counters.proofs.PromiseLaws.{promise_exact}
use Rattle.counters.proofs.ReadLaws.{select_fits}
use Rattle.counters.specs.Calls.{checks, rank_table, Ranked, Selected}
use Rattle.words.proofs.Sums.{lt_or, part_at_lem}
use Rattle.words.proofs.StripLaws.{strip_length, strip_le}
use Rattle.words.specs.declared.handle.Handle.{Handle}
use Rattle.image.specs.Bytes.{num, le, bit_from}
use Rattle.image.specs.Kinds.{Kind, kinds, is_kind}
use Rattle.image.specs.Layout.{unit_bytes, head_bytes, most_label, most_row, bits_start, size_of, record_of}
use Rattle.image.specs.Chain.{kind_of, next_at, label_at, length_at, end_at, good_label, among, chain_of, place_of, chain_end, link_of}
use Rattle.image.specs.Rows.{part_at, row_bits, Right}
use Rattle.image.specs.Calls.{is_some, records_in, records_of, record_with, record_lines, freeze_table, frozen, image_outcome, freeze_outcome, open_table, row_place, row_part, row_length, row_get_told, RowRanked, RowSelected}
use Rattle.image.specs.RoundTrip.{GivesBack, RowKept}
use Rattle.image.proofs.KindLaws.{image_fits, same_kind}
use Rattle.image.proofs.ChainLaws.{HeaderFacts, RecordFacts, Links, links_end, links_more, chain_links, links_chain, links_some, none_some, ChainFacts, chain_facts, place_found, place_append, label_good, opened}
use Rattle.image.proofs.PutLaws.{length_le, le_small, sets_small, take_sets, drop_num, num_ext, num_sets, num_sets_in, num_sets_under, get_or_sets_under, get_or_sets_over}
use Rattle.image.proofs.WriteLaws.{list_of_ext, record_front, record_length, record_next, record_label, record_long, record_bits, record_right, record_small}
use Rattle.image.proofs.FreezeLaws.{freezing}
use Rattle.image.proofs.RowLaws.{part_size, after_lines}

-- ---- an image to which a record was added, as its chain sees it
-- t is s with a record from byte `end` on and its index at byte `link`; before `end` no other byte changed
pub record Grown (K : Kind) (s t : List ℕ) (link end label : ℕ) : Type 0 where
  pub long : length t ≡ length s
  pub same : (x : ℕ) → x < end → (x < link) ⊎ (link + 4 ≤ x) → get_or t x 0 ≡ get_or s x 0
  pub linked : num t link 4 ≡ end / unit_bytes
  pub unit : end % unit_bytes ≡ 0
  pub past : link + unit_bytes ≤ end
  pub new : RecordFacts K t end
  pub its : label_at t end ≡ label
  pub last : next_at t end ≡ 0

-- a number before the index, or after it
num_under : {K : Kind} {s t : List ℕ} {link end label : ℕ} → Grown K s t link end label → (x n : ℕ) → x + n ≤ link → num t x n ≡ num s x n
num_under {K} {s} {t} g x n h = num_ext t s x x n (λ i l. g.same (x + i) (omega (arith, g.past)) (inl (omega arith)))

num_over : {K : Kind} {s t : List ℕ} {link end label : ℕ} → Grown K s t link end label → (x n : ℕ) → link + 4 ≤ x → x + n ≤ end → num t x n ≡ num s x n
num_over {K} {s} {t} g x n h k = num_ext t s x x n (λ i l. g.same (x + i) (omega arith) (inr (omega arith)))

-- the header keeps the number of its kind
number_grown : {K : Kind} {s t : List ℕ} {link end label : ℕ} → Grown K s t link end label → (link ≡ 0) ⊎ (unit_bytes ≤ link) → num t 4 4 ≡ num s 4 4
number_grown g k = ⊎_elim (λ z. num_over g 4 4 (omega arith) (omega (arith, g.past))) (λ z. num_under g 4 4 (omega arith)) k

-- and stays sound
header_grown : {K : Kind} {s t : List ℕ} {link end label : ℕ} → Grown K s t link end label → HeaderFacts s → (link ≡ 0) ⊎ (unit_bytes ≤ link) → HeaderFacts t
header_grown {K} {s} {t} g h k =
    record {
      least = omega (arith, g.long, h.least);
      most = omega (arith, g.long, h.most);
      kind = ap (is_kind kinds) (number_grown g k) ∙ h.kind;
      zeros = ⊎_elim (λ z. num_over g 8 8 (omega arith) (omega (arith, g.past))) (λ z. num_under g 8 8 (omega arith)) k ∙ h.zeros;
    }

-- a record whose label and length stay is sound, where its next index leads on
record_grown : {K : Kind} {s t : List ℕ} {link end label : ℕ} → Grown K s t link end label → (a : ℕ) → RecordFacts K s a → label_at t a ≡ label_at s a
    → length_at t a ≡ length_at s a
    → ((next_at t a ≡ 0 → ⊥) → end_at K s a ≤ unit_bytes * next_at t a) → RecordFacts K t a
record_grown {K} {s} {t} g a f l k next =
    let e : end_at K t a ≡ end_at K s a = ap (λ (x : ℕ). a + size_of K x) k in
    record {
      room = omega (arith, g.long, f.room);
      low = omega (arith, l, f.low);
      high = omega (arith, l, f.high);
      short = omega (arith, k, f.short);
      inside = omega (arith, g.long, e, f.inside);
      ahead = λ z. omega (arith, e, next z);
    }

-- a record before the last one stays as it is
record_before : {K : Kind} {s t : List ℕ} {link end label : ℕ} → Grown K s t link end label → (a : ℕ) → RecordFacts K s a → end_at K s a ≤ link
    → RecordFacts K t a
record_before {K} {s} {t} g a f h =
    let n : next_at t a ≡ next_at s a = num_under g a 4 (omega arith) in
    record_grown g a f (num_under g (a + 4) 4 (omega arith)) (num_under g (a + 8) 4 (omega arith)) (λ z. omega (arith, n, f.ahead (λ y. z (n ∙ y))))

-- the last one has the new one's index
record_last : {K : Kind} {s t : List ℕ} {link end label : ℕ} → Grown K s t link end label → RecordFacts K s link → end_at K s link ≡ end → RecordFacts K t link
record_last {K} {s} {t} {link} {end} g f h =
    record_grown g link f (num_over g (link + 4) 4 (omega arith) (omega (arith, g.past))) (num_over g (link + 8) 4 (omega arith) (omega (arith, g.past)))
    (λ z. omega (arith, g.linked, g.unit))

-- a chain stands at its first record
links_first : {K : Kind} {s : List ℕ} {a : ℕ} {met : List ℕ} {b : ℕ} {bs : List ℕ} → Links K s a met (b ∷ bs) → a ≡ b
links_first (links_more n f u k) = refl

-- and its last record is not before it
links_link : {K : Kind} {s : List ℕ} {a : ℕ} {met : List ℕ} {b : ℕ} {bs : List ℕ} → Links K s a met (b ∷ bs) → a ≤ link_of (b ∷ bs)
unfolding link_of
links_link {bs = []} (links_more n f u k) = omega arith
links_link {K} {s} {a} {bs = c ∷ cs} (links_more n f u k) =
    let z : unit_bytes * next_at s a ≡ c = links_first k in
    omega (arith, links_link k, f.ahead (λ y. links_some k 0 (omega arith) (omega arith)))

-- the new record alone
links_new : {K : Kind} {s t : List ℕ} {link end label : ℕ} → Grown K s t link end label → (met : List ℕ) → among label met ≡ false → (a : ℕ) → a ≡ end
    → Links K t a met (end ∷ [])
links_new {K} {s} {t} {link} {end} g met u a e =
    rw e (links_more {a = end} (λ (z : end ≡ 0). omega (arith, g.past)) g.new (ap (λ (l : ℕ). among l met) g.its ∙ u)
    (subst (λ (x : ℕ). Links K t x (label_at t end ∷ met) []) (sym (ap (λ (x : ℕ). unit_bytes * x) g.last)) links_end))

-- a label that no record has
absent_first : (s : List ℕ) (label b : ℕ) (bs : List ℕ) → place_of s label (b ∷ bs) ≡ none → (label_at s b ≡ label → ⊥) × (place_of s label bs ≡ none)
unfolding place_of
absent_first s label b bs e = go (eqb (label_at s b) label) refl e
  where
    go : (t : Bool) → eqb (label_at s b) label ≡ t → cond t (some b) (place_of s label bs) ≡ none → (label_at s b ≡ label → ⊥) × (place_of s label bs ≡ none)
    go true p q = none_some q refl
    go false p q = (eqb-false _ _ p, q)

-- was not met, with one label more
unmet_more : (label l : ℕ) (met : List ℕ) → among label met ≡ false → (l ≡ label → ⊥) → among label (l ∷ met) ≡ false
unfolding among
unmet_more label l met u n = simp (ne_eqb label l (λ z. n (sym z)), u)

-- the records, then the new one
links_grown : {K : Kind} {s t : List ℕ} {link end label : ℕ} → Grown K s t link end label → {a : ℕ} {met : List ℕ} {b : ℕ} (bs : List ℕ)
    → Links K s a met (b ∷ bs)
    → link_of (b ∷ bs) ≡ link → chain_end K s (b ∷ bs) ≡ end → among label met ≡ false → place_of s label (b ∷ bs) ≡ none
    → Links K t a met (b ∷ (bs ++ (end ∷ [])))
unfolding link_of chain_end
links_grown {K} {s} {t} {link} {end} {label} g {a} {met} [] (links_more n f u k) z e m p =
    let r : RecordFacts K t link = record_last g (subst (RecordFacts K s) z f) (ap (end_at K s) (sym z) ∙ e) in
    let l : label_at t a ≡ label_at s a = ap (label_at t) z ∙ num_over g (link + 4) 4 (omega arith) (omega (arith, g.past)) ∙ ap (label_at s) (sym z) in
    let q = absent_first s label a [] p in
    let next : unit_bytes * next_at t a ≡ end = ap (λ (x : ℕ). unit_bytes * next_at t x) z ∙ omega (arith, g.linked, g.unit) in
    links_more n (subst (RecordFacts K t) (sym z) r) (ap (λ (x : ℕ). among x met) l ∙ u)
    (links_new g (label_at t a ∷ met) (unmet_more label (label_at t a) met m (λ y. q.0 (sym l ∙ y))) (unit_bytes * next_at t a) next)
links_grown {K} {s} {t} {link} {end} {label} g {a} {met} (c ∷ cs) (links_more n f u k) z e m p =
    let i : unit_bytes * next_at s a ≡ c = links_first k in
    let h : end_at K s a ≤ link = omega (arith, links_link k, f.ahead (λ y. links_some k 0 (omega arith) (omega arith)), z) in
    let l : label_at t a ≡ label_at s a = num_under g (a + 4) 4 (omega arith) in
    let x : next_at t a ≡ next_at s a = num_under g a 4 (omega arith) in
    let q = absent_first s label a (c ∷ cs) p in
    links_more {bs = c ∷ (cs ++ (end ∷ []))} n (record_before g a f h) (ap (λ (y : ℕ). among y met) l ∙ u)
    (rw (l, x) (links_grown g {a = unit_bytes * next_at s a} cs k z e (unmet_more label (label_at s a) met m q.0) q.1))

-- the index that ends a sound chain stands in the header, or past it
link_far : (s rs : List ℕ) → chain_of s ≡ some rs → (link_of rs ≡ 0) ⊎ (unit_bytes ≤ link_of rs)
unfolding link_of
link_far s [] c = inl refl
link_far s (b ∷ bs) c = let k = chain_links s (b ∷ bs) c in inr (omega (arith, links_link k.1, links_some k.1 0 (omega arith)))

-- its records, then the new one
links_longer : {s t : List ℕ} {link end label : ℕ} → Grown (kind_of s) s t link end label → (rs : List ℕ) → link_of rs ≡ link → chain_end (kind_of s) s rs ≡ end
    → place_of s label rs ≡ none → Links (kind_of s) s (unit_bytes * num s 0 4) [] rs → Links (kind_of s) t (unit_bytes * num t 0 4) [] (rs ++ (end ∷ []))
unfolding link_of among
links_longer {s} {t} g [] z e p k = links_new g [] refl (unit_bytes * num t 0 4) (ap (λ (x : ℕ). unit_bytes * num t x 4) z ∙ omega (arith, g.linked, g.unit))
links_longer {s} {t} {link} g (b ∷ bs) z e p k =
    let far : unit_bytes ≤ link = omega (arith, links_link k, links_some k 0 (omega arith), z) in
    let x : num t 0 4 ≡ num s 0 4 = num_under g 0 4 (omega arith) in
    rw x (links_grown g bs k z e refl p)

-- a sound chain that has grown
pub chain_grown : {s t : List ℕ} {link end label : ℕ} → Grown (kind_of s) s t link end label → (rs : List ℕ) → chain_of s ≡ some rs → link_of rs ≡ link
    → chain_end (kind_of s) s rs ≡ end → place_of s label rs ≡ none → (kind_of t ≡ kind_of s) × (chain_of t ≡ some (rs ++ (end ∷ [])))
chain_grown {s} {t} {link} {end} {label} g rs c z e p =
    let k = chain_links s rs c in
    let far : (link ≡ 0) ⊎ (unit_bytes ≤ link) = subst (λ (x : ℕ). (x ≡ 0) ⊎ (unit_bytes ≤ x)) z (link_far s rs c) in
    let kind : kind_of t ≡ kind_of s = same_kind s t (number_grown g far) in (
      kind,
      links_chain t (rs ++ (end ∷ [])) (header_grown g k.0 far)
          (subst (λ (j : Kind). Links j t (unit_bytes * num t 0 4) [] (rs ++ (end ∷ []))) (sym kind) (links_longer g rs z e p k.1)),
    )

-- ---- a strip that can be frozen into an image
-- the chain is sound and has not the label, which is from 1 to 64; the strip is of bits, not too long, and its record ends inside the image
pub record Freezable (s : List ℕ) (label : ℕ) (t : List ℕ) : Type 0 where
  pub chain : chain_of s ≡ some (records_of s)
  pub low : 1 ≤ label
  pub high : label ≤ most_label
  pub absent : record_with s label ≡ none
  pub short : length t ≤ most_row
  pub bits : (p : ℕ) → cell t p ≤ 1
  pub room : chain_end (kind_of s) s (records_of s) + size_of (kind_of s) (length t) ≤ length s

-- so it is where freeze accepts
pub freezable : (h : Handle) (ws s : List ℕ) (label : ℕ) → judge (freeze_table h (length ws) s label) ≡ none → Freezable s label (strip_of ws h.length)
freezable h ws s label e =
    let f = freezing h (length ws) s label e in
    let n = strip_length ws h.length in
    record {
      chain = f.chain;
      low = f.low;
      high = f.high;
      absent = f.absent;
      short = omega (arith, n, f.strip.long, f.strip.most);
      bits = strip_le ws h.length;
      room = rw n f.room;
    }

-- what the frozen image is, as its chain sees it
module _ (s : List ℕ) (label : ℕ) (t : List ℕ) (f : Freezable s label t) where
  -- the image's kind, where the record starts, and where its index stands
  abbrev kind : Kind
  kind = kind_of s

  abbrev end : ℕ
  end = chain_end kind s (records_of s)

  abbrev link : ℕ
  link = link_of (records_of s)

  -- the image with the index, and with the record
  abbrev linked_image : List ℕ
  linked_image = sets s link (le 4 (end / unit_bytes))

  abbrev image : List ℕ
  image = frozen s label t

  -- the chain's facts
  chained : ChainFacts s (records_of s)
  chained = chain_facts s (records_of s) f.chain

  -- its length with the index
  linked_length : length linked_image ≡ length s
  linked_length = length-sets s link (le 4 (end / unit_bytes))

  -- the record lies inside
  inside : end + length (record_of kind 0 label t) ≤ length linked_image
  inside = omega (arith, record_length kind 0 label t, linked_length, f.room)

  -- a number of the record
  record_num : (b : ℕ) → b + 4 ≤ head_bytes → num image (end + b) 4 ≡ num (record_of kind 0 label t) b 4
  record_num b h = num_sets_in (record_of kind 0 label t) linked_image end b 4 inside (omega (arith, record_length kind 0 label t))

  -- the first one
  record_first : num image end 4 ≡ 0
  record_first =
      let z : end + 0 ≡ end = omega arith in
      ap (λ (x : ℕ). num image x 4) (sym z) ∙ record_num 0 (omega arith) ∙ record_next kind 0 label t

  -- the label
  label_new : label_at image end ≡ label
  label_new = record_num 4 (omega arith) ∙ record_label kind 0 label t ∙ mod-eq_of_lt (omega (arith, f.high))

  -- the length
  pub frozen_length : length_at image end ≡ length t
  frozen_length = record_num 8 (omega arith) ∙ record_long kind 0 label t f.short

  -- the image is a list of bytes
  pub frozen_small : ((i : ℕ) → get_or s i 0 < 256) → (i : ℕ) → get_or image i 0 < 256
  frozen_small h =
      sets_small (record_of kind 0 label t) linked_image end (sets_small (le 4 (end / unit_bytes)) s link h (le_small 4 (end / unit_bytes)))
      (record_small kind 0 label t f.bits)

  -- the record
  frozen_record : RecordFacts kind image end
  frozen_record =
      let n : length image ≡ length s = length-sets linked_image end (record_of kind 0 label t) ∙ linked_length in
      let e : end_at kind image end ≡ end + size_of kind (length t) = ap (λ (x : ℕ). end + size_of kind x) frozen_length in
      record {
        room = omega (arith, n, f.room);
        low = omega (arith, label_new, f.low);
        high = omega (arith, label_new, f.high);
        short = omega (arith, frozen_length, f.short);
        inside = omega (arith, n, e, f.room);
        ahead = λ z. absurd (z record_first);
      }

  -- the whole
  pub frozen_grown : Grown kind s image link end label
  frozen_grown =
      let x = chained.ended in
      record {
        long = length-sets linked_image end (record_of kind 0 label t) ∙ linked_length;
        same = λ y h d.
            get_or_sets_under (record_of kind 0 label t) linked_image end y h
            ∙ ⊎_elim (λ l. get_or_sets_under (le 4 (end / unit_bytes)) s link y l)
            (λ l. get_or_sets_over (le 4 (end / unit_bytes)) s link y (omega (arith, length_le 4 (end / unit_bytes)))) d;
        linked =
            num_sets_under (record_of kind 0 label t) linked_image end link 4 (omega (arith, x.past))
            ∙ num_sets s link 4 (end / unit_bytes) (omega (arith, x.past, x.inside))
            ∙ mod-eq_of_lt (omega (arith, x.inside, chained.header.most));
        unit = x.unit;
        past = x.past;
        new = frozen_record;
        its = label_new;
        last = record_first;
      }

  -- the kind stays
  pub frozen_kind : kind_of image ≡ kind_of s
  frozen_kind = (chain_grown frozen_grown (records_of s) f.chain refl refl f.absent).0

  -- the chain has one record more, the last
  pub frozen_chain : chain_of image ≡ some (records_of s ++ (end ∷ []))
  frozen_chain = (chain_grown frozen_grown (records_of s) f.chain refl refl f.absent).1

  -- its part is the record of the strip
  pub frozen_part : part_at kind image end ≡ record_of kind 0 label t
  frozen_part =
      ap (λ (n : ℕ). take (size_of kind n) (drop end image)) frozen_length
      ∙ take_sets (record_of kind 0 label t) linked_image end (size_of kind (length t)) inside (record_length kind 0 label t)

-- ---- a row's part with other bytes in front
-- two parts that are the same from byte k on
module _ (k : ℕ) (part other : List ℕ) (same : drop k other ≡ drop k part) where
  -- a byte
  pub byte_kept : (x : ℕ) → k ≤ x → get_or other x 0 ≡ get_or part x 0
  byte_kept x h =
      let e : k + (x - k) ≡ x = omega arith in
      ap (λ (y : ℕ). get_or other y 0) (sym e)
      ∙ sym (get_or-drop k other (x - k) 0)
      ∙ ap (λ (l : List ℕ). get_or l (x - k) 0) same
      ∙ get_or-drop k part (x - k) 0
      ∙ ap (λ (y : ℕ). get_or part y 0) e

  -- the row's bits
  pub bits_kept : k ≤ head_bytes → (K : Kind) (n : ℕ) → row_bits K other n ≡ row_bits K part n
  bits_kept h K n =
      list_of_ext (bit_from other (bits_start K n)) (bit_from part (bits_start K n)) n
      (λ p l. ap (λ (x : ℕ). bit x (p % 8)) (byte_kept (bits_start K n + p / 8) (omega arith)))

-- two that differ in the next index alone
module _ (K : Kind) (part other : List ℕ) (n : ℕ) (same : drop 4 other ≡ drop 4 part) where
  -- a right row stays right
  pub right_kept : ((i : ℕ) → get_or other i 0 < 256) → 4 ≤ length other → Right K part n → Right K other n
  right_kept small h r =
      let x : ℕ = num other 0 4 in
      let l : num other 4 4 ≡ num part 4 4 = num_ext other part 4 4 4 (λ i k. byte_kept 4 part other same (4 + i) (omega arith)) in
      drop_num other 0 4 x small h refl
      ∙ ap (λ (y : List ℕ). le 4 x ++ y) (same ∙ ap (drop 4) r)
      ∙ sym (record_front K (num part 0 4) (num part 4 4) (row_bits K part n) x)
      ∙ ap₂ (record_of K x) (sym l) (sym (bits_kept 4 part other same (omega arith) K n))

-- ---- the records of a chain that has grown
-- the last record is the one with the index
link_at : (rs : List ℕ) (i : ℕ) → i + 1 ≡ length rs → get_or rs i 0 ≡ link_of rs
unfolding link_of
link_at [] i h = absurd (omega arith)
link_at (a ∷ []) zero h = refl
link_at (a ∷ []) (suc i) h = absurd (omega arith)
link_at (a ∷ b ∷ bs) zero h = absurd (omega arith)
link_at (a ∷ b ∷ bs) (suc i) h = link_at (b ∷ bs) i (omega arith)

-- every other ends before it
link_after : {s rs : List ℕ} → ChainFacts s rs → (i : ℕ) → i < length rs → (get_or rs i 0 ≡ link_of rs) ⊎ (end_at (kind_of s) s (get_or rs i 0) ≤ link_of rs)
link_after {s} {rs} f i h = ⊎_elim (λ l. inr (before l)) (λ l. inl (link_at rs i (omega arith))) (lt_or (i + 1) (length rs))
  where
    before : i + 1 < length rs → end_at (kind_of s) s (get_or rs i 0) ≤ link_of rs
    before l = subst (λ (x : ℕ). end_at (kind_of s) s (get_or rs i 0) ≤ x) (link_at rs (length rs - 1) (omega arith))
        (f.order i (length rs - 1) (omega arith) (omega arith))

-- a record in both images is the same but for its next index
pub record Kept (K : Kind) (s t : List ℕ) (a : ℕ) : Type 0 where
  pub label : label_at t a ≡ label_at s a
  pub size : length_at t a ≡ length_at s a
  pub rest : drop 4 (part_at K t a) ≡ drop 4 (part_at K s a)

-- a record's part is of bytes
part_small : (K : Kind) (s : List ℕ) (a : ℕ) → ((i : ℕ) → get_or s i 0 < 256) → (i : ℕ) → get_or (part_at K s a) i 0 < 256
part_small K s a h i = ⊎_elim inside past (lt_or i (size_of K (length_at s a)))
  where
    inside : i < size_of K (length_at s a) → get_or (part_at K s a) i 0 < 256
    inside l = subst (λ (x : ℕ). x < 256) (sym (part_at_lem s a (size_of K (length_at s a)) 0 i l)) (h (a + i))

    past : size_of K (length_at s a) ≤ i → get_or (part_at K s a) i 0 < 256
    past l =
        let n : length (part_at K s a) ≤ size_of K (length_at s a) = omega (arith, length-take (size_of K (length_at s a)) (drop a s)) in
        subst (λ (x : ℕ). x < 256) (sym (get_or-eq_default (part_at K s a) 0 {n = i} (omega arith))) (lit< tt)

-- a record of the chain is kept
record_kept : {K : Kind} {s t : List ℕ} {link end label : ℕ} → Grown K s t link end label → (a : ℕ) → RecordFacts K s a → end_at K s a ≤ end
    → (a ≡ link) ⊎ (end_at K s a ≤ link)
    → Kept K s t a
record_kept {K} {s} {t} {link} {end} g a f h w =
    let apart : (x : ℕ) → a + 4 ≤ x → x < end_at K s a → get_or t x 0 ≡ get_or s x 0 =
    λ x k l. g.same x (omega arith) (⊎_elim (λ z. inr (omega arith)) (λ z. inl (omega arith)) w) in
    let l : label_at t a ≡ label_at s a = num_ext t s (a + 4) (a + 4) 4 (λ i k. apart (a + 4 + i) (omega arith) (omega arith)) in
    let n : length_at t a ≡ length_at s a = num_ext t s (a + 8) (a + 8) 4 (λ i k. apart (a + 8 + i) (omega arith) (omega arith)) in
    let e : end_at K t a ≡ end_at K s a = ap (λ (x : ℕ). a + size_of K x) n in
    let ps : length (part_at K s a) ≡ size_of K (length_at s a) = part_size K s a f.inside in
    let pt : length (part_at K t a) ≡ size_of K (length_at s a) = part_size K t a (omega (arith, e, g.long, f.inside)) ∙ ap (size_of K) n in
    record {
      label = l;
      size = n;
      rest =
          ext_get_or 0 (drop 4 (part_at K t a)) (drop 4 (part_at K s a)) (length-drop 4 (part_at K t a) ∙ omega (arith, pt, ps, length-drop 4 (part_at K s a)))
          (λ x k.
          let b : 4 + x < size_of K (length_at s a) = omega (arith, length-drop 4 (part_at K t a), pt) in
          get_or-drop 4 (part_at K t a) x 0
          ∙ part_at_lem t a (size_of K (length_at t a)) 0 (4 + x) (omega (arith, ap (size_of K) n))
          ∙ apart (a + (4 + x)) (omega arith) (omega arith)
          ∙ sym (part_at_lem s a (size_of K (length_at s a)) 0 (4 + x) b)
          ∙ sym (get_or-drop 4 (part_at K s a) x 0));
    }

-- ---- rows by their labels
-- the place of a label among records whose labels are the same
place_same : (s t : List ℕ) (l : ℕ) (rs : List ℕ) → ((i : ℕ) → i < length rs → label_at t (get_or rs i 0) ≡ label_at s (get_or rs i 0)) → place_of t l rs ≡ place_of s l rs
unfolding place_of
place_same s t l [] h = refl
place_same s t l (a ∷ rs) h =
    ap₂ (λ (x : ℕ) (o : Option ℕ). cond (eqb x l) (some a) o) (h 0 (omega arith)) (place_same s t l rs (λ i k. h (suc i) (omega arith)))

-- an opening that no line refuses
pub open_passes : (s : List ℕ) (l : ℕ) (rs : List ℕ) (a : ℕ) → chain_of s ≡ some rs → good_label l ≡ true → record_with s l ≡ some a → judge (open_table s l) ≡ none
open_passes s l rs a c g p = simp (ap is_some c, g, ap is_some p)

-- the readings of a right row follow
pub gives_back : (s : List ℕ) (label : ℕ) (t : List ℕ) → judge (open_table s label) ≡ none → row_length s label ≡ length t
    → row_bits (kind_of s) (row_part s label) (row_length s label) ≡ t → Right (kind_of s) (row_part s label) (row_length s label) → GivesBack s label t
gives_back s label t e n b r =
    record {
      opens = e;
      size = n;
      bits = b;
      right = r;
      look = λ i.
          ap (λ (o : Option ℕ). unless o refused (value (cell (row_bits (kind_of s) (row_part s label) (row_length s label)) i)))
          (after_lines (open_table s label) (below_line (row_length s label) i ∷ []) e)
          ∙ ap₂ (λ (m : ℕ) (z : List ℕ). unless (judge (below_line m i ∷ [])) refused (value (cell z i))) n b;
      count = λ v i o p.
          promise_exact (judge (open_table s label ++ (value_line v ∷ within_line (row_length s label) i ∷ []))) p r
          ∙ ap (λ (x : Option ℕ). unless x refused (value (rank (row_bits (kind_of s) (row_part s label) (row_length s label)) v i)))
          (after_lines (open_table s label) (value_line v ∷ within_line (row_length s label) i ∷ []) e)
          ∙ ap₂ (λ (m : ℕ) (z : List ℕ). unless (judge (value_line v ∷ within_line m i ∷ [])) refused (value (rank z v i))) n b;
      find = λ v k o p.
          promise_exact (judge (open_table s label ++ (value_line v ∷ absent_line (row_length s label) k ∷ []))) p r
          ∙ ap (λ (x : Option ℕ). unless x refused (found (select (row_bits (kind_of s) (row_part s label) (row_length s label)) v k)))
          (after_lines (open_table s label) (value_line v ∷ absent_line (row_length s label) k ∷ []) e)
          ∙ ap₂ (λ (m : ℕ) (z : List ℕ). unless (judge (value_line v ∷ absent_line m k ∷ [])) refused (found (select z v k))) n b
          ∙ absent_found (value_line v ∷ []) t v k;
    }

-- a promise in other words
promise_map : {A : Type 0} {table table' : Option ℕ} {refuse : ℕ → A} {late late' : A} {Fit Fit' : Type 0} {Loose Loose' : A → Type 0} {o : A} → table' ≡ table
    → late ≡ late' → (Fit' → Fit) → (Loose o → Loose' o) → Promise A table refuse late Fit Loose o → Promise A table' refuse late' Fit' Loose' o
promise_map e d f l p =
    record { early = λ n h. p.early n (sym e ∙ h); exact = λ h x. p.exact (sym e ∙ h) (f x) ∙ d; loose = λ h. l (p.loose (sym e ∙ h)) }

-- its readings follow from the rest
row_kept : (s t : List ℕ) (l : ℕ) → judge (open_table s l) ≡ none → judge (open_table t l) ≡ none → kind_of t ≡ kind_of s → row_place t l ≡ row_place s l
    → row_length t l ≡ row_length s l → drop 4 (row_part t l) ≡ drop 4 (row_part s l) → ((i : ℕ) → get_or (row_part s l) i 0 < 256)
    → ((i : ℕ) → get_or (row_part t l) i 0 < 256) → 4 ≤ length (row_part s l) → 4 ≤ length (row_part t l) → RowKept s t l
row_kept s t l es et kind p n d hs ht ks kt =
    let m : ℕ = row_length s l in
    let K : Kind = kind_of s in
    let b : row_bits (kind_of t) (row_part t l) (row_length t l) ≡ row_bits K (row_part s l) m =
    ap₂ (λ (j : Kind) (x : ℕ). row_bits j (row_part t l) x) kind n ∙ bits_kept 4 (row_part s l) (row_part t l) d (omega arith) K m in
    let same : Right (kind_of t) (row_part t l) (row_length t l) ≡ Right K (row_part t l) m = ap₂ (λ (j : Kind) (x : ℕ). Right j (row_part t l) x) kind n in
    let r : Right K (row_part s l) m → Right (kind_of t) (row_part t l) (row_length t l) =
    λ x. subst (λ (A : Type 0). A) (sym same) (right_kept K (row_part s l) (row_part t l) m d ht kt x) in
    let w : Right (kind_of t) (row_part t l) (row_length t l) → Right K (row_part s l) m =
    λ x. right_kept K (row_part t l) (row_part s l) m (sym d) hs ks (subst (λ (A : Type 0). A) same x) in
    let table : (f : ℕ → List Line) → judge (open_table s l ++ f m) ≡ judge (open_table t l ++ f (row_length t l)) =
    λ f. after_lines (open_table s l) (f m) es ∙ ap (λ (x : ℕ). judge (f x)) (sym n) ∙ sym (after_lines (open_table t l) (f (row_length t l)) et) in
    let ranked : (v i : ℕ) → value (rank (row_bits (kind_of t) (row_part t l) (row_length t l)) v i) ≡ value (rank (row_bits K (row_part s l) m) v i) =
    λ v i. ap (λ (z : List ℕ). value (rank z v i)) b in
    let selected : (v k : ℕ) → found (select (row_bits (kind_of t) (row_part t l) (row_length t l)) v k) ≡ found (select (row_bits K (row_part s l) m) v k) =
    λ v k. ap (λ (z : List ℕ). found (select z v k)) b in
    record {
      was = es;
      opens = et;
      kind = kind;
      place = p;
      size = n;
      rest = d;
      bits = b;
      right = r;
      only = w;
      look = λ i.
          ap₂ (λ (o : Option ℕ) (z : List ℕ). unless o refused (value (cell z i))) (sym (table (λ x. below_line x i ∷ []))) b;
      count = λ v i o q. promise_map (table (λ x. value_line v ∷ within_line x i ∷ [])) (ranked v i) r (λ x. x) q;
      count_only = λ v i o q. promise_map (sym (table (λ x. value_line v ∷ within_line x i ∷ []))) (sym (ranked v i)) w (λ x. x) q;
      find = λ v k o q. promise_map (table (λ x. value_line v ∷ absent_line x k ∷ [])) (selected v k) r (subst (λ (x : ℕ). Below 15 x o) n) q;
      find_only = λ v k o q.
          promise_map (sym (table (λ x. value_line v ∷ absent_line x k ∷ []))) (sym (selected v k)) w (subst (λ (x : ℕ). Below 15 x o) (sym n)) q;
    }

-- ---- the rows of a frozen image
module _ (s : List ℕ) (label : ℕ) (t : List ℕ) (f : Freezable s label t) where
  -- the records are those before, then the new one
  records_frozen : records_of (frozen s label t) ≡ records_of s ++ (chain_end (kind_of s) s (records_of s) ∷ [])
  records_frozen = ap records_in (frozen_chain s label t f)

  -- each record that was there is kept
  each_kept : (i : ℕ) → i < length (records_of s) → Kept (kind_of s) s (frozen s label t) (get_or (records_of s) i 0)
  each_kept i h =
      let c = chain_facts s (records_of s) f.chain in
      record_kept (frozen_grown s label t f) (get_or (records_of s) i 0) (c.each i h).facts (c.within i h) (link_after c i h)

  -- the record of a label: the one that was there, or the new one
  record_frozen : (l : ℕ) → record_with (frozen s label t) l ≡ or_else (record_with s l) (cond (eqb label l) (some (chain_end (kind_of s) s (records_of s))) none)
  unfolding place_of
  record_frozen l =
      ap (place_of (frozen s label t) l) records_frozen
      ∙ place_append (frozen s label t) l (records_of s) (chain_end (kind_of s) s (records_of s) ∷ [])
      ∙ ap₂ (λ (o : Option ℕ) (x : ℕ). or_else o (cond (eqb x l) (some (chain_end (kind_of s) s (records_of s))) none))
      (place_same s (frozen s label t) l (records_of s) (λ i h. (each_kept i h).label)) (frozen_grown s label t f).its

  -- no other label comes in
  pub frozen_absent : (l : ℕ) → record_with s l ≡ none → (label ≡ l → ⊥) → record_with (frozen s label t) l ≡ none
  frozen_absent l p n = record_frozen l ∙ simp (p, ne_eqb label l n)

  -- the new row is at the end
  frozen_place : record_with (frozen s label t) label ≡ some (chain_end (kind_of s) s (records_of s))
  frozen_place = record_frozen label ∙ simp (f.absent, eq-eqb label label refl)

  -- reading a frozen row gives the strip back
  pub frozen_gives : GivesBack (frozen s label t) label t
  frozen_gives =
      let u : List ℕ = frozen s label t in
      let K : Kind = kind_of s in
      let F = image_fits s in
      let kind : kind_of u ≡ K = frozen_kind s label t f in
      let p : row_place u label ≡ chain_end K s (records_of s) = ap (place_in 0) frozen_place in
      let q : row_part u label ≡ record_of K 0 label t = ap₂ (λ (j : Kind) (x : ℕ). part_at j u x) kind p ∙ frozen_part s label t f in
      let n : row_length u label ≡ length t = ap (length_at u) p ∙ frozen_length s label t f in
      let r : Right K (row_part u label) (length t) =
      subst (λ (z : List ℕ). Right K z (length t)) (sym q) (record_right K 0 label t f.bits F (lit< tt) (omega (arith, f.high))) in
      gives_back u label t
      (open_passes u label (records_of s ++ (chain_end K s (records_of s) ∷ [])) (chain_end K s (records_of s)) (frozen_chain s label t f)
      (label_good label f.low f.high) frozen_place)
      n
      (ap (λ (j : Kind). row_bits j (row_part u label) (row_length u label)) kind ∙ ap₂ (row_bits K) q n ∙ record_bits K 0 label t f.bits F)
      (subst (λ (j : Kind). Right j (row_part u label) (row_length u label)) (sym kind) (subst (Right K (row_part u label)) (sym n) r))

  -- every row that was there before is unchanged, right or wrong
  pub frozen_kept : ((i : ℕ) → get_or s i 0 < 256) → (l : ℕ) → judge (open_table s l) ≡ none → RowKept s (frozen s label t) l
  frozen_kept small l e =
      let u : List ℕ = frozen s label t in
      let K : Kind = kind_of s in
      let kind : kind_of u ≡ K = frozen_kind s label t f in
      let o = opened s l e in
      let a : ℕ = row_place s l in
      let r : record_with u l ≡ some a = record_frozen l ∙ ap (λ (x : Option ℕ). or_else x (cond (eqb label l) (some (chain_end K s (records_of s))) none))
      o.found in
      let p : row_place u l ≡ a = ap (place_in 0) r in
      let w = place_found s l (records_of s) a o.found in
      let k : Kept K s u a = subst (Kept K s u) w.here (each_kept w.index w.within) in
      let n : row_length u l ≡ row_length s l = ap (length_at u) p ∙ k.size in
      let g = o.placed.facts in
      let small-u : (i : ℕ) → get_or u i 0 < 256 = frozen_small s label t f small in
      let long-u : length u ≡ length s = (frozen_grown s label t f).long in
      let same : row_part u l ≡ part_at K u a = ap₂ (λ (j : Kind) (x : ℕ). part_at j u x) kind p in
      let ps : length (row_part s l) ≡ size_of K (length_at s a) = part_size K s a g.inside in
      let pu : length (row_part u l) ≡ size_of K (length_at u a) =
      ap length same ∙ part_size K u a (omega (arith, long-u, g.inside, ap (size_of K) k.size)) in
      row_kept s u l e
      (open_passes u l (records_of s ++ (chain_end K s (records_of s) ∷ [])) a (frozen_chain s label t f) (label_good l o.low o.high) r) kind p n
      (ap (drop 4) same ∙ k.rest)
      (part_small K s a small) (λ i. subst (λ (x : List ℕ). get_or x i 0 < 256) (sym same) (part_small K u a small-u i))
      (omega arith) (omega (arith, pu))

-- ---- an accepted freeze
module _ (h : Handle) (ws s : List ℕ) (label : ℕ) (e : judge (freeze_table h (length ws) s label) ≡ none) where
  -- the image that it leaves
  abbrev image_left : List ℕ
  image_left = (freeze_outcome h ws s label).image

  freeze_image : image_left ≡ frozen s label (strip_of ws h.length)
  freeze_image =
      ap (λ (o : Option ℕ). (unless o (λ n. image_outcome (refused n) s)
      (image_outcome (value (chain_end (kind_of s) s (records_of s) / unit_bytes)) (frozen s label (strip_of ws h.length)))).image) e

  -- gives the strip back
  pub freeze_gives : GivesBack image_left label (strip_of ws h.length)
  freeze_gives =
      subst (λ (u : List ℕ). GivesBack u label (strip_of ws h.length)) (sym freeze_image)
      (frozen_gives s label (strip_of ws h.length) (freezable h ws s label e))

  -- and keeps every row that was there before
  pub freeze_kept : ((i : ℕ) → get_or s i 0 < 256) → (l : ℕ) → judge (open_table s l) ≡ none → RowKept s image_left l
  freeze_kept small l o =
      subst (λ (u : List ℕ). RowKept s u l) (sym freeze_image)
      (frozen_kept s label (strip_of ws h.length) (freezable h ws s label e) small l o)

  -- look on the row is look on the strip
  pub freeze_look : (i : ℕ) → row_get_told image_left label i ≡ get_told h ws i
  freeze_look i =
      let n = strip_length ws h.length in
      let p = passed_both (strip_lines h (length ws) untaken) (record_lines s label (size_of (kind_of s) h.length)) e in
      freeze_gives.look i
      ∙ ap (λ (x : ℕ). unless (judge (below_line x i ∷ [])) refused (value (cell (strip_of ws h.length) i))) n
      ∙ ap (λ (o : Option ℕ). unless o refused (value (cell (strip_of ws h.length) i))) (sym (after_lines (strip_lines h (length ws) untaken) (below_line h.length i ∷ []) p.0))

  -- count on the row is count on a record of the strip that fits
  pub freeze_count : (cs : List ℕ) → Fits h ws cs → judge (checks h (length ws) (length cs)) ≡ none → (v i : ℕ) (o p : Told) → RowRanked image_left label v i o → Ranked h v i ws cs p
      → o ≡ p
  freeze_count cs fit c v i o p a b =
      let n = strip_length ws h.length in
      let t : List ℕ = strip_of ws h.length in
      freeze_gives.count v i o a
      ∙ ap (λ (x : ℕ). unless (judge (value_line v ∷ within_line x i ∷ [])) refused (value (rank t v i))) n
      ∙ ap (λ (x : Option ℕ). unless x refused (value (rank t v i))) (sym (after_lines (checks h (length ws) (length cs)) (value_line v ∷ within_line h.length i ∷ []) c))
      ∙ sym (promise_exact (judge (rank_table h (length ws) (length cs) v i)) b fit)

  -- find likewise
  pub freeze_find : (cs : List ℕ) → Fits h ws cs → judge (checks h (length ws) (length cs)) ≡ none → (v k : ℕ) (o p : Told) → RowSelected image_left label v k o
      → Selected h v k ws cs p → o ≡ p
  freeze_find cs fit c v k o p a b =
      let t : List ℕ = strip_of ws h.length in
      freeze_gives.find v k o a
      ∙ ap (λ (x : Option ℕ). unless x refused (found (select t v k))) (sym (after_lines (checks h (length ws) (length cs)) (value_line v ∷ []) c))
      ∙ sym (select_fits h ws cs v k p fit b)
