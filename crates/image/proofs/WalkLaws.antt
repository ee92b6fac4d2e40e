-- The walk of a chain: what holds at the head of its loop, and how it goes on. Assumes nothing.
use mathlib.Core.Path.{◌≡◌, refl, sym, ap, ◌∙◌, subst}
use mathlib.Core.Bool.{Bool, true, false, cond, not, ◌&&◌, ◌||◌}
use mathlib.Core.List.{List, [], ◌∷◌, ◌++◌, append-nil}
use mathlib.Core.Option.{Option, some, none}
use Prim.Native.Nat.{ℕ, zero, suc, ◌+◌, ◌-◌, ◌*◌, ◌<◌, ◌≤◌}
use native.Mathlib.Omega.{arith}
use lib.ListN.{length, get_or, set, replicate, length-append, length-replicate, get_or-replicate, length-set}
use lib.Seq.{get_or-set_same, get_or-set_other, append_snoc}
use lib.Dec.{eqb}
use borrow.Author.Tests.{eq-eqb, ne_eqb, eqb-true, eqb-false}
use Rattle.words.specs.Strip.{or_else}
use Rattle.std.specs.Prelude.{Result, Ok, Err, Some, None, unwrap_or}
use Rattle.std.proofs.lemmas.Option.{MatchOption-at_some}
use Rattle.std.specs.Prelude as rust
use Rattle.words.specs.declared.refusal.Refusal.{Refusal}
use Rattle.words.specs.declared.refusal.Refusal.TheVariants.{Unsound}
use Rattle.image.specs.declared.chain.Scan.{Scan}
use Rattle.image.specs.Bytes.{num}
use Rattle.image.specs.Layout.{unit_bytes, most_label}
use Rattle.image.specs.Chain.{kind_of, next_at, label_at, end_at, sound_header, sound_record, among, in_front, chain_of, place_of, chain_end, link_of}
use Rattle.image.specs.Calls.{records_in, records_of, record_with}
use Rattle.image.specs.Walk.{RecordAt, found_at, scanned, scan_of}
use Rattle.image.proofs.ChainLaws.{no_confusion, header_sound, RecordFacts, record_facts, none_some, not_stopped, rest_from, rest_end, rest_unsound, rest_more, chain_rest, among_first, among_rest}
use Rattle.image.proofs.ChainLaws.{place_append, link_last, end_last, chain_facts, chain_few}

-- the records walked, and then others
abbrev pub onto : List ℕ → Option (List ℕ) → Option (List ℕ)
onto past none = none
onto past (some bs) = some (past ++ bs)

-- none walked
onto_none : (o : Option (List ℕ)) → onto [] o ≡ o
onto_none none = refl
onto_none (some bs) = refl

-- one more walked
onto_more : (past : List ℕ) (a : ℕ) (o : Option (List ℕ)) → onto (past ++ (a ∷ [])) o ≡ onto past (in_front a o)
onto_more past a none = refl
onto_more past a (some bs) = ap some (append_snoc past a bs)

-- others after the records walked make a whole chain
onto_some : (past : List ℕ) (o : Option (List ℕ)) (rs : List ℕ) → onto past o ≡ some rs → (rest : List ℕ) × (o ≡ some rest) × (past ++ rest ≡ rs)
onto_some past none rs e = none_some refl e
onto_some past (some bs) rs e = (bs, refl, cc)

-- ---- the walk of any chain
-- a walk that stands at byte `at` after the records `past`, whose labels are `met`
pub record Walked (s : List ℕ) (at : ℕ) (met past : List ℕ) : Type 0 where
  pub steps : ℕ
  pub enough : (at ≡ 0 → ⊥) → length s < at + steps
  pub same : onto past (rest_from (kind_of s) steps s at met) ≡ chain_of s

-- where it starts
walked_none : (s : List ℕ) → sound_header s ≡ true → Walked s (unit_bytes * num s 0 4) [] []
walked_none s h = record { steps = length s; enough = λ n. omega arith; same = onto_none _ ∙ sym (chain_rest s h) }

-- it stops at a record that is not sound, or whose label was met
walked_stops : {s : List ℕ} {at : ℕ} {met past : List ℕ} → Walked s at met past → (at ≡ 0 → ⊥)
    → (sound_record (kind_of s) s at && not (among (label_at s at) met)) ≡ false
    → chain_of s ≡ none
walked_stops {s} {at} {met} {past} w n h = sym w.same ∙ ap (onto past) (rest_unsound (kind_of s) w.steps s at met n h)

-- a turn
walked_more : {s : List ℕ} {at : ℕ} {met past : List ℕ} → Walked s at met past → (at ≡ 0 → ⊥) → sound_record (kind_of s) s at ≡ true
    → among (label_at s at) met ≡ false
    → Walked s (unit_bytes * next_at s at) (label_at s at ∷ met) (past ++ (at ∷ []))
walked_more {s} {at} {met} {past} w n h m = go w.steps refl
  where
    go : (steps : ℕ) → w.steps ≡ steps → Walked s (unit_bytes * next_at s at) (label_at s at ∷ met) (past ++ (at ∷ []))
    go zero q = absurd (omega (arith, w.enough n, (record_facts (kind_of s) s at h).room))
    go (suc steps) q =
        record {
          steps = steps;
          enough = λ z. omega (arith, w.enough n, (record_facts (kind_of s) s at h).ahead (λ y. z (omega arith)));
          same =
              onto_more past at (rest_from (kind_of s) steps s (unit_bytes * next_at s at) (label_at s at ∷ met))
              ∙ ap (onto past) (sym (rest_more (kind_of s) steps s at met n h m) ∙ ap (λ (k : ℕ). rest_from (kind_of s) k s at met) (sym q))
              ∙ w.same;
        }

-- where it ends
walked_done : {s : List ℕ} {at : ℕ} {met past : List ℕ} → Walked s at met past → at ≡ 0 → chain_of s ≡ some past
walked_done {s} {at} {met} {past} w z = sym w.same ∙ ap (onto past) (rest_end (kind_of s) w.steps s at met z) ∙ ap some (append-nil past)

-- what is left to walk
unfoldable pub left : ℕ → ℕ → ℕ
left n at = cond (eqb at 0) 0 (suc (n - at))

-- a turn leaves less
left_less : (s : List ℕ) (at : ℕ) → (at ≡ 0 → ⊥) → RecordFacts (kind_of s) s at → left (length s) (unit_bytes * next_at s at) < left (length s) at
unfolding left
left_less s at n f = simp (ne_eqb at 0 n) (go (eqb (unit_bytes * next_at s at) 0) refl)
  where
    go : (t : Bool) → eqb (unit_bytes * next_at s at) 0 ≡ t → cond t 0 (suc (length s - unit_bytes * next_at s at)) < suc (length s - at)
    go true p = omega arith
    go false p = omega (arith, f.room, f.ahead (λ z. eqb-false (unit_bytes * next_at s at) 0 p (omega arith)))

-- ---- the record that a walk stands at, as the code has it
-- P holds of its byte, or of 0 where the walk has ended
pub record Standing (P : ℕ → Type 0) (o : rust.Option ℕ) : Type 0 where
  pub byte : ℕ
  pub stands : RecordAt o byte
  pub holds : P byte

-- at a record
pub standing_here : {P : ℕ → Type 0} {o : rust.Option ℕ} {a : ℕ} → Standing P o → o ≡ Some a → P a × (a ≡ 0 → ⊥)
standing_here {P} {o} {a} w e = let k = MatchOption-at_some (w.byte ≡ 0) (λ b. (b ≡ w.byte) × (0 < b)) a e w.stands in (subst P (sym k.0) w.holds, λ z. omega arith)

-- at the end
pub standing_end : {P : ℕ → Type 0} {o : rust.Option ℕ} → Standing P o → o ≡ None → P 0
standing_end {P} {o} w e = go o e w.stands
  where
    go : (o : rust.Option ℕ) → o ≡ None → RecordAt o w.byte → P 0
    go None e z = subst P z w.holds
    go (Some a) e z = no_confusion cc

-- the byte, 0 where the walk has ended
standing_byte : (o : rust.Option ℕ) (x : ℕ) → RecordAt o x → unwrap_or o 0 ≡ x
standing_byte None x z = sym z
standing_byte (Some b) x z = z.0

-- one byte, one record
pub record_one : (o q : rust.Option ℕ) (x : ℕ) → RecordAt o x → RecordAt q x → o ≡ q
record_one None None x z y = refl
record_one None (Some b) x z y = absurd (omega (arith, z, y.0, y.1))
record_one (Some a) None x z y = absurd (omega (arith, y, z.0, z.1))
record_one (Some a) (Some b) x z y = ap Some (z.0 ∙ sym y.0)

-- the record at byte `at`, or another, by a test
pub record_or : (t : Bool) (at x : ℕ) (o : rust.Option ℕ) → (at ≡ 0 → ⊥) → RecordAt o x → RecordAt (cond t (Some at) o) (cond t at x)
record_or true at x o n z = (refl, omega (arith, n))
record_or false at x o n z = z

-- a turn leaves less
pub left_turn : (s : List ℕ) (a : ℕ) (o q : rust.Option ℕ) → o ≡ Some a → (a ≡ 0 → ⊥) → RecordFacts (kind_of s) s a → RecordAt q (unit_bytes * next_at s a)
    → left (length s) (unwrap_or q 0) < left (length s) (unwrap_or o 0)
left_turn s a o q e n f z = rw (e, standing_byte q _ z) (left_less s a n f)

-- ---- the walk of a sound chain
-- one that stands at byte `at` after the records `past`
pub record SoundWalk (s : List ℕ) (at : ℕ) (past : List ℕ) : Type 0 where
  pub met : List ℕ
  pub walked : Walked s at met past
  pub chain : chain_of s ≡ some (records_of s)

-- where it starts
pub walk_none : (s : List ℕ) → chain_of s ≡ some (records_of s) → SoundWalk s (unit_bytes * num s 0 4) []
walk_none s e = record { met = []; walked = walked_none s (header_sound s (chain_facts s (records_of s) e).header); chain = e }

-- where it has not ended it stands at a sound record, and goes on
pub record Turn (s : List ℕ) (at : ℕ) (past : List ℕ) : Type 0 where
  pub facts : RecordFacts (kind_of s) s at
  pub more : SoundWalk s (unit_bytes * next_at s at) (past ++ (at ∷ []))
  pub rest : List ℕ
  pub whole : past ++ (at ∷ rest) ≡ records_of s

pub walk_turn : {s : List ℕ} {at : ℕ} {past : List ℕ} → SoundWalk s at past → (at ≡ 0 → ⊥) → Turn s at past
walk_turn {s} {at} {past} w n =
    let here = onto_some past (rest_from (kind_of s) w.walked.steps s at w.met) (records_of s) (w.walked.same ∙ w.chain) in
    let q = not_stopped (kind_of s) w.walked.steps s at w.met here.0 here.1 n in
    let more = walked_more w.walked n q.0 q.1 in
    let next : ℕ = unit_bytes * next_at s at in
    let later = onto_some (past ++ (at ∷ [])) (rest_from (kind_of s) more.steps s next (label_at s at ∷ w.met)) (records_of s) (more.same ∙ w.chain) in
    record {
      facts = record_facts (kind_of s) s at q.0;
      more = record { met = label_at s at ∷ w.met; walked = more; chain = w.chain };
      rest = later.0;
      whole = sym (append_snoc past at later.0) ∙ later.2;
    }

-- fewer records than there are labels lie before it
pub walk_few : {s : List ℕ} {at : ℕ} {past : List ℕ} → SoundWalk s at past → (at ≡ 0 → ⊥) → length past + 1 ≤ most_label
walk_few {s} {at} {past} w n =
    let t = walk_turn w n in
    omega (arith, ap length t.whole, length-append past (at ∷ t.rest), chain_few s (records_of s) w.chain)

-- where it ends it has met every record
pub walk_done : {s : List ℕ} {at : ℕ} {past : List ℕ} → SoundWalk s at past → at ≡ 0 → past ≡ records_of s
walk_done w z = ap records_in (sym (walked_done w.walked z))

-- ---- the scan
-- what a scan tells where the chain is not sound
pub scan_unsound : (s : List ℕ) (label : ℕ) → chain_of s ≡ none → Err Unsound ≡ scan_of s label
scan_unsound s label e = simp e

-- one label more
mark_more : (flags : List Bool) (met : List ℕ) (l : ℕ) → length flags ≡ most_label + 1 → l < most_label + 1
    → ((k : ℕ) → k < most_label + 1 → get_or flags k false ≡ among k met) → (k : ℕ) → k < most_label + 1
    → get_or (set flags l true) k false ≡ among k (l ∷ met)
unfolding among
mark_more flags met l e i h k j = go (eqb k l) refl
  where
    go : (t : Bool) → eqb k l ≡ t → get_or (set flags l true) k false ≡ (eqb k l || among k met)
    go true p =
        let q : k ≡ l = eqb-true k l p in
        simp (q, eq-eqb l l refl, get_or-set_same flags l true false (omega arith))
    go false p = simp (p, get_or-set_other flags l k true false (eqb-false k l p), h k j)

-- a label that was not met has no record among those walked
absent_more : (s : List ℕ) (past met : List ℕ) (a : ℕ) → ((l : ℕ) → among l met ≡ false → place_of s l past ≡ none)
    → (l : ℕ) → among l (label_at s a ∷ met) ≡ false → place_of s l (past ++ (a ∷ [])) ≡ none
unfolding place_of
absent_more s past met a h l e =
    let n : eqb (label_at s a) l ≡ false = ne_eqb _ _ (λ z. among_first l (label_at s a) met e (sym z)) in
    place_append s l past (a ∷ []) ∙ simp (h l (among_rest l (label_at s a) met e), n)

-- a walk with a flag for each label met, and what it tells of the records walked
pub record Scanned (s : List ℕ) (label at : ℕ) (flags : List Bool) (link end : ℕ) (found : rust.Option ℕ) : Type 0 where
  pub past : List ℕ
  pub met : List ℕ
  pub walked : Walked s at met past
  pub flagged : length flags ≡ most_label + 1
  pub marks : (k : ℕ) → k < most_label + 1 → get_or flags k false ≡ among k met
  pub absent : (l : ℕ) → among l met ≡ false → place_of s l past ≡ none
  pub linked : link ≡ link_of past
  pub ended : end ≡ chain_end (kind_of s) s past
  pub placed : found ≡ found_at (place_of s label past)

-- where it starts
pub scanned_none : (s : List ℕ) (label : ℕ) → sound_header s ≡ true → Scanned s label (unit_bytes * num s 0 4) (replicate (most_label + 1) false) 0 unit_bytes None
unfolding link_of chain_end place_of among
scanned_none s label h =
    record {
      past = [];
      met = [];
      walked = walked_none s h;
      flagged = length-replicate (most_label + 1) false;
      marks = λ k l. get_or-replicate (most_label + 1) k false false l;
      absent = λ l e. refl;
      linked = refl;
      ended = refl;
      placed = refl;
    }

-- the label's record, with one record more
pub placed_more : (s : List ℕ) (label at : ℕ) (past : List ℕ) (found : rust.Option ℕ) → found ≡ found_at (place_of s label past)
    → (label_at s at ≡ label → place_of s label past ≡ none)
    → cond (eqb (label_at s at) label) (Some at) found ≡ found_at (place_of s label (past ++ (at ∷ [])))
unfolding place_of
placed_more s label at past found e h = go (eqb (label_at s at) label) refl ∙ ap found_at (sym (place_append s label past (at ∷ [])))
  where
    or_none : (o : Option ℕ) → or_else o none ≡ o
    or_none none = refl
    or_none (some a) = refl

    go : (t : Bool) → eqb (label_at s at) label ≡ t
        → cond t (Some at) found ≡ found_at (or_else (place_of s label past) (cond (eqb (label_at s at) label) (some at) none))
    go true p = simp (p, h (eqb-true _ _ p))
    go false p = simp (p, or_none) e

-- a scan that stands at byte `at`, not at the end
module _ {s : List ℕ} {label at : ℕ} {flags : List Bool} {link end : ℕ} {found : rust.Option ℕ} (w : Scanned s label at flags link end found) (n : at ≡ 0 → ⊥) where
  -- at a record that is not sound
  pub scanned_unsound : sound_record (kind_of s) s at ≡ false → Err Unsound ≡ scan_of s label
  scanned_unsound h = scan_unsound s label (walked_stops w.walked n (simp h))

  -- at a sound one whose label, as the code has read it, has a flag or none
  module _ (h : sound_record (kind_of s) s at ≡ true) (here : ℕ) (q : here ≡ label_at s at) where
    -- whether the label was met
    met_is : get_or flags here false ≡ among (label_at s at) w.met
    met_is = ap (λ (k : ℕ). get_or flags k false) q ∙ w.marks (label_at s at) (omega (arith, (record_facts (kind_of s) s at h).high))

    pub scanned_again : get_or flags here false ≡ true → Err Unsound ≡ scan_of s label
    scanned_again m = let i = sym met_is ∙ m in scan_unsound s label (walked_stops w.walked n (simp (h, i)))

    -- a turn
    pub scanned_more : (next last : ℕ) (spot : rust.Option ℕ) → next ≡ unit_bytes * next_at s at → last ≡ end_at (kind_of s) s at → get_or flags here false ≡ false
        → spot ≡ cond (eqb here label) (Some at) found → Scanned s label next (set flags here true) at last spot
    scanned_more next last spot p e m f =
        let i : label_at s at < most_label + 1 = omega (arith, (record_facts (kind_of s) s at h).high) in
        let u : among (label_at s at) w.met ≡ false = sym met_is ∙ m in
        rw (p, q)
        (record {
          past = w.past ++ (at ∷ []);
          met = label_at s at ∷ w.met;
          walked = walked_more w.walked n h u;
          flagged = length-set flags (label_at s at) true ∙ w.flagged;
          marks = mark_more flags w.met (label_at s at) w.flagged i w.marks;
          absent = absent_more s w.past w.met at w.absent;
          linked = sym (link_last w.past at);
          ended = e ∙ sym (end_last (kind_of s) s w.past at);
          placed =
              f
              ∙ ap (λ (l : ℕ). cond (eqb l label) (Some at) found) q
              ∙ placed_more s label at w.past found w.placed (λ z. rw (← z) (w.absent (label_at s at) u));
        })

-- where it ends
pub scanned_done : {s : List ℕ} {label at : ℕ} {flags : List Bool} {link end : ℕ} {found : rust.Option ℕ} → Scanned s label at flags link end found
    → at ≡ 0 → Ok (record { link = link; end = end; found = found }) ≡ scan_of s label
scanned_done {s} {label} w z = simp (walked_done w.walked z, w.linked, w.ended, w.placed)

-- what a scan of a sound chain tells
pub record ScanFacts (s : List ℕ) (label : ℕ) (scan : Scan) : Type 0 where
  pub chain : chain_of s ≡ some (records_of s)
  pub linked : scan.link ≡ link_of (records_of s)
  pub ended : scan.end ≡ chain_end (kind_of s) s (records_of s)
  pub placed : scan.found ≡ found_at (record_with s label)

-- a scan that is told sound
pub scan_facts : (s : List ℕ) (label : ℕ) (r : Result Scan Refusal) (scan : Scan) → r ≡ scan_of s label → r ≡ Ok scan → ScanFacts s label scan
scan_facts s label r scan e d = go (chain_of s) refl (sym d ∙ e)
  where
    go : (o : Option (List ℕ)) → chain_of s ≡ o → ◌≡◌ {A = Result Scan Refusal} (Ok scan) (scanned s label o) → ScanFacts s label scan
    go none p q = no_confusion cc
    go (some rs) p q =
        let r : records_of s ≡ rs = ap records_in p in
        record {
          chain = p ∙ ap some (sym r);
          linked = rw r cc;
          ended = rw r cc;
          placed = rw r cc;
        }

-- one that is refused
pub scan_none : (s : List ℕ) (label : ℕ) (r : Refusal) → Err r ≡ scan_of s label → (chain_of s ≡ none) × (r ≡ Unsound)
scan_none s label r e = go (chain_of s) refl e
  where
    go : (o : Option (List ℕ)) → chain_of s ≡ o → ◌≡◌ {A = Result Scan Refusal} (Err r) (scanned s label o) → (chain_of s ≡ none) × (r ≡ Unsound)
    go none p q = (p, cc)
    go (some rs) p q = no_confusion cc
