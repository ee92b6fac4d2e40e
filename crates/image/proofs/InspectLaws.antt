-- The inspection: accepted exactly where an image obeys the layout, each refusal exactly where its line says, and the walk over the rows. Assumes nothing.
use mathlib.Core.Path.{◌≡◌, refl, sym, ap, ap₂, subst, ◌∙◌}
use mathlib.Core.Bool.{Bool, true, false, ◌&&◌}
use mathlib.Core.List.{List, [], ◌∷◌, ◌++◌}
use mathlib.Core.Option.{Option, some, none}
use Prim.Native.Nat.{ℕ, zero, suc, ◌+◌, ◌*◌, ◌<◌, ◌≤◌}
use native.Mathlib.Omega.{arith}
use lib.ListN.{length, get_or, length-append}
use Rattle.words.specs.declared.refusal.Refusal.{Refusal}
use Rattle.std.specs.Prelude.{Result, Ok, Err}
use Rattle.words.specs.Refusals.{number_of, judge, unless, Told, value, refused, told_of}
use Rattle.words.proofs.BoolLaws.{and_intro, and_first, and_second, true_false}
use Rattle.image.specs.Bytes.{num}
use Rattle.image.specs.Kinds.{Kind}
use Rattle.image.specs.Layout.{unit_bytes, most_label}
use Rattle.image.specs.Chain.{kind_of, next_at, length_at, chain_of}
use Rattle.image.specs.Rows.{part_at, Right, right_part, RightAt, Obeys, HasWrongRow}
use Rattle.image.specs.Shelf.{Labelled, written}
use Rattle.image.specs.Calls.{is_some, records_in, records_of, all_right, inspect_table, inspect_told, good_part}
use Rattle.image.proofs.KindLaws.{KindFits, KindNamed}
use Rattle.image.proofs.RightLaws.{right_test, test_right}
use Rattle.image.proofs.ChainLaws.{no_confusion, RecordFacts, some_in, value_told, refused_told}
use Rattle.image.proofs.WalkLaws.{SoundWalk, Turn, walk_none, walk_turn, walk_few, walk_done}
use Rattle.image.proofs.RowLaws.{part_held, part_good}
use Rattle.image.proofs.ShelfLaws.{Good, places, length_places, written_kind, written_chain, written_records, written_row}

-- ---- right rows
-- the test of a row at byte a
abbrev pub row_test : List ℕ → ℕ → Bool
row_test s a = right_part (kind_of s) (part_at (kind_of s) s a) (length_at s a)

-- rows that the test finds right
all_right_lem : (s rs : List ℕ) → all_right s rs ≡ true → (i : ℕ) → i < length rs → RightAt (kind_of s) s (get_or rs i 0)
unfolding all_right
all_right_lem s [] h i l = absurd (omega arith)
all_right_lem s (a ∷ rs) h zero l = test_right (kind_of s) (part_at (kind_of s) s a) (length_at s a) (and_first (row_test s a) (all_right s rs) h)
all_right_lem s (a ∷ rs) h (suc i) l = all_right_lem s rs (and_second (row_test s a) (all_right s rs) h) i (omega arith)

-- the test finds right rows
right_all : (s rs : List ℕ) → ((i : ℕ) → i < length rs → RightAt (kind_of s) s (get_or rs i 0)) → all_right s rs ≡ true
unfolding all_right
right_all s [] h = refl
right_all s (a ∷ rs) h =
    and_intro (right_test (kind_of s) (part_at (kind_of s) s a) (length_at s a) (h 0 (omega arith))) (right_all s rs (λ i l. h (suc i) (omega arith)))

-- the first row right, or not
all_more : (s : List ℕ) (a : ℕ) (rs : List ℕ) → row_test s a ≡ true → all_right s (a ∷ rs) ≡ all_right s rs
unfolding all_right
all_more s a rs h = simp (h, all_right)

all_wrong : (s : List ℕ) (a : ℕ) (rs : List ℕ) → row_test s a ≡ false → all_right s (a ∷ rs) ≡ false
unfolding all_right
all_wrong s a rs h = simp (h, all_right)

-- the rows of some records, then of others
all_append : (s xs ys : List ℕ) → all_right s (xs ++ ys) ≡ (all_right s xs && all_right s ys)
unfolding all_right
all_append s [] ys = refl
all_append s (a ∷ xs) ys = ap (λ (t : Bool). row_test s a && t) (all_append s xs ys) ∙ sym (and_assoc (row_test s a) (all_right s xs) (all_right s ys))
  where
    and_assoc : (t u v : Bool) → (t && u && v) ≡ (t && (u && v))
    and_assoc true u v = refl
    and_assoc false u v = refl

-- where the test fails, some row is not right
wrong_one : (s rs : List ℕ) → all_right s rs ≡ false → (i : ℕ) × (i < length rs) × (RightAt (kind_of s) s (get_or rs i 0) → ⊥)
unfolding all_right
wrong_one s [] h = absurd (true_false refl h)
wrong_one s (a ∷ rs) h = go (row_test s a) refl (wrong_one s rs)
  where
    go : (t : Bool) → row_test s a ≡ t → (all_right s rs ≡ false → (i : ℕ) × (i < length rs) × (RightAt (kind_of s) s (get_or rs i 0) → ⊥))
        → (i : ℕ) × (i < length (a ∷ rs)) × (RightAt (kind_of s) s (get_or (a ∷ rs) i 0) → ⊥)
    go true p later =
        let w = later (sym (all_more s a rs p) ∙ h) in
        (suc w.0, omega (arith, w.1), w.2)
    go false p later = (0, omega arith, λ r. true_false (right_test (kind_of s) (part_at (kind_of s) s a) (length_at s a) r) p)

-- ---- what the inspection tells
-- 10 the chain is not sound
pub inspect_unsound : (s : List ℕ) → chain_of s ≡ none → inspect_told s ≡ refused 10
inspect_unsound s e = simp e

-- 15 some row is not right
wrong_told : (s rs : List ℕ) → chain_of s ≡ some rs → all_right s rs ≡ false → inspect_told s ≡ refused 15
wrong_told s rs e h = simp (e, h)

-- else the number of rows
right_told : (s rs : List ℕ) → chain_of s ≡ some rs → all_right s rs ≡ true → inspect_told s ≡ value (length rs)
right_told s rs e h = simp (e, h)

-- an image that obeys the layout is accepted
pub inspect_accepts : (s : List ℕ) → Obeys s → inspect_told s ≡ value (length (records_of s))
inspect_accepts s o =
    right_told s o.records o.sound (right_all s o.records o.right) ∙ ap (λ (c : Option (List ℕ)). value (length (records_in c))) (sym o.sound)

-- a row that is not right is told
pub inspect_wrong : (s : List ℕ) → HasWrongRow s → inspect_told s ≡ refused 15
inspect_wrong s w = go (all_right s w.records) refl
  where
    go : (t : Bool) → all_right s w.records ≡ t → inspect_told s ≡ refused 15
    go true p = absurd (w.wrong (all_right_lem s w.records p w.index w.within))
    go false p = wrong_told s w.records w.sound p

-- the three cases, and what each is told
pub data Inspection (s : List ℕ) : Told → Type 0 where
  is_unsound : chain_of s ≡ none → Inspection s (refused 10)
  is_wrong : HasWrongRow s → Inspection s (refused 15)
  is_right : Obeys s → Inspection s (value (length (records_of s)))

-- there is no other
pub inspection : (s : List ℕ) → Inspection s (inspect_told s)
inspection s = go (chain_of s) refl
  where
    told : (rs : List ℕ) → chain_of s ≡ some rs → (t : Bool) → all_right s rs ≡ t → Inspection s (inspect_told s)
    told rs p true q =
        let o : Obeys s = record { records = rs; sound = p; right = all_right_lem s rs q } in
        subst (Inspection s) (sym (inspect_accepts s o)) (is_right o)
    told rs p false q =
        let w = wrong_one s rs q in
        let o : HasWrongRow s = record { records = rs; sound = p; index = w.0; within = w.1; wrong = w.2 } in
        subst (Inspection s) (sym (inspect_wrong s o)) (is_wrong o)

    go : (c : Option (List ℕ)) → chain_of s ≡ c → Inspection s (inspect_told s)
    go none p = subst (Inspection s) (sym (inspect_unsound s p)) (is_unsound p)
    go (some rs) p = told rs p (all_right s rs) refl

-- an image that is accepted obeys the layout, and the answer is the number of its rows
pub inspect_obeys : (s : List ℕ) (n : ℕ) → inspect_told s ≡ value n → Obeys s × (n ≡ length (records_of s))
inspect_obeys s n e = go (inspection s) e
  where
    go : {t : Told} → Inspection s t → t ≡ value n → Obeys s × (n ≡ length (records_of s))
    go (is_unsound p) q = no_confusion cc
    go (is_wrong w) q = no_confusion cc
    go (is_right o) q = (o, cc)

-- 10 only where the chain is not sound
pub inspect_unsound_only : (s : List ℕ) → inspect_told s ≡ refused 10 → chain_of s ≡ none
inspect_unsound_only s e = go (inspection s) e
  where
    go : {t : Told} → Inspection s t → t ≡ refused 10 → chain_of s ≡ none
    go (is_unsound p) q = p
    go (is_wrong w) q = no_confusion cc
    go (is_right o) q = no_confusion cc

-- 15 only where the chain is sound and some row is not right
pub inspect_wrong_only : (s : List ℕ) → inspect_told s ≡ refused 15 → HasWrongRow s
inspect_wrong_only s e = go (inspection s) e
  where
    go : {t : Told} → Inspection s t → t ≡ refused 15 → HasWrongRow s
    go (is_unsound p) q = no_confusion cc
    go (is_wrong w) q = w
    go (is_right o) q = no_confusion cc

-- the records of an image that obeys the layout
pub obeys_chain : {s : List ℕ} → Obeys s → chain_of s ≡ some (records_of s)
obeys_chain o = o.sound ∙ ap some (sym (ap records_in o.sound))

-- each has a right row
pub obeys_right : {s : List ℕ} → Obeys s → (i : ℕ) → i < length (records_of s) → RightAt (kind_of s) s (get_or (records_of s) i 0)
obeys_right {s} o i l =
    let e : records_of s ≡ o.records = ap records_in o.sound in
    subst (λ (bs : List ℕ). RightAt (kind_of s) s (get_or bs i 0)) (sym e) (o.right i (subst (λ (bs : List ℕ). i < length bs) e l))

-- no line refuses it
pub obeys_passed : {s : List ℕ} → Obeys s → judge (inspect_table s) ≡ none
obeys_passed {s} o = (value_told (judge (inspect_table s)) (length (records_of s)) (length (records_of s)) (sym (inspect_accepts s o))).0

-- and no other passes
pub inspect_passed : (s : List ℕ) → judge (inspect_table s) ≡ none → Obeys s
inspect_passed s e = (inspect_obeys s (length (records_of s)) (ap (λ (o : Option ℕ). unless o refused (value (length (records_of s)))) e)).0

-- an inspection that answers a value, or a refusal
pub inspect_value : (s : List ℕ) (o : Result ℕ Refusal) (n : ℕ) → told_of o ≡ inspect_told s → o ≡ Ok n → Obeys s
inspect_value s o n e d = (inspect_obeys s n (sym e ∙ ap told_of d)).0

pub inspect_refused : (s : List ℕ) (o : Result ℕ Refusal) (r : Refusal) → told_of o ≡ inspect_told s → o ≡ Err r → judge (inspect_table s) ≡ some (number_of r)
inspect_refused s o r e d = refused_told (judge (inspect_table s)) (number_of r) (length (records_of s)) (sym (ap told_of d) ∙ e)

-- ---- rows written out
module _ (K : Kind) (F : KindFits K) (N : KindNamed K) (rs : List Labelled) (base : List ℕ) (g : Good K rs base) where
  -- good rows written out obey the layout
  pub written_obeys : Obeys (written K rs base)
  written_obeys =
      let s : List ℕ = written K rs base in
      let d : Labelled = record { label = 0; bits = [] } in
      record {
        records = places K 1 rs;
        sound = written_chain K F N rs base g;
        right = λ i l.
            let a : ℕ = get_or (places K 1 rs) i 0 in
            let x = written_row K F N rs base g d i (omega (arith, length_places K F 1 rs)) in
            subst (λ (k : Kind). RightAt k s a) (sym (written_kind K F N rs base g)) (subst (λ (n : ℕ). Right K (part_at K s a) n) (sym x.size) x.right);
      }

  -- and the inspection answers their number
  pub written_inspected : inspect_told (written K rs base) ≡ value (length rs)
  written_inspected =
      inspect_accepts (written K rs base) written_obeys
      ∙ ap (λ (l : List ℕ). value (length l)) (written_records K F N rs base g)
      ∙ ap value (length_places K F 1 rs)

-- ---- the walk over the rows
-- one that stands at byte `at` after `count` rows, all right
pub record Inspected (s : List ℕ) (at count : ℕ) : Type 0 where
  pub past : List ℕ
  pub walk : SoundWalk s at past
  pub total : count ≡ length past
  pub right : all_right s past ≡ true

-- where it starts
pub inspected_none : (s : List ℕ) → is_some (chain_of s) ≡ true → Inspected s (unit_bytes * num s 0 4) 0
unfolding all_right
inspected_none s h = record { past = []; walk = walk_none s (some_in (chain_of s) h); total = refl; right = refl }

-- where it has not ended
module _ {s : List ℕ} {at count : ℕ} (w : Inspected s at count) (n : at ≡ 0 → ⊥) where
  abbrev turn : Turn s at w.past
  turn = walk_turn w.walk n

  -- it stands at a sound record
  pub inspected_record : RecordFacts (kind_of s) s at
  inspected_record = turn.facts

  -- and the count with this one is at most 64
  pub inspected_few : count + 1 ≤ most_label
  inspected_few = omega (arith, w.total, walk_few w.walk n)

  -- its row is right: a turn
  pub inspected_more : (next : ℕ) → next ≡ unit_bytes * next_at s at → row_test s at ≡ true → Inspected s next (count + 1)
  unfolding all_right
  inspected_more next e h =
      record {
        past = w.past ++ (at ∷ []);
        walk = rw e turn.more;
        total = omega (arith, w.total, length-append w.past (at ∷ []));
        right = all_append s w.past (at ∷ []) ∙ simp (w.right, h);
      }

  -- it is not: 15
  pub inspected_wrong : row_test s at ≡ false → refused 15 ≡ inspect_told s
  inspected_wrong h =
      sym (wrong_told s (records_of s) w.walk.chain
      (ap (all_right s) (sym turn.whole) ∙ all_append s w.past (at ∷ turn.rest) ∙ simp (w.right, all_wrong s at turn.rest h)))

-- where it ends
pub inspected_done : {s : List ℕ} {at count : ℕ} → Inspected s at count → at ≡ 0 → value count ≡ inspect_told s
inspected_done {s} w z =
    let e = walk_done w.walk z in
    ap value (w.total ∙ ap length e) ∙ sym (right_told s (records_of s) w.walk.chain (ap (all_right s) (sym e) ∙ w.right))

-- the part of a record of an image of kind K, and the length that it holds, as they are read
module _ (K : Kind) (s : List ℕ) (at : ℕ) (part : List ℕ) (n : ℕ) (kind : kind_of s ≡ K) (f : RecordFacts (kind_of s) s at) (p : part ≡ part_at (kind_of s) s at)
    (l : n ≡ length_at part 0) where
  its_length : n ≡ length_at s at
  its_length = part_held (kind_of s) s at f part n p l

  pub read_good : good_part K part n ≡ true
  read_good = subst (λ (k : Kind). good_part k part n ≡ true) kind (ap₂ (good_part (kind_of s)) p its_length ∙ part_good (kind_of s) s at f)

  pub read_right : right_part K part n ≡ row_test s at
  read_right = subst (λ (k : Kind). right_part k part n ≡ row_test s at) kind (ap₂ (right_part (kind_of s)) p its_length)
