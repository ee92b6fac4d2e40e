-- The length of a row by its label, and the label of a row by its place in the chain: what is told, the walk to the k-th row, and that its label opens it.
-- Assumes nothing.
use mathlib.Core.Path.{◌≡◌, refl, sym, ap, subst, ◌∙◌}
use mathlib.Core.Bool.{true, false}
use mathlib.Core.List.{List, [], ◌∷◌, ◌++◌}
use mathlib.Core.Option.{Option, some, none}
use Prim.Native.Nat.{ℕ, zero, suc, ◌+◌, ◌*◌, ◌<◌, ◌≤◌}
use native.Mathlib.Omega.{arith}
use lib.ListN.{length, get_or, length-append}
use lib.Seq.{get_or_at}
use lib.Dec.{leb, eqb}
use borrow.Author.Tests.{eq-eqb, ne_eqb, le-leb, lt-leb, leb-false}
use Rattle.words.specs.declared.refusal.Refusal.{Refusal}
use Rattle.std.specs.Prelude.{Result, Ok, Err}
use Rattle.words.specs.Refusals.{Line, ◌⇒◌, judge, unless, value, refused, told_of}
use Rattle.words.proofs.BoolLaws.{not_not}
use Rattle.words.proofs.CheckLaws.{passes}
use Rattle.image.specs.Bytes.{num}
use Rattle.image.specs.Layout.{unit_bytes}
use Rattle.image.specs.Chain.{kind_of, next_at, label_at, length_at, good_label, chain_of, place_of}
use Rattle.image.specs.Calls.{is_some, records_of, sound_line, open_table, open_told, row_place, row_length, row_length_told, row_label_told}
use Rattle.image.proofs.ChainLaws.{RecordFacts, label_good, chain_facts, some_in, value_told, opened_value, opened_refused}
use Rattle.image.proofs.WalkLaws.{SoundWalk, Turn, walk_none, walk_turn, walk_done}

-- ---- the length of a row
-- a refused opening's answer is the query's
pub length_refused : (s : List ℕ) (label : ℕ) (o : Result ℕ Refusal) (r : Refusal) → told_of o ≡ open_told s label → o ≡ Err r → told_of o ≡ row_length_told s label
length_refused s label o r told refusal =
    ap told_of refusal ∙ ap (λ (v : Option ℕ). unless v refused (value (row_length s label))) (sym (opened_refused s label o r told refusal))

-- the length of the record at the place that an opening gave is the row's
pub length_opened : (s : List ℕ) (label : ℕ) (o : Result ℕ Refusal) (at n : ℕ) → told_of o ≡ open_told s label → o ≡ Ok at → n ≡ length_at s at
    → value n ≡ row_length_told s label
length_opened s label o at n told place e =
    let k = opened_value s label o at told place in
    ap value (e ∙ ap (length_at s) k.1) ∙ ap (λ (v : Option ℕ). unless v refused (value (row_length s label))) (sym k.0)

-- ---- the label of the k-th row
-- the table of the query
abbrev pub label_table : List ℕ → ℕ → List Line
label_table s k = sound_line (is_some (chain_of s)) ∷ (leb (length (records_of s)) k ⇒ 14) ∷ []

-- where no line applies, the chain is sound and has row k
pub label_passed : (s : List ℕ) (k : ℕ) → judge (label_table s k) ≡ none → (chain_of s ≡ some (records_of s)) × (k < length (records_of s))
label_passed s k e =
    let w = passes (label_table s k) e in
    (some_in (chain_of s) (not_not _ w.0), leb-false _ _ w.1.0)

-- 10 the chain is not sound
pub label_unsound : (s : List ℕ) (k : ℕ) → chain_of s ≡ none → refused 10 ≡ row_label_told s k
label_unsound s k e = simp e

-- 14 there are at most k rows
label_past : (s rs : List ℕ) (k : ℕ) → chain_of s ≡ some rs → length rs ≤ k → refused 14 ≡ row_label_told s k
label_past s rs k e h = simp (e, le-leb (length rs) k h)

-- else the label
label_told : (s rs : List ℕ) (k : ℕ) → chain_of s ≡ some rs → k < length rs → value (label_at s (get_or rs k 0)) ≡ row_label_told s k
label_told s rs k e h = simp (e, lt-leb (length rs) k h)

-- a walk to row k that stands at byte `at`, `left` rows before it
pub record Nearing (s : List ℕ) (k at left : ℕ) : Type 0 where
  pub past : List ℕ
  pub walk : SoundWalk s at past
  pub total : length past + left ≡ k

-- where it starts
pub nearing_none : (s : List ℕ) (k : ℕ) → is_some (chain_of s) ≡ true → Nearing s k (unit_bytes * num s 0 4) k
nearing_none s k h = record { past = []; walk = walk_none s (some_in (chain_of s) h); total = omega arith }

-- one that stands at a record
module _ {s : List ℕ} {k at left : ℕ} (w : Nearing s k at left) (n : at ≡ 0 → ⊥) where
  turn : Turn s at w.past
  turn = walk_turn w.walk n

  -- which is sound
  pub nearing_record : RecordFacts (kind_of s) s at
  nearing_record = turn.facts

  -- it is row k
  pub nearing_here : (label : ℕ) → label ≡ label_at s at → left ≡ 0 → value label ≡ row_label_told s k
  nearing_here label e z =
      let l : length w.past ≡ k = omega (arith, w.total) in
      let h : get_or (records_of s) k 0 ≡ at =
      ap (λ (rs : List ℕ). get_or rs k 0) (sym turn.whole) ∙ get_or_at w.past at turn.rest 0 k l in
      ap value (e ∙ ap (label_at s) (sym h))
      ∙ label_told s (records_of s) k w.walk.chain (omega (arith, l, ap length turn.whole, length-append w.past (at ∷ turn.rest)))

  -- it is not: a turn
  pub nearing_more : (next : ℕ) → next ≡ unit_bytes * next_at s at → (fewer : ℕ) → fewer + 1 ≡ left → Nearing s k next fewer
  nearing_more next e fewer f =
      record {
        past = w.past ++ (at ∷ []);
        walk = rw e turn.more;
        total = omega (arith, w.total, length-append w.past (at ∷ []));
      }

-- where it ends
pub nearing_done : {s : List ℕ} {k at left : ℕ} → Nearing s k at left → at ≡ 0 → refused 14 ≡ row_label_told s k
nearing_done {s} {k} w z = label_past s (records_of s) k w.walk.chain (omega (arith, w.total, ap length (walk_done w.walk z)))

-- ---- the label of the k-th row opens it
-- among records whose labels differ, the place of the k-th one's label is that record
place_nth : (s rs : List ℕ) → ((i j : ℕ) → i < j → j < length rs → label_at s (get_or rs i 0) ≡ label_at s (get_or rs j 0) → ⊥) → (k : ℕ) → k < length rs
    → place_of s (label_at s (get_or rs k 0)) rs ≡ some (get_or rs k 0)
unfolding place_of
place_nth s [] d k l = absurd (omega arith)
place_nth s (a ∷ bs) d zero l = simp (eq-eqb (label_at s a) (label_at s a) refl, place_of)
place_nth s (a ∷ bs) d (suc k) l =
    let n : eqb (label_at s a) (label_at s (get_or bs k 0)) ≡ false = ne_eqb _ _ (d 0 (suc k) (omega arith) l) in
    simp (n, place_of) (place_nth s bs (λ i j h m. d (suc i) (suc j) (omega arith) (omega arith)) k (omega arith))

-- no line of the opening's table applies, and the row's place is its record's
pub nth_opens : (s rs : List ℕ) (k : ℕ) → chain_of s ≡ some rs → k < length rs
    → (judge (open_table s (label_at s (get_or rs k 0))) ≡ none) × (row_place s (label_at s (get_or rs k 0)) ≡ get_or rs k 0)
nth_opens s rs k e l =
    let f = chain_facts s rs e in
    let r = (f.each k l).facts in
    let label : ℕ = label_at s (get_or rs k 0) in
    let g : good_label label ≡ true = label_good label r.low r.high in
    let p : place_of s label rs ≡ some (get_or rs k 0) = place_nth s rs f.differ k l in
    (simp (e, g, p), simp (e, p))

-- so a label that is told of row k opens it
pub label_opens : (s : List ℕ) (k l : ℕ) → row_label_told s k ≡ value l → (judge (open_table s l) ≡ none) × (row_place s l ≡ get_or (records_of s) k 0)
label_opens s k l e =
    let v = value_told (judge (label_table s k)) l (label_at s (get_or (records_of s) k 0)) (sym e) in
    let w = label_passed s k v.0 in
    subst (λ (x : ℕ). (judge (open_table s x) ≡ none) × (row_place s x ≡ get_or (records_of s) k 0)) (sym v.1)
    (nth_opens s (records_of s) k w.0 w.1)
