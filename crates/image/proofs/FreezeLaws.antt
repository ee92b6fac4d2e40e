-- The laws of freezing: where the record goes, and the refusals. Assumes nothing.
use mathlib.Core.Path.{◌≡◌, refl, sym, ap, ◌∙◌}
use mathlib.Core.Bool.{Bool, true, false, true≢false}
use mathlib.Core.List.{List}
use mathlib.Core.Option.{Option, some, none}
use Prim.Native.Nat.{ℕ, ◌+◌, ◌/◌, ◌≤◌}
use lib.ListN.{length}
use lib.Seq.{sets}
use borrow.Author.Tests.{ltb-false}
use Rattle.words.specs.declared.handle.Handle.{Handle}
use Rattle.words.specs.declared.refusal.Refusal.{Refusal}
use Rattle.std.specs.Prelude.{Result, Ok, Err, IsErrAnd}
use Rattle.words.specs.Strip.{strip_of}
use Rattle.words.specs.Refusals.{number_of, judge, verdict_of, told_of, unless, value, refused}
use Rattle.words.specs.Handles.{untaken, strip_lines}
use Rattle.words.proofs.BoolLaws.{not_not}
use Rattle.words.proofs.CheckLaws.{Checked, checked, passes, passed_both, passed_first, raised}
use Rattle.image.specs.declared.freezing.Place.{Place}
use Rattle.image.specs.Bytes.{le}
use Rattle.image.specs.Layout.{unit_bytes, most_label, size_of, record_of}
use Rattle.image.specs.Chain.{kind_of, good_label, chain_of, chain_end, link_of}
use Rattle.image.specs.Calls.{is_some, records_of, record_with, record_lines, freeze_table, frozen, image_outcome, freeze_outcome}
use Rattle.image.specs.Writing.{at, nowhere, place_told, new_place, freeze_place}
use Rattle.image.proofs.ChainLaws.{no_confusion, label_facts, ChainFacts, chain_facts, some_in}

-- ---- the place of a new record
-- where the checks of all strip calls pass, the place of a new record is left to find
pub freeze_late : (h : Handle) (words : ℕ) (s : List ℕ) (label : ℕ) (v : Result Unit Refusal) → verdict_of v ≡ judge (strip_lines h words untaken) → v ≡ Ok tt
    → new_place s label (size_of (kind_of s) h.length) ≡ freeze_place h words s label
freeze_late h words s label v e d =
    let t = record_lines s label (size_of (kind_of s) h.length) in
    ap (λ (o : Option ℕ). unless o nowhere (at (link_of (records_of s)) (chain_end (kind_of s) s (records_of s))))
    (sym (passed_first (strip_lines h words untaken) t v e d))

-- ---- what a freeze that no line refuses is known for
pub record Freezing (h : Handle) (words : ℕ) (s : List ℕ) (label : ℕ) : Type 0 where
  pub strip : Checked h words untaken
  pub chain : chain_of s ≡ some (records_of s)
  pub facts : ChainFacts s (records_of s)
  pub low : 1 ≤ label
  pub high : label ≤ most_label
  pub absent : record_with s label ≡ none
  pub room : chain_end (kind_of s) s (records_of s) + size_of (kind_of s) h.length ≤ length s

-- nothing is there
pub none_in : {A : Type 0} (o : Option A) → is_some o ≡ false → o ≡ none
none_in none h = refl
none_in (some a) h = let z : ◌≡◌ {A = Bool} true false = h in absurd (true≢false z)

pub freezing : (h : Handle) (words : ℕ) (s : List ℕ) (label : ℕ) → judge (freeze_table h words s label) ≡ none → Freezing h words s label
freezing h words s label e =
    let b = passed_both (strip_lines h words untaken) (record_lines s label (size_of (kind_of s) h.length)) e in
    let w = passes (record_lines s label (size_of (kind_of s) h.length)) b.1 in
    let g = label_facts label (not_not (good_label label) w.1.0) in
    let c : chain_of s ≡ some (records_of s) = some_in (chain_of s) (not_not _ w.0) in
    record {
      strip = checked h words untaken b.0;
      chain = c;
      facts = chain_facts s (records_of s) c;
      low = g.0;
      high = g.1;
      absent = none_in (record_with s label) w.1.1.0;
      room = ltb-false _ _ w.1.1.1.0;
    }

-- a place says that no line applies
at_told : (v : Option ℕ) (l a m b : ℕ) → at l a ≡ unless v nowhere (at m b) → (v ≡ none) × (l ≡ m) × (a ≡ b)
at_told none l a m b e = (refl, cc, cc)
at_told (some n) l a m b e = no_confusion cc

-- a refusal says which line does
nowhere_told : (v : Option ℕ) (n m b : ℕ) → nowhere n ≡ unless v nowhere (at m b) → v ≡ some n
nowhere_told none n m b e = no_confusion cc
nowhere_told (some k) n m b e = cc

-- what a place that is given says
pub placed_at : (h : Handle) (words : ℕ) (s : List ℕ) (label : ℕ) (r : Result Place Refusal) (p : Place) → place_told r ≡ freeze_place h words s label
    → r ≡ Ok p
    → (judge (freeze_table h words s label) ≡ none) × (p.link ≡ link_of (records_of s)) × (p.start ≡ chain_end (kind_of s) s (records_of s))
placed_at h words s label r p e d =
    at_told (judge (freeze_table h words s label)) p.link p.start (link_of (records_of s)) (chain_end (kind_of s) s (records_of s)) (sym (ap place_told d) ∙ e)

-- a freeze that is refused
pub freeze_refused : (h : Handle) (ws s : List ℕ) (label : ℕ) (r : Result Place Refusal) (q : Result ℕ Refusal) (x : Refusal)
    → place_told r ≡ freeze_place h (length ws) s label → r ≡ Err x → IsErrAnd q (λ e. e ≡ x) → image_outcome (told_of q) s ≡ freeze_outcome h ws s label
freeze_refused h ws s label r q x e d i =
    ap (λ (o : Result ℕ Refusal). image_outcome (told_of o) s) (raised q x i)
    ∙ ap (λ (o : Option ℕ). unless o (λ n. image_outcome (refused n) s)
    (image_outcome (value (chain_end (kind_of s) s (records_of s) / unit_bytes)) (frozen s label (strip_of ws h.length))))
    (sym (nowhere_told (judge (freeze_table h (length ws) s label)) (number_of x) (link_of (records_of s)) (chain_end (kind_of s) s (records_of s)) (sym (ap place_told d) ∙ e)))

-- a freeze that is accepted
pub freeze_done : (h : Handle) (ws s : List ℕ) (label link start : ℕ) (t u : List ℕ) → judge (freeze_table h (length ws) s label) ≡ none
    → link ≡ link_of (records_of s) → start ≡ chain_end (kind_of s) s (records_of s) → t ≡ sets s link (le 4 (start / unit_bytes))
    → u ≡ sets t start (record_of (kind_of s) 0 label (strip_of ws h.length)) → image_outcome (value (start / unit_bytes)) u ≡ freeze_outcome h ws s label
freeze_done h ws s label link start t u e l z et eu =
    rw (eu, et, l, z) (ap (λ (o : Option ℕ). unless o (λ n. image_outcome (refused n) s)
    (image_outcome (value (chain_end (kind_of s) s (records_of s) / unit_bytes)) (frozen s label (strip_of ws h.length)))) (sym e))
