-- What count, find and check give, by what the counters say of a strip. Assumes nothing.
use Rattle.std.proofs.Common.{◌≡◌, ℕ, ◌*◌, ◌^◌, ◌<◌, ◌≤◌, Bool, true, false, not, ◌&&◌, eqb, List, [], ◌∷◌, ◌++◌, length, get_or, sym, refl, ap, ◌∙◌, ◌⊎◌, inl, inr, subst, ap₂, subst₂, arith, ltb-false, leb-false, eq-eqb, eqb-true}
use Rattle.std.proofs.lemmas.Bool.{eqb-false}
use mathlib.Core.Option.{Option, some, none}
use Rattle.words.specs.Bits.{bit_at, ones, same}
use Rattle.words.specs.Strip.{strip_of, PastZero, or_else, holds, rank_of, select_of, total_of, of_value, select}
use Rattle.words.specs.Refusals.{◌⇒◌, judge, unless, Told, value, refused, found}
use Rattle.words.specs.Calls.{value_line, within_line, absent_line}
use Rattle.words.specs.Working.{FirstFrom}
use Rattle.words.specs.Handles.{handle, handle_of}
use Rattle.words.specs.declared.handle.Handle.{Handle}
use Rattle.words.proofs.Sums.{lt_or, ones_le, sum_mono, sum_flat}
use Rattle.words.proofs.WordLaws.{bit_at_le, bit_at_past}
use Rattle.words.proofs.CheckLaws.{judge_append, same_some, line_found, passes, passed_both}
use Rattle.words.proofs.BoolLaws.{and_intro, and_first, and_second}
use Rattle.words.proofs.SameLaws.{same_eq, same_refl}
use Rattle.words.proofs.SearchLaws.{select_below, select_longer, value_rank, value_found, value_absent, value_le}
use Rattle.words.proofs.StripLaws.{strip_length, strip_rank, strip_total, strip_select, strip_le}
use Rattle.counters.specs.Tree.{blocks_of}
use Rattle.counters.specs.Record.{Fits, AllFit, packed_words, built_counters}
use Rattle.counters.specs.Promises.{AtMost, PlaceBelow}
use Rattle.counters.specs.Working.{OnesHeld, Decides}
use Rattle.counters.specs.Calls.{checks, held_strip, rank_table, Ranked, select_table, Selected, fitting, verify_table, verify_told}
use Rattle.counters.proofs.PromiseLaws.{promise_passed, promise_exact, Sizes, sizes, PassedRecord}
use Rattle.counters.proofs.AfreshLaws.{built_fits, fits_total, fits_built}

-- ---- count
module _ (h : Handle) (ws cs : List ℕ) (v i x : ℕ) (p : PassedRecord h ws cs (value_line v ∷ within_line h.length i ∷ []))
    (counted : AllFit (bit_at ws) (blocks_of h.capacity) cs → x ≡ ones (bit_at ws) i) where
  small : v ≤ 1
  small = ltb-false 1 v p.own.0

  within : i ≤ h.length
  within = ltb-false h.length i p.own.1.0

  pub rank_done : (r : ℕ) → x ≤ i → r ≡ of_value v i x → Ranked h v i ws cs (value r)
  rank_done r le e =
      promise_passed (rank_table h (length ws) (length cs) v i) _ _ (Fits h ws cs) _ (value r) p.table
      (λ f. ap value (e ∙ ap (of_value v i) (counted f.right) ∙ value_rank (bit_at ws) v i (bit_at_le ws) small ∙ sym (strip_rank ws h.length v i within)))
      (AtMost.is r (omega (arith, e, value_le v i x le)))

  pub rank_unfit : i < x → Ranked h v i ws cs (refused 9)
  rank_unfit l =
      promise_passed (rank_table h (length ws) (length cs) v i) _ _ (Fits h ws cs) _ (refused 9) p.table
      (λ f. absurd (omega (arith, counted f.right, ones_le (bit_at ws) i (bit_at_le ws))))
      AtMost.unfit

-- ---- find
module _ (h : Handle) (ws cs : List ℕ) (v k : ℕ) (d : PassedRecord h ws cs (value_line v ∷ absent_line (of_value v h.length h.total) k ∷ [])) where
  -- on a fitting record the stroke is there, below the length
  there : Fits h ws cs
      → (p : ℕ) × (found (select (held_strip h ws) v k) ≡ value p) × (p < h.length) × (k < rank_of (bit_at ws) v (512 * blocks_of h.capacity))
      × (select_of (bit_at ws) (512 * blocks_of h.capacity) v k ≡ some p)
  there f =
      let w = value_found (bit_at ws) h.length v k h.total (bit_at_le ws) (ltb-false 1 v d.own.0) (fits_total h ws cs f) (leb-false _ _ d.own.1.0) in
      let few : k < rank_of (bit_at ws) v h.length = select_below (bit_at ws) h.length v k w.0 w.1 in
      let le : h.length ≤ 512 * blocks_of h.capacity = omega (arith, d.known.step, d.known.long) in (
        w.0,
        ap found (strip_select ws h.length v k ∙ w.1),
        w.2,
        omega (arith, few, sum_mono (holds (bit_at ws) v) le),
        select_longer (bit_at ws) h.length (512 * blocks_of h.capacity) v k le few ∙ w.1,
      )

  -- not found, where the record does not fit
  pub select_unfit : (Fits h ws cs → ⊥) → Selected h v k ws cs (refused 9)
  select_unfit no-fit =
      promise_passed (select_table h (length ws) (length cs) v k) _ _ (Fits h ws cs) _ (refused 9) d.table (λ f. absurd (no-fit f)) PlaceBelow.unfit

  pub select_none : (AllFit (bit_at ws) (blocks_of h.capacity) cs → k < rank_of (bit_at ws) v (512 * blocks_of h.capacity) → ⊥) → Selected h v k ws cs (refused 9)
  select_none nowhere = select_unfit (λ f. nowhere f.right (there f).3)

  -- the position that the counters lead to is the stroke's
  module _ (p : ℕ)
      (place : AllFit (bit_at ws) (blocks_of h.capacity) cs → k < rank_of (bit_at ws) v (512 * blocks_of h.capacity)
      → select_of (bit_at ws) (512 * blocks_of h.capacity) v k ≡ some p) where
    same_place : (f : Fits h ws cs) → (there f).0 ≡ p
    same_place f =
        same_some (select_of (bit_at ws) (512 * blocks_of h.capacity) v k) (there f).0 p (there f).4 (place f.right (there f).3)

    pub select_done : p < h.length → Selected h v k ws cs (value p)
    select_done l =
        promise_passed (select_table h (length ws) (length cs) v k) _ _ (Fits h ws cs) _ (value p) d.table
        (λ f. sym ((there f).1 ∙ ap value (same_place f))) (PlaceBelow.is p l)

    pub select_past : h.length ≤ p → Selected h v k ws cs (refused 9)
    select_past l = select_unfit (λ f. omega (arith, same_place f, (there f).2))

-- on a fitting record the answer is the definition's for every k: 6 is given where there is no such stroke, and nowhere else
pub select_fits : (h : Handle) (ws cs : List ℕ) (v k : ℕ) (o : Told) → Fits h ws cs → Selected h v k ws cs o
    → o ≡ unless (judge (checks h (length ws) (length cs) ++ (value_line v ∷ []))) refused (found (select (held_strip h ws) v k))
select_fits h ws cs v k o f p =
    let first = checks h (length ws) (length cs) in
    promise_exact (judge (select_table h (length ws) (length cs) v k)) p f
    ∙ line_found (first ++ (value_line v ∷ [])) (held_strip h ws) v k (of_value v h.length h.total) (λ q l.
    let small : v ≤ 1 = ltb-false _ _ (passes (value_line v ∷ []) (passed_both first (value_line v ∷ []) q).1).0 in
    strip_select ws h.length v k ∙ value_absent (bit_at ws) h.length v k h.total (bit_at_le ws) small (fits_total h ws cs f) l)

-- ---- check
-- the test is passed where the record fits
pub fits_fitting : (h : Handle) (ws cs : List ℕ) → Sizes h ws cs → ((k : ℕ) → get_or ws k 0 < 2 ^ 64) → Fits h ws cs → fitting h ws cs ≡ true
unfolding fitting
fits_fitting h ws cs z small f =
    let e = fits_built h ws cs z.words z.counters small f in
    and_intro (ap (same ws) (sym e.0) ∙ same_refl ws) (and_intro (ap (same cs) (sym e.1) ∙ same_refl cs) (eq-eqb _ _ f.held))

-- and nowhere else
pub fitting_fits : (h : Handle) (ws cs : List ℕ) → Sizes h ws cs → fitting h ws cs ≡ true → Fits h ws cs
unfolding fitting
fitting_fits h ws cs z e =
    let c : ℕ = h.capacity in
    let s : List ℕ = held_strip h ws in
    let a : Bool = same ws (packed_words c s) in
    let b : Bool = same cs (built_counters c s) in
    let d : Bool = eqb h.total (total_of s) in
    let rest : (b && d) ≡ true = and_second a (b && d) e in
    let long : length s ≤ c = omega (arith, strip_length ws h.length, z.long) in
    let f : Fits (handle_of c s) (packed_words c s) (built_counters c s) = built_fits c s z.step long (strip_le ws h.length) in
    let g : Fits (handle c h.length (total_of s)) (packed_words c s) (built_counters c s) =
    subst (λ (n : ℕ). Fits (handle c n (total_of s)) (packed_words c s) (built_counters c s)) (strip_length ws h.length) f in
    let k : Fits (handle c h.length (total_of s)) ws cs =
    subst₂ (λ (vs ds : List ℕ). Fits (handle c h.length (total_of s)) vs ds) (sym (same_eq ws (packed_words c s) (and_first a (b && d) e)))
    (sym (same_eq cs (built_counters c s) (and_first b d rest))) g in
    record { clean = k.clean; right = k.right; held = eqb-true _ _ (and_second b d rest) }

-- it fails where the record does not fit
pub unfit_fitting : (h : Handle) (ws cs : List ℕ) → Sizes h ws cs → (Fits h ws cs → ⊥) → fitting h ws cs ≡ false
unfit_fitting h ws cs z no-fit = go (fitting h ws cs) refl
  where
    go : (b : Bool) → fitting h ws cs ≡ b → fitting h ws cs ≡ false
    go true e = absurd (no-fit (fitting_fits h ws cs z e))
    go false e = e

-- no one found from the length on: no bit stands past it
pub none_past : (h : Handle) (ws cs : List ℕ) → Sizes h ws cs → FirstFrom (bit_at ws) h.capacity 1 h.length h.capacity → PastZero ws h.length
none_past h ws cs z next p l = go (lt_or p h.capacity)
  where
    go : (p < h.capacity) ⊎ (h.capacity ≤ p) → bit_at ws p ≡ 0
    go (inl b) = zero (lt_or (bit_at ws p) 1)
      where
        zero : (bit_at ws p < 1) ⊎ (1 ≤ bit_at ws p) → bit_at ws p ≡ 0
        zero (inl q) = omega arith
        zero (inr q) = absurd (next.clear p l b (omega (arith, bit_at_le ws p)))
    go (inr b) = bit_at_past ws p (omega (arith, z.words, z.step))

-- what the root tells, where the counters fit and no bit stands past the length: the ones of the strip
pub root_total : (h : Handle) (ws cs : List ℕ) (r : ℕ) → Sizes h ws cs → AllFit (bit_at ws) (blocks_of h.capacity) cs → PastZero ws h.length
    → OnesHeld (blocks_of h.capacity) cs r → r ≡ total_of (strip_of ws h.length)
root_total h ws cs r z right clean held =
    let whole : 512 * blocks_of h.capacity ≡ h.capacity = omega (arith, z.step) in
    held (bit_at ws) right (λ p l. clean p (omega (arith, whole, z.long)))
    ∙ ap (ones (bit_at ws)) whole ∙ sum_flat (bit_at ws) h.length h.capacity z.long clean ∙ sym (strip_total ws h.length)

-- where all else fits, the total decides
pub total_decides : (h : Handle) (ws cs : List ℕ) (r : ℕ) → PastZero ws h.length → AllFit (bit_at ws) (blocks_of h.capacity) cs → r ≡ total_of (held_strip h ws)
    → Decides (eqb r h.total) (Fits h ws cs)
total_decides h ws cs r clean right e = go (eqb r h.total) refl
  where
    go : (b : Bool) → eqb r h.total ≡ b → Decides b (Fits h ws cs)
    go true q = record { clean = clean; right = right; held = sym (eqb-true _ _ q) ∙ e }
    go false q = λ f. eqb-false r h.total q (e ∙ sym f.held)

pub total_fitting : (h : Handle) (ws cs : List ℕ) (r : ℕ) → Sizes h ws cs → ((k : ℕ) → get_or ws k 0 < 2 ^ 64) → PastZero ws h.length
    → AllFit (bit_at ws) (blocks_of h.capacity) cs → r ≡ total_of (held_strip h ws) → eqb r h.total ≡ fitting h ws cs
total_fitting h ws cs r z small clean right e = go (eqb r h.total) (total_decides h ws cs r clean right e)
  where
    go : (b : Bool) → Decides b (Fits h ws cs) → b ≡ fitting h ws cs
    go true f = sym (fits_fitting h ws cs z small f)
    go false n = sym (unfit_fitting h ws cs z n)

-- the table, where the checks pass, by the test
verify_judged : (h : Handle) (ws cs : List ℕ) (b : Bool) → judge (checks h (length ws) (length cs)) ≡ none → fitting h ws cs ≡ b
    → judge (verify_table h ws cs) ≡ judge ((not b ⇒ 9) ∷ [])
verify_judged h ws cs b j e =
    judge_append (checks h (length ws) (length cs)) ((not (fitting h ws cs) ⇒ 9) ∷ [])
    ∙ ap₂ (λ (o : Option ℕ) (t : Bool). or_else o (judge ((not t ⇒ 9) ∷ []))) j e

pub told_unfit : (h : Handle) (ws cs : List ℕ) → judge (checks h (length ws) (length cs)) ≡ none → fitting h ws cs ≡ false → refused 9 ≡ verify_told h ws cs
told_unfit h ws cs j e = sym (ap (λ (o : Option ℕ). unless o refused (value (total_of (held_strip h ws)))) (verify_judged h ws cs false j e))

pub told_fits : (h : Handle) (ws cs : List ℕ) → judge (checks h (length ws) (length cs)) ≡ none → fitting h ws cs ≡ true
    → value h.total ≡ verify_told h ws cs
told_fits h ws cs j e =
    ap value (fitting_fits h ws cs (sizes h ws cs j) e).held
    ∙ sym (ap (λ (o : Option ℕ). unless o refused (value (total_of (held_strip h ws)))) (verify_judged h ws cs true j e))

-- so where the record does not fit, and where it does
pub verify_unfit : (h : Handle) (ws cs : List ℕ) → judge (checks h (length ws) (length cs)) ≡ none → (Fits h ws cs → ⊥) → refused 9 ≡ verify_told h ws cs
verify_unfit h ws cs j no-fit = told_unfit h ws cs j (unfit_fitting h ws cs (sizes h ws cs j) no-fit)

pub verify_fits : (h : Handle) (ws cs : List ℕ) (x : ℕ) → judge (checks h (length ws) (length cs)) ≡ none → ((k : ℕ) → get_or ws k 0 < 2 ^ 64) → Fits h ws cs
    → x ≡ ones (bit_at ws) h.length → value x ≡ verify_told h ws cs
verify_fits h ws cs x j small f e =
    ap value (e ∙ sym (strip_total ws h.length) ∙ sym f.held) ∙ told_fits h ws cs j (fits_fitting h ws cs (sizes h ws cs j) small f)
