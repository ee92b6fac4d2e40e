-- The promise of a call, case by case: refused by its table, or passed and done. Assumes nothing.
use Rattle.std.proofs.Common.{◌≡◌, ℕ, ◌+◌, ◌-◌, ◌*◌, ◌/◌, ◌%◌, ◌^◌, ◌<◌, ◌≤◌, false, cond, eqb, leb, ◌⊎◌, List, [], ◌∷◌, ◌++◌, length, get_or, set, sym, refl, ap, ◌∙◌, subst, ap₂, inl, inr, arith, ltb-false, eq-eqb, ne_eqb, eqb-true, leb-false}
use mathlib.Core.Option.{Option, some, none}
use borrow.Author.Tests.{lt-leb}
use Rattle.words.specs.Bits.{bit_at, ones}
use Rattle.words.specs.Strip.{cell, or_else, holds, rank_of, strip_of, total_of}
use Rattle.words.specs.Refusals.{number_of, Line, ◌⇒◌, judge, unless, verdict_of}
use Rattle.words.specs.Handles.{handle}
use Rattle.words.specs.Calls.{value_line, below_line}
use Rattle.words.specs.Working.{RangePut}
use Rattle.words.specs.declared.handle.Handle.{Handle}
use Rattle.words.specs.declared.refusal.Refusal.{Refusal}
use Rattle.std.specs.Prelude.{Result, Ok, Err}
use Rattle.words.proofs.Sums.{lt_or, rank_one}
use Rattle.words.proofs.WordLaws.{bit_at_le, bit_at_past, holds_yes}
use Rattle.words.proofs.SearchLaws.{rank_both, rank_ones}
use Rattle.words.proofs.CheckLaws.{judge_append, not_both, judged_refuse, judged_pass, Passes, passes, passed_both, checked}
use Rattle.words.proofs.StripLaws.{strip_cell, strip_length, strip_le}
use Rattle.counters.specs.Tree.{blocks_of, counter_count, change_count}
use Rattle.counters.specs.Record.{Fits, AllFit}
use Rattle.counters.specs.Working.{TreeOver, PathMovedBy}
use Rattle.counters.specs.Promises.{done, outcome, Promise, Near, near}
use Rattle.counters.specs.Calls.{checks, held_strip, rebuilt, relaid, push_table, Pushed, flip_table, turned_bit, total_line, move_table, turned_handle, Flipped}
use Rattle.counters.proofs.FlipLaws.{change_count_le}
use Rattle.counters.proofs.AfreshLaws.{fits_total}
use Rattle.counters.proofs.ChangeLaws as C

-- ---- the cases of a promise
-- refused by its table, as a function says that judged it
pub promise_refused : {A : Type 0} (t : List Line) (refuse : ℕ → A) (late : A) (Fit : Type 0) (Loose : A → Type 0) (v : Result Unit Refusal) (r : Refusal)
    → verdict_of v ≡ judge t → v ≡ Err r → Promise A (judge t) refuse late Fit Loose (refuse (number_of r))
promise_refused t refuse late Fit Loose v r e d =
    let j : judge t ≡ some (number_of r) = judged_refuse t v r e d in
    record {
      early = (λ m h. let s : number_of r ≡ m = cc in ap refuse s);
      exact = (λ h f. not_both j h);
      loose = (λ h. not_both j h);
    }

-- passed
pub promise_passed : {A : Type 0} (t : List Line) (refuse : ℕ → A) (late : A) (Fit : Type 0) (Loose : A → Type 0) (o : A)
    → judge t ≡ none → (Fit → o ≡ late) → Loose o → Promise A (judge t) refuse late Fit Loose o
promise_passed t refuse late Fit Loose o j exact loose =
    record { early = (λ n h. not_both h j); exact = (λ h f. exact f); loose = (λ h. loose) }

-- a promise where the record fits
pub promise_exact : {A : Type 0} {refuse : ℕ → A} {late : A} {Fit : Type 0} {Loose : A → Type 0} {o : A} (table : Option ℕ)
    → Promise A table refuse late Fit Loose o → Fit → o ≡ unless table refuse late
promise_exact none p f = p.exact refl f
promise_exact (some n) p f = p.early n refl

-- ---- what the checks leave
pub record Sizes (h : Handle) (ws cs : List ℕ) : Type 0 where
  pub step : h.capacity % 512 ≡ 0
  pub least : 512 ≤ h.capacity
  pub most : h.capacity ≤ 134217728
  pub long : h.length ≤ h.capacity
  pub held : h.total ≤ h.length
  pub words : length ws ≡ h.capacity / 64
  pub counters : length cs ≡ counter_count (blocks_of h.capacity)

pub sizes : (h : Handle) (ws cs : List ℕ) → judge (checks h (length ws) (length cs)) ≡ none → Sizes h ws cs
sizes h ws cs p =
    let k = checked h (length ws) (eqb (length cs) (counter_count (blocks_of h.capacity))) p in
    record { step = k.step; least = k.least; most = k.most; long = k.long; held = k.held; words = k.count; counters = eqb-true _ _ k.counters }

-- the tree of a record
pub tree_over : {h : Handle} {ws cs : List ℕ} → Sizes h ws cs → TreeOver (blocks_of h.capacity) cs
tree_over z = record { size = z.counters; some = omega (arith, z.least); few = omega (arith, z.most) }

-- a table that starts with the checks, and passes
pub sizes_of_lem : (h : Handle) (ws cs : List ℕ) (ls : List Line) → judge (checks h (length ws) (length cs) ++ ls) ≡ none → Sizes h ws cs
sizes_of_lem h ws cs ls p = sizes h ws cs (passed_both (checks h (length ws) (length cs)) ls p).0

-- and its own lines
pub lines_of : (h : Handle) (ws cs : List ℕ) (ls : List Line) → judge (checks h (length ws) (length cs) ++ ls) ≡ none → Passes ls
lines_of h ws cs ls p = passes ls (passed_both (checks h (length ws) (length cs)) ls p).1

-- what a check of a record leaves where it passes: its table, the sizes, and the call's own lines
pub record PassedRecord (h : Handle) (ws cs : List ℕ) (ls : List Line) : Type 0 where
  pub table : judge (checks h (length ws) (length cs) ++ ls) ≡ none
  pub known : Sizes h ws cs
  pub own : Passes ls

-- by its verdict
pub record_passed : (h : Handle) (ws cs : List ℕ) (ls : List Line) (v : Result Unit Refusal) → verdict_of v ≡ judge (checks h (length ws) (length cs) ++ ls) → v ≡ Ok tt
    → PassedRecord h ws cs ls
record_passed h ws cs ls v e d =
    let p = judged_pass (checks h (length ws) (length cs) ++ ls) v e d in
    record { table = p; known = sizes_of_lem h ws cs ls p; own = lines_of h ws cs ls p }

-- no bit stands past the most capacity
pub high_zero : (h : Handle) (ws cs vs : List ℕ) → Sizes h ws cs → length vs ≡ length ws → (q : ℕ) → 134217728 ≤ q → bit_at vs q ≡ 0
high_zero h ws cs vs z l q a = bit_at_past vs q (omega (arith, z.words, z.most))

-- ---- turn
-- on a fitting record the total moves
pub total_moves : (h : Handle) (ws cs : List ℕ) (i : ℕ) → Fits h ws cs → i < h.length → (total_line h (turned_bit h ws i)).applies ≡ false
total_moves h ws cs i f below = go (lt_or (bit_at ws i) 1)
  where
    old : cell (held_strip h ws) i ≡ bit_at ws i
    old = strip_cell ws h.length i below

    held : h.total ≡ ones (bit_at ws) h.length
    held = fits_total h ws cs f

    go : (bit_at ws i < 1) ⊎ (1 ≤ bit_at ws i) → (total_line h (turned_bit h ws i)).applies ≡ false
    go (inl l) =
        let some : 1 ≤ rank_of (bit_at ws) 0 h.length =
        omega (arith, rank_one (holds (bit_at ws) 0) i h.length (holds_yes (bit_at ws) 0 i (omega arith)) below) in
        let less : h.total < h.length =
        omega (arith, held, some, rank_both (bit_at ws) h.length (bit_at_le ws), rank_ones (bit_at ws) h.length (bit_at_le ws)) in
        simp (eq-eqb (turned_bit h ws i) 1 (omega (arith, old)), lt-leb h.length h.total less)
    go (inr l) =
        let some : 1 ≤ rank_of (bit_at ws) 1 h.length =
        omega (arith, rank_one (holds (bit_at ws) 1) i h.length (holds_yes (bit_at ws) 1 i (omega (arith, bit_at_le ws i))) below) in
        let more : 1 ≤ h.total = omega (arith, held, some, rank_ones (bit_at ws) h.length (bit_at_le ws)) in
        simp (ne_eqb (turned_bit h ws i) 1 (λ e. omega (arith, old)), ne_eqb h.total 0 (λ e. omega arith))

-- and so the table is that without the total's line
pub move_judged : (h : Handle) (ws cs : List ℕ) (i : ℕ) → Fits h ws cs → judge (move_table h ws (length cs) i) ≡ judge (flip_table h (length ws) (length cs) i)
move_judged h ws cs i f =
    judge_append (flip_table h (length ws) (length cs) i) (total_line h (turned_bit h ws i) ∷ []) ∙ go (judge (flip_table h (length ws) (length cs) i)) refl
  where
    go : (o : Option ℕ) → judge (flip_table h (length ws) (length cs) i) ≡ o → or_else o (judge (total_line h (turned_bit h ws i) ∷ [])) ≡ o
    go (some n) e = refl
    go none e = simp (total_moves h ws cs i f (leb-false _ _ (lines_of h ws cs (below_line h.length i ∷ []) e).0))

module _ (h : Handle) (ws vs cs ds : List ℕ) (i number d : ℕ) (z : Sizes h ws cs) (below : i < h.length)
    (put : RangePut ws i (i + 1) (1 - bit_at ws i) vs) (small : (k : ℕ) → get_or vs k 0 < 2 ^ 64)
    (path : PathMovedBy (blocks_of h.capacity) i d cs ds) (count : number ≡ change_count (blocks_of h.capacity) i)
    (step : d ≡ cond (eqb (1 - bit_at ws i) 1) 1 (2 ^ 32 - 1)) where
  -- the counters fit the changed words
  flip_fits : AllFit (bit_at ws) (blocks_of h.capacity) cs → AllFit (bit_at vs) (blocks_of h.capacity) ds
  flip_fits fit = go (lt_or (bit_at ws i) 1)
    where
      go : (bit_at ws i < 1) ⊎ (1 ≤ bit_at ws i) → AllFit (bit_at vs) (blocks_of h.capacity) ds
      go (inl l) =
          let b : 1 - bit_at ws i ≡ 1 = omega arith in
          let up : d ≡ 1 = step ∙ simp (eq-eqb (1 - bit_at ws i) 1 b) in
          C.raised_fits (bit_at ws) (bit_at vs) (blocks_of h.capacity) i cs ds
          (C.put_more ws vs i (omega arith) (subst (λ (x : ℕ). RangePut ws i (i + 1) x vs) b put))
          (bit_at_le vs) (high_zero h ws cs vs z put.long) fit (subst (λ (x : ℕ). PathMovedBy (blocks_of h.capacity) i x cs ds) up path)
      go (inr l) =
          let o : bit_at ws i ≡ 1 = omega (arith, bit_at_le ws i) in
          let b : 1 - bit_at ws i ≡ 0 = omega arith in
          let down : d ≡ 4294967295 = step ∙ simp (ne_eqb (1 - bit_at ws i) 1 (λ e. omega arith)) in
          C.lowered_fits (bit_at ws) (bit_at vs) (blocks_of h.capacity) i cs ds
          (C.put_less ws vs i o (subst (λ (x : ℕ). RangePut ws i (i + 1) x vs) b put))
          (bit_at_le ws) (high_zero h ws cs ws z refl) fit (subst (λ (x : ℕ). PathMovedBy (blocks_of h.capacity) i x cs ds) down path)

  pub flip_done : judge (move_table h ws (length cs) i) ≡ none
      → Flipped h i ws cs (outcome (done (turned_handle h (1 - bit_at ws i)) (1 - bit_at ws i) number) vs ds)
  flip_done pass =
      let e : 1 - bit_at ws i ≡ turned_bit h ws i = ap (λ (b : ℕ). 1 - b) (sym (strip_cell ws h.length i below)) in
      let moved : Fits h ws cs → (turned_handle h (1 - bit_at ws i)).total ≡ total_of (set (held_strip h ws) i (1 - bit_at ws i)) =
      (λ f. subst (λ (x : ℕ). (turned_handle h x).total ≡ total_of (set (held_strip h ws) i x)) (sym e)
      (ap (λ (t : ℕ). cond (eqb (turned_bit h ws i) 1) (t + 1) (t - 1)) f.held
      ∙ sym (C.set_total (held_strip h ws) i (omega (arith, strip_length ws h.length)) (strip_le ws h.length i)))) in
      promise_passed (move_table h ws (length cs) i) _ _ (Fits h ws cs) _ (outcome (done (turned_handle h (1 - bit_at ws i)) (1 - bit_at ws i) number) vs ds) pass
      (λ f. C.rebuilt_is h.capacity h.length (turned_handle h (1 - bit_at ws i)).total (1 - bit_at ws i) number
      (set (held_strip h ws) i (1 - bit_at ws i)) vs ds
      (C.flip_strip ws vs h.length i (1 - bit_at ws i) below put) (put.long ∙ z.words) (path.long ∙ z.counters) small
      (C.put_clean ws vs i (i + 1) h.length (1 - bit_at ws i) put (omega arith) f.clean) (flip_fits f.right)
      (moved f)
      ∙ ap₂ (λ (x y : ℕ). rebuilt h.capacity (set (held_strip h ws) i x) x y) e count)
      (subst (λ (x : ℕ). Near h (turned_handle h x) x i x ws cs (outcome (done (turned_handle h (1 - bit_at ws i)) (1 - bit_at ws i) number) vs ds)) e
      (near number vs ds (omega (arith, count, change_count_le (blocks_of h.capacity) i)) (C.put_bit ws vs i (1 - bit_at ws i) put)
      (C.path_moved (blocks_of h.capacity) i d cs ds path)))

-- ---- add
-- the record after v was appended, with the counters moved for v = 1
module _ (h : Handle) (ws vs cs : List ℕ) (v : ℕ) (z : Sizes h ws cs) (room : h.length < h.capacity)
    (put : RangePut ws h.length (h.length + 1) v vs) (small : (k : ℕ) → get_or vs k 0 < 2 ^ 64)
    (pass : judge (push_table h (length ws) (length cs) v) ≡ none) where
  -- the handle that it gives
  abbrev pub next : Handle
  next = handle h.capacity (h.length + 1) (h.total + v)

  -- v is 0 or 1
  bit : v ≤ 1
  bit = ltb-false _ _ (lines_of h ws cs (value_line v ∷ (leb h.capacity h.length ⇒ 7) ∷ []) pass).0

  -- done, with the counters ds
  push_with : (number : ℕ) (ds : List ℕ) → number ≡ cond (eqb v 1) (change_count (blocks_of h.capacity) h.length) 0 → length ds ≡ length cs
      → (Fits h ws cs → AllFit (bit_at vs) (blocks_of h.capacity) ds)
      → Near h next h.length h.length v ws cs (outcome (done next h.length number) vs ds)
      → Pushed h v ws cs (outcome (done next h.length number) vs ds)
  push_with number ds count long fit loose =
      promise_passed (push_table h (length ws) (length cs) v) _ _ (Fits h ws cs) _
      (outcome (done next h.length number) vs ds) pass
      (λ f. C.rebuilt_is h.capacity (h.length + 1) (h.total + v) h.length number (held_strip h ws ++ (v ∷ [])) vs ds
      (C.push_strip ws vs h.length v put) (put.long ∙ z.words) (long ∙ z.counters) small
      (C.put_clean ws vs h.length (h.length + 1) (h.length + 1) v put (native.Mathlib.Nat.le_refl (h.length + 1))
      (λ p l. f.clean p (omega arith)))
      (fit f) (ap (λ (t : ℕ). t + v) f.held ∙ sym (C.push_total (held_strip h ws) v bit))
      ∙ ap (λ (y : ℕ). rebuilt h.capacity (held_strip h ws ++ (v ∷ [])) h.length y) count)
      loose

  pub push_zero : v ≡ 0 → Pushed h v ws cs (outcome (done next h.length 0) vs cs)
  push_zero e =
      push_with 0 cs (sym (simp (ne_eqb v 1 (λ o. omega arith)))) refl
      (λ f. C.same_fits (bit_at ws) (bit_at vs) (blocks_of h.capacity) cs (same f) f.right)
      (near 0 vs cs (omega arith) (C.put_bit ws vs h.length v put)
      (record { long = refl; off = (λ t j i a b x y q. refl) }))
    where
      same : Fits h ws cs → (p : ℕ) → bit_at ws p ≡ bit_at vs p
      same f p = go (native.Mathlib.Decide.ℕ_discrete p h.length)
        where
          go : Dec (p ≡ h.length) → bit_at ws p ≡ bit_at vs p
          go (yes q) = f.clean p (omega arith) ∙ sym (put.inside p (omega arith) (omega arith) ∙ e)
          go (no q) = sym (C.put_other ws vs h.length v put p q)

  pub push_one : (number : ℕ) (ds : List ℕ) → v ≡ 1 → number ≡ change_count (blocks_of h.capacity) h.length
      → PathMovedBy (blocks_of h.capacity) h.length 1 cs ds → Pushed h v ws cs (outcome (done next h.length number) vs ds)
  push_one number ds e count path =
      push_with number ds (count ∙ sym (simp (eq-eqb v 1 e))) path.long
      (λ f. C.raised_fits (bit_at ws) (bit_at vs) (blocks_of h.capacity) h.length cs ds
      (C.put_more ws vs h.length (f.clean h.length (native.Mathlib.Nat.le_refl h.length))
      (subst (λ (x : ℕ). RangePut ws h.length (h.length + 1) x vs) e put))
      (bit_at_le vs) (high_zero h ws cs vs z put.long) f.right path)
      (near number vs ds (omega (arith, count, change_count_le (blocks_of h.capacity) h.length)) (C.put_bit ws vs h.length v put)
      (C.path_moved (blocks_of h.capacity) h.length 1 cs ds path))

-- ---- run and cut: the bits from n on zeroed, then all counters laid from the words
pub rebuild_done : (c n x : ℕ) (us vs ds : List ℕ) → n ≤ c → 64 * length us ≡ c → RangePut us n c 0 vs → ((k : ℕ) → get_or vs k 0 < 2 ^ 64)
    → length ds ≡ counter_count (blocks_of c) → x ≡ ones (bit_at vs) c → AllFit (bit_at vs) (blocks_of c) ds
    → outcome (done (handle c n x) x 0) vs ds ≡ relaid c (strip_of us n)
rebuild_done c n x us vs ds le size wipe small long count fit =
    let s = C.put_past_strip us vs n c 0 wipe in
    let clean = C.wipe_clean us vs n c wipe (omega arith) in
    let held : x ≡ total_of (strip_of us n) = count ∙ C.held_ones vs n c (strip_of us n) s le clean in
    C.rebuilt_is c n x x 0 (strip_of us n) vs ds s (wipe.long ∙ omega arith) long small clean fit held
    ∙ ap (λ (y : ℕ). rebuilt c (strip_of us n) y 0) held
