-- The machine's own step is one that each call's promise allows, so that from a good state every list of calls is some list of the unit's calls. Assumes nothing.
use mathlib.Core.Path.{◌≡◌, refl, sym, ap, subst, subst₂, ◌∙◌}
use mathlib.Core.Bool.{Bool, true, false, cond}
use mathlib.Core.Logic.{◌⊎◌, inl, inr}
use mathlib.Core.List.{List, [], ◌∷◌, ◌++◌}
use mathlib.Core.Option.{Option, some, none}
use Prim.Native.Nat.{ℕ, ◌+◌, ◌-◌, ◌%◌, min, ◌≤◌, ◌<◌}
use native.Mathlib.Decide.{ℕ_discrete}
use native.Mathlib.Omega.{arith}
use lib.Dec.{eqb, leb}
use lib.ListN.{length, set, length-append, length-set}
use lib.Seq.{get_or-append_seam, get_or-set_same, get_or-set_other}
use borrow.Author.Tests.{leb-false, ltb-false}
use Rattle.words.specs.Strip as strip
use Rattle.words.specs.Strip.{cell}
use Rattle.words.specs.Refusals.{◌⇒◌, judge, unless, value, found}
use Rattle.words.specs.Handles.{handle, handle_of}
use Rattle.words.specs.Calls.{value_line, below_line, absent_line}
use Rattle.words.proofs.Sums.{lt_or, length_list_of}
use Rattle.words.proofs.SearchLaws.{rank_le, select_place, value_found}
use Rattle.words.proofs.StripLaws.{total_ones}
use Rattle.words.proofs.CheckLaws.{not_both, passes, passed_both}
use Rattle.counters.specs.Tree.{blocks_of, counter, counts, change_count}
use Rattle.counters.specs.Record.{StripRecord, packed_words, built_counters}
use Rattle.counters.specs.Promises.{Promise, BitPut, PathMoved, Near, AtMost, PlaceBelow, Below}
use Rattle.counters.specs.Calls.{checks, held_strip, rebuilt, push_table, flip_table, move_table, turned_handle, select_table}
use Rattle.image.specs.Chain.{kind_of}
use Rattle.image.specs.Rows.{row_bits}
use Rattle.image.specs.Calls.{row_part, row_length}
use Rattle.counters.proofs.AfreshLaws.{words_length, counters_length, counters_at, counter_ext, bit_at_packed}
use Rattle.counters.proofs.FlipLaws.{counter_flip, change_count_le}
use Rattle.counters.proofs.NumberLaws.{push_cell}
use Rattle.counters.proofs.ChangeLaws.{push_total, set_total}
use Rattle.counters.proofs.PromiseLaws.{move_judged}
use Rattle.counters.proofs.AgainLaws.{push_bits, set_bits}
use Rattle.machine.specs.Machine.{StripState, ShelfState, State, StripCall, create, push, flip, fill, truncate, get, rank, select, successor, predecessor, verify, ShelfCall, clear, freeze, inspect, row_rank, row_select, row_get, Call, on_strip, on_shelf, Step, through, flipped, strip_move, shelf_move, move, run, outputs}
use Rattle.machine.specs.Unit.{UnitState, afresh_strip, afresh_image, afresh, BySome, StripActed, ShelfActed, Acted}
use Rattle.machine.specs.Demand.{Trace, stop, more, start_of, SomeTrace, EveryListRuns}
use Rattle.machine.proofs.StateLaws.{StripGood, ShelfGood, Good, sized, strip_is, fits}
use Rattle.machine.proofs.StripStepLaws.{strip_step}
use Rattle.machine.proofs.ShelfStepLaws.{shelf_step}
use Rattle.machine.proofs.ListLaws.{next_good}
use Rattle.machine.proofs.DemandLaws.{opened}

-- ---- steps that a promise allows
-- some step of which P holds
record Allows {B : Type 0} (P : Step B → Type 0) : Type 0 where
  step : Step B
  holds : P step

-- where y is the one step of which it can hold, it holds of y
allows_own : {B : Type 0} (P : Step B → Type 0) (y : Step B) → Allows P → ((z : Step B) → P z → z ≡ y) → P y
allows_own P y w only = subst P (only w.step w.holds) w.holds

-- a promise that is an equation
exactly : {B : Type 0} (z : Step B) → Allows (λ (y : Step B). y ≡ z)
exactly z = record { step = z; holds = refl }

-- a promise with a free part is kept by the outcome of its table, where what is done on passing is one that is free on any record
promise_kept : {A : Type 0} (table : Option ℕ) (refuse : ℕ → A) (late : A) (Fit : Type 0) (Loose : A → Type 0) → (table ≡ none → Loose late)
    → Promise A table refuse late Fit Loose (unless table refuse late)
promise_kept none refuse late Fit Loose loose = record { early = (λ n h. not_both h refl); exact = (λ h f. refl); loose = loose }
promise_kept (some m) refuse late Fit Loose loose =
    record {
      early = (λ n h. let e : m ≡ n = cc in ap refuse e);
      exact = (λ h f. not_both {o = some m} {n = m} refl h);
      loose = (λ h. not_both {o = some m} {n = m} refl h);
    }

some_by : {A B : Type 0} (table : Option ℕ) (refuse : ℕ → A) (late : A) (Fit : Type 0) (Loose : A → Type 0) (by : A → Step B) → (table ≡ none → Loose late)
    → Allows (BySome A (Promise A table refuse late Fit Loose) by)
some_by table refuse late Fit Loose by loose =
    record {
      step = by (unless table refuse late);
      holds = record { outcome = unless table refuse late; holds = promise_kept table refuse late Fit Loose loose; same = refl };
    }

-- ---- counts and finds
-- a count is at most i
count_free : (wrong : ℕ) (s : List ℕ) (v i : ℕ) → AtMost wrong i (value (strip.rank s v i))
count_free wrong s v i = AtMost.is (strip.rank s v i) (omega (arith, rank_le (cell s) v (min i (length s))))

-- a find of a stroke that is there is below the length
place_free : (wrong : ℕ) (s : List ℕ) (v k : ℕ) → ((p : ℕ) → cell s p ≤ 1) → v ≤ 1 → k < strip.of_value v (length s) (strip.total_of s)
    → PlaceBelow wrong (length s) (found (strip.select s v k))
place_free wrong s v k bits small there =
    let w = value_found (cell s) (length s) v k (strip.total_of s) bits small (total_ones s bits) there in
    subst (λ (o : Option ℕ). PlaceBelow wrong (length s) (found o)) (sym w.1) (PlaceBelow.is w.0 w.2)

-- a find on a row is below the length, or 6
find_free : (wrong : ℕ) (s : List ℕ) (n v k : ℕ) → length s ≡ n → Below wrong n (found (strip.select s v k))
find_free wrong s n v k e = go (strip.select s v k) refl
  where
    go : (o : Option ℕ) → strip.select s v k ≡ o → Below wrong n (found o)
    go (some p) d = Below.is p (omega (arith, (select_place (cell s) (length s) v k p d).below))
    go none d = Below.absent

-- ---- the record laid afresh before and after one cell becomes b
-- a number more by 1 or 0, where it is 0
same_off : (x y : ℕ) (q : Bool) → y ≡ x + cond q 1 0 → q ≡ false → y ≡ x
same_off x y q e d = e ∙ ap (λ (z : Bool). x + cond z 1 0) d ∙ omega arith

module _ (c : ℕ) (s t : List ℕ) (p b : ℕ) (whole : c % 512 ≡ 0) (within : length s ≤ c) (still : length t ≤ c) (bits : (q : ℕ) → cell s q ≤ 1)
    (bits-after : (q : ℕ) → cell t q ≤ 1) (here : cell t p ≡ b) (there : (q : ℕ) → (q ≡ p → ⊥) → cell t q ≡ cell s q) where
  -- no bit but the stroke's
  bit_put : BitPut p b (packed_words c s) (packed_words c t)
  bit_put =
      record {
        long = words_length c t ∙ sym (words_length c s);
        here = bit_at_packed c t whole still bits-after p ∙ here;
        there = (λ q d. bit_at_packed c t whole still bits-after q ∙ there q d ∙ sym (bit_at_packed c s whole within bits q));
      }

  -- a counter that does not count the stroke stays
  counter_stays : (l j i : ℕ) → 1 ≤ l → i < 72 → counts l j i p ≡ false → counter (cell t) l j i ≡ counter (cell s) l j i
  counter_stays l j i a d off = go (lt_or (cell s p) (cell t p)) (lt_or (cell t p) (cell s p))
    where
      go : (cell s p < cell t p) ⊎ (cell t p ≤ cell s p) → (cell t p < cell s p) ⊎ (cell s p ≤ cell t p)
          → counter (cell t) l j i ≡ counter (cell s) l j i
      go (inl u) w =
          same_off _ _ (counts l j i p)
          (counter_flip {f = cell s} {g = cell t} {p = p} (record { up = omega (arith, bits-after p); else = there }) l j i a d) off
      go (inr u) (inl w) =
          sym (same_off _ _ (counts l j i p)
          (counter_flip {f = cell t} {g = cell s} {p = p} (record { up = omega (arith, bits p); else = (λ q e. sym (there q e)) }) l j i a d) off)
      go (inr u) (inr w) = counter_ext (cell t) (cell s) l j i (λ q. each q (ℕ_discrete q p))
        where
          each : (q : ℕ) → Dec (q ≡ p) → cell t q ≡ cell s q
          each q (yes e) = let z : cell t p ≡ cell s p = omega arith in ap (cell t) e ∙ z ∙ ap (cell s) (sym e)
          each q (no e) = there q e

  -- no counter off the path
  path_moved : PathMoved (blocks_of c) p (built_counters c s) (built_counters c t)
  path_moved =
      record {
        long = counters_length c t ∙ sym (counters_length c s);
        off = (λ l j i x y z w q. counters_at c t l j i x y z w ∙ counter_stays l j i x w q ∙ sym (counters_at c s l j i x y z w));
      }

  -- what add and turn do is free on any record
  change_free : (n u x number : ℕ) → length t ≡ n → strip.total_of t ≡ u → number ≤ 45
      → Near (handle_of c s) (handle c n u) x p b (packed_words c s) (built_counters c s) (rebuilt c t x number)
  change_free n u x number e d most =
      subst₂ (λ (m k : ℕ). Near (handle_of c s) (handle c m k) x p b (packed_words c s) (built_counters c s) (rebuilt c t x number)) e d
      (Near.near number (packed_words c t) (built_counters c t) most bit_put path_moved)

-- ---- the calls on the strip
module _ (a : StripState) (g : StripGood a) where
  abbrev r : StripRecord
  r = afresh_strip a

  -- add
  push_number : (v : ℕ) → cond (eqb v 1) (change_count (blocks_of a.capacity) (length a.strip)) 0 ≤ 45
  push_number v = go (eqb v 1)
    where
      go : (q : Bool) → cond q (change_count (blocks_of a.capacity) (length a.strip)) 0 ≤ 45
      go true = change_count_le (blocks_of a.capacity) (length a.strip)
      go false = omega arith

  push_free : (v : ℕ) → judge (push_table r.handle (length r.words) (length r.counters) v) ≡ none
      → Near r.handle (handle a.capacity (length a.strip + 1) (strip.total_of a.strip + v))
      (length a.strip) (length a.strip) v r.words r.counters
      (rebuilt a.capacity (held_strip r.handle r.words ++ (v ∷ [])) (length a.strip)
      (cond (eqb v 1) (change_count (blocks_of a.capacity) (length a.strip)) 0))
  push_free v pass =
      let ls = value_line v ∷ (leb a.capacity (length a.strip) ⇒ 7) ∷ [] in
      let l = passes ls (passed_both (checks r.handle (length r.words) (length r.counters)) ls pass).1 in
      let one : length (v ∷ []) ≡ 1 = refl in
      let long : length (a.strip ++ (v ∷ [])) ≡ length a.strip + 1 = omega (arith, length-append a.strip (v ∷ []), one) in
      let room : length a.strip < a.capacity = leb-false _ _ l.1.0 in
      subst (λ (u : List ℕ).
      Near r.handle (handle a.capacity (length a.strip + 1) (strip.total_of a.strip + v))
      (length a.strip) (length a.strip) v r.words r.counters
      (rebuilt a.capacity (u ++ (v ∷ [])) (length a.strip) (cond (eqb v 1) (change_count (blocks_of a.capacity) (length a.strip)) 0)))
      (sym (strip_is a g))
      (change_free a.capacity a.strip (a.strip ++ (v ∷ [])) (length a.strip) v (sized a g).step (sized a g).long (omega arith) g.bits
      (push_bits a.strip v g.bits (ltb-false _ _ l.0)) (get_or-append_seam a.strip v [] 0) (push_cell a.strip v)
      (length a.strip + 1) (strip.total_of a.strip + v) (length a.strip) _ long (push_total a.strip v (ltb-false _ _ l.0)) (push_number v))

  -- turn
  flip_free : (i : ℕ) → judge (move_table r.handle r.words (length r.counters) i) ≡ none
      → Near r.handle (turned_handle r.handle (1 - cell (held_strip r.handle r.words) i)) (1 - cell (held_strip r.handle r.words) i) i
      (1 - cell (held_strip r.handle r.words) i) r.words r.counters
      (rebuilt a.capacity (flipped (held_strip r.handle r.words) i) (1 - cell (held_strip r.handle r.words) i)
      (change_count (blocks_of a.capacity) i))
  flip_free i pass =
      let ls = below_line (length a.strip) i ∷ [] in
      let first : judge (flip_table r.handle (length r.words) (length r.counters) i) ≡ none =
      sym (move_judged r.handle r.words r.counters i (fits a g)) ∙ pass in
      let l = passes ls (passed_both (checks r.handle (length r.words) (length r.counters)) ls first).1 in
      let below : i < length a.strip = leb-false _ _ l.0 in
      let b : ℕ = 1 - cell a.strip i in
      let long : length (set a.strip i b) ≡ length a.strip = length-set a.strip i b in
      subst (λ (u : List ℕ).
      Near r.handle (turned_handle r.handle (1 - cell u i)) (1 - cell u i) i (1 - cell u i) r.words r.counters
      (rebuilt a.capacity (flipped u i) (1 - cell u i) (change_count (blocks_of a.capacity) i)))
      (sym (strip_is a g))
      (change_free a.capacity a.strip (set a.strip i b) i b (sized a g).step (sized a g).long (omega (arith, (sized a g).long)) g.bits
      (set_bits a.strip i b g.bits (omega arith)) (get_or-set_same a.strip i b 0 below) (λ q d. get_or-set_other a.strip i q b 0 d)
      (length a.strip) (turned_handle r.handle b).total b (change_count (blocks_of a.capacity) i) long (set_total a.strip i below (g.bits i))
      (change_count_le (blocks_of a.capacity) i))

  -- find
  select_free : (v k : ℕ) → judge (select_table r.handle (length r.words) (length r.counters) v k) ≡ none
      → PlaceBelow 9 (length a.strip) (found (strip.select (held_strip r.handle r.words) v k))
  select_free v k pass =
      let ls = value_line v ∷ absent_line (strip.of_value v (length a.strip) (strip.total_of a.strip)) k ∷ [] in
      let l = passes ls (passed_both (checks r.handle (length r.words) (length r.counters)) ls pass).1 in
      subst (λ (u : List ℕ). PlaceBelow 9 (length a.strip) (found (strip.select u v k))) (sym (strip_is a g))
      (place_free 9 a.strip v k g.bits (ltb-false _ _ l.0) (leb-false _ _ l.1.0))

  -- each call's promise allows a step
  strip_allows : (k : StripCall) → Allows (StripActed k r)
  strip_allows (create c) = exactly _
  strip_allows (push v) = some_by (judge (push_table r.handle (length r.words) (length r.counters) v)) _ _ _ _ _ (push_free v)
  strip_allows (flip i) = some_by (judge (move_table r.handle r.words (length r.counters) i)) _ _ _ _ _ (flip_free i)
  strip_allows (fill p q v) = exactly _
  strip_allows (truncate n) = exactly _
  strip_allows (get i) = exactly _
  strip_allows (rank v i) = some_by _ _ _ _ _ _ (λ e. count_free 9 (held_strip r.handle r.words) v i)
  strip_allows (select v k) = some_by (judge (select_table r.handle (length r.words) (length r.counters) v k)) _ _ _ _ _ (select_free v k)
  strip_allows (successor v i) = exactly _
  strip_allows (predecessor v i) = exactly _
  strip_allows verify = exactly _

  -- the machine's own
  pub strip_allowed : (k : StripCall) → StripActed k r (through afresh_strip (strip_move a k))
  strip_allowed k = allows_own (StripActed k r) (through afresh_strip (strip_move a k)) (strip_allows k) (strip_step a g k)

-- ---- the calls on the image
module _ (a : StripState) (g : StripGood a) (b : ShelfState) (h : ShelfGood b) where
  abbrev im : List ℕ
  im = afresh_image b

  -- each call's promise allows a step
  shelf_allows : (k : ShelfCall) → Allows (ShelfActed k (afresh_strip a) im)
  shelf_allows clear = exactly _
  shelf_allows (freeze label) = exactly _
  shelf_allows inspect = exactly _
  shelf_allows (row_rank label v i) = some_by _ _ _ _ _ _ (λ e. count_free 15 (row_bits (kind_of im) (row_part im label) (row_length im label)) v i)
  shelf_allows (row_select label v k) =
      some_by _ _ _ _ _ _ (λ e.
      find_free 15 (row_bits (kind_of im) (row_part im label) (row_length im label)) (row_length im label) v k (length_list_of _ (row_length im label)))
  shelf_allows (row_get label i) = exactly _

  -- the machine's own
  pub shelf_allowed : (k : ShelfCall) → ShelfActed k (afresh_strip a) im (through afresh_image (shelf_move a b k))
  shelf_allowed k =
      allows_own (ShelfActed k (afresh_strip a) im) (through afresh_image (shelf_move a b k)) (shelf_allows k) (shelf_step a g b h k)

-- ---- every call, and every list
-- the machine's own step is allowed
pub allowed : (s : State) → Good s → (k : Call) → Acted k (afresh s) (through afresh (move s k))
allowed s g (on_strip k) = (strip_allowed s.strip g.strip k, refl)
allowed s g (on_shelf k) = (shelf_allowed s.strip g.strip s.shelf g.shelf k, refl)

-- from a good state laid afresh every list of calls runs, with the machine's answers, to the machine's end
pub trace_exists : (s : State) → Good s → (ks : List Call) → Trace (afresh s) ks (outputs s ks) (afresh (run s ks))
trace_exists s g [] = stop
trace_exists s g (k ∷ ks) = more k (through afresh (move s k)) (allowed s g k) (trace_exists (move s k).next (next_good s g k) ks)

-- so after an accepted lay and clear
pub every_opened_list_runs : EveryListRuns
every_opened_list_runs c x y ks o =
    let g = opened c x y o in
    subst (λ (u : UnitState). SomeTrace u ks) (sym g.1)
    (record {
      out = outputs (start_of c x) ks;
      last = afresh (run (start_of c x) ks);
      trace = trace_exists (start_of c x) g.0 ks;
    })
