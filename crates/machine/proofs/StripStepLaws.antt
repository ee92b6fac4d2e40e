-- The calls on the strip: from a strip half laid afresh, each does as the machine, and the half after it is good. Assumes nothing.
use mathlib.Core.Path.{◌≡◌, refl, ap, ap₂, ◌∙◌}
use mathlib.Core.Bool.{Bool, true, false, not, cond}
use mathlib.Core.List.{List, [], ◌∷◌, ◌++◌}
use mathlib.Core.Option.{Option, some, none}
use Prim.Native.Nat.{ℕ, ◌-◌, ◌≤◌, ◌<◌}
use native.Mathlib.Omega.{arith}
use lib.Dec.{eqb, leb}
use lib.ListN.{length, take, length-append, length-set}
use lib.Seq.{length-take-le}
use borrow.Author.Tests.{leb-false, ltb-false}
use Rattle.words.specs.Strip as strip
use Rattle.words.specs.Strip.{cell}
use Rattle.words.specs.Refusals.{Line, ◌⇒◌, judge, unless, Told, value, refused, found}
use Rattle.words.specs.Handles.{handle_of, untaken}
use Rattle.words.specs.Calls.{value_line, within_line, span_line, below_table, value_table}
use Rattle.words.proofs.CheckLaws.{not_both, passes, passed_both}
use Rattle.counters.specs.Tree.{blocks_of, counter_count}
use Rattle.counters.specs.Record.{StripRecord, built_record}
use Rattle.counters.specs.Promises.{CreatedTold, created, uncreated, Outcome, outcome, stays, Promise}
use Rattle.counters.specs.Calls.{checks, held_strip, rebuilt, push_table, flip_table, fill_table, filled, truncate_table, rank_table, select_table}
use Rattle.counters.proofs.PromiseLaws.{promise_exact, move_judged}
use Rattle.counters.proofs.AgainLaws.{push_bits, set_bits, filled_bits, filled_length, take_bits}
use Rattle.machine.specs.Machine.{StripState, StripCall, create, push, flip, fill, truncate, get, rank, select, successor, predecessor, verify, Step, accepted, refuses, tells, through, handle_in, with_strip, changes, flipped, strip_move}
use Rattle.machine.specs.Unit.{afresh_strip, by_created, by_changed, BySome, StripActed}
use Rattle.machine.proofs.StateLaws.{StripGood, passes_strip, sized, words_are, counters_are, strip_is, fits, fitting_is}

-- ---- a step by its table
-- an outcome is that of a machine's step where its refusals change nothing and what is done is the same
pub judged_as : {A B C : Type 0} (by : C → Step B) (f : A → B) (a : A) (refuse : ℕ → C) (late : C) (m : Step A) (o : Option ℕ)
    → ((n : ℕ) → by (refuse n) ≡ refuses (f a) n) → by late ≡ through f m → by (unless o refuse late) ≡ through f (unless o (refuses a) m)
judged_as by f a refuse late m none r l = l
judged_as by f a refuse late m (some n) r l = r n

-- what is told
pub told_judged : {A B : Type 0} (f : A → B) (a : A) (o : Option ℕ) (t : Told) → tells (f a) (unless o refused t) ≡ through f (unless o (refuses a) (tells a t))
told_judged f a o t = judged_as (tells (f a)) f a refused t (tells a t) o (λ n. refl) (go t)
  where
    go : (t : Told) → tells (f a) t ≡ through f (tells a t)
    go (value x) = refl
    go (refused n) = refl

-- by a promise, where its condition holds
by_exact : {A B : Type 0} {refuse : ℕ → A} {late : A} {Fit : Type 0} {Loose : A → Type 0} {by : A → Step B} {y : Step B} (table : Option ℕ)
    → BySome A (Promise A table refuse late Fit Loose) by y → Fit → y ≡ by (unless table refuse late)
by_exact {by = by} table e f = e.same ∙ ap by (promise_exact table e.holds f)

-- what holds before a judged step, and of what is done where the table passes, holds after it
pub judged_good : {A : Type 0} (P : A → Type 0) (a : A) (o : Option ℕ) (m : Step A) → P a → (o ≡ none → P m.next) → P (unless o (refuses a) m).next
judged_good P a none m g f = f refl
judged_good P a (some n) m g f = g

-- and after a step that changes nothing
pub tells_good : {A : Type 0} (P : A → Type 0) (a : A) (o : Option ℕ) (t : Told) → P a → P (unless o (refuses a) (tells a t)).next
tells_good P a none (value x) g = g
tells_good P a none (refused n) g = g
tells_good P a (some n) t g = g

-- a table of which no line has the number 0
abbrev pub Numbered : List Line → Type 0
Numbered [] = Unit {0}
Numbered (l ∷ ls) = (l.number ≡ 0 → ⊥) × Numbered ls

-- gives no refusal 0
pub numbered : (ls : List Line) → Numbered ls → (n : ℕ) → judge ls ≡ some n → n ≡ 0 → ⊥
numbered [] w n p z = not_both p refl
numbered (l ∷ ls) w n p z = go l.applies p (λ q. numbered ls w.1 n q z)
  where
    go : (b : Bool) → cond b (some l.number) (judge ls) ≡ some n → (judge ls ≡ some n → ⊥) → ⊥
    go true q rest = let e : l.number ≡ n = cc in w.0 (e ∙ z)
    go false q rest = rest q

module _ (a : StripState) (g : StripGood a) where
  abbrev r : StripRecord
  r = afresh_strip a

  -- ---- what is done
  -- a change of which the outcome is that of a table and of the strip held
  changed_as : (table : ℕ → ℕ → Option ℕ) (t : List ℕ → List ℕ) (x z : List ℕ → ℕ)
      → by_changed
      (unless (table (length r.words) (length r.counters)) (stays r.handle r.words r.counters)
      (rebuilt a.capacity (t (held_strip r.handle r.words)) (x (held_strip r.handle r.words)) (z (held_strip r.handle r.words))))
      ≡ through afresh_strip (unless (table a.words a.counters) (refuses a) (accepted (with_strip a (t a.strip)) (x a.strip) (z a.strip)))
  changed_as table t x z =
      ap₂ (λ (o : Option ℕ) (u : List ℕ). by_changed (unless o (stays r.handle r.words r.counters) (rebuilt a.capacity (t u) (x u) (z u))))
      (ap₂ table (words_are a g) (counters_are a g)) (strip_is a g)
      ∙ judged_as by_changed afresh_strip a (stays r.handle r.words r.counters) _ _ (table a.words a.counters) (λ n. refl) refl

  -- what is told, by a table and of the strip held
  told_as : (table : ℕ → ℕ → Option ℕ) (late : List ℕ → Told)
      → tells r (unless (table (length r.words) (length r.counters)) refused (late (held_strip r.handle r.words)))
      ≡ through afresh_strip (unless (table a.words a.counters) (refuses a) (tells a (late a.strip)))
  told_as table late =
      ap₂ (λ (o : Option ℕ) (u : List ℕ). tells r (unless o refused (late u))) (ap₂ table (words_are a g) (counters_are a g)) (strip_is a g)
      ∙ told_judged afresh_strip a (table a.words a.counters) (late a.strip)

  -- lay
  pub create_step : (c : ℕ) (y : Step StripRecord) → StripActed (create c) r y → y ≡ through afresh_strip (strip_move a (create c))
  create_step c y e =
      let refuse : ℕ → Outcome CreatedTold = (λ n. outcome (uncreated n) r.words r.counters) in
      let laid : Outcome CreatedTold =
      outcome (created (handle_of c []) (counter_count (blocks_of c))) (built_record c []).words (built_record c []).counters in
      e ∙ ap₂ (λ (n m : ℕ). by_created r.handle (unless (judge (checks (handle_of c []) n m)) refuse laid)) (words_are a g) (counters_are a g)
      ∙ judged_as (by_created r.handle) afresh_strip a refuse laid _ (judge (checks (handle_of c []) a.words a.counters)) (λ n. refl) refl

  -- add
  pub push_step : (v : ℕ) (y : Step StripRecord) → StripActed (push v) r y → y ≡ through afresh_strip (strip_move a (push v))
  push_step v y e =
      by_exact _ e (fits a g)
      ∙ changed_as (λ n m. judge (push_table r.handle n m v)) (λ u. u ++ (v ∷ [])) (λ u. length a.strip)
      (λ u. cond (eqb v 1) (changes a (length a.strip)) 0)

  -- turn
  pub flip_step : (i : ℕ) (y : Step StripRecord) → StripActed (flip i) r y → y ≡ through afresh_strip (strip_move a (flip i))
  flip_step i y e =
      by_exact _ e (fits a g)
      ∙ ap (λ (o : Option ℕ). by_changed
      (unless o (stays r.handle r.words r.counters)
      (rebuilt a.capacity (flipped (held_strip r.handle r.words) i) (1 - cell (held_strip r.handle r.words) i) (changes a i))))
      (move_judged r.handle r.words r.counters i (fits a g))
      ∙ changed_as (λ n m. judge (flip_table r.handle n m i)) (λ u. flipped u i) (λ u. 1 - cell u i) (λ u. changes a i)

  -- run
  pub fill_step : (p q v : ℕ) (y : Step StripRecord) → StripActed (fill p q v) r y → y ≡ through afresh_strip (strip_move a (fill p q v))
  fill_step p q v y e =
      e ∙ changed_as (λ n m. judge (fill_table r.handle n m p q v)) (λ u. filled u p q v) (λ u. strip.total_of (filled u p q v)) (λ u. 0)

  -- cut
  pub truncate_step : (n : ℕ) (y : Step StripRecord) → StripActed (truncate n) r y → y ≡ through afresh_strip (strip_move a (truncate n))
  truncate_step n y e =
      e ∙ changed_as (λ k m. judge (truncate_table r.handle k m n)) (λ u. take n u) (λ u. strip.total_of (take n u)) (λ u. 0)

  -- look
  pub get_step : (i : ℕ) (y : Step StripRecord) → StripActed (get i) r y → y ≡ through afresh_strip (strip_move a (get i))
  get_step i y e = e ∙ told_as (λ n m. judge (below_table r.handle n untaken i)) (λ u. value (cell u i))

  -- count
  pub rank_step : (v i : ℕ) (y : Step StripRecord) → StripActed (rank v i) r y → y ≡ through afresh_strip (strip_move a (rank v i))
  rank_step v i y e = by_exact _ e (fits a g) ∙ told_as (λ n m. judge (rank_table r.handle n m v i)) (λ u. value (strip.rank u v i))

  -- find
  pub select_step : (v k : ℕ) (y : Step StripRecord) → StripActed (select v k) r y → y ≡ through afresh_strip (strip_move a (select v k))
  select_step v k y e = by_exact _ e (fits a g) ∙ told_as (λ n m. judge (select_table r.handle n m v k)) (λ u. found (strip.select u v k))

  -- next
  pub successor_step : (v i : ℕ) (y : Step StripRecord) → StripActed (successor v i) r y → y ≡ through afresh_strip (strip_move a (successor v i))
  successor_step v i y e = e ∙ told_as (λ n m. judge (value_table r.handle n untaken v i)) (λ u. found (strip.successor u v i))

  -- prior
  pub predecessor_step : (v i : ℕ) (y : Step StripRecord) → StripActed (predecessor v i) r y → y ≡ through afresh_strip (strip_move a (predecessor v i))
  predecessor_step v i y e = e ∙ told_as (λ n m. judge (value_table r.handle n untaken v i)) (λ u. found (strip.predecessor u v i))

  -- check: the record fits
  pub verify_step : (y : Step StripRecord) → StripActed verify r y → y ≡ through afresh_strip (strip_move a verify)
  verify_step y e =
      e ∙ ap (λ (b : Bool).
      tells r
      (unless (judge (checks r.handle (length r.words) (length r.counters) ++ ((not b ⇒ 9) ∷ []))) refused
      (value (strip.total_of (held_strip r.handle r.words))))) (fitting_is a g)
      ∙ told_as (λ n m. judge (checks r.handle n m)) (λ u. value (strip.total_of u))

  -- every call
  pub strip_step : (k : StripCall) (y : Step StripRecord) → StripActed k r y → y ≡ through afresh_strip (strip_move a k)
  strip_step (create c) y e = create_step c y e
  strip_step (push v) y e = push_step v y e
  strip_step (flip i) y e = flip_step i y e
  strip_step (fill p q v) y e = fill_step p q v y e
  strip_step (truncate n) y e = truncate_step n y e
  strip_step (get i) y e = get_step i y e
  strip_step (rank v i) y e = rank_step v i y e
  strip_step (select v k) y e = select_step v k y e
  strip_step (successor v i) y e = successor_step v i y e
  strip_step (predecessor v i) y e = predecessor_step v i y e
  strip_step verify y e = verify_step y e

  -- ---- the half after
  -- another strip of bits, not above the capacity
  with_good : (t : List ℕ) → ((p : ℕ) → cell t p ≤ 1) → length t ≤ a.capacity → StripGood (with_strip a t)
  with_good t b l =
      record { passes = passes_strip (handle_in a) t a.words a.counters g.passes l; bits = b }

  -- the lines of a table after the checks
  lines : (ls : List Line) → judge (checks (handle_in a) a.words a.counters ++ ls) ≡ none → judge ls ≡ none
  lines ls p = (passed_both (checks (handle_in a) a.words a.counters) ls p).1

  pub create_good : (c : ℕ) → StripGood (strip_move a (create c)).next
  create_good c =
      judged_good StripGood a (judge (checks (handle_of c []) a.words a.counters)) _ g (λ p. record { passes = p; bits = (λ q. omega arith) })

  pub push_good : (v : ℕ) → StripGood (strip_move a (push v)).next
  push_good v =
      judged_good StripGood a (judge (push_table (handle_in a) a.words a.counters v)) _ g (λ p.
      let ls = value_line v ∷ (leb a.capacity (length a.strip) ⇒ 7) ∷ [] in
      let l = passes ls (lines ls p) in
      let one : length (v ∷ []) ≡ 1 = refl in
      let room : length a.strip < a.capacity = leb-false _ _ l.1.0 in
      with_good (a.strip ++ (v ∷ [])) (push_bits a.strip v g.bits (ltb-false _ _ l.0))
      (omega (arith, length-append a.strip (v ∷ []), one, room)))

  pub flip_good : (i : ℕ) → StripGood (strip_move a (flip i)).next
  flip_good i =
      judged_good StripGood a (judge (flip_table (handle_in a) a.words a.counters i)) _ g (λ p.
      with_good (flipped a.strip i) (set_bits a.strip i (1 - cell a.strip i) g.bits (omega arith))
      (omega (arith, length-set a.strip i (1 - cell a.strip i), (sized a g).long)))

  pub fill_good : (m n v : ℕ) → StripGood (strip_move a (fill m n v)).next
  fill_good m n v =
      judged_good StripGood a (judge (fill_table (handle_in a) a.words a.counters m n v)) _ g (λ p.
      let ls = value_line v ∷ span_line m n ∷ within_line (length a.strip) n ∷ [] in
      let l = passes ls (lines ls p) in
      with_good (filled a.strip m n v) (filled_bits a.strip m n v g.bits (ltb-false _ _ l.0))
      (omega (arith, filled_length a.strip m n v, (sized a g).long)))

  pub truncate_good : (n : ℕ) → StripGood (strip_move a (truncate n)).next
  truncate_good n =
      judged_good StripGood a (judge (truncate_table (handle_in a) a.words a.counters n)) _ g (λ p.
      let ls = within_line (length a.strip) n ∷ [] in
      let l = passes ls (lines ls p) in
      let h : n ≤ length a.strip = ltb-false _ _ l.0 in
      with_good (take n a.strip) (take_bits n a.strip h g.bits) (omega (arith, length-take-le n a.strip h, (sized a g).long)))

  -- a call that changes nothing
  reads_good : (o : Option ℕ) (t : Told) → StripGood (unless o (refuses a) (tells a t)).next
  reads_good o t = tells_good StripGood a o t g

  -- every call
  pub strip_good_next : (k : StripCall) → StripGood (strip_move a k).next
  strip_good_next (create c) = create_good c
  strip_good_next (push v) = push_good v
  strip_good_next (flip i) = flip_good i
  strip_good_next (fill p q v) = fill_good p q v
  strip_good_next (truncate n) = truncate_good n
  strip_good_next (get i) = reads_good (judge (below_table (handle_in a) a.words untaken i)) (value (cell a.strip i))
  strip_good_next (rank v i) = reads_good (judge (rank_table (handle_in a) a.words a.counters v i)) (value (strip.rank a.strip v i))
  strip_good_next (select v k) = reads_good (judge (select_table (handle_in a) a.words a.counters v k)) (found (strip.select a.strip v k))
  strip_good_next (successor v i) = reads_good (judge (value_table (handle_in a) a.words untaken v i)) (found (strip.successor a.strip v i))
  strip_good_next (predecessor v i) = reads_good (judge (value_table (handle_in a) a.words untaken v i)) (found (strip.predecessor a.strip v i))
  strip_good_next verify = reads_good (judge (checks (handle_in a) a.words a.counters)) (value (strip.total_of a.strip))
