-- A turn on counters laid afresh: exactly those that count the stroke change, each by one, and their number is the one reported. Assumes nothing.
use mathlib.Core.Path.{◌≡◌, refl, sym, ap, ◌∙◌, subst, subst₂}
use mathlib.Core.Bool.{cond}
use mathlib.Core.List.{List, [], ◌∷◌}
use mathlib.Core.Option.{Option, some, none}
use Prim.Native.Nat.{ℕ, ◌+◌, ◌-◌, ◌%◌, ◌≤◌, ◌<◌}
use native.Mathlib.Omega.{arith}
use lib.ListN.{length, set}
use borrow.Author.Tests.{leb-false}
use Rattle.words.specs.Strip.{cell}
use Rattle.words.specs.Refusals.{judge, unless}
use Rattle.words.specs.Calls.{below_line}
use Rattle.words.proofs.CheckLaws.{passes, passed_both}
use Rattle.counters.specs.Tree.{blocks_of, nodes, height, counts, change_count, differ}
use Rattle.counters.specs.Record.{StripRecord, built_counters}
use Rattle.counters.specs.Calls.{checks, flip_table}
use Rattle.counters.proofs.FlipLaws.{OneMore, counter_flip, change_count_le}
use Rattle.counters.proofs.AfreshLaws.{counters_at, counters_length}
use Rattle.counters.proofs.NumberLaws.{set_up, set_down, flip_number}
use Rattle.machine.specs.Machine.{StripState, flip, Step, accepted, refuses, through, handle_in, with_strip, changes, flipped, strip_move}
use Rattle.machine.specs.Unit.{afresh_strip, StripActed}
use Rattle.machine.specs.Demand.{counter_at, Turned}
use Rattle.machine.proofs.StateLaws.{StripGood, sized}
use Rattle.machine.proofs.StripStepLaws.{numbered, strip_step}

-- one bit more, at stroke p: exactly the counters that count it are one more
pub more_counted : (c p : ℕ) (s u : List ℕ) → OneMore (cell s) (cell u) p
    → (t j i : ℕ) → 1 ≤ t → t ≤ height (blocks_of c) → j < nodes (blocks_of c) t → i < 72
    → counter_at (blocks_of c) (built_counters c u) t j i ≡ counter_at (blocks_of c) (built_counters c s) t j i + cond (counts t j i p) 1 0
more_counted c p s u more t j i a b d e =
    counters_at c u t j i a b d e ∙ counter_flip more t j i a e
    ∙ ap (λ (y : ℕ). y + cond (counts t j i p) 1 0) (sym (counters_at c s t j i a b d e))

-- the whole of a turn, on a strip within its capacity
pub turned : (c : ℕ) (s : List ℕ) (i : ℕ) → c % 512 ≡ 0 → length s ≤ c → i < length s → ((p : ℕ) → cell s p ≤ 1)
    → Turned (blocks_of c) i (1 - cell s i) (change_count (blocks_of c) i) (built_counters c s) (built_counters c (set s i (1 - cell s i)))
turned c s i whole within below bits =
    record {
      bit = omega arith;
      size = counters_length c s;
      long = counters_length c after ∙ sym (counters_length c s);
      up = (λ e. more_counted c i s after (set_up s i (1 - cell s i) below (omega (arith, e))));
      down = (λ e. more_counted c i after s (set_down s i (1 - cell s i) below (omega (arith, e, bits i))));
      reported =
          sym (ap (differ (built_counters c s) (built_counters c after)) (counters_length c s) ∙ flip_number c s i whole within below (bits i));
      most = change_count_le (blocks_of c) i;
    }
  where
    after : List ℕ
    after = set s i (1 - cell s i)

-- an accepted turn of the machine
pub machine_turned : (a : StripState) → StripGood a → (i : ℕ) → (strip_move a (flip i)).refusal ≡ 0
    → Turned (blocks_of a.capacity) i (strip_move a (flip i)).first (strip_move a (flip i)).second (afresh_strip a).counters
    (afresh_strip (strip_move a (flip i)).next).counters
machine_turned a g i = go (judge (flip_table (handle_in a) a.words a.counters i)) refl
  where
    m : Step StripState
    m = accepted (with_strip a (flipped a.strip i)) (1 - cell a.strip i) (changes a i)

    go : (o : Option ℕ) → judge (flip_table (handle_in a) a.words a.counters i) ≡ o → (unless o (refuses a) m).refusal ≡ 0
        → Turned (blocks_of a.capacity) i (unless o (refuses a) m).first (unless o (refuses a) m).second (afresh_strip a).counters
        (afresh_strip (unless o (refuses a) m).next).counters
    go none p z =
        let line = below_line (length a.strip) i ∷ [] in
        let below : i < length a.strip = leb-false _ _ (passes line (passed_both (checks (handle_in a) a.words a.counters) line p).1).0 in
        turned a.capacity a.strip i (sized a g).step (sized a g).long below g.bits
    go (some n) p z =
        absurd
        (numbered (flip_table (handle_in a) a.words a.counters i) (λ e. omega arith, (λ e. omega arith, (λ e. omega arith, (λ e. omega arith, tt)))) n p z)

-- and of the unit, by the call's own promise, from a strip half laid afresh
pub strip_turned : (a : StripState) → StripGood a → (r : StripRecord) → r ≡ afresh_strip a → (i : ℕ) (y : Step StripRecord) → StripActed (flip i) r y
    → y.refusal ≡ 0 → Turned (blocks_of r.handle.capacity) i y.first y.second r.counters y.next.counters
strip_turned a g r e i y acted z =
    let d : y ≡ through afresh_strip (strip_move a (flip i)) = strip_step a g (flip i) y (subst (λ (q : StripRecord). StripActed (flip i) q y) e acted) in
    let w = machine_turned a g i (sym (ap (λ (q : Step StripRecord). q.refusal) d) ∙ z) in
    subst₂ (λ (q : StripRecord) (m : Step StripRecord). Turned (blocks_of q.handle.capacity) i m.first m.second q.counters m.next.counters)
    (sym e) (sym d) w
