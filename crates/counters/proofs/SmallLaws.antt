-- What is told by the calls over words and counters is small: every value is below 2^32. Assumes nothing.
use Rattle.std.proofs.Common.{◌≡◌, ℕ, ◌+◌, ◌%◌, ◌^◌, ◌<◌, ◌≤◌, true, not, ◌&&◌, eqb, leb, List, [], ◌∷◌, length, sym, refl, subst, arith, ltb-false, leb-true}
use mathlib.Core.Option.{Option, some, none}
use Rattle.words.specs.declared.handle.Handle.{Handle}
use Rattle.words.specs.Strip.{total_of, of_value}
use Rattle.words.specs.Refusals.{◌⇒◌, judge, Told, value, refused, Small}
use Rattle.words.specs.Handles.{block_bits, most_bits, allowed}
use Rattle.words.specs.Calls.{value_line, within_line, absent_line}
use Rattle.words.proofs.BoolLaws.{and_first, and_second, not_not}
use Rattle.words.proofs.Sums.{sum_most}
use Rattle.words.proofs.StripLaws.{total_le, strip_length}
use Rattle.words.proofs.CheckLaws.{passes}
use Rattle.words.proofs.SmallLaws.{small_unless}
use Rattle.counters.specs.Tree.{blocks_of, nodes, height, total, counter_count}
use Rattle.counters.specs.Working.{most_blocks}
use Rattle.counters.specs.Promises.{Promise, AtMost, PlaceBelow, Below}
use Rattle.counters.specs.Calls.{held_strip, rank_table, Ranked, select_table, Selected, fitting, verify_table, verify_told, counters_told}
use Rattle.counters.proofs.TreeLaws.{nodes_le, height_le}
use Rattle.counters.proofs.PromiseLaws.{sizes_of_lem, lines_of}

-- ---- the forms of a promise
-- small where the table passes
pub small_promise : {late : Told} {Fit : Type 0} {Loose : Told → Type 0} (v : Option ℕ) (o : Told) → Promise Told v refused late Fit Loose o
    → (v ≡ none → Loose o → Small o) → Small o
small_promise none o p h = h refl (p.loose refl)
small_promise (some n) o p h = subst Small (sym (p.early n refl)) tt

-- at most n, and the two below n
pub small_at_most : (wrong n : ℕ) (o : Told) → n < 2 ^ 32 → AtMost wrong n o → Small o
small_at_most wrong n o l (AtMost.is x h) = omega arith
small_at_most wrong n o l AtMost.unfit = tt

pub small_below : (wrong n : ℕ) (o : Told) → n < 2 ^ 32 → Below wrong n o → Small o
small_below wrong n o l (Below.is x h) = omega arith
small_below wrong n o l Below.absent = tt
small_below wrong n o l Below.unfit = tt

pub small_place : (wrong n : ℕ) (o : Told) → n < 2 ^ 32 → PlaceBelow wrong n o → Small o
small_place wrong n o l (PlaceBelow.is x h) = omega arith
small_place wrong n o l PlaceBelow.unfit = tt

-- ---- the calls
-- each of at most three levels has no more nodes than there are blocks
count_small : (n : ℕ) → 0 < n → n ≤ most_blocks → counter_count n < 2 ^ 32
unfolding total
count_small n one few =
    omega (arith, sum_most (λ s. nodes n (s + 1)) most_blocks (height n) (λ s. omega (arith, nodes_le n (s + 1) one)), height_le n)

-- how many counters a capacity needs
pub small_counters : (c : ℕ) → Small (counters_told c)
small_counters c =
    small_unless (judge ((not (allowed c) ⇒ 1) ∷ [])) (value (counter_count (blocks_of c))) (λ e.
    let a : allowed c ≡ true = not_not (allowed c) (passes ((not (allowed c) ⇒ 1) ∷ []) e).0 in
    let b = and_second (eqb (c % block_bits) 0) (leb block_bits c && leb c most_bits) a in
    let least : block_bits ≤ c = leb-true _ _ (and_first (leb block_bits c) (leb c most_bits) b) in
    let most : c ≤ most_bits = leb-true _ _ (and_second (leb block_bits c) (leb c most_bits) b) in
    count_small (blocks_of c) (omega (arith, least)) (omega (arith, most)))

-- check
pub small_verify : (h : Handle) (ws cs : List ℕ) → Small (verify_told h ws cs)
small_verify h ws cs =
    small_unless (judge (verify_table h ws cs)) (value (total_of (held_strip h ws))) (λ e.
    let z = sizes_of_lem h ws cs ((not (fitting h ws cs) ⇒ 9) ∷ []) e in
    omega (arith, total_le (held_strip h ws), strip_length ws h.length, z.long, z.most))

-- count
pub small_ranked : (h : Handle) (v i : ℕ) (ws cs : List ℕ) (o : Told) → Ranked h v i ws cs o → Small o
small_ranked h v i ws cs o p =
    small_promise (judge (rank_table h (length ws) (length cs) v i)) o p (λ e.
    let z = sizes_of_lem h ws cs (value_line v ∷ within_line h.length i ∷ []) e in
    let l : i ≤ h.length = ltb-false _ _ (lines_of h ws cs (value_line v ∷ within_line h.length i ∷ []) e).1.0 in
    small_at_most 9 i o (omega (arith, l, z.long, z.most)))

-- find
pub small_selected : (h : Handle) (v k : ℕ) (ws cs : List ℕ) (o : Told) → Selected h v k ws cs o → Small o
small_selected h v k ws cs o p =
    small_promise (judge (select_table h (length ws) (length cs) v k)) o p (λ e.
    let z = sizes_of_lem h ws cs (value_line v ∷ absent_line (of_value v h.length h.total) k ∷ []) e in
    small_place 9 h.length o (omega (arith, z.long, z.most)))
