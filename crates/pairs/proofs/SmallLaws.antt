-- What is told of two strips is small: every count and position is below 2^32, and every span's integer lies from -134,217,728 to 134,217,728, so that its
-- code tells it from a refusal. Assumes nothing.
use mathlib.Core.Path.{◌≡◌, refl, ap}
use mathlib.Core.Bool.{◌&&◌}
use mathlib.Core.List.{List}
use mathlib.Core.Option.{Option, some, none}
use Prim.Native.Nat.{ℕ, min, ◌+◌, ◌-◌, ◌^◌, ◌≤◌}
use native.Mathlib.Omega.{arith}
use lib.Dec.{eqb, ltb→lt, leb→le}
use lib.ListN.{length}
use lib.IntN.{ℤ, pos, negsuc, nat_abs, ◌-ℤ◌}
use lib.Signed.{◌≤ℤ◌, ◌<ℤ◌}
use Rattle.words.specs.declared.handle.Handle.{Handle}
use Rattle.words.specs.Strip.{cell, strip_of, rank_of, rank, select, span_ones}
use Rattle.words.specs.Refusals.{judge, unless, value, found, Small}
use Rattle.words.specs.Handles.{most_bits}
use Rattle.words.proofs.SearchLaws.{rank_le}
use Rattle.words.proofs.SmallLaws.{small_unless, small_least}
use Rattle.words.proofs.StripLaws.{strip_le}
use Rattle.words.proofs.SpanLaws.{span_le}
use Rattle.pairs.specs.Calls.{pair_lines, pair_within_table, pair_span_table, joined_strip, pair_rank_told, pair_select_told, SpannedTold, spanned, unspanned, coded_span, Within, SmallSpan, pair_span_told}
use Rattle.pairs.proofs.CheckLaws.{checked_pair, checked_within, checked_span}
use Rattle.pairs.proofs.JoinLaws.{joined_length}
use Rattle.pairs.proofs.IntLaws.{difference_within}

-- a count
pub small_rank : (r : ℕ → ℕ → ℕ) (first : Handle) (ws : List ℕ) (second : Handle) (vs : List ℕ) (i : ℕ) → Small (pair_rank_told r first ws second vs i)
small_rank r first ws second vs i =
    let s : List ℕ = joined_strip r first ws second vs in
    small_unless (judge (pair_within_table first (length ws) second (length vs) i)) (value (rank s 1 i)) (λ e.
    let k = checked_within first (length ws) second (length vs) i e in
    omega (arith, rank_le (cell s) 1 (min i (length s)), k.0.most, k.1))

-- a position
pub small_select : (r : ℕ → ℕ → ℕ) (first : Handle) (ws : List ℕ) (second : Handle) (vs : List ℕ) (k : ℕ) → Small (pair_select_told r first ws second vs k)
small_select r first ws second vs k =
    let s : List ℕ = joined_strip r first ws second vs in
    small_unless (judge (pair_lines first (length ws) second (length vs))) (found (select s 1 k)) (λ e.
    let c = checked_pair first (length ws) second (length vs) e in
    small_least (λ p. eqb (cell s p) 1 && eqb (rank_of (cell s) 1 p) k) (length s)
    (omega (arith, joined_length r ws vs first.length second.length, c.most)))

-- ---- a span
small_spanned : (o : Option ℕ) (z : ℤ) → (o ≡ none → Within most_bits z) → SmallSpan (unless o unspanned (spanned z))
small_spanned none z h = h refl
small_spanned (some n) z h = tt

-- an integer of no more than the span's positions, either way
pub span_within : (ws vs : List ℕ) (n m a b c : ℕ) → b - a ≤ c → Within c (pos (span_ones (strip_of ws n) a b) -ℤ pos (span_ones (strip_of vs m) a b))
span_within ws vs n m a b c l =
    difference_within c (span_ones (strip_of ws n) a b) (span_ones (strip_of vs m) a b) (omega (arith, span_le (strip_of ws n) a b (strip_le ws n)))
    (omega (arith, span_le (strip_of vs m) a b (strip_le vs m)))

pub small_span : (first : Handle) (ws : List ℕ) (second : Handle) (vs : List ℕ) (a b : ℕ) → SmallSpan (pair_span_told first ws second vs a b)
small_span first ws second vs a b =
    small_spanned (judge (pair_span_table first (length ws) second (length vs) a b))
    (pos (span_ones (strip_of ws first.length) a b) -ℤ pos (span_ones (strip_of vs second.length) a b)) (λ e.
    let k = checked_span first (length ws) second (length vs) a b e in
    span_within ws vs first.length second.length a b most_bits (omega (arith, k.0.most, k.2)))

-- and so its code says which it is: below 2^32 the integer
pub coded_span_value : (t : SpannedTold) → SmallSpan t → coded_span t <ℤ pos (2 ^ 32) → t ≡ spanned (coded_span t)
coded_span_value (spanned z) h l = refl
coded_span_value (unspanned n) h l = absurd (omega (arith, ltb→lt (2 ^ 32 + n) (2 ^ 32) l.lt))

-- else a refusal, and its number
pub coded_span_refused : (t : SpannedTold) → SmallSpan t → pos (2 ^ 32) ≤ℤ coded_span t → t ≡ unspanned (nat_abs (coded_span t) - 2 ^ 32)
coded_span_refused (spanned (pos n)) h l = absurd (omega (arith, leb→le n most_bits h.most.le, leb→le (2 ^ 32) n l.le))
coded_span_refused (spanned (negsuc n)) h l = absurd l.le
coded_span_refused (unspanned n) h l = let e : n ≡ 2 ^ 32 + n - 2 ^ 32 = omega arith in ap unspanned e
