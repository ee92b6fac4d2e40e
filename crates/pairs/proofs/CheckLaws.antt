-- The checks of a call on two strips: what they leave. Assumes nothing.
use mathlib.Core.Path.{◌≡◌}
use mathlib.Core.Bool.{◌&&◌}
use mathlib.Core.List.{[], ◌∷◌, ◌++◌}
use mathlib.Core.Option.{none}
use Prim.Native.Nat.{ℕ, ◌*◌, ◌≤◌}
use native.Mathlib.Omega.{arith}
use lib.Dec.{eqb}
use borrow.Author.Tests.{eqb-true, ltb-false}
use Rattle.words.specs.declared.handle.Handle.{Handle}
use Rattle.words.specs.Refusals.{judge}
use Rattle.words.specs.Handles.{most_bits, untaken, strip_lines}
use Rattle.words.specs.Calls.{within_line, span_line}
use Rattle.words.proofs.BoolLaws.{and_second, not_not}
use Rattle.words.proofs.CheckLaws.{Checked, checked, passes, passed_both}
use Rattle.pairs.specs.Calls.{equal_table, pair_lines, pair_within_table, pair_span_table}

-- one length, whose positions lie in the words of both strips
pub record CheckedPair (first : Handle) (words : ℕ) (second : Handle) (others : ℕ) : Type 0 where
  pub equal : first.length ≡ second.length
  pub most : first.length ≤ most_bits
  pub in_words : first.length ≤ 64 * words
  pub in_others : first.length ≤ 64 * others

pub checked_pair : (first : Handle) (words : ℕ) (second : Handle) (others : ℕ) → judge (pair_lines first words second others) ≡ none
    → CheckedPair first words second others
checked_pair first words second others p =
    let a = passed_both (strip_lines first words untaken) (strip_lines second others untaken ++ (equal_table first second)) p in
    let b = passed_both (strip_lines second others untaken) (equal_table first second) a.1 in
    let one : Checked first words untaken = checked first words untaken a.0 in
    let other : Checked second others untaken = checked second others untaken b.0 in
    let e = not_not (eqb first.capacity second.capacity && eqb first.length second.length) (passes (equal_table first second) b.1).0 in
    let n : first.length ≡ second.length = eqb-true _ _ (and_second (eqb first.capacity second.capacity) (eqb first.length second.length) e) in
    record {
      equal = n;
      most = omega (arith, one.long, one.most);
      in_words = omega (arith, one.count, one.step, one.long);
      in_others = omega (arith, other.count, other.step, other.long);
    }

-- and a position not above it
pub checked_within : (first : Handle) (words : ℕ) (second : Handle) (others i : ℕ) → judge (pair_within_table first words second others i) ≡ none
    → CheckedPair first words second others × (i ≤ first.length)
checked_within first words second others i p =
    let b = passed_both (pair_lines first words second others) (within_line first.length i ∷ []) p in
    (checked_pair first words second others b.0, ltb-false _ _ (passes (within_line first.length i ∷ []) b.1).0)

-- and a span
pub checked_span : (first : Handle) (words : ℕ) (second : Handle) (others a b : ℕ) → judge (pair_span_table first words second others a b) ≡ none
    → CheckedPair first words second others × (a ≤ b) × (b ≤ first.length)
checked_span first words second others a b p =
    let ls = span_line a b ∷ within_line first.length b ∷ [] in
    let c = passed_both (pair_lines first words second others) ls p in
    let l = passes ls c.1 in
    (checked_pair first words second others c.0, ltb-false _ _ l.0, ltb-false _ _ l.1.0)
