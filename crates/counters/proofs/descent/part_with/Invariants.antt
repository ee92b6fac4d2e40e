-- `counters::descent::part_with` meets its contract. The invariant: of the counters passed `count` hold at most k of v. Assumes nothing.
use Rattle.std.proofs.Common.{◌≡◌, ℕ, ◌+◌, ◌*◌, ◌≤◌}
use Rattle.words.specs.Bits.{ones}
use Rattle.words.specs.Strip.{as_bit}
use Rattle.words.specs.Working.{at_most}
use Rattle.counters.specs.Descent.{most_child_bits, PartCounters}
use Rattle.counters.proofs.descent.part_with.Given as goal

abbrev pub invariant-loop-x : goal.invariant-loop-x
invariant-loop-x l = record {
  bits : l.bits ≡ l.size * l.x-index;
  fits : l.bits ≤ 8 * most_child_bits * l.x-index;
  few : l.count ≤ l.x-index;
  reach : (P : ℕ → ℕ) → PartCounters P (as_bit l.v) l.size l.counters l.from → l.count ≡ ones (at_most (λ j. P (j + 1)) l.k) l.x-index;
}
