-- `counters::build::fill_group` meets its contract. The invariant: `sum` is the sum of the children below i, and the keys below i hold theirs.
-- Assumes nothing.
use Rattle.std.proofs.Common.{◌≡◌, ℕ, ◌+◌, ◌%◌, ◌^◌, ◌<◌, get_or}
use Rattle.counters.proofs.BuildLaws.{sums}
use Rattle.counters.proofs.build.fill_group.Given as goal

abbrev pub invariant-loop-i : goal.invariant-loop-i
invariant-loop-i l = record {
  total : l.sum ≡ sums l.children l.i % 2 ^ 32;
  laid : (d : ℕ) → d < l.i → get_or l.keys d 0 ≡ sums l.children (d + 1) % 2 ^ 32;
}
