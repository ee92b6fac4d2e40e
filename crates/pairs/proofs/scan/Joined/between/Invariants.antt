-- `pairs::scan::Joined::between` meets its contract. The invariant: `sum` is the ones from word `from` to word j - 1. Assumes nothing.
use Rattle.std.proofs.Common.{◌≡◌, ◌+◌, ◌*◌, ◌≤◌}
use Rattle.words.specs.Strip.{rank_of}
use Rattle.pairs.specs.Rules.{rule_of}
use Rattle.pairs.specs.Working.{joined_bit}
use Rattle.pairs.proofs.scan.Joined.between.Given as goal

abbrev pub invariant-loop-j : goal.invariant-loop-j
invariant-loop-j l =
    let s = l.self in
    (l.j ≤ l.to)
    × (rank_of (joined_bit (rule_of s.rule) s.xs.now s.ys.now) 1 (64 * l.from) + l.sum ≡ rank_of (joined_bit (rule_of s.rule) s.xs.now s.ys.now) 1 (64 * l.j))
