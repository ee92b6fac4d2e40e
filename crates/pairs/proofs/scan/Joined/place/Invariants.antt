-- `pairs::scan::Joined::place` meets its contract. The invariant: the words before j are passed, and `left` of the k remain. Assumes nothing.
use Rattle.std.proofs.Common.{◌≡◌, ◌+◌, ◌*◌, ◌≤◌}
use Rattle.words.specs.Strip.{rank_of}
use Rattle.pairs.specs.Rules.{rule_of}
use Rattle.pairs.specs.Working.{joined_bit}
use Rattle.pairs.proofs.scan.Joined.place.Given as goal

abbrev pub invariant-loop-j : goal.invariant-loop-j
invariant-loop-j l =
    let s = l.self in
    (l.j ≤ l.to)
    × (rank_of (joined_bit (rule_of s.rule) s.xs.now s.ys.now) 1 (64 * l.j) + l.left
    ≡ rank_of (joined_bit (rule_of s.rule) s.xs.now s.ys.now) 1 (64 * l.from) + l.k)
