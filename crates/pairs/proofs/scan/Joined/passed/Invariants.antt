-- `pairs::scan::Joined::passed` meets its contract. The invariant: the words before `word` are passed, and `left` of the k remain. Assumes nothing.
use Rattle.std.proofs.Common.{◌≡◌, ◌+◌, ◌-◌, ◌*◌, ◌≤◌}
use Rattle.words.specs.Strip.{rank_of}
use Rattle.pairs.specs.Rules.{rule_of}
use Rattle.pairs.specs.Working.{joined_bit}
use Rattle.pairs.proofs.scan.Joined.passed.Given as goal

abbrev pub invariant-loop-word : goal.invariant-loop-word
invariant-loop-word l =
    let s = l.self in
    (l.word ≤ l.to)
    × (rank_of (joined_bit (rule_of s.rule) s.xs.now s.ys.now) 1 (64 * l.word) + l.left
    ≡ rank_of (joined_bit (rule_of s.rule) s.xs.now s.ys.now) 1 (64 * l.from) + l.k)

abbrev pub decreases-loop-word : goal.decreases-loop-word
decreases-loop-word l = l.to - l.word
