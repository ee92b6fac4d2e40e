-- `waiting::scan::Marked::passed` meets its contract. The invariant: the words before `word` are passed, and of the k remain `may` of the misfires that may be
-- and `must` of those that must be. Assumes nothing.
use Rattle.std.proofs.Common.{◌≡◌, ◌+◌, ◌-◌, ◌*◌, ◌≤◌}
use Rattle.words.specs.Strip.{rank_of}
use Rattle.waiting.specs.Working.{must_bit, may_bit}
use Rattle.waiting.proofs.scan.Marked.passed.Given as goal

abbrev pub invariant-loop-word : goal.invariant-loop-word
invariant-loop-word l =
    let s = l.self in
    (l.word ≤ l.to)
    × (rank_of (may_bit s.xs.now s.ys.now) 1 (64 * l.word) + l.may ≡ l.k)
    × (rank_of (must_bit s.xs.now s.ys.now) 1 (64 * l.word) + l.must ≡ l.k)

abbrev pub decreases-loop-word : goal.decreases-loop-word
decreases-loop-word l = l.to - l.word
