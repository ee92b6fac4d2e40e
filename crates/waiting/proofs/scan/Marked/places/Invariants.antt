-- `waiting::scan::Marked::places` meets its contract. The invariant: the words before j are passed, and of the k misfires before the one sought remain `may`
-- of those that may be and `must` of those that must be. Assumes nothing.
use Rattle.std.proofs.Common.{◌≡◌, ◌+◌, ◌*◌, ◌≤◌}
use Rattle.words.specs.Strip.{rank_of}
use Rattle.waiting.specs.Working.{must_bit, may_bit}
use Rattle.waiting.proofs.scan.Marked.places.Given as goal

abbrev pub invariant-loop-j : goal.invariant-loop-j
invariant-loop-j l =
    let s = l.self in
    (l.j ≤ l.to)
    × (rank_of (may_bit s.xs.now s.ys.now) 1 (64 * l.j) + l.may ≡ l.k)
    × (rank_of (must_bit s.xs.now s.ys.now) 1 (64 * l.j) + l.must ≡ l.k)
