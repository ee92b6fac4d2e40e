-- `waiting::scan::Marked::between` meets its contract. The invariant: `least` and `most` are the misfires from word `from` to word j - 1, of those that must be
-- and of those that may be. Assumes nothing.
use Rattle.std.proofs.Common.{◌≡◌, ◌+◌, ◌*◌, ◌≤◌}
use Rattle.words.specs.Strip.{rank_of}
use Rattle.waiting.specs.Working.{must_bit, may_bit}
use Rattle.waiting.proofs.scan.Marked.between.Given as goal

abbrev pub invariant-loop-j : goal.invariant-loop-j
invariant-loop-j l =
    let s = l.self in
    (l.j ≤ l.to)
    × (rank_of (must_bit s.xs.now s.ys.now) 1 (64 * l.from) + l.least ≡ rank_of (must_bit s.xs.now s.ys.now) 1 (64 * l.j))
    × (rank_of (may_bit s.xs.now s.ys.now) 1 (64 * l.from) + l.most ≡ rank_of (may_bit s.xs.now s.ys.now) 1 (64 * l.j))
