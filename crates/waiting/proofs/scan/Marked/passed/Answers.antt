-- `waiting::scan::Marked::passed` meets its contract: no word that is passed holds the one sought, since the ones from a word on are no more than its
-- positions. Assumes nothing.
use Rattle.std.proofs.Common.{◌*◌, ◌≤◌, arith}
use Rattle.words.specs.Strip.{holds}
use Rattle.words.proofs.Sums.{sum_zero}
use Rattle.words.proofs.SearchLaws.{rank_from}
use Rattle.waiting.specs.Working.{must_bit, may_bit}
use Rattle.waiting.proofs.OutcomeLaws.{must_may}
use Rattle.waiting.proofs.scan.Marked.passed.Goals as goal
use Rattle.waiting.proofs.scan.Marked.passed.Goals.{After-between-n}

pub loop-word-init : goal.loop-word-init
loop-word-init c =
    let s = c.args.self in
    omega (arith, sum_zero (holds (must_bit s.xs.now s.ys.now) 1), sum_zero (holds (may_bit s.xs.now s.ys.now) 1))

-- the words passed have no more misfires than remain: not of those that may be, so not of those that must be
fewer : (c : After-between-n)
    → let l = c.loop-word in
    let n = c.between-n.result in
    (n.most ≤ l.may) × (n.least ≤ l.must)
fewer c =
    let s = c.args.self in
    let l = c.loop-word in
    let to = c.words_passed-next.result in
    let p = c.words_passed-next.ensures in
    let e = c.between-n.ensures in
    let h : 64 * l.word ≤ 64 * to = omega (arith, p.0) in
    let m : c.between-n.result.most ≤ l.may = omega (arith, p.2, e.1, rank_from (may_bit s.xs.now s.ys.now) 1 (64 * l.word) (64 * to) h) in
    (m, omega (arith, m, e.0, e.1, l.invariant.1, l.invariant.2, must_may s.xs.now s.ys.now (64 * to)))

pub overflow_sub-may : goal.overflow_sub-may
overflow_sub-may c = (fewer (goal.at.overflow_sub-may c).After-between-n).0

pub overflow_sub-must : goal.overflow_sub-must
overflow_sub-must c = (fewer (goal.at.overflow_sub-must c).After-between-n).1

pub loop-word-preserved : goal.loop-word-preserved
loop-word-preserved c =
    let l = c.loop-word in
    let e = c.between-n.ensures in
    let f = fewer (goal.at.loop-word-preserved c).After-between-n in
    (c.words_passed-next.ensures.1, omega (arith, e.1, l.invariant.1, f.0), omega (arith, e.0, l.invariant.2, f.1))
