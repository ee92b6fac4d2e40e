-- `waiting::scan::Marked::between` meets its contract. The invariant: `least` and `most` are the misfires from word `from` to word j - 1, of those that must be
-- and of those that may be. Assumes nothing.
use Rattle.std.proofs.Common.{◌≡◌, ◌+◌, ◌*◌, arith}
use Rattle.words.specs.Strip.{rank_of}
use Rattle.words.proofs.SearchLaws.{rank_le}
use Rattle.pairs.specs.Rules.{either, only_first}
use Rattle.pairs.proofs.JoinLaws.{joined_next}
use Rattle.waiting.specs.Working.{must_bit, may_bit}
use Rattle.waiting.proofs.scan.Marked.between.Goals as goal
use Rattle.waiting.proofs.scan.Marked.between.Goals.{After-ones_of, After-ones_of-in-loop-j}

-- the least with the misfires of word j
least_next : (c : After-ones_of)
    → let s = c.args.self in
    let l = c.loop-j in
    rank_of (must_bit s.xs.now s.ys.now) 1 (64 * c.args.from) + (l.least + c.ones_of.result) ≡ rank_of (must_bit s.xs.now s.ys.now) 1 (64 * (l.j + 1))
least_next c =
    let s = c.args.self in
    let l = c.loop-j in
    omega (arith, joined_next only_first s.xs.now s.ys.now l.j c.join.result c.join.ensures, c.ones_of.ensures, l.invariant.1)

pub overflow_add-least : goal.overflow_add-least
overflow_add-least c =
    let s = c.args.self in
    omega (arith, least_next (goal.at.overflow_add-least c).After-ones_of, rank_le (must_bit s.xs.now s.ys.now) 1 (64 * (c.loop-j.j + 1)))

-- the most with them
most_next : (c : After-ones_of-in-loop-j)
    → let s = c.args.self in
    let l = c.loop-j in
    rank_of (may_bit s.xs.now s.ys.now) 1 (64 * c.args.from) + (l.most + c.ones_of-in-loop-j.result) ≡ rank_of (may_bit s.xs.now s.ys.now) 1 (64 * (l.j + 1))
most_next c =
    let s = c.args.self in
    let l = c.loop-j in
    omega (arith, joined_next either s.xs.now s.ys.now l.j c.join-in-loop-j.result c.join-in-loop-j.ensures, c.ones_of-in-loop-j.ensures, l.invariant.2)

pub overflow_add-most : goal.overflow_add-most
overflow_add-most c =
    let s = c.args.self in
    omega (arith, most_next (goal.at.overflow_add-most c).After-ones_of-in-loop-j, rank_le (may_bit s.xs.now s.ys.now) 1 (64 * (c.loop-j.j + 1)))

pub loop-j-preserved : goal.loop-j-preserved
loop-j-preserved c =
    let at = goal.at.loop-j-preserved c in
    (omega arith, least_next at.After-ones_of, most_next at.After-ones_of-in-loop-j)
