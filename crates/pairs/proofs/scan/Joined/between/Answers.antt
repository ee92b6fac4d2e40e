-- `pairs::scan::Joined::between` meets its contract. The invariant: `sum` is the ones from word `from` to word j - 1. Assumes nothing.
use Rattle.std.proofs.Common.{◌≡◌, ◌+◌, ◌*◌, arith}
use Rattle.words.specs.Strip.{rank_of}
use Rattle.words.proofs.SearchLaws.{rank_le}
use Rattle.pairs.specs.Rules.{rule_of}
use Rattle.pairs.specs.Working.{joined_bit}
use Rattle.pairs.proofs.JoinLaws.{joined_next}
use Rattle.pairs.proofs.scan.Joined.between.Goals as goal
use Rattle.pairs.proofs.scan.Joined.between.Goals.{After-ones_of-sum}

-- the ones with those of word j
next : (c : After-ones_of-sum)
    → let s = c.args.self in
    let l = c.loop-j in
    let f = joined_bit (rule_of s.rule) s.xs.now s.ys.now in
    rank_of f 1 (64 * c.args.from) + (l.sum + c.ones_of-sum.result) ≡ rank_of f 1 (64 * (l.j + 1))
next c =
    let s = c.args.self in
    let l = c.loop-j in
    omega (arith, joined_next (rule_of s.rule) s.xs.now s.ys.now l.j c.word.result c.word.ensures, c.ones_of-sum.ensures, l.invariant.1)

pub overflow_add-sum : goal.overflow_add-sum
overflow_add-sum c =
    let s = c.args.self in
    let f = joined_bit (rule_of s.rule) s.xs.now s.ys.now in
    omega (arith, next (goal.at.overflow_add-sum c).After-ones_of-sum, rank_le f 1 (64 * (c.loop-j.j + 1)))

pub loop-j-preserved : goal.loop-j-preserved
loop-j-preserved c = (omega arith, next (goal.at.loop-j-preserved c).After-ones_of-sum)
