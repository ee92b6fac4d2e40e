-- `pairs::scan::Joined::passed` meets its contract: no word that is passed holds the one sought, since the ones from a word on are no more than its
-- positions. Assumes nothing.
use Rattle.std.proofs.Common.{◌*◌, ◌≤◌, arith}
use Rattle.words.proofs.SearchLaws.{rank_from}
use Rattle.pairs.specs.Rules.{rule_of}
use Rattle.pairs.specs.Working.{joined_bit}
use Rattle.pairs.proofs.scan.Joined.passed.Goals as goal
use Rattle.pairs.proofs.scan.Joined.passed.Goals.{After-between-left}

-- the words passed have no more ones than remain
within : (c : After-between-left) → c.between-left.result ≤ c.loop-word.left
within c =
    let s = c.args.self in
    let l = c.loop-word in
    let n = c.words_passed-next.ensures in
    let h : 64 * l.word ≤ 64 * c.words_passed-next.result = omega (arith, n.0) in
    omega (arith, n.2, c.between-left.ensures, rank_from (joined_bit (rule_of s.rule) s.xs.now s.ys.now) 1 (64 * l.word) (64 * c.words_passed-next.result) h)

pub overflow_sub-left : goal.overflow_sub-left
overflow_sub-left c = within (goal.at.overflow_sub-left c).After-between-left

pub loop-word-preserved : goal.loop-word-preserved
loop-word-preserved c = (
  c.words_passed-next.ensures.1,
  omega (arith, c.loop-word.invariant.1, c.between-left.ensures, within (goal.at.loop-word-preserved c).After-between-left),
)
