-- `pairs::scan::Joined::place` meets its contract. The invariant: the words before j are passed, and `left` of the k remain. Assumes nothing.
use Rattle.std.proofs.Common.{◌≡◌, ℕ, ◌+◌, ◌*◌, ◌<◌, ap, arith}
use Rattle.std.proofs.Math.Option.{some}
use Rattle.words.specs.Strip.{rank_of, select_of}
use Rattle.words.proofs.SearchLaws.{select_none}
use Rattle.pairs.specs.Rules.{rule_of}
use Rattle.pairs.specs.Working.{joined_bit}
use Rattle.pairs.proofs.JoinLaws.{joined_next, joined_word_select}
use Rattle.pairs.proofs.scan.Joined.place.Goals as goal
use Rattle.pairs.proofs.scan.Joined.place.Goals.{After-select_in_word}

-- the position in word j
place : (c : After-select_in_word)
    → let a = c.args in
    let f : ℕ → ℕ = joined_bit (rule_of a.self.rule) a.self.xs.now a.self.ys.now in
    let e = c.select_in_word.result in
    (e < 64) × (select_of f (64 * a.to) 1 (rank_of f 1 (64 * a.from) + a.k) ≡ some (64 * c.loop-j.j + e))
place c =
    let a = c.args in
    let s = a.self in
    let l = c.loop-j in
    joined_word_select (rule_of s.rule) s.xs.now s.ys.now l.j c.word-z.result c.word-z.ensures a.to
    (rank_of (joined_bit (rule_of s.rule) s.xs.now s.ys.now) 1 (64 * a.from) + a.k) l.left c.select_in_word.result c.loop-j-test.true l.invariant.1
    (omega (arith, c.if-left-ones.true, c.ones_of-ones.ensures)) c.select_in_word.ensures

pub overflow_add-result : goal.overflow_add-result
overflow_add-result c = omega (arith, (place (goal.at.overflow_add-result c).After-select_in_word).0)

pub returns-then-left-ones : goal.returns-then-left-ones
returns-then-left-ones c = (place (goal.at.returns-then-left-ones c).After-select_in_word).1

pub loop-j-preserved : goal.loop-j-preserved
loop-j-preserved c =
    let s = c.args.self in
    let l = c.loop-j in
    let w = joined_next (rule_of s.rule) s.xs.now s.ys.now l.j c.word-z.result c.word-z.ensures in
    (omega arith, omega (arith, l.invariant.1, w, c.ones_of-ones.ensures))

pub returns : goal.returns
returns c =
    let a = c.args in
    let l = c.loop-j in
    let f : ℕ → ℕ = joined_bit (rule_of a.self.rule) a.self.xs.now a.self.ys.now in
    let e : 64 * l.j ≡ 64 * a.to = omega arith in
    select_none f (64 * a.to) 1 (rank_of f 1 (64 * a.from) + a.k) (omega (arith, l.invariant.1, ap (rank_of f 1) e))
