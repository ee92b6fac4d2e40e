-- `pairs::scan::Joined::ones` meets its contract: the ones of the words before that of i, and those of its low bits. Assumes nothing.
use Rattle.std.proofs.Common.{◌≡◌, ℕ, ◌+◌, ◌*◌, ◌/◌, ◌%◌, refl, ap, ◌∙◌, arith}
use Rattle.words.specs.Strip.{holds, rank_of}
use Rattle.words.proofs.Sums.{sum_zero}
use Rattle.words.proofs.BitLaws.{masked_is}
use Rattle.words.proofs.SearchLaws.{rank_le}
use Rattle.pairs.specs.Rules.{rule_of}
use Rattle.pairs.specs.Working.{joined_bit}
use Rattle.pairs.proofs.JoinLaws.{joined_last}
use Rattle.pairs.proofs.scan.Joined.ones.Goals as goal
use Rattle.pairs.proofs.scan.Joined.ones.Goals.{After-between-sum, After-ones_of}

-- the ones of the whole words
whole : (c : After-between-sum)
    → let s = c.args.self in
    c.between-sum.result ≡ rank_of (joined_bit (rule_of s.rule) s.xs.now s.ys.now) 1 (64 * (c.args.i / 64))
whole c =
    let s = c.args.self in
    omega (arith, c.between-sum.ensures, sum_zero (holds (joined_bit (rule_of s.rule) s.xs.now s.ys.now) 1))

pub returns-then-rest-eq0 : goal.returns-then-rest-eq0
returns-then-rest-eq0 c =
    let s = c.args.self in
    let e : 64 * (c.args.i / 64) ≡ c.args.i = omega arith in
    whole (goal.at.returns-then-rest-eq0 c).After-between-sum ∙ ap (rank_of (joined_bit (rule_of s.rule) s.xs.now s.ys.now) 1) e

-- and those of the last word's low bits
last : (c : After-ones_of) (whole : let s = c.args.self in
    c.between-sum.result ≡ rank_of (joined_bit (rule_of s.rule) s.xs.now s.ys.now) 1 (64 * (c.args.i / 64)))
    → let s = c.args.self in
    c.between-sum.result + c.ones_of.result ≡ rank_of (joined_bit (rule_of s.rule) s.xs.now s.ys.now) 1 c.args.i
last c whole =
    let s = c.args.self in
    let i : ℕ = c.args.i in
    let z : ℕ = c.word.result in
    let low = masked_is z (i % 64) c.low_mask.result c.ones_of.result (omega arith) c.low_mask.ensures c.ones_of.ensures in
    omega (arith, whole, low, joined_last (rule_of s.rule) s.xs.now s.ys.now (i / 64) z c.word.ensures i refl)

pub overflow_add-result : goal.overflow_add-result
overflow_add-result c =
    let s = c.args.self in
    let at = goal.at.overflow_add-result c in
    omega (arith, last at.After-ones_of (whole at.After-between-sum), rank_le (joined_bit (rule_of s.rule) s.xs.now s.ys.now) 1 c.args.i)

pub returns : goal.returns
returns c = last (goal.at.returns c).After-ones_of (whole (goal.at.returns c).After-between-sum)
