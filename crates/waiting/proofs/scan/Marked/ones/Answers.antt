-- `waiting::scan::Marked::ones` meets its contract: the misfires of the words before that of i, and those of its low bits. Assumes nothing.
use Rattle.std.proofs.Common.{◌≡◌, ℕ, ◌+◌, ◌*◌, ◌/◌, ◌%◌, refl, ap, ◌∙◌, arith}
use Rattle.words.specs.Strip.{holds, rank_of}
use Rattle.words.proofs.Sums.{sum_zero}
use Rattle.words.proofs.BitLaws.{masked_is}
use Rattle.words.proofs.SearchLaws.{rank_le}
use Rattle.pairs.specs.Rules.{either, only_first}
use Rattle.pairs.proofs.JoinLaws.{joined_last}
use Rattle.waiting.specs.Working.{must_bit, may_bit}
use Rattle.waiting.proofs.scan.Marked.ones.Goals as goal
use Rattle.waiting.proofs.scan.Marked.ones.Goals.{After-ones_of, After-ones_of-2, After-between-n}

-- the misfires of the whole words
abbrev Whole : After-between-n → Type 0
Whole c =
    let s = c.args.self in
    let n = c.between-n.result in
    let m = 64 * (c.args.i / 64) in
    (n.least ≡ rank_of (must_bit s.xs.now s.ys.now) 1 m) × (n.most ≡ rank_of (may_bit s.xs.now s.ys.now) 1 m)

whole : (c : After-between-n) → Whole c
whole c =
    let s = c.args.self in
    let e = c.between-n.ensures in
    (omega (arith, e.0, sum_zero (holds (must_bit s.xs.now s.ys.now) 1)), omega (arith, e.1, sum_zero (holds (may_bit s.xs.now s.ys.now) 1)))

pub returns-then-rest-eq0 : goal.returns-then-rest-eq0
returns-then-rest-eq0 c =
    let s = c.args.self in
    let w = whole (goal.at.returns-then-rest-eq0 c).After-between-n in
    let e : 64 * (c.args.i / 64) ≡ c.args.i = omega arith in
    (w.0 ∙ ap (rank_of (must_bit s.xs.now s.ys.now) 1) e, w.1 ∙ ap (rank_of (may_bit s.xs.now s.ys.now) 1) e)

-- the least with those of the last word's low bits
least_last : (c : After-ones_of) (least : let s = c.args.self in c.between-n.result.least ≡ rank_of (must_bit s.xs.now s.ys.now) 1 (64 * (c.args.i / 64)))
    → let s = c.args.self in
    c.between-n.result.least + c.ones_of.result ≡ rank_of (must_bit s.xs.now s.ys.now) 1 c.args.i
least_last c least =
    let s = c.args.self in
    let i : ℕ = c.args.i in
    let z : ℕ = c.join.result in
    let m = c.low_mask-low in
    let low = masked_is z (i % 64) m.result c.ones_of.result (omega arith) m.ensures c.ones_of.ensures in
    omega (arith, least, low, joined_last only_first s.xs.now s.ys.now (i / 64) z c.join.ensures i refl)

pub overflow_add-least : goal.overflow_add-least
overflow_add-least c =
    let s = c.args.self in
    let at = goal.at.overflow_add-least c in
    omega (arith, least_last at.After-ones_of (whole at.After-between-n).0, rank_le (must_bit s.xs.now s.ys.now) 1 c.args.i)

-- the most with them
most_last : (c : After-ones_of-2) (most : let s = c.args.self in c.between-n.result.most ≡ rank_of (may_bit s.xs.now s.ys.now) 1 (64 * (c.args.i / 64)))
    → let s = c.args.self in
    c.between-n.result.most + c.ones_of-2.result ≡ rank_of (may_bit s.xs.now s.ys.now) 1 c.args.i
most_last c most =
    let s = c.args.self in
    let i : ℕ = c.args.i in
    let z : ℕ = c.join-2.result in
    let m = c.low_mask-low in
    let low = masked_is z (i % 64) m.result c.ones_of-2.result (omega arith) m.ensures c.ones_of-2.ensures in
    omega (arith, most, low, joined_last either s.xs.now s.ys.now (i / 64) z c.join-2.ensures i refl)

pub overflow_add-most : goal.overflow_add-most
overflow_add-most c =
    let s = c.args.self in
    let at = goal.at.overflow_add-most c in
    omega (arith, most_last at.After-ones_of-2 (whole at.After-between-n).1, rank_le (may_bit s.xs.now s.ys.now) 1 c.args.i)

pub returns : goal.returns
returns c =
    let at = goal.at.returns c in
    let w = whole at.After-between-n in
    (least_last at.After-ones_of w.0, most_last at.After-ones_of-2 w.1)
