-- `waiting::scan::Marked::places` meets its contract. The invariant: the words before j are passed, and of the k misfires before the one sought remain `may`
-- of those that may be and `must` of those that must be. Assumes nothing.
use Rattle.std.proofs.Common.{◌≡◌, ℕ, ◌+◌, ◌-◌, ◌*◌, ◌≤◌, ◌<◌, ap, subst, arith}
use Rattle.std.proofs.Math.Option.{some}
use Rattle.words.specs.Strip.{rank_of, select_of}
use Rattle.words.proofs.SearchLaws.{select_none}
use Rattle.pairs.specs.Rules.{either, only_first}
use Rattle.pairs.specs.Working.{KthOf}
use Rattle.pairs.proofs.JoinLaws.{joined_next, joined_word_select}
use Rattle.waiting.specs.Working.{must_bit, may_bit}
use Rattle.waiting.proofs.OutcomeLaws.{must_may}
use Rattle.waiting.proofs.scan.Marked.places.Goals as goal
use Rattle.waiting.proofs.scan.Marked.places.Goals.{After-ones_of-least, After-select_in_word, After-select_in_word-then-must-least}

-- the misfires of word j with those before it: those before the next word, of which no more must be than may be
next : (c : After-ones_of-least)
    → let s = c.args.self in
    let j = c.loop-j.j in
    let f : ℕ → ℕ = may_bit s.xs.now s.ys.now in
    let g : ℕ → ℕ = must_bit s.xs.now s.ys.now in
    (rank_of f 1 (64 * j) + c.ones_of-most.result ≡ rank_of f 1 (64 * (j + 1)))
    × (rank_of g 1 (64 * j) + c.ones_of-least.result ≡ rank_of g 1 (64 * (j + 1)))
    × (rank_of g 1 (64 * (j + 1)) ≤ rank_of f 1 (64 * (j + 1)))
next c =
    let s = c.args.self in
    let j = c.loop-j.j in
    let f = joined_next either s.xs.now s.ys.now j c.join-either.result c.join-either.ensures in
    let g = joined_next only_first s.xs.now s.ys.now j c.join-only.result c.join-only.ensures in
    (omega (arith, f, c.ones_of-most.ensures), omega (arith, g, c.ones_of-least.ensures), must_may s.xs.now s.ys.now (64 * (j + 1)))

-- the earliest in word j
earliest : (c : After-select_in_word)
    → let s = c.args.self in
    let e = c.select_in_word.result in
    (e < 64) × (select_of (may_bit s.xs.now s.ys.now) (64 * c.args.to) 1 c.args.k ≡ some (64 * c.loop-j.j + e))
earliest c =
    let s = c.args.self in
    let l = c.loop-j in
    let z = c.join-either in
    joined_word_select either s.xs.now s.ys.now l.j z.result z.ensures c.args.to c.args.k l.may c.select_in_word.result
    c.loop-j-test.true l.invariant.1 (omega (arith, c.if-may-most.true, c.ones_of-most.ensures)) c.select_in_word.ensures

pub overflow_add-earliest : goal.overflow_add-earliest
overflow_add-earliest c = omega (arith, (earliest (goal.at.overflow_add-earliest c).After-select_in_word).0)

-- the latest in it too
latest : (c : After-select_in_word-then-must-least)
    → let s = c.args.self in
    let e = c.select_in_word-then-must-least.result in
    (e < 64) × (select_of (must_bit s.xs.now s.ys.now) (64 * c.args.to) 1 c.args.k ≡ some (64 * c.loop-j.j + e))
latest c =
    let s = c.args.self in
    let l = c.loop-j in
    let z = c.join-only in
    joined_word_select only_first s.xs.now s.ys.now l.j z.result z.ensures c.args.to c.args.k l.must c.select_in_word-then-must-least.result
    c.loop-j-test.true l.invariant.2 (omega (arith, c.if-must-least.true, c.ones_of-least.ensures)) c.select_in_word-then-must-least.ensures

pub overflow_add-latest : goal.overflow_add-latest
overflow_add-latest c = omega (arith, (latest (goal.at.overflow_add-latest c).After-select_in_word-then-must-least).0)

pub returns-then-must-least : goal.returns-then-must-least
returns-then-must-least c = ((earliest (goal.at.returns-then-must-least c).After-select_in_word).1, (latest (goal.at.returns-then-must-least c).After-select_in_word-then-must-least).1)

-- the latest past it: the k-th one is the one that has `must`, less the ones of word j, before it from the next word on
pub returns-then-may-most : goal.returns-then-may-most
returns-then-may-most c =
    let s = c.args.self in
    let l = c.loop-j in
    let g : ℕ → ℕ = must_bit s.xs.now s.ys.now in
    let e : rank_of g 1 (64 * (l.j + 1)) + (l.must - c.ones_of-least.result) ≡ c.args.k =
    omega (arith, (next (goal.at.returns-then-may-most c).After-ones_of-least).1, l.invariant.2, c.if-must-least.false) in
    ((earliest (goal.at.returns-then-may-most c).After-select_in_word).1, subst (λ (k : ℕ). KthOf g (64 * c.args.to) k c.place.result) e c.place.ensures)

pub overflow_sub-must-in-loop-j : goal.overflow_sub-must-in-loop-j
overflow_sub-must-in-loop-j c =
    let w = next (goal.at.overflow_sub-must-in-loop-j c).After-ones_of-least in
    omega (arith, w.0, w.1, w.2, c.loop-j.invariant.1, c.loop-j.invariant.2, c.if-may-most.false)

pub loop-j-preserved : goal.loop-j-preserved
loop-j-preserved c =
    let w = next (goal.at.loop-j-preserved c).After-ones_of-least in
    let l = c.loop-j in
    let enough : c.ones_of-least.result ≤ l.must = omega (arith, w.0, w.1, w.2, l.invariant.1, l.invariant.2, c.if-may-most.false) in
    (omega arith, omega (arith, w.0, l.invariant.1, c.if-may-most.false), omega (arith, w.1, l.invariant.2, enough))

pub returns : goal.returns
returns c =
    let s = c.args.self in
    let l = c.loop-j in
    let f : ℕ → ℕ = may_bit s.xs.now s.ys.now in
    let g : ℕ → ℕ = must_bit s.xs.now s.ys.now in
    let e : 64 * l.j ≡ 64 * c.args.to = omega arith in (
      select_none f (64 * c.args.to) 1 c.args.k (omega (arith, l.invariant.1, ap (rank_of f 1) e)),
      select_none g (64 * c.args.to) 1 c.args.k (omega (arith, l.invariant.2, ap (rank_of g 1) e)),
    )
