-- `waiting::waiting::waiting_rank` meets its contract. Assumes nothing.
use Rattle.std.proofs.Common.{length, sym, arith}
use Rattle.words.specs.Strip.{strip_of}
use Rattle.words.proofs.CheckLaws.{right_passed}
use Rattle.pairs.specs.Calls.{pair_within_table}
use Rattle.pairs.proofs.CheckLaws.{checked_within}
use Rattle.waiting.specs.Calls.{least_most, unranked, RightRank}
use Rattle.waiting.proofs.CallLaws.{rank_right}
use Rattle.waiting.proofs.waiting.waiting_rank.Goals as goal

pub ones-requires : goal.ones-requires
ones-requires c =
    let a = c.args in
    let k = checked_within a.strip.handle (length a.strip.words.now) a.waiting.handle (length a.waiting.words.now) a.i (sym c.in_ok-check_pair_within.ensures) in
    omega (arith, k.0.in_words, k.0.in_others, k.0.most, k.1)

pub returns : goal.returns
returns c =
    let h = c.args.strip.handle in
    let ws = c.args.strip.words.now in
    let g = c.args.waiting.handle in
    let vs = c.args.waiting.words.now in
    let i = c.args.i in
    let v = c.check_pair_within in
    let n = c.ones in
    let k = checked_within h (length ws) g (length vs) i (sym c.in_ok-check_pair_within.ensures) in
    right_passed (pair_within_table h (length ws) g (length vs) i) v.result unranked (RightRank (strip_of ws h.length) (strip_of vs g.length) i) v.ensures
    (least_most n.result.least n.result.most) c.in_ok-check_pair_within.was
    (rank_right ws vs h.length g.length k.0.equal i n.result.least n.result.most k.1 n.ensures.0 n.ensures.1)
