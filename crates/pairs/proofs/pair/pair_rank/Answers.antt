-- `pairs::pair::pair_rank` meets its contract. Assumes nothing.
use Rattle.std.proofs.Common.{length, sym, ap, ◌∙◌, arith}
use Rattle.words.specs.Strip.{rank}
use Rattle.words.specs.Refusals.{value, refused}
use Rattle.words.proofs.CheckLaws.{unless_passed}
use Rattle.pairs.specs.Rules.{rule_of}
use Rattle.pairs.specs.Calls.{pair_within_table, joined_strip}
use Rattle.pairs.proofs.CheckLaws.{checked_within}
use Rattle.pairs.proofs.JoinLaws.{joined_rank}
use Rattle.pairs.proofs.pair.pair_rank.Goals as goal

pub ones-requires : goal.ones-requires
ones-requires c =
    let a = c.args in
    let k = checked_within a.first.handle (length a.first.words.now) a.second.handle (length a.second.words.now) a.i (sym c.in_ok-check_pair_within.ensures) in
    omega (arith, k.0.in_words, k.0.in_others, k.0.most, k.1)

pub returns : goal.returns
returns c =
    let r = rule_of c.args.rule in
    let h = c.args.first.handle in
    let ws = c.args.first.words.now in
    let g = c.args.second.handle in
    let vs = c.args.second.words.now in
    let i = c.args.i in
    let k = checked_within h (length ws) g (length vs) i (sym c.in_ok-check_pair_within.ensures) in
    ap value (c.ones.ensures ∙ sym (joined_rank r ws vs h.length g.length i k.0.equal k.1))
    ∙ unless_passed (pair_within_table h (length ws) g (length vs) i) c.check_pair_within.result refused (value (rank (joined_strip r h ws g vs) 1 i))
    c.check_pair_within.ensures c.in_ok-check_pair_within.was
