-- `pairs::pair::pair_select` meets its contract. Assumes nothing.
use Rattle.std.proofs.Common.{◌≡◌, ℕ, ◌+◌, ◌*◌, ◌/◌, length, sym, ap, ◌∙◌, arith}
use Rattle.std.proofs.Math.Option.{Option, some, none}
use Rattle.words.specs.Strip.{holds, rank_of, select_of, select}
use Rattle.words.specs.Refusals.{refused, found}
use Rattle.words.proofs.Sums.{sum_zero}
use Rattle.words.proofs.SearchLaws.{select_beyond}
use Rattle.words.proofs.CheckLaws.{unless_passed}
use Rattle.pairs.specs.Rules.{rule_of}
use Rattle.pairs.specs.Working.{joined_bit}
use Rattle.pairs.specs.Calls.{pair_lines, joined_strip, pair_select_told}
use Rattle.pairs.proofs.CheckLaws.{checked_pair}
use Rattle.pairs.proofs.JoinLaws.{joined_select, kth_below, kth_past, kth_none}
use Rattle.pairs.proofs.pair.pair_select.Goals as goal
use Rattle.pairs.proofs.pair.pair_select.Goals.{In_ok-check_pair}

-- passed: the answer is what is found in the two lists of words
passed : (c : In_ok-check_pair) (o : Option ℕ)
    → let a = c.args in
    select_of (joined_bit (rule_of a.rule) a.first.words.now a.second.words.now) a.first.handle.length 1 a.k ≡ o
    → found o ≡ pair_select_told (rule_of a.rule) a.first.handle a.first.words.now a.second.handle a.second.words.now a.k
passed c o e =
    let r = rule_of c.args.rule in
    let h = c.args.first.handle in
    let ws = c.args.first.words.now in
    let g = c.args.second.handle in
    let vs = c.args.second.words.now in
    let k = checked_pair h (length ws) g (length vs) (sym c.in_ok-check_pair.ensures) in
    sym (ap found (joined_select r ws vs h.length g.length c.args.k k.equal ∙ e))
    ∙ unless_passed (pair_lines h (length ws) g (length vs)) c.check_pair.result refused (found (select (joined_strip r h ws g vs) 1 c.args.k))
    c.check_pair.ensures c.in_ok-check_pair.was

pub returns-then-n-k : goal.returns-then-n-k
returns-then-n-k c =
    let a = c.args in
    passed (goal.at.returns-then-n-k c).In_ok-check_pair none
    (select_beyond (joined_bit (rule_of a.rule) a.first.words.now a.second.words.now) a.first.handle.length 1 a.k c.if-n-k.true)

-- the k-th from the first word on is the k-th
placed : (c : In_ok-check_pair) (m : ℕ) (o : Option ℕ)
    → let a = c.args in
    let f : ℕ → ℕ = joined_bit (rule_of a.rule) a.first.words.now a.second.words.now in
    select_of f m 1 (rank_of f 1 (64 * 0) + a.k) ≡ o → select_of f m 1 a.k ≡ o
placed c m o e =
    let a = c.args in
    let f : ℕ → ℕ = joined_bit (rule_of a.rule) a.first.words.now a.second.words.now in
    let z : a.k ≡ rank_of f 1 (64 * 0) + a.k = omega (arith, sum_zero (holds f 1)) in
    ap (select_of f m 1) z ∙ e

pub returns-in_default : goal.returns-in_default
returns-in_default c =
    let a = c.args in
    let at = (goal.at.returns-in_default c).In_ok-check_pair in
    let m = 64 * ((a.first.handle.length + 63) / 64) in
    passed at none (kth_none (joined_bit (rule_of a.rule) a.first.words.now a.second.words.now) a.first.handle.length m a.k (omega arith)
    (placed at m none c.in_default.ensures))

pub returns-then-p-n : goal.returns-then-p-n
returns-then-p-n c =
    let a = c.args in
    let at = (goal.at.returns-then-p-n c).In_ok-check_pair in
    let p : ℕ = c.in-Some.p in
    let m = 64 * ((a.first.handle.length + 63) / 64) in
    passed at (some p) (kth_below (joined_bit (rule_of a.rule) a.first.words.now a.second.words.now) a.first.handle.length m a.k (omega arith) p
    (placed at m (some p) c.in-Some.ensures) c.if-p-n.true)

pub returns-else-p-n : goal.returns-else-p-n
returns-else-p-n c =
    let a = c.args in
    let at = (goal.at.returns-else-p-n c).In_ok-check_pair in
    let p : ℕ = c.in-Some.p in
    let m = 64 * ((a.first.handle.length + 63) / 64) in
    passed at none (kth_past (joined_bit (rule_of a.rule) a.first.words.now a.second.words.now) a.first.handle.length m a.k (omega arith) p
    (placed at m (some p) c.in-Some.ensures) c.if-p-n.false)
