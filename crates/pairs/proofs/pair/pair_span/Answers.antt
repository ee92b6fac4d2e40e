-- `pairs::pair::pair_span` meets its contract. Assumes nothing.
use Rattle.std.proofs.Common.{◌≡◌, ℕ, ◌≤◌, length, pos, ◌-ℤ◌, sym, ap, ap₂, ◌∙◌, arith, lit<}
use Rattle.words.specs.Strip.{strip_of, span_ones}
use Rattle.words.specs.Handles.{most_bits}
use Rattle.words.proofs.CheckLaws.{unless_passed}
use Rattle.words.proofs.SpanLaws.{span_words}
use Rattle.pairs.specs.Calls.{pair_span_table, spanned, unspanned}
use Rattle.pairs.proofs.CheckLaws.{CheckedPair, checked_span}
use Rattle.pairs.proofs.IntLaws.{held_difference}
use Rattle.pairs.proofs.pair.pair_span.Goals as goal
use Rattle.pairs.proofs.pair.pair_span.Goals.{In_ok-check_pair_span}

-- what the checks leave
known : (c : In_ok-check_pair_span)
    → let a = c.args in
    CheckedPair a.first.handle (length a.first.words.now) a.second.handle (length a.second.words.now) × (a.a ≤ a.b) × (a.b ≤ a.first.handle.length)
known c =
    let a = c.args in
    checked_span a.first.handle (length a.first.words.now) a.second.handle (length a.second.words.now) a.a a.b (sym c.in_ok-check_pair_span.ensures)

pub span_ones-p-requires : goal.span_ones-p-requires
span_ones-p-requires c = let k = known (goal.at.span_ones-p-requires c).In_ok-check_pair_span in omega (arith, k.0.in_words, k.0.most, k.1, k.2)

pub span_ones-q-requires : goal.span_ones-q-requires
span_ones-q-requires c = let k = known (goal.at.span_ones-q-requires c).In_ok-check_pair_span in omega (arith, k.0.in_others, k.0.most, k.1, k.2)

pub returns : goal.returns
returns c =
    let a = c.args.a in
    let b = c.args.b in
    let h = c.args.first.handle in
    let ws = c.args.first.words.now in
    let g = c.args.second.handle in
    let vs = c.args.second.words.now in
    let k = known (goal.at.returns c).In_ok-check_pair_span in
    let ep : c.span_ones-p.result ≡ span_ones (strip_of ws h.length) a b =
    omega (arith, c.span_ones-p.ensures.1, span_words ws h.length a b k.1 k.2) in
    let eq : c.span_ones-q.result ≡ span_ones (strip_of vs g.length) a b =
    omega (arith, c.span_ones-q.ensures.1, span_words vs g.length a b k.1 (omega (arith, k.0.equal, k.2))) in
    ap spanned ((held_difference most_bits c.span_ones-p.result c.span_ones-q.result (lit< tt) c.span_ones-p.ensures.0 c.span_ones-q.ensures.0).1
    ∙ ap₂ (λ (x y : ℕ). pos x -ℤ pos y) ep eq)
    ∙ unless_passed (pair_span_table h (length ws) g (length vs) a b) c.check_pair_span.result unspanned
    (spanned (pos (span_ones (strip_of ws h.length) a b) -ℤ pos (span_ones (strip_of vs g.length) a b))) c.check_pair_span.ensures c.in_ok-check_pair_span.was
