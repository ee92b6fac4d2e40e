-- `pairs::pair::check_pair_span` meets its contract. Assumes nothing.
use Rattle.std.proofs.Common.{[], ◌∷◌, length}
use Rattle.words.specs.Calls.{within_line, span_line}
use Rattle.words.proofs.CheckLaws.{raised_first}
use Rattle.pairs.specs.Calls.{pair_lines}
use Rattle.pairs.proofs.pair.check_pair_span.Goals as goal

pub returns-in_err-check_pair : goal.returns-in_err-check_pair
returns-in_err-check_pair c =
    let a = c.args in
    raised_first (pair_lines a.first.handle (length a.first.words.now) a.second.handle (length a.second.words.now))
    (span_line a.a a.b ∷ within_line a.first.handle.length a.b ∷ []) _ _ _ c.check_pair.ensures c.in_err-check_pair.was c.from_residual.ensures.1
