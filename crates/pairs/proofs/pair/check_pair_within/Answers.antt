-- `pairs::pair::check_pair_within` meets its contract. Assumes nothing.
use Rattle.std.proofs.Common.{[], ◌∷◌}
use Rattle.words.specs.Calls.{within_line}
use Rattle.words.proofs.CheckLaws.{raised_first}
use Rattle.pairs.specs.Calls.{pair_lines}
use Rattle.pairs.proofs.pair.check_pair_within.Goals as goal

pub returns-in_err-check_pair : goal.returns-in_err-check_pair
returns-in_err-check_pair c =
    let a = c.args in
    raised_first (pair_lines a.first a.words a.second a.others) (within_line a.first.length a.i ∷ []) _ _ _ c.check_pair.ensures c.in_err-check_pair.was c.from_residual.ensures.1
