-- `merging::merging::merge` meets its contract. Assumes nothing.
use Rattle.image.proofs.InspectLaws.{inspect_value}
use Rattle.merging.proofs.MergeLaws.{merge_first, merge_second}
use Rattle.merging.proofs.merging.merge.Goals as goal

pub returns-in_err-inspect : goal.returns-in_err-inspect
returns-in_err-inspect c =
    let a = c.args in
    merge_first a.first.now a.second.now a.third.now _ _ _ c.inspect.ensures c.in_err-inspect.was c.from_residual.ensures.1

pub returns-in_err-inspect-2 : goal.returns-in_err-inspect-2
returns-in_err-inspect-2 c =
    let a = c.args in
    merge_second a.first.now a.second.now a.third.now (inspect_value _ _ _ c.inspect.ensures c.in_ok-inspect.was) _ _ _ c.inspect-2.ensures
    c.in_err-inspect-2.was c.from_residual-in_err-inspect-2.ensures.1

pub merge_rows-requires : goal.merge_rows-requires
merge_rows-requires c = (inspect_value _ _ _ c.inspect.ensures c.in_ok-inspect.was, inspect_value _ _ _ c.inspect-2.ensures c.in_ok-inspect-2.was)
