-- `testing::images::opened_select` meets its contract: the call on the opened row is the reading by label. Assumes nothing.
use Rattle.image.specs.Kinds.{kind1}
use Rattle.image.proofs.ChainLaws.{opened_value}
use Rattle.image.proofs.KindLaws.{one_kind}
use Rattle.image.proofs.OpenedLaws.{opened_find}
use Rattle.testing.proofs.images.opened_select.Goals as goal

pub returns : goal.returns
returns c =
    let a = c.args in
    let passed = (opened_value a.image.now a.label _ _ c.open_row.ensures c.in_ok-open_row.was).0 in
    opened_find kind1 a.image.now a.label (one_kind a.image.now) passed a.v a.k _ (rw (c.open.ensures.0, c.open.ensures.1) at c.select.ensures)
