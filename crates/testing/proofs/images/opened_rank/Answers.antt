-- `testing::images::opened_rank` meets its contract: the call on the opened row is the reading by label. Assumes nothing.
use Rattle.std.proofs.Common.{[], ◌∷◌, ap, ◌∙◌}
use Rattle.words.specs.Refusals.{told_of}
use Rattle.words.specs.Calls.{value_line, within_line}
use Rattle.words.proofs.CheckLaws.{raised}
use Rattle.image.specs.Calls.{row_length}
use Rattle.image.specs.Kinds.{kind1}
use Rattle.image.proofs.ChainLaws.{opened_value}
use Rattle.image.proofs.KindLaws.{one_kind}
use Rattle.image.proofs.RowLaws.{row_refused_promise}
use Rattle.image.proofs.OpenedLaws.{opened_count}
use Rattle.testing.proofs.images.opened_rank.Goals as goal

pub returns-in_err-open_row : goal.returns-in_err-open_row
returns-in_err-open_row c =
    let a = c.args in
    let e = raised _ _ c.from_residual.ensures.1 in
    row_refused_promise a.image.now a.label _ _ (value_line a.v ∷ within_line (row_length a.image.now a.label) a.i ∷ [])
    (ap told_of e ∙ c.in_err-open_row.ensures) e _ _ _

pub returns : goal.returns
returns c =
    let a = c.args in
    let passed = (opened_value a.image.now a.label _ _ c.open_row.ensures c.in_ok-open_row.was).0 in
    opened_count kind1 a.image.now a.label (one_kind a.image.now) passed a.v a.i _ (rw (c.open.ensures.0, c.open.ensures.1) at c.rank.ensures)
