-- `image::query::row_length` meets its contract: the length of the record at the place that the opening gives. Assumes nothing.
use Rattle.std.proofs.Common.{ap, ◌∙◌}
use Rattle.words.specs.Refusals.{told_of}
use Rattle.words.proofs.CheckLaws.{raised}
use Rattle.image.proofs.RowLaws.{row_inside}
use Rattle.image.proofs.QueryLaws.{length_refused, length_opened}
use Rattle.image.proofs.query.row_length.Goals as goal

pub returns-in_err-at : goal.returns-in_err-at
returns-in_err-at c =
    let e = raised _ _ c.from_residual.ensures.1 in
    length_refused c.args.image.now c.args.label _ _ (ap told_of e ∙ c.in_err-at.ensures) e

pub length_at-requires : goal.length_at-requires
length_at-requires c = (row_inside c.args.image.now c.args.label _ c.in_ok-at.ensures).0

pub returns : goal.returns
returns c = length_opened c.args.image.now c.args.label _ _ _ c.row_start.ensures c.in_ok-at.was c.length_at.ensures.0
