-- `image::rows::row_get` meets its contract: the promise of `part_get`, carried over to the label's row. Assumes nothing.
use Rattle.std.proofs.Common.{[], ◌∷◌, ap, ◌∙◌}
use Rattle.words.specs.Refusals.{told_of}
use Rattle.words.specs.Calls.{below_line}
use Rattle.words.proofs.CheckLaws.{raised}
use Rattle.image.specs.Calls.{row_length}
use Rattle.image.specs.Kinds.{kind1}
use Rattle.image.proofs.KindLaws.{one_kind}
use Rattle.image.proofs.RowLaws.{row_refused, row_inside, row_room, row_held, row_look}
use Rattle.image.proofs.rows.row_get.Goals as goal

pub returns-in_err-at : goal.returns-in_err-at
returns-in_err-at c =
    let a = c.args in
    let e = raised _ _ c.from_residual.ensures.1 in
    row_refused a.image.now a.label _ _ (below_line (row_length a.image.now a.label) a.i ∷ []) (ap told_of e ∙ c.in_err-at.ensures) e _

pub record_part-part-requires : goal.record_part-part-requires
record_part-part-requires c = row_inside c.args.image.now c.args.label _ c.in_ok-at.ensures

pub length_at-requires : goal.length_at-requires
length_at-requires c = row_room c.args.image.now c.args.label _ c.in_ok-at.ensures _ c.record_part-part.ensures

pub returns : goal.returns
returns c =
    let a = c.args in
    let row = row_held a.image.now a.label _ c.in_ok-at.ensures kind1 _ _ (one_kind a.image.now) c.record_part-part.ensures c.length_at.ensures.0 in
    c.part_get.ensures ∙ row_look row a.i
