-- `image::open::row_part` meets its contract. Assumes nothing.
use Rattle.image.proofs.RowLaws.{row_inside}
use Rattle.image.proofs.open.row_part.Goals as goal

pub record_part-requires : goal.record_part-requires
record_part-requires c = row_inside c.args.image.now c.args.label _ c.in-Ok.ensures
