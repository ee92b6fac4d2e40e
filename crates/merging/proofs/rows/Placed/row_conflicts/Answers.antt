-- `merging::rows::Placed::row_conflicts` meets its contract. Assumes nothing.
use Rattle.std.proofs.Common.{sym, ap, ◌∙◌, not}
use mathlib.Core.Option.{Option}
use Rattle.image.specs.Shelf.{Labelled}
use Rattle.merging.specs.Merged.{row_at, unequal}
use Rattle.merging.proofs.LoopLaws.{place_none, place_row, place_right}
use Rattle.merging.proofs.rows.Placed.row_conflicts.Goals as goal

pub rows_equal-requires : goal.rows_equal-requires
rows_equal-requires c = (place_right c.requires.0.0 c.requires.0.1 _ _ c.label_at.ensures.0 c.requires.2 _ c.in-Some.is, c.requires.1)

pub returns-in-Some : goal.returns-in-Some
returns-in-Some c =
    ap not c.rows_equal.ensures
    ∙ sym (ap (λ (o : Option Labelled). unequal o (row_at c.args.second.now c.args.at))
    (place_row c.requires.0.0 c.requires.0.1 _ _ c.label_at.ensures.0 c.requires.2 _ c.in-Some.is))

pub returns-in-None : goal.returns-in-None
returns-in-None c =
    sym (ap (λ (o : Option Labelled). unequal o (row_at c.args.second.now c.args.at))
    (place_none c.requires.0.0 c.requires.0.1 _ _ c.label_at.ensures.0 c.requires.2 c.in-None.is))
