-- `image::freezing::check_freeze` meets its contract. Assumes nothing.
use Rattle.std.proofs.Common.{ap, ◌∙◌, sym}
use Rattle.image.specs.Kinds.{Kind}
use Rattle.image.specs.Layout.{size_of}
use Rattle.image.specs.Writing.{new_place}
use Rattle.image.proofs.KindLaws.{one_kind}
use Rattle.image.proofs.FreezeLaws.{freeze_late}
use Rattle.image.proofs.freezing.check_freeze.Goals as goal

pub returns : goal.returns
returns c =
    let a = c.args in
    c.new_place.ensures
    ∙ ap (new_place a.image.now a.label) (c.record_size.ensures ∙ ap (λ (K : Kind). size_of K a.h.length) (sym (one_kind a.image.now)))
    ∙ freeze_late a.h a.words a.image.now a.label c.check_strip.result c.check_strip.ensures c.in_ok-check_strip.was
