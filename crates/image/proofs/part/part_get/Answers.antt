-- `image::part::part_get` meets its contract. Assumes nothing.
use Rattle.std.proofs.Common.{ap, ◌∙◌, sym}
use borrow.Author.Tests.{lt-leb}
use Rattle.words.specs.Refusals.{value}
use Rattle.image.specs.Kinds.{kind1}
use Rattle.image.proofs.PartLaws.{row_cell}
use Rattle.image.proofs.part.part_get.Goals as goal

pub returns : goal.returns
returns c =
    let a = c.args in
    let r = c.in_ok-record.ensures in
    let b = rw (r.0, r.1) at c.bit.ensures in
    simp (r.2, lt-leb _ _ c.if-n-i.false) (ap value (b ∙ sym (row_cell kind1 a.part.now a.n a.i c.if-n-i.false)))
