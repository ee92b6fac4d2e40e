-- `image::query::row_label` meets its contract. Assumes nothing.
use Rattle.std.proofs.Common.{sym, ap, ◌∙◌}
use Rattle.std.specs.Prelude.{Err}
use Rattle.words.specs.Refusals.{told_of}
use Rattle.words.proofs.CheckLaws.{raised}
use Rattle.image.proofs.WalkLaws.{scan_none}
use Rattle.image.proofs.QueryLaws.{label_unsound}
use Rattle.image.proofs.query.row_label.Goals as goal

pub returns-in_err-scan_chain : goal.returns-in_err-scan_chain
returns-in_err-scan_chain c =
    let a = c.args in
    let u = scan_none a.image.now 0 _ (sym c.in_err-scan_chain.was ∙ c.scan_chain.ensures) in
    ap told_of (raised _ _ c.from_residual.ensures.1 ∙ ap Err u.1) ∙ label_unsound a.image.now a.k u.0
