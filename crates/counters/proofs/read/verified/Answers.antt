-- `counters::read::verified` meets its contract. Assumes nothing.
use Rattle.std.proofs.Common.{◌∙◌, Bool, sym, subst}
use Rattle.words.proofs.StripLaws.{strip_total}
use Rattle.counters.specs.Record.{Fits}
use Rattle.counters.specs.Working.{Decides}
use Rattle.counters.proofs.ReadLaws.{verify_unfit, verify_fits}
use Rattle.counters.proofs.read.verified.Goals as goal

pub returns-then-not-record_fits : goal.returns-then-not-record_fits
returns-then-not-record_fits c =
    let a = c.args in
    verify_unfit a.h a.words.now a.counters.now (sym c.in_ok-check_record.ensures)
    (subst (λ (b : Bool). Decides b (Fits a.h a.words.now a.counters.now)) c.if-not-record_fits.true c.record_fits.ensures.1)

pub returns : goal.returns
returns c =
    let a = c.args in
    let f = subst (λ (b : Bool). Decides b (Fits a.h a.words.now a.counters.now)) c.if-not-record_fits.false c.record_fits.ensures.1 in
    verify_fits a.h a.words.now a.counters.now a.h.total (sym c.in_ok-check_record.ensures) (λ k. (c.type_inv.words k).fits) f
    (f.held ∙ strip_total a.words.now a.h.length)
