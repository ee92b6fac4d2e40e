-- `words::strip::Strip::get` meets its contract. Assumes nothing.
use Rattle.std.proofs.Common.{length, sym, ap, ◌∙◌}
use Rattle.words.specs.Strip.{cell, strip_of}
use Rattle.words.specs.Refusals.{value, refused}
use Rattle.words.specs.Handles.{untaken}
use Rattle.words.specs.Calls.{below_table}
use Rattle.words.proofs.CheckLaws.{checked_below, unless_passed}
use Rattle.words.proofs.StripLaws.{strip_cell}
use Rattle.words.proofs.strip.Strip.get.Goals as goal

pub returns : goal.returns
returns c =
    let h = c.args.self.handle in
    let ws = c.args.self.words.now in
    let i = c.args.i in
    let t = below_table h (length ws) untaken i in
    let k = checked_below h (length ws) untaken i (sym c.in_ok-check_below.ensures) in
    ap value (c.bit_of.ensures ∙ sym (strip_cell ws h.length i k.1))
    ∙ unless_passed t c.check_below.result refused (value (cell (strip_of ws h.length) i)) c.check_below.ensures c.in_ok-check_below.was
