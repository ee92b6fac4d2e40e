-- `words::select::select_value` meets its contract. Assumes nothing.
use Rattle.std.proofs.Common.{◌∙◌}
use Rattle.words.specs.Strip.{as_bit}
use Rattle.words.proofs.SelectLaws.{matched_select}
use Rattle.words.proofs.select.select_value.Goals as goal

pub returns : goal.returns
returns c =
    let a = c.args in
    c.select_in_word.ensures ∙ matched_select a.x (as_bit a.v) c.matches.result a.k c.matches.ensures
