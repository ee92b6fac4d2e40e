-- `listing::rows::put_text` meets its contract: the text for each of the three cases. Assumes nothing.
use Rattle.std.proofs.Common.{sym, ap, ◌∙◌}
use Rattle.words.specs.Refusals.{told_of}
use Rattle.image.proofs.InspectLaws.{inspect_value}
use Rattle.listing.proofs.StoreLaws.{put_as}
use Rattle.listing.proofs.TextLaws.{text_long, text_told}
use Rattle.listing.proofs.rows.put_text.Goals as goal

pub returns-then-image-gt-MOST_LISTED : goal.returns-then-image-gt-MOST_LISTED
returns-then-image-gt-MOST_LISTED c = put_as _ (text_long _ c.if-image-gt-MOST_LISTED.true) c.put_too_long.ensures

pub put_rows-requires : goal.put_rows-requires
put_rows-requires c = (inspect_value _ _ _ c.inspect.ensures c.in-Ok.is, c.requires)

pub returns-in-Ok : goal.returns-in-Ok
returns-in-Ok c = put_as _ (text_told _ _ c.if-image-gt-MOST_LISTED.false (sym (ap told_of c.in-Ok.is) ∙ c.inspect.ensures)) c.put_rows.ensures

pub returns-in-Err : goal.returns-in-Err
returns-in-Err c = put_as _ (text_told _ _ c.if-image-gt-MOST_LISTED.false (sym (ap told_of c.in-Err.is) ∙ c.inspect.ensures)) c.put_refused.ensures
