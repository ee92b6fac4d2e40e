-- `listing::rows::write_rows` meets its contract. Assumes nothing.
use Rattle.listing.proofs.TextLaws.{listing_short, listing_written}
use Rattle.listing.proofs.rows.write_rows.Goals as goal

pub returns-then-out-lt-TEXT_BYTES : goal.returns-then-out-lt-TEXT_BYTES
returns-then-out-lt-TEXT_BYTES c = listing_short _ _ c.if-out-lt-TEXT_BYTES.true

pub returns : goal.returns
returns c = listing_written _ _ _ _ c.if-out-lt-TEXT_BYTES.false c.put_text.ensures
