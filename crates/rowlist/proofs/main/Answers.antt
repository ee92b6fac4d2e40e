-- What the listing tells as written lies inside the text's buffer. Assumes nothing.
use Rattle.std.proofs.Common.{◌≤◌, length, sym}
use Rattle.std.proofs.lemmas.List.{length-take-le}
use Rattle.listing.proofs.TextLaws.{listed_fits}
use Rattle.rowlist.proofs.main.Goals as goal
use Rattle.rowlist.proofs.main.Goals.{In-Some}

fits : (c : In-Some) → c.in-Some.k ≤ length c.write_rows.new.out
fits c = listed_fits _ _ _ _ c.in-Some.ensures

pub slice_bounds-text-end : goal.slice_bounds-text-end
slice_bounds-text-end c = fits (goal.at.slice_bounds-text-end c).In-Some

pub slice_bounds-write_all-end : goal.slice_bounds-write_all-end
slice_bounds-write_all-end c = sym (length-take-le _ _ (fits (goal.at.slice_bounds-write_all-end c).In-Some))
