-- `listing::rows::put_rows` meets its contract. The invariant: the lines of the records walked are stored, and the rest of the chain starts at `next`. The
-- measure is what is left of the image past it. Assumes nothing.
use Rattle.std.proofs.Common.{ℕ, length}
use Rattle.std.specs.Prelude.{unwrap_or}
use Rattle.image.proofs.WalkLaws.{Standing, left}
use Rattle.listing.proofs.RowsLaws.{RowsPut}
use Rattle.listing.proofs.rows.put_rows.Given as goal

abbrev pub invariant-loop-next : goal.invariant-loop-next
invariant-loop-next l = Standing (λ (at : ℕ). RowsPut l.image l.initial.out l.out at l.end) l.next

abbrev pub decreases-loop-next : goal.decreases-loop-next
decreases-loop-next l = left (length l.image) (unwrap_or l.next 0)
