-- `image::inspection::count_rows` meets its contract. The invariant: the rows walked are right, and the records from `next` on decide. The measure is
-- what is left of the image past it. Assumes nothing.
use Rattle.std.proofs.Common.{ℕ, length}
use Rattle.std.specs.Prelude.{unwrap_or}
use Rattle.image.proofs.WalkLaws.{Standing, left}
use Rattle.image.proofs.InspectLaws.{Inspected}
use Rattle.image.proofs.inspection.count_rows.Given as goal

abbrev pub invariant-loop-next : goal.invariant-loop-next
invariant-loop-next l = Standing (λ (at : ℕ). Inspected l.image at l.count) l.next

abbrev pub decreases-loop-next : goal.decreases-loop-next
decreases-loop-next l = left (length l.image) (unwrap_or l.next 0)
