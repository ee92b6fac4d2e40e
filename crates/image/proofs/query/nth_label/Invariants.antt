-- `image::query::nth_label` meets its contract. The invariant: the records walked and `left` make k. The measure is what is left of the image past `next`.
-- Assumes nothing.
use Rattle.std.proofs.Common.{ℕ, length}
use Rattle.std.specs.Prelude.{unwrap_or}
use Rattle.image.proofs.WalkLaws.{Standing, left}
use Rattle.image.proofs.QueryLaws.{Nearing}
use Rattle.image.proofs.query.nth_label.Given as goal

abbrev pub invariant-loop-next : goal.invariant-loop-next
invariant-loop-next l = Standing (λ (at : ℕ). Nearing l.image l.k at l.left) l.next

abbrev pub decreases-loop-next : goal.decreases-loop-next
decreases-loop-next l = left (length l.image) (unwrap_or l.next 0)
