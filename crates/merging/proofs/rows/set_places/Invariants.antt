-- `merging::rows::set_places` meets its contract. The invariant: the places of the records walked. The measure is what is left of the image past `next`.
-- Assumes nothing.
use Rattle.std.proofs.Common.{ℕ, length}
use Rattle.std.specs.Prelude.{unwrap_or}
use Rattle.image.proofs.WalkLaws.{Standing, left}
use Rattle.merging.proofs.LoopLaws.{Placing}
use Rattle.merging.proofs.rows.set_places.Given as goal

abbrev pub invariant-loop-next : goal.invariant-loop-next
invariant-loop-next l = Standing (λ (at : ℕ). Placing l.image l.places at) l.next

abbrev pub decreases-loop-next : goal.decreases-loop-next
decreases-loop-next l = left (length l.image) (unwrap_or l.next 0)
