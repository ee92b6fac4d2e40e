-- `merging::rows::Placed::rows_conflict` meets its contract. The invariant: no row walked is unequal to the first image's of its label. The measure is what is left of the image past `next`.
-- Assumes nothing.
use Rattle.std.proofs.Common.{ℕ, length}
use Rattle.std.specs.Prelude.{unwrap_or}
use Rattle.image.proofs.WalkLaws.{Standing, left}
use Rattle.merging.proofs.LoopLaws.{Comparing}
use Rattle.merging.proofs.rows.Placed.rows_conflict.Given as goal

abbrev pub invariant-loop-next : goal.invariant-loop-next
invariant-loop-next l = Standing (λ (at : ℕ). Comparing l.self.image.now l.second at) l.next

abbrev pub decreases-loop-next : goal.decreases-loop-next
decreases-loop-next l = left (length l.second) (unwrap_or l.next 0)
