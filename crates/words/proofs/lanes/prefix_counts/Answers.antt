-- `words::lanes::prefix_counts` meets its contract: the lanes of the product are prefix sums. Assumes nothing.
use Rattle.std.proofs.Common.{ℕ, ◌*◌, ◌%◌, ◌^◌, ap, ◌∙◌}
use Rattle.words.proofs.LaneLaws.{prefix_law}
use Rattle.words.proofs.lanes.prefix_counts.Goals as goal

pub returns : goal.returns
returns c =
    prefix_law c.args.x c.lane_product.result
    (c.lane_product.ensures ∙ ap (λ (t : ℕ). (t * 0x0101_0101_0101_0101) % 2 ^ 64) c.byte_counts.ensures)
