-- `listing::rows::put_line` meets its contract: three numbers, one after another. Assumes nothing.
use Rattle.std.proofs.Common.{ℕ, ap}
use Rattle.listing.specs.Text.{ended_by}
use Rattle.listing.proofs.StoreLaws.{put_more, put_as}
use Rattle.listing.proofs.rows.put_line.Goals as goal

pub returns : goal.returns
returns c =
    put_more (put_as _ (ap (λ (n : ℕ). ended_by n 32) c.label_at.ensures.0) c.put_ended-label_end.ensures)
    (put_more (put_as _ (ap (λ (n : ℕ). ended_by n 32) c.length_at.ensures.0) c.put_ended-length_end.ensures)
    (put_as _ (ap (λ (n : ℕ). ended_by n 10) c.ones_at.ensures.0) c.put_ended.ensures))
