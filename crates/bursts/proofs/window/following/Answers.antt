-- `bursts::window::following` meets its contract. Assumes nothing.
use native.Mathlib.Omega.{arith}
use Rattle.bursts.proofs.WindowLaws.{following_is}
use Rattle.bursts.proofs.window.following.Goals as goal

pub returns : goal.returns
returns c =
    let a = c.args in
    following_is a.low a.high a.u (omega arith) (omega arith)
