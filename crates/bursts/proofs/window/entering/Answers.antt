-- `bursts::window::entering` meets its contract: the word that holds the window's last position and the next hold those past it. Assumes nothing.
use Rattle.std.proofs.Common.{◌≡◌, ℕ, ◌+◌, ◌-◌, ◌*◌, ◌/◌, ◌%◌, get_or, refl, arith}
use Rattle.bursts.proofs.WindowLaws.{past_window}
use Rattle.bursts.proofs.window.entering.Goals as goal

pub returns : goal.returns
returns c =
    let s = c.args in
    let j : ℕ = c.args.j in
    let last : ℕ = j + (s.w - 1) / 64 in
    let u : ℕ = (s.w - 1) % 64 in
    let e : 64 * last + u + 1 ≡ 64 * j + s.w = omega arith in
    past_window s.words.now (64 * j) s.w last u (get_or s.words.now (last + 1) 0) c.following.result e c.following.ensures (omega arith) refl
