-- `bursts::search::entering_below` meets its contract: where no position past the window's last word counts, that word alone is read. Assumes nothing.
use Rattle.std.proofs.Common.{◌≡◌, ℕ, ◌+◌, ◌-◌, ◌*◌, ◌/◌, ◌%◌, arith}
use Rattle.bursts.proofs.WindowLaws.{past_in_word}
use Rattle.bursts.proofs.search.entering_below.Goals as goal

pub returns-then-n-last : goal.returns-then-n-last
returns-then-n-last c =
    let s = c.args in
    let j : ℕ = c.args.j in
    let last : ℕ = j + (s.w - 1) / 64 in
    let u : ℕ = (s.w - 1) % 64 in
    let e : 64 * last + u + 1 ≡ 64 * j + s.w = omega arith in
    λ p l h. past_in_word s.words.now (64 * j) s.w last u 0 c.following.result e c.following.ensures p (omega arith)
