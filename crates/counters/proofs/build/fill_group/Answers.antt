-- `counters::build::fill_group` meets its contract. Assumes nothing.
use Rattle.std.proofs.Common.{◌≡◌, ℕ, ◌+◌, ◌%◌, ◌^◌, get_or, sym, ap, ◌∙◌, arith}
use Rattle.words.proofs.Sums.{sum_zero, stored_more}
use Rattle.counters.proofs.BuildLaws.{sums, sums_more}
use Rattle.counters.proofs.build.fill_group.Goals as goal

pub loop-i-init : goal.loop-i-init
loop-i-init c =
    record { total = sym (ap (λ (n : ℕ). n % 2 ^ 32) (sum_zero (λ m. get_or c.args.children.now m 0))); laid = λ d l. absurd (omega arith) }

pub loop-i-preserved : goal.loop-i-preserved
loop-i-preserved c =
    let l = c.loop-i in
    let ts = c.args.children.now in
    let sum : ℕ = (l.sum + get_or ts l.i 0) % 2 ^ 32 in
    let e : sum ≡ sums ts (l.i + 1) % 2 ^ 32 = ap (λ (n : ℕ). (n + get_or ts l.i 0) % 2 ^ 32) l.invariant.total ∙ sums_more ts l.i in
    record { total = e; laid = stored_more (λ d. sums ts (d + 1) % 2 ^ 32) l.keys l.i sum (omega arith) l.invariant.laid e }
