-- `listing::rows::put_refused` meets its contract: eight bytes, then the number, below 100. Assumes nothing.
use native.Mathlib.Omega.{arith}
use Rattle.listing.proofs.DecimalLaws.{ended_long, decimal_few}
use Rattle.listing.proofs.rows.put_refused.Goals as goal

pub put_ended-requires : goal.put_ended-requires
put_ended-requires c =
    let n = c.from.result in
    omega (arith, c.put_bytes.auto.s, c.requires, ended_long n 10, decimal_few 1 n (omega (arith, c.from.ensures.1)))
