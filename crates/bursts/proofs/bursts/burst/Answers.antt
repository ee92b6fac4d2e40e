-- `bursts::bursts::burst` meets its contract. Assumes nothing.
use Rattle.std.proofs.Common.{length, sym, arith}
use Rattle.words.specs.Strip.{strip_of}
use Rattle.words.specs.Refusals.{Told, value, refused}
use Rattle.words.proofs.CheckLaws.{right_passed}
use Rattle.bursts.specs.Calls.{burst_table, RightBurst, Burst}
use Rattle.bursts.proofs.BurstLaws.{checked_burst, burst_found, burst_none}
use Rattle.bursts.proofs.bursts.burst.Goals as goal
use Rattle.bursts.proofs.bursts.burst.Goals.{In_ok-check_burst}

pub invariant_of-windows : goal.invariant_of-windows
invariant_of-windows c =
    let a = c.args in
    let k = checked_burst a.strip.handle (length a.strip.words.now) a.w a.m (sym c.in_ok-check_burst.ensures) in
    record { sized = omega (arith, k.some, k.wide, k.most) }

-- past the checks any answer that is right will do
late : (c : In_ok-check_burst) (t : Told)
    → let a = c.args in
    let h = a.strip.handle in
    let ws = a.strip.words.now in
    RightBurst (strip_of ws h.length) a.w a.m t → Burst h ws a.w a.m t
late c t right =
    let a = c.args in
    let h = a.strip.handle in
    let ws = a.strip.words.now in
    right_passed (burst_table h (length ws) a.w a.m) c.check_burst.result refused (RightBurst (strip_of ws h.length) a.w a.m) c.check_burst.ensures t
    c.in_ok-check_burst.was right

pub returns-in-Some : goal.returns-in-Some
returns-in-Some c =
    let a = c.args in
    late (goal.at.returns-in-Some c).In_ok-check_burst (value c.in-Some.a)
    (burst_found a.strip.words.now a.strip.handle.length a.w a.m c.in-Some.a c.in-Some.ensures)

pub returns-in-None : goal.returns-in-None
returns-in-None c =
    let a = c.args in
    late (goal.at.returns-in-None c).In_ok-check_burst (refused 6) (burst_none a.strip.words.now a.strip.handle.length a.w a.m c.in-None.ensures)
