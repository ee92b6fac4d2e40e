-- `counters::change::truncate` meets its contract. Assumes nothing.
use Rattle.std.proofs.Common.{[], ◌∷◌, length, ap, ◌∙◌, arith, ltb-false}
use Rattle.words.specs.Calls.{within_line}
use Rattle.words.proofs.CheckLaws.{unless_passed}
use Rattle.counters.specs.Promises.{stays}
use Rattle.counters.specs.Calls.{relaid, truncate_table}
use Rattle.counters.proofs.ChangeLaws.{cut_strip}
use Rattle.counters.proofs.PromiseLaws.{tree_over, PassedRecord, record_passed}
use Rattle.counters.proofs.change.truncate.Goals as goal
use Rattle.counters.proofs.change.truncate.Goals.{In_ok-check_truncate}

-- what the checks leave
passed : (c : In_ok-check_truncate)
    → let a = c.args in
    PassedRecord a.h a.words.now a.counters.now (within_line a.h.length a.n ∷ [])
passed c =
    let a = c.args in
    record_passed a.h a.words.now a.counters.now _ c.check_truncate.result c.check_truncate.ensures c.in_ok-check_truncate.was

pub rebuild-requires : goal.rebuild-requires
rebuild-requires c =
    let a = c.args in
    let p = passed (goal.at.rebuild-requires c).In_ok-check_truncate in
    let z = p.known in
    (omega (arith, ltb-false a.h.length a.n p.own.0, z.long), z.most, omega (arith, z.step), omega (arith, z.words, z.step), tree_over z)

pub returns : goal.returns
returns c =
    let a = c.args in
    let v = c.check_truncate in
    let p = passed (goal.at.returns c).In_ok-check_truncate in
    c.rebuild.ensures
    ∙ ap (relaid a.h.capacity) (cut_strip a.words.now a.h.length a.n (ltb-false a.h.length a.n p.own.0))
    ∙ unless_passed (truncate_table a.h (length a.words.now) (length a.counters.now) a.n) v.result
    (stays a.h a.words.now a.counters.now) _ v.ensures c.in_ok-check_truncate.was
