-- `counters::change::flip` meets its contract. Assumes nothing.
use Rattle.std.proofs.Common.{◌≡◌, ℕ, ◌-◌, ◌^◌, ◌<◌, false, cond, eqb, [], ◌∷◌, sym, ap, ◌∙◌, subst, arith, leb-false}
use Rattle.words.specs.declared.handle.Handle.{Handle}
use Rattle.words.specs.Bits.{bit_at}
use Rattle.words.specs.Handles.{handle}
use Rattle.words.specs.Calls.{below_line}
use Rattle.words.proofs.StripLaws.{strip_cell}
use Rattle.counters.specs.Promises.{done, outcome}
use Rattle.counters.specs.Calls.{turned_bit, total_line, turned_handle, Flipped}
use Rattle.counters.proofs.PromiseLaws.{tree_over, PassedRecord, record_passed, flip_done}
use Rattle.counters.proofs.change.flip.Goals as goal
use Rattle.counters.proofs.change.flip.Goals.{In_ok-check_flip}

-- what the checks leave
passed : (c : In_ok-check_flip)
    → let a = c.args in
    PassedRecord a.h a.words.now a.counters.now (below_line a.h.length a.i ∷ total_line a.h (turned_bit a.h a.words.now a.i) ∷ [])
passed c =
    let a = c.args in
    record_passed a.h a.words.now a.counters.now _ c.check_flip.result c.check_flip.ensures c.in_ok-check_flip.was

pub move_path-changed-requires : goal.move_path-changed-requires
move_path-changed-requires c =
    let p = passed (goal.at.move_path-changed-requires c).In_ok-check_flip in
    let z = p.known in
    (tree_over z, omega (arith, leb-false c.args.h.length c.args.i p.own.0, z.step, z.long))

pub returns : goal.returns
returns c =
    let a = c.args in
    let p = passed (goal.at.returns c).In_ok-check_flip in
    let below : a.i < a.h.length = leb-false _ _ p.own.0 in
    let t = c.moved_total-total in
    let flipped = c.flip_position-b in
    let raised = c.move_path-changed in
    let stepped = c.step_to in
    let b : flipped.result ≡ 1 - bit_at a.words.now a.i = flipped.ensures.value in
    let same : turned_bit a.h a.words.now a.i ≡ flipped.result =
    ap (λ (x : ℕ). 1 - x) (strip_cell a.words.now a.h.length a.i below) ∙ sym b in
    let free : (total_line a.h flipped.result).applies ≡ false = ap (λ (x : ℕ). (total_line a.h x).applies) (sym same) ∙ p.own.1.0 in
    let made : c.new.result ≡ turned_handle a.h flipped.result =
    c.new.ensures ∙ ap (handle a.h.capacity a.h.length) (t.ensures.1 free) in
    subst (λ (k : Handle). Flipped a.h a.i a.words.now a.counters.now
    (outcome (done k flipped.result raised.result) flipped.new.words raised.new.counters))
    (sym made)
    (subst (λ (x : ℕ). Flipped a.h a.i a.words.now a.counters.now
    (outcome (done (turned_handle a.h x) x raised.result) flipped.new.words raised.new.counters))
    (sym b)
    (flip_done a.h a.words.now flipped.new.words a.counters.now raised.new.counters a.i raised.result stepped.result p.known below
    flipped.ensures.range_put (λ k. (c.type_inv.words k).fits) raised.ensures.1 raised.ensures.0
    (stepped.ensures ∙ ap (λ (x : ℕ). cond (eqb x 1) 1 (2 ^ 32 - 1)) b)
    p.table))
