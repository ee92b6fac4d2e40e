-- `counters::change::push` meets its contract. Assumes nothing.
use Rattle.std.proofs.Common.{ℕ, ◌+◌, ◌^◌, ◌<◌, ◌≤◌, leb, List, [], ◌∷◌, sym, subst, subst₂, get_or, arith, ltb-false, leb-false}
use Rattle.words.specs.declared.handle.Handle.{Handle}
use Rattle.words.specs.Refusals.{◌⇒◌}
use Rattle.words.specs.Handles.{handle}
use Rattle.words.specs.Calls.{value_line}
use Rattle.words.specs.Working.{RangePut}
use Rattle.words.proofs.WordLaws.{as_bit_of}
use Rattle.counters.specs.Promises.{done, outcome}
use Rattle.counters.specs.Calls.{Pushed}
use Rattle.counters.proofs.PromiseLaws.{record_passed, push_zero, push_one}
use Rattle.counters.proofs.change.push.Goals as goal
use Rattle.counters.proofs.change.push.Goals.{then-v-eq1, else-v-eq1}

pub returns : goal.returns
returns c =
    let a = c.args in
    let h = a.h in
    let ws = a.words.now in
    let cs = a.counters.now in
    let vs = c.put_position.new.words in
    let p =
    record_passed h ws cs (value_line a.v ∷ (leb h.capacity h.length ⇒ 7) ∷ []) c.check_push.result c.check_push.ensures c.in_ok-check_push.was in
    let fine : a.v ≤ 1 = ltb-false 1 a.v p.own.0 in
    let room : h.length < h.capacity = leb-false _ _ p.own.1.0 in
    let put : RangePut ws h.length (h.length + 1) a.v vs =
    subst (λ (b : ℕ). RangePut ws h.length (h.length + 1) b vs) (as_bit_of a.v fine) c.put_position.ensures in
    let next : Handle = handle h.capacity (h.length + 1) (h.total + a.v) in
    let small : (k : ℕ) → get_or vs k 0 < 2 ^ 64 = λ k. (c.type_inv.words k).fits in
    subst (λ (g : Handle). Pushed h a.v ws cs (outcome (done g h.length c.if-v-eq1.number) vs c.if-v-eq1.counters)) (sym c.new.ensures)
    (elim c.if-v-eq1.branch [
      | then-v-eq1 w ↦
          subst₂ (λ (n : ℕ) (ds : List ℕ). Pushed h a.v ws cs (outcome (done next h.length n) vs ds)) (sym w.number-is) (sym w.counters-is)
          (push_one h ws vs cs a.v p.known room put small p.table w.move_path-number.result w.move_path-number.new.counters w.if-v-eq1.true
          w.move_path-number.ensures.0 w.move_path-number.ensures.1)
      | else-v-eq1 w ↦
          subst₂ (λ (n : ℕ) (ds : List ℕ). Pushed h a.v ws cs (outcome (done next h.length n) vs ds)) (sym w.number-is) (sym w.counters-is)
          (push_zero h ws vs cs a.v p.known room put small p.table (omega (arith, fine, w.if-v-eq1.false)))
    ])
