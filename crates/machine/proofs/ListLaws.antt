-- Every list of calls: from a machine's state laid afresh, the calls' own promises give the machine's answers and end, and every accepted turn changes
-- exactly its counters. Assumes nothing.
use mathlib.Core.Path.{◌≡◌, refl, ap, ◌∙◌, subst}
use mathlib.Core.List.{List, ◌++◌}
use Prim.Native.Nat.{ℕ}
use Rattle.machine.specs.Machine.{State, Call, on_strip, on_shelf, Step, through, strip_move, shelf_move, move, run, answers}
use Rattle.machine.specs.Unit.{UnitState, unit_state, afresh_strip, afresh_image, afresh, Acted}
use Rattle.machine.specs.Demand.{Trace, stop, more, TurnHolds, Turns, Same}
use Rattle.machine.proofs.StateLaws.{Good}
use Rattle.machine.proofs.StripStepLaws.{strip_step, strip_good_next}
use Rattle.machine.proofs.ShelfStepLaws.{shelf_step, shelf_good_next}
use Rattle.machine.proofs.TurnLaws.{strip_turned}

-- ---- one call
-- it does as the machine
pub acted : (s : State) → Good s → (k : Call) (y : Step UnitState) → Acted k (afresh s) y → y ≡ through afresh (move s k)
acted s g (on_strip k) y e =
    let d : through (λ u. u.strip) y ≡ through afresh_strip (strip_move s.strip k) = strip_step s.strip g.strip k _ e.0 in
    λ i. record { next = unit_state (d i).next (e.1 i); refusal = (d i).refusal; first = (d i).first; second = (d i).second }
acted s g (on_shelf k) y e =
    let d : through (λ u. u.image) y ≡ through afresh_image (shelf_move s.strip s.shelf k) =
    shelf_step s.strip g.strip s.shelf g.shelf k _ e.0 in
    λ i. record { next = unit_state (e.1 i) (d i).next; refusal = (d i).refusal; first = (d i).first; second = (d i).second }

-- and leaves a good state
pub next_good : (s : State) → Good s → (k : Call) → Good (move s k).next
next_good s g (on_strip k) = record { strip = strip_good_next s.strip g.strip k; shelf = g.shelf }
next_good s g (on_shelf k) = record { strip = g.strip; shelf = shelf_good_next s.strip g.strip s.shelf g.shelf k }

-- from a state that is the machine's laid afresh
acted_from : {x : UnitState} (s : State) → Good s → x ≡ afresh s → (k : Call) (y : Step UnitState) → Acted k x y → y ≡ through afresh (move s k)
acted_from s g e k y a = acted s g k y (subst (λ (u : UnitState). Acted k u y) e a)

-- ---- every list
-- what is compared, and the machine's state at the end, itself good
pub record ListDone (s : State) (ks : List Call) (out : List ℕ) (z : UnitState) : Type 0 where
  pub same : Same s ks out z
  pub good : Good (run s ks)

pub every_list : {x z : UnitState} {ks : List Call} {out : List ℕ} → Trace x ks out z → (s : State) → Good s → x ≡ afresh s → ListDone s ks out z
every_list stop s g e = record { same = record { answers = refl; end = e }; good = g }
every_list (more {ks = ks} {out = out} k y a t) s g e =
    let d : y ≡ through afresh (move s k) = acted_from s g e k y a in
    let ih = every_list t (move s k).next (next_good s g k) (ap (λ (q : Step UnitState). q.next) d) in
    let told = ap (λ (q : Step UnitState). answers q ++ out) d ∙ ap (λ (l : List ℕ). answers (move s k) ++ l) ih.same.answers in
    record { same = record { answers = told; end = ih.same.end }; good = ih.good }

-- ---- every accepted turn of a list
-- one call
turn_holds : (x : UnitState) (s : State) → Good s → x ≡ afresh s → (k : Call) (y : Step UnitState) → Acted k x y → TurnHolds k x y
turn_holds x s g e k y a i f z =
    strip_turned s.strip g.strip x.strip (ap (λ (u : UnitState). u.strip) e) i (through (λ u. u.strip) y)
    (subst (λ (q : Call). Acted q x y) f a).0 z

pub every_turn : {x z : UnitState} {ks : List Call} {out : List ℕ} (t : Trace x ks out z) (s : State) → Good s → x ≡ afresh s → Turns t
every_turn stop s g e = tt
every_turn (more {x} k y a t) s g e = (
  turn_holds x s g e k y a,
  every_turn t (move s k).next (next_good s g k) (ap (λ (q : Step UnitState). q.next) (acted_from s g e k y a)),
)
