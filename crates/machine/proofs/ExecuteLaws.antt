-- The opened machine, and the three ends of `execute`. Assumes nothing.
use mathlib.Core.Path.{◌≡◌, refl, sym, ap, ap₂, ◌∙◌, subst}
use mathlib.Core.Bool.{Bool, true, false, not}
use mathlib.Core.List.{List, [], ◌∷◌, ◌++◌}
use mathlib.Core.Option.{Option, some, none}
use Prim.Native.Nat.{ℕ, ◌≤◌, ◌<◌}
use native.Mathlib.Omega.{arith}
use lib.Dec.{eqb}
use lib.ListN.{length, set, take, drop}
use lib.Seq.{sets}
use borrow.Author.Tests.{lt-ltb, le-ltb}
use Rattle.words.specs.Refusals.{number_of, Told, judge, unless, verdict_of}
use Rattle.words.specs.Handles.{handle, handle_of}
use Rattle.words.specs.declared.handle.Handle.{Handle}
use Rattle.words.specs.declared.refusal.Refusal.{Refusal}
use Rattle.std.specs.Prelude.{Result, Ok, Err}
use Rattle.words.proofs.StripLaws.{handle_none}
use Rattle.words.proofs.CheckLaws.{not_both, passed_both}
use Rattle.counters.specs.Promises.{CreatedTold, outcome, Outcome}
use Rattle.counters.specs.Calls.{checks, create_outcome}
use Rattle.image.specs.Calls.{clear_table, clear_outcome, image_outcome, ImageOutcome}
use Rattle.machine.specs.Machine.{State, Call, run, outputs, opening_table}
use Rattle.machine.specs.Scripts.{decode}
use Rattle.machine.specs.Unit.{UnitState, strip_record, unit_state, afresh}
use Rattle.machine.specs.Demand.{Trace, start}
use Rattle.machine.specs.Runner.{head_answers, answers_for, calls_in, ended, Ended, ran_to, opening_of, executed, Executed}
use Rattle.machine.specs.Loop.{Looped}
use Rattle.machine.proofs.StateLaws.{Good, opened_good, created_is, cleared_is}
use Rattle.machine.proofs.ListLaws.{every_list, every_turn}

-- ---- the opening's table
-- what lay says, by what is said of its handle
pub create_says : (c words counters : ℕ) (h : Handle) (o : Option ℕ) → h ≡ handle c 0 0 → o ≡ judge (checks h words counters)
    → o ≡ judge (checks (handle_of c []) words counters)
create_says c words counters h o d e = e ∙ ap (λ (g : Handle). judge (checks g words counters)) (d ∙ handle_none c)

-- it passes where both calls' tables do
both : (c : ℕ) (b : Bool) (words counters bytes : ℕ) → judge (opening_table c b words counters bytes) ≡ none
    → (judge (checks (handle_of c []) words counters) ≡ none) × (judge (clear_table bytes) ≡ none)
both c true words counters bytes p = let w = passed_both (clear_table bytes) (checks (handle_of c []) words counters) p in (w.1, w.0)
both c false words counters bytes p = passed_both (checks (handle_of c []) words counters) (clear_table bytes) p

-- so where the check of it is passed
pub passed : (c order : ℕ) (ws cs im : List ℕ) (v : Result Unit Refusal) → verdict_of v ≡ opening_of c order ws cs im → v ≡ Ok tt
    → opening_of c order ws cs im ≡ none
passed c order ws cs im v e d = sym e ∙ ap verdict_of d

module _ (c order : ℕ) (ws cs im : List ℕ) (p : opening_of c order ws cs im ≡ none) where
  -- lay's table passes, and clear's
  laid : judge (checks (handle_of c []) (length ws) (length cs)) ≡ none
  laid = (both c (not (eqb order 0)) (length ws) (length cs) (length im) p).0

  cleared : judge (clear_table (length im)) ≡ none
  cleared = (both c (not (eqb order 0)) (length ws) (length cs) (length im) p).1

  -- so the opened machine is good
  accepted_good : Good (start c ws cs im)
  accepted_good = opened_good c ws cs im laid cleared

  -- the buffers after lay and clear: those of the opened machine
  pub opened_by : (t : CreatedTold) (q : Told) (ws' cs' im' : List ℕ) → outcome t ws' cs' ≡ create_outcome c ws cs → image_outcome q im' ≡ clear_outcome im
      → unit_state (strip_record (handle_of c []) ws' cs') im' ≡ afresh (start c ws cs im)
  opened_by t q ws' cs' im' e d =
      let f = ap (λ (v : Outcome CreatedTold). v.words) (e ∙ created_is c ws cs laid) in
      let h = ap (λ (v : Outcome CreatedTold). v.counters) (e ∙ created_is c ws cs laid) in
      let j = ap (λ (v : ImageOutcome). v.image) (d ∙ cleared_is im cleared) in
      λ i. unit_state (strip_record (handle_of c []) (f i) (h i)) (j i)

-- ---- the three ends of `execute`
-- the header over the first four answers
header : (l rest : List ℕ) (a b d e : ℕ) → head_answers ≤ length l → sets (take head_answers l ++ rest) 0 (a ∷ b ∷ d ∷ e ∷ []) ≡ a ∷ b ∷ d ∷ e ∷ rest
header [] rest a b d e h = absurd (omega arith)
header (x ∷ []) rest a b d e h = absurd (omega arith)
header (x ∷ y ∷ []) rest a b d e h = absurd (omega arith)
header (x ∷ y ∷ z ∷ []) rest a b d e h = absurd (omega arith)
header (x ∷ y ∷ z ∷ w ∷ l) rest a b d e h = refl

module _ (script : List ℕ) (c order : ℕ) (ws cs im ans : List ℕ) where
  abbrev n : ℕ
  n = calls_in script

  abbrev s : State
  s = start c ws cs im

  abbrev ks : List Call
  ks = decode script

  -- past the length of the answers: by the opening
  abbrev opening : Option ℕ → Ended
  opening o = unless o (λ k. ended 0 ws cs im (set ans 0 k)) (ran_to n (afresh (run s ks)) (outputs s ks) ans)

  -- answers too short
  pub executed_short : length ans < answers_for n → Executed script c order ws cs im ans (ended 18446744073709551615 ws cs im ans)
  unfolding executed
  executed_short h = record { whole = simp (lt-ltb (length ans) (answers_for n) h); ran = (λ l p. absurd (omega arith)) }

  -- the opening refused
  pub executed_refused : (v : Result Unit Refusal) (r : Refusal) → answers_for n ≤ length ans → verdict_of v ≡ opening_of c order ws cs im → v ≡ Err r
      → Executed script c order ws cs im ans (ended 0 ws cs im (set ans 0 (number_of r)))
  unfolding executed
  executed_refused v r l e d =
      let p : opening_of c order ws cs im ≡ some (number_of r) = sym e ∙ ap verdict_of d in
      record { whole = simp (le-ltb (length ans) (answers_for n) l) (sym (ap opening p)); ran = (λ h q. not_both p q) }

  -- the calls run
  pub executed_ran : (x z : UnitState) (mid ans' : List ℕ) → answers_for n ≤ length ans → opening_of c order ws cs im ≡ none → x ≡ afresh s
      → Looped script x ans z mid → ans' ≡ sets mid 0 (0 ∷ z.strip.handle.capacity ∷ z.strip.handle.length ∷ z.strip.handle.total ∷ [])
      → Executed script c order ws cs im ans (ended n z.strip.words z.strip.counters z.image ans')
  unfolding executed
  executed_ran x z mid ans' l p opened looped put =
      let g : Good s = accepted_good c order ws cs im p in
      let h : Handle = z.strip.handle in
      let rest : List ℕ = looped.out ++ drop (answers_for n) ans in
      let t : Trace (afresh s) ks looped.out z = subst (λ (y : UnitState). Trace y ks looped.out z) opened looped.trace in
      let same = (every_list t s g refl).same in
      let ended_so : ended n z.strip.words z.strip.counters z.image ans' ≡ ran_to n z looped.out ans =
      ap (λ (q : List ℕ). ended n z.strip.words z.strip.counters z.image q)
      (put ∙ ap (λ (q : List ℕ). sets q 0 (0 ∷ h.capacity ∷ h.length ∷ h.total ∷ [])) looped.told
      ∙ header ans rest 0 h.capacity h.length h.total (omega arith)) in
      record {
        whole = simp (le-ltb (length ans) (answers_for n) l)
            (ended_so ∙ ap₂ (λ (y : UnitState) (out : List ℕ). ran_to n y out ans) same.end same.answers ∙ sym (ap opening p));
        ran = (λ k q. record { last = z; out = looped.out; trace = t; turns = every_turn t s g refl; same = ended_so });
      }
