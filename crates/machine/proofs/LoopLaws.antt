-- The runner's loop: the calls run so far, and the answers that stand. Assumes nothing.
use Prim.Native.Nat.{ℕ, ◌+◌, ◌*◌, ◌≤◌, ◌<◌}
use mathlib.Core.Path.{◌≡◌, refl, sym, ap, ◌∙◌, subst, subst₂}
use mathlib.Core.List.{List, [], ◌∷◌, ◌++◌, append_assoc, append-nil}
use native.Mathlib.Omega.{arith}
use lib.ListN.{length, get_or, take, drop, length-drop, length-append}
use lib.Seq.{sets, sets-eq, drop-drop}
use Rattle.image.proofs.PutLaws.{sets_join}
use Rattle.std.specs.Prelude.{Result}
use Rattle.words.specs.declared.handle.Handle.{Handle}
use Rattle.words.specs.declared.refusal.Refusal.{Refusal}
use Rattle.counters.specs.declared.answer.Change.{Change}
use Rattle.machine.specs.Machine.{Call, Step, answers}
use Rattle.machine.specs.Scripts.{call_numbers, called, decode}
use Rattle.machine.specs.Unit.{UnitState, strip_record, unit_state, Acted, reply_step, unit_step}
use Rattle.machine.specs.Demand.{Trace, stop, more}
use Rattle.machine.specs.Runner.{head_answers, call_answers, answers_for, calls_in}
use Rattle.machine.specs.Loop.{Looped}

-- a list of calls and one call more
trace_snoc : {x z : UnitState} {ks : List Call} {out : List ℕ} (k : Call) (y : Step UnitState) → Trace x ks out z → Acted k z y
    → Trace x (ks ++ (k ∷ [])) (out ++ answers y) y.next
trace_snoc k y stop a = more k y a stop
trace_snoc k y (more j w b t) a = more j w b (trace_snoc k y t a)

-- call i of a script starts at this place
abbrev pub call_place : ℕ → ℕ
call_place i = call_numbers * i

-- the call of four numbers
abbrev pub call_in : List ℕ → Call
call_in w = called (get_or w 0 0) (get_or w 1 0) (get_or w 2 0) (get_or w 3 0)

-- the four numbers of call i
abbrev pub four_at : List ℕ → ℕ → List ℕ
four_at l i = take call_numbers (drop (call_place i) l)

decode_first : (l : List ℕ) → call_numbers ≤ length l → decode l ≡ call_in (take call_numbers l) ∷ decode (drop call_numbers l)
decode_first [] h = absurd (omega arith)
decode_first (op ∷ []) h = absurd (omega arith)
decode_first (op ∷ x ∷ []) h = absurd (omega arith)
decode_first (op ∷ x ∷ y ∷ []) h = absurd (omega arith)
decode_first (op ∷ x ∷ y ∷ z ∷ l) h = refl

-- what is left of a script from call i on
decode_at : (l : List ℕ) (i : ℕ) → call_place (i + 1) ≤ length l → decode (drop (call_place i) l) ≡ call_in (four_at l i) ∷ decode (drop (call_place (i + 1)) l)
decode_at l i h =
    let e : call_place i + call_numbers ≡ call_place (i + 1) = omega arith in
    decode_first (drop (call_place i) l) (omega (arith, length-drop (call_place i) l))
    ∙ ap (λ (m : List ℕ). call_in (four_at l i) ∷ decode m) (drop-drop call_numbers (call_place i) l ∙ ap (λ (n : ℕ). drop n l) e)

decode_short : (l : List ℕ) → length l ≤ 3 → decode l ≡ []
decode_short [] h = refl
decode_short (op ∷ []) h = refl
decode_short (op ∷ x ∷ []) h = refl
decode_short (op ∷ x ∷ y ∷ []) h = refl
decode_short (op ∷ x ∷ y ∷ z ∷ l) h = absurd (omega arith)

-- where the loop stands before call i
pub record Looping (script : List ℕ) (x₀ : UnitState) (ans₀ ans : List ℕ) (x : UnitState) (i : ℕ) : Type 0 where
  pub calls : List Call
  pub out : List ℕ
  pub trace : Trace x₀ calls out x
  pub split : calls ++ decode (drop (call_place i) script) ≡ decode script
  pub told : ans ≡ sets ans₀ head_answers out
  pub long : length out ≡ call_answers * i

pub looping_start : (script : List ℕ) (x : UnitState) (ans : List ℕ) → Looping script x ans ans x 0
looping_start script x ans = record { calls = []; out = []; trace = stop; split = refl; told = refl; long = refl }

-- one call more, whose numbers are w, with the answers `three`, after which g is in use
pub looping_more : (script : List ℕ) (x₀ : UnitState) (ans₀ ans : List ℕ) (x : UnitState) (i : ℕ) (r : Result Change Refusal) (g : Handle)
    (w ws cs im three ans' : List ℕ) → i < calls_in script
    → Looping script x₀ ans₀ ans x i → w ≡ four_at script i → Acted (call_in w) x (unit_step x.strip.handle r ws cs im)
    → three ≡ answers (reply_step x.strip.handle r) → ans' ≡ sets ans (answers_for i) three → g ≡ (reply_step x.strip.handle r).next
    → Looping script x₀ ans₀ ans' (unit_state (strip_record g ws cs) im) (i + 1)
looping_more script x₀ ans₀ ans x i r g w ws cs im three ans' lt v b a d e f =
    let k : Call = call_in (four_at script i) in
    let step : Step UnitState = unit_step x.strip.handle r ws cs im in
    let l : length v.out ≡ call_answers * i = v.long in
    let n : length three ≡ call_answers = ap length d in
    record {
      calls = v.calls ++ (k ∷ []);
      out = v.out ++ three;
      trace =
          subst₂ (λ (h : Handle) (t : List ℕ). Trace x₀ (v.calls ++ (k ∷ [])) (v.out ++ t) (unit_state (strip_record h ws cs) im)) (sym f) (sym d)
          (trace_snoc k step v.trace (subst (λ (l : List ℕ). Acted (call_in l) x step) b a));
      split =
          append_assoc v.calls (k ∷ []) (decode (drop (call_place (i + 1)) script))
          ∙ (ap (λ (ks : List Call). v.calls ++ ks) (sym (decode_at script i (omega arith))) ∙ v.split);
      told = e ∙ ap (λ (t : List ℕ). sets t (answers_for i) three) v.told ∙ sets_join v.out three ans₀ head_answers (answers_for i) (omega (arith, l));
      long = length-append v.out three ∙ omega (arith, l, n);
    }

-- all calls run
pub looping_done : (script : List ℕ) (x₀ : UnitState) (ans₀ ans : List ℕ) (x : UnitState) (i : ℕ) → answers_for (calls_in script) ≤ length ans₀
    → i ≡ calls_in script → Looping script x₀ ans₀ ans x i → Looped script x₀ ans₀ x ans
looping_done script x₀ ans₀ ans x i room e v =
    let rest : List ℕ = drop (call_place i) script in
    let d : decode rest ≡ [] = decode_short rest (omega (arith, length-drop (call_place i) script, e)) in
    let l : length v.out ≡ call_answers * i = v.long in
    let p : head_answers + length v.out ≡ answers_for (calls_in script) = omega (arith, l, e) in
    record {
      out = v.out;
      trace =
          subst (λ (ks : List Call). Trace x₀ ks v.out x)
          (sym (append-nil v.calls) ∙ (ap (λ (ks : List Call). v.calls ++ ks) (sym d) ∙ v.split)) v.trace;
      told =
          v.told ∙ sets-eq v.out ans₀ head_answers (omega (arith, l, room, e))
          ∙ append_assoc (take head_answers ans₀) v.out (drop (head_answers + length v.out) ans₀)
          ∙ ap (λ (m : ℕ). take head_answers ans₀ ++ (v.out ++ drop m ans₀)) p;
    }
