-- Add and turn where nothing refuses: the machine fed a strip bit by bit holds it; what a turn answers. Assumes nothing.
use mathlib.Core.Path.{◌≡◌, sym, ap, ap₂, ◌∙◌}
use mathlib.Core.Bool.{Bool, true, not, cond, ◌&&◌}
use mathlib.Core.List.{List, [], ◌∷◌, ◌++◌, append-nil, append_assoc}
use mathlib.Core.Option.{Option, some, none}
use Prim.Native.Nat.{ℕ, zero, suc, ◌+◌, ◌-◌, ◌%◌, ◌≤◌, ◌<◌}
use native.Mathlib.Omega.{arith}
use lib.Dec.{leb, eqb}
use lib.ListN.{length, length-append}
use borrow.Author.Tests.{le-leb, lt-leb, leb-true, le-ltb, eq-eqb, eqb-true}
use Rattle.words.specs.Strip.{cell}
use Rattle.words.specs.Refusals.{Line, ◌⇒◌, judge, unless}
use Rattle.words.specs.Handles.{block_bits, allowed, good, words_of}
use Rattle.words.specs.Calls.{value_line, below_line}
use Rattle.words.proofs.BoolLaws.{and_intro, and_first, and_second}
use Rattle.words.proofs.StripLaws.{total_le}
use Rattle.words.proofs.CheckLaws.{judge_append}
use Rattle.counters.specs.Tree.{blocks_of, counter_count, differ}
use Rattle.counters.specs.Record.{built_counters}
use Rattle.counters.specs.Calls.{checks, push_table, flip_table}
use Rattle.counters.proofs.NumberLaws.{flip_number}
use Rattle.machine.specs.Machine.{StripState, ShelfState, state, push, flip, accepted, refuses, handle_in, with_strip, changes, flipped, strip_move, run}
use Rattle.machine.specs.Examples.{adds}

-- an allowed capacity with the words and counters that it needs
pub record Sized (a : StripState) : Type 0 where
  pub capacity : allowed a.capacity ≡ true
  pub words : a.words ≡ words_of a.capacity
  pub counters : a.counters ≡ counter_count (blocks_of a.capacity)

-- with another strip too
sized_with : (a : StripState) (t : List ℕ) → Sized a → Sized (with_strip a t)
sized_with a t z = record { capacity = z.capacity; words = z.words; counters = z.counters }

-- three tests that hold: no refusal
three_pass : (a b d : Bool) → a ≡ true → b ≡ true → d ≡ true
    → cond {A = Option ℕ} (not a) (some 1) (cond (not b) (some 2) (cond (not d) (some 3) none)) ≡ none
three_pass a b d p q r = simp (p, q, r)

-- the checks of all strip calls pass
checks_pass : (a : StripState) → Sized a → length a.strip ≤ a.capacity → judge (checks (handle_in a) a.words a.counters) ≡ none
checks_pass a z long =
    three_pass (good (handle_in a)) (eqb a.words (words_of a.capacity)) (eqb a.counters (counter_count (blocks_of a.capacity)))
    (and_intro z.capacity (and_intro (le-leb (length a.strip) a.capacity long) (le-leb _ _ (total_le a.strip))))
    (eq-eqb _ _ z.words) (eq-eqb _ _ z.counters)

-- then the lines after them decide
lines_decide : (a : StripState) (lines : List Line) → Sized a → length a.strip ≤ a.capacity
    → judge (checks (handle_in a) a.words a.counters ++ lines) ≡ judge lines
lines_decide a lines z long = rw (judge_append, checks_pass a z long)

-- ---- add
-- a bit that there is room for
push_pass : (a : StripState) (v : ℕ) → Sized a → length a.strip < a.capacity → v ≤ 1
    → judge (push_table (handle_in a) a.words a.counters v) ≡ none
push_pass a v z room bit =
    lines_decide a (value_line v ∷ (leb a.capacity (length a.strip) ⇒ 7) ∷ []) z (omega arith)
    ∙ simp (le-ltb 1 v bit, lt-leb a.capacity (length a.strip) room)

-- is appended
pub add_next : (a : StripState) (v : ℕ) → Sized a → length a.strip < a.capacity → v ≤ 1
    → (strip_move a (push v)).next ≡ with_strip a (a.strip ++ (v ∷ []))
add_next a v z room bit =
    ap (λ (o : Option ℕ).
    (unless o (refuses a)
    (accepted (with_strip a (a.strip ++ (v ∷ []))) (length a.strip) (cond (eqb v 1) (changes a (length a.strip)) 0))).next)
    (push_pass a v z room bit)

-- a list of bits, by a test of each
abbrev pub all_bits : List ℕ → Bool
all_bits [] = true
all_bits (v ∷ vs) = leb v 1 && all_bits vs

pub bits_of : (t : List ℕ) → all_bits t ≡ true → (p : ℕ) → cell t p ≤ 1
bits_of [] h p = omega arith
bits_of (v ∷ vs) h zero = leb-true v 1 (and_first (leb v 1) (all_bits vs) h)
bits_of (v ∷ vs) h (suc p) = bits_of vs (and_second (leb v 1) (all_bits vs) h) p

-- a strip that there is room for is appended by adds, and the shelf stays
pub adds_next : (a : StripState) (b : ShelfState) (t : List ℕ) → Sized a → ((p : ℕ) → cell t p ≤ 1) → length a.strip + length t ≤ a.capacity
    → run (state a b) (adds t) ≡ state (with_strip a (a.strip ++ t)) b
adds_next a b [] z bits room = ap (λ (u : List ℕ). state (with_strip a u) b) (sym (append-nil a.strip))
adds_next a b (v ∷ vs) z bits room =
    ap (λ (x : StripState). run (state x b) (adds vs)) (add_next a v z (omega arith) (bits 0))
    ∙ adds_next (with_strip a (a.strip ++ (v ∷ []))) b vs (sized_with a (a.strip ++ (v ∷ [])) z) (λ p. bits (suc p)) (omega (arith, length-append a.strip (v ∷ [])))
    ∙ ap (λ (u : List ℕ). state (with_strip a u) b) (append_assoc a.strip (v ∷ []) vs)

-- ---- turn
-- a stroke that is there
flip_pass : (a : StripState) (i : ℕ) → Sized a → length a.strip ≤ a.capacity → i < length a.strip
    → judge (flip_table (handle_in a) a.words a.counters i) ≡ none
flip_pass a i z long below =
    lines_decide a (below_line (length a.strip) i ∷ []) z long ∙ simp (lt-leb (length a.strip) i below)

-- its new bit b and the number d of counters are answered
pub turn_answer : (a : StripState) (i b d : ℕ) → Sized a → length a.strip ≤ a.capacity → i < length a.strip → 1 - cell a.strip i ≡ b → changes a i ≡ d
    → strip_move a (flip i) ≡ accepted (with_strip a (flipped a.strip i)) b d
turn_answer a i b d z long below bit number =
    ap (λ (o : Option ℕ). unless o (refuses a) (accepted (with_strip a (flipped a.strip i)) (1 - cell a.strip i) (changes a i)))
    (flip_pass a i z long below)
    ∙ ap₂ (λ (x y : ℕ). accepted (with_strip a (flipped a.strip i)) x y) bit number

-- and d of the counters laid afresh differ
pub turn_number : (a : StripState) (i d : ℕ) → Sized a → length a.strip ≤ a.capacity → i < length a.strip → cell a.strip i ≤ 1 → changes a i ≡ d
    → differ (built_counters a.capacity a.strip) (built_counters a.capacity (flipped a.strip i)) a.counters ≡ d
turn_number a i d z long below bit number =
    ap (differ (built_counters a.capacity a.strip) (built_counters a.capacity (flipped a.strip i))) z.counters
    ∙ flip_number a.capacity a.strip i whole long below bit
    ∙ number
  where
    whole : a.capacity % 512 ≡ 0
    whole = eqb-true _ _ (and_first (eqb (a.capacity % block_bits) 0) _ z.capacity)
