-- The record fits again: after each change that its table passes, the words and counters that the outcome names fit under the handle that it gives.
-- Assumes nothing.
use Rattle.std.proofs.Common.{◌≡◌, ℕ, ◌+◌, ◌-◌, ◌<◌, ◌≤◌, Bool, true, false, cond, ◌&&◌, ltb, leb, ◌⊎◌, List, [], ◌∷◌, ◌++◌, length, take, set, replicate, sym, refl, ap, ◌∙◌, subst, inl, inr, arith, length-append, length-set, length-take-le, get_or-set_other, get_or-take, get_or-set_same, get_or-append-add, ltb-false, leb-false}
use mathlib.Core.Option.{none}
use native.Mathlib.Decide.{ℕ_discrete}
use lib.ListN.{get_or-append}
use Rattle.words.specs.Strip.{cell}
use Rattle.words.specs.Refusals.{◌⇒◌, judge}
use Rattle.words.specs.Handles.{handle_of}
use Rattle.words.specs.Calls.{value_line, below_line, within_line, span_line}
use Rattle.words.specs.declared.handle.Handle.{Handle}
use Rattle.words.proofs.Sums.{lt_or, length_list_of, get_or_list_of}
use Rattle.words.proofs.StripLaws.{strip_length, strip_le}
use Rattle.counters.specs.Record.{Fits, packed_words, built_counters}
use Rattle.counters.specs.Calls.{checks, held_strip, push_table, flip_table, fill_table, filled, truncate_table}
use Rattle.counters.proofs.AfreshLaws.{bits_all, built_fits, words_zero, counters_zero}
use Rattle.counters.proofs.PromiseLaws.{sizes, sizes_of_lem, lines_of}

-- ---- strips of bits
-- a bit appended
pub push_bits : (s : List ℕ) (v : ℕ) → ((p : ℕ) → cell s p ≤ 1) → v ≤ 1 → (p : ℕ) → cell (s ++ (v ∷ [])) p ≤ 1
push_bits s v bits small =
    bits_all (s ++ (v ∷ [])) (λ p l. each p l (lt_or p (length s)))
  where
    each : (p : ℕ) → p < length (s ++ (v ∷ [])) → (p < length s) ⊎ (length s ≤ p) → cell (s ++ (v ∷ [])) p ≤ 1
    each p l (inl a) = omega (arith, get_or-append s (v ∷ []) 0 p a, bits p)
    each p l (inr a) =
        let z : length (v ∷ []) ≡ 1 = refl in
        let e : p ≡ length s + 0 = omega (arith, length-append s (v ∷ []), z) in
        let c : cell (s ++ (v ∷ [])) p ≡ v = ap (cell (s ++ (v ∷ []))) e ∙ get_or-append-add s (v ∷ []) 0 0 in
        omega (arith, c)

-- a cell made a bit
pub set_bits : (s : List ℕ) (i b : ℕ) → ((p : ℕ) → cell s p ≤ 1) → b ≤ 1 → (p : ℕ) → cell (set s i b) p ≤ 1
set_bits s i b bits small = bits_all (set s i b) (λ p l. each p l (ℕ_discrete p i))
  where
    each : (p : ℕ) → p < length (set s i b) → Dec (p ≡ i) → cell (set s i b) p ≤ 1
    each p l (yes e) =
        let c : cell (set s i b) p ≡ b = ap (cell (set s i b)) e ∙ get_or-set_same s i b 0 (omega (arith, length-set s i b)) in
        omega (arith, c)
    each p l (no d) = omega (arith, get_or-set_other s i p b 0 d, bits p)

-- cells a to b - 1 made a bit
pub filled_bits : (s : List ℕ) (a b v : ℕ) → ((p : ℕ) → cell s p ≤ 1) → v ≤ 1 → (p : ℕ) → cell (filled s a b v) p ≤ 1
unfolding filled
filled_bits s a b v bits small =
    bits_all (filled s a b v)
    (λ p l.
    let q : p < length s = omega (arith, length_list_of (λ p. cond (leb a p && ltb p b) v (cell s p)) (length s)) in
    let e = get_or_list_of (λ p. cond (leb a p && ltb p b) v (cell s p)) (length s) p q in
    omega (arith, e, pick (leb a p && ltb p b) (cell s p) (bits p)))
  where
    pick : (t : Bool) (x : ℕ) → x ≤ 1 → cond t v x ≤ 1
    pick true x l = small
    pick false x l = l

-- as long as the strip
pub filled_length : (s : List ℕ) (a b v : ℕ) → length (filled s a b v) ≡ length s
unfolding filled
filled_length s a b v = length_list_of (λ p. cond (leb a p && ltb p b) v (cell s p)) (length s)

-- the first n cells
pub take_bits : (n : ℕ) (s : List ℕ) → n ≤ length s → ((p : ℕ) → cell s p ≤ 1) → (p : ℕ) → cell (take n s) p ≤ 1
take_bits n s h bits =
    bits_all (take n s) (λ p l. omega (arith, get_or-take n s p 0 (omega (arith, length-take-le n s h)), bits p))

-- ---- the record after each change
-- lay
pub create_again : (c : ℕ) (ws cs : List ℕ) → judge (checks (handle_of c []) (length ws) (length cs)) ≡ none
    → Fits (handle_of c []) (replicate (length ws) 0) (replicate (length cs) 0)
create_again c ws cs pass =
    let z = sizes (handle_of c []) ws cs pass in
    let none : (p : ℕ) → cell [] p ≤ 1 = (λ p. omega arith) in
    let w : packed_words c [] ≡ replicate (length ws) 0 = words_zero c ∙ ap (λ (n : ℕ). replicate n 0) (sym z.words) in
    let k : built_counters c [] ≡ replicate (length cs) 0 = counters_zero c ∙ ap (λ (n : ℕ). replicate n 0) (sym z.counters) in
    subst (λ (x : List ℕ). Fits (handle_of c []) (replicate (length ws) 0) x) k
    (subst (λ (x : List ℕ). Fits (handle_of c []) x (built_counters c [])) w (built_fits c [] z.step (omega arith) none))

-- add
pub push_again : (h : Handle) (ws cs : List ℕ) (v : ℕ) → judge (push_table h (length ws) (length cs) v) ≡ none
    → Fits (handle_of h.capacity (held_strip h ws ++ (v ∷ []))) (packed_words h.capacity (held_strip h ws ++ (v ∷ [])))
    (built_counters h.capacity (held_strip h ws ++ (v ∷ [])))
push_again h ws cs v pass =
    let ls = value_line v ∷ (leb h.capacity h.length ⇒ 7) ∷ [] in
    let z = sizes_of_lem h ws cs ls pass in
    let l = lines_of h ws cs ls pass in
    let small : v ≤ 1 = ltb-false _ _ l.0 in
    let room : h.length < h.capacity = leb-false _ _ l.1.0 in
    let one : length (v ∷ []) ≡ 1 = refl in
    built_fits h.capacity (held_strip h ws ++ (v ∷ [])) z.step
    (omega (arith, length-append (held_strip h ws) (v ∷ []), one, strip_length ws h.length))
    (push_bits (held_strip h ws) v (strip_le ws h.length) small)

-- turn
pub flip_again : (h : Handle) (ws cs : List ℕ) (i : ℕ) → judge (flip_table h (length ws) (length cs) i) ≡ none
    → Fits (handle_of h.capacity (set (held_strip h ws) i (1 - cell (held_strip h ws) i)))
    (packed_words h.capacity (set (held_strip h ws) i (1 - cell (held_strip h ws) i))) (built_counters h.capacity (set (held_strip h ws) i (1 - cell (held_strip h ws) i)))
flip_again h ws cs i pass =
    let z = sizes_of_lem h ws cs (below_line h.length i ∷ []) pass in
    let b : ℕ = 1 - cell (held_strip h ws) i in
    built_fits h.capacity (set (held_strip h ws) i b) z.step
    (omega (arith, length-set (held_strip h ws) i b, strip_length ws h.length, z.long))
    (set_bits (held_strip h ws) i b (strip_le ws h.length) (omega arith))

-- run
pub fill_again : (h : Handle) (ws cs : List ℕ) (a b v : ℕ) → judge (fill_table h (length ws) (length cs) a b v) ≡ none
    → Fits (handle_of h.capacity (filled (held_strip h ws) a b v)) (packed_words h.capacity (filled (held_strip h ws) a b v))
    (built_counters h.capacity (filled (held_strip h ws) a b v))
fill_again h ws cs a b v pass =
    let ls = value_line v ∷ span_line a b ∷ within_line h.length b ∷ [] in
    let z = sizes_of_lem h ws cs ls pass in
    let small : v ≤ 1 = ltb-false _ _ (lines_of h ws cs ls pass).0 in
    built_fits h.capacity (filled (held_strip h ws) a b v) z.step
    (omega (arith, filled_length (held_strip h ws) a b v, strip_length ws h.length, z.long))
    (filled_bits (held_strip h ws) a b v (strip_le ws h.length) small)

-- cut
pub truncate_again : (h : Handle) (ws cs : List ℕ) (n : ℕ) → judge (truncate_table h (length ws) (length cs) n) ≡ none
    → Fits (handle_of h.capacity (take n (held_strip h ws))) (packed_words h.capacity (take n (held_strip h ws)))
    (built_counters h.capacity (take n (held_strip h ws)))
truncate_again h ws cs n pass =
    let z = sizes_of_lem h ws cs (within_line h.length n ∷ []) pass in
    let within : n ≤ h.length = ltb-false _ _ (lines_of h ws cs (within_line h.length n ∷ []) pass).0 in
    let room : n ≤ length (held_strip h ws) = omega (arith, strip_length ws h.length) in
    built_fits h.capacity (take n (held_strip h ws)) z.step (omega (arith, length-take-le n (held_strip h ws) room, z.long))
    (take_bits n (held_strip h ws) room (strip_le ws h.length))
