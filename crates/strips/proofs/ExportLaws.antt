-- The laws of what the exported calls give. Assumes nothing.
use mathlib.Core.Path.{◌≡◌, refl, sym, ap, ◌∙◌}
use mathlib.Core.List.{List}
use mathlib.Core.Logic.{◌⊎◌, inl, inr}
use Prim.Native.Nat.{ℕ, ◌≤◌, ◌<◌}
use Rattle.std.proofs.Common.{Bor}
use lib.ListN.{length}
use Rattle.words.specs.declared.handle.Handle.{Handle}
use Rattle.words.specs.declared.strip.Strip.{Strip}
use Rattle.words.specs.Refusals.{Told, coded}
use Rattle.words.proofs.Sums.{lt_or}
use Rattle.waiting.specs.Calls.{WaitingRank, WaitingSelect}
use Rattle.waiting.proofs.CallLaws.{waiting_rank_unique, waiting_select_unique}
use Rattle.strips.specs.Exports.{numbers_over, rank_numbers, select_numbers, Written}

-- an answer on two strips, under the handles made of their numbers
pub paired : (F : Handle → List ℕ → Handle → List ℕ → Told) {s t : Strip} {h k : Handle} {ws vs : Bor (List ℕ)} {a : Told} {r : ℕ}
    → (s.handle ≡ h) × (s.words ≡ ws) → (t.handle ≡ k) × (t.words ≡ vs) → a ≡ F s.handle s.words.now t.handle t.words.now → r ≡ coded a
    → r ≡ coded (F h ws.now k vs.now)
paired F {s = s} {t = t} {h = h} {k = k} {ws = ws} {vs = vs} d e f c =
    let g : F s.handle s.words.now t.handle t.words.now ≡ F h ws.now k vs.now = rw (d.0, d.1, e.0, e.1) refl in
    c ∙ ap coded (f ∙ g)

-- where P holds of at most one thing told, what is written is fixed
pub written_unique : {A : Type 0} (n : ℕ) (numbers : A → List ℕ) (P : A → Type 0) (os es fs : List ℕ) → ((x y : A) → P x → P y → x ≡ y)
    → Written n numbers P os es → Written n numbers P os fs → es ≡ fs
written_unique {A} n numbers P os es fs one a b = go (lt_or (length os) n)
  where
    go : (length os < n) ⊎ (n ≤ length os) → es ≡ fs
    go (inl l) = a.idle l ∙ sym (b.idle l)
    go (inr l) =
        let x = a.ran l in
        let y = b.ran l in
        x.same ∙ ap (λ (t : A). numbers_over n (numbers t) os) (one x.told y.told x.holds y.holds) ∙ sym y.same

-- so of the waiting calls
pub waiting_count_unique : (strip waiting : Handle) (ws vs os es fs : List ℕ) (i : ℕ) → Written 3 rank_numbers (WaitingRank strip ws waiting vs i) os es
    → Written 3 rank_numbers (WaitingRank strip ws waiting vs i) os fs → es ≡ fs
waiting_count_unique strip waiting ws vs os es fs i =
    written_unique 3 rank_numbers (WaitingRank strip ws waiting vs i) os es fs (waiting_rank_unique strip waiting ws vs i)

pub waiting_find_unique : (strip waiting : Handle) (ws vs os es fs : List ℕ) (k : ℕ) → Written 4 select_numbers (WaitingSelect strip ws waiting vs k) os es
    → Written 4 select_numbers (WaitingSelect strip ws waiting vs k) os fs → es ≡ fs
waiting_find_unique strip waiting ws vs os es fs k =
    written_unique 4 select_numbers (WaitingSelect strip ws waiting vs k) os es fs (waiting_select_unique strip waiting ws vs k)
