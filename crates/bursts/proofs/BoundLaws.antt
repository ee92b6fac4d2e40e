-- What eight words tell of the windows that start in them. Assumes nothing.
use mathlib.Core.Path.{◌≡◌, refl, sym, ap, subst, ◌∙◌}
use mathlib.Core.Bool.{Bool, true, false, true≢false}
use mathlib.Core.List.{List}
use mathlib.Core.Logic.{◌⊎◌, inl, inr}
use Prim.Native.Nat.{ℕ, ◌+◌, ◌-◌, ◌*◌, ◌≤◌, ◌<◌}
use native.Mathlib.Omega.{arith}
use lib.ListN.{get_or}
use Rattle.words.specs.Bits.{bit_at, ones}
use Rattle.words.proofs.Sums.{sum_mono, ones_le}
use Rattle.words.proofs.WordLaws.{bit_at_le}
use Rattle.bursts.specs.Working.{NoneIn, Passed, EightRuns}
use Rattle.bursts.proofs.WindowLaws.{holds_run, none_short, none_join}

-- ---- the bound of the words from position a on
-- past i words: the ones held from a on to the end of the window that starts there, those needed, and no start before unless a word's bound was reached
pub record Bounded (ws : List ℕ) (w m a have need : ℕ) (reached : Bool) (i : ℕ) : Type 0 where
  pub held : ones (bit_at ws) a + have ≡ ones (bit_at ws) (a + w + 64 * i)
  pub needed : ones (bit_at ws) a + need ≡ ones (bit_at ws) (a + 64 * i) + m
  pub none : reached ≡ false → NoneIn ws w m a (a + 64 * i)

-- a run's ones with those before it
run_next : (ws : List ℕ) (a i : ℕ) (xs : List ℕ) → i < 8 → EightRuns ws a xs → ones (bit_at ws) (a + 64 * i) + get_or xs i 0 ≡ ones (bit_at ws) (a + 64 * (i + 1))
run_next ws a i xs l r = let e : a + 64 * i + 64 ≡ a + 64 * (i + 1) = omega arith in holds_run ws a (a + 64 * i) i xs refl l r ∙ ap (ones (bit_at ws)) e

-- one word more
module _ {ws : List ℕ} {w m a have need : ℕ} {reached : Bool} {i : ℕ} {leaves enters : List ℕ} (b : Bounded ws w m a have need reached i) (ls : EightRuns ws a leaves)
    (es : EightRuns ws (a + w) enters) (l : i < 8) where
  held_more : ones (bit_at ws) a + (have + get_or enters i 0) ≡ ones (bit_at ws) (a + w + 64 * (i + 1))
  held_more = omega (arith, b.held, run_next ws (a + w) i enters l es)

  needed_more : ones (bit_at ws) a + (need + get_or leaves i 0) ≡ ones (bit_at ws) (a + 64 * (i + 1)) + m
  needed_more = omega (arith, b.needed, run_next ws a i leaves l ls)

  -- the sums stay small
  pub have_le : have + get_or enters i 0 ≤ a + w + 64 * (i + 1)
  have_le = omega (arith, held_more, ones_le (bit_at ws) (a + w + 64 * (i + 1)) (bit_at_le ws))

  pub need_le : need + get_or leaves i 0 ≤ a + 64 * (i + 1) + m
  need_le = omega (arith, needed_more, ones_le (bit_at ws) (a + 64 * (i + 1)) (bit_at_le ws))

  -- a word whose bound is not reached has no start
  short : have + get_or enters i 0 < need → NoneIn ws w m (a + 64 * i) (a + 64 * (i + 1))
  short h =
      let e : a + w + 64 * (i + 1) ≡ a + 64 * (i + 1) + w = omega arith in
      none_short ws w m (a + 64 * i) (a + 64 * (i + 1)) (omega (arith, h, b.needed, held_more, ap (ones (bit_at ws)) e))

  pub bounded_more : (now : Bool) → (now ≡ true) ⊎ ((have + get_or enters i 0 < need) × (now ≡ reached))
      → Bounded ws w m a (have + get_or enters i 0) (need + get_or leaves i 0) now (i + 1)
  bounded_more now t = record { held = held_more; needed = needed_more; none = go t }
    where
      go : (now ≡ true) ⊎ ((have + get_or enters i 0 < need) × (now ≡ reached)) → now ≡ false → NoneIn ws w m a (a + 64 * (i + 1))
      go (inl e) f = absurd (true≢false (sym e ∙ f))
      go (inr (h, e)) f = none_join ws w m a (a + 64 * i) (a + 64 * (i + 1)) (b.none (sym e ∙ f)) (short h)

-- past the last word, at position z
module _ {ws : List ℕ} {w m a have need i : ℕ} {reached : Bool} (b : Bounded ws w m a have need reached i) where
  pub bounded_le : (have ≤ a + w + 64 * i) × (need ≤ have + m)
  bounded_le =
      let l : a + 64 * i ≤ a + w + 64 * i = omega arith in
      (omega (arith, b.held, ones_le (bit_at ws) (a + w + 64 * i) (bit_at_le ws)), omega (arith, b.held, b.needed, sum_mono (bit_at ws) l))

  pub bounded_done : (z : ℕ) → a + 64 * i ≡ z → reached ≡ false → Passed ws w m a z (have + m - need)
  bounded_done z e r =
      let f : a + w + 64 * i ≡ z + w = omega arith in
      record {
        none = subst (NoneIn ws w m a) e (b.none r);
        holds = omega (arith, b.held, b.needed, bounded_le.1, ap (ones (bit_at ws)) e, ap (ones (bit_at ws)) f);
      }
