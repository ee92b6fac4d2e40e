-- The burst call: what its checks leave, and what a search over the words tells of the strip. Assumes nothing.
use mathlib.Core.Path.{◌≡◌, refl}
use mathlib.Core.Bool.{◌&&◌}
use mathlib.Core.List.{List}
use mathlib.Core.Option.{none}
use Prim.Native.Nat.{ℕ, ◌+◌, ◌≤◌}
use native.Mathlib.Omega.{arith}
use lib.ListN.{length}
use lib.Dec.{leb}
use borrow.Author.Tests.{leb-true}
use Rattle.words.specs.declared.handle.Handle.{Handle}
use Rattle.words.specs.Bits.{bit_at, ones}
use Rattle.words.specs.Strip.{strip_of}
use Rattle.words.specs.Refusals.{judge, Told, value, refused, Small}
use Rattle.words.specs.Handles.{untaken, strip_lines}
use Rattle.words.proofs.BoolLaws.{and_first, and_second, not_not}
use Rattle.words.proofs.CheckLaws.{Checked, checked, passes, passed_both}
use Rattle.words.proofs.StripLaws.{strip_length}
use Rattle.words.proofs.SmallLaws.{small_judged}
use Rattle.words.proofs.SpanLaws.{span_words}
use Rattle.bursts.specs.Calls.{most_width, window_table, burst_table, Qualifies, RightBurst, Burst}
use Rattle.bursts.specs.Working.{NoneBelow, FirstBelow}

-- what the checks leave
pub record CheckedBurst (h : Handle) (words w m : ℕ) : Type 0 where
  pub strip : Checked h words untaken
  pub some : 1 ≤ w
  pub wide : w ≤ most_width
  pub least : 1 ≤ m
  pub most : m ≤ w

pub checked_burst : (h : Handle) (words w m : ℕ) → judge (burst_table h words w m) ≡ none → CheckedBurst h words w m
checked_burst h words w m p =
    let b = passed_both (strip_lines h words untaken) (window_table w m) p in
    let fine = not_not _ (passes (window_table w m) b.1).0 in
    let width = and_first (leb 1 w && leb w most_width) (leb 1 m && leb m w) fine in
    let number = and_second (leb 1 w && leb w most_width) (leb 1 m && leb m w) fine in
    record {
      strip = checked h words untaken b.0;
      some = leb-true _ _ (and_first (leb 1 w) (leb w most_width) width);
      wide = leb-true _ _ (and_second (leb 1 w) (leb w most_width) width);
      least = leb-true _ _ (and_first (leb 1 m) (leb m w) number);
      most = leb-true _ _ (and_second (leb 1 m) (leb m w) number);
    }

-- a window of the strip that qualifies is one of the words that holds enough
module _ (ws : List ℕ) (n w m : ℕ) where
  pub qualifies : (a : ℕ) → a + w ≤ n → ones (bit_at ws) a + m ≤ ones (bit_at ws) (a + w) → Qualifies (strip_of ws n) w m a
  qualifies a l h =
      let la : a ≤ a + w = omega arith in
      record { inside = omega (arith, strip_length ws n); enough = omega (arith, span_words ws n a (a + w) la l) }

  pub qualified : (a : ℕ) → Qualifies (strip_of ws n) w m a → (a + w ≤ n) × (ones (bit_at ws) a + m ≤ ones (bit_at ws) (a + w))
  qualified a q =
      let la : a ≤ a + w = omega arith in
      let l : a + w ≤ n = omega (arith, q.inside, strip_length ws n) in
      (l, omega (arith, q.enough, span_words ws n a (a + w) la l))

  pub burst_found : (r : ℕ) → FirstBelow ws n w m r → RightBurst (strip_of ws n) w m (value r)
  burst_found r f = qualifies r f.inside f.hit

  pub burst_none : NoneBelow ws n w m → RightBurst (strip_of ws n) w m (refused 6)
  burst_none short = (λ a q. let h = qualified a q in absurd (omega (arith, h.1, short a h.0)), refl)

-- what is told is small: a start is below the length, so below 2^32
pub small_burst : (h : Handle) (ws : List ℕ) (w m : ℕ) (t : Told) → Burst h ws w m t → Small t
small_burst h ws w m t b =
    small_judged (burst_table h (length ws) w m) (RightBurst (strip_of ws h.length) w m) t b (λ e. go t (checked_burst h (length ws) w m e))
  where
    go : (t : Told) → CheckedBurst h (length ws) w m → RightBurst (strip_of ws h.length) w m t → Small t
    go (value a) k q = omega (arith, q.inside, strip_length ws h.length, k.strip.long, k.strip.most)
    go (refused n) k q = tt
