-- The blocks of a superblock counted one after another. Assumes nothing.
use mathlib.Core.Path.{◌≡◌, sym, ap, ◌∙◌}
use mathlib.Core.List.{List}
use Prim.Native.Nat.{ℕ, ◌+◌, ◌*◌, ◌≤◌, ◌<◌}
use native.Mathlib.Omega.{arith}
use lib.ListN.{length, set, get_or, length-set}
use Rattle.words.specs.Bits.{ones}
use Rattle.words.specs.Handles.{block_bits}
use Rattle.words.proofs.Sums.{sum_zero, sum_ext, stored_more}
use Rattle.image.specs.Kinds.{Kind}
use Rattle.image.specs.Layout.{superblock_blocks}
use Rattle.image.specs.Writing.{BlockCounts}
use Rattle.image.proofs.KindLaws.{KindFits}

-- the counts of a superblock's blocks are those of equal bits too
pub counts_ext : (K : Kind) → KindFits K → (f g : ℕ → ℕ) (c : List ℕ) → BlockCounts K f c → ((p : ℕ) → p < K.superblock_bits → f p ≡ g p) → BlockCounts K g c
counts_ext K F f g c h e =
    record { long = h.long; ends = λ j l. h.ends j l ∙ sum_ext f g (block_bits * (j + 1)) (λ p q. e p (omega (arith, F.whole))) }

-- the last of them is that of the whole superblock
pub counts_all : (K : Kind) → KindFits K → (g : ℕ → ℕ) (c : List ℕ) → BlockCounts K g c → (j : ℕ) → j + 1 ≡ superblock_blocks K
    → get_or c j 0 ≡ ones g K.superblock_bits
counts_all K F g c h j e = h.ends j (omega arith) ∙ ap (λ (x : ℕ). ones g (block_bits * x)) e ∙ ap (ones g) F.whole

-- the blocks of a superblock of bits g before block j are counted: `sum` is their ones
pub record Counting (K : Kind) (g : ℕ → ℕ) (c : List ℕ) (sum j : ℕ) : Type 0 where
  pub within : j ≤ superblock_blocks K
  pub long : length c ≡ superblock_blocks K
  pub count : sum ≡ ones g (block_bits * j)
  pub ends : (i : ℕ) → i < j → get_or c i 0 ≡ ones g (block_bits * (i + 1))

-- none is counted yet
pub counting_none : (K : Kind) (g : ℕ → ℕ) (c : List ℕ) → length c ≡ superblock_blocks K → Counting K g c 0 0
counting_none K g c h = record { within = omega arith; long = h; count = sym (sum_zero g); ends = (λ i l. absurd (omega arith)) }

-- one block more
pub counting_more : (K : Kind) (g : ℕ → ℕ) (c : List ℕ) (sum j next : ℕ) → Counting K g c sum j → j < superblock_blocks K → next ≡ ones g (block_bits * (j + 1))
    → Counting K g (set c j next) next (j + 1)
counting_more K g c sum j next x h is =
    record {
      within = omega arith;
      long = length-set c j next ∙ x.long;
      count = is;
      ends = stored_more (λ i. ones g (block_bits * (i + 1))) c j next (omega (arith, x.long)) x.ends is;
    }
