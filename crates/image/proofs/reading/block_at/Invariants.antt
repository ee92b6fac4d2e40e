-- `image::reading::block_at` meets its contract. The invariant: the words below j are the numbers of their eight bytes. Assumes nothing.
use mathlib.Core.Path.{◌≡◌}
use Prim.Native.Nat.{ℕ, ◌+◌, ◌*◌, ◌≤◌, ◌<◌}
use lib.ListN.{length, get_or}
use Rattle.image.specs.Bytes.{num}
use Rattle.image.proofs.reading.block_at.Given as goal

abbrev pub invariant-loop-j : goal.invariant-loop-j
invariant-loop-j l = (length l.block ≡ 8) × (l.j ≤ 8) × ((d : ℕ) → d < l.j → get_or l.block d 0 ≡ num l.part (l.at + 8 * d) 8)
