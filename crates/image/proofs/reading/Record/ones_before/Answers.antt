-- `image::reading::Record::ones_before` meets its contract. Assumes nothing.
use mathlib.Core.Path.{◌≡◌, sym, ap, ap₂, ◌∙◌}
use Prim.Native.Nat.{ℕ, ◌+◌, ◌-◌, ◌*◌, ◌/◌, ◌≤◌}
use native.Mathlib.Omega.{arith}
use Rattle.words.specs.Bits.{bit_at, ones}
use Rattle.words.proofs.Sums.{sum_zero, ones_le}
use Rattle.words.proofs.WordLaws.{bit_at_le}
use Rattle.image.specs.Kinds.{kind1}
use Rattle.image.proofs.KindLaws.{entry_inside, bytes_inside, kind1_fits}
use Rattle.image.proofs.EntryLaws.{kind1_indexed}
use Rattle.image.proofs.PartLaws.{bits_of, ones_there}
use Rattle.image.proofs.reading.Record.ones_before.Goals as goal
use Rattle.image.proofs.reading.Record.ones_before.Goals.{After-block_rank}

pub returns-then-i-eq0 : goal.returns-then-i-eq0
returns-then-i-eq0 c =
    let a = c.args in
    let e : 0 ≡ a.i = omega arith in
    (omega arith, λ right. sym (sum_zero (bits_of kind1 a.self.part.now a.self.n)) ∙ ap (ones (bits_of kind1 a.self.part.now a.self.n)) e)

pub block_at-block-requires : goal.block_at-block-requires
block_at-block-requires c =
    let a = c.args in
    let m : ℕ = (a.i - 1) / 512 in
    omega (arith, c.bits_start.ensures.0, bytes_inside kind1 kind1_fits a.self.n (64 * m + 64) (omega arith))

pub entry_ones-requires : goal.entry_ones-requires
entry_ones-requires c =
    let a = c.args in
    omega (arith, entry_inside kind1 a.self.n ((a.i - 1) / 512 / 8) (omega arith))

-- a block has at most 512 ones
in_block : (c : After-block_rank) → c.block_rank.result ≤ 512
in_block c =
    let a = c.args in
    let block = c.block_at-block in
    omega (arith, c.block_rank.ensures, ones_le (bit_at block.result) (a.i - 512 * ((a.i - 1) / 512)) (bit_at_le block.result))

pub overflow_add-result : goal.overflow_add-result
overflow_add-result c = omega (arith, in_block (goal.at.overflow_add-result c).After-block_rank)

pub returns : goal.returns
returns c =
    let a = c.args in
    let m : ℕ = (a.i - 1) / 512 in
    let block = c.block_at-block in
    let e : 512 * m + (a.i - 512 * m) ≡ a.i = omega arith in (
      omega (arith, in_block (goal.at.returns c).After-block_rank),
      λ right.
          ap₂ (λ (x y : ℕ). x + y) c.entry_ones.ensures.0 c.block_rank.ensures
          ∙ ones_there _ _ _ _ _ _ (kind1_indexed a.self.part.now a.self.n (omega arith) right) m block.result _ (omega arith)
          (ap (λ (s : ℕ). s + 64 * m) c.bits_start.ensures.0) block.ensures.1 (a.i - 512 * m) (omega arith)
          ∙ ap (ones (bits_of kind1 a.self.part.now a.self.n)) e,
    )
