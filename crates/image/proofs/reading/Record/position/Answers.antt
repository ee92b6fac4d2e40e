-- `image::reading::Record::position` meets its contract. Assumes nothing.
use mathlib.Core.Path.{◌≡◌, sym, ap, ◌∙◌, subst}
use mathlib.Core.Logic.{⊎_elim}
use Prim.Native.Nat.{ℕ, ◌+◌, ◌-◌, ◌*◌, ◌/◌, ◌≤◌, ◌<◌}
use native.Mathlib.Omega.{arith}
use Rattle.words.specs.Bits.{bit_at}
use Rattle.words.specs.Strip.{as_bit, rank_of, select_of}
use Rattle.words.specs.Words.{place_in}
use Rattle.words.proofs.WordLaws.{as_bit_le}
use Rattle.words.proofs.SearchLaws.{select_le}
use Rattle.words.proofs.Sums.{lt_or}
use Rattle.image.specs.Kinds.{kind1}
use Rattle.image.specs.Rows.{Right}
use Rattle.image.proofs.KindLaws.{entry_inside, bytes_inside, kind1_fits}
use Rattle.image.proofs.EntryLaws.{kind1_indexed}
use Rattle.image.proofs.PartLaws.{bits_of, told_le, told_above, place_there}
use Rattle.image.proofs.reading.Record.position.Goals as goal
use Rattle.image.proofs.reading.Record.position.Goals.{After-block_select-p, After-entry_values-said}

pub entry_values-said-requires : goal.entry_values-said-requires
entry_values-said-requires c =
    let m = c.block_with-m in
    omega (arith, m.ensures.0, entry_inside kind1 c.args.self.n (m.result / 8) (omega (arith, m.ensures.0)))

-- what is not above is at most
unless_above : {a b : ℕ} → (a < b → ⊥) → b ≤ a
unless_above {a} {b} n = ⊎_elim (λ h. absurd (n h)) (λ h. h) (lt_or a b)

-- of a right row, the block has at most k of v before it
low : (c : After-entry_values-said) → Right kind1 c.args.self.part.now c.args.self.n
    → c.entry_values-said.result ≤ c.args.k
low c right =
    let a = c.args in
    let m = c.block_with-m in
    subst (λ (x : ℕ). x ≤ a.k) (sym c.entry_values-said.ensures)
    (told_le _ _ _ _ _ _ (kind1_indexed a.self.part.now a.self.n (omega arith) right) m.result (as_bit a.v) a.k ((a.self.n + 511) / 512)
    (as_bit_le a.v) (omega (arith, m.ensures.0)) m.ensures.1)

pub returns-then-k-said : goal.returns-then-k-said
returns-then-k-said c =
    let a = c.args in
    λ right. absurd (omega (arith, low (goal.at.returns-then-k-said c).After-entry_values-said right, c.if-k-said.true))

pub block_at-block-requires : goal.block_at-block-requires
block_at-block-requires c =
    let m = c.block_with-m in
    let inside = bytes_inside kind1 kind1_fits c.args.self.n (64 * m.result + 64) (omega (arith, m.ensures.0)) in
    omega (arith, c.bits_start.ensures.0, m.ensures.0, inside)

-- and the position in its block is that in the row
place : (c : After-block_select-p) (low : Right kind1 c.args.self.part.now c.args.self.n
    → c.entry_values-said.result ≤ c.args.k)
    → let a = c.args in
    let m = c.block_with-m.result in
    Right kind1 a.self.part.now a.self.n → a.k < rank_of (bits_of kind1 a.self.part.now a.self.n) (as_bit a.v) a.self.n
    → (c.block_select-p.result < 512) × (512 * m + c.block_select-p.result < a.self.n)
    × (512 * m + c.block_select-p.result ≡ place_in a.self.n (select_of (bits_of kind1 a.self.part.now a.self.n) a.self.n (as_bit a.v) a.k))
place c low right few =
    let a = c.args in
    let said = c.entry_values-said in
    let m = c.block_with-m in
    let block = c.block_at-block in
    let inside : m.result < (a.self.n + 511) / 512 = m.ensures.0 in
    place_there _ _ _ _ _ _ (kind1_indexed a.self.part.now a.self.n (omega arith) right) m.result block.result _ (omega arith)
    (ap (λ (s : ℕ). s + 64 * m.result) c.bits_start.ensures.0) block.ensures.1
    (as_bit a.v) a.k c.block_select-p.result (as_bit_le a.v)
    (subst (λ (x : ℕ). x ≤ a.k) said.ensures (low right))
    (told_above _ _ _ _ _ _ (kind1_indexed a.self.part.now a.self.n (omega arith) right) m.result (as_bit a.v) a.k (as_bit_le a.v) inside m.ensures.1 few)
    few
    (c.block_select-p.ensures ∙ ap (λ (x : ℕ). place_in 512 (select_of (bit_at block.result) 512 (as_bit a.v) (a.k - x))) said.ensures)

pub returns-then-p-eq-BLOCK_BITS : goal.returns-then-p-eq-BLOCK_BITS
returns-then-p-eq-BLOCK_BITS c =
    let a = c.args in
    λ right. unless_above (λ few. let q = place (goal.at.returns-then-p-eq-BLOCK_BITS c).After-block_select-p
    (low (goal.at.returns-then-p-eq-BLOCK_BITS c).After-entry_values-said) right few in omega (arith, q.0, c.if-p-eq-BLOCK_BITS.true))

pub overflow_add-position : goal.overflow_add-position
overflow_add-position c =
    let a = c.args in
    let block = c.block_at-block in
    let said = c.entry_values-said in
    omega (arith, c.block_select-p.ensures, select_le (bit_at block.result) 512 (as_bit a.v) (a.k - said.result))

pub returns-then-position-n : goal.returns-then-position-n
returns-then-position-n c = (omega arith, λ right few. (place (goal.at.returns-then-position-n c).After-block_select-p (low (goal.at.returns-then-position-n c).After-entry_values-said) right few).2)

pub returns-else-position-n : goal.returns-else-position-n
returns-else-position-n c =
    let a = c.args in
    λ right. unless_above (λ few. let q = place (goal.at.returns-else-position-n c).After-block_select-p
    (low (goal.at.returns-else-position-n c).After-entry_values-said) right few in omega (arith, q.1, c.if-position-n.false))
