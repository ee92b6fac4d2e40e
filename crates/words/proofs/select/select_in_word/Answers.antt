-- `words::select::select_in_word` meets its contract: j is the byte that holds the k-th one, and `under` the ones before it. Assumes nothing.
use Rattle.std.proofs.Common.{◌≡◌, ℕ, ◌+◌, ◌*◌, ◌/◌, ◌%◌, ◌^◌, ◌<◌, ◌≤◌, sym, ap, le_refl, mod-lt, zero-lt-suc, arith}
use Rattle.words.specs.Bits.{bit, ones}
use Rattle.words.specs.Words.{byte_of, select_in}
use Rattle.words.proofs.Sums.{ones_le}
use Rattle.words.proofs.BitLaws.{bit_le, byte_ones}
use Rattle.words.proofs.SearchLaws.{Reached}
use Rattle.words.proofs.SelectLaws.{byte_reached, prefix_le, under_is, few, found}
use Rattle.words.proofs.select.select_in_word.Goals as goal
use Rattle.words.proofs.select.select_in_word.Goals.{After-lanes_at_most-j, After-select_in_byte, Else-j-gt7}

pub returns-then-k-gt63 : goal.returns-then-k-gt63
returns-then-k-gt63 c =
    let x : ℕ = c.args.x in
    sym (few x c.args.k (omega (arith, ones_le (bit x) 64 (bit_le x))))

pub lanes_at_most-j-requires : goal.lanes_at_most-j-requires
lanes_at_most-j-requires c = (omega arith, λ j l. prefix_le c.args.x c.prefix_counts-s.result j c.prefix_counts-s.ensures l)

-- the byte that the lanes give
which : (c : After-lanes_at_most-j)
    → Reached (λ j. ones (bit c.args.x) (8 * j + 8)) c.args.k 8 c.lanes_at_most-j.result
which c =
    byte_reached c.args.x c.prefix_counts-s.result c.args.k c.lanes_at_most-j.result
    c.prefix_counts-s.ensures c.lanes_at_most-j.ensures

pub returns-then-j-gt7 : goal.returns-then-j-gt7
returns-then-j-gt7 c =
    let x : ℕ = c.args.x in
    sym (few x c.args.k ((which (goal.at.returns-then-j-gt7 c).After-lanes_at_most-j).low 7 (omega arith)))

under_ones : (c : Else-j-gt7) → ((c.prefix_counts-s.result * 2 ^ 8) % 2 ^ 64 / 2 ^ (8 * c.lanes_at_most-j.result) % 2 ^ 8) ≡ ones (bit c.args.x) (8 * c.lanes_at_most-j.result)
under_ones c =
    under_is c.args.x c.prefix_counts-s.result c.lanes_at_most-j.result
    c.prefix_counts-s.ensures (omega arith)

under-le : (c : Else-j-gt7) (under_ones : ((c.prefix_counts-s.result * 2 ^ 8) % 2 ^ 64 / 2 ^ (8 * c.lanes_at_most-j.result) % 2 ^ 8) ≡ ones (bit c.args.x) (8 * c.lanes_at_most-j.result)) (which : Reached (λ j. ones (bit c.args.x) (8 * j + 8)) c.args.k 8 c.lanes_at_most-j.result) → ((c.prefix_counts-s.result * 2 ^ 8) % 2 ^ 64 / 2 ^ (8 * c.lanes_at_most-j.result) % 2 ^ 8) ≤ c.args.k
under-le c under_ones which =
    go c.lanes_at_most-j.result (under_ones) (which).low
  where
    go : (j : ℕ) → ((c.prefix_counts-s.result * 2 ^ 8) % 2 ^ 64 / 2 ^ (8 * c.lanes_at_most-j.result) % 2 ^ 8) ≡ ones (bit c.args.x) (8 * j)
        → ((i : ℕ) → i < j → ones (bit c.args.x) (8 * i + 8) ≤ c.args.k)
        → ((c.prefix_counts-s.result * 2 ^ 8) % 2 ^ 64 / 2 ^ (8 * c.lanes_at_most-j.result) % 2 ^ 8) ≤ c.args.k
    go Prim.Native.Nat.zero e low = omega (arith, e, Rattle.words.proofs.Sums.sum_zero (bit c.args.x))
    go (Prim.Native.Nat.suc i) e low =
        let m : 8 * Prim.Native.Nat.suc i ≡ 8 * i + 8 = omega arith in
        omega (arith, e, low i (native.Mathlib.Nat.lt-suc_self i), ap (ones (bit c.args.x)) m)

pub overflow_sub-k : goal.overflow_sub-k
overflow_sub-k c = under-le (goal.at.overflow_sub-k c).Else-j-gt7 (under_ones (goal.at.overflow_sub-k c).Else-j-gt7) (which (goal.at.overflow_sub-k c).After-lanes_at_most-j)

pub select_in_byte-requires : goal.select_in_byte-requires
select_in_byte-requires c =
    let x : ℕ = c.args.x in
    let j : ℕ = c.lanes_at_most-j.result in
    let b : ℕ = byte_of x j in (
      mod-lt (x / 2 ^ (8 * j)) (zero-lt-suc 255),
      omega (arith, under-le (goal.at.select_in_byte-requires c).Else-j-gt7 (under_ones (goal.at.select_in_byte-requires c).Else-j-gt7) (which (goal.at.select_in_byte-requires c).After-lanes_at_most-j), under_ones (goal.at.select_in_byte-requires c).Else-j-gt7, (which (goal.at.select_in_byte-requires c).After-lanes_at_most-j).above (omega arith), byte_ones x (8 * j) 8 (le_refl 8), ones_le (bit b) 8 (bit_le b)),
    )

-- the position, and that it is in the byte
at : (c : After-select_in_byte) (under_ones : ((c.prefix_counts-s.result * 2 ^ 8) % 2 ^ 64 / 2 ^ (8 * c.lanes_at_most-j.result) % 2 ^ 8) ≡ ones (bit c.args.x) (8 * c.lanes_at_most-j.result)) (under-le : ((c.prefix_counts-s.result * 2 ^ 8) % 2 ^ 64 / 2 ^ (8 * c.lanes_at_most-j.result) % 2 ^ 8) ≤ c.args.k) (which : Reached (λ j. ones (bit c.args.x) (8 * j + 8)) c.args.k 8 c.lanes_at_most-j.result)
    → (select_in 64 c.args.x 1 c.args.k
    ≡ 8 * c.lanes_at_most-j.result + c.select_in_byte.result) × (c.select_in_byte.result < 8)
at c under_ones under-le which =
    found c.args.x c.args.k c.lanes_at_most-j.result (((c.prefix_counts-s.result * 2 ^ 8) % 2 ^ 64 / 2 ^ (8 * c.lanes_at_most-j.result) % 2 ^ 8))
    c.select_in_byte.result (omega arith) (under_ones) (under-le) ((which).above (omega arith)) c.select_in_byte.ensures

pub overflow_add-result : goal.overflow_add-result
overflow_add-result c = omega (arith, (at (goal.at.overflow_add-result c).After-select_in_byte (under_ones (goal.at.overflow_add-result c).Else-j-gt7) (under-le (goal.at.overflow_add-result c).Else-j-gt7 (under_ones (goal.at.overflow_add-result c).Else-j-gt7) (which (goal.at.overflow_add-result c).After-lanes_at_most-j)) (which (goal.at.overflow_add-result c).After-lanes_at_most-j)).1)

pub returns : goal.returns
returns c = sym (at (goal.at.returns c).After-select_in_byte (under_ones (goal.at.returns c).Else-j-gt7) (under-le (goal.at.returns c).Else-j-gt7 (under_ones (goal.at.returns c).Else-j-gt7) (which (goal.at.returns c).After-lanes_at_most-j)) (which (goal.at.returns c).After-lanes_at_most-j)).0
