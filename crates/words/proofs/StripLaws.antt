-- A list by its cells: the four definitions over it are those over the cells; and so of the strip that a list of words holds. Assumes nothing.
use Rattle.std.proofs.Common.{◌≡◌, ℕ, ◌<◌, ◌≤◌, min, ◌&&◌, eqb, leb, ◌⊎◌, List, [], length, sym, refl, ap, ◌∙◌, ap₂, inl, inr, le_refl, arith}
use lib.ListN.{get_or-eq_default}
use Rattle.words.specs.Bits.{bit_at, ones, list_of}
use Rattle.words.specs.Strip.{cell, strip_of, rank_of, select_of, successor_of, predecessor_of, rank, total_of, select, successor, predecessor}
use Rattle.words.specs.Handles.{handle, handle_of}
use Rattle.words.proofs.Sums.{lt_or, length_list_of, get_or_list_of}
use Rattle.words.proofs.WordLaws.{bit_at_le}
use Rattle.words.proofs.SearchLaws.{least_ext, greatest_ext, rank_ext, rank_le, rank_ones}

-- ---- the list of the cells f 0, f 1, .., f (n - 1)
module _ (f : ℕ → ℕ) (n : ℕ) where
  -- the first i cells, where there are as many
  short : (i : ℕ) → i ≤ n → min i (length (list_of f n)) ≡ i
  short i h = ap (min i) (length_list_of f n) ∙ omega arith

  -- cells before i have the same rank
  before : (v i : ℕ) → i ≤ n → rank_of (cell (list_of f n)) v i ≡ rank_of f v i
  before v i h = rank_ext (cell (list_of f n)) f v i (λ p l. get_or_list_of f n p (omega arith))

  pub listed_rank : (v i : ℕ) → i ≤ n → rank (list_of f n) v i ≡ rank_of f v i
  listed_rank v i h = ap (rank_of (cell (list_of f n)) v) (short i h) ∙ before v i h

  pub listed_select : (v k : ℕ) → select (list_of f n) v k ≡ select_of f n v k
  listed_select v k =
      ap (λ (m : ℕ). select_of (cell (list_of f n)) m v k) (length_list_of f n)
      ∙ least_ext (λ p. eqb (cell (list_of f n) p) v && eqb (rank_of (cell (list_of f n)) v p) k) (λ p. eqb (f p) v && eqb (rank_of f v p) k) n
      (λ p l. ap₂ (λ (x y : ℕ). eqb x v && eqb y k) (get_or_list_of f n p l) (before v p (omega arith)))

  pub listed_successor : (v i : ℕ) → successor (list_of f n) v i ≡ successor_of f n v i
  listed_successor v i =
      ap (λ (m : ℕ). successor_of (cell (list_of f n)) m v i) (length_list_of f n)
      ∙ least_ext (λ p. leb i p && eqb (cell (list_of f n) p) v) (λ p. leb i p && eqb (f p) v) n
      (λ p l. ap (λ (x : ℕ). leb i p && eqb x v) (get_or_list_of f n p l))

  pub listed_predecessor : (v i : ℕ) → i ≤ n → predecessor (list_of f n) v i ≡ predecessor_of f v i
  listed_predecessor v i h =
      ap (predecessor_of (cell (list_of f n)) v) (short i h)
      ∙ greatest_ext (λ p. eqb (cell (list_of f n) p) v) (λ p. eqb (f p) v) i (λ p l. ap (λ (x : ℕ). eqb x v) (get_or_list_of f n p (omega arith)))

-- ---- the total of a list
-- it is the rank of 1 at the length
pub total_rank : (s : List ℕ) (n : ℕ) → length s ≡ n → total_of s ≡ rank_of (cell s) 1 n
total_rank s n e = ap (rank_of (cell s) 1) (omega arith)

-- it is at most the length
pub total_le : (s : List ℕ) → total_of s ≤ length s
total_le s = omega (arith, rank_le (cell s) 1 (min (length s) (length s)))

-- of bits it is the ones
pub total_ones : (s : List ℕ) → ((p : ℕ) → cell s p ≤ 1) → total_of s ≡ ones (cell s) (length s)
total_ones s bits = total_rank s (length s) refl ∙ rank_ones (cell s) (length s) bits

-- the empty strip's total is 0
pub total_none : total_of [] ≡ 0
total_none = omega (arith, total_le [])

-- the handle of the empty strip
pub handle_none : (c : ℕ) → handle c 0 0 ≡ handle_of c []
handle_none c = ap (handle c 0) (sym total_none)

-- ---- the strip of a list of words
pub strip_cell : (ws : List ℕ) (n p : ℕ) → p < n → cell (strip_of ws n) p ≡ bit_at ws p
strip_cell ws n p l = get_or_list_of (bit_at ws) n p l

pub strip_length : (ws : List ℕ) (n : ℕ) → length (strip_of ws n) ≡ n
strip_length ws n = length_list_of (bit_at ws) n

-- its cells are bits
pub strip_le : (ws : List ℕ) (n p : ℕ) → cell (strip_of ws n) p ≤ 1
strip_le ws n p = go (lt_or p n)
  where
    go : (p < n) ⊎ (n ≤ p) → cell (strip_of ws n) p ≤ 1
    go (inl l) = omega (arith, strip_cell ws n p l, bit_at_le ws p)
    go (inr l) = omega (arith, get_or-eq_default (strip_of ws n) 0 {n = p} (omega (arith, strip_length ws n)))

pub strip_rank : (ws : List ℕ) (n v i : ℕ) → i ≤ n → rank (strip_of ws n) v i ≡ rank_of (bit_at ws) v i
strip_rank ws n v i h = listed_rank (bit_at ws) n v i h

-- its total is the ones of its words before its end
pub strip_total : (ws : List ℕ) (n : ℕ) → total_of (strip_of ws n) ≡ ones (bit_at ws) n
strip_total ws n =
    ap (rank (strip_of ws n) 1) (strip_length ws n) ∙ strip_rank ws n 1 n (le_refl n) ∙ rank_ones (bit_at ws) n (bit_at_le ws)

pub strip_select : (ws : List ℕ) (n v k : ℕ) → select (strip_of ws n) v k ≡ select_of (bit_at ws) n v k
strip_select ws n v k = listed_select (bit_at ws) n v k

pub strip_successor : (ws : List ℕ) (n v i : ℕ) → successor (strip_of ws n) v i ≡ successor_of (bit_at ws) n v i
strip_successor ws n v i = listed_successor (bit_at ws) n v i

pub strip_predecessor : (ws : List ℕ) (n v i : ℕ) → i ≤ n → predecessor (strip_of ws n) v i ≡ predecessor_of (bit_at ws) v i
strip_predecessor ws n v i h = listed_predecessor (bit_at ws) n v i h
