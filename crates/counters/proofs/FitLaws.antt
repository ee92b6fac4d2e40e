-- Counters that fit: by level and node, as differences of prefix sums, a node as a part of them, and the root. Assumes nothing.
use Rattle.std.proofs.Common.{◌≡◌, ℕ, zero, suc, ◌+◌, ◌*◌, ◌<◌, ◌≤◌, List, get_or, take, drop, sym, ap, ◌∙◌, le_refl, mul-one, arith, lit<}
use Rattle.words.specs.Bits.{ones}
use Rattle.words.proofs.Sums.{sum_flat, part_at_lem}
use Rattle.counters.specs.Tree.{nodes, height, child_bits, child_ones, from_child, to_child, counter}
use Rattle.counters.specs.Record.{AllFit}
use Rattle.counters.specs.Working.{TreeOver, Node, LevelFits}
use Rattle.counters.proofs.TreeLaws.{height_pos, nodes_root, root_covers, prefix, prefix_zero, prefix_up, prefix_suc, from_summary, to_summary, from_key, to_key, counter_prefix, start, index_is}

-- where the counters of a level that fits stand
module _ (f : ℕ → ℕ) (n : ℕ) (xs : List ℕ) (t : ℕ) (fit : LevelFits f n xs t) (j i : ℕ) (there : j < nodes n t) (h : i < 72) where
  -- counter i of node j
  pub fit_at : get_or xs (start n t + 72 * j + i) 0 ≡ counter f t j i
  fit_at = ap (λ (x : ℕ). get_or xs x 0) (sym (index_is n t j i)) ∙ fit j i there h

  -- with the ones before its children, those up to their end
  pub fit_sum : get_or xs (start n t + 72 * j + i) 0 + prefix f t (64 * j + from_child i) ≡ prefix f t (64 * j + to_child i)
  fit_sum = omega (arith, fit_at, counter_prefix f t j i h)

-- node j, as a part of the counters
pub node_fits : (f : ℕ → ℕ) (n t j a w : ℕ) (xs : List ℕ) → LevelFits f n xs t → j < nodes n t → a ≡ start n t + 72 * j → w ≡ 72
    → Node (prefix f t) j (take w (drop a xs))
node_fits f n t j a w xs fit there from wide i h =
    omega (arith, part_at_lem xs a w 0 i (omega arith), ap (λ (x : ℕ). get_or xs (x + i) 0) from, fit_sum f n xs t fit j i there h)

-- the ones of a node, by its counters 7 and 71
pub counter_ones : (f : ℕ → ℕ) (t m : ℕ) → counter f (suc t) m 7 + counter f (suc t) m 71 ≡ child_ones f (suc (suc t)) m
counter_ones f t m =
    let a : 64 * m + from_child 7 ≡ 64 * m = omega (arith, from_summary 7 (lit< tt)) in
    let b : 64 * m + to_child 7 ≡ 64 * m + from_child 71 = omega (arith, to_summary 7 (lit< tt), from_key 63) in
    let e : 64 * m + to_child 71 ≡ 64 * suc m = omega (arith, to_key 63) in
    omega (
      arith,
      counter_prefix f (suc t) m 7 (lit< tt),
      counter_prefix f (suc t) m 71 (lit< tt),
      ap (prefix f (suc t)) a,
      ap (prefix f (suc t)) b,
      ap (prefix f (suc t)) e,
      prefix_up f t m,
      prefix_up f t (suc m),
      prefix_suc f (suc (suc t)) m,
    )

-- the ones of n blocks, by the root's counters 7 and 71
pub root_ones : (f : ℕ → ℕ) (n : ℕ) (xs : List ℕ) → TreeOver n xs → AllFit f n xs → ((p : ℕ) → 512 * n ≤ p → f p ≡ 0)
    → get_or xs 7 0 + get_or xs 71 0 ≡ ones f (512 * n)
root_ones f n xs T fit clean =
    omega (arith, root 7 (lit< tt), root 71 (lit< tt), node (height n) (height_pos n))
    ∙ ap (ones f) (mul-one (child_bits (suc (height n))))
    ∙ sum_flat f (512 * n) (child_bits (suc (height n))) (root_covers n T.few) clean
  where
    root : (i : ℕ) → i < 72 → get_or xs i 0 ≡ counter f (height n) 0 i
    root i l =
        let e : i ≡ start n (height n) + 72 * 0 + i = omega arith in
        ap (λ (x : ℕ). get_or xs x 0) e
        ∙ fit_at f n xs (height n) (λ j k. fit (height n) j k (height_pos n) (le_refl (height n))) 0 i (omega (arith, nodes_root n T)) l

    node : (t : ℕ) → 1 ≤ t → counter f t 0 7 + counter f t 0 71 ≡ prefix f (suc t) 1
    node zero h = absurd (omega arith)
    node (suc t) h = omega (arith, counter_ones f t 0, prefix_suc f (suc (suc t)) 0, prefix_zero f (suc (suc t)))
