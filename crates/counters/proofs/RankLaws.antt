-- The laws of counting before a position: in a node, up the levels, and in a block. Assumes nothing.
use Rattle.std.proofs.Common.{◌≡◌, ℕ, suc, ◌+◌, ◌-◌, ◌*◌, ◌/◌, ◌%◌, ◌<◌, ◌≤◌, List, get_or, take, drop, refl, ap, ◌∙◌, ap₂, add-one, arith}
use Rattle.words.specs.Bits.{bit_at, ones}
use Rattle.words.proofs.Sums.{part_ones}
use Rattle.words.proofs.WordLaws.{block_bit}
use Rattle.counters.specs.Tree.{nodes, height, from_child, to_child}
use Rattle.counters.specs.Record.{AllFit}
use Rattle.counters.specs.Working.{most_pair, TreeOver, Node, Up}
use Rattle.counters.specs.declared.shape.Climb.{Climb}
use Rattle.counters.specs.declared.shape.Rise.{Rise}
use Rattle.counters.proofs.TreeLaws.{nodes_root, child_bits_one, prefix, prefix_zero, prefix_up, from_summary, to_summary, from_key, to_key, ClimbAt, climb_up}
use Rattle.counters.proofs.FitLaws.{node_fits}

-- ---- in a node: the ones in its first c children
module _ (B : ℕ → ℕ) (j : ℕ) (xs : List ℕ) (node : Node B j xs) where
  -- summary g: with the ones before the node, those before the first child of group g
  summary_is : (g : ℕ) → g < 8 → get_or xs g 0 + B (64 * j) ≡ B (64 * j + 8 * g)
  summary_is g l =
      let a : 64 * j + from_child g ≡ 64 * j = omega (arith, from_summary g l) in
      let b : 64 * j + to_child g ≡ 64 * j + 8 * g = omega (arith, to_summary g l) in
      omega (arith, node g (omega arith), ap B a, ap B b)

  -- key c: with the ones before c's group, those up to and with child c
  key_is : (c : ℕ) → c < 64 → get_or xs (8 + c) 0 + B (64 * j + 8 * (c / 8)) ≡ B (64 * j + (c + 1))
  key_is c l =
      let a : 64 * j + from_child (8 + c) ≡ 64 * j + 8 * (c / 8) = omega (arith, from_key c) in
      let b : 64 * j + to_child (8 + c) ≡ 64 * j + (c + 1) = omega (arith, to_key c) in
      omega (arith, node (8 + c) (omega arith), ap B a, ap B b)

  -- c is the first child of its group of eight
  pub before_group : (c : ℕ) → c < 64 → c % 8 ≡ 0 → get_or xs (c / 8) 0 + B (64 * j) ≡ B (64 * j + c)
  before_group c l z =
      let a : 64 * j + 8 * (c / 8) ≡ 64 * j + c = omega arith in
      summary_is (c / 8) (omega arith) ∙ ap B a

  -- c is another child
  pub before_key : (c : ℕ) → c < 64 → (c % 8 ≡ 0 → ⊥) → (get_or xs (c / 8) 0 + get_or xs (7 + c) 0) + B (64 * j) ≡ B (64 * j + c)
  before_key c l z =
      let a : 8 + (c - 1) ≡ 7 + c = omega arith in
      let b : 64 * j + 8 * ((c - 1) / 8) ≡ 64 * j + 8 * (c / 8) = omega arith in
      let d : 64 * j + (c - 1 + 1) ≡ 64 * j + c = omega arith in
      omega (arith, summary_is (c / 8) (omega arith), key_is (c - 1) (omega arith), ap (λ (i : ℕ). get_or xs i 0) a, ap B b, ap B d)

-- ---- up the levels
-- After t levels: a node of level t, and the sum so far. Where the counters are as defined, the sum with the ones before that node is the ones
-- before the block.
pub record Climbed (n block : ℕ) (xs : List ℕ) (t : ℕ) (c : Climb) (sum : ℕ) : Type 0 where
  pub climb : ClimbAt n t c
  pub small : sum ≤ t * most_pair
  pub counted : (f : ℕ → ℕ) → AllFit f n xs → sum + prefix f (suc t) c.node ≡ ones f (512 * block)

-- at the start: no level, and the block itself
pub climbed_none : (n block : ℕ) (xs : List ℕ) (c : Climb) → ClimbAt n 0 c → c.node ≡ block → Climbed n block xs 0 c 0
climbed_none n block xs c C e =
    record {
      climb = C;
      small = omega arith;
      counted = (λ f fit. omega (arith, ap₂ (λ (b m : ℕ). ones f (b * m)) child_bits_one e));
    }

-- a level more, by what the node's counters give
pub climbed_more : {n block : ℕ} {xs : List ℕ} {t : ℕ} {c : Climb} {r : Rise} {sum : ℕ} → Climbed n block xs t c sum → t < height n → Up c r
    → (y w : ℕ) → y ≤ most_pair → w ≡ 72
    → ((B : ℕ → ℕ) (j : ℕ) → Node B j (take w (drop r.at xs)) → y + B (64 * j) ≡ B (64 * j + r.slot))
    → Climbed n block xs (t + 1) r.climb (sum + y)
climbed_more {n} {block} {xs} {t} {c} {r} {sum} now lower U y w small wide gives =
    record { climb = climb_up now.climb lower U; small = omega (arith, now.small); counted = counted }
  where
    next : ClimbAt n (suc t) r.climb
    next = rw (← add-one t) (climb_up now.climb lower U)

    counted : (f : ℕ → ℕ) → AllFit f n xs → sum + y + prefix f (suc (t + 1)) r.climb.node ≡ ones f (512 * block)
    counted f fit =
        let j : ℕ = r.climb.node in
        let e : 64 * j + r.slot ≡ c.node = omega (arith, U.node_is, U.slot_is) in
        let step = gives (prefix f (suc t)) j
        (node_fits f n (suc t) j r.at w xs (λ i k. fit (suc t) i k (omega arith) lower)
        (omega (arith, next.there, next.level.counted)) (omega (arith, U.at_is, next.level.starts)) wide) in
        let up = ap (λ (k : ℕ). prefix f (suc k) j) (add-one t) ∙ prefix_up f t j in
        omega (arith, now.counted f fit, step, ap (prefix f (suc t)) e, up)

-- at the top, one root: the sum is the ones before the block
pub climbed_done : {n block : ℕ} {xs : List ℕ} {t : ℕ} {c : Climb} {sum : ℕ} → Climbed n block xs t c sum → t ≡ height n → TreeOver n xs
    → (f : ℕ → ℕ) → AllFit f n xs → sum ≡ ones f (512 * block)
climbed_done {n} {block} {xs} {t} {c} {sum} now top T f fit =
    let one : c.level.count ≡ 1 = now.climb.level.counted ∙ ap (nodes n) top ∙ nodes_root n T in
    let z : c.node ≡ 0 = omega (arith, now.climb.there) in
    omega (arith, now.counted f fit, ap (prefix f (suc t)) z, prefix_zero f (suc t))

-- ---- in a block
-- the ones before position m of block b
pub ones_in_block : (ws : List ℕ) (b m : ℕ) → m ≤ 512 → ones (bit_at ws) (512 * b + m) ≡ ones (bit_at ws) (512 * b) + ones (bit_at (take 8 (drop (8 * b) ws))) m
ones_in_block ws b m l =
    part_ones (bit_at ws) (bit_at (take 8 (drop (8 * b) ws))) (512 * b) 512 m (λ p h. block_bit ws b 8 p refl h) l
