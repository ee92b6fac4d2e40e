-- Derived, for the inner contracts of laying and checking: a node and a level as their children's numbers make them. Laws in proofs/ tie them to
-- the definitions. Assumes nothing.
use Rattle.std.specs.Prelude.{◌≡◌, ℕ, ◌+◌, ◌*◌, ◌<◌, ◌≤◌, cond, List, length, ◌==◌, slice_index}
use Rattle.words.specs.Bits.{bit_at, list_of}
use Rattle.counters.specs.declared.shape.Level.{Level}
use Rattle.counters.specs.Tree.{child_ones}
use Rattle.counters.specs.Working.{most_blocks, Above, node_from, node_ones}

-- the children of level t + 1, where l is level t, are there to be read: the blocks in the words, or the nodes in the counters
pub record Readable (ws xs : List ℕ) (t : ℕ) (l : Level) : Type 0 where
  pub few : l.count ≤ most_blocks
  pub blocks : t ≡ 0 → length ws ≡ 8 * l.count
  pub nodes : 1 ≤ t → l.start + 72 * l.count ≤ length xs

-- and the level above, which is r, lies in the counters
abbrev pub Ready : (ws xs : List ℕ) (t : ℕ) (l r : Level) → Type 0
Ready ws xs t l r = Readable ws xs t l × Above l r × (l.start ≤ length xs)

-- what child m of level t + 1 holds, where l is level t: block m by the words, or node m by its last summary and its last key
unfoldable pub child_holds : List ℕ → List ℕ → ℕ → Level → ℕ → ℕ
child_holds ws xs t l m = cond (t == 0) (child_ones (bit_at ws) 1 m) (node_ones xs l.start l.count m)

-- node j of the level that starts at `at` has the counters that children with the numbers ts make
abbrev pub NodeAt : List ℕ → ℕ → ℕ → List ℕ → Type 0
NodeAt ts at j xs = (i : ℕ) → i < 72 → slice_index xs (at + 72 * j + i) ≡ node_from ts i

-- ys is xs with that node so laid
pub record NodeBuilt (ts : List ℕ) (at j : ℕ) (xs ys : List ℕ) : Type 0 where
  pub inside : NodeAt ts at j ys
  pub under : (x : ℕ) → x < at + 72 * j → slice_index ys x ≡ slice_index xs x
  pub over : (x : ℕ) → at + 72 * j + 72 ≤ x → slice_index ys x ≡ slice_index xs x

-- what the 64 children of node j hold, where child m of the level holds h m
unfoldable pub children_of : (ℕ → ℕ) → ℕ → List ℕ
children_of h j = list_of (λ c. h (64 * j + c)) 64

-- the first `count` nodes of the level that starts at `at` are as their children's numbers make them
abbrev pub LevelFrom : (ℕ → ℕ) → List ℕ → ℕ → ℕ → Type 0
LevelFrom h xs at count = (j : ℕ) → j < count → NodeAt (children_of h j) at j xs

-- ys is xs with level l so laid; what stands past it stays
pub record LevelBuilt (h : ℕ → ℕ) (l : Level) (xs ys : List ℕ) : Type 0 where
  pub built : LevelFrom h ys l.start l.count
  pub over : (x : ℕ) → l.start + 72 * l.count ≤ x → slice_index ys x ≡ slice_index xs x
