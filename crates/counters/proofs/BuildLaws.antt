-- Laws of laying and checking: what a node's children hold, a node's counters from that, and the levels laid one above the other.
-- Assumes nothing.
use Rattle.std.proofs.Common.{◌≡◌, ℕ, zero, suc, ◌+◌, ◌-◌, ◌*◌, ◌%◌, ◌^◌, ◌<◌, ◌≤◌, Bool, true, false, not, ◌⊎◌, List, length, get_or, take, drop, set, sym, refl, ap, ◌∙◌, subst, ap₂, inl, inr, le_refl, mod-eq_of_lt, add-one, arith, lit<, length-set, get_or-set_other, below_more, le-ltb, lt-ltb, ne_eqb, eqb, ext_get_or, true≢false}
use Rattle.std.specs.Cmp.Lexicographic.{pointwise}
use Rattle.std.proofs.lemmas.Bool.Decides.{Decides-eqb}
use Rattle.std.proofs.lemmas.Slice.Eq.{slice_eq-Decides}
use mathlib.Core.Path.{fun_ext}
use native.Mathlib.Nat.{mod-add-mod, add-mod}
use borrow.Author.Tests.{not-true, not-false}
use Rattle.words.specs.Bits.{bit_at, ones, list_of}
use Rattle.words.proofs.Sums.{lt_or, sum_zero, sum_more, sum_split, sum_ext, ones_le, list_of_is, part_at_lem, get_or_list_of, stored_more}
use Rattle.words.proofs.WordLaws.{bit_at_le, bit_at_past, block_bit}
use Rattle.counters.specs.Tree.{nodes, height, child_bits, child_ones, from_child, to_child, counter, index_of}
use Rattle.counters.specs.Record.{AllFit}
use Rattle.counters.specs.Working.{most_blocks, TreeOver, RoomAbove, Above, node_from, node_ones, LevelFits, Decides}
use Rattle.counters.specs.Building.{Readable, Ready, child_holds, NodeAt, NodeBuilt, children_of, LevelFrom, LevelBuilt}
use Rattle.counters.specs.declared.shape.Level.{Level}
use Rattle.counters.proofs.TreeLaws.{nodes_zero, child_absent, child_bits_one, prefix_suc, from_summary, to_summary, from_key, to_key, from_to_lem, counter_children, start, start_zero, start_before, index_is, LevelAt, level_blocks, level_few, level_next, level_room, total_mono}
use Rattle.counters.proofs.FitLaws.{fit_at, counter_ones}
use Rattle.counters.proofs.AfreshLaws.{ones_bound, counter_lt}
use Rattle.counters.proofs.SpliceLaws.{part_length, splice, splice_length, splice_below, splice_in}

-- ---- the ones of a block
-- the words of block m hold its ones
block_there : (ws : List ℕ) (m : ℕ) → ones (bit_at (take 8 (drop (8 * m) ws))) 512 ≡ child_ones (bit_at ws) 1 m
unfolding child_ones
block_there ws m =
    sum_ext (bit_at (take 8 (drop (8 * m) ws))) (λ p. bit_at ws (512 * m + p)) 512
    (λ p h. block_bit ws m 8 p refl h)
    ∙ ap (λ (b : ℕ). ones (λ p. bit_at ws (b * m + p)) b) (sym child_bits_one)

-- a block holds at most 512 ones
block_le : (ws : List ℕ) (m : ℕ) → child_ones (bit_at ws) 1 m ≤ 512
unfolding child_ones
block_le ws m =
    omega (arith, ones_le (λ p. bit_at ws (child_bits 1 * m + p)) (child_bits 1) (λ p. bit_at_le ws (child_bits 1 * m + p)), child_bits_one)

-- a block that is not there
block_past : (ws : List ℕ) (n m : ℕ) → length ws ≡ 8 * n → n ≤ m → child_ones (bit_at ws) 1 m ≡ 0
block_past ws n m size h = child_absent (bit_at ws) n 0 m (λ p l. bit_at_past ws p (omega arith)) (omega (arith, nodes_zero n))

-- ---- the ones of a node, by its last summary and its last key
-- a node that is there
node_there : (xs : List ℕ) (from count m : ℕ) → m < count
    → node_ones xs from count m ≡ (get_or xs (from + 72 * m + 7) 0 + get_or xs (from + 72 * m + 71) 0) % 2 ^ 32
unfolding node_ones
node_there xs from count m h = simp (lt-ltb m count h)

-- a node that is not there
node_past : (xs : List ℕ) (from count m : ℕ) → count ≤ m → node_ones xs from count m ≡ 0
unfolding node_ones
node_past xs from count m h = simp (le-ltb m count h)

-- counters that agree from the level's start on, the same numbers
node_ones_ext : (xs ys : List ℕ) (from count m : ℕ) → ((x : ℕ) → from ≤ x → get_or ys x 0 ≡ get_or xs x 0)
    → node_ones ys from count m ≡ node_ones xs from count m
node_ones_ext xs ys from count m agree = go (lt_or m count)
  where
    go : (m < count) ⊎ (count ≤ m) → node_ones ys from count m ≡ node_ones xs from count m
    go (inl l) =
        node_there ys from count m l
        ∙ ap₂ (λ (a b : ℕ). (a + b) % 2 ^ 32) (agree (from + 72 * m + 7) (omega arith)) (agree (from + 72 * m + 71) (omega arith))
        ∙ sym (node_there xs from count m l)
    go (inr l) = node_past ys from count m l ∙ sym (node_past xs from count m l)

-- ---- a child of level t + 1, where l is level t
-- at level 1 a block
child_first : (ws xs : List ℕ) (l : Level) (m : ℕ) → child_holds ws xs 0 l m ≡ child_ones (bit_at ws) 1 m
unfolding child_holds
child_first ws xs l m = refl

-- above that a node
child_node : (ws xs : List ℕ) (t : ℕ) (l : Level) (m : ℕ) → child_holds ws xs (suc t) l m ≡ node_ones xs l.start l.count m
unfolding child_holds
child_node ws xs t l m = let h : suc t ≡ 0 → ⊥ = (λ e. omega arith) in simp (ne_eqb (suc t) 0 h)

module _ (ws xs : List ℕ) (t : ℕ) (l : Level) (m : ℕ) where
  -- one that is not there
  pub child_past : Readable ws xs t l → l.count ≤ m → 0 ≡ child_holds ws xs t l m
  child_past R h = go t R
    where
      go : (s : ℕ) → Readable ws xs s l → 0 ≡ child_holds ws xs s l m
      go zero R = sym (child_first ws xs l m ∙ block_past ws l.count m (R.blocks refl) h)
      go (suc s) R = sym (child_node ws xs s l m ∙ node_past xs l.start l.count m h)

  -- the words of a block hold its ones
  pub child_block : t ≡ 0 → ones (bit_at (take 8 (drop (8 * m) ws))) 512 ≡ child_holds ws xs t l m
  child_block z = block_there ws m ∙ sym (ap (λ (s : ℕ). child_holds ws xs s l m) z ∙ child_first ws xs l m)

  -- at most 512
  pub child_block_le : t ≡ 0 → child_holds ws xs t l m ≤ 512
  child_block_le z = omega (arith, ap (λ (s : ℕ). child_holds ws xs s l m) z, child_first ws xs l m, block_le ws m)

  -- the last summary of a node and its last key are its ones
  pub child_above : (t ≡ 0 → ⊥) → m < l.count → (get_or xs (l.start + 72 * m + 7) 0 + get_or xs (l.start + 72 * m + 71) 0) % 2 ^ 32 ≡ child_holds ws xs t l m
  child_above h there =
      let e : t ≡ suc (t - 1) = omega arith in
      sym (ap (λ (s : ℕ). child_holds ws xs s l m) e ∙ child_node ws xs (t - 1) l m ∙ node_there xs l.start l.count m there)

-- counters that agree from the start of level t on: the same children
module _ (ws xs : List ℕ) (t : ℕ) (l : Level) (ys : List ℕ) (agree : (x : ℕ) → l.start ≤ x → get_or ys x 0 ≡ get_or xs x 0) where
  child_same : (s m : ℕ) → child_holds ws ys s l m ≡ child_holds ws xs s l m
  child_same zero m = child_first ws ys l m ∙ sym (child_first ws xs l m)
  child_same (suc s) m = child_node ws ys s l m ∙ node_ones_ext xs ys l.start l.count m agree ∙ sym (child_node ws xs s l m)

  -- of a node
  pub children_same : (j : ℕ) → children_of (child_holds ws ys t l) j ≡ children_of (child_holds ws xs t l) j
  children_same j = ap (λ (h : ℕ → ℕ). children_of h j) (fun_ext (child_same t))

-- ---- the counters of a node from its children's numbers
-- the numbers of a list, summed
abbrev pub sums : List ℕ → ℕ → ℕ
sums ts = ones (λ m. get_or ts m 0)

-- one more number, wrapped
pub sums_more : (ts : List ℕ) (i : ℕ) → (sums ts i % 2 ^ 32 + get_or ts i 0) % 2 ^ 32 ≡ sums ts (i + 1) % 2 ^ 32
sums_more ts i =
    mod-add-mod (sums ts i) (2 ^ 32) (get_or ts i 0) ∙ ap (λ (s : ℕ). s % 2 ^ 32) (sym (sum_more (λ m. get_or ts m 0) i))

-- a part's sum
pub part_sums : (ts : List ℕ) (a n i : ℕ) → i ≤ n → sums (take n (drop a ts)) i ≡ ones (λ m. get_or ts (a + m) 0) i
part_sums ts a n i h =
    sum_ext (λ m. get_or (take n (drop a ts)) m 0) (λ m. get_or ts (a + m) 0) i (λ m l. part_at_lem ts a n 0 m (omega arith))

-- a part's sum added to the sum before it, wrapped
pub sums_part : (ts : List ℕ) (a n : ℕ) → (sums ts a % 2 ^ 32 + sums (take n (drop a ts)) n % 2 ^ 32) % 2 ^ 32 ≡ sums ts (a + n) % 2 ^ 32
sums_part ts a n =
    sym (add-mod (sums ts a) (sums (take n (drop a ts)) n) (2 ^ 32))
    ∙ ap (λ (s : ℕ). (sums ts a + s) % 2 ^ 32) (part_sums ts a n n (le_refl n))
    ∙ ap (λ (s : ℕ). s % 2 ^ 32) (sym (sum_split (λ m. get_or ts m 0) a n))

-- counter i, of the k children from a on
from_children : (ts : List ℕ) (i a k : ℕ) → from_child i ≡ a → to_child i ≡ a + k → node_from ts i ≡ ones (λ m. get_or ts (a + m) 0) k % 2 ^ 32
unfolding node_from
from_children ts i a k p q =
    let e : to_child i - from_child i ≡ k = omega arith in
    ap₂ (λ (x y : ℕ). ones (λ m. get_or ts (x + m) 0) y % 2 ^ 32) p e

-- summary g is the sum of the groups before
pub from_groups : (ts : List ℕ) (g : ℕ) → g < 8 → node_from ts g ≡ sums ts (8 * g) % 2 ^ 32
from_groups ts g h =
    from_children ts g 0 (8 * g) (from_summary g h) (omega (arith, to_summary g h))
    ∙ ap (λ (s : ℕ). s % 2 ^ 32)
    (sum_ext (λ m. get_or ts (0 + m) 0) (λ m. get_or ts m 0) (8 * g) (λ m l. ap (λ (k : ℕ). get_or ts k 0) (omega arith)))

-- key i of group g is the sum of the group up to it
pub from_group : (ts : List ℕ) (g i : ℕ) → i < 8 → node_from ts (8 + (8 * g + i)) ≡ sums (take 8 (drop (8 * g) ts)) (i + 1) % 2 ^ 32
from_group ts g i h =
    from_children ts (8 + (8 * g + i)) (8 * g) (i + 1) (omega (arith, from_key (8 * g + i))) (omega (arith, to_key (8 * g + i)))
    ∙ ap (λ (s : ℕ). s % 2 ^ 32) (sym (part_sums ts (8 * g) 8 (i + 1) (omega arith)))

-- the groups before g of a node are laid, and `sum` is their sum
pub record Groups (ts xs : List ℕ) (g sum : ℕ) : Type 0 where
  pub size : length xs ≡ 72
  pub summed : sum ≡ sums ts (8 * g) % 2 ^ 32
  pub summaries : (i : ℕ) → i < g → get_or xs i 0 ≡ node_from ts i
  pub keys : (c : ℕ) → c < 8 * g → get_or xs (8 + c) 0 ≡ node_from ts (8 + c)

-- no group yet
pub groups_none : (ts xs : List ℕ) → length xs ≡ 72 → Groups ts xs 0 0
groups_none ts xs size =
    record {
      size = size;
      summed = sym (ap (λ (s : ℕ). s % 2 ^ 32) (sum_zero (λ m. get_or ts m 0)));
      summaries = (λ i l. absurd (omega arith));
      keys = (λ c l. absurd (omega arith));
    }

-- group g: its summary is stored, its keys are laid over a part that was lent, and its sum is added
pub groups_more : {ts xs : List ℕ} {g sum : ℕ} → Groups ts xs g sum → g < 8 → (ys : List ℕ) (part r k n : ℕ) → n ≡ 8 → k ≡ 8
    → length ys ≡ length (take k (drop (8 * g + 8) (set xs g sum)))
    → ((i : ℕ) → i < 8 → get_or ys i 0 ≡ sums (take n (drop (8 * g) ts)) (i + 1) % 2 ^ 32) → part ≡ sums (take n (drop (8 * g) ts)) 8 % 2 ^ 32
    → r ≡ (sum + part) % 2 ^ 32 → Groups ts (splice (8 * g + 8) k (set xs g sum) ys) (g + 1) r
groups_more {ts} {xs} {g} {sum} G l ys part r k n is eight kept made added e =
    record {
      size = splice_length (8 * g + 8) k zs ys room kept ∙ length-set xs g sum ∙ G.size;
      summed = e
          ∙ ap₂ (λ (a b : ℕ). (a + b) % 2 ^ 32) G.summed (added ∙ ap (λ (j : ℕ). sums (take j (drop (8 * g) ts)) 8 % 2 ^ 32) is)
          ∙ sums_part ts (8 * g) 8
          ∙ ap (λ (j : ℕ). sums ts j % 2 ^ 32) (omega arith);
      summaries = (λ i h.
          splice_below (8 * g + 8) k zs ys room kept 0 i (omega arith)
          ∙ stored_more (node_from ts) xs g sum (omega (arith, G.size)) G.summaries (G.summed ∙ sym (from_groups ts g l)) i h);
      keys = (λ c h. key c (lt_or c (8 * g)) h);
    }
  where
    zs : List ℕ
    zs = set xs g sum

    room : 8 * g + 8 + k ≤ length zs
    room = omega (arith, length-set xs g sum, G.size)

    key : (c : ℕ) → (c < 8 * g) ⊎ (8 * g ≤ c) → c < 8 * (g + 1) → get_or (splice (8 * g + 8) k zs ys) (8 + c) 0 ≡ node_from ts (8 + c)
    key c (inl h) q =
        splice_below (8 * g + 8) k zs ys room kept 0 (8 + c) (omega arith)
        ∙ get_or-set_other xs g (8 + c) sum 0 (λ u. omega arith)
        ∙ G.keys c h
    key c (inr h) q =
        let i : ℕ = c - 8 * g in
        let b : 8 + (8 * g + i) ≡ 8 + c = omega arith in
        splice_in (8 * g + 8) k zs ys room kept 0 (8 + c) i (omega arith) (omega arith)
        ∙ made i (omega arith)
        ∙ ap (λ (j : ℕ). sums (take j (drop (8 * g) ts)) (i + 1) % 2 ^ 32) is
        ∙ sym (from_group ts g i (omega arith))
        ∙ ap (node_from ts) b

-- all eight groups: all counters
pub groups_done : {ts xs : List ℕ} {g sum : ℕ} → Groups ts xs g sum → 8 ≤ g → (i : ℕ) → i < 72 → get_or xs i 0 ≡ node_from ts i
groups_done {ts} {xs} G h i l = go (lt_or i 8)
  where
    go : (i < 8) ⊎ (8 ≤ i) → get_or xs i 0 ≡ node_from ts i
    go (inl q) = G.summaries i (omega arith)
    go (inr q) =
        let e : 8 + (i - 8) ≡ i = omega arith in
        subst (λ (k : ℕ). get_or xs k 0 ≡ node_from ts k) e (G.keys (i - 8) (omega arith))

-- ---- tests
-- a test that failed, as the code asks it
decides_no : (b : Bool) (A : Type 0) → Decides b A → not b ≡ true → A → ⊥
decides_no b A d e = subst (λ (x : Bool). Decides x A) (not-true b e) d

-- and one that held
decides_yes : (b : Bool) (A : Type 0) → Decides b A → not b ≡ false → A
decides_yes b A d e = subst (λ (x : Bool). Decides x A) (not-false b e) d

-- ---- a level from its children's numbers
-- a node's children, by their numbers
pub children_are : (h : ℕ → ℕ) (ts : List ℕ) (j : ℕ) → length ts ≡ 64 → ((c : ℕ) → c < 64 → get_or ts c 0 ≡ h (64 * j + c)) → ts ≡ children_of h j
unfolding children_of
children_are h ts j size each =
    sym (list_of_is (λ c. h (64 * j + c)) 64 ts size (λ c l. sym (each c l)))

-- a node, as a part of the counters, compared with what is laid for these numbers
pub node_compared : (b : Bool) (ts xs ys : List ℕ) (at j k : ℕ) → k ≡ 72 → at + 72 * j + 72 ≤ length xs → length ys ≡ 72
    → ((i : ℕ) → i < 72 → get_or ys i 0 ≡ node_from ts i) → b ≡ pointwise eqb (take k (drop (at + 72 * j) xs)) ys → Decides b (NodeAt ts at j xs)
node_compared b ts xs ys at j k is room long made e = go b (slice_eq-Decides Decides-eqb part ys b e)
  where
    part : List ℕ
    part = take k (drop (at + 72 * j) xs)

    size : length part ≡ 72
    size = part_length xs (at + 72 * j) k (omega arith) ∙ is

    go : (b : Bool) → (b ≡ true → part ≡ ys) × (part ≡ ys → b ≡ true) → Decides b (NodeAt ts at j xs)
    go true d = λ i l. sym (part_at_lem xs (at + 72 * j) k 0 i (omega arith)) ∙ ap (λ (zs : List ℕ). get_or zs i 0) (d.0 refl) ∙ made i l
    go false d = λ a.
        true≢false
        (sym (d.1 (ext_get_or 0 part ys (size ∙ sym long)
        (λ i l. part_at_lem xs (at + 72 * j) k 0 i (omega (arith, size)) ∙ a i (omega (arith, size)) ∙ sym (made i (omega (arith, size)))))))

-- node n, whose children have the numbers ts
module _ (h : ℕ → ℕ) (ts : List ℕ) (n : ℕ) (are : ts ≡ children_of h n) where
  -- one node more
  level_more : (xs : List ℕ) (at : ℕ) → LevelFrom h xs at n → NodeAt ts at n xs → LevelFrom h xs at (n + 1)
  level_more xs at low here =
      below_more (λ j. NodeAt (children_of h j) at j xs) n low (subst (λ (us : List ℕ). NodeAt us at n xs) are here)

  -- one node more is laid
  pub level_built : {xs ys : List ℕ} {at : ℕ} → NodeBuilt ts at n xs ys → LevelFrom h xs at n → LevelFrom h ys at (n + 1)
  level_built {xs} {ys} {at} L low =
      level_more ys at (λ j l i q. L.under (at + 72 * j + i) (omega arith) ∙ low j l i q) L.inside

-- what stands after a node that is laid stays
pub level_keeps : (zs : List ℕ) (from : ℕ) {ts xs ys : List ℕ} {at n : ℕ} → NodeBuilt ts at n xs ys → at + 72 * n + 72 ≤ from
    → ((x : ℕ) → from ≤ x → get_or xs x 0 ≡ get_or zs x 0) → (x : ℕ) → from ≤ x → get_or ys x 0 ≡ get_or zs x 0
level_keeps zs from L l same x q = L.over x (omega arith) ∙ same x q

-- ---- the levels as defined
-- bits that are 0 from block n on
pub record Bounded (f : ℕ → ℕ) (n : ℕ) : Type 0 where
  pub small : (p : ℕ) → f p ≤ 1
  pub past : (p : ℕ) → 512 * n ≤ p → f p ≡ 0
  pub some : 0 < n
  pub few : n ≤ most_blocks

-- the bits of n blocks of words
pub bounded : (ws : List ℕ) (n : ℕ) → length ws ≡ 8 * n → 0 < n → n ≤ most_blocks → Bounded (bit_at ws) n
bounded ws n e p l = record { small = bit_at_le ws; past = (λ q h. bit_at_past ws q (omega arith)); some = p; few = l }

-- a node's counters, from its children's ones, are as defined
pub from_counter : (f : ℕ → ℕ) (n t j i : ℕ) → Bounded f n → i < 72 → node_from (children_of (child_ones f t) j) i ≡ counter f t j i
unfolding node_from children_of
from_counter f n t j i B h =
    ap (λ (s : ℕ). s % 2 ^ 32) (sum ∙ sym (counter_children f t j i)) ∙ mod-eq_of_lt
    (counter_lt f t j i h B.small (λ p l. B.past p (omega (arith, B.few))))
  where
    sum : ones (λ m. get_or (list_of (λ c. child_ones f t (64 * j + c)) 64) (from_child i + m) 0) (to_child i - from_child i)
        ≡ ones (λ m. child_ones f t (64 * j + from_child i + m)) (to_child i - from_child i)
    sum =
        sum_ext (λ m. get_or (list_of (λ c. child_ones f t (64 * j + c)) 64) (from_child i + m) 0) (λ m. child_ones f t (64 * j + from_child i + m))
        (to_child i - from_child i)
        (λ m l.
        get_or_list_of (λ c. child_ones f t (64 * j + c)) 64 (from_child i + m) (omega (arith, from_to_lem i h)) ∙ ap (child_ones f t) (omega arith))

-- over n blocks
module _ (f : ℕ → ℕ) (n : ℕ) (B : Bounded f n) where
  -- a child's ones are below 2 ^ 32
  child_ones_lt : (t m : ℕ) → child_ones f t m < 2 ^ 32
  child_ones_lt t m = omega (arith, prefix_suc f t m, ones_bound f (512 * n) (child_bits t * suc m) B.small B.past, B.few)

  -- the nodes of a level that fits hold the ones of the children of the next
  pub level_ones : (xs : List ℕ) (t m : ℕ) → LevelFits f n xs (suc t)
      → node_ones xs (start n (suc t)) (nodes n (suc t)) m ≡ child_ones f (suc (suc t)) m
  level_ones xs t m fits = go (lt_or m (nodes n (suc t)))
    where
      go : (m < nodes n (suc t)) ⊎ (nodes n (suc t) ≤ m) → node_ones xs (start n (suc t)) (nodes n (suc t)) m ≡ child_ones f (suc (suc t)) m
      go (inl l) =
          node_there xs (start n (suc t)) (nodes n (suc t)) m l
          ∙ ap₂ (λ (a b : ℕ). (a + b) % 2 ^ 32) (fit_at f n xs (suc t) fits m 7 l (lit< tt)) (fit_at f n xs (suc t) fits m 71 l (lit< tt))
          ∙ ap (λ (s : ℕ). s % 2 ^ 32) (counter_ones f t m)
          ∙ mod-eq_of_lt (child_ones_lt (suc (suc t)) m)
      go (inr l) =
          node_past xs (start n (suc t)) (nodes n (suc t)) m l
          ∙ sym (child_absent f n (suc t) m B.past l)

-- ---- the levels one above the other
-- the levels 1 to t of the words' blocks fit, and l is level t
pub record Upto (ws : List ℕ) (n : ℕ) (xs : List ℕ) (t : ℕ) (l : Level) : Type 0 where
  pub words : length ws ≡ 8 * n
  pub tree : TreeOver n xs
  pub place : LevelAt n t l
  pub right : (s : ℕ) → 1 ≤ s → s ≤ t → LevelFits (bit_at ws) n xs s

-- no level yet
pub upto_none : (ws : List ℕ) (n : ℕ) (xs : List ℕ) → length ws ≡ 8 * n → TreeOver n xs
    → Upto ws n xs 0 (record { count = n; start = length xs })
upto_none ws n xs words T =
    record { words = words; tree = T; place = level_blocks n _ refl T.size; right = λ s a b. absurd (omega arith) }

module _ {ws : List ℕ} {n : ℕ} {xs : List ℕ} {t : ℕ} {l : Level} (U : Upto ws n xs t l) where
  -- the words' bits
  pub upto_bits : Bounded (bit_at ws) n
  upto_bits = bounded ws n U.words U.tree.some U.tree.few

  -- the nodes of level t hold the ones of the children of the next level
  upto_children : (m : ℕ) → child_holds ws xs t l m ≡ child_ones (bit_at ws) (t + 1) m
  upto_children m = go t U.place U.right ∙ ap (λ (k : ℕ). child_ones (bit_at ws) k m) (sym (add-one t))
    where
      go : (s : ℕ) → LevelAt n s l → ((k : ℕ) → 1 ≤ k → k ≤ s → LevelFits (bit_at ws) n xs k) → child_holds ws xs s l m ≡ child_ones (bit_at ws) (suc s) m
      go zero L right = child_first ws xs l m
      go (suc s) L right =
          child_node ws xs s l m
          ∙ ap₂ (λ (a c : ℕ). node_ones xs a c m) L.starts L.counted
          ∙ level_ones (bit_at ws) n upto_bits xs s m (right (suc s) (omega arith) (le_refl (suc s)))

  -- there is a next level
  module _ (lower : t < height n) where
    -- there is room for it
    pub upto_room : RoomAbove l
    upto_room = (level_few U.place U.tree, (level_room U.place lower).0)

    -- level t starts within the counters
    upto_start : l.start ≤ length xs
    upto_start = omega (arith, (level_room U.place lower).1, U.tree.size)

    -- and can be read
    upto_readable : Readable ws xs t l
    upto_readable =
        record {
          few = level_few U.place U.tree;
          blocks = (λ z. omega (arith, U.words, U.place.counted, ap (nodes n) z, nodes_zero n));
          nodes = (λ h. omega (arith, U.tree.size, U.place.counted, U.place.starts, start_before n 0 t (omega arith) (omega arith), start_zero n));
        }

    -- the next level is r
    module _ {r : Level} (A : Above l r) where
      -- it can be laid or compared
      pub upto_next : Ready ws xs t l r
      upto_next = (upto_readable, A, upto_start)

      next : LevelAt n (t + 1) r
      next = level_next U.place lower A

      -- its counters, from its children's ones, stand where they are defined
      next_counter : (j i : ℕ) → i < 72
          → (index_of n (t + 1) j i ≡ r.start + 72 * j + i) × (node_from (children_of (child_holds ws xs t l) j) i ≡ counter (bit_at ws) (t + 1) j i)
      next_counter j i h = (
        omega (arith, index_is n (t + 1) j i, next.starts),
        ap (λ (g : ℕ → ℕ). node_from (children_of g j) i) (fun_ext upto_children) ∙ from_counter (bit_at ws) n (t + 1) j i upto_bits h,
      )

      -- laid from its children's ones it fits
      next_fits : (ys : List ℕ) → LevelFrom (child_holds ws xs t l) ys r.start r.count → LevelFits (bit_at ws) n ys (t + 1)
      next_fits ys built j i there h =
          ap (λ (x : ℕ). get_or ys x 0) (next_counter j i h).0 ∙ built j (omega (arith, next.counted)) i h ∙ (next_counter j i h).1

      -- it is laid
      pub upto_more : (ys : List ℕ) → length ys ≡ length xs → LevelBuilt (child_holds ws xs t l) r xs ys → Upto ws n ys (t + 1) r
      upto_more ys long B =
          record { words = U.words; tree = tree; place = next; right = λ s a b. level s a (lt_or t s) b }
        where
          tree : TreeOver n ys
          tree = record { size = long ∙ U.tree.size; some = U.tree.some; few = U.tree.few }

          level : (s : ℕ) → 1 ≤ s → (t < s) ⊎ (s ≤ t) → s ≤ t + 1 → LevelFits (bit_at ws) n ys s
          level s a (inl q) b = subst (LevelFits (bit_at ws) n ys) (omega arith) (next_fits ys B.built)
          level s a (inr q) b =
              let after : l.start ≤ start n s = omega (arith, U.place.starts, total_mono n q) in
              λ j i m h. B.over (index_of n s j i) (omega (arith, index_is n s j i, A.ends)) ∙ U.right s a q j i m h

      -- it is compared
      module _ (b : Bool) (d : Decides b (LevelFrom (child_holds ws xs t l) xs r.start r.count)) where
        -- and is not as laid
        pub more_no : not b ≡ true → AllFit (bit_at ws) n xs → ⊥
        more_no u fits =
            decides_no b (LevelFrom (child_holds ws xs t l) xs r.start r.count) d u
            (λ j there i h.
            ap (λ (x : ℕ). get_or xs x 0) (sym (next_counter j i h).0)
            ∙ fits (t + 1) j i (omega arith) (omega arith) (omega (arith, next.counted)) h
            ∙ sym (next_counter j i h).1)

        -- and is as laid
        pub more_yes : not b ≡ false → Upto ws n xs (t + 1) r
        more_yes u =
            upto_more xs refl
            (record { built = decides_yes b (LevelFrom (child_holds ws xs t l) xs r.start r.count) d u; over = λ x h. refl })

  -- level t is the root's: all levels fit
  pub upto_all : height n ≤ t → AllFit (bit_at ws) n xs
  upto_all top s j i a b q h = U.right s a (omega arith) j i q h
