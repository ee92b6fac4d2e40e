-- The laws of the tree's shape: nodes, levels, height, child sizes, where a counter stands, and a counter as a difference of prefix sums.
-- Assumes nothing.
use Rattle.std.proofs.Common.{◌≡◌, ℕ, zero, suc, ◌+◌, ◌-◌, ◌*◌, ◌/◌, ◌%◌, ◌^◌, ◌<◌, ◌≤◌, Bool, true, false, cond, ltb, leb, ◌⊎◌, List, sym, refl, ap, ◌∙◌, subst, ap₂, inl, inr, le_refl, mul_assoc, mul_comm, mul-le-mul_left, pow-suc, mul-zero, div-one, add-one, arith, lit<, lit≤, le-ltb, lt-ltb, le-leb}
use native.Mathlib.Nat.{div-div-eq-div-mul, add-mul-div_left}
use borrow.Author.Tests.{lt-leb}
use Rattle.words.specs.Bits.{ones}
use Rattle.words.proofs.Sums.{lt_or, sum_zero, sum_suc, sum_split, sum_mono, sum_none}
use Rattle.counters.specs.declared.shape.Level.{Level}
use Rattle.counters.specs.declared.shape.Climb.{Climb}
use Rattle.counters.specs.declared.shape.Rise.{Rise}
use Rattle.counters.specs.Working.{most_blocks, TreeOver, nodes_over, RoomAbove, Above, Up}
use Rattle.counters.specs.Tree.{nodes, height, child_bits, child_ones, children_ones, summary, key, counter, from_child, to_child, total, counter_count, index_of, child_of}

-- ---- powers of 64
pub pow64_pos : (t : ℕ) → 0 < 64 ^ t
pow64_pos zero = lit< tt
pow64_pos (suc t) = rw pow-suc (omega (arith, pow64_pos t))

-- ---- nodes of a level
pub nodes_zero : (n : ℕ) → nodes n 0 ≡ n
unfolding nodes
nodes_zero n = div-one (n + 0) ∙ omega arith

-- a level has the nodes of the one below divided by 64, rounded up
pub nodes_suc : (n t : ℕ) → nodes n (suc t) ≡ nodes_over (nodes n t)
unfolding nodes
nodes_suc n t =
    let m : ℕ = 64 ^ t in
    let p : 0 < m = pow64_pos t in
    let e : n + (m * 64 - 1) ≡ (n + (m - 1)) + m * 63 = omega arith in
    ap (λ (x : ℕ). (n + (x - 1)) / x) (pow-suc 64 t)
    ∙ sym (div-div-eq-div-mul (n + (m * 64 - 1)) m 64)
    ∙ ap (λ (x : ℕ). x / m / 64) e
    ∙ ap (λ (x : ℕ). x / 64) (add-mul-div_left (n + (m - 1)) 63 p)

-- as the code writes it
pub nodes_more : (n t : ℕ) → nodes n (t + 1) ≡ nodes_over (nodes n t)
nodes_more n t = ap (nodes n) (add-one t) ∙ nodes_suc n t

-- no more nodes than blocks, and at least one over a block
pub nodes_le : (n t : ℕ) → 0 < n → nodes n t ≤ n
nodes_le n zero h = omega (arith, nodes_zero n)
nodes_le n (suc t) h = omega (arith, nodes_suc n t, nodes_le n t h)

pub nodes_pos : (n t : ℕ) → 0 < n → 0 < nodes n t
nodes_pos n zero h = omega (arith, nodes_zero n)
nodes_pos n (suc t) h = omega (arith, nodes_suc n t, nodes_pos n t h)

-- ---- the height
pub height_is : (n : ℕ) → height n ≡ cond (leb n 64) 1 (cond (leb n 4096) 2 3)
unfolding height
height_is n = refl

-- the height by the number of blocks
pub height_one : (n : ℕ) → n ≤ 64 → height n ≡ 1
height_one n h = height_is n ∙ simp (le-leb n 64 h)

pub height_two : (n : ℕ) → 64 < n → n ≤ 4096 → height n ≡ 2
height_two n h l = height_is n ∙ simp (lt-leb n 64 h, le-leb n 4096 l)

pub height_three : (n : ℕ) → 4096 < n → height n ≡ 3
height_three n h = let g : 64 < n = omega arith in height_is n ∙ simp (lt-leb n 64 g, lt-leb n 4096 h)

-- a fact of each height is a fact
by_height : (P : ℕ → Type 0) (n : ℕ) → (n ≤ 64 → P 1) → (64 < n → n ≤ 4096 → P 2) → (4096 < n → P 3) → P (height n)
by_height P n a b c = go (lt_or 64 n) (lt_or 4096 n)
  where
    go : (64 < n) ⊎ (n ≤ 64) → (4096 < n) ⊎ (n ≤ 4096) → P (height n)
    go (inr l) m = subst P (sym (height_one n l)) (a l)
    go (inl l) (inr m) = subst P (sym (height_two n l m)) (b l m)
    go (inl l) (inl m) = subst P (sym (height_three n m)) (c m)

pub height_pos : (n : ℕ) → 1 ≤ height n
height_pos n = by_height (λ h. 1 ≤ h) n (λ l. lit≤ tt) (λ l m. lit≤ tt) (λ l. lit≤ tt)

pub height_le : (n : ℕ) → height n ≤ 3
height_le n = by_height (λ h. h ≤ 3) n (λ l. lit≤ tt) (λ l m. lit≤ tt) (λ l. lit≤ tt)

-- 64^h is at least the number of blocks
pub height_enough : (n : ℕ) → n ≤ most_blocks → n ≤ 64 ^ height n
height_enough n h = by_height (λ k. n ≤ 64 ^ k) n (λ l. l) (λ l m. m) (λ l. h)

-- and h is the least of 1, 2, 3 for which it is
pub height_least : (n k : ℕ) → 1 ≤ k → n ≤ 64 ^ k → height n ≤ k
height_least n k h l = by_height (λ t. t ≤ k) n (λ a. h) two three
  where
    two : 64 < n → n ≤ 4096 → 2 ≤ k
    two a b = go k h l
      where
        go : (m : ℕ) → 1 ≤ m → n ≤ 64 ^ m → 2 ≤ m
        go zero p q = absurd (omega arith)
        go (suc zero) p q = absurd (omega arith)
        go (suc (suc m)) p q = omega arith

    three : 4096 < n → 3 ≤ k
    three a = go k h l
      where
        go : (m : ℕ) → 1 ≤ m → n ≤ 64 ^ m → 3 ≤ m
        go zero p q = absurd (omega arith)
        go (suc zero) p q = absurd (omega arith)
        go (suc (suc zero)) p q = absurd (omega arith)
        go (suc (suc (suc m))) p q = omega arith

-- the top level is the root alone
pub nodes_root : (n : ℕ) {xs : List ℕ} → TreeOver n xs → nodes n (height n) ≡ 1
nodes_root n T =
    let one = nodes_suc n 0 in
    let two = nodes_suc n 1 in
    let three = nodes_suc n 2 in
    by_height (λ k. nodes n k ≡ 1) n (λ l. omega (arith, one, nodes_zero n, T.some)) (λ l m. omega (arith, two, one, nodes_zero n, T.some))
    (λ l. omega (arith, three, two, one, nodes_zero n, T.some, T.few))

-- ---- the nodes of the levels 1 to t
pub total_zero : (n : ℕ) → total n 0 ≡ 0
unfolding total
total_zero n = sum_zero (λ s. nodes n (s + 1))

pub total_suc : (n t : ℕ) → total n (suc t) ≡ total n t + nodes n (suc t)
unfolding total
total_suc n t = sum_suc (λ s. nodes n (s + 1)) t ∙ ap (λ (k : ℕ). ones (λ s. nodes n (s + 1)) t + nodes n k) (add-one t)

pub total_more : (n t : ℕ) → total n (t + 1) ≡ total n t + nodes n (t + 1)
total_more n t = ap (total n) (add-one t) ∙ total_suc n t ∙ ap (λ (k : ℕ). total n t + nodes n k) (sym (add-one t))

pub total_mono : (n : ℕ) {a b : ℕ} → a ≤ b → total n a ≤ total n b
unfolding total
total_mono n h = sum_mono (λ s. nodes n (s + 1)) h

-- ---- the bits of a child
pub child_bits_one : child_bits 1 ≡ 512
unfolding child_bits
child_bits_one = refl

pub child_bits_suc : (t : ℕ) → child_bits (suc (suc t)) ≡ 64 * child_bits (suc t)
unfolding child_bits
child_bits_suc t =
    let a : suc (suc t) - 1 ≡ suc t = omega arith in
    let b : suc t - 1 ≡ t = omega arith in
    ap (λ (e : ℕ). 512 * 64 ^ e) a ∙ ap (λ (m : ℕ). 512 * m) (pow-suc 64 t) ∙ omega (arith, ap (λ (e : ℕ). 512 * 64 ^ e) b)

pub child_bits_pos : (t : ℕ) → 0 < child_bits (suc t)
child_bits_pos zero = rw child_bits_one (lit< tt)
child_bits_pos (suc t) = omega (arith, child_bits_suc t, child_bits_pos t)

-- the child that a stroke lies in: at level 1 its block, and above that the node of the child below
pub child_of_one : (p : ℕ) → child_of 1 p ≡ p / 512
child_of_one p = ap (λ (b : ℕ). p / b) child_bits_one

pub child_of_suc : (t p : ℕ) → child_of (suc (suc t)) p ≡ child_of (suc t) p / 64
child_of_suc t p =
    ap (λ (b : ℕ). p / b) (child_bits_suc t ∙ mul_comm 64 (child_bits (suc t))) ∙ sym (div-div-eq-div-mul p (child_bits (suc t)) 64)

-- 512 n bits reach no further than the nodes of a level
pub nodes_cover : (n t : ℕ) → 512 * n ≤ child_bits (suc t) * nodes n t
nodes_cover n zero = omega (arith, ap₂ (λ (a b : ℕ). a * b) child_bits_one (nodes_zero n))
nodes_cover n (suc t) =
    let b : ℕ = child_bits (suc t) in
    let up : nodes n t ≤ 64 * nodes n (suc t) = omega (arith, nodes_suc n t) in
    let e : child_bits (suc (suc t)) * nodes n (suc t) ≡ b * (64 * nodes n (suc t)) =
    ap (λ (x : ℕ). x * nodes n (suc t)) (child_bits_suc t ∙ mul_comm 64 b) ∙ mul_assoc b 64 (nodes n (suc t)) in
    omega (arith, nodes_cover n t, mul-le-mul_left b up, e)

-- an absent child counts 0: a child of level t + 1 past the nodes of level t, or past the blocks for t = 0, where f is 0 from block n on
pub child_absent : (f : ℕ → ℕ) (n t m : ℕ) → ((p : ℕ) → 512 * n ≤ p → f p ≡ 0) → nodes n t ≤ m → child_ones f (suc t) m ≡ 0
unfolding child_ones
child_absent f n t m past h =
    let b : ℕ = child_bits (suc t) in
    let l : 512 * n ≤ b * m = omega (arith, nodes_cover n t, mul-le-mul_left b h) in
    sum_none (λ p. f (b * m + p)) b (λ p q. past (b * m + p) (omega arith))

-- the root covers every block
pub root_covers : (n : ℕ) → n ≤ most_blocks → 512 * n ≤ child_bits (suc (height n))
unfolding child_bits
root_covers n h =
    let e : suc (height n) - 1 ≡ height n = omega arith in
    subst (λ (x : ℕ). 512 * n ≤ 512 * 64 ^ x) (sym e) (mul-le-mul_left 512 (height_enough n h))

-- ---- prefix sums: the ones in the first m children of level t
abbrev pub prefix : (ℕ → ℕ) → ℕ → ℕ → ℕ
prefix f t m = ones f (child_bits t * m)

pub prefix_zero : (f : ℕ → ℕ) (t : ℕ) → prefix f t 0 ≡ 0
prefix_zero f t = ap (ones f) (mul-zero (child_bits t)) ∙ sum_zero f

-- one level up, a child is 64 of those below
pub prefix_up : (f : ℕ → ℕ) (t m : ℕ) → prefix f (suc (suc t)) m ≡ prefix f (suc t) (64 * m)
prefix_up f t m =
    ap (λ (b : ℕ). ones f (b * m)) (child_bits_suc t ∙ mul_comm 64 (child_bits (suc t))) ∙ ap (ones f) (mul_assoc (child_bits (suc t)) 64 m)

pub prefix_mono : (f : ℕ → ℕ) (t : ℕ) (a b : ℕ) → a ≤ b → prefix f t a ≤ prefix f t b
prefix_mono f t a b h = sum_mono f (mul-le-mul_left (child_bits t) h)

-- one more child
pub prefix_suc : (f : ℕ → ℕ) (t m : ℕ) → prefix f t (suc m) ≡ prefix f t m + child_ones f t m
unfolding child_ones
prefix_suc f t m =
    ap (ones f) (native.Mathlib.Nat.mul-suc (child_bits t) m) ∙ sum_split f (child_bits t * m) (child_bits t)

-- k children from a on
pub children_ones_lem : (f : ℕ → ℕ) (t a k : ℕ) → ones (λ m. child_ones f t (a + m)) k + prefix f t a ≡ prefix f t (a + k)
children_ones_lem f t a zero = omega (arith, sum_zero (λ m. child_ones f t (a + m)), ap (prefix f t) (native.Mathlib.Nat.add-zero a))
children_ones_lem f t a (suc k) =
    omega (arith, sum_suc (λ m. child_ones f t (a + m)) k, children_ones_lem f t a k, prefix_suc f t (a + k), ap (prefix f t) (native.Mathlib.Nat.add-suc a k))

-- ---- the children that a counter counts
pub from_summary : (i : ℕ) → i < 8 → from_child i ≡ 0
unfolding from_child
from_summary i h = simp (lt-ltb i 8 h)

pub to_summary : (i : ℕ) → i < 8 → to_child i ≡ 8 * i
unfolding to_child
to_summary i h = simp (lt-ltb i 8 h)

pub from_key : (c : ℕ) → from_child (8 + c) ≡ 8 * (c / 8)
unfolding from_child
from_key c =
    let l : 8 ≤ 8 + c = omega arith in
    let e : 8 + c - 8 ≡ c = omega arith in
    simp (le-ltb (8 + c) 8 l) (ap (λ (x : ℕ). 8 * (x / 8)) e)

pub to_key : (c : ℕ) → to_child (8 + c) ≡ c + 1
unfolding to_child
to_key c =
    let l : 8 ≤ 8 + c = omega arith in
    let e : 8 + c - 8 ≡ c = omega arith in
    simp (le-ltb (8 + c) 8 l) (ap (λ (x : ℕ). x + 1) e)

-- in order, and within the node
pub from_to_lem : (i : ℕ) → i < 72 → (from_child i ≤ to_child i) × (to_child i ≤ 64)
from_to_lem i h = go (lt_or i 8)
  where
    go : (i < 8) ⊎ (8 ≤ i) → (from_child i ≤ to_child i) × (to_child i ≤ 64)
    go (inl l) = omega (arith, from_summary i l, to_summary i l)
    go (inr l) =
        let e : 8 + (i - 8) ≡ i = omega arith in
        omega (arith, from_key (i - 8), to_key (i - 8), ap from_child e, ap to_child e)

-- a counter is the ones in its children
pub counter_children : (f : ℕ → ℕ) (t j i : ℕ) → counter f t j i ≡ children_ones f t j (from_child i) (to_child i)
unfolding counter summary key from_child to_child
counter_children f t j i = go (ltb i 8)
  where
    go : (b : Bool) → cond b (children_ones f t j 0 (8 * i)) (children_ones f t j (8 * ((i - 8) / 8)) (i - 8 + 1))
        ≡ children_ones f t j (cond b 0 (8 * ((i - 8) / 8))) (cond b (8 * i) (i - 8 + 1))
    go true = refl
    go false = refl

-- a counter, with the ones before its children, is the ones up to their end
pub counter_prefix : (f : ℕ → ℕ) (t j i : ℕ) → i < 72 → counter f t j i + prefix f t (64 * j + from_child i) ≡ prefix f t (64 * j + to_child i)
counter_prefix f t j i h =
    let e : 64 * j + from_child i + (to_child i - from_child i) ≡ 64 * j + to_child i = omega (arith, (from_to_lem i h).0) in
    ap (λ (x : ℕ). x + prefix f t (64 * j + from_child i)) (counter_children f t j i)
    ∙ children_ones_lem f t (64 * j + from_child i) (to_child i - from_child i)
    ∙ ap (prefix f t) e

-- ---- where a counter stands
-- the first counter of level t
abbrev pub start : ℕ → ℕ → ℕ
start n t = 72 * (total n (height n) - total n t)

pub index_is : (n t j i : ℕ) → index_of n t j i ≡ start n t + 72 * j + i
unfolding index_of
index_is n t j i = refl

-- a level ends where the one below starts
pub start_next : (n t : ℕ) → suc t ≤ height n → start n (suc t) + 72 * nodes n (suc t) ≡ start n t
start_next n t h = omega (arith, total_suc n t, total_mono n h)

pub start_zero : (n : ℕ) → start n 0 ≡ counter_count n
start_zero n = omega (arith, total_zero n)

-- l is level t; the blocks are level 0
pub record LevelAt (n t : ℕ) (l : Level) : Type 0 where
  pub counted : l.count ≡ nodes n t
  pub starts : l.start ≡ start n t

-- the blocks end where the counters do
pub level_blocks : (n : ℕ) (l : Level) → l.count ≡ n → l.start ≡ counter_count n → LevelAt n 0 l
level_blocks n l e f = record { counted = e ∙ sym (nodes_zero n); starts = f ∙ sym (start_zero n) }

-- no more nodes than blocks
pub level_few : {n t : ℕ} {l : Level} {xs : List ℕ} → LevelAt n t l → TreeOver n xs → l.count ≤ most_blocks
level_few {n} {t} L T = omega (arith, L.counted, nodes_le n t T.some, T.few)

-- below the root there is a level above
module _ {n t : ℕ} {l : Level} (L : LevelAt n t l) (lower : t < height n) where
  -- it ends where this one starts
  level_ends : start n (t + 1) + 72 * nodes_over l.count ≡ l.start
  level_ends = omega (arith, L.counted, L.starts, nodes_suc n t, start_next n t lower, ap (start n) (add-one t))

  -- there is room for it before this one
  pub level_room : (72 * nodes_over l.count ≤ l.start) × (l.start ≤ counter_count n)
  level_room = omega (arith, level_ends, L.starts)

  -- its nodes and its start
  pub level_next : {r : Level} → Above l r → LevelAt n (t + 1) r
  level_next A =
      record {
        counted = A.counted ∙ ap (λ (m : ℕ). nodes_over m) L.counted ∙ sym (nodes_more n t);
        starts = omega (arith, level_ends, A.counted, A.ends);
      }

-- c stands at a node of level t
pub record ClimbAt (n t : ℕ) (c : Climb) : Type 0 where
  pub level : LevelAt n t c.level
  pub there : c.node < c.level.count

-- at a block
pub climb_block : (n end block : ℕ) (c : Climb) → end ≡ counter_count n → block < n → (c.level.count ≡ n) × (c.level.start ≡ end) × (c.node ≡ block)
    → ClimbAt n 0 c
climb_block n end block c e l f = record { level = level_blocks n c.level f.0 (f.1 ∙ e); there = omega (arith, f) }

-- and goes on, below the root
module _ {n t : ℕ} {c : Climb} (C : ClimbAt n t c) (lower : t < height n) where
  -- one level up
  pub climb_ready : {xs : List ℕ} → TreeOver n xs → RoomAbove c.level × (c.node < c.level.count)
  climb_ready T = ((level_few C.level T, (level_room C.level lower).0), C.there)

  module _ {r : Rise} (U : Up c r) where
    -- to a node of that level
    pub climb_up : ClimbAt n (t + 1) r.climb
    climb_up = record { level = level_next C.level lower U.level; there = omega (arith, C.there, U.node_is, U.level.counted) }

    -- whose counters are there
    pub climb_room : r.at + 72 ≤ counter_count n
    climb_room = omega (arith, climb_up.there, U.at_is, U.level.ends, (level_room C.level lower).1)

-- within the counters
pub index_lt : (n t j i : ℕ) → 1 ≤ t → t ≤ height n → j < nodes n t → i < 72 → index_of n t j i < counter_count n
index_lt n zero j i a b c d = absurd (omega arith)
index_lt n (suc t) j i a b c d = omega (arith, index_is n (suc t) j i, start_next n t b)

-- the root is there
pub root_there : (n : ℕ) {xs : List ℕ} → TreeOver n xs → 72 ≤ counter_count n
root_there n T =
    let j : 0 < nodes n (height n) = omega (arith, nodes_root n T) in
    omega (arith, index_lt n (height n) 0 71 (height_pos n) (le_refl (height n)) j (lit< tt), index_is n (height n) 0 71)

-- a level above stands before
pub start_before : (n s t : ℕ) → s < t → t ≤ height n → start n t + 72 * nodes n t ≤ start n s
start_before n s zero l h = absurd (omega arith)
start_before n s (suc t) l h =
    let m : s ≤ t = omega arith in
    let o : t ≤ height n = omega arith in
    omega (arith, start_next n t h, total_mono n m, total_mono n o)

-- two counters that stand at one place are one
pub index_one : (n t j i s k m : ℕ) → 1 ≤ t → t ≤ height n → j < nodes n t → i < 72 → 1 ≤ s → s ≤ height n → k < nodes n s → m < 72
    → index_of n t j i ≡ index_of n s k m → (t ≡ s) × ((j ≡ k) × (i ≡ m))
index_one n t j i s k m a b c d a' b' c' d' e = go (lt_or t s) (lt_or s t)
  where
    e2 : start n t + 72 * j + i ≡ start n s + 72 * k + m
    e2 = sym (index_is n t j i) ∙ e ∙ index_is n s k m

    go : (t < s) ⊎ (s ≤ t) → (s < t) ⊎ (t ≤ s) → (t ≡ s) × ((j ≡ k) × (i ≡ m))
    go (inl l) q = absurd (omega (arith, e2, start_before n t s l b'))
    go (inr l) (inl q) = absurd (omega (arith, e2, start_before n s t q b))
    go (inr l) (inr q) =
        let st : t ≡ s = omega arith in
        let same : start n t ≡ start n s = ap (start n) st in
        (st, (omega (arith, e2, same), omega (arith, e2, same)))

-- every place below the number of counters is some counter's
pub index_cover : (n x : ℕ) → x < counter_count n
    → (t : ℕ) × ((j : ℕ) × ((i : ℕ) × ((1 ≤ t) × ((t ≤ height n) × ((j < nodes n t) × ((i < 72) × (x ≡ index_of n t j i)))))))
index_cover n x h = go (height n) (le_refl (height n)) (omega arith)
  where
    level : (t : ℕ) → suc t ≤ height n → start n (suc t) ≤ x → x < start n t
        → (t : ℕ) × ((j : ℕ) × ((i : ℕ) × ((1 ≤ t) × ((t ≤ height n) × ((j < nodes n t) × ((i < 72) × (x ≡ index_of n t j i)))))))
    level t b lo hi =
        let y : ℕ = x - start n (suc t) in
        (suc t, (y / 72, (y % 72, (omega arith, (b, (omega (arith, start_next n t b), (omega arith, omega (arith, index_is n (suc t) (y / 72) (y % 72)))))))))

    go : (t : ℕ) → t ≤ height n → start n t ≤ x
        → (t : ℕ) × ((j : ℕ) × ((i : ℕ) × ((1 ≤ t) × ((t ≤ height n) × ((j < nodes n t) × ((i < 72) × (x ≡ index_of n t j i)))))))
    go zero b lo = absurd (omega (arith, start_zero n))
    go (suc t) b lo = pick (lt_or x (start n t)) (go t (omega arith))
      where
        pick : (x < start n t) ⊎ (start n t ≤ x)
            → (start n t ≤ x → (t : ℕ) × ((j : ℕ) × ((i : ℕ) × ((1 ≤ t) × ((t ≤ height n) × ((j < nodes n t) × ((i < 72) × (x ≡ index_of n t j i))))))))
            → (t : ℕ) × ((j : ℕ) × ((i : ℕ) × ((1 ≤ t) × ((t ≤ height n) × ((j < nodes n t) × ((i < 72) × (x ≡ index_of n t j i)))))))
        pick (inl l) ih = level t b lo l
        pick (inr l) ih = ih l
