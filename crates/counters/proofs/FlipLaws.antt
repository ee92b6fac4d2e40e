-- One bit more: the prefix sums and the counters that change, each by one, and how many they are. Assumes nothing.
use Rattle.std.proofs.Common.{◌≡◌, ℕ, zero, suc, ◌+◌, ◌-◌, ◌*◌, ◌/◌, ◌%◌, ◌<◌, ◌≤◌, Bool, true, false, cond, ◌&&◌, eqb, ltb, leb, ◌⊎◌, sym, refl, ap, ◌∙◌, ap₂, inl, inr, le_refl, mul_comm, div-lt_iff_lt-mul, mul-zero, le-div_iff_mul-le, mul-suc, arith, le-ltb, lt-ltb, eq-eqb, ne_eqb, eqb-true, le-leb}
use borrow.Author.Tests.{lt-leb, eqb-false}
use Rattle.words.specs.Bits.{ones}
use Rattle.words.proofs.Sums.{lt_or, sum_zero, sum_suc, sum_split, sum_ext, sum_most, sum_none, sum_outside, sum_range}
use Rattle.words.proofs.BoolLaws.{and_intro}
use Rattle.counters.specs.Tree.{nodes, height, child_bits, from_child, to_child, counter, child_of, slot, counts, change_count}
use Rattle.counters.proofs.TreeLaws.{child_bits_pos, child_of_suc, height_le, nodes_cover, prefix, counter_prefix, from_summary, to_summary, from_key, to_key, from_to_lem}

-- ---- one bit more
-- g has one more than f at p, and is f elsewhere
pub record OneMore (f g : ℕ → ℕ) (p : ℕ) : Type 0 where
  pub up : g p ≡ f p + 1
  pub else : (q : ℕ) → (q ≡ p → ⊥) → g q ≡ f q

-- the sums past p are one more, and the others as they were
pub ones_flip : {f g : ℕ → ℕ} {p : ℕ} → OneMore f g p → (n : ℕ) → ones g n ≡ ones f n + cond (ltb p n) 1 0
ones_flip {f} {g} {p} h n = go (lt_or p n)
  where
    go : (p < n) ⊎ (n ≤ p) → ones g n ≡ ones f n + cond (ltb p n) 1 0
    go (inl l) =
        let o = sum_outside g f p (suc p) n (omega arith) l (λ q k. h.else q (λ e. omega arith)) (λ q k u. h.else q (λ e. omega arith)) in
        rw (lt-ltb p n l) (omega (arith, o.0, o.1, sum_suc f p, sum_suc g p, h.up))
    go (inr l) = rw (le-ltb p n l) (sum_ext g f n (λ q k. h.else q (λ e. omega arith)) ∙ omega arith)

-- a stroke lies below the end of m children when its child is below m
pub child_below : (t p m : ℕ) → ltb p (child_bits (suc t) * m) ≡ ltb (child_of (suc t) p) m
child_below t p m = go (lt_or (child_of (suc t) p) m)
  where
    b : ℕ
    b = child_bits (suc t)

    go : (p / b < m) ⊎ (m ≤ p / b) → ltb p (b * m) ≡ ltb (p / b) m
    go (inl l) = lt-ltb p (b * m) (rw (mul_comm b m) ((div-lt_iff_lt-mul (child_bits_pos t)).0 l)) ∙ sym (lt-ltb (p / b) m l)
    go (inr l) = le-ltb p (b * m) (rw (mul_comm b m) ((le-div_iff_mul-le (child_bits_pos t)).0 l)) ∙ sym (le-ltb (p / b) m l)

-- of the prefix sums over children, those past the stroke's child are one more
pub prefix_flip : {f g : ℕ → ℕ} {p : ℕ} → OneMore f g p → (t m : ℕ)
    → prefix g (suc t) m ≡ prefix f (suc t) m + cond (ltb (child_of (suc t) p) m) 1 0
prefix_flip {f} {g} {p} h t m =
    ones_flip h (child_bits (suc t) * m) ∙ ap (λ (b : Bool). prefix f (suc t) m + cond b 1 0) (child_below t p m)

-- ---- a number and two ends
-- it is between them
pub between_in : (a b c : ℕ) → a ≤ c → c < b → (leb a c && ltb c b) ≡ true
between_in a b c h l = and_intro (le-leb a c h) (lt-ltb c b l)

-- or before the lower
pub between_before : (a b c : ℕ) → c < a → (leb a c && ltb c b) ≡ false
between_before a b c h = rw (lt-leb a c h)

-- or past the upper
pub between_past : (a b c : ℕ) → b ≤ c → (leb a c && ltb c b) ≡ false
between_past a b c h = go (leb a c) (le-ltb c b h)
  where
    go : (t : Bool) {u : Bool} → u ≡ false → (t && u) ≡ false
    go true e = e
    go false e = refl

-- ---- the counters that count a stroke
-- its child is one of those that the counter gives
pub counts_in : (t j i p : ℕ) → 64 * j + from_child i ≤ child_of t p → child_of t p < 64 * j + to_child i → counts t j i p ≡ true
unfolding counts
counts_in t j i p a b = between_in (64 * j + from_child i) (64 * j + to_child i) (child_of t p) a b

-- its child is before them
pub counts_before : (t j i p : ℕ) → child_of t p < 64 * j + from_child i → counts t j i p ≡ false
unfolding counts
counts_before t j i p a = between_before (64 * j + from_child i) (64 * j + to_child i) (child_of t p) a

-- its child is past them
pub counts_past : (t j i p : ℕ) → 64 * j + to_child i ≤ child_of t p → counts t j i p ≡ false
unfolding counts
counts_past t j i p a = between_past (64 * j + from_child i) (64 * j + to_child i) (child_of t p) a

-- a test between two ends is the test at the upper less that at the lower
between_test : (a b c : ℕ) → a ≤ b → cond (leb a c && ltb c b) 1 0 + cond (ltb c a) 1 0 ≡ cond (ltb c b) 1 0
between_test a b c h = go (lt_or c a) (lt_or c b)
  where
    go : (c < a) ⊎ (a ≤ c) → (c < b) ⊎ (b ≤ c) → cond (leb a c && ltb c b) 1 0 + cond (ltb c a) 1 0 ≡ cond (ltb c b) 1 0
    go (inl l) (inl u) = simp (lt-leb a c l, lt-ltb c a l, lt-ltb c b u)
    go (inl l) (inr u) = absurd (omega arith)
    go (inr l) (inl u) = simp (le-leb a c l, le-ltb c a l, lt-ltb c b u)
    go (inr l) (inr u) = simp (le-leb a c l, le-ltb c a l, le-ltb c b u)

-- exactly the counters that count the stroke change, each by one
pub counter_flip : {f g : ℕ → ℕ} {p : ℕ} → OneMore f g p → (t j i : ℕ) → 1 ≤ t → i < 72
    → counter g t j i ≡ counter f t j i + cond (counts t j i p) 1 0
unfolding counts
counter_flip h zero j i a l = absurd (omega arith)
counter_flip {f} {g} {p} h (suc t) j i a l =
    let lo : ℕ = 64 * j + from_child i in
    let hi : ℕ = 64 * j + to_child i in
    let test = between_test lo hi (child_of (suc t) p) (omega (arith, (from_to_lem i l).0)) in
    omega (arith, counter_prefix f (suc t) j i l, counter_prefix g (suc t) j i l, prefix_flip h t lo, prefix_flip h t hi, test)

-- ---- how many counters of a node count a stroke
-- a sum that is 1 from a to e - 1, and 0 elsewhere
ones_between : (f : ℕ → ℕ) (a e n : ℕ) → a ≤ e → e ≤ n → ((i : ℕ) → i < a → f i ≡ 0) → ((i : ℕ) → a ≤ i → i < e → f i ≡ 1)
    → ((i : ℕ) → e ≤ i → i < n → f i ≡ 0) → ones f n ≡ e - a
ones_between f a e n la le under inside over =
    let none : (m : ℕ) → ones (λ _. 0) m ≡ 0 = (λ m. sum_none (λ _. 0) m (λ j l. refl)) in
    omega (arith, sum_range f (λ _. 0) a e n 1 la le under inside over, none n, none e, none a)

-- 1 for a test that holds
yes_one : {b : Bool} → b ≡ true → cond {A = ℕ} b 1 0 ≡ 1
yes_one e = ap (λ (b : Bool). cond {A = ℕ} b 1 0) e

-- 0 for one that fails
no_zero : {b : Bool} → b ≡ false → cond {A = ℕ} b 1 0 ≡ 0
no_zero e = ap (λ (b : Bool). cond {A = ℕ} b 1 0) e

-- slot c is counted by the summaries past c div 8
summaries_changed : (t j p c : ℕ) → child_of t p ≡ 64 * j + c → c < 64 → ones (λ i. cond (counts t j i p) 1 0) 8 ≡ 7 - c / 8
summaries_changed t j p c e h =
    ones_between (λ i. cond (counts t j i p) 1 0) (c / 8 + 1) 8 8 (omega arith) (le_refl 8)
    (λ i l. no_zero (counts_past t j i p (omega (arith, to_summary i (omega arith)))))
    (λ i l u. yes_one (counts_in t j i p (omega (arith, from_summary i u)) (omega (arith, to_summary i u))))
    (λ i l u. absurd (omega arith))
    ∙ omega arith

-- and by the keys from c on of its eight
keys_changed : (t j p c : ℕ) → child_of t p ≡ 64 * j + c → c < 64 → ones (λ i. cond (counts t j (8 + i) p) 1 0) 64 ≡ 8 - c % 8
keys_changed t j p c e h =
    ones_between (λ i. cond (counts t j (8 + i) p) 1 0) c (8 * (c / 8) + 8) 64 (omega arith) (omega arith)
    (λ i l. no_zero (counts_past t j (8 + i) p (omega (arith, to_key i))))
    (λ i l u. yes_one (counts_in t j (8 + i) p (omega (arith, from_key i)) (omega (arith, to_key i))))
    (λ i l u. no_zero (counts_before t j (8 + i) p (omega (arith, from_key i))))
    ∙ omega arith

-- of a node's counters, 15 − (c mod 8) − (c div 8) count a stroke in its child slot c, and none a stroke elsewhere
pub node_changed : (t j p : ℕ) → ones (λ i. cond (counts t j i p) 1 0) 72 ≡ cond (eqb j (child_of t p / 64)) (15 - slot t p % 8 - slot t p / 8) 0
node_changed t j p = go (eqb j (child_of t p / 64)) refl
  where
    go : (b : Bool) → eqb j (child_of t p / 64) ≡ b → ones (λ i. cond (counts t j i p) 1 0) 72 ≡ cond b (15 - slot t p % 8 - slot t p / 8) 0
    go true e =
        let q : j ≡ child_of t p / 64 = eqb-true j (child_of t p / 64) e in
        let c : child_of t p ≡ 64 * j + slot t p = omega arith in
        let l : slot t p < 64 = omega arith in
        sum_split (λ i. cond (counts t j i p) 1 0) 8 64
        ∙ ap₂ (λ (x y : ℕ). x + y) (summaries_changed t j p (slot t p) c l) (keys_changed t j p (slot t p) c l)
        ∙ omega arith
    go false e =
        sum_none (λ i. cond (counts t j i p) 1 0) 72 (λ i l. no_zero (none i l (lt_or (child_of t p / 64) j)))
      where
        none : (i : ℕ) → i < 72 → (child_of t p / 64 < j) ⊎ (j ≤ child_of t p / 64) → counts t j i p ≡ false
        none i l (inl u) = counts_before t j i p (omega arith)
        none i l (inr u) = counts_past t j i p (omega (arith, (from_to_lem i l).1, eqb-false j (child_of t p / 64) e))

-- ---- how many counters of all levels count a stroke
-- the stroke's child of level t + 1 is one of the nodes of level t, or of the blocks
pub child_there : (n t p : ℕ) → p < 512 * n → child_of (suc t) p < nodes n t
child_there n t p h =
    (div-lt_iff_lt-mul (child_bits_pos t)).1 (rw (mul_comm (nodes n t) (child_bits (suc t))) (omega (arith, nodes_cover n t)))

-- the node on the path is there
pub child_lt : (n t p : ℕ) → 1 ≤ t → p < 512 * n → child_of t p / 64 < nodes n t
child_lt n zero p a h = absurd (omega arith)
child_lt n (suc t) p a h = omega (arith, child_of_suc t p, child_there n (suc t) p h)

-- a sum over n rows of w
pub ones_rows : (f : ℕ → ℕ) (w n : ℕ) → ones f (w * n) ≡ ones (λ j. ones (λ i. f (w * j + i)) w) n
ones_rows f w zero = ap (ones f) (mul-zero w) ∙ sum_zero f ∙ sym (sum_zero (λ j. ones (λ i. f (w * j + i)) w))
ones_rows f w (suc n) =
    ap (ones f) (mul-suc w n)
    ∙ sum_split f (w * n) w
    ∙ ap (λ (s : ℕ). s + ones (λ i. f (w * n + i)) w) (ones_rows f w n)
    ∙ sym (sum_suc (λ j. ones (λ i. f (w * j + i)) w) n)

-- a sum with one term that is not 0
pub ones_only : (f : ℕ → ℕ) (q n : ℕ) → q < n → ((j : ℕ) → (j ≡ q → ⊥) → f j ≡ 0) → ones f n ≡ f q
ones_only f q n h zeros =
    let o = sum_outside f (λ _. 0) q (suc q) n (omega arith) h (λ j l. zeros j (λ e. omega arith)) (λ j l u. zeros j (λ e. omega arith)) in
    let none : (m : ℕ) → ones (λ _. 0) m ≡ 0 = (λ m. sum_none (λ _. 0) m (λ j l. refl)) in
    omega (arith, o.0, o.1, none n, none (suc q), none q, sum_suc f q)

-- of a level's counters, those of the node on the path alone
pub level_changed : (n t p : ℕ) → 1 ≤ t → p < 512 * n
    → ones (λ y. cond (counts t (y / 72) (y % 72) p) 1 0) (72 * nodes n t) ≡ 15 - slot t p % 8 - slot t p / 8
level_changed n t p a h =
    let q : ℕ = child_of t p / 64 in
    let d : ℕ = 15 - slot t p % 8 - slot t p / 8 in
    let node : (j : ℕ) → ones (λ i. cond (counts t ((72 * j + i) / 72) ((72 * j + i) % 72) p) 1 0) 72 ≡ cond (eqb j q) d 0 =
    (λ j.
    sum_ext (λ i. cond (counts t ((72 * j + i) / 72) ((72 * j + i) % 72) p) 1 0) (λ i. cond (counts t j i p) 1 0) 72
    (λ i l. ap₂ (λ (x y : ℕ). cond (counts t x y p) 1 0) (omega arith) (omega arith))
    ∙ node_changed t j p) in
    ones_rows (λ y. cond (counts t (y / 72) (y % 72) p) 1 0) 72 (nodes n t)
    ∙ sum_ext (λ j. ones (λ i. cond (counts t ((72 * j + i) / 72) ((72 * j + i) % 72) p) 1 0) 72) (λ j. cond (eqb j q) d 0) (nodes n t) (λ j l. node j)
    ∙ ones_only (λ j. cond (eqb j q) d 0) q (nodes n t) (child_lt n t p a h) (λ j e. simp (ne_eqb j q e))
    ∙ simp (eq-eqb q q refl)

-- the number of counters that count a stroke is the sum of 15 − (c mod 8) − (c div 8)
pub changed_number : (n p : ℕ) → p < 512 * n
    → ones (λ s. ones (λ y. cond (counts (s + 1) (y / 72) (y % 72) p) 1 0) (72 * nodes n (s + 1))) (height n) ≡ change_count n p
unfolding change_count
changed_number n p h =
    sum_ext (λ s. ones (λ y. cond (counts (s + 1) (y / 72) (y % 72) p) 1 0) (72 * nodes n (s + 1)))
    (λ s. 15 - slot (s + 1) p % 8 - slot (s + 1) p / 8) (height n)
    (λ s l. level_changed n (s + 1) p (omega arith) h)

-- never more than 15 at each of three levels
pub change_count_le : (n p : ℕ) → change_count n p ≤ 45
unfolding change_count
change_count_le n p =
    omega (arith, sum_most (λ s. 15 - slot (s + 1) p % 8 - slot (s + 1) p / 8) 15 (height n) (λ s. omega arith), height_le n)
