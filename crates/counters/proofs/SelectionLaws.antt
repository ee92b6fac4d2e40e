-- The laws of select: the v among bits of which the ones are counted, the child of a node that holds the k-th v, the way down, and the position.
-- Each holds for both values and all levels. Assumes nothing.
use Rattle.std.proofs.Common.{◌≡◌, ℕ, zero, suc, ◌+◌, ◌-◌, ◌*◌, ◌/◌, ◌<◌, ◌≤◌, ◌⊎◌, List, get_or, take, drop, sym, refl, ap, ◌∙◌, subst, inl, inr, zero-le, le_refl, add-zero, mul_assoc, mul-one, mul-add, mul_left_comm, arith, lit<, le-leb}
use mathlib.Core.Option.{some}
use native.Mathlib.Nat.{mul-div_cancel_left}
use borrow.Author.Tests.{lt-leb}
use Rattle.words.specs.Bits.{bit_at, ones}
use Rattle.words.specs.Strip.{holds, rank_of, select_of}
use Rattle.words.specs.Words.{place_in}
use Rattle.words.specs.Working.{at_most}
use Rattle.words.proofs.Sums.{lt_or, sum_more, sum_mono}
use Rattle.words.proofs.WordLaws.{block_bit}
use Rattle.words.proofs.SearchLaws.{Reached, reached, rank_ones, rank_both, rank_part, part_select, place_in_below}
use Rattle.counters.specs.Tree.{nodes, height, child_bits, from_child, to_child, counter_count}
use Rattle.counters.specs.Record.{AllFit}
use Rattle.counters.specs.declared.shape.Level.{Level}
use Rattle.counters.specs.Working.{most_blocks, TreeOver}
use Rattle.counters.specs.Descent.{ValueCount, Rising, PartCounters, CountersOf, FoundIn, ChildWith, values_before}
use Rattle.counters.proofs.TreeLaws.{nodes_root, child_bits_one, child_bits_pos, root_covers, prefix, prefix_mono, prefix_zero, prefix_up, from_summary, to_summary, from_key, to_key, from_to_lem, start, start_next, LevelAt}
use Rattle.counters.proofs.FitLaws.{fit_sum}
use Rattle.counters.proofs.FlipLaws.{child_there}

-- ---- numbers

-- one more of a
pub times_more : (a i : ℕ) → a * (i + 1) ≡ a * i + a
times_more a i = mul-add a i 1 ∙ ap (λ (n : ℕ). a * i + n) (mul-one a)

-- ---- one of eight parts

-- n of the first i numbers are at most k; one more number, at most k or above it
pub reach_more : (P : ℕ → ℕ) (k i n m x : ℕ) → x ≡ P i → n ≡ ones (at_most P k) i → ((x ≤ k) × (m ≡ n + 1)) ⊎ ((k < x) × (m ≡ n)) → m ≡ ones (at_most P k) (i + 1)
reach_more P k i n m x e h (inl w) =
    let t : at_most P k i ≡ 1 = simp (le-leb (P i) k (subst (λ (y : ℕ). y ≤ k) e w.0)) in
    omega (arith, sum_more (at_most P k) i, t, w.1)
reach_more P k i n m x e h (inr w) =
    let t : at_most P k i ≡ 0 = simp (lt-leb (P i) k (subst (λ (y : ℕ). k < y) e w.0)) in
    omega (arith, sum_more (at_most P k) i, t, w.1)

-- P m is the v in the first m parts. Of the parts from 1 to i, n end with at most k of v: the first n
reach_first : (P : ℕ → ℕ) (k i n : ℕ) → Rising P → n ≡ ones (at_most (λ j. P (j + 1)) k) i → Reached (λ j. P (j + 1)) k i n
reach_first P k i n up h =
    subst (λ (c : ℕ). Reached (λ j. P (j + 1)) k i c) (sym h) (reached (λ j. P (j + 1)) k i (λ a b l. up (a + 1) (b + 1) (omega arith)))

-- so there are at most k of v in the first n parts
reach_low : (P : ℕ → ℕ) (k i n : ℕ) → Rising P → P 0 ≡ 0 → n ≡ ones (at_most (λ j. P (j + 1)) k) i → P n ≤ k
reach_low P k i n up z h = low (reach_first P k i n up h).low (lt_or 0 n)
  where
    low : ((j : ℕ) → j < n → P (j + 1) ≤ k) → (0 < n) ⊎ (n ≤ 0) → P n ≤ k
    low each (inl l) = let e : n - 1 + 1 ≡ n = omega arith in subst (λ (m : ℕ). P m ≤ k) e (each (n - 1) (omega arith))
    low each (inr l) = let e : n ≡ 0 = omega arith in omega (arith, ap P e)

-- seven counters from place `from` on, the first of which has `size` bits and each `size` bits more than the one before: the n-th
pub nth_valued : (P : ℕ → ℕ) (v size from n : ℕ) (xs : List ℕ) → PartCounters P v size xs from → 0 < n → n ≤ 7
    → ValueCount v (size * n) (get_or xs (from + n - 1) 0) (P n)
nth_valued P v size from n xs each l h =
    let e : n - 1 + 1 ≡ n = omega arith in
    let p : from + (n - 1) ≡ from + n - 1 = omega arith in
    subst (λ (q : ℕ). ValueCount v (size * n) (get_or xs q 0) (P n)) p
    (subst (λ (m : ℕ). ValueCount v (size * m) (get_or xs (from + (n - 1)) 0) (P m)) e (each (n - 1) (omega arith)))

-- B m is the v before part m; the v in the first m parts
abbrev pub gain : (ℕ → ℕ) → ℕ → ℕ
gain B m = B m - B 0

-- as many parts as end with at most k of v lie before the one with the k-th
pub eighth : (B : ℕ → ℕ) (k n c left : ℕ) → Rising B → B 0 + k ≡ n → n < B 8 → c ≡ ones (at_most (λ i. gain B (i + 1)) k) 7
    → (gain B 0 ≡ 0 → gain B c ≤ k → gain B c + left ≡ k)
    → FoundIn B n c left
eighth B k n c left up e top h rest =
    let r = reach_first (gain B) k 7 c rise h in
    record {
      under = omega (arith, rest none (reach_low (gain B) k 7 c rise none h), up 0 c zero-le);
      over = high (lt_or c 7) r.within r.above;
    }
  where
    none : gain B 0 ≡ 0
    none = omega arith

    rise : Rising (gain B)
    rise i j l = omega (arith, up i j l)

    high : (c < 7) ⊎ (7 ≤ c) → c ≤ 7 → (c < 7 → k < gain B (c + 1)) → n < B (c + 1)
    high (inl l) w a = omega (arith, a l)
    high (inr l) w a = let s : c + 1 ≡ 8 = omega arith in subst (λ (m : ℕ). n < B m) (sym s) top

-- ---- the counters of a node
module _ (B : ℕ → ℕ) (v size : ℕ) (xs : List ℕ) (at : ℕ) (up : Rising B) (counts : CountersOf B v size xs at) where
  -- counter i, which gives the ones in the d children from a on, stands at place p
  valued : (i a b d p : ℕ) → i < 72 → from_child i ≡ a → to_child i ≡ b → b ≡ a + d → p ≡ at + i → ValueCount v (size * d) (get_or xs p 0) (B b - B a)
  valued i a b d p h ea eb ed ep =
      let l : a ≤ b = omega arith in
      let e : B (from_child i) + (B b - B a) ≡ B (to_child i) = omega (arith, ap B ea, ap B eb, up a b l) in
      let s : to_child i - from_child i ≡ d = omega arith in
      let w = counts i (B b - B a) h e in
      subst (λ (q : ℕ). ValueCount v (size * d) (get_or xs q 0) (B b - B a)) (sym ep)
      (subst (λ (q : ℕ). ValueCount v (size * q) (get_or xs (at + i) 0) (B b - B a)) s w)

  -- the summaries from 1 on
  pub group_valued : PartCounters (gain (λ m. B (8 * m))) v (8 * size) xs (at + 1)
  group_valued i h =
      let l : i + 1 < 8 = omega arith in
      let m : i + 1 < 72 = omega arith in
      let e : size * (8 * (i + 1)) ≡ 8 * size * (i + 1) = mul_left_comm size 8 (i + 1) ∙ sym (mul_assoc 8 size (i + 1)) in
      subst (λ (q : ℕ). ValueCount v q (get_or xs (at + 1 + i) 0) (gain (λ m. B (8 * m)) (i + 1))) e
      (valued (i + 1) 0 (8 * (i + 1)) (8 * (i + 1)) (at + 1 + i) m (from_summary (i + 1) l) (to_summary (i + 1) l) (omega arith) (omega arith))

  -- the keys of group g
  pub key_valued : (g : ℕ) → g ≤ 7 → PartCounters (gain (λ m. B (8 * g + m))) v size xs (at + 8 + 8 * g)
  key_valued g h i l =
      let e : 8 * ((8 * g + i) / 8) ≡ 8 * g + 0 = omega arith in
      let b : 8 * g + i + 1 ≡ 8 * g + (i + 1) = omega arith in
      valued (8 + (8 * g + i)) (8 * g + 0) (8 * g + (i + 1)) (i + 1) (at + 8 + 8 * g + i) (omega arith) (from_key (8 * g + i) ∙ e)
      (to_key (8 * g + i) ∙ b) (omega arith) (omega arith)

-- ---- a level: f p is the bit at position p
module _ (f : ℕ → ℕ) (v : ℕ) where
  -- more children, no fewer v
  pub values_rise : (t : ℕ) → Rising (values_before f v t)
  values_rise t = prefix_mono (holds f v) t

  -- a node is the child of the level above
  pub values_up : (t j : ℕ) → 1 ≤ t → values_before f v (suc t) j ≡ values_before f v t (64 * j)
  values_up zero j h = absurd (omega arith)
  values_up (suc t) j h = prefix_up (holds f v) t j

  module _ (bits : (p : ℕ) → f p ≤ 1) where
    -- of the d children from child a on x bits are ones: n are v
    values_valued : (t a b d x n : ℕ) → b ≡ a + d → x + prefix f t a ≡ prefix f t b → values_before f v t a + n ≡ values_before f v t b → ValueCount v (child_bits t * d) x n
    values_valued t a b d x n eb ex en =
        let w : ℕ = child_bits t in
        let s : w * b ≡ w * a + w * d = ap (λ (m : ℕ). w * m) eb ∙ mul-add w a d in (
          (λ e. omega (arith, en, ex, is 1 e (w * a), is 1 e (w * b), rank_ones f (w * a) bits, rank_ones f (w * b) bits)),
          (λ e.
              omega (
                arith,
                en,
                ex,
                is 0 e (w * a),
                is 0 e (w * b),
                rank_ones f (w * a) bits,
                rank_ones f (w * b) bits,
                rank_both f (w * a) bits,
                rank_both f (w * b) bits,
              )),
        )
      where
        is : (u : ℕ) → v ≡ u → (i : ℕ) → rank_of f v i ≡ rank_of f u i
        is u e i = ap (λ (y : ℕ). rank_of f y i) e

    -- node j of level t in a record that fits
    pub node_counted : (n t j : ℕ) (xs : List ℕ) → AllFit f n xs → 1 ≤ t → t ≤ height n → j < nodes n t
        → CountersOf (λ c. values_before f v t (64 * j + c)) v (child_bits t) xs (start n t + 72 * j)
    node_counted n t j xs fit a b h i m l e =
        values_valued t (64 * j + from_child i) (64 * j + to_child i) (to_child i - from_child i) (get_or xs (start n t + 72 * j + i) 0) m
        (omega (arith, (from_to_lem i l).0)) (fit_sum f n xs t (λ k c. fit t k c a b) j i h l) e

    -- from node j of level t, which holds the k-th v, to the child that does
    pub found_down : (n t j k left c rest : ℕ) (xs : List ℕ) → AllFit f n xs → 1 ≤ t → t ≤ height n → j < nodes n t → FoundIn (values_before f v (suc t)) k j left
        → ChildWith v (child_bits t) xs (start n t + 72 * j) left c rest → FoundIn (values_before f v t) k (64 * j + c) rest
    found_down n t j k left c rest xs fit a b h s found =
        let B : ℕ → ℕ = λ i. values_before f v t (64 * j + i) in
        let z : B 0 ≡ values_before f v (suc t) j = ap (values_before f v t) (add-zero (64 * j)) ∙ sym (values_up t j a) in
        let q : 64 * (j + 1) ≡ 64 * j + 64 = omega arith in
        let o : B 64 ≡ values_before f v (suc t) (j + 1) = ap (values_before f v t) (sym q) ∙ sym (values_up t (j + 1) a) in
        let w : FoundIn B k c rest =
        found.1 B k (λ x y l. values_rise t (64 * j + x) (64 * j + y) (omega arith)) (node_counted n t j xs fit a b h) (omega (arith, s.under)) (omega (arith, s.over)) in
        let r : 64 * j + (c + 1) ≡ 64 * j + c + 1 = omega arith in
        record { under = w.under; over = subst (λ (m : ℕ). k < values_before f v t m) r w.over }

  -- the root holds every v of n blocks
  pub found_root : (n k : ℕ) → n ≤ most_blocks → k < rank_of f v (512 * n) → FoundIn (values_before f v (suc (height n))) k 0 k
  found_root n k h l =
      record {
        under = omega (arith, prefix_zero (holds f v) (suc (height n)));
        over = omega (arith, l, sum_mono (holds f v) (root_covers n h), ap (rank_of f v) (mul-one (child_bits (suc (height n)))));
      }

  -- a child that holds the k-th v of n blocks is there
  pub found_there : (n t k m left : ℕ) → k < rank_of f v (512 * n) → FoundIn (values_before f v (suc t)) k m left → m < nodes n t
  found_there n t k m left l s = go (lt_or (child_bits (suc t) * m) (512 * n))
    where
      go : (child_bits (suc t) * m < 512 * n) ⊎ (512 * n ≤ child_bits (suc t) * m) → m < nodes n t
      go (inl h) = subst (λ (x : ℕ). x < nodes n t) (mul-div_cancel_left m (child_bits_pos t)) (child_there n t (child_bits (suc t) * m) h)
      go (inr h) = absurd (omega (arith, l, sum_mono (holds f v) h, s.under))

-- ---- the way down
module _ (n v k : ℕ) (xs : List ℕ) where
  -- on a record that fits, node j of level t holds the k-th v, with `left` of v before it there; at level 0 block j does
  abbrev pub Leads : ℕ → ℕ → ℕ → Type 0
  Leads t j left = (f : ℕ → ℕ) → ((p : ℕ) → f p ≤ 1) → AllFit f n xs → k < rank_of f v (512 * n) → FoundIn (values_before f v (suc t)) k j left

  -- at node j of level t, which is l
  pub record Way (t : ℕ) (l : Level) (j left : ℕ) : Type 0 where
    pub level : t ≤ height n
    pub place : LevelAt n t l
    pub there : j < l.count
    pub leads : Leads t j left

  -- at the root
  pub way_root : TreeOver n xs → Way (height n) (record { count = 1; start = 0 }) 0 k
  way_root T =
      record {
        level = le_refl (height n);
        place = record { counted = sym (nodes_root n T); starts = omega arith };
        there = lit< tt;
        leads = (λ f bits fit l. found_root f v n k T.few l);
      }

  -- the level ends where the one below starts, within the counters
  pub way_end : {t : ℕ} {l : Level} {j left : ℕ} → 0 < t → Way t l j left → (l.start + 72 * l.count ≡ start n (t - 1)) × (l.start + 72 * l.count ≤ counter_count n)
  way_end {t = zero} h w = absurd (omega arith)
  way_end {t = suc t} {l = l} h w =
      let e : suc t - 1 ≡ t = omega arith in
      let s : l.start + 72 * l.count ≡ start n t = omega (arith, w.place.counted, w.place.starts, start_next n t w.level) in
      (s ∙ ap (start n) (sym e), omega arith)

  -- to child c, which holds the k-th v where the counters of the node give it
  pub way_down : {t : ℕ} {l : Level} {j left : ℕ} (size c rest : ℕ) → 0 < t → Way t l j left → size ≡ child_bits t
      → ChildWith v size xs (l.start + 72 * j) left c rest → Leads (t - 1) (64 * j + c) rest
  way_down {t = t} {l = l} {j = j} {left = left} size c rest h w es found f bits fit q =
      let e : t ≡ suc (t - 1) = omega arith in
      let there : j < nodes n t = omega (arith, w.there, w.place.counted) in
      let here = subst (λ (y : ℕ). ChildWith v y xs (l.start + 72 * j) left c rest) es found in
      let at = subst (λ (y : ℕ). ChildWith v (child_bits t) xs (y + 72 * j) left c rest) w.place.starts here in
      subst (λ (s : ℕ). FoundIn (values_before f v s) k (64 * j + c) rest) e
      (found_down f v bits n t j k left c rest xs fit h w.level there (w.leads f bits fit q) at)

-- ---- the position

-- in block b, which holds the k-th v
pub block_place : (ws : List ℕ) (n b v k left r : ℕ) → b < n → FoundIn (values_before (bit_at ws) v 1) k b left
    → r ≡ place_in 512 (select_of (bit_at (take 8 (drop (8 * b) ws))) 512 v left)
    → (r < 512) × (select_of (bit_at ws) (512 * n) v k ≡ some (512 * b + r))
block_place ws n b v k left r h s er =
    let f : ℕ → ℕ = bit_at ws in
    let g : ℕ → ℕ = bit_at (take 8 (drop (8 * b) ws)) in
    let part : (p : ℕ) → p < 512 → g p ≡ f (512 * b + p) = λ p l. block_bit ws b 8 p refl l in
    let low : values_before f v 1 b ≡ rank_of f v (512 * b) = ap (λ (w : ℕ). rank_of f v (w * b)) child_bits_one in
    let high : values_before f v 1 (b + 1) ≡ rank_of f v (512 * b + 512) = ap (λ (w : ℕ). rank_of f v (w * (b + 1))) child_bits_one ∙ ap (rank_of f v) (times_more 512 b) in
    let more : left < rank_of g v 512 = omega (arith, s.under, s.over, rank_part f g (512 * b) 512 v 512 part (le_refl 512)) in
    let here = part_select f g (512 * b) 512 (512 * n) v k left r part (omega arith) (omega (arith, s.under)) more er in
    (here.0, place_in_below f (512 * n) (512 * n) v k (512 * b + r) (le_refl (512 * n)) here.1 (omega (arith, here.0)))
