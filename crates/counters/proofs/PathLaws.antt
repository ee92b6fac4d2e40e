-- The counters that count a stroke moved: eight lanes by their steps, one node, level by level. Assumes nothing.
use Rattle.std.proofs.Common.{◌≡◌, ℕ, suc, ◌+◌, ◌-◌, ◌*◌, ◌/◌, ◌%◌, ◌^◌, ◌<◌, ◌≤◌, Bool, true, false, cond, ◌&&◌, ltb, leb, ◌⊎◌, List, ◌++◌, length, get_or, take, drop, replicate, sym, refl, ap, ◌∙◌, ap₂, inl, inr, add-one, arith, get_or-append-add, le-leb}
use lib.ListN.{get_or-replicate, get_or-append}
use borrow.Author.Tests.{lt-leb}
use Rattle.words.specs.Bits.{ones}
use Rattle.words.proofs.Sums.{lt_or, sum_zero, sum_more, part_at_lem}
use Rattle.counters.specs.Tree.{nodes, height, from_child, to_child, counter_count, index_of, child_of, slot, counts, change_count}
use Rattle.counters.specs.Working.{moved_by, counts_child, Steps, NodeMoved, Up, PathMovedBy}
use Rattle.counters.specs.declared.shape.Climb.{Climb}
use Rattle.counters.specs.declared.shape.Rise.{Rise}
use Rattle.counters.proofs.TreeLaws.{child_of_one, child_of_suc, from_summary, to_summary, from_key, to_key, from_to_lem, start, index_is, ClimbAt, climb_up, climb_room, total_mono}
use Rattle.counters.proofs.FlipLaws.{between_in, between_before, between_past, counts_before, counts_past}
use Rattle.counters.proofs.SpliceLaws.{splice, splice_length, splice_below, splice_above, splice_each}

-- ---- eight lanes
-- a wrapping sum with d, or with 0
pub moved_sum : (b : Bool) (d x : ℕ) → x < 2 ^ 32 → (x + cond b d 0) % 2 ^ 32 ≡ moved_by b d x
moved_sum true d x h = refl
moved_sum false d x h = omega arith

-- one test for another
pub moved_test : {b b' : Bool} (d x : ℕ) → b ≡ b' → moved_by b d x ≡ moved_by b' d x
moved_test d x e = ap (λ (b : Bool). moved_by b d x) e

-- ys is xs with its step added to each number before i
pub record Lanes (steps xs : List ℕ) (i : ℕ) (ys : List ℕ) : Type 0 where
  pub long : length ys ≡ length xs
  pub moved : (k : ℕ) → k < i → get_or ys k 0 ≡ (get_or xs k 0 + get_or steps k 0) % 2 ^ 32
  pub rest : (k : ℕ) → i ≤ k → get_or ys k 0 ≡ get_or xs k 0

-- ---- eight of the steps
-- bound and number moved alike
leb_shift : (k a c b x : ℕ) → b ≡ k + a → x ≡ k + c → leb b x ≡ leb a c
leb_shift k a c b x e f = go (lt_or c a)
  where
    go : (c < a) ⊎ (a ≤ c) → leb b x ≡ leb a c
    go (inl l) = lt-leb b x (omega arith) ∙ sym (lt-leb a c l)
    go (inr l) = le-leb b x (omega arith) ∙ sym (le-leb a c l)

-- the steps as the code writes them
pub steps_made : (d : ℕ) → Steps 8 d (replicate 8 0 ++ replicate 8 d)
steps_made d i h = go i h (lt_or i 8)
  where
    go : (i : ℕ) → i < 16 → (i < 8) ⊎ (8 ≤ i) → get_or (replicate 8 0 ++ replicate 8 d) i 0 ≡ cond (leb 8 i) d 0
    go i h (inl l) =
        get_or-append (replicate 8 0) (replicate 8 d) 0 i l ∙ get_or-replicate 8 i 0 0 l ∙ sym (ap (λ (b : Bool). cond b d 0) (lt-leb 8 i l))
    go i h (inr l) =
        let e : i ≡ 8 + (i - 8) = omega arith in
        ap (λ (x : ℕ). get_or (replicate 8 0 ++ replicate 8 d) x 0) e
        ∙ get_or-append-add (replicate 8 0) (replicate 8 d) (i - 8) 0
        ∙ get_or-replicate 8 (i - 8) d 0 (omega arith)
        ∙ sym (ap (λ (b : Bool). cond b d 0) (le-leb 8 i l))

-- from the second on, one zero fewer
pub steps_later : (z d m : ℕ) (steps : List ℕ) → m ≡ z + 8 → Steps (z + 1) d steps → Steps z d (take m (drop 1 steps))
steps_later z d m steps e are i h =
    part_at_lem steps 1 m 0 i (omega arith)
    ∙ are (1 + i) (omega arith)
    ∙ ap (λ (b : Bool). cond b d 0) (leb_shift 1 z i (z + 1) (1 + i) (omega arith) refl)

-- a part of eight numbers came back with the eight steps from number s on added: its numbers from g on are moved by d, where s + g is the number of zeros
pub lanes_moved : (z d : ℕ) (steps : List ℕ) → Steps z d steps → (g s m : ℕ) → z ≡ s + g → m ≡ 8 → (xs ys : List ℕ) (a n : ℕ) → n ≡ 8
    → ((i : ℕ) → get_or xs i 0 < 2 ^ 32)
    → ((i : ℕ) → i < 8 → get_or ys i 0 ≡ (get_or (take n (drop a xs)) i 0 + get_or (take m (drop s steps)) i 0) % 2 ^ 32)
    → (i : ℕ) → i < 8 → get_or ys i 0 ≡ moved_by (leb g i) d (get_or (take n (drop a xs)) i 0)
lanes_moved z d steps are g s m turn eight xs ys a n eight' small sums i h =
    sums i h ∙ ap (λ (y : ℕ). (x + y) % 2 ^ 32) step ∙ moved_sum (leb g i) d x (omega (arith, part_at_lem xs a n 0 i (omega arith), small (a + i)))
  where
    x : ℕ
    x = get_or (take n (drop a xs)) i 0

    step : get_or (take m (drop s steps)) i 0 ≡ cond (leb g i) d 0
    step =
        part_at_lem steps s m 0 i (omega arith)
        ∙ are (s + i) (omega arith)
        ∙ ap (λ (b : Bool). cond b d 0) (leb_shift s g i z (s + i) turn refl)

-- ---- one node
-- how many counters count child c, by the places of the steps
pub offsets_number : (c : ℕ) → c < 64 → 7 - c / 8 + (7 - c % 8) + 1 ≡ 15 - c % 8 - c / 8
offsets_number c h = omega arith

-- ends and number moved alike
between_shift : (k a b c x : ℕ) → x ≡ k + c → (leb (k + a) x && ltb x (k + b)) ≡ (leb a c && ltb c b)
between_shift k a b c x e = ap₂ ◌&&◌ (leb_shift k a c (k + a) x refl e) (leb_shift k (suc c) b (suc x) (k + b) (omega arith) refl)

-- the ends of the children that a key counts
key_ends : (i : ℕ) → 8 ≤ i → (from_child i ≡ 8 * ((i - 8) / 8)) × (to_child i ≡ i - 8 + 1)
key_ends i h = let e : 8 + (i - 8) ≡ i = omega arith in (rw e at (from_key (i - 8)), rw e at (to_key (i - 8)))

-- the summaries that count child c: those past its group
pub summary_counts : (c i : ℕ) → i < 8 → leb (c / 8 + 1) i ≡ counts_child c i
summary_counts c i h = go (lt_or i (c / 8 + 1))
  where
    go : (i < c / 8 + 1) ⊎ (c / 8 + 1 ≤ i) → leb (c / 8 + 1) i ≡ counts_child c i
    go (inl l) =
        lt-leb (c / 8 + 1) i l ∙ sym (between_past (from_child i) (to_child i) c (omega (arith, to_summary i h)))
    go (inr l) =
        le-leb (c / 8 + 1) i l
        ∙ sym (between_in (from_child i) (to_child i) c (omega (arith, from_summary i h)) (omega (arith, to_summary i h)))

-- the keys of its group that count it: those from its own on
pub key_counts : (c i : ℕ) → 8 + 8 * (c / 8) ≤ i → i < 8 + 8 * (c / 8) + 8 → leb (c % 8) (i - (8 + 8 * (c / 8))) ≡ counts_child c i
key_counts c i h u = go (key_ends i (omega arith)) (lt_or (i - (8 + 8 * (c / 8))) (c % 8))
  where
    y : ℕ
    y = i - (8 + 8 * (c / 8))

    go : (from_child i ≡ 8 * ((i - 8) / 8)) × (to_child i ≡ i - 8 + 1) → (y < c % 8) ⊎ (c % 8 ≤ y) → leb (c % 8) y ≡ counts_child c i
    go e (inl l) = lt-leb (c % 8) y l ∙ sym (between_past (from_child i) (to_child i) c (omega arith))
    go e (inr l) = le-leb (c % 8) y l ∙ sym (between_in (from_child i) (to_child i) c (omega arith) (omega arith))

-- no key before its group does
pub key_before : (c i : ℕ) → 8 ≤ i → i < 8 + 8 * (c / 8) → counts_child c i ≡ false
key_before c i h l = between_past (from_child i) (to_child i) c (omega (arith, key_ends i h))

-- and none past it
pub key_past : (c i : ℕ) → 8 + 8 * (c / 8) + 8 ≤ i → counts_child c i ≡ false
key_past c i h = between_before (from_child i) (to_child i) c (omega (arith, key_ends i (omega arith)))

-- a node whose summaries came back as us, and the keys of child c's group then as vs: every counter that counts c is moved
pub node_moved : (c d : ℕ) (xs us vs : List ℕ) (a m : ℕ) → c < 64 → length xs ≡ 72 → a ≡ 8 + 8 * (c / 8) → m ≡ 8
    → length us ≡ length (take 8 (drop 0 xs)) → length vs ≡ length (take m (drop a (splice 0 8 xs us)))
    → ((i : ℕ) → i < 8 → get_or us i 0 ≡ moved_by (leb (c / 8 + 1) i) d (get_or (take 8 (drop 0 xs)) i 0))
    → ((i : ℕ) → i < 8 → get_or vs i 0 ≡ moved_by (leb (c % 8) i) d (get_or (take m (drop a (splice 0 8 xs us))) i 0))
    → NodeMoved c d xs (splice a m (splice 0 8 xs us) vs)
node_moved c d xs us vs a m small long begin eight kept kept' first second i h = go (lt_or i 8) (lt_or i a) (lt_or i (a + m))
  where
    ys : List ℕ
    ys = splice 0 8 xs us

    fit : 0 + 8 ≤ length xs
    fit = omega arith

    fit' : a + m ≤ length ys
    fit' = omega (arith, splice_length 0 8 xs us fit kept)

    -- a key as the summaries' loan left it
    key : 8 ≤ i → get_or ys i 0 ≡ get_or xs i 0
    key l = splice_above 0 8 xs us fit kept 0 i (omega arith)

    go : (i < 8) ⊎ (8 ≤ i) → (i < a) ⊎ (a ≤ i) → (i < a + m) ⊎ (a + m ≤ i)
        → get_or (splice a m ys vs) i 0 ≡ moved_by (counts_child c i) d (get_or xs i 0)
    go (inl l) p q =
        splice_below a m ys vs fit' kept' 0 i (omega arith)
        ∙ splice_each 0 8 xs us fit kept (λ k. moved_by (leb (c / 8 + 1) k) d) 0 first i i (omega arith) l
        ∙ moved_test d (get_or xs i 0) (summary_counts c i l)
    go (inr l) (inl p) q = splice_below a m ys vs fit' kept' 0 i p ∙ key l ∙ moved_test d (get_or xs i 0) (sym (key_before c i l (omega arith)))
    go (inr l) (inr p) (inl q) =
        splice_each a m ys vs fit' kept' (λ k. moved_by (leb (c % 8) k) d) 0 (λ k u. second k (omega arith)) i (i - a) (omega arith) (omega arith)
        ∙ ap (moved_by (leb (c % 8) (i - a)) d) (key l)
        ∙ moved_test d (get_or xs i 0) (ap (λ (x : ℕ). leb (c % 8) (i - x)) begin ∙ key_counts c i (omega arith) (omega arith))
    go (inr l) (inr p) (inr q) = splice_above a m ys vs fit' kept' 0 i q ∙ key l ∙ moved_test d (get_or xs i 0) (sym (key_past c i (omega arith)))

-- ---- the path
-- of the node on the path, those counters count a stroke that count its slot
pub counts_on : (t j i p : ℕ) → j ≡ child_of t p / 64 → counts t j i p ≡ counts_child (slot t p) i
unfolding counts
counts_on t j i p e = between_shift (64 * j) (from_child i) (to_child i) (slot t p) (child_of t p) (omega arith)

-- and no counter of a node before it
pub counts_left : (t j i p : ℕ) → i < 72 → j < child_of t p / 64 → counts t j i p ≡ false
counts_left t j i p h l = counts_past t j i p (omega (arith, (from_to_lem i h).1))

-- nor of one past it
pub counts_right : (t j i p : ℕ) → child_of t p / 64 < j → counts t j i p ≡ false
counts_right t j i p l = counts_before t j i p (omega arith)

-- how many counters of level s + 1 count stroke p
abbrev pub share : ℕ → ℕ → ℕ
share p s = 15 - slot (s + 1) p % 8 - slot (s + 1) p / 8

-- after t levels from the lowest: ys is xs with the counters of the levels 1 to t moved that count stroke p, and `number` is how many
pub record Moving (n p d : ℕ) (xs : List ℕ) (t : ℕ) (ys : List ℕ) (c : Climb) (number : ℕ) : Type 0 where
  pub climb : ClimbAt n t c
  pub node_is : c.node ≡ child_of (t + 1) p
  pub number_is : number ≡ ones (share p) t
  pub number_le : number ≤ 15 * t
  pub long : length ys ≡ length xs
  pub moved : (s j i : ℕ) → 1 ≤ s → s ≤ t → j < nodes n s → i < 72
      → get_or ys (index_of n s j i) 0 ≡ moved_by (counts s j i p) d (get_or xs (index_of n s j i) 0)
  pub rest : (x : ℕ) → x < start n t → get_or ys x 0 ≡ get_or xs x 0

-- no level yet
pub moving_none : (n p d : ℕ) (xs : List ℕ) (c : Climb) → ClimbAt n 0 c → c.node ≡ p / 512 → Moving n p d xs 0 xs c 0
moving_none n p d xs c C e =
    record {
      climb = C;
      node_is = e ∙ sym (child_of_one p);
      number_is = sym (sum_zero (share p));
      number_le = omega arith;
      long = refl;
      moved = λ s j i a b l h. absurd (omega arith);
      rest = λ x l. refl;
    }

-- the stroke's child one level up, as the code writes it
child_of_more : (t p : ℕ) → child_of (t + 1 + 1) p ≡ child_of (t + 1) p / 64
child_of_more t p = simp add-one (child_of_suc t p)

-- one level more: the node on the path was lent, and its counters that count the stroke's slot have come back moved
pub moving_more : {n p d : ℕ} {xs : List ℕ} {t : ℕ} {ys : List ℕ} {c : Climb} {r : Rise} {number : ℕ} → Moving n p d xs t ys c number
    → t < height n → length xs ≡ counter_count n → Up c r → (m more : ℕ) (ws : List ℕ) → m ≡ 72 → more ≡ 15 - r.slot % 8 - r.slot / 8
    → length ws ≡ length (take m (drop r.at ys)) → NodeMoved r.slot d (take m (drop r.at ys)) ws
    → Moving n p d xs (t + 1) (splice r.at m ys ws) r.climb (number + more)
moving_more {n} {p} {d} {xs} {t} {ys} {c} {r} {number} k lower size U m more ws long share-is kept each =
    record {
      climb = above;
      node_is = node;
      number_is = ap₂ ◌+◌ k.number_is (share-is ∙ ap (λ (y : ℕ). 15 - y % 8 - y / 8) slot_is) ∙ sym (sum_more (share p) t);
      number_le = omega (arith, k.number_le);
      long = splice_length a m ys ws fit kept ∙ k.long;
      moved = λ s j i b c l h. go s j i b c l h (lt_or t s);
      rest = λ x l. splice_below a m ys ws fit kept 0 x (omega (arith, at)) ∙ k.rest x (omega (arith, before_end));
    }
  where
    a : ℕ
    a = r.at

    above : ClimbAt n (t + 1) r.climb
    above = climb_up k.climb lower U

    node : r.climb.node ≡ child_of (t + 1 + 1) p
    node = omega (arith, k.node_is, U.node_is, child_of_more t p)

    slot_is : r.slot ≡ slot (t + 1) p
    slot_is = omega (arith, k.node_is, U.slot_is)

    at : a ≡ start n (t + 1) + 72 * r.climb.node
    at = omega (arith, U.at_is, above.level.starts)

    -- the new level ends where the one below starts
    before_end : start n (t + 1) + 72 * nodes n (t + 1) ≡ start n t
    before_end = omega (arith, U.level.ends, above.level.starts, above.level.counted, k.climb.level.starts)

    fit : a + m ≤ length ys
    fit = omega (arith, climb_room k.climb lower U, k.long)

    -- until now a counter of the new level is as it was
    old : (j i : ℕ) → j < nodes n (t + 1) → i < 72 → get_or ys (index_of n (t + 1) j i) 0 ≡ get_or xs (index_of n (t + 1) j i) 0
    old j i l h = k.rest (index_of n (t + 1) j i) (omega (arith, index_is n (t + 1) j i, before_end))

    -- the counters of the new level: before the node, past it, and its own
    here : (j i : ℕ) → j < nodes n (t + 1) → i < 72 → (j < r.climb.node) ⊎ (r.climb.node ≤ j) → (r.climb.node < j) ⊎ (j ≤ r.climb.node)
        → get_or (splice a m ys ws) (index_of n (t + 1) j i) 0 ≡ moved_by (counts (t + 1) j i p) d (get_or xs (index_of n (t + 1) j i) 0)
    here j i l h (inl o) q =
        splice_below a m ys ws fit kept 0 (index_of n (t + 1) j i) (omega (arith, index_is n (t + 1) j i, at))
        ∙ old j i l h
        ∙ moved_test d (get_or xs (index_of n (t + 1) j i) 0) (sym (counts_left (t + 1) j i p h (omega (arith, node, child_of_more t p))))
    here j i l h (inr o) (inl q) =
        splice_above a m ys ws fit kept 0 (index_of n (t + 1) j i) (omega (arith, index_is n (t + 1) j i, at))
        ∙ old j i l h
        ∙ moved_test d (get_or xs (index_of n (t + 1) j i) 0) (sym (counts_right (t + 1) j i p (omega (arith, node, child_of_more t p))))
    here j i l h (inr o) (inr q) =
        splice_each a m ys ws fit kept (λ y. moved_by (counts_child r.slot y) d) 0 (λ y u. each y (omega arith)) (index_of n (t + 1) j i) i
        (omega (arith, index_is n (t + 1) j i, at)) (omega arith)
        ∙ ap (moved_by (counts_child r.slot i) d) (old j i l h)
        ∙ moved_test d (get_or xs (index_of n (t + 1) j i) 0)
        (ap (λ (y : ℕ). counts_child y i) slot_is ∙ sym (counts_on (t + 1) j i p (omega (arith, node, child_of_more t p))))

    go : (s j i : ℕ) → 1 ≤ s → s ≤ t + 1 → j < nodes n s → i < 72 → (t < s) ⊎ (s ≤ t)
        → get_or (splice a m ys ws) (index_of n s j i) 0 ≡ moved_by (counts s j i p) d (get_or xs (index_of n s j i) 0)
    go s j i b c l h (inl o) = let e : s ≡ t + 1 = omega arith in rw e (here j i (rw e at l) h (lt_or j r.climb.node) (lt_or r.climb.node j))
    go s j i b c l h (inr o) =
        splice_above a m ys ws fit kept 0 (index_of n s j i) (omega (arith, index_is n s j i, total_mono n o, at, above.there, above.level.counted, before_end))
        ∙ k.moved s j i b o l h

-- all levels
pub moving_done : {n p d : ℕ} {xs : List ℕ} {t : ℕ} {ys : List ℕ} {c : Climb} {number : ℕ} → Moving n p d xs t ys c number
    → t ≡ height n → (number ≡ change_count n p) × PathMovedBy n p d xs ys
unfolding change_count
moving_done {p = p} k e =
    (k.number_is ∙ ap (ones (share p)) e, record { long = k.long; each = λ s j i a b l h. k.moved s j i a (omega arith) l h })
