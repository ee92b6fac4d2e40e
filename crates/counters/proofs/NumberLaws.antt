-- The number of counters whose value changes when one bit changes. Assumes nothing.
use Rattle.std.proofs.Common.{◌≡◌, ℕ, zero, suc, ◌+◌, ◌-◌, ◌*◌, ◌/◌, ◌%◌, ◌<◌, ◌≤◌, Bool, true, false, cond, eqb, ◌⊎◌, List, [], ◌∷◌, ◌++◌, length, get_or, set, sym, refl, ap, ◌∙◌, ap₂, inl, inr, le_refl, arith, length-append, get_or-set_other, get_or-set_same, get_or-append-add, eq-eqb, ne_eqb, eqb-true}
use native.Mathlib.Decide.{ℕ_discrete}
use lib.ListN.{get_or-append, get_or-eq_default}
use lib.Seq.{get_or-append_seam}
use borrow.Author.Tests.{eqb-false}
use Rattle.words.specs.Bits.{ones, list_of}
use Rattle.words.specs.Strip.{cell}
use Rattle.words.proofs.Sums.{lt_or, sum_zero, sum_suc, sum_split, sum_ext, length_list_of, get_or_list_of}
use Rattle.counters.specs.Tree.{blocks_of, nodes, height, counter, total, counter_count, counts, change_count, levels, differ}
use Rattle.counters.specs.Record.{built_counters}
use Rattle.counters.proofs.TreeLaws.{total_zero, total_suc}
use Rattle.counters.proofs.FlipLaws.{OneMore, counter_flip, changed_number}
use Rattle.counters.proofs.AfreshLaws.{levels_ext}

-- ---- two lists
-- a test of equality, either way
eqb_sym : (a b : ℕ) → eqb a b ≡ eqb b a
eqb_sym a b = go (eqb a b) refl
  where
    go : (t : Bool) → eqb a b ≡ t → eqb a b ≡ eqb b a
    go true e = e ∙ sym (eq-eqb b a (sym (eqb-true a b e)))
    go false e = e ∙ sym (ne_eqb b a (λ d. eqb-false a b e (sym d)))

-- as many either way
pub differ_sym : (xs ys : List ℕ) (n : ℕ) → differ xs ys n ≡ differ ys xs n
differ_sym xs ys n =
    sum_ext (λ x. cond (eqb (get_or xs x 0) (get_or ys x 0)) 0 1) (λ x. cond (eqb (get_or ys x 0) (get_or xs x 0)) 0 1) n
    (λ x l. ap (λ (t : Bool). cond {A = ℕ} t 0 1) (eqb_sym (get_or xs x 0) (get_or ys x 0)))

-- in two lists joined, the numbers of the first two and of the second two
differ_append : (xs ys us vs : List ℕ) (a b : ℕ) → length xs ≡ a → length ys ≡ a → differ (xs ++ us) (ys ++ vs) (a + b) ≡ differ xs ys a + differ us vs b
differ_append xs ys us vs a b lx ly =
    sum_split (λ x. cond (eqb (get_or (xs ++ us) x 0) (get_or (ys ++ vs) x 0)) 0 1) a b
    ∙ ap₂ (λ (x y : ℕ). x + y)
    (sum_ext (λ x. cond (eqb (get_or (xs ++ us) x 0) (get_or (ys ++ vs) x 0)) 0 1) (λ x. cond (eqb (get_or xs x 0) (get_or ys x 0)) 0 1) a
    (λ x l.
    ap₂ (λ (x y : ℕ). cond {A = ℕ} (eqb x y) 0 1) (get_or-append xs us 0 x (omega (arith, lx))) (get_or-append ys vs 0 x (omega (arith, ly)))))
    (sum_ext (λ x. cond (eqb (get_or (xs ++ us) (a + x) 0) (get_or (ys ++ vs) (a + x) 0)) 0 1) (λ x. cond (eqb (get_or us x 0) (get_or vs x 0)) 0 1) b
    (λ x l.
    ap₂ (λ (x y : ℕ). cond {A = ℕ} (eqb x y) 0 1)
    (ap (λ (k : ℕ). get_or (xs ++ us) (k + x) 0) (sym lx) ∙ get_or-append-add xs us x 0)
    (ap (λ (k : ℕ). get_or (ys ++ vs) (k + x) 0) (sym ly) ∙ get_or-append-add ys vs x 0)))

-- a number differs from itself plus 1 or 0 where it is 1
differ_test : (t : Bool) (x y : ℕ) → y ≡ x + cond t 1 0 → cond {A = ℕ} (eqb x y) 0 1 ≡ cond t 1 0
differ_test true x y e = simp (ne_eqb x y (λ d. omega arith))
differ_test false x y e = simp (eq-eqb x y (omega arith))

-- ---- the counters of one bit more
module _ (f g : ℕ → ℕ) (n p : ℕ) (more : OneMore f g p) where
  -- the counters of level t
  abbrev level : (ℕ → ℕ) → ℕ → List ℕ
  level k t = list_of (λ y. counter k t (y / 72) (y % 72)) (72 * nodes n t)

  -- the counters of level t that count stroke p
  abbrev counting : ℕ → ℕ
  counting t = ones (λ y. cond (counts t (y / 72) (y % 72) p) 1 0) (72 * nodes n t)

  -- of a level, those differ that count the stroke
  level_number : (t : ℕ) → 1 ≤ t → differ (level f t) (level g t) (72 * nodes n t) ≡ counting t
  level_number t h =
      sum_ext (λ y. cond (eqb (get_or (level f t) y 0) (get_or (level g t) y 0)) 0 1) (λ y. cond (counts t (y / 72) (y % 72) p) 1 0) (72 * nodes n t)
      (λ y l.
      differ_test (counts t (y / 72) (y % 72) p) (get_or (level f t) y 0) (get_or (level g t) y 0)
      (get_or_list_of (λ y. counter g t (y / 72) (y % 72)) (72 * nodes n t) y l
      ∙ counter_flip more t (y / 72) (y % 72) h (omega arith)
      ∙ ap (λ (c : ℕ). c + cond (counts t (y / 72) (y % 72) p) 1 0) (sym (get_or_list_of (λ y. counter f t (y / 72) (y % 72)) (72 * nodes n t) y l))))

  -- of the levels t to 1
  levels_number : (t : ℕ) → differ (levels f n t) (levels g n t) (72 * total n t) ≡ ones (λ s. counting (s + 1)) t
  unfolding levels
  levels_number zero =
      let e : 72 * total n 0 ≡ 0 = omega (arith, total_zero n) in
      ap (differ [] []) e ∙ sum_zero (λ x. cond (eqb (get_or [] x 0) (get_or [] x 0)) 0 1) ∙ sym (sum_zero (λ s. counting (s + 1)))
  levels_number (suc t) =
      let e : 72 * total n (suc t) ≡ 72 * nodes n (suc t) + 72 * total n t = omega (arith, total_suc n t) in
      let s : suc t ≡ t + 1 = omega arith in
      ap (differ (level f (suc t) ++ levels f n t) (level g (suc t) ++ levels g n t)) e
      ∙ differ_append (level f (suc t)) (level g (suc t)) (levels f n t) (levels g n t) (72 * nodes n (suc t)) (72 * total n t)
      (length_list_of (λ y. counter f (suc t) (y / 72) (y % 72)) (72 * nodes n (suc t)))
      (length_list_of (λ y. counter g (suc t) (y / 72) (y % 72)) (72 * nodes n (suc t)))
      ∙ ap₂ (λ (x y : ℕ). x + y) (level_number (suc t) (omega arith) ∙ ap counting s) (levels_number t)
      ∙ omega (arith, sum_suc (λ s. counting (s + 1)) t)

  -- of all
  pub number_up : p < 512 * n → differ (levels f n (height n)) (levels g n (height n)) (counter_count n) ≡ change_count n p
  number_up h = levels_number (height n) ∙ changed_number n p h

  -- and one bit less
  pub number_down : p < 512 * n → differ (levels g n (height n)) (levels f n (height n)) (counter_count n) ≡ change_count n p
  number_down h = differ_sym (levels g n (height n)) (levels f n (height n)) (counter_count n) ∙ number_up h

-- ---- a strip with one bit turned
-- a cell made one more
pub set_up : (s : List ℕ) (p b : ℕ) → p < length s → b ≡ cell s p + 1 → OneMore (cell s) (cell (set s p b)) p
set_up s p b h e = record { up = get_or-set_same s p b 0 h ∙ e; else = (λ q d. get_or-set_other s p q b 0 d) }

-- a cell made one less
pub set_down : (s : List ℕ) (p b : ℕ) → p < length s → cell s p ≡ b + 1 → OneMore (cell (set s p b)) (cell s) p
set_down s p b h e =
    record { up = e ∙ ap (λ (x : ℕ). x + 1) (sym (get_or-set_same s p b 0 h)); else = (λ q d. sym (get_or-set_other s p q b 0 d)) }

-- the counters laid afresh differ in as many places as turn answers
pub flip_number : (c : ℕ) (s : List ℕ) (p : ℕ) → c % 512 ≡ 0 → length s ≤ c → p < length s → cell s p ≤ 1
    → differ (built_counters c s) (built_counters c (set s p (1 - cell s p))) (counter_count (blocks_of c)) ≡ change_count (blocks_of c) p
unfolding built_counters
flip_number c s p whole within below small = go (lt_or (cell s p) 1)
  where
    go : (cell s p < 1) ⊎ (1 ≤ cell s p)
        → differ (levels (cell s) (blocks_of c) (height (blocks_of c)))
        (levels (cell (set s p (1 - cell s p))) (blocks_of c) (height (blocks_of c))) (counter_count (blocks_of c)) ≡ change_count (blocks_of c) p
    go (inl l) =
        number_up (cell s) (cell (set s p (1 - cell s p))) (blocks_of c) p (set_up s p (1 - cell s p) below (omega arith)) (omega arith)
    go (inr l) =
        number_down (cell (set s p (1 - cell s p))) (cell s) (blocks_of c) p (set_down s p (1 - cell s p) below (omega arith)) (omega arith)

-- ---- a strip with one bit appended
-- the cells but the new one stay
pub push_cell : (s : List ℕ) (v q : ℕ) → (q ≡ length s → ⊥) → cell (s ++ (v ∷ [])) q ≡ cell s q
push_cell s v q d = go (lt_or q (length s))
  where
    go : (q < length s) ⊎ (length s ≤ q) → cell (s ++ (v ∷ [])) q ≡ cell s q
    go (inl l) = get_or-append s (v ∷ []) 0 q l
    go (inr l) =
        let one : length (v ∷ []) ≡ 1 = refl in
        get_or-eq_default (s ++ (v ∷ [])) 0 {n = q} (omega (arith, length-append s (v ∷ []), one)) ∙ sym (get_or-eq_default s 0 {n = q} l)

-- a 1 appended, where 0 was read
pub push_more : (s : List ℕ) → OneMore (cell s) (cell (s ++ (1 ∷ []))) (length s)
push_more s =
    record {
      up = get_or-append_seam s 1 [] 0 ∙ ap (λ (x : ℕ). x + 1) (sym (get_or-eq_default s 0 {n = length s} (le_refl (length s))));
      else = push_cell s 1;
    }

-- the counters laid afresh differ in as many places as add of 1 answers
pub push_number : (c : ℕ) (s : List ℕ) → c % 512 ≡ 0 → length s < c
    → differ (built_counters c s) (built_counters c (s ++ (1 ∷ []))) (counter_count (blocks_of c)) ≡ change_count (blocks_of c) (length s)
unfolding built_counters
push_number c s whole room = number_up (cell s) (cell (s ++ (1 ∷ []))) (blocks_of c) (length s) (push_more s) (omega arith)

-- and none for 0: they are the same
pub push_same : (c : ℕ) (s : List ℕ) → built_counters c (s ++ (0 ∷ [])) ≡ built_counters c s
unfolding built_counters
push_same c s =
    levels_ext (cell (s ++ (0 ∷ []))) (cell s) (blocks_of c) (height (blocks_of c)) (λ q. each q (ℕ_discrete q (length s)))
  where
    each : (q : ℕ) → Dec (q ≡ length s) → cell (s ++ (0 ∷ [])) q ≡ cell s q
    each q (yes e) =
        ap (cell (s ++ (0 ∷ []))) e ∙ get_or-append_seam s 0 [] 0 ∙ sym (get_or-eq_default s 0 {n = q} (omega arith))
    each q (no d) = push_cell s 0 q d
