-- The laws of `sum_to f n`, a sum over the positions below n, of `list_of`, and of lists by their elements. Assumes nothing.
use Rattle.std.proofs.Common.{◌≡◌, ℕ, zero, suc, ◌+◌, ◌-◌, ◌*◌, ◌<◌, ◌≤◌, ◌⊎◌, List, length, get_or, take, drop, set, sym, refl, ap, ◌∙◌, ap₂, inl, inr, le_of_suc-le-suc, not-suc-le-zero, add-zero, add-suc, lt-suc_self, suc-mul, add-sub_of_le, mul-zero, add-one, arith, get_or-drop, get_or-set_other, get_or-take, get_or-set_same, ext_get_or}
use native.Mathlib.Decide.{dec_lt}
use Rattle.words.specs.Bits.{sum_to, ones, list_of}

-- below, or not
pub lt_or : (a b : ℕ) → (a < b) ⊎ (b ≤ a)
lt_or a b = go (dec_lt a b)
  where
    go : Dec (a < b) → (a < b) ⊎ (b ≤ a)
    go (yes h) = inl h
    go (no h) = inr (omega arith)

pub sum_zero : (f : ℕ → ℕ) → sum_to f 0 ≡ 0
unfolding sum_to
sum_zero f = refl

pub sum_suc : (f : ℕ → ℕ) (n : ℕ) → sum_to f (suc n) ≡ sum_to f n + f n
unfolding sum_to
sum_suc f n = refl

-- one more position, as the code writes it
pub sum_more : (f : ℕ → ℕ) (n : ℕ) → sum_to f (n + 1) ≡ sum_to f n + f n
sum_more f n = rw add-one (sum_suc f n)

-- the sum splits at a
pub sum_split : (f : ℕ → ℕ) (a b : ℕ) → sum_to f (a + b) ≡ sum_to f a + sum_to (λ p. f (a + p)) b
unfolding sum_to
sum_split f a zero = ap (sum_to f) (add-zero a) ∙ sym (add-zero (sum_to f a))
sum_split f a (suc b) = let ih = sum_split f a b in rw add-suc (omega (arith, ih))

-- equal terms, equal sums
pub sum_ext : (f g : ℕ → ℕ) (n : ℕ) → ((p : ℕ) → p < n → f p ≡ g p) → sum_to f n ≡ sum_to g n
unfolding sum_to
sum_ext f g zero h = refl
sum_ext f g (suc n) h = ap₂ (λ (x y : ℕ). x + y) (sum_ext f g n (λ p l. h p (omega arith))) (h n (lt-suc_self n))

-- no term larger: no larger a sum
pub sum_le : (f g : ℕ → ℕ) (n : ℕ) → ((p : ℕ) → p < n → f p ≤ g p) → sum_to f n ≤ sum_to g n
sum_le f g zero h = omega (arith, sum_zero f)
sum_le f g (suc n) h = omega (arith, sum_suc f n, sum_suc g n, sum_le f g n (λ p l. h p (omega arith)), h n (lt-suc_self n))

-- more positions, no smaller a sum
pub sum_mono : (f : ℕ → ℕ) {a b : ℕ} → a ≤ b → sum_to f a ≤ sum_to f b
sum_mono f {a} {b} h =
    let e : a + (b - a) ≡ b = add-sub_of_le h in
    let s : sum_to f (a + (b - a)) ≡ sum_to f a + sum_to (λ p. f (a + p)) (b - a) = sum_split f a (b - a) in
    let t : sum_to f (a + (b - a)) ≡ sum_to f b = ap (sum_to f) e in
    omega arith

-- terms of at most c: at most c for each position
pub sum_most : (f : ℕ → ℕ) (c n : ℕ) → ((p : ℕ) → f p ≤ c) → sum_to f n ≤ n * c
sum_most f c zero h = omega (arith, sum_zero f)
sum_most f c (suc n) h = omega (arith, sum_suc f n, sum_most f c n h, h n, suc-mul n c)

-- of bits, at most as many as there are positions
pub ones_le : (f : ℕ → ℕ) (n : ℕ) → ((p : ℕ) → f p ≤ 1) → ones f n ≤ n
ones_le f n h = omega (arith, sum_most f 1 n h)

-- the terms are all b
pub sum_const : (f : ℕ → ℕ) (b n : ℕ) → ((p : ℕ) → p < n → f p ≡ b) → sum_to f n ≡ n * b
unfolding sum_to
sum_const f b zero h = omega arith
sum_const f b (suc n) h =
    let ih : sum_to f n ≡ n * b = sum_const f b n (λ p l. h p (omega arith)) in
    ap₂ (λ (x y : ℕ). x + y) ih (h n (lt-suc_self n)) ∙ sym (suc-mul n b)

-- the terms are all 0
pub sum_none : (f : ℕ → ℕ) (n : ℕ) → ((p : ℕ) → p < n → f p ≡ 0) → sum_to f n ≡ 0
sum_none f n h = sum_const f 0 n h ∙ mul-zero n

-- the terms from a on are 0: the sum stays
pub sum_flat : (f : ℕ → ℕ) (a n : ℕ) → a ≤ n → ((p : ℕ) → a ≤ p → f p ≡ 0) → sum_to f n ≡ sum_to f a
sum_flat f a n h past =
    let e : a + (n - a) ≡ n = add-sub_of_le h in
    let none : sum_to (λ p. f (a + p)) (n - a) ≡ 0 = sum_none (λ p. f (a + p)) (n - a) (λ p l. past (a + p) (omega arith)) in
    omega (arith, none, ap (sum_to f) e, sum_split f a (n - a))

-- f and g agree outside a to e - 1
pub sum_outside : (f g : ℕ → ℕ) (a e n : ℕ) → a ≤ e → e ≤ n → ((p : ℕ) → p < a → f p ≡ g p) → ((p : ℕ) → e ≤ p → p < n → f p ≡ g p)
    → (sum_to f n + sum_to g e ≡ sum_to g n + sum_to f e) × (sum_to f a ≡ sum_to g a)
sum_outside f g a e n la le under over =
    let past : sum_to (λ p. f (e + p)) (n - e) ≡ sum_to (λ p. g (e + p)) (n - e) =
    sum_ext (λ p. f (e + p)) (λ p. g (e + p)) (n - e) (λ p q. over (e + p) (omega arith) (omega arith)) in
    let m : e + (n - e) ≡ n = add-sub_of_le le in
    let sf : sum_to f n ≡ sum_to f e + sum_to (λ p. f (e + p)) (n - e) = rw m at (sum_split f e (n - e)) in
    let sg : sum_to g n ≡ sum_to g e + sum_to (λ p. g (e + p)) (n - e) = rw m at (sum_split g e (n - e)) in
    (omega (arith, past, sf, sg), sum_ext f g a under)

-- and f is b there: the terms of g from a to e - 1 go, and e - a times b come
pub sum_range : (f g : ℕ → ℕ) (a e n b : ℕ) → a ≤ e → e ≤ n → ((p : ℕ) → p < a → f p ≡ g p) → ((p : ℕ) → a ≤ p → p < e → f p ≡ b)
    → ((p : ℕ) → e ≤ p → p < n → f p ≡ g p) → sum_to f n + sum_to g e ≡ sum_to g n + (sum_to g a + (e - a) * b)
sum_range f g a e n b la le under inside over =
    let o = sum_outside f g a e n la le under over in
    let m : a + (e - a) ≡ e = add-sub_of_le la in
    let s : sum_to f e ≡ sum_to f a + sum_to (λ p. f (a + p)) (e - a) = rw m at (sum_split f a (e - a)) in
    let c : sum_to (λ p. f (a + p)) (e - a) ≡ (e - a) * b = sum_const (λ p. f (a + p)) b (e - a) (λ p l. inside (a + p) (omega arith) (omega arith)) in
    omega (arith, o.0, o.1, s, c)

-- the sums before two different positions of 1 are not the same number
pub rank_one : (f : ℕ → ℕ) (p q : ℕ) → f p ≡ 1 → p < q → sum_to f p < sum_to f q
rank_one f p q e l = omega (arith, sum_suc f p, sum_mono f l)

-- g is the part of f of w positions from a on: the sum below a + m
pub part_ones : (f g : ℕ → ℕ) (a w m : ℕ) → ((p : ℕ) → p < w → g p ≡ f (a + p)) → m ≤ w → sum_to f (a + m) ≡ sum_to f a + sum_to g m
part_ones f g a w m part l =
    sum_split f a m ∙ ap (λ (s : ℕ). sum_to f a + s) (sum_ext (λ p. f (a + p)) g m (λ p q. sym (part p (omega arith))))

-- ---- a list by its elements
pub length_list_of : (f : ℕ → ℕ) (n : ℕ) → length (list_of f n) ≡ n
unfolding list_of
length_list_of f zero = refl
length_list_of f (suc n) = ap suc (length_list_of (λ i. f (suc i)) n)

pub get_or_list_of : (f : ℕ → ℕ) (n p : ℕ) → p < n → get_or (list_of f n) p 0 ≡ f p
unfolding list_of
get_or_list_of f zero p h = absurd (not-suc-le-zero h)
get_or_list_of f (suc n) zero h = refl
get_or_list_of f (suc n) (suc p) h = get_or_list_of (λ i. f (suc i)) n p (le_of_suc-le-suc h)

-- a list of n elements, each f of its place
pub list_of_is : (f : ℕ → ℕ) (n : ℕ) (xs : List ℕ) → length xs ≡ n → ((p : ℕ) → p < n → f p ≡ get_or xs p 0) → list_of f n ≡ xs
list_of_is f n xs e each =
    ext_get_or 0 (list_of f n) xs (length_list_of f n ∙ sym e)
    (λ p l. let q : p < n = rw (length_list_of f n) at l in get_or_list_of f n p q ∙ each p q)

-- element i of the n elements from a on
pub part_at_lem : {A : Type 0} (xs : List A) (a n : ℕ) (z : A) (i : ℕ) → i < n → get_or (take n (drop a xs)) i z ≡ get_or xs (a + i) z
part_at_lem xs a n z i h = get_or-take n (drop a xs) i z h ∙ get_or-drop a xs i z

-- the elements below c, and a store at c
pub stored_more : (h : ℕ → ℕ) (xs : List ℕ) (c v : ℕ) → c < length xs → ((d : ℕ) → d < c → get_or xs d 0 ≡ h d) → v ≡ h c
    → (d : ℕ) → d < c + 1 → get_or (set xs c v) d 0 ≡ h d
stored_more h xs c v l low e d q = go (lt_or d c)
  where
    go : (d < c) ⊎ (c ≤ d) → get_or (set xs c v) d 0 ≡ h d
    go (inl m) = get_or-set_other xs c d v 0 (λ u. omega arith) ∙ low d m
    go (inr m) =
        let s : d ≡ c = omega arith in
        ap (λ (k : ℕ). get_or (set xs c v) k 0) s ∙ get_or-set_same xs c v 0 l ∙ e ∙ ap h (sym s)
