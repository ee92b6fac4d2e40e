-- Numbers as bytes, and stores into a list of bytes. Assumes nothing.
use mathlib.Core.Path.{◌≡◌, refl, sym, ap, ap₂, ◌∙◌}
use mathlib.Core.List.{List, [], ◌∷◌, ◌++◌, append_assoc, append-nil}
use Prim.Native.Nat.{ℕ, zero, suc, ◌+◌, ◌*◌, ◌-◌, ◌/◌, ◌%◌, ◌^◌, ◌≤◌, ◌<◌}
use native.Mathlib.Nat.{add-zero, mod-lt, mod-one, zero-lt-suc, pow-succ', mul_assoc, mul_comm}
use native.Mathlib.Omega.{arith}
use lib.Arith.{mod-mul}
use lib.Dec.{lit<}
use lib.Pow.{shr-shr}
use lib.ListN.{length, set, take, drop, get_or, length-set, length-drop, drop_of_length-le}
use borrow.Rule.Slice.PartMut.{put_mid}
use Rattle.std.proofs.lemmas.List.{drop-drop}
use Rattle.std.specs.Int.{w64, to_le_bytes}
use lib.Seq.{sets, sets-eq, set_comm, drop-cons, drop_at, length-take-le, get_or-set_same, get_or-set_other, take_at}
use Rattle.words.specs.Bits.{digits}
use Rattle.words.proofs.DigitLaws.{field, field_zero, field_suc, digits_ext}
use Rattle.image.specs.Bytes.{num, le}

-- ---- the low bytes of a number
-- their number
pub length_le : (n v : ℕ) → length (le n v) ≡ n
unfolding le
length_le zero v = refl
length_le (suc n) v = ap suc (length_le n (v / 256))

-- byte i
pub le_at : (n v i : ℕ) → i < n → get_or (le n v) i 0 ≡ field 8 v i
unfolding le
le_at zero v i h = absurd (omega arith)
le_at (suc n) v zero h = sym (field_zero 8 v)
le_at (suc n) v (suc i) h = le_at n (v / 256) i (omega arith) ∙ field_suc 8 v i

-- each is a byte
pub le_small : (n v i : ℕ) → get_or (le n v) i 0 < 256
unfolding le
le_small zero v i = lit< tt
le_small (suc n) v zero = mod-lt v (zero-lt-suc 255)
le_small (suc n) v (suc i) = le_small n (v / 256) i

-- the bytes of a number made of a low part and a high part
pub le_append : (m n a b : ℕ) → a < 256 ^ m → le (m + n) (a + 256 ^ m * b) ≡ le m a ++ le n b
unfolding le
le_append zero n a b h =
    let e : zero + n ≡ n = omega arith in
    let f : a + 256 ^ zero * b ≡ b = omega arith in
    simp (e, f)
le_append (suc m) n a b h =
    let e : suc m + n ≡ suc (m + n) = omega arith in
    let g : 256 ^ suc m ≡ 256 * 256 ^ m = pow-succ' 256 m in
    let f : 256 ^ suc m * b ≡ 256 * (256 ^ m * b) = ap (λ (x : ℕ). x * b) g ∙ mul_assoc 256 (256 ^ m) b in
    let low : (a + 256 ^ suc m * b) % 256 ≡ a % 256 = omega arith in
    let high : (a + 256 ^ suc m * b) / 256 ≡ a / 256 + 256 ^ m * b = omega arith in
    ap (λ (k : ℕ). le k (a + 256 ^ suc m * b)) e
    ∙ ap₂ (λ (x y : ℕ). x ∷ le (m + n) y) low high
    ∙ ap (λ (l : List ℕ). a % 256 ∷ l) (le_append m n (a / 256) b (omega arith))

-- ---- the number of n bytes
-- equal bytes, equal numbers
pub num_ext : (s t : List ℕ) (a b n : ℕ) → ((i : ℕ) → i < n → get_or s (a + i) 0 ≡ get_or t (b + i) 0) → num s a n ≡ num t b n
num_ext s t a b n h = digits_ext 256 (λ i. get_or s (a + i) 0) (λ i. get_or t (b + i) 0) n h

-- the bytes of v as digits
digits_le : (n v : ℕ) → digits 256 (λ i. get_or (le n v) i 0) n ≡ v % 256 ^ n
unfolding le digits
digits_le zero v = sym (mod-one v)
digits_le (suc n) v =
    let m : v % (256 ^ n * 256) ≡ (v / 256 % 256 ^ n) * 256 + v % 256 = mod-mul v (pow_256_pos n) (zero-lt-suc 255) in
    omega (arith, digits_le n (v / 256), m, ap (λ (y : ℕ). v % y) (pow-succ' 256 n ∙ mul_comm 256 (256 ^ n)))
  where
    pow_256_pos : (n : ℕ) → 0 < 256 ^ n
    pow_256_pos zero = zero-lt-suc 0
    pow_256_pos (suc n) = omega (arith, pow_256_pos n, pow-succ' 256 n)

-- bytes that are those of v make the number v
pub num_of : (s : List ℕ) (at n v : ℕ) → ((i : ℕ) → i < n → get_or s (at + i) 0 ≡ get_or (le n v) i 0) → num s at n ≡ v % 256 ^ n
num_of s at n v h = digits_ext 256 (λ i. get_or s (at + i) 0) (λ i. get_or (le n v) i 0) n h ∙ digits_le n v

-- one byte more
num_suc : (s : List ℕ) (at n : ℕ) → num s at (suc n) ≡ get_or s at 0 + 256 * num s (suc at) n
unfolding digits
num_suc s at n =
    ap₂ (λ (x y : ℕ). x + 256 * y) (ap (λ (k : ℕ). get_or s k 0) (add-zero at))
    (digits_ext 256 (λ i. get_or s (at + suc i) 0) (λ i. get_or s (suc at + i) 0) n (λ i l. ap (λ (k : ℕ). get_or s k 0) (omega arith)))

-- a list of bytes from a place on: the bytes of the number there, then the rest
pub drop_num : (s : List ℕ) (at n v : ℕ) → ((i : ℕ) → get_or s i 0 < 256) → at + n ≤ length s → num s at n ≡ v → drop at s ≡ le n v ++ drop (at + n) s
unfolding le
drop_num s at zero v b h e = ap (λ (k : ℕ). drop k s) (sym (add-zero at))
drop_num s at (suc n) v b h e =
    let x : ℕ = get_or s at 0 in
    let y : ℕ = num s (suc at) n in
    let t : x + 256 * y ≡ v = sym (num_suc s at n) ∙ e in
    let low : x ≡ v % 256 = omega (arith, b at) in
    let high : y ≡ v / 256 = omega (arith, b at) in
    let k : suc at + n ≡ at + suc n = omega arith in
    drop-cons s at 0 (omega arith)
    ∙ ap₂ (λ (z : ℕ) (l : List ℕ). z ∷ l) low
    (drop_num s (suc at) n (v / 256) b (omega arith) high ∙ ap (λ (j : ℕ). le n (v / 256) ++ drop j s) k)

-- ---- stores
-- a concatenation is stored part by part
pub sets_append : (xs ys s : List ℕ) (a : ℕ) → sets s a (xs ++ ys) ≡ sets (sets s a xs) (a + length xs) ys
sets_append [] ys s a = let e : a ≡ a + 0 = omega arith in ap (λ (j : ℕ). sets s j ys) e
sets_append (x ∷ xs) ys s a =
    let e : suc a + length xs ≡ a + suc (length xs) = omega arith in
    sets_append xs ys (set s a x) (suc a) ∙ ap (λ (j : ℕ). sets (sets (set s a x) (suc a) xs) j ys) e

-- the second part, by its place
pub sets_join : (xs ys s : List ℕ) (a b : ℕ) → b ≡ a + length xs → sets (sets s a xs) b ys ≡ sets s a (xs ++ ys)
sets_join xs ys s a b e = ap (λ (j : ℕ). sets (sets s a xs) j ys) e ∙ sym (sets_append xs ys s a)

-- one store before the others
set_sets : (ys s : List ℕ) (a x b : ℕ) → a < b → set (sets s b ys) a x ≡ sets (set s a x) b ys
set_sets [] s a x b h = refl
set_sets (y ∷ ys) s a x b h =
    set_sets ys (set s b y) a x (suc b) (omega arith)
    ∙ ap (λ (l : List ℕ). sets l (suc b) ys) (set_comm s b a y x (λ e. omega arith))

-- stores that do not meet may change places
pub sets_comm : (xs ys s : List ℕ) (a b : ℕ) → a + length xs ≤ b → sets (sets s b ys) a xs ≡ sets (sets s a xs) b ys
sets_comm [] ys s a b h = refl
sets_comm (x ∷ xs) ys s a b h =
    ap (λ (l : List ℕ). sets l (suc a) xs) (set_sets ys s a x b (omega arith))
    ∙ sets_comm xs ys (set s a x) (suc a) b (omega arith)

-- a byte before those stored
pub get_or_sets_under : (xs s : List ℕ) (a i : ℕ) → i < a → get_or (sets s a xs) i 0 ≡ get_or s i 0
get_or_sets_under [] s a i h = refl
get_or_sets_under (x ∷ xs) s a i h =
    get_or_sets_under xs (set s a x) (suc a) i (omega arith) ∙ get_or-set_other s a i x 0 (λ e. omega arith)

-- a byte after them
pub get_or_sets_over : (xs s : List ℕ) (a i : ℕ) → a + length xs ≤ i → get_or (sets s a xs) i 0 ≡ get_or s i 0
get_or_sets_over [] s a i h = refl
get_or_sets_over (x ∷ xs) s a i h =
    get_or_sets_over xs (set s a x) (suc a) i (omega arith) ∙ get_or-set_other s a i x 0 (λ e. omega arith)

-- a byte that is stored
pub get_or_sets_in : (xs s : List ℕ) (a i : ℕ) → a + length xs ≤ length s → i < length xs → get_or (sets s a xs) (a + i) 0 ≡ get_or xs i 0
get_or_sets_in [] s a i h l = absurd (omega arith)
get_or_sets_in (x ∷ xs) s a zero h l =
    ap (λ (k : ℕ). get_or (sets (set s a x) (suc a) xs) k 0) (add-zero a)
    ∙ get_or_sets_under xs (set s a x) (suc a) a (omega arith)
    ∙ get_or-set_same s a x 0 (omega arith)
get_or_sets_in (x ∷ xs) s a (suc i) h l =
    let e : a + suc i ≡ suc a + i = omega arith in
    ap (λ (k : ℕ). get_or (sets (set s a x) (suc a) xs) k 0) e
    ∙ get_or_sets_in xs (set s a x) (suc a) i (omega (arith, length-set s a x)) (omega arith)

-- a byte stored into bytes
set_small : (s : List ℕ) (a x : ℕ) → ((i : ℕ) → get_or s i 0 < 256) → x < 256 → (j : ℕ) → get_or (set s a x) j 0 < 256
set_small [] a x hs hx j = hs j
set_small (y ∷ s) zero x hs hx zero = hx
set_small (y ∷ s) zero x hs hx (suc j) = hs (suc j)
set_small (y ∷ s) (suc a) x hs hx zero = hs 0
set_small (y ∷ s) (suc a) x hs hx (suc j) = set_small s a x (λ i. hs (suc i)) hx j

-- bytes stored into bytes are bytes
pub sets_small : (xs s : List ℕ) (a : ℕ) → ((i : ℕ) → get_or s i 0 < 256) → ((i : ℕ) → get_or xs i 0 < 256) → (i : ℕ) → get_or (sets s a xs) i 0 < 256
sets_small [] s a hs hx i = hs i
sets_small (x ∷ xs) s a hs hx i = sets_small xs (set s a x) (suc a) (set_small s a x hs (hx 0)) (λ j. hx (suc j)) i

-- the first bytes are stored over
pub sets_front : (vs s : List ℕ) → length vs ≤ length s → sets s 0 vs ≡ vs ++ drop (length vs) s
sets_front vs s h =
    let e : 0 + length vs ≡ length vs = omega arith in
    sets-eq vs s 0 (omega arith) ∙ ap (λ (k : ℕ). vs ++ drop k s) e

-- what is stored stands there
pub take_sets : (xs s : List ℕ) (a n : ℕ) → a + length xs ≤ length s → length xs ≡ n → take n (drop a (sets s a xs)) ≡ xs
take_sets xs s a n h e =
    let rest : List ℕ = drop (a + length xs) s in
    ap (λ (l : List ℕ). take n (drop a l)) (sets-eq xs s a h ∙ append_assoc (take a s) xs rest)
    ∙ ap (take n) (drop_at (take a s) (xs ++ rest) a (length-take-le a s (omega arith)))
    ∙ take_at xs rest n e

-- a number that is stored
pub num_sets : (s : List ℕ) (a n v : ℕ) → a + n ≤ length s → num (sets s a (le n v)) a n ≡ v % 256 ^ n
num_sets s a n v h =
    num_of (sets s a (le n v)) a n v (λ i l. get_or_sets_in (le n v) s a i (omega (arith, length_le n v)) (omega (arith, length_le n v)))

-- a number inside the bytes stored
pub num_sets_in : (xs s : List ℕ) (a b n : ℕ) → a + length xs ≤ length s → b + n ≤ length xs → num (sets s a xs) (a + b) n ≡ num xs b n
num_sets_in xs s a b n h k =
    num_ext (sets s a xs) xs (a + b) b n (λ i l.
    let e : a + b + i ≡ a + (b + i) = omega arith in
    ap (λ (j : ℕ). get_or (sets s a xs) j 0) e ∙ get_or_sets_in xs s a (b + i) h (omega arith))

-- a number before them
pub num_sets_under : (xs s : List ℕ) (a b n : ℕ) → b + n ≤ a → num (sets s a xs) b n ≡ num s b n
num_sets_under xs s a b n h = num_ext (sets s a xs) s b b n (λ i l. get_or_sets_under xs s a (b + i) (omega arith))

-- two numbers stored side by side are one
pub put_join : (s : List ℕ) (at m n a b : ℕ) → a < 256 ^ m → sets (sets s at (le m a)) (at + m) (le n b) ≡ sets s at (le (m + n) (a + 256 ^ m * b))
put_join s at m n a b h =
    sets_join (le m a) (le n b) s at (at + m) (omega (arith, length_le m a)) ∙ ap (sets s at) (sym (le_append m n a b h))

-- ---- a part that is lent
pub lent_length : (s : List ℕ) (at k n : ℕ) → at + n ≤ length s → k ≡ n → length (take k (drop at s)) ≡ n
lent_length s at k n h e = length-take-le k (drop at s) (omega (arith, length-drop at s)) ∙ e

-- ---- the stores of `put_le` into a part of n bytes: what is still to be stored
pub record Storing (s₀ : List ℕ) (n v : ℕ) (s : List ℕ) (i rest : ℕ) : Type 0 where
  pub within : i ≤ n
  pub same : sets s i (le (n - i) rest) ≡ sets s₀ 0 (le n v)

-- nothing is stored yet
pub storing_none : (s : List ℕ) (n v : ℕ) → Storing s n v s 0 v
storing_none s n v =
    let e : n - 0 ≡ n = omega arith in
    record { within = omega arith; same = ap (λ (k : ℕ). sets s 0 (le k v)) e }

-- one byte more
pub storing_more : (s₀ : List ℕ) (n v : ℕ) (s : List ℕ) (i rest x : ℕ) → Storing s₀ n v s i rest → i < n → x ≡ rest % 256
    → Storing s₀ n v (set s i x) (i + 1) (rest / 256)
unfolding le
storing_more s₀ n v s i rest x w h is =
    let e : suc (n - (i + 1)) ≡ n - i = omega arith in
    let f : i + 1 ≡ suc i = omega arith in
    record {
      within = omega arith;
      same = ap₂ (λ (j y : ℕ). sets (set s i y) j (le (n - (i + 1)) (rest / 256))) f is ∙ ap (λ (k : ℕ). sets s i (le k rest)) e ∙ w.same;
    }

-- nothing is left
pub storing_done : (s₀ : List ℕ) (n v : ℕ) (s : List ℕ) (i rest : ℕ) → Storing s₀ n v s i rest → length s₀ ≡ n → n ≤ i → s ≡ le n v
unfolding le
storing_done s₀ n v s i rest w l h =
    let e : 0 ≡ n - i = omega arith in
    ap (λ (k : ℕ). sets s i (le k rest)) e ∙ w.same
    ∙ sets_front (le n v) s₀ (omega (arith, length_le n v))
    ∙ ap (λ (t : List ℕ). le n v ++ t) (drop_of_length-le s₀ (omega (arith, length_le n v)))
    ∙ append-nil (le n v)

-- ---- the same among other bytes
pub record Putting (s₀ : List ℕ) (at n v : ℕ) (s : List ℕ) (i rest : ℕ) : Type 0 where
  pub within : i ≤ n
  pub long : length s ≡ length s₀
  pub same : sets s (at + i) (le (n - i) rest) ≡ sets s₀ at (le n v)

-- nothing is stored yet
pub putting_none : (s : List ℕ) (at n v : ℕ) → Putting s at n v s 0 v
putting_none s at n v =
    let e : at + 0 ≡ at = omega arith in
    let f : n - 0 ≡ n = omega arith in
    record { within = omega arith; long = refl; same = ap₂ (λ (j k : ℕ). sets s j (le k v)) e f }

-- one byte more
pub putting_more : (s₀ : List ℕ) (at n v : ℕ) (s : List ℕ) (i rest x : ℕ) → Putting s₀ at n v s i rest → i < n → x ≡ rest % 256
    → Putting s₀ at n v (set s (at + i) x) (i + 1) (rest / 256)
unfolding le
putting_more s₀ at n v s i rest x w h is =
    let e : suc (n - (i + 1)) ≡ n - i = omega arith in
    let f : at + (i + 1) ≡ suc (at + i) = omega arith in
    record {
      within = omega arith;
      long = length-set s (at + i) x ∙ w.long;
      same =
          ap₂ (λ (j y : ℕ). sets (set s (at + i) y) j (le (n - (i + 1)) (rest / 256))) f is
          ∙ ap (λ (k : ℕ). sets s (at + i) (le k rest)) e
          ∙ w.same;
    }

-- nothing is left
pub putting_done : (s₀ : List ℕ) (at n v : ℕ) (s : List ℕ) (i rest : ℕ) → Putting s₀ at n v s i rest → n ≤ i → s ≡ sets s₀ at (le n v)
unfolding le
putting_done s₀ at n v s i rest w h =
    let e : 0 ≡ n - i = omega arith in
    ap (λ (k : ℕ). sets s (at + i) (le k rest)) e ∙ w.same

-- ---- a part that was lent and has come back as b: b is stored there
pub part_stored : (s b x : List ℕ) (at k : ℕ) → at + length b ≤ length s → k ≡ length b → x ≡ b → put_mid at k s x ≡ sets s at b
part_stored s b x at k h e p =
    ap (λ (l : List ℕ). take at s ++ (l ++ drop k (drop at s))) p
    ∙ ap (λ (l : List ℕ). take at s ++ (b ++ l)) (drop-drop k at s ∙ ap (λ (m : ℕ). drop (at + m) s) e)
    ∙ sym (append_assoc (take at s) b (drop (at + length b) s))
    ∙ sym (sets-eq b s at h)

-- ---- bytes stored one after another: what is still to be stored
pub record Copying (s₀ : List ℕ) (at : ℕ) (b s : List ℕ) (i : ℕ) : Type 0 where
  pub within : i ≤ length b
  pub long : length s ≡ length s₀
  pub same : sets s (at + i) (drop i b) ≡ sets s₀ at b

-- ---- the stores of `put_word`
-- the bytes of a word, by shifts
eight_bytes : (v : ℕ) → le 8 v
    ≡ v % 256 ∷ v / 2 ^ 8 % 256 ∷ v / 2 ^ 16 % 256 ∷ v / 2 ^ 24 % 256 ∷ v / 2 ^ 32 % 256 ∷ v / 2 ^ 40 % 256 ∷ v / 2 ^ 48 % 256 ∷ v / 2 ^ 56 % 256 ∷ []
unfolding le
eight_bytes v = rw (shr-shr v 8 8, shr-shr v 16 8, shr-shr v 24 8, shr-shr v 32 8, shr-shr v 40 8, shr-shr v 48 8) refl

-- so are the bytes of a word, stored in the part lent for them
pub word_lent : (s x : List ℕ) (at k v : ℕ) → at + 8 ≤ length s → k ≡ 8 → x ≡ to_le_bytes w64 v → put_mid at k s x ≡ sets s at (le 8 v)
word_lent s x at k v h e p =
    part_stored s (le 8 v) x at k (omega (arith, length_le 8 v)) (omega (arith, length_le 8 v)) (p ∙ sym (eight_bytes v))

-- eight stores side by side
eight_stores : (s : List ℕ) (at b0 b1 b2 b3 b4 b5 b6 b7 : ℕ)
    → set (set (set (set (set (set (set (set s at b0) (at + 1) b1) (at + 2) b2) (at + 3) b3) (at + 4) b4) (at + 5) b5) (at + 6) b6) (at + 7) b7
    ≡ sets s at (b0 ∷ b1 ∷ b2 ∷ b3 ∷ b4 ∷ b5 ∷ b6 ∷ b7 ∷ [])
eight_stores s at b0 b1 b2 b3 b4 b5 b6 b7 =
    let e1 : at + 1 ≡ suc at = omega arith in
    let e2 : at + 2 ≡ suc (suc at) = omega arith in
    let e3 : at + 3 ≡ suc (suc (suc at)) = omega arith in
    let e4 : at + 4 ≡ suc (suc (suc (suc at))) = omega arith in
    let e5 : at + 5 ≡ suc (suc (suc (suc (suc at)))) = omega arith in
    let e6 : at + 6 ≡ suc (suc (suc (suc (suc (suc at))))) = omega arith in
    let e7 : at + 7 ≡ suc (suc (suc (suc (suc (suc (suc at)))))) = omega arith in
    rw (e1, e2, e3, e4, e5, e6, e7) refl

-- the eight bytes of a word, one by one
pub word_stores : (s : List ℕ) (at v b0 b1 b2 b3 b4 b5 b6 b7 : ℕ) → b0 ≡ v % 256 → b1 ≡ v / 2 ^ 8 % 256 → b2 ≡ v / 2 ^ 16 % 256 → b3 ≡ v / 2 ^ 24 % 256
    → b4 ≡ v / 2 ^ 32 % 256 → b5 ≡ v / 2 ^ 40 % 256 → b6 ≡ v / 2 ^ 48 % 256 → b7 ≡ v / 2 ^ 56 % 256
    → set (set (set (set (set (set (set (set s at b0) (at + 1) b1) (at + 2) b2) (at + 3) b3) (at + 4) b4) (at + 5) b5) (at + 6) b6) (at + 7) b7
    ≡ sets s at (le 8 v)
word_stores s at v b0 b1 b2 b3 b4 b5 b6 b7 e0 e1 e2 e3 e4 e5 e6 e7 =
    eight_stores s at b0 b1 b2 b3 b4 b5 b6 b7 ∙ rw (e0, e1, e2, e3, e4, e5, e6, e7) (ap (sets s at) (sym (eight_bytes v)))
