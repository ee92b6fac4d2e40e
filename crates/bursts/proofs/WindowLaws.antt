-- Windows over a list of words: the positions that follow a window, the ones that leave and enter, and starts that are ruled out. Assumes nothing.
use mathlib.Core.Path.{◌≡◌, sym, ap, ap₂, subst, ◌∙◌}
use mathlib.Core.List.{List}
use mathlib.Core.Logic.{◌⊎◌, inl, inr}
use Prim.Native.Nat.{ℕ, ◌+◌, ◌-◌, ◌*◌, ◌/◌, ◌%◌, ◌^◌, max, ◌≤◌, ◌<◌}
use native.Mathlib.Omega.{arith}
use lib.ListN.{get_or}
use lib.Bits.{bit_or}
use Rattle.words.specs.Bits.{bit, bit_at, ones}
use Rattle.words.proofs.Sums.{lt_or, sum_mono, sum_split, sum_ext, ones_le, part_ones}
use Rattle.words.proofs.BitLaws.{bit_shr, bit_mod, bit_high, bit_shl_at, bit_shl_below, bit_of_or}
use Rattle.words.proofs.WordLaws.{word_bit, bit_at_le}
use Rattle.std.specs.declared.ops.ControlFlow.{ControlFlow}
use Rattle.std.specs.declared.ops.ControlFlow.TheVariants.{Continue, Break}
use Rattle.bursts.specs.Working.{Holds, Reaches, NoneIn, FirstIn, Passed, Searched, NoneBelow, FirstBelow, NoStart, FirstStart, Following, run_ones, EightRuns}

-- what holds below n and of n
pub below_more : (P : ℕ → Type 0) (n : ℕ) → ((s : ℕ) → s < n → P s) → P n → (s : ℕ) → s < n + 1 → P s
below_more P n h x s l = go (lt_or s n)
  where
    go : (s < n) ⊎ (n ≤ s) → P s
    go (inl q) = h s q
    go (inr q) = let e : n ≡ s = omega arith in subst P e x

-- ---- the bits that follow a bit of a word
-- as two shifts make them
pub following_is : (low high u : ℕ) → low < 2 ^ 64 → u < 64 → Following low high u (bit_or (low / 2 ^ 1 / 2 ^ u) ((high * 2 ^ (63 - u)) % 2 ^ 64))
following_is low high u hl hu =
    record {
      in_low = (λ p l. joined p (omega arith) ∙ omega (arith, ap (bit low) (at p), down p l));
      in_high = (λ p l h. joined p l ∙ omega (arith, gone p h, up p l h));
    }
  where
    at : (p : ℕ) → 1 + (u + p) ≡ u + 1 + p
    at p = omega arith

    joined : (p : ℕ) → p < 64
        → bit (bit_or (low / 2 ^ 1 / 2 ^ u) ((high * 2 ^ (63 - u)) % 2 ^ 64)) p ≡ max (bit low (1 + (u + p))) (bit (high * 2 ^ (63 - u)) p)
    joined p l =
        bit_of_or (low / 2 ^ 1 / 2 ^ u) ((high * 2 ^ (63 - u)) % 2 ^ 64) p
        ∙ ap₂ max (bit_shr (low / 2 ^ 1) u p ∙ bit_shr low 1 (u + p)) (bit_mod (high * 2 ^ (63 - u)) 64 p l)

    -- the next word's bits stand above
    down : (p : ℕ) → u + 1 + p < 64 → bit (high * 2 ^ (63 - u)) p ≡ 0
    down p l = bit_shl_below high (63 - u) p (omega arith)

    -- no bit of the word is left there
    gone : (p : ℕ) → 64 ≤ u + 1 + p → bit low (1 + (u + p)) ≡ 0
    gone p h = bit_high low 64 (1 + (u + p)) hl (omega arith)

    up : (p : ℕ) → p < 64 → 64 ≤ u + 1 + p → bit (high * 2 ^ (63 - u)) p ≡ bit high (u + 1 + p - 64)
    up p l h =
        let e : 63 - u + (u + 1 + p - 64) ≡ p = omega arith in
        ap (bit (high * 2 ^ (63 - u))) (sym e) ∙ bit_shl_at high (63 - u) (u + 1 + p - 64)

-- of the word j that holds the last position of a window from position a on: the positions past the window
module _ (ws : List ℕ) (a w j u high r : ℕ) (e : 64 * j + u + 1 ≡ a + w) (f : Following (get_or ws j 0) high u r) where
  pub past_in_word : (p : ℕ) → a + w + p < 64 * (j + 1) → bit r p ≡ bit_at ws (a + w + p)
  past_in_word p l =
      let at : 64 * j + (u + 1 + p) ≡ a + w + p = omega arith in
      f.in_low p (omega arith) ∙ sym (word_bit ws j (u + 1 + p) (omega arith)) ∙ ap (bit_at ws) at

  pub past_window : u < 64 → high ≡ get_or ws (j + 1) 0 → (p : ℕ) → p < 64 → bit r p ≡ bit_at ws (a + w + p)
  past_window lu eh p l = go (lt_or (a + w + p) (64 * (j + 1)))
    where
      go : (a + w + p < 64 * (j + 1)) ⊎ (64 * (j + 1) ≤ a + w + p) → bit r p ≡ bit_at ws (a + w + p)
      go (inl h) = past_in_word p h
      go (inr h) =
          let at : 64 * (j + 1) + (u + 1 + p - 64) ≡ a + w + p = omega arith in
          f.in_high p l (omega arith)
          ∙ ap (λ (x : ℕ). bit x (u + 1 + p - 64)) eh
          ∙ sym (word_bit ws (j + 1) (u + 1 + p - 64) (omega arith))
          ∙ ap (bit_at ws) at

-- ---- the ones that windows hold
-- no more than they have positions
pub holds_le : (ws : List ℕ) (w a c : ℕ) → Holds ws w a c → c ≤ w
holds_le ws w a c h =
    omega (arith, h, sum_split (bit_at ws) a w, ones_le (λ p. bit_at ws (a + p)) w (λ p. bit_at_le ws (a + p)))

-- 64 positions that are the bits of a word
pub holds_bits : (ws : List ℕ) (a x v : ℕ) → ((p : ℕ) → p < 64 → bit x p ≡ bit_at ws (a + p)) → v ≡ ones (bit x) 64 → Holds ws 64 a v
holds_bits ws a x v bits e = omega (arith, e, part_ones (bit_at ws) (bit x) a 64 64 bits (omega arith))

pub holds_word : (ws : List ℕ) (j v : ℕ) → v ≡ ones (bit (get_or ws j 0)) 64 → Holds ws 64 (64 * j) v
holds_word ws j v e = holds_bits ws (64 * j) (get_or ws j 0) v (λ p l. sym (word_bit ws j p l)) e

-- the ones of a word whose bits are a run of 64 positions, and the runs counted
pub run_word : (ws : List ℕ) (a i x v : ℕ) → ((p : ℕ) → p < 64 → bit x p ≡ bit_at ws (a + 64 * i + p)) → v ≡ ones (bit x) 64 → v ≡ run_ones ws a i
run_word ws a i x v bits e = e ∙ sum_ext (bit x) (λ p. bit_at ws (a + 64 * i + p)) 64 bits

pub holds_run : (ws : List ℕ) (a b i : ℕ) (xs : List ℕ) → b ≡ a + 64 * i → i < 8 → EightRuns ws a xs → Holds ws 64 b (get_or xs i 0)
holds_run ws a b i xs e l r = omega (arith, r.each i l, sum_split (bit_at ws) (a + 64 * i) 64, ap (ones (bit_at ws)) e, ap (λ (q : ℕ). ones (bit_at ws) (q + 64)) e)

-- a window and the 64 positions past it, which hold v
pub holds_wider : (ws : List ℕ) (w a c v : ℕ) → Holds ws w a c → Holds ws 64 (a + w) v → Holds ws (w + 64) a (c + v)
holds_wider ws w a c v h g = let e : a + w + 64 ≡ a + (w + 64) = omega arith in omega (arith, h, g, ap (ones (bit_at ws)) e)

-- such a window, its first 64 positions, which hold x, and the window that starts past these
module _ (ws : List ℕ) (w a b c x : ℕ) (eb : a + 64 ≡ b) (wide : Holds ws (w + 64) a c) (first : Holds ws 64 a x) where
  leaving_le : x ≤ c
  leaving_le = let l : a + 64 ≤ a + (w + 64) = omega arith in omega (arith, wide, first, sum_mono (bit_at ws) l)

  holds_moved : Holds ws w b (c - x)
  holds_moved =
      let e : a + (w + 64) ≡ b + w = omega arith in
      omega (arith, wide, first, leaving_le, ap (ones (bit_at ws)) eb, ap (ones (bit_at ws)) e)

-- ---- starts that are ruled out
-- all windows that start from a to b - 1 lie in positions with too few ones
pub none_short : (ws : List ℕ) (w m a b : ℕ) → ones (bit_at ws) (b + w) < ones (bit_at ws) a + m → NoneIn ws w m a b
none_short ws w m a b h s la lb =
    let e : s + w ≤ b + w = omega arith in
    omega (arith, sum_mono (bit_at ws) la, sum_mono (bit_at ws) e)

pub none_join : (ws : List ℕ) (w m a b c : ℕ) → NoneIn ws w m a b → NoneIn ws w m b c → NoneIn ws w m a c
none_join ws w m a b c f g s la lc = go (lt_or s b)
  where
    go : (s < b) ⊎ (b ≤ s) → ones (bit_at ws) (s + w) < ones (bit_at ws) s + m
    go (inl l) = f s la l
    go (inr l) = g s l lc

pub none_empty : (ws : List ℕ) (w m a b : ℕ) → b ≤ a → NoneIn ws w m a b
none_empty ws w m a b h s la lb = absurd (omega arith)

-- none of a word's first k starts serves where the first window's ones and all that enter are too few
pub bound_none : (f g : ℕ → ℕ) (c m k : ℕ) → k ≤ 64 → c + ones g 64 < m → NoStart f g c m k
bound_none f g c m k lk h d l = let ld : d ≤ 64 = omega arith in omega (arith, sum_mono g ld)

-- ---- windows that start in one word
-- that of position a holds c ones; the bits of x are the positions from a on, the first v bits of e those past the window
module _ (ws : List ℕ) (w a c x e v : ℕ) (holds : Holds ws w a c) (xs : (p : ℕ) → p < 64 → bit x p ≡ bit_at ws (a + p))
    (es : (p : ℕ) → p < v → bit e p ≡ bit_at ws (a + w + p)) where
  -- the ones that leave, and those that enter
  left : (d : ℕ) → d ≤ 64 → ones (bit_at ws) (a + d) ≡ ones (bit_at ws) a + ones (bit x) d
  left d l = part_ones (bit_at ws) (bit x) a 64 d xs l

  entered : (d : ℕ) → d ≤ v → ones (bit_at ws) (a + d + w) ≡ ones (bit_at ws) a + c + ones (bit e) d
  entered d l =
      let at : a + w + d ≡ a + d + w = omega arith in
      omega (arith, ap (ones (bit_at ws)) at, part_ones (bit_at ws) (bit e) (a + w) v d es l, holds)

  -- the starts that were tried
  module _ (m r : ℕ) (lr : r ≤ 64) where
    tried_none : r ≤ v + 1 → NoStart (bit x) (bit e) c m r → NoneIn ws w m a (a + r)
    tried_none lv none s la lb =
        let at : a + (s - a) ≡ s = omega arith in
        let l : s - a < r = omega arith in
        omega (
          arith,
          none (s - a) l,
          ap (ones (bit_at ws)) at,
          ap (λ (q : ℕ). ones (bit_at ws) (q + w)) at,
          left (s - a) (omega arith),
          entered (s - a) (omega arith),
        )

    tried_hit : r ≤ v → m + ones (bit x) r ≤ c + ones (bit e) r → Reaches ws w m (a + r)
    tried_hit lv hit = omega (arith, hit, left r lr, entered r lv)

-- ---- the starts of a word, from its first position a to that of the next, b
module _ (ws : List ℕ) (w m a b : ℕ) (eb : a + 64 ≡ b) where
  -- the window of a and the 64 positions past it hold too few
  pub word_short : (most : ℕ) → Holds ws (w + 64) a most → most < m → NoneIn ws w m a b
  word_short most h l =
      let e : a + (w + 64) ≡ b + w = omega arith in
      none_short ws w m a b (omega (arith, h, ap (ones (bit_at ws)) e))

  -- all 64 tried: the first that serves, or none
  module _ (c x e : ℕ) (h : Holds ws w a c) (xs : (p : ℕ) → p < 64 → bit x p ≡ bit_at ws (a + p))
      (es : (p : ℕ) → p < 64 → bit e p ≡ bit_at ws (a + w + p)) where
    pub word_tried : (d : ℕ) → FirstStart (bit x) (bit e) c m 64 d → FirstIn ws w m a b (a + d)
    word_tried d first =
        let l : d ≤ 64 = omega (arith, first.before) in
        record {
          start = omega arith;
          before = omega (arith, first.before);
          none = tried_none ws w a c x e 64 h xs es m d l (omega arith) first.none;
          hit = tried_hit ws w a c x e 64 h xs es m d l l first.hit;
        }

    pub word_none : NoStart (bit x) (bit e) c m 64 → NoneIn ws w m a b
    word_none none = subst (NoneIn ws w m a) eb (tried_none ws w a c x e 64 h xs es m 64 (omega arith) (omega arith) none)

-- ---- a search from the left
pub passed_none : (ws : List ℕ) (w m a b c : ℕ) → a ≡ b → Holds ws w a c → Passed ws w m a b c
passed_none ws w m a b c e h = record { none = none_empty ws w m a b (omega arith); holds = subst (λ (q : ℕ). Holds ws w q c) e h }

-- a search that found none
pub searched_passed : {ws : List ℕ} {w m a b c : ℕ} → Searched ws w m a b (Continue c) → Passed ws w m a b c
searched_passed f = f

module _ {ws : List ℕ} {w m a k c : ℕ} (p : Passed ws w m a k c) where
  -- none of the 64 starts from k on serves: the window moves on by the 64 positions past it, which hold v, and its first 64, which hold x
  module _ (b v x : ℕ) (eb : k + 64 ≡ b) (enters : Holds ws 64 (k + w) v) (leaves : Holds ws 64 k x) where
    pub passed_le : x ≤ c + v
    passed_le = leaving_le ws w k b (c + v) x eb (holds_wider ws w k c v p.holds enters) leaves

    pub passed_more : NoneIn ws w m k b → Passed ws w m a b (c + v - x)
    passed_more none =
        record {
          none = none_join ws w m a k b p.none none;
          holds = holds_moved ws w k b (c + v) x eb (holds_wider ws w k c v p.holds enters) leaves;
        }

  -- a first start past these, before b, is the first of all
  pub searched_found : (b n r : ℕ) → FirstIn ws w m k b r → a ≤ k → b ≤ n → FirstIn ws w m a n r
  searched_found b n r f la lb =
      record { start = omega (arith, f.start); before = omega (arith, f.before); none = none_join ws w m a k r p.none f.none; hit = f.hit }

  -- none was found: k is the end
  pub searched_none : (n : ℕ) → k ≡ n → Passed ws w m a n c
  searched_none n e = subst (λ (q : ℕ). Passed ws w m a q c) e p

  -- after these a search up to b, which found none
  pub passed_over : (b count : ℕ) → Passed ws w m k b count → Passed ws w m a b count
  passed_over b count q = record { none = none_join ws w m a k b p.none q.none; holds = q.holds }

  -- or to the end
  pub searched_after : (n : ℕ) (s : ControlFlow ℕ ℕ) → Searched ws w m k n s → a ≤ k → Searched ws w m a n s
  searched_after n (Continue count) f la = passed_over n count f
  searched_after n (Break r) f la = searched_found n n r f la (omega arith)

-- ---- windows that end at or before n
-- a start that a search over whole words found
pub below_found : (ws : List ℕ) (n w m b r : ℕ) → b + w ≤ n → FirstIn ws w m 0 b r → FirstBelow ws n w m r
below_found ws n w m b r lb f = record { inside = omega (arith, f.before); none = f.none; hit = f.hit }

-- the last starts: from the first position a of a word to a + k, where the window ends at n; d is the first of them that serves
module _ (ws : List ℕ) (n w m a k c x e : ℕ) (en : n ≡ a + w + k) (lk : k < 64) (p : Passed ws w m 0 a c)
    (xs : (q : ℕ) → q < 64 → bit x q ≡ bit_at ws (a + q)) (es : (q : ℕ) → q < 64 → a + w + q < n → bit e q ≡ bit_at ws (a + w + q)) where
  enters : (q : ℕ) → q < k → bit e q ≡ bit_at ws (a + w + q)
  enters q l = es q (omega arith) (omega arith)

  ruled : (d : ℕ) → d ≤ k + 1 → NoStart (bit x) (bit e) c m d → NoneIn ws w m 0 (a + d)
  ruled d l none = none_join ws w m 0 a (a + d) p.none (tried_none ws w a c x e k p.holds xs enters m d (omega arith) l none)

  pub last_start : (d : ℕ) → FirstStart (bit x) (bit e) c m (k + 1) d → FirstBelow ws n w m (a + d)
  last_start d first =
      let l : d ≤ k = omega (arith, first.before) in
      record {
        inside = omega arith;
        none = ruled d (omega arith) first.none;
        hit = tried_hit ws w a c x e k p.holds xs enters m d (omega arith) l first.hit;
      }

  -- or none serves
  pub last_none : NoStart (bit x) (bit e) c m (k + 1) → NoneBelow ws n w m
  last_none none s l = ruled (k + 1) (omega arith) none s (omega arith) (omega arith)
