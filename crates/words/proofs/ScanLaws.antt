-- The nearest position that holds a value: `FirstFrom` and `LastBefore` against the definitions of next and prior, in one word, and from word to word.
-- Assumes nothing.
use Rattle.std.proofs.Common.{◌≡◌, ℕ, zero, suc, ◌+◌, ◌-◌, ◌*◌, ◌/◌, ◌%◌, ◌^◌, ◌<◌, ◌≤◌, Bool, true, false, ◌&&◌, eqb, leb, ◌⊎◌, List, get_or, sym, refl, ap, ◌∙◌, subst, inl, inr, zero-le, le_refl, div-one, one-add, arith, eq-eqb, eqb-true, le-leb, leb-true}
use mathlib.Core.Option.{some, none}
use native.Mathlib.Decide.{ℕ_discrete}
use lib.Count.{count_leading_zeros, leading_top, count_trailing_zeros, under}
use Rattle.words.specs.Bits.{bit, bit_at, ones}
use Rattle.words.specs.Strip.{holds, successor_of, predecessor_of}
use Rattle.words.specs.Working.{WordPut, Matched, FirstFrom, LastBefore}
use Rattle.words.proofs.BoolLaws.{and_intro, and_first, and_second}
use Rattle.words.proofs.Sums.{lt_or, rank_one}
use Rattle.words.proofs.BitLaws.{bit_le, bit_shr, bit_high, bit_top}
use Rattle.words.proofs.WordLaws.{holds_yes, holds_no, word_bit}
use Rattle.words.proofs.SearchLaws.{least_at, least_none, greatest_at, greatest_none}

-- none of the positions from i to e - 1 holds v
abbrev pub Clear : (ℕ → ℕ) → ℕ → ℕ → ℕ → Type 0
Clear f v i e = (p : ℕ) → i ≤ p → p < e → f p ≡ v → ⊥

-- ---- the definitions of next and prior

-- a test that does not hold is false
refuted : (b : Bool) → (b ≡ true → ⊥) → b ≡ false
refuted true h = absurd (h refl)
refuted false h = refl

-- where no position from i to e - 1 holds v, none below e passes next's test
none_passes : (f : ℕ → ℕ) (v i e : ℕ) → Clear f v i e → (q : ℕ) → q < e → (leb i q && eqb (f q) v) ≡ false
none_passes f v i e h q l =
    refuted (leb i q && eqb (f q) v)
    (λ t. h q (leb-true i q (and_first (leb i q) (eqb (f q) v) t)) l (eqb-true (f q) v (and_second (leb i q) (eqb (f q) v) t)))

-- an answer below n is what next gives
pub first_from_some : (f : ℕ → ℕ) (n v i r : ℕ) → FirstFrom f n v i r → r < n → successor_of f n v i ≡ some r
first_from_some f n v i r h l =
    least_at (λ p. leb i p && eqb (f p) v) n r
    (record { below = l; passes = and_intro (le-leb i r h.start) (eq-eqb (f r) v (h.hit l)); first = none_passes f v i r h.clear })

-- the answer n is next's none
pub first_from_none : (f : ℕ → ℕ) (n v i r : ℕ) → FirstFrom f n v i r → r ≡ n → successor_of f n v i ≡ none
first_from_none f n v i r h e =
    least_none (λ p. leb i p && eqb (f p) v) n (λ q l. none_passes f v i r h.clear q (subst (λ (m : ℕ). q < m) (sym e) l))

-- an answer above 0 is one past what prior gives
pub last_before_some : (f : ℕ → ℕ) (v i r q : ℕ) → LastBefore f v i r → r ≡ suc q → predecessor_of f v i ≡ some q
last_before_some f v i r q h e =
    greatest_at (λ p. eqb (f p) v) i q (omega (arith, h.within)) (eq-eqb (f q) v (h.hit q e))
    (λ p a l. refuted (eqb (f p) v) (λ t. h.clear p (omega arith) l (eqb-true (f p) v t)))

-- the answer 0 is prior's none
pub last_before_none : (f : ℕ → ℕ) (v i r : ℕ) → LastBefore f v i r → r ≡ 0 → predecessor_of f v i ≡ none
last_before_none f v i r h e =
    greatest_none (λ p. eqb (f p) v) i (λ p l. refuted (eqb (f p) v) (λ t. h.clear p (omega arith) l (eqb-true (f p) v t)))

-- ---- from part to whole

-- no v from i on
pub onward_end : (f : ℕ → ℕ) (n v i : ℕ) → i ≤ n → Clear f v i n → FirstFrom f n v i n
onward_end f n v i l h = record { start = l; within = le_refl n; clear = h; hit = (λ u. absurd (omega arith)) }

-- ---- one word

-- a number of k bits that is not 0 has a highest one, which the machine's count of leading zeros tells
top_one : (k x : ℕ) → x < 2 ^ k → (x ≡ 0 → ⊥) → (j : ℕ) × (count_leading_zeros k x + suc j ≡ k) × (bit x j ≡ 1) × (x < 2 ^ suc j)
top_one k x h n =
    let t = leading_top k x (omega (arith, n)) h in
    (t.0, t.1, bit_top x t.0 t.2 t.3, t.3)

-- a word other than 0 has a one
pub some_one : (x : ℕ) → x < 2 ^ 64 → (x ≡ 0 → ⊥) → 0 < ones (bit x) 64
some_one x h n =
    let t = top_one 64 x h n in
    omega (arith, rank_one (bit x) t.0 64 t.2 (omega (arith, t.1)))

-- k less the leading zeros: one past the last one
pub leading_last : (k x : ℕ) → x < 2 ^ k → (x ≡ 0 → ⊥) → (0 < k - count_leading_zeros k x) × LastBefore (bit x) 1 k (k - count_leading_zeros k x)
leading_last k x h n =
    let t = top_one k x h n in (
      omega (arith, t.1),
      record {
        within = omega arith;
        clear = (λ p l u o. omega (arith, bit_high x (suc t.0) p t.3 (omega (arith, t.1))));
        hit = (λ q e. let s : q ≡ t.0 = omega (arith, t.1) in ap (bit x) s ∙ t.2);
      },
    )

-- the machine's count of trailing zeros among the low k bits: the first one, or k
trailing_from : (k x : ℕ) → FirstFrom (bit x) k 1 0 (count_trailing_zeros k x)
unfolding count_trailing_zeros
trailing_from zero x = onward_end (bit x) 0 1 0 zero-le (λ p l u e. omega arith)
trailing_from (suc k) x = go (x % 2) (ap (λ (n : ℕ). n % 2) (div-one x)) (trailing_from k (x / 2))
  where
    half : (p : ℕ) → bit (x / 2) p ≡ bit x (suc p)
    half p = bit_shr x 1 p ∙ ap (bit x) (one-add p)

    zeros : (t : ℕ) → bit x 0 ≡ 0 → Clear (bit (x / 2)) 1 0 t → Clear (bit x) 1 0 (suc t)
    zeros t z h zero l u e = omega arith
    zeros t z h (suc p) l u e = h p zero-le (omega arith) (half p ∙ e)

    go : (d : ℕ) → bit x 0 ≡ d → FirstFrom (bit (x / 2)) k 1 0 (count_trailing_zeros k (x / 2))
        → FirstFrom (bit x) (suc k) 1 0 (under d (count_trailing_zeros k (x / 2)))
    go zero e o =
        let t : ℕ = count_trailing_zeros k (x / 2) in
        record {
          start = zero-le;
          within = omega (arith, o.within);
          clear = zeros t e o.clear;
          hit = (λ l. sym (half t) ∙ o.hit (omega arith));
        }
    go (suc d) e o =
        record { start = zero-le; within = zero-le; clear = (λ p l u h. omega arith); hit = (λ l. omega (arith, bit_le x 0)) }

-- of a number of k bits that is not 0: the first one
pub trailing_first : (k x : ℕ) → x < 2 ^ k → (x ≡ 0 → ⊥) → (count_trailing_zeros k x < k) × FirstFrom (bit x) k 1 0 (count_trailing_zeros k x)
trailing_first k x h n = (go (lt_or (count_trailing_zeros k x) k), trailing_from k x)
  where
    go : (count_trailing_zeros k x < k) ⊎ (k ≤ count_trailing_zeros k x) → count_trailing_zeros k x < k
    go (inl l) = l
    go (inr l) =
        let t = top_one k x h n in
        absurd ((trailing_from k x).clear t.0 zero-le (omega (arith, t.1)) t.2)

-- ---- a word among words

-- position a + p is bit p of the word: the ones of x are the places of v among the positions from i to e - 1
pub record Marked (f : ℕ → ℕ) (v a i e x : ℕ) : Type 0 where
  pub start : a ≤ i
  pub end : e ≤ a + 64
  pub above : (p : ℕ) → p < 64 → bit x p ≡ 1 → i ≤ a + p
  pub below : (p : ℕ) → p < 64 → bit x p ≡ 1 → a + p < e
  pub held : (p : ℕ) → p < 64 → bit x p ≡ 1 → f (a + p) ≡ v
  pub every : (p : ℕ) → i ≤ a + p → a + p < e → f (a + p) ≡ v → bit x p ≡ 1

-- the word of the bits of word j that equal v; k is the next word
pub marked_word : (ws : List ℕ) (j k v x : ℕ) → k ≡ j + 1 → Matched (get_or ws j 0) v x → Marked (bit_at ws) v (64 * j) (64 * j) (64 * k) x
marked_word ws j k v x s h =
    record {
      start = le_refl (64 * j);
      end = omega arith;
      above = (λ p l b. omega arith);
      below = (λ p l b. omega arith);
      held = (λ p l b. word_bit ws j p l ∙ holding p (sym (h p l) ∙ b) (ℕ_discrete (bit (get_or ws j 0) p) v));
      every = (λ p l u b.
          let t : p < 64 = omega arith in
          h p t ∙ holds_yes (bit (get_or ws j 0)) v p (sym (word_bit ws j p t) ∙ b));
    }
  where
    holding : (p : ℕ) → holds (bit (get_or ws j 0)) v p ≡ 1 → Dec (bit (get_or ws j 0) p ≡ v) → bit (get_or ws j 0) p ≡ v
    holding p b (yes d) = d
    holding p b (no d) = absurd (omega (arith, b, holds_no (bit (get_or ws j 0)) v p d))

-- with the bits from position i on cleared
marked_high : (f : ℕ → ℕ) (v a e s i x r : ℕ) → a + s ≡ i → i ≤ e → Marked f v a a e x → WordPut x s 64 0 r → Marked f v a a i r
marked_high f v a e s i x r g h m w =
    record {
      start = m.start;
      end = omega (arith, m.end);
      above = (λ p l b. omega arith);
      below = (λ p l b. omega (arith, upto p l b (lt_or p s)));
      held = (λ p l b. m.held p l (sym (w.under p (upto p l b (lt_or p s))) ∙ b));
      every = (λ p l u b. w.under p (omega arith) ∙ m.every p l (omega arith) b);
    }
  where
    upto : (p : ℕ) → p < 64 → bit r p ≡ 1 → (p < s) ⊎ (s ≤ p) → p < s
    upto p l b (inl u) = u
    upto p l b (inr u) = absurd (omega (arith, w.inside p u l))

-- the word of position i, below i
pub marked_under : (ws : List ℕ) (v i x r : ℕ) → Matched (get_or ws (i / 64) 0) v x → WordPut x (i % 64) 64 0 r
    → Marked (bit_at ws) v (64 * (i / 64)) (64 * (i / 64)) i r
marked_under ws v i x r h w =
    marked_high (bit_at ws) v (64 * (i / 64)) (64 * (i / 64 + 1)) (i % 64) i x r (omega arith) (omega arith)
    (marked_word ws (i / 64) (i / 64 + 1) v x refl h) w

module _ (f : ℕ → ℕ) (v a i e x : ℕ) (m : Marked f v a i e x) where
  -- a place of v is a one of the word
  marked_at : (p : ℕ) → i ≤ p → p < e → f p ≡ v → bit x (p - a) ≡ 1
  marked_at p l u h =
      let s : a + (p - a) ≡ p = omega (arith, m.start) in
      m.every (p - a) (omega arith) (omega arith) (ap f s ∙ h)

  -- the word has no ones: there is no v
  pub marked_none : Clear (bit x) 1 0 64 → Clear f v i e
  marked_none z p l u h = z (p - a) zero-le (omega (arith, m.start, m.end)) (marked_at p l u h)

  -- its lowest one: the first v
  pub marked_first : (r : ℕ) → r < 64 → FirstFrom (bit x) 64 1 0 r → FirstFrom f e v i (a + r)
  marked_first r l o =
      let under : a + r < e = m.below r l (o.hit l) in
      record {
        start = m.above r l (o.hit l);
        within = omega arith;
        clear = (λ p b u h. o.clear (p - a) zero-le (omega (arith, m.start)) (marked_at p b (omega arith) h));
        hit = (λ u. m.held r l (o.hit l));
      }

  -- one past its highest one: one past the last v
  pub marked_last : (r : ℕ) → 0 < r → LastBefore (bit x) 1 64 r → LastBefore f v e (a + r)
  marked_last zero l b = absurd (omega arith)
  marked_last (suc q) l b =
      let one : bit x q ≡ 1 = b.hit q refl in
      let over : i ≤ a + q = m.above q b.within one in
      record {
        within = omega (arith, m.below q b.within one);
        clear = (λ p c u h. b.clear (p - a) (omega arith) (omega (arith, m.start, m.end)) (marked_at p (omega arith) u h));
        hit = (λ t h. let s : t ≡ a + q = omega arith in ap f s ∙ m.held q b.within one);
      }
