-- What a change leaves: the strip that the changed words hold, that the record fits again, and that it is then the one laid afresh.
-- Assumes nothing.
use Rattle.std.proofs.Common.{◌≡◌, ℕ, ◌+◌, ◌-◌, ◌*◌, ◌/◌, ◌^◌, ◌<◌, ◌≤◌, Bool, true, false, cond, ◌&&◌, eqb, ltb, leb, ◌⊎◌, List, [], ◌∷◌, ◌++◌, length, get_or, take, set, sym, refl, ap, ◌∙◌, ap₂, inl, inr, le_refl, mod-eq_of_lt, arith, length-append, length-set, length-take-le, get_or-set_other, get_or-take, get_or-set_same, get_or-append-add, le-ltb, lt-ltb, eq-eqb, ne_eqb, le-leb}
use native.Mathlib.Decide.{ℕ_discrete}
use lib.ListN.{get_or-append}
use lib.Seq.{get_or-append_seam}
use borrow.Author.Tests.{lt-leb}
use Rattle.words.specs.Bits.{bit_at, ones, list_of}
use Rattle.words.specs.Strip.{cell, strip_of, PastZero, holds, rank_of, total_of}
use Rattle.words.specs.Handles.{handle}
use Rattle.words.specs.Working.{RangePut}
use Rattle.words.proofs.Sums.{lt_or, sum_more, sum_flat, list_of_is, length_list_of, get_or_list_of}
use Rattle.words.proofs.WordLaws.{bit_at_past, holds_yes, holds_no, holds_one}
use Rattle.words.proofs.SearchLaws.{rank_ext}
use Rattle.words.proofs.StripLaws.{total_rank, strip_length, strip_cell, strip_total}
use Rattle.counters.specs.Tree.{blocks_of, counter, counter_count, index_of, counts}
use Rattle.counters.specs.Record.{packed_words, built_counters, AllFit}
use Rattle.counters.specs.Working.{moved_by, PathMovedBy}
use Rattle.counters.specs.Promises.{done, outcome, BitPut, PathMoved}
use Rattle.counters.specs.Calls.{rebuilt, filled}
use Rattle.counters.proofs.FlipLaws.{OneMore, ones_flip, counter_flip}
use Rattle.counters.proofs.AfreshLaws.{counter_ext, counter_lt, fits_built}

-- ---- one position written
-- the positions but p stay
pub put_other : (ws vs : List ℕ) (p b : ℕ) → RangePut ws p (p + 1) b vs → (q : ℕ) → (q ≡ p → ⊥) → bit_at vs q ≡ bit_at ws q
put_other ws vs p b put q d = go (lt_or q p)
  where
    go : (q < p) ⊎ (p ≤ q) → bit_at vs q ≡ bit_at ws q
    go (inl a) = put.under q a
    go (inr a) = put.over q (omega arith)

-- ---- the strip after a change
pub push_strip : (ws vs : List ℕ) (n v : ℕ) → RangePut ws n (n + 1) v vs → strip_of vs (n + 1) ≡ strip_of ws n ++ (v ∷ [])
push_strip ws vs n v put =
    list_of_is (bit_at vs) (n + 1) (strip_of ws n ++ (v ∷ []))
    (length-append (strip_of ws n) (v ∷ []) ∙ ap (λ (m : ℕ). m + 1) (strip_length ws n)) (λ p l. each p l (lt_or p n))
  where
    each : (p : ℕ) → p < n + 1 → (p < n) ⊎ (n ≤ p) → bit_at vs p ≡ get_or (strip_of ws n ++ (v ∷ [])) p 0
    each p l (inl a) =
        put.under p a ∙ sym (strip_cell ws n p a) ∙ sym (get_or-append (strip_of ws n) (v ∷ []) 0 p (omega (arith, strip_length ws n)))
    each p l (inr a) =
        let e : length (strip_of ws n) + 0 ≡ p = omega (arith, strip_length ws n) in
        put.inside p a l ∙ sym (ap (λ (j : ℕ). get_or (strip_of ws n ++ (v ∷ [])) j 0) (sym e) ∙ get_or-append-add (strip_of ws n) (v ∷ []) 0 0)

pub flip_strip : (ws vs : List ℕ) (n i b : ℕ) → i < n → RangePut ws i (i + 1) b vs → strip_of vs n ≡ set (strip_of ws n) i b
flip_strip ws vs n i b h put =
    list_of_is (bit_at vs) n (set (strip_of ws n) i b) (length-set (strip_of ws n) i b ∙ strip_length ws n) (λ p l. each p l (ℕ_discrete p i))
  where
    each : (p : ℕ) → p < n → Dec (p ≡ i) → bit_at vs p ≡ get_or (set (strip_of ws n) i b) p 0
    each p l (yes e) =
        put.inside p (omega arith) (omega arith)
        ∙ sym (ap (λ (q : ℕ). get_or (set (strip_of ws n) i b) q 0) e ∙ get_or-set_same (strip_of ws n) i b 0 (omega (arith, strip_length ws n)))
    each p l (no d) = put_other ws vs i b put p d ∙ sym (strip_cell ws n p l) ∙ sym (get_or-set_other (strip_of ws n) i p b 0 d)

-- a range written
pub fill_strip : (ws us : List ℕ) (n a b v : ℕ) → RangePut ws a b v us → strip_of us n ≡ filled (strip_of ws n) a b v
unfolding filled
fill_strip ws us n a b v put =
    list_of_is (bit_at us) n (list_of new (length (strip_of ws n))) (length_list_of new (length (strip_of ws n)) ∙ strip_length ws n)
    (λ p l. inside p l (lt_or p a) (lt_or p b) ∙ sym (get_or_list_of new (length (strip_of ws n)) p (omega (arith, strip_length ws n))))
  where
    new : ℕ → ℕ
    new p = cond (leb a p && ltb p b) v (cell (strip_of ws n) p)

    inside : (p : ℕ) → p < n → (p < a) ⊎ (a ≤ p) → (p < b) ⊎ (b ≤ p) → bit_at us p ≡ new p
    inside p l (inl x) y = put.under p x ∙ sym (strip_cell ws n p l) ∙ sym (simp (lt-leb a p x))
    inside p l (inr x) (inl y) = put.inside p x y ∙ sym (simp (le-leb a p x, lt-ltb p b y))
    inside p l (inr x) (inr y) = put.over p y ∙ sym (strip_cell ws n p l) ∙ sym (simp (le-leb a p x, le-ltb p b y))

-- fewer of the bits
pub cut_strip : (ws : List ℕ) (n m : ℕ) → m ≤ n → strip_of ws m ≡ take m (strip_of ws n)
cut_strip ws n m h =
    list_of_is (bit_at ws) m (take m (strip_of ws n)) (length-take-le m (strip_of ws n) (omega (arith, strip_length ws n)))
    (λ p l. sym (strip_cell ws n p (omega arith)) ∙ sym (get_or-take m (strip_of ws n) p 0 l))

-- a range past them written
pub put_past_strip : (us vs : List ℕ) (n e b : ℕ) → RangePut us n e b vs → strip_of vs n ≡ strip_of us n
put_past_strip us vs n e b put = list_of_is (bit_at vs) n (strip_of us n) (strip_length us n) (λ p l. put.under p l ∙ sym (strip_cell us n p l))

-- ---- bits past the length after a change
pub put_clean : (ws vs : List ℕ) (a e n b : ℕ) → RangePut ws a e b vs → e ≤ n → PastZero ws n → PastZero vs n
put_clean ws vs a e n b put h clean p l = put.over p (omega arith) ∙ clean p l

pub wipe_clean : (us vs : List ℕ) (n e : ℕ) → RangePut us n e 0 vs → 64 * length us ≤ e → PastZero vs n
wipe_clean us vs n e wipe h p l = go (lt_or p e)
  where
    go : (p < e) ⊎ (e ≤ p) → bit_at vs p ≡ 0
    go (inl a) = wipe.inside p l a
    go (inr a) = bit_at_past vs p (omega (arith, wipe.long))

-- ---- counters after a change
-- where moving by d takes each counter for f to that for g
moved_fits : (f g : ℕ → ℕ) (n p d : ℕ) (cs ds : List ℕ)
    → ((t j i : ℕ) → 1 ≤ t → i < 72 → moved_by (counts t j i p) d (counter f t j i) ≡ counter g t j i)
    → AllFit f n cs → PathMovedBy n p d cs ds → AllFit g n ds
moved_fits f g n p d cs ds step fit path t j i a b x y =
    path.each t j i a b x y ∙ ap (moved_by (counts t j i p) d) (fit t j i a b x y) ∙ step t j i a y

-- one bit more, every counter that counts it one more
pub raised_fits : (f g : ℕ → ℕ) (n p : ℕ) (cs ds : List ℕ) → OneMore f g p → ((q : ℕ) → g q ≤ 1) → ((q : ℕ) → 134217728 ≤ q → g q ≡ 0)
    → AllFit f n cs → PathMovedBy n p 1 cs ds → AllFit g n ds
raised_fits f g n p cs ds more small high =
    moved_fits f g n p 1 cs ds (λ t j i a y. step t j i (counts t j i p) (counter_flip more t j i a y) (counter_lt g t j i y small high))
  where
    step : (t j i : ℕ) (s : Bool) → counter g t j i ≡ counter f t j i + cond s 1 0 → counter g t j i < 2 ^ 32 → moved_by s 1 (counter f t j i) ≡ counter g t j i
    step t j i true e l = mod-eq_of_lt (omega arith) ∙ sym e
    step t j i false e l = omega arith

-- one bit less, every counter that counts it one less
pub lowered_fits : (f g : ℕ → ℕ) (n p : ℕ) (cs ds : List ℕ) → OneMore g f p → ((q : ℕ) → f q ≤ 1) → ((q : ℕ) → 134217728 ≤ q → f q ≡ 0)
    → AllFit f n cs → PathMovedBy n p 4294967295 cs ds → AllFit g n ds
lowered_fits f g n p cs ds more small high =
    moved_fits f g n p 4294967295 cs ds (λ t j i a y. step t j i (counts t j i p) (counter_flip more t j i a y) (counter_lt f t j i y small high))
  where
    step : (t j i : ℕ) (s : Bool) → counter f t j i ≡ counter g t j i + cond s 1 0 → counter f t j i < 2 ^ 32 → moved_by s 4294967295 (counter f t j i) ≡ counter g t j i
    step t j i true e l = omega arith
    step t j i false e l = omega arith

-- the same bits, the same counters
pub same_fits : (f g : ℕ → ℕ) (n : ℕ) (cs : List ℕ) → ((p : ℕ) → f p ≡ g p) → AllFit f n cs → AllFit g n cs
same_fits f g n cs e fit t j i a b x y = fit t j i a b x y ∙ counter_ext f g t j i e

-- one position written to 1 that was 0
pub put_more : (ws vs : List ℕ) (p : ℕ) → bit_at ws p ≡ 0 → RangePut ws p (p + 1) 1 vs → OneMore (bit_at ws) (bit_at vs) p
put_more ws vs p old put = record { up = put.inside p (le_refl p) (omega arith) ∙ omega (arith, old); else = put_other ws vs p 1 put }

-- one position written to 0 that was 1
pub put_less : (ws vs : List ℕ) (p : ℕ) → bit_at ws p ≡ 1 → RangePut ws p (p + 1) 0 vs → OneMore (bit_at vs) (bit_at ws) p
put_less ws vs p old put =
    record { up = old ∙ omega (arith, put.inside p (le_refl p) (omega arith)); else = (λ q d. sym (put_other ws vs p 0 put q d)) }

pub put_bit : (ws vs : List ℕ) (p b : ℕ) → RangePut ws p (p + 1) b vs → BitPut p b ws vs
put_bit ws vs p b put = record { long = put.long; here = put.inside p (le_refl p) (omega arith); there = put_other ws vs p b put }

pub path_moved : (n p d : ℕ) (cs ds : List ℕ) → PathMovedBy n p d cs ds → PathMoved n p cs ds
path_moved n p d cs ds path =
    record {
      long = path.long;
      off = (λ t j i a b x y e. path.each t j i a b x y ∙ ap (λ (s : Bool). moved_by s d (get_or cs (index_of n t j i) 0)) e);
    }

-- ---- the record laid afresh
pub rebuilt_is : (c m t x y : ℕ) (s vs ds : List ℕ) → strip_of vs m ≡ s → length vs ≡ c / 64 → length ds ≡ counter_count (blocks_of c)
    → ((k : ℕ) → get_or vs k 0 < 2 ^ 64) → PastZero vs m → AllFit (bit_at vs) (blocks_of c) ds → t ≡ total_of s
    → outcome (done (handle c m t) x y) vs ds ≡ rebuilt c s x y
rebuilt_is c m t x y s vs ds e lv ld small clean fit count =
    let held : t ≡ total_of (strip_of vs m) = count ∙ ap total_of (sym e) in
    let built = fits_built (handle c m t) vs ds lv ld small (record { clean = clean; right = fit; held = held }) in
    let n : m ≡ length s = sym (strip_length vs m) ∙ ap length e in
    ap₂ (λ (h : ℕ) (w : List ℕ). outcome (done (handle c h t) x y) w ds) n (built.0 ∙ ap (packed_words c) e)
    ∙ ap₂ (λ (u : ℕ) (d : List ℕ). outcome (done (handle c (length s) u) x y) (packed_words c s) d) count (built.1 ∙ ap (built_counters c) e)

-- ---- the ones held
pub held_ones : (vs : List ℕ) (n c : ℕ) (s : List ℕ) → strip_of vs n ≡ s → n ≤ c → PastZero vs n → ones (bit_at vs) c ≡ total_of s
held_ones vs n c s e h clean = sum_flat (bit_at vs) n c h clean ∙ sym (strip_total vs n) ∙ ap total_of e

-- ---- the total after a change
-- a bit appended is added
pub push_total : (s : List ℕ) (v : ℕ) → v ≤ 1 → total_of (s ++ (v ∷ [])) ≡ total_of s + v
push_total s v small =
    total_rank (s ++ (v ∷ [])) (length s + 1) (length-append s (v ∷ []))
    ∙ omega (
      arith,
      sum_more (holds (cell (s ++ (v ∷ []))) 1) (length s),
      rank_ext (cell (s ++ (v ∷ []))) (cell s) 1 (length s) (λ p l. get_or-append s (v ∷ []) 0 p l),
      total_rank s (length s) refl,
      holds_one (cell (s ++ (v ∷ []))) (length s) (omega (arith, last)),
      last,
    )
  where
    last : cell (s ++ (v ∷ [])) (length s) ≡ v
    last = get_or-append_seam s v [] 0

-- a one more where there was none
one_more : (s t : List ℕ) (i : ℕ) → length t ≡ length s → i < length s → cell s i ≡ 0 → cell t i ≡ 1 → ((q : ℕ) → (q ≡ i → ⊥) → cell t q ≡ cell s q)
    → total_of t ≡ total_of s + 1
one_more s t i long below old new rest =
    let more : OneMore (holds (cell s) 1) (holds (cell t) 1) i =
    record {
      up = omega (arith, holds_yes (cell t) 1 i new, holds_no (cell s) 1 i (λ e. omega arith));
      else = (λ q d. ap (λ (x : ℕ). cond (eqb x 1) 1 0) (rest q d));
    } in
    total_rank t (length s) long ∙ ones_flip more (length s) ∙ ap (λ (b : Bool). rank_of (cell s) 1 (length s) + cond b 1 0) (lt-ltb i (length s) below)
    ∙ ap (λ (x : ℕ). x + 1) (sym (total_rank s (length s) refl))

-- a bit turned moves it by one
pub set_total : (s : List ℕ) (i : ℕ) → i < length s → cell s i ≤ 1
    → total_of (set s i (1 - cell s i)) ≡ cond (eqb (1 - cell s i) 1) (total_of s + 1) (total_of s - 1)
set_total s i below bit = go (lt_or (cell s i) 1)
  where
    t : List ℕ
    t = set s i (1 - cell s i)

    long : length t ≡ length s
    long = length-set s i (1 - cell s i)

    new : cell t i ≡ 1 - cell s i
    new = get_or-set_same s i (1 - cell s i) 0 below

    rest : (q : ℕ) → (q ≡ i → ⊥) → cell t q ≡ cell s q
    rest q d = get_or-set_other s i q (1 - cell s i) 0 d

    go : (cell s i < 1) ⊎ (1 ≤ cell s i) → total_of t ≡ cond (eqb (1 - cell s i) 1) (total_of s + 1) (total_of s - 1)
    go (inl l) =
        rw (eq-eqb (1 - cell s i) 1 (omega arith))
        (one_more s t i long below (omega arith) (omega (arith, new)) rest)
    go (inr l) =
        rw (ne_eqb (1 - cell s i) 1 (λ e. omega arith))
        (omega (arith, one_more t s i (sym long) (omega (arith, long)) (omega (arith, new)) (omega arith) (λ q d. sym (rest q d))))
