-- The outcomes, cell by cell: the strips between the misfires that must be (one and not marked) and those that may be (one or marked). So these give the least
-- and the most before every position, with every number between reached, and the latest and the earliest position of the k-th. Assumes nothing.
use mathlib.Core.Path.{◌≡◌, refl, sym, ap, ◌∙◌}
use mathlib.Core.Bool.{Bool, cond}
use mathlib.Core.List.{List}
use mathlib.Core.Logic.{◌⊎◌, inl, inr}
use mathlib.Core.Option.{some, none}
use Prim.Native.Nat.{ℕ, zero, suc, min, ◌+◌, ◌≤◌, ◌<◌}
use native.Mathlib.Nat.{le_refl}
use native.Mathlib.Omega.{arith}
use lib.Dec.{ltb}
use lib.ListN.{length}
use lib.Seq.{ext_get_or}
use borrow.Author.Tests.{lt-ltb, le-ltb}
use Rattle.words.specs.Bits.{bit_at, ones, list_of}
use Rattle.words.specs.Strip.{cell, rank_of, select_of, rank, select}
use Rattle.words.proofs.Sums.{lt_or, sum_zero, sum_suc, sum_ext, sum_outside, length_list_of, get_or_list_of}
use Rattle.words.proofs.WordLaws.{bit_at_le}
use Rattle.words.proofs.CheckLaws.{not_both, same_some}
use Rattle.words.proofs.SearchLaws.{rank_ones}
use Rattle.words.proofs.StripLaws.{listed_rank, listed_select}
use Rattle.pairs.specs.Rules.{either, only_first, joined}
use Rattle.pairs.proofs.JoinLaws.{of_bits}
use Rattle.waiting.specs.Outcomes.{Outcome, Reached, RankRange, Earliest, Latest, SomeLacks, AllLack, NoneLacks}
use Rattle.waiting.specs.Working.{must_bit, may_bit}
use Rattle.waiting.proofs.OrderLaws.{Under, rank_under, select_under, none_under}

-- ---- what the definition says at its ends
-- the strip itself is an outcome
pub itself : (s t : List ℕ) → ((p : ℕ) → cell s p ≤ 1) → Outcome s t s
itself s t bits = record { long = refl; bits = (λ p l. bits p); agrees = (λ p l e. refl) }

-- where nothing is marked it is the only one
pub unmarked : (s t o : List ℕ) → ((p : ℕ) → p < length s → cell t p ≡ 0) → Outcome s t o → o ≡ s
unmarked s t o bare u = ext_get_or 0 o s u.long (λ p l. let q : p < length s = rw u.long at l in u.agrees p q (bare p q))

-- ---- one stroke: its bit a, its mark b
pub record Stroke (a b : ℕ) : Type 0 where
  pub most : either a b ≤ 1
  pub range : only_first a b ≤ either a b
  pub bare : b ≡ 0 → (only_first a b ≡ a) × (either a b ≡ a)
  pub outcome : (c : ℕ) → c ≤ 1 → (b ≡ 0 → c ≡ a) → (only_first a b ≤ c) × (c ≤ either a b)
  pub mark : either a b ≡ only_first a b + b

pub stroke : (a b : ℕ) → a ≤ 1 → b ≤ 1 → Stroke a b
stroke =
    of_bits Stroke
    (record { most = omega arith; range = omega arith; bare = (λ e. (refl, refl)); outcome = (λ c l h. omega (arith, h refl)); mark = refl })
    (record { most = omega arith; range = omega arith; bare = (λ e. absurd (omega arith)); outcome = (λ c l h. omega arith); mark = refl })
    (record { most = omega arith; range = omega arith; bare = (λ e. (refl, refl)); outcome = (λ c l h. omega (arith, h refl)); mark = refl })
    (record { most = omega arith; range = omega arith; bare = (λ e. absurd (omega arith)); outcome = (λ c l h. omega arith); mark = refl })

-- ---- a strip s and its waiting strip t
module _ (s t : List ℕ) (sBits : (p : ℕ) → cell s p ≤ 1) (tBits : (p : ℕ) → cell t p ≤ 1) where
  -- cell p where no mark becomes a one, and where every mark does
  abbrev must : ℕ → ℕ
  must p = only_first (cell s p) (cell t p)

  abbrev may : ℕ → ℕ
  may p = either (cell s p) (cell t p)

  at : (p : ℕ) → Stroke (cell s p) (cell t p)
  at p = stroke (cell s p) (cell t p) (sBits p) (tBits p)

  -- an outcome lies between them, cell by cell
  pub over_must : (o : List ℕ) → Outcome s t o → Under must (cell o) (length s)
  over_must o u = record { le = (λ p l. ((at p).outcome (cell o p) (u.bits p l) (u.agrees p l)).0); bits = u.bits }

  pub under_may : (o : List ℕ) → Outcome s t o → Under (cell o) may (length s)
  under_may o u = record { le = (λ p l. ((at p).outcome (cell o p) (u.bits p l) (u.agrees p l)).1); bits = (λ p l. (at p).most) }

  -- and cells between them are those of an outcome
  pub outcome_of : (f : ℕ → ℕ) → ((p : ℕ) → (must p ≤ f p) × (f p ≤ may p)) → Outcome s t (list_of f (length s))
  outcome_of f h =
      record {
        long = length_list_of f (length s);
        bits = (λ p l. omega (arith, get_or_list_of f (length s) p l, (h p).1, (at p).most));
        agrees = (λ p l e. let m = (at p).bare e in get_or_list_of f (length s) p l ∙ omega (arith, (h p).0, (h p).1, m.0, m.1));
      }

  pub must_outcome : Outcome s t (joined only_first s t)
  must_outcome = outcome_of must (λ p. (le_refl (must p), (at p).range))

  pub may_outcome : Outcome s t (joined either s t)
  may_outcome = outcome_of may (λ p. ((at p).range, le_refl (may p)))

  -- ---- counting before i
  module _ (i : ℕ) (h : i ≤ length s) where
    -- over an outcome, by its cells
    counted : (o : List ℕ) → Outcome s t o → rank o 1 i ≡ rank_of (cell o) 1 i
    counted o u = let e : min i (length o) ≡ i = omega (arith, u.long) in ap (rank_of (cell o) 1) e

    -- of cells that are bits it is their ones
    must_ones : rank_of must 1 i ≡ ones must i
    must_ones = rank_ones must i (λ p. omega (arith, (at p).range, (at p).most))

    may_ones : rank_of may 1 i ≡ ones may i
    may_ones = rank_ones may i (λ p. (at p).most)

    -- marks before position m become ones, those from m on do not
    abbrev mixed : ℕ → ℕ → ℕ
    mixed m p = cond (ltb p m) (may p) (must p)

    mixed_low : (m p : ℕ) → p < m → mixed m p ≡ may p
    mixed_low m p l = ap (λ (b : Bool). cond b (may p) (must p)) (lt-ltb p m l)

    mixed_high : (m p : ℕ) → m ≤ p → mixed m p ≡ must p
    mixed_high m p l = ap (λ (b : Bool). cond b (may p) (must p)) (le-ltb p m l)

    mixed_outcome : (m : ℕ) → Outcome s t (list_of (mixed m) (length s))
    mixed_outcome m = outcome_of (mixed m) (λ p. go p (lt_or p m))
      where
        go : (p : ℕ) → (p < m) ⊎ (m ≤ p) → (must p ≤ mixed m p) × (mixed m p ≤ may p)
        go p (inl l) = omega (arith, mixed_low m p l, (at p).range)
        go p (inr l) = omega (arith, mixed_high m p l, (at p).range)

    -- its count: from the least on it grows by at most one with each m
    mixed_rank : (m : ℕ) → m ≤ i → rank (list_of (mixed m) (length s)) 1 i + ones must m ≡ ones must i + ones may m
    mixed_rank m l =
        let o = sum_outside (mixed m) must 0 m i Prim.Native.Nat.zero-le l (λ p q. absurd (omega arith)) (λ p q r. mixed_high m p q) in
        omega (arith, listed_rank (mixed m) (length s) 1 i h, rank_ones (mixed m) i (λ p. bits m p (lt_or p m)), o.0, sum_ext (mixed m) may m (λ p q. mixed_low m p q))
      where
        bits : (m p : ℕ) → (p < m) ⊎ (m ≤ p) → mixed m p ≤ 1
        bits m p (inl q) = omega (arith, mixed_low m p q, (at p).most)
        bits m p (inr q) = omega (arith, mixed_high m p q, (at p).most, (at p).range)

    -- so it takes every number on the way
    between : (n m : ℕ) → m ≤ i → ones must i ≤ n → n + ones must m ≤ ones must i + ones may m → Reached s t (λ o. rank o 1 i) n
    between n zero l a b =
        record {
          outcome = list_of (mixed zero) (length s);
          is = mixed_outcome zero;
          has = omega (arith, mixed_rank zero l, sum_zero must, sum_zero may);
        }
    between n (suc m) l a b = go (lt_or (ones must i + ones may m) (n + ones must m)) (between n m (omega arith) a)
      where
        go : (ones must i + ones may m < n + ones must m) ⊎ (n + ones must m ≤ ones must i + ones may m)
            → (n + ones must m ≤ ones must i + ones may m → Reached s t (λ o. rank o 1 i) n) → Reached s t (λ o. rank o 1 i) n
        go (inl q) ih =
            record {
              outcome = list_of (mixed (suc m)) (length s);
              is = mixed_outcome (suc m);
              has = omega (arith, mixed_rank (suc m) l, sum_suc must m, sum_suc may m, (at m).range, (at m).most);
            }
        go (inr q) ih = ih q

    -- the most is the least and the number of marks before i
    sum_marks : (n : ℕ) → ones may n ≡ ones must n + ones (cell t) n
    sum_marks zero = omega (arith, sum_zero may, sum_zero must, sum_zero (cell t))
    sum_marks (suc n) = omega (arith, sum_suc may n, sum_suc must n, sum_suc (cell t) n, sum_marks n, (at n).mark)

    pub most_marks : rank (joined either s t) 1 i ≡ rank (joined only_first s t) 1 i + rank_of (cell t) 1 i
    most_marks =
        omega (arith, listed_rank must (length s) 1 i h, listed_rank may (length s) 1 i h, must_ones, may_ones, rank_ones (cell t) i tBits, sum_marks i)

    -- the least and the most
    pub rank_range : RankRange s t i (rank (joined only_first s t) 1 i) (rank (joined either s t) 1 i)
    rank_range =
        let least : rank (joined only_first s t) 1 i ≡ rank_of must 1 i = listed_rank must (length s) 1 i h in
        let most : rank (joined either s t) 1 i ≡ rank_of may 1 i = listed_rank may (length s) 1 i h in
        record {
          no_fewer = (λ o u. omega (arith, least, counted o u, rank_under must (cell o) (length s) i (over_must o u) h));
          no_more = (λ o u. omega (arith, most, counted o u, rank_under (cell o) may (length s) i (under_may o u) h));
          least_reached = record { outcome = joined only_first s t; is = must_outcome; has = refl };
          most_reached = record { outcome = joined either s t; is = may_outcome; has = refl };
          between = (λ n a b. between n i (le_refl i) (omega (arith, least, must_ones)) (omega (arith, most, may_ones)));
        }

  -- ---- finding the k-th
  module _ (k : ℕ) where
    -- over an outcome, by its cells
    sought : (o : List ℕ) → Outcome s t o → select o 1 k ≡ select_of (cell o) (length s) 1 k
    sought o u = ap (λ (n : ℕ). select_of (cell o) n 1 k) u.long

    -- every outcome's is no earlier than that of the misfires that may be
    pub select_earliest : (e : ℕ) → select (joined either s t) 1 k ≡ some e → Earliest s t k e
    select_earliest e h =
        record {
          reached = record { outcome = joined either s t; is = may_outcome; has = h };
          none_before = (λ o p u x.
              let w = select_under (cell o) may (length s) k p (under_may o u) (sym (sought o u) ∙ x) in
              let y : e ≡ w.0 = same_some (select (joined either s t) 1 k) e w.0 h (listed_select may (length s) 1 k ∙ w.1) in
              omega (arith, w.2));
        }

    -- and no later than that of the misfires that must be; where these have a k-th, so has every outcome
    must_has : (l : ℕ) → select (joined only_first s t) 1 k ≡ some l → (o : List ℕ) → Outcome s t o → (q : ℕ) × (select o 1 k ≡ some q) × (q ≤ l)
    must_has l h o u =
        let w = select_under must (cell o) (length s) k l (over_must o u) (sym (listed_select must (length s) 1 k) ∙ h) in
        (w.0, sought o u ∙ w.1, w.2)

    pub select_latest : (l : ℕ) → select (joined only_first s t) 1 k ≡ some l → NoneLacks s t k × Latest s t k l
    select_latest l h = (
      (λ o u x. not_both (must_has l h o u).1 x),
      record {
        reached = record { outcome = joined only_first s t; is = must_outcome; has = h };
        none_after = (λ o p u x.
            let w = must_has l h o u in
            let y : p ≡ w.0 = same_some (select o 1 k) p w.0 x w.1 in
            omega (arith, w.2));
      },
    )

    pub select_lacking : select (joined only_first s t) 1 k ≡ none → SomeLacks s t k
    select_lacking h = record { outcome = joined only_first s t; is = must_outcome; has = h }

    pub select_none : select (joined either s t) 1 k ≡ none → AllLack s t k
    select_none h = λ o u. sought o u ∙ none_under (cell o) may (length s) k (under_may o u) (sym (listed_select may (length s) 1 k) ∙ h)

-- ---- lists of words: before i no more misfires must be than may be
pub must_may : (ws vs : List ℕ) (i : ℕ) → rank_of (must_bit ws vs) 1 i ≤ rank_of (may_bit ws vs) 1 i
must_may ws vs i =
    let at : (p : ℕ) → Stroke (bit_at ws p) (bit_at vs p) = (λ p. stroke (bit_at ws p) (bit_at vs p) (bit_at_le ws p) (bit_at_le vs p)) in
    rank_under (must_bit ws vs) (may_bit ws vs) i i (record { le = (λ p l. (at p).range); bits = (λ p l. (at p).most) }) (le_refl i)
