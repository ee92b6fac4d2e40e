-- The answers of the waiting calls: at most one is right; and which are, by the words of the two strips. Assumes nothing.
use mathlib.Core.Path.{◌≡◌, refl, sym, ap, ap₂, subst, ◌∙◌}
use mathlib.Core.List.{List}
use mathlib.Core.Option.{Option, some, none}
use Prim.Native.Nat.{ℕ, ◌≤◌}
use native.Mathlib.Omega.{arith}
use lib.ListN.{length}
use Rattle.words.specs.declared.handle.Handle.{Handle}
use Rattle.words.specs.Strip.{strip_of, rank_of, select_of, rank, select}
use Rattle.words.proofs.CheckLaws.{not_both, judged_unique, right_number}
use Rattle.words.proofs.SearchLaws.{select_beyond}
use Rattle.words.proofs.StripLaws.{strip_length, strip_le}
use Rattle.pairs.specs.Rules.{either, only_first, joined}
use Rattle.pairs.specs.Calls.{pair_lines, pair_within_table}
use Rattle.pairs.proofs.JoinLaws.{joined_rank, joined_select}
use Rattle.waiting.specs.Outcomes.{Outcome, Reached, RankRange, Earliest, Latest, SomeLacks, AllLack, NoneLacks}
use Rattle.waiting.specs.Calls.{RankTold, least_most, unranked, SelectTold, from_to, from_on, unselected, RightRank, RightSelect, WaitingRank, WaitingSelect}
use Rattle.waiting.specs.Working.{must_bit, may_bit}
use Rattle.waiting.proofs.OutcomeLaws.{rank_range, select_earliest, select_latest, select_lacking, select_none}

module _ (s t : List ℕ) where
  -- one least and one most
  pub rank_unique : (i : ℕ) (x y : RankTold) → RightRank s t i x → RightRank s t i y → x ≡ y
  rank_unique i (least_most a b) (least_most c d) x y =
      let e : a ≡ c = omega (arith, low a c x.no_fewer y.least_reached, low c a y.no_fewer x.least_reached) in
      let f : b ≡ d = omega (arith, high b d x.no_more y.most_reached, high d b y.no_more x.most_reached) in
      ap₂ least_most e f
    where
      low : (a c : ℕ) → ((o : List ℕ) → Outcome s t o → a ≤ rank o 1 i) → Reached s t (λ o. rank o 1 i) c → a ≤ c
      low a c h r = omega (arith, h r.outcome r.is, r.has)

      high : (b d : ℕ) → ((o : List ℕ) → Outcome s t o → rank o 1 i ≤ b) → Reached s t (λ o. rank o 1 i) d → d ≤ b
      high b d h r = omega (arith, h r.outcome r.is, r.has)
  rank_unique i (least_most a b) (unranked n) x y = absurd y
  rank_unique i (unranked n) y x z = absurd x

  module _ (k : ℕ) where
    -- one earliest and one latest
    earliest_unique : (a b : ℕ) → Earliest s t k a → Earliest s t k b → a ≡ b
    earliest_unique a b x y =
        omega (arith, x.none_before y.reached.outcome b y.reached.is y.reached.has, y.none_before x.reached.outcome a x.reached.is x.reached.has)

    latest_unique : (a b : ℕ) → Latest s t k a → Latest s t k b → a ≡ b
    latest_unique a b x y =
        omega (arith, x.none_after y.reached.outcome b y.reached.is y.reached.has, y.none_after x.reached.outcome a x.reached.is x.reached.has)

    -- where some outcome has one, not all lack it
    some_all : {A : Type 0} (a : ℕ) → Earliest s t k a → AllLack s t k → A
    some_all a x h = not_both x.reached.has (h x.reached.outcome x.reached.is)

    -- where no outcome lacks it, there is none that does
    none_some : {A : Type 0} → NoneLacks s t k → SomeLacks s t k → A
    none_some h x = absurd (h x.outcome x.is x.has)

    -- one answer to a find
    pub select_unique : (x y : SelectTold) → RightSelect s t k x → RightSelect s t k y → x ≡ y
    select_unique (from_to a b) (from_to c d) x y = ap₂ from_to (earliest_unique a c x.1 y.1) (latest_unique b d x.2 y.2)
    select_unique (from_to a b) (from_on c) x y = none_some x.0 y.0
    select_unique (from_to a b) (unselected n) x y = some_all a x.1 y.0
    select_unique (from_on a) (from_to c d) x y = none_some y.0 x.0
    select_unique (from_on a) (from_on c) x y = ap from_on (earliest_unique a c x.1 y.1)
    select_unique (from_on a) (unselected n) x y = some_all a x.1 y.0
    select_unique (unselected n) (from_to c d) x y = some_all c y.1 x.0
    select_unique (unselected n) (from_on c) x y = some_all c y.1 x.0
    select_unique (unselected n) (unselected m) x y = ap unselected (x.1 ∙ sym y.1)

-- at most one answer is right for each input
pub waiting_rank_unique : (strip waiting : Handle) (ws vs : List ℕ) (i : ℕ) (x y : RankTold)
    → WaitingRank strip ws waiting vs i x → WaitingRank strip ws waiting vs i y → x ≡ y
waiting_rank_unique strip waiting ws vs i x y =
    let s = strip_of ws strip.length in
    let t = strip_of vs waiting.length in
    judged_unique (pair_within_table strip (length ws) waiting (length vs) i) unranked (RightRank s t i) x y (rank_unique s t i)

pub waiting_select_unique : (strip waiting : Handle) (ws vs : List ℕ) (k : ℕ) (x y : SelectTold)
    → WaitingSelect strip ws waiting vs k x → WaitingSelect strip ws waiting vs k y → x ≡ y
waiting_select_unique strip waiting ws vs k x y =
    let s = strip_of ws strip.length in
    let t = strip_of vs waiting.length in
    judged_unique (pair_lines strip (length ws) waiting (length vs)) unselected (RightSelect s t k) x y (select_unique s t k)

-- a refusal's number is not 0, which stands for none
pub rank_number : (strip waiting : Handle) (ws vs : List ℕ) (i n : ℕ) → WaitingRank strip ws waiting vs i (unranked n) → 1 ≤ n
rank_number strip waiting ws vs i n =
    right_number (pair_within_table strip (length ws) waiting (length vs) i) unranked (RightRank (strip_of ws strip.length) (strip_of vs waiting.length) i) n
    (omega arith) (λ m k e. cc) (λ r. absurd r)

pub select_number : (strip waiting : Handle) (ws vs : List ℕ) (k n : ℕ) → WaitingSelect strip ws waiting vs k (unselected n) → 1 ≤ n
select_number strip waiting ws vs k n =
    right_number (pair_lines strip (length ws) waiting (length vs)) unselected (RightSelect (strip_of ws strip.length) (strip_of vs waiting.length) k) n
    (omega arith) (λ m k e. cc) (λ r. omega (arith, r.1))

-- ---- what is right of strips of one length in words
module _ (ws vs : List ℕ) (n m : ℕ) (e : n ≡ m) where
  pub rank_right : (i least most : ℕ) → i ≤ n → least ≡ rank_of (must_bit ws vs) 1 i → most ≡ rank_of (may_bit ws vs) 1 i
      → RightRank (strip_of ws n) (strip_of vs m) i (least_most least most)
  rank_right i least most h a b =
      let w = rank_range (strip_of ws n) (strip_of vs m) (strip_le ws n) (strip_le vs m) i (omega (arith, strip_length ws n)) in
      let low : rank (joined only_first (strip_of ws n) (strip_of vs m)) 1 i ≡ least = joined_rank only_first ws vs n m i e h ∙ sym a in
      let high : rank (joined either (strip_of ws n) (strip_of vs m)) 1 i ≡ most = joined_rank either ws vs n m i e h ∙ sym b in
      subst (λ (y : ℕ). RankRange (strip_of ws n) (strip_of vs m) i least y) high
      (subst (λ (y : ℕ). RankRange (strip_of ws n) (strip_of vs m) i y (rank (joined either (strip_of ws n) (strip_of vs m)) 1 i)) low w)

  module _ (k : ℕ) where
    -- what is found in the words is found in the strips joined
    may_found : (o : Option ℕ) → select_of (may_bit ws vs) n 1 k ≡ o → select (joined either (strip_of ws n) (strip_of vs m)) 1 k ≡ o
    may_found o h = joined_select either ws vs n m k e ∙ h

    must_found : (o : Option ℕ) → select_of (must_bit ws vs) n 1 k ≡ o → select (joined only_first (strip_of ws n) (strip_of vs m)) 1 k ≡ o
    must_found o h = joined_select only_first ws vs n m k e ∙ h

    -- none that may be
    pub right_none : select_of (may_bit ws vs) n 1 k ≡ none → RightSelect (strip_of ws n) (strip_of vs m) k (unselected 6)
    right_none h = (select_none (strip_of ws n) (strip_of vs m) (strip_le ws n) (strip_le vs m) k (may_found none h), refl)

    -- k not below the length
    pub right_beyond : n ≤ k → RightSelect (strip_of ws n) (strip_of vs m) k (unselected 6)
    right_beyond h = right_none (select_beyond (may_bit ws vs) n 1 k h)

    -- the k-th that may be lies at a
    module _ (a : ℕ) (ea : select_of (may_bit ws vs) n 1 k ≡ some a) where
      first : Earliest (strip_of ws n) (strip_of vs m) k a
      first = select_earliest (strip_of ws n) (strip_of vs m) (strip_le ws n) (strip_le vs m) k a (may_found (some a) ea)

      -- and the k-th that must be at b
      pub right_to : (b : ℕ) → select_of (must_bit ws vs) n 1 k ≡ some b → RightSelect (strip_of ws n) (strip_of vs m) k (from_to a b)
      right_to b eb =
          let w = select_latest (strip_of ws n) (strip_of vs m) (strip_le ws n) (strip_le vs m) k b (must_found (some b) eb) in
          (w.0, first, w.1)

      -- or there is none that must be
      pub right_on : select_of (must_bit ws vs) n 1 k ≡ none → RightSelect (strip_of ws n) (strip_of vs m) k (from_on a)
      right_on eb = (select_lacking (strip_of ws n) (strip_of vs m) (strip_le ws n) (strip_le vs m) k (must_found none eb), first)
