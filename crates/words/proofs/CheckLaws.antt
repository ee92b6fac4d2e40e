-- The laws of tables of refusals: one table after another, and what a table that passes says. Assumes nothing.
use Rattle.std.proofs.Common.{◌≡◌, ℕ, ◌%◌, ◌<◌, ◌≤◌, Bool, true, false, cond, ◌&&◌, eqb, leb, List, [], ◌∷◌, ◌++◌, length, sym, refl, ap, ◌∙◌, arith, ltb-false, le-ltb, lt-ltb, eqb-true, leb-false, leb-true}
use mathlib.Core.Option.{Option, some, none}
use Rattle.words.specs.declared.handle.Handle.{Handle}
use Rattle.words.specs.declared.refusal.Refusal.{Refusal}
use Rattle.std.specs.Prelude.{Result, Ok, Err, IsErrAnd}
use Rattle.words.specs.Strip.{cell, or_else, select}
use Rattle.words.specs.Refusals.{number_of, Line, ◌⇒◌, judge, verdict_of, unless, Judged, Told, refused, told_of, found}
use Rattle.words.specs.Handles.{block_bits, most_bits, allowed, good, words_of, strip_lines}
use Rattle.words.specs.Calls.{value_line, below_line, within_line, absent_line, below_table, value_table}
use Rattle.words.proofs.BoolLaws.{and_first, and_second, not_not}
use Rattle.words.proofs.SearchLaws.{select_beyond}

-- one table after another
pub judge_append : (a b : List Line) → judge (a ++ b) ≡ or_else (judge a) (judge b)
judge_append [] b = refl
judge_append (l ∷ ls) b = go l.applies (judge_append ls b)
  where
    go : (t : Bool) → judge (ls ++ b) ≡ or_else (judge ls) (judge b)
        → cond t (some l.number) (judge (ls ++ b)) ≡ or_else (cond t (some l.number) (judge ls)) (judge b)
    go true h = refl
    go false h = h

-- what `?` passes on: the refusal that it met
pub raised : {A : Type 0} (q : Result A Refusal) (r : Refusal) → IsErrAnd q (λ e. e ≡ r) → q ≡ Err r
raised (Ok x) r h = absurd h
raised (Err e) r h = ap Err h

-- refused by the first table
pub refused_first : (a b : List Line) (v : Result Unit Refusal) (r : Refusal) → verdict_of v ≡ judge a → v ≡ Err r → verdict_of v ≡ judge (a ++ b)
refused_first a b v r e d = rw (judge_append, ← e, d) refl

-- and passed on
pub raised_first : (a b : List Line) (v q : Result Unit Refusal) (r : Refusal) → verdict_of v ≡ judge a → v ≡ Err r → IsErrAnd q (λ e. e ≡ r)
    → verdict_of q ≡ judge (a ++ b)
raised_first a b v q r e d h = ap verdict_of (raised q r h ∙ sym d) ∙ refused_first a b v r e d

-- passed by the first table: the second decides
pub passed_first : (a b : List Line) (v : Result Unit Refusal) → verdict_of v ≡ judge a → v ≡ Ok tt → judge (a ++ b) ≡ judge b
passed_first a b v e d = rw (judge_append, ← e, d) refl

-- a table does not refuse and pass
pub not_both : {A : Type 0} {o : Option ℕ} {n : ℕ} → o ≡ some n → o ≡ none → A
not_both a b = let z : ◌≡◌ {A = ℕ} 0 1 = cc in absurd (omega arith)

-- one number is given, one position is found
pub same_some : (o : Option ℕ) (n m : ℕ) → o ≡ some n → o ≡ some m → n ≡ m
same_some o n m a b = let h : ◌≡◌ {A = Option ℕ} (some n) (some m) = sym a ∙ b in cc

-- a table by the verdict of a function that judged it
pub judged_refuse : (t : List Line) (v : Result Unit Refusal) (r : Refusal) → verdict_of v ≡ judge t → v ≡ Err r → judge t ≡ some (number_of r)
judged_refuse t v r e d = sym e ∙ ap verdict_of d

pub judged_pass : (t : List Line) (v : Result Unit Refusal) → verdict_of v ≡ judge t → v ≡ Ok tt → judge t ≡ none
judged_pass t v e d = sym e ∙ ap verdict_of d

-- what a call gives where its table refuses, and where it passes
pub unless_refused : {A : Type 0} (t : List Line) (v : Result Unit Refusal) (r : Refusal) (refuse : ℕ → A) (late : A) → verdict_of v ≡ judge t → v ≡ Err r
    → refuse (number_of r) ≡ unless (judge t) refuse late
unless_refused t v r refuse late e d = ap (λ (o : Option ℕ). unless o refuse late) (sym (judged_refuse t v r e d))

pub told_refused : (t : List Line) (v : Result Unit Refusal) (q : Result ℕ Refusal) (r : Refusal) (late : Told) → verdict_of v ≡ judge t → v ≡ Err r
    → IsErrAnd q (λ e. e ≡ r) → told_of q ≡ unless (judge t) refused late
told_refused t v q r late e d h = ap told_of (raised q r h) ∙ unless_refused t v r refused late e d

pub unless_passed : {A : Type 0} (t : List Line) (v : Result Unit Refusal) (refuse : ℕ → A) (late : A) → verdict_of v ≡ judge t → v ≡ Ok tt
    → late ≡ unless (judge t) refuse late
unless_passed t v refuse late e d = ap (λ (o : Option ℕ). unless o refuse late) (sym (judged_pass t v e d))

-- where at most one answer is right, at most one is given
pub judged_unique : {A : Type 0} (t : List Line) (refuse : ℕ → A) (Right : A → Type 0) (x y : A) → ((x y : A) → Right x → Right y → x ≡ y)
    → Judged t refuse Right x → Judged t refuse Right y → x ≡ y
judged_unique {A} t refuse Right x y one a b = go (judge t) refl
  where
    go : (o : Option ℕ) → judge t ≡ o → x ≡ y
    go (some n) e = a.early n e ∙ sym (b.early n e)
    go none e = one x y (a.late e) (b.late e)

-- such an answer by the verdict of a function that judged the table
module _ {A : Type 0} (t : List Line) (v : Result Unit Refusal) (refuse : ℕ → A) (Right : A → Type 0) (e : verdict_of v ≡ judge t) where
  pub right_refused : (r : Refusal) → v ≡ Err r → Judged t refuse Right (refuse (number_of r))
  right_refused r d =
      let j : judge t ≡ some (number_of r) = judged_refuse t v r e d in
      record { early = (λ n f. let m : number_of r ≡ n = same_some (judge t) (number_of r) n j f in ap refuse m); late = (λ f. not_both j f) }

  pub right_passed : (x : A) → v ≡ Ok tt → Right x → Judged t refuse Right x
  right_passed x d h = record { early = (λ n f. not_both f (judged_pass t v e d)); late = (λ f. h) }

-- no line of a table has the number 0
abbrev pub Numbered : List Line → Type 0
Numbered [] = Unit {0}
Numbered (l ∷ ls) = (1 ≤ l.number) × Numbered ls

-- nor has what it gives
pub judged_number : (ls : List Line) (n : ℕ) → Numbered ls → judge ls ≡ some n → 1 ≤ n
judged_number [] n h e = not_both e refl
judged_number (l ∷ ls) n h e = go l.applies e (judged_number ls n h.1)
  where
    go : (b : Bool) → cond b (some l.number) (judge ls) ≡ some n → (judge ls ≡ some n → 1 ≤ n) → 1 ≤ n
    go true f ih = let z : l.number ≡ n = cc in omega (arith, h.0)
    go false f ih = ih f

-- so a refusal that is right is not of number 0
pub right_number : {A : Type 0} (t : List Line) (refuse : ℕ → A) (Right : A → Type 0) (n : ℕ) → Numbered t → ((m k : ℕ) → refuse m ≡ refuse k → m ≡ k)
    → (Right (refuse n) → 1 ≤ n) → Judged t refuse Right (refuse n) → 1 ≤ n
right_number t refuse Right n h one late j = go (judge t) refl
  where
    go : (o : Option ℕ) → judge t ≡ o → 1 ≤ n
    go none e = late (j.late e)
    go (some m) e = omega (arith, one n m (j.early m e), judged_number t m h e)

-- the line of a k not below n refuses what the search does not find: a find whose table ends with it answers for every k as one without
pub line_found : (t : List Line) (s : List ℕ) (v k n : ℕ) → (judge t ≡ none → n ≤ k → select s v k ≡ none)
    → unless (judge (t ++ (absent_line n k ∷ []))) refused (found (select s v k)) ≡ unless (judge t) refused (found (select s v k))
line_found t s v k n nothing =
    ap (λ (o : Option ℕ). unless o refused (found (select s v k))) (judge_append t (absent_line n k ∷ [])) ∙ go (judge t) (leb n k) refl refl
  where
    go : (o : Option ℕ) (b : Bool) → judge t ≡ o → leb n k ≡ b
        → unless (or_else o (judge ((b ⇒ 6) ∷ []))) refused (found (select s v k)) ≡ unless o refused (found (select s v k))
    go (some m) b d e = refl
    go none true d e = ap found (sym (nothing d (leb-true _ _ e)))
    go none false d e = refl

-- so that of a k not below the length
pub absent_found : (t : List Line) (s : List ℕ) (v k : ℕ)
    → unless (judge (t ++ (absent_line (length s) k ∷ []))) refused (found (select s v k)) ≡ unless (judge t) refused (found (select s v k))
absent_found t s v k = line_found t s v k (length s) (λ p l. select_beyond (cell s) (length s) v k l)

-- no line applies
abbrev pub Passes : List Line → Type 0
Passes [] = Unit {0}
Passes (l ∷ ls) = (l.applies ≡ false) × Passes ls

pub passes : (ls : List Line) → judge ls ≡ none → Passes ls
passes [] h = tt
passes (l ∷ ls) h = go l.applies refl h (passes ls)
  where
    go : (t : Bool) → l.applies ≡ t → cond t (some l.number) (judge ls) ≡ none → (judge ls ≡ none → Passes ls) → (l.applies ≡ false) × Passes ls
    go true e p ih = not_both refl p
    go false e p ih = (e, ih p)

-- both tables passed
pub passed_both : (a b : List Line) → judge (a ++ b) ≡ none → (judge a ≡ none) × (judge b ≡ none)
passed_both a b h = go (judge a) refl (sym (judge_append a b) ∙ h)
  where
    go : (v : Option ℕ) → judge a ≡ v → or_else v (judge b) ≡ none → (judge a ≡ none) × (judge b ≡ none)
    go none e p = (e, p)
    go (some n) e p = not_both refl p

-- what the checks shared by all strip calls leave
pub record Checked (h : Handle) (words : ℕ) (counted : Bool) : Type 0 where
  pub step : h.capacity % block_bits ≡ 0
  pub least : block_bits ≤ h.capacity
  pub most : h.capacity ≤ most_bits
  pub long : h.length ≤ h.capacity
  pub held : h.total ≤ h.length
  pub count : words ≡ words_of h.capacity
  pub counters : counted ≡ true

pub checked : (h : Handle) (words : ℕ) (counted : Bool) → judge (strip_lines h words counted) ≡ none → Checked h words counted
checked h words counted p =
    let w = passes (strip_lines h words counted) p in
    let g : good h ≡ true = not_not (good h) w.0 in
    let d = leb h.length h.capacity && leb h.total h.length in
    let a : allowed h.capacity ≡ true = and_first (allowed h.capacity) d g in
    let e : d ≡ true = and_second (allowed h.capacity) d g in
    let b = and_second (eqb (h.capacity % block_bits) 0) (leb block_bits h.capacity && leb h.capacity most_bits) a in
    record {
      step = eqb-true _ _ (and_first (eqb (h.capacity % block_bits) 0) (leb block_bits h.capacity && leb h.capacity most_bits) a);
      least = leb-true _ _ (and_first (leb block_bits h.capacity) (leb h.capacity most_bits) b);
      most = leb-true _ _ (and_second (leb block_bits h.capacity) (leb h.capacity most_bits) b);
      long = leb-true _ _ (and_first (leb h.length h.capacity) (leb h.total h.length) e);
      held = leb-true _ _ (and_second (leb h.length h.capacity) (leb h.total h.length) e);
      count = eqb-true _ _ (not_not _ w.1.0);
      counters = not_not _ w.1.1.0;
    }

-- a value that is one, and a position above the length, or not
pub value_then_above : (v n i : ℕ) → v ≤ 1 → n < i → judge (value_line v ∷ within_line n i ∷ []) ≡ some 4
value_then_above v n i h k = simp (le-ltb _ _ h, lt-ltb _ _ k)

pub value_then_within : (v n i : ℕ) → v ≤ 1 → i ≤ n → judge (value_line v ∷ within_line n i ∷ []) ≡ none
value_then_within v n i h k = simp (le-ltb _ _ h, le-ltb _ _ k)

-- a position below the length
pub checked_below : (h : Handle) (words : ℕ) (counted : Bool) (i : ℕ) → judge (below_table h words counted i) ≡ none
    → Checked h words counted × (i < h.length)
checked_below h words counted i p =
    let b = passed_both (strip_lines h words counted) (below_line h.length i ∷ []) p in
    (checked h words counted b.0, leb-false _ _ (passes (below_line h.length i ∷ []) b.1).0)

-- a value, and a position not above the length
pub checked_value : (h : Handle) (words : ℕ) (counted : Bool) (v i : ℕ) → judge (value_table h words counted v i) ≡ none
    → Checked h words counted × (v ≤ 1) × (i ≤ h.length)
checked_value h words counted v i p =
    let b = passed_both (strip_lines h words counted) (value_line v ∷ within_line h.length i ∷ []) p in
    let l = passes (value_line v ∷ within_line h.length i ∷ []) b.1 in
    (checked h words counted b.0, ltb-false _ _ l.0, ltb-false _ _ l.1.0)
