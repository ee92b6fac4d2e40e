-- A part of a list, and the whole after a part was lent and came back, by their elements. Assumes nothing.
use Rattle.std.proofs.Common.{◌≡◌, ℕ, ◌+◌, ◌-◌, ◌<◌, ◌≤◌, List, ◌++◌, length, get_or, take, drop, sym, ap, ◌∙◌, arith, length-append, length-drop, length-take-le, get_or-drop, get_or-take, get_or-append-add}
use lib.ListN.{get_or-append}
use Rattle.words.proofs.Sums.{part_at_lem}

-- the number of k elements from a on
pub part_length : {A : Type 0} (xs : List A) (a k : ℕ) → a + k ≤ length xs → length (take k (drop a xs)) ≡ k
part_length xs a k fits = length-take-le k (drop a xs) (simp length-drop (omega arith))

-- the whole, when the k elements from a on were lent and have come back as ws
abbrev pub splice : {A : Type 0} → ℕ → ℕ → List A → List A → List A
splice a k xs ws = take a xs ++ (ws ++ drop k (drop a xs))

-- `kept`, that what came back is as long as what was lent, is a call's `.kept`
module _ {A : Type 0} (a k : ℕ) (xs ws : List A) (fits : a + k ≤ length xs) (kept : length ws ≡ length (take k (drop a xs))) where
  -- as many elements come back
  back_length : length ws ≡ k
  back_length = kept ∙ part_length xs a k fits

  -- as many stand before them
  head_length : length (take a xs) ≡ a
  head_length = length-take-le a xs (omega arith)

  -- the whole keeps its length
  pub splice_length : length (splice a k xs ws) ≡ length xs
  splice_length = simp (length-append, length-drop) (omega (arith, head_length, back_length))

  -- below the part nothing has changed
  pub splice_below : (z : A) (x : ℕ) → x < a → get_or (splice a k xs ws) x z ≡ get_or xs x z
  splice_below z x h =
      get_or-append (take a xs) (ws ++ drop k (drop a xs)) z x (omega (arith, head_length)) ∙ get_or-take a xs x z h

  -- past the head stand what came back and the rest
  splice_past : (z : A) (x : ℕ) → a ≤ x → get_or (splice a k xs ws) x z ≡ get_or (ws ++ drop k (drop a xs)) (x - a) z
  splice_past z x h =
      let e : x ≡ length (take a xs) + (x - a) = omega (arith, head_length) in
      ap (λ (y : ℕ). get_or (splice a k xs ws) y z) e ∙ get_or-append-add (take a xs) (ws ++ drop k (drop a xs)) (x - a) z

  -- inside it stands what came back
  pub splice_in : (z : A) (x i : ℕ) → x ≡ a + i → i < k → get_or (splice a k xs ws) x z ≡ get_or ws i z
  splice_in z x i e h =
      let f : x - a ≡ i = omega arith in
      splice_past z x (omega arith)
      ∙ ap (λ (y : ℕ). get_or (ws ++ drop k (drop a xs)) y z) f
      ∙ get_or-append ws (drop k (drop a xs)) z i (omega (arith, back_length))

  -- from its end on nothing has changed
  pub splice_above : (z : A) (x : ℕ) → a + k ≤ x → get_or (splice a k xs ws) x z ≡ get_or xs x z
  splice_above z x h =
      let e : x - a ≡ length ws + (x - a - k) = omega (arith, back_length) in
      let f : a + (k + (x - a - k)) ≡ x = omega arith in
      splice_past z x (omega arith)
      ∙ ap (λ (y : ℕ). get_or (ws ++ drop k (drop a xs)) y z) e
      ∙ get_or-append-add ws (drop k (drop a xs)) (x - a - k) z
      ∙ get_or-drop k (drop a xs) (x - a - k) z
      ∙ get_or-drop a xs (k + (x - a - k)) z
      ∙ ap (λ (y : ℕ). get_or xs y z) f

  -- where each element of the part has become f of it, so has each of the whole inside
  pub splice_each : (f : ℕ → A → A) (z : A) → ((i : ℕ) → i < k → get_or ws i z ≡ f i (get_or (take k (drop a xs)) i z))
      → (x i : ℕ) → x ≡ a + i → i < k → get_or (splice a k xs ws) x z ≡ f i (get_or xs x z)
  splice_each f z each x i e h =
      splice_in z x i e h ∙ each i h ∙ ap (f i) (part_at_lem xs a k z i h ∙ ap (λ (y : ℕ). get_or xs y z) (sym e))
