-- The text of an image, case by case, and what becomes of the buffer. Assumes nothing.
use mathlib.Core.Path.{◌≡◌, refl, sym, ap, ap₂, ◌∙◌}
use mathlib.Core.Bool.{Bool, true, false, cond}
use mathlib.Core.List.{List}
use mathlib.Core.Option.{some, none}
use Prim.Native.Nat.{ℕ, ◌≤◌, ◌<◌}
use native.Mathlib.Omega.{arith}
use lib.ListN.{length}
use lib.Seq.{sets, length-sets}
use lib.Dec.{ltb}
use borrow.Author.Tests.{lt-ltb, le-ltb, ltb-false}
use Rattle.words.specs.Refusals.{Told}
use Rattle.image.specs.Calls.{inspect_told}
use Rattle.image.proofs.InspectLaws.{Inspection, is_unsound, is_wrong, is_right, inspection}
use Rattle.listing.specs.Text.{too_long_line, told_text, most_listed, text_of, text_bytes, ListingOutcome, outcome, listing_outcome}
use Rattle.listing.specs.Working.{Put}
use Rattle.listing.proofs.DecimalLaws.{ended_long, decimal_few}
use Rattle.listing.proofs.RowsLaws.{rows_most}

-- above the limit
pub text_long : (s : List ℕ) → most_listed < length s → too_long_line ≡ text_of s
unfolding text_of
text_long s h = sym (ap (λ (b : Bool). cond b too_long_line (told_text s (inspect_told s))) (lt-ltb most_listed (length s) h))

-- else what inspect tells
pub text_told : (s : List ℕ) (t : Told) → length s ≤ most_listed → t ≡ inspect_told s → told_text s t ≡ text_of s
unfolding text_of
text_told s t h e =
    ap (told_text s) e ∙ sym (ap (λ (b : Bool). cond b too_long_line (told_text s (inspect_told s))) (le-ltb most_listed (length s) h))

-- there is room for every text
pub text_most : (s : List ℕ) → length (text_of s) ≤ text_bytes
unfolding text_of
text_most s = go (ltb most_listed (length s)) (told (inspection s))
  where
    told : {t : Told} → Inspection s t → length (told_text s t) ≤ text_bytes
    told (is_unsound p) = omega (arith, ended_long 10 10, decimal_few 1 10 (omega arith))
    told (is_wrong w) = omega (arith, ended_long 15 10, decimal_few 1 15 (omega arith))
    told (is_right o) = rows_most s o

    go : (t : Bool) → length (told_text s (inspect_told s)) ≤ text_bytes → length (cond t too_long_line (told_text s (inspect_told s))) ≤ text_bytes
    go true h = omega arith
    go false h = h

-- a buffer shorter than the longest text
pub listing_short : (s o : List ℕ) → length o < text_bytes → outcome none o ≡ listing_outcome s o
unfolding listing_outcome
listing_short s o h =
    sym (ap (λ (b : Bool). cond b (outcome none o) (outcome (some (length (text_of s))) (sets o 0 (text_of s)))) (lt-ltb (length o) text_bytes h))

-- and with it
pub listing_written : (s o t : List ℕ) (r : ℕ) → text_bytes ≤ length o → Put o 0 (text_of s) t r → outcome (some r) t ≡ listing_outcome s o
unfolding listing_outcome
listing_written s o t r h p =
    let e : r ≡ length (text_of s) = omega (arith, p.end) in
    ap₂ (λ (n : ℕ) (l : List ℕ). outcome (some n) l) e p.same
    ∙ sym (ap (λ (b : Bool). cond b (outcome none o) (outcome (some (length (text_of s))) (sets o 0 (text_of s)))) (le-ltb (length o) text_bytes h))

-- what is told as written lies inside the buffer
pub listed_fits : (s o t : List ℕ) (k : ℕ) → outcome (some k) t ≡ listing_outcome s o → k ≤ length t
unfolding listing_outcome
listed_fits s o t k e = go (ltb (length o) text_bytes) refl e
  where
    go : (b : Bool) → ltb (length o) text_bytes ≡ b
        → outcome (some k) t ≡ cond b (outcome none o) (outcome (some (length (text_of s))) (sets o 0 (text_of s))) → k ≤ length t
    go true p q = let w = ap (λ (x : ListingOutcome). x.written) q in let z : ◌≡◌ {A = ℕ} 0 1 = cc in absurd (omega arith)
    go false p q =
        let w = ap (λ (x : ListingOutcome). x.written) q in
        let n : k ≡ length (text_of s) = cc in
        let l : length t ≡ length o = ap (λ (x : ListingOutcome). length x.out) q ∙ length-sets o 0 (text_of s) in
        omega (arith, text_most s, ltb-false (length o) text_bytes p)
