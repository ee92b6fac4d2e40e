-- Bytes stored one after another. Assumes nothing.
use mathlib.Core.Path.{◌≡◌, refl, ap, ◌∙◌}
use mathlib.Core.List.{List, [], ◌∷◌, ◌++◌}
use Prim.Native.Nat.{ℕ, ◌+◌}
use native.Mathlib.Omega.{arith}
use lib.ListN.{length, set, length-append}
use lib.Seq.{sets, length-sets}
use Rattle.image.proofs.PutLaws.{sets_join}
use Rattle.listing.specs.Working.{Put}

-- nothing stored
pub put_none : (s : List ℕ) (at : ℕ) → Put s at [] s at
put_none s at = record { same = refl; end = omega arith }

-- more bytes
pub put_more : {s : List ℕ} {a : ℕ} {xs t : List ℕ} {b : ℕ} {ys u : List ℕ} {c : ℕ} → Put s a xs t b → Put t b ys u c → Put s a (xs ++ ys) u c
put_more {s} {a} {xs} {t} {b} {ys} {u} {c} p q =
    record {
      same = q.same ∙ ap (λ (l : List ℕ). sets l b ys) p.same ∙ sets_join xs ys s a b p.end;
      end = omega (arith, p.end, q.end, length-append xs ys);
    }

-- one byte more
pub put_byte : {s : List ℕ} {a : ℕ} {xs t : List ℕ} {b : ℕ} (x : ℕ) → Put s a xs t b → Put s a (xs ++ (x ∷ [])) (set t b x) (b + 1)
put_byte x p = put_more p (record { same = refl; end = omega arith })

-- the buffer keeps its length
pub put_length : {s : List ℕ} {a : ℕ} {xs t : List ℕ} {b : ℕ} → Put s a xs t b → length t ≡ length s
put_length {s} {a} {xs} p = ap length p.same ∙ length-sets s a xs

-- other bytes that are the same
pub put_as : {s : List ℕ} {a : ℕ} {xs t : List ℕ} {b : ℕ} (ys : List ℕ) → xs ≡ ys → Put s a xs t b → Put s a ys t b
put_as {s} {a} ys e p = rw e at p
