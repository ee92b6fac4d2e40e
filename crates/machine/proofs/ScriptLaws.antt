-- Scripts and lists of calls: every list of calls whose arguments have 64 bits is the decoding of a script of 64-bit numbers. Assumes nothing.
use mathlib.Core.Path.{◌≡◌, refl, ap, ◌∙◌}
use mathlib.Core.List.{List, [], ◌∷◌}
use Prim.Native.Nat.{ℕ, suc, ◌^◌, ◌<◌}
use native.Mathlib.Omega.{arith}
use lib.Dec.{lit<}
use lib.ListN.{length}
use Rattle.machine.specs.Machine.{create, push, flip, fill, truncate, get, rank, select, successor, predecessor, verify, clear, freeze, inspect, row_rank, row_select, row_get, Call, on_strip, on_shelf}
use Rattle.machine.specs.Scripts.{decode, encoded, encode}
use Rattle.machine.specs.Runner.{calls_in}

-- a call's four numbers name it
decode_call : (k : Call) (l : List ℕ) → decode (encoded k l) ≡ k ∷ decode l
decode_call (on_strip (create c)) l = refl
decode_call (on_strip (push v)) l = refl
decode_call (on_strip (flip i)) l = refl
decode_call (on_strip (fill a b v)) l = refl
decode_call (on_strip (truncate n)) l = refl
decode_call (on_strip (get i)) l = refl
decode_call (on_strip (rank v i)) l = refl
decode_call (on_strip (select v k)) l = refl
decode_call (on_strip (successor v i)) l = refl
decode_call (on_strip (predecessor v i)) l = refl
decode_call (on_strip verify) l = refl
decode_call (on_shelf clear) l = refl
decode_call (on_shelf (freeze label)) l = refl
decode_call (on_shelf inspect) l = refl
decode_call (on_shelf (row_rank label v i)) l = refl
decode_call (on_shelf (row_select label v k)) l = refl
decode_call (on_shelf (row_get label i)) l = refl

-- every list of calls is the decoding of its script
pub decode_encode : (ks : List Call) → decode (encode ks) ≡ ks
decode_encode [] = refl
decode_encode (k ∷ ks) = decode_call k (encode ks) ∙ ap (λ (l : List Call). k ∷ l) (decode_encode ks)

-- a script names as many calls as it has whole fours
pub decode_length : (script : List ℕ) → length (decode script) ≡ calls_in script
decode_length [] = refl
decode_length (op ∷ []) = refl
decode_length (op ∷ x ∷ []) = refl
decode_length (op ∷ x ∷ y ∷ []) = refl
decode_length (op ∷ x ∷ y ∷ z ∷ rest) = ap suc (decode_length rest) ∙ omega arith

-- of each element of a list
pub data Each {A : Type 0} (P : A → Type 0) : List A → Type 0 where
  none : Each P []
  more : {x : A} {l : List A} → P x → Each P l → Each P (x ∷ l)

-- a number of 64 bits
abbrev pub Narrow : ℕ → Type 0
Narrow x = x < 2 ^ 64

-- a call whose arguments are such
abbrev pub NarrowCall : Call → Type 0
NarrowCall (on_strip (create c)) = Narrow c
NarrowCall (on_strip (push v)) = Narrow v
NarrowCall (on_strip (flip i)) = Narrow i
NarrowCall (on_strip (fill a b v)) = Narrow a × Narrow b × Narrow v
NarrowCall (on_strip (truncate n)) = Narrow n
NarrowCall (on_strip (get i)) = Narrow i
NarrowCall (on_strip (rank v i)) = Narrow v × Narrow i
NarrowCall (on_strip (select v k)) = Narrow v × Narrow k
NarrowCall (on_strip (successor v i)) = Narrow v × Narrow i
NarrowCall (on_strip (predecessor v i)) = Narrow v × Narrow i
NarrowCall (on_strip verify) = Unit
NarrowCall (on_shelf clear) = Unit
NarrowCall (on_shelf (freeze label)) = Narrow label
NarrowCall (on_shelf inspect) = Unit
NarrowCall (on_shelf (row_rank label v i)) = Narrow label × Narrow v × Narrow i
NarrowCall (on_shelf (row_select label v k)) = Narrow label × Narrow v × Narrow k
NarrowCall (on_shelf (row_get label i)) = Narrow label × Narrow i

-- a call of one, two or three arguments, under an opcode
module _ {l : List ℕ} (rest : Each Narrow l) (op : ℕ) (o : Narrow op) where
  zero_narrow : Narrow 0
  zero_narrow = lit< tt

  three : {x y z : ℕ} → Narrow x → Narrow y → Narrow z → Each Narrow (op ∷ x ∷ y ∷ z ∷ l)
  three a b c = more o (more a (more b (more c rest)))

  two : {x y : ℕ} → Narrow x → Narrow y → Each Narrow (op ∷ x ∷ y ∷ 0 ∷ l)
  two a b = three a b zero_narrow

  one : {x : ℕ} → Narrow x → Each Narrow (op ∷ x ∷ 0 ∷ 0 ∷ l)
  one a = three a zero_narrow zero_narrow

  nothing : Each Narrow (op ∷ 0 ∷ 0 ∷ 0 ∷ l)
  nothing = three zero_narrow zero_narrow zero_narrow

-- its four numbers are such
encoded_narrow : (k : Call) (l : List ℕ) → NarrowCall k → Each Narrow l → Each Narrow (encoded k l)
encoded_narrow (on_strip (create c)) l h r = one r 0 (lit< tt) h
encoded_narrow (on_strip (push v)) l h r = one r 1 (lit< tt) h
encoded_narrow (on_strip (flip i)) l h r = one r 2 (lit< tt) h
encoded_narrow (on_strip (fill a b v)) l h r = three r 3 (lit< tt) h.0 h.1 h.2
encoded_narrow (on_strip (truncate n)) l h r = one r 4 (lit< tt) h
encoded_narrow (on_strip (get i)) l h r = one r 5 (lit< tt) h
encoded_narrow (on_strip (rank v i)) l h r = two r 6 (lit< tt) h.0 h.1
encoded_narrow (on_strip (select v k)) l h r = two r 7 (lit< tt) h.0 h.1
encoded_narrow (on_strip (successor v i)) l h r = two r 8 (lit< tt) h.0 h.1
encoded_narrow (on_strip (predecessor v i)) l h r = two r 9 (lit< tt) h.0 h.1
encoded_narrow (on_strip verify) l h r = nothing r 10 (lit< tt)
encoded_narrow (on_shelf clear) l h r = nothing r 11 (lit< tt)
encoded_narrow (on_shelf (freeze label)) l h r = one r 12 (lit< tt) h
encoded_narrow (on_shelf inspect) l h r = nothing r 13 (lit< tt)
encoded_narrow (on_shelf (row_rank label v i)) l h r = three r 14 (lit< tt) h.0 h.1 h.2
encoded_narrow (on_shelf (row_select label v k)) l h r = three r 15 (lit< tt) h.0 h.1 h.2
encoded_narrow (on_shelf (row_get label i)) l h r = two r 16 (lit< tt) h.0 h.1

-- so calls with arguments of 64 bits have a script of such numbers
pub encode_narrow : (ks : List Call) → Each NarrowCall ks → Each Narrow (encode ks)
encode_narrow [] none = none
encode_narrow (k ∷ ks) (more h t) = encoded_narrow k (encode ks) h (encode_narrow ks t)

-- every list of such calls is the decoding of some script of such numbers
pub some_script : (ks : List Call) → Each NarrowCall ks → (script : List ℕ) × (Each Narrow script × (decode script ≡ ks))
some_script ks h = (encode ks, (encode_narrow ks h, decode_encode ks))
