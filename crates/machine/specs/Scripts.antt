-- A script: four numbers for each call, its opcode and three arguments. Assumes nothing.
use Rattle.std.specs.Prelude.{ℕ, ◌%◌, cond, List, [], ◌∷◌, eqb}
use Rattle.machine.specs.Machine.{create, push, flip, fill, truncate, get, rank, select, successor, predecessor, verify, clear, freeze, inspect, row_rank, row_select, row_get, Call, on_strip, on_shelf}

-- the numbers of a call in a script
abbrev pub call_numbers : ℕ
call_numbers = 4

-- the call of an opcode from 0 to 16; of any other, that of 16
abbrev pub call_of : ℕ → ℕ → ℕ → ℕ → Call
call_of op x y z =
    cond (eqb op 0) (on_strip (create x))
    (cond (eqb op 1) (on_strip (push x))
    (cond (eqb op 2) (on_strip (flip x))
    (cond (eqb op 3) (on_strip (fill x y z))
    (cond (eqb op 4) (on_strip (truncate x))
    (cond (eqb op 5) (on_strip (get x))
    (cond (eqb op 6) (on_strip (rank x y))
    (cond (eqb op 7) (on_strip (select x y))
    (cond (eqb op 8) (on_strip (successor x y))
    (cond (eqb op 9) (on_strip (predecessor x y))
    (cond (eqb op 10) (on_strip verify)
    (cond (eqb op 11) (on_shelf clear)
    (cond (eqb op 12) (on_shelf (freeze x))
    (cond (eqb op 13) (on_shelf inspect)
    (cond (eqb op 14) (on_shelf (row_rank x y z))
    (cond (eqb op 15) (on_shelf (row_select x y z))
    (on_shelf (row_get x y)))))))))))))))))

-- the opcode is taken modulo 17, so that every number names a call
abbrev pub called : ℕ → ℕ → ℕ → ℕ → Call
called op x y z = call_of (op % 17) x y z

-- the calls of a script; the rest of a length that is no multiple of four is unread
abbrev pub decode : List ℕ → List Call
decode [] = []
decode (op ∷ []) = []
decode (op ∷ x ∷ []) = []
decode (op ∷ x ∷ y ∷ []) = []
decode (op ∷ x ∷ y ∷ z ∷ rest) = called op x y z ∷ decode rest

-- the four numbers of a call, before those of a list
abbrev pub encoded : Call → List ℕ → List ℕ
encoded (on_strip (create c)) l = 0 ∷ c ∷ 0 ∷ 0 ∷ l
encoded (on_strip (push v)) l = 1 ∷ v ∷ 0 ∷ 0 ∷ l
encoded (on_strip (flip i)) l = 2 ∷ i ∷ 0 ∷ 0 ∷ l
encoded (on_strip (fill a b v)) l = 3 ∷ a ∷ b ∷ v ∷ l
encoded (on_strip (truncate n)) l = 4 ∷ n ∷ 0 ∷ 0 ∷ l
encoded (on_strip (get i)) l = 5 ∷ i ∷ 0 ∷ 0 ∷ l
encoded (on_strip (rank v i)) l = 6 ∷ v ∷ i ∷ 0 ∷ l
encoded (on_strip (select v k)) l = 7 ∷ v ∷ k ∷ 0 ∷ l
encoded (on_strip (successor v i)) l = 8 ∷ v ∷ i ∷ 0 ∷ l
encoded (on_strip (predecessor v i)) l = 9 ∷ v ∷ i ∷ 0 ∷ l
encoded (on_strip verify) l = 10 ∷ 0 ∷ 0 ∷ 0 ∷ l
encoded (on_shelf clear) l = 11 ∷ 0 ∷ 0 ∷ 0 ∷ l
encoded (on_shelf (freeze label)) l = 12 ∷ label ∷ 0 ∷ 0 ∷ l
encoded (on_shelf inspect) l = 13 ∷ 0 ∷ 0 ∷ 0 ∷ l
encoded (on_shelf (row_rank label v i)) l = 14 ∷ label ∷ v ∷ i ∷ l
encoded (on_shelf (row_select label v k)) l = 15 ∷ label ∷ v ∷ k ∷ l
encoded (on_shelf (row_get label i)) l = 16 ∷ label ∷ i ∷ 0 ∷ l

-- a script of a list of calls
abbrev pub encode : List Call → List ℕ
encode [] = []
encode (k ∷ ks) = encoded k (encode ks)
