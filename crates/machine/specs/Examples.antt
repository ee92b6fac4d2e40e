-- The proved table: P1 to P12 of the scope document in its order and wording, about the definitions and about the answers of the paper machine's calls.
-- Assumes nothing.
use Rattle.std.specs.Prelude.{ℕ, ◌-◌, ◌≤◌, ◌≡◌, List, [], ◌∷◌, ◌++◌, length, take, replicate}
use Rattle.std.proofs.Math.Option.{some}
use Rattle.words.specs.Strip as strip
use Rattle.words.specs.Refusals.{value, refused}
use Rattle.words.specs.Handles.{words_of}
use Rattle.counters.specs.Tree.{blocks_of, counter_count, differ}
use Rattle.image.specs.Chain.{chain_of}
use Rattle.image.specs.Calls.{ImageOutcome, image_outcome, clear_outcome, freeze_outcome, inspect_told}
use Rattle.machine.specs.Machine.{StripState, ShelfState, state, StripCall, create, push, flip, rank, select, freeze, Call, on_strip, accepted, refuses, handle_in, with_strip, flipped, strip_move, with_rows, shelf_move, run, opened}
use Rattle.machine.specs.Unit.{afresh_strip, afresh_image}

-- How the table is read.

-- capacity c with its words and m counters, holding strip t
abbrev pub holding : ℕ → ℕ → List ℕ → StripState
holding c m t = record { capacity = c; strip = t; words = words_of c; counters = m }

-- the calls that add the bits of a strip, in order
abbrev pub adds : List ℕ → List Call
adds [] = []
adds (v ∷ vs) = on_strip (push v) ∷ adds vs

-- a is reached by adds of its bits from the opening, whatever image is lent
abbrev pub ByAdds : StripState → Type 0
ByAdds a = (lent : List ℕ)
    → run (opened a.capacity a.words a.counters lent) (adds a.strip) ≡ state a (opened a.capacity a.words a.counters lent).shelf

-- count(v, i) = x: by the definition, and as the call's answer
abbrev pub Count : StripState → ℕ → ℕ → ℕ → Type 0
Count a v i x = (strip.rank a.strip v i ≡ x) × (strip_move a (rank v i) ≡ accepted a x 0)

-- find(v, k) = p: by the definition, and as the call's answer
abbrev pub Find : StripState → ℕ → ℕ → ℕ → Type 0
Find a v k p = (strip.select a.strip v k ≡ some p) × (strip_move a (select v k) ≡ accepted a p 0)

-- "is n": the call is refused with n, and nothing changes
abbrev pub Is : StripState → StripCall → ℕ → Type 0
Is a k n = strip_move a k ≡ refuses a n

-- what turn i leaves
abbrev pub after_turn : StripState → ℕ → StripState
after_turn a i = (strip_move a (flip i)).next

-- turn i answers the new bit b and d, and d of the counters laid afresh before and after it differ
abbrev pub Turn : StripState → ℕ → ℕ → ℕ → Type 0
Turn a i b d =
    (strip_move a (flip i) ≡ accepted (with_strip a (flipped a.strip i)) b d)
    × (differ (afresh_strip a).counters (afresh_strip (with_strip a (flipped a.strip i))).counters a.counters ≡ d)

-- capacity c, which has m counters, full, turn i: d counters, whatever the bits
abbrev pub FullTurn : ℕ → ℕ → ℕ → ℕ → Type 0
FullTurn c m i d = (t : List ℕ) → length t ≡ c → ((p : ℕ) → strip.cell t p ≤ 1) → Turn (holding c m t) i (1 - strip.cell t i) d

-- capacity c has m counters: by the definition, and as lay's answer where m are lent
abbrev pub Lay : ℕ → ℕ → Type 0
Lay c m = (counter_count (blocks_of c) ≡ m) × (strip_move (holding c m []) (create c) ≡ accepted (holding c m []) m 0)

-- strip A, 17 bits, 01101101010101110, capacity 512
abbrev pub A : StripState
A = holding 512 72 (0 ∷ 1 ∷ 1 ∷ 0 ∷ 1 ∷ 1 ∷ 0 ∷ 1 ∷ 0 ∷ 1 ∷ 0 ∷ 1 ∷ 0 ∷ 1 ∷ 1 ∷ 1 ∷ 0 ∷ [])

-- the empty strip, capacity 512
abbrev pub empty : StripState
empty = holding 512 72 []

-- strip 01010, capacity 512
abbrev pub S : StripState
S = holding 512 72 (0 ∷ 1 ∷ 0 ∷ 1 ∷ 0 ∷ [])

-- an empty shelf over the bytes lent
abbrev pub bare : List ℕ → ShelfState
bare lent = record { rows = []; base = lent; bytes = length lent }

-- strip 01010 frozen as label 3 over them
abbrev pub frozen_over : List ℕ → ShelfState
frozen_over lent = with_rows (bare lent) (record { label = 3; bits = S.strip } ∷ []) lent

-- the 560 bytes of P12
abbrev pub bytes : List ℕ
bytes =
    (0x01 ∷ 0x00 ∷ 0x00 ∷ 0x00 ∷ 0x01 ∷ 0x00 ∷ 0x00 ∷ 0x00 ∷ 0x00 ∷ 0x00 ∷ 0x00 ∷ 0x00 ∷ 0x00 ∷ 0x00 ∷ 0x00 ∷ 0x00
    ∷ 0x00 ∷ 0x00 ∷ 0x00 ∷ 0x00 ∷ 0x03 ∷ 0x00 ∷ 0x00 ∷ 0x00 ∷ 0x05 ∷ 0x00 ∷ 0x00 ∷ 0x00 ∷ 0x02 ∷ 0x00 ∷ 0x00 ∷ 0x00
    ∷ 0x00 ∷ 0x00 ∷ 0x00 ∷ 0x00 ∷ 0x00 ∷ 0x20 ∷ 0x00 ∷ 0x02 ∷ 0x20 ∷ 0x00 ∷ 0x02 ∷ 0x20 ∷ 0x00 ∷ 0x02 ∷ 0x20 ∷ 0x00
    ∷ 0x0A ∷ [])
    ++ replicate 511 0x00

-- an image of z zero bytes, cleared
abbrev pub cleared : ℕ → List ℕ
cleared z = (clear_outcome (replicate z 0)).image

-- strip 01010 frozen into it as label 3, by the definition of the call on bytes
abbrev pub frozen_into : ℕ → ImageOutcome
frozen_into z = freeze_outcome (handle_in S) (afresh_strip S).words (cleared z) 3

-- The table.

pub record ProvedTable : Type 0 where
  -- strip A, 17 bits, 01101101010101110, capacity 512, is reached
  pub A-reached : ByAdds A
  -- P1 A: count(1, 8) = 5, count(1, 7) = 4
  pub P1 : Count A 1 8 5 × Count A 1 7 4
  -- P2 find(1, 7) = 13
  pub P2 : Find A 1 7 13
  -- P3 turn 3, then 6: count(1, 8) = 7, find(1, 7) = 9
  pub P3 : Count (after_turn (after_turn A 3) 6) 1 8 7 × Find (after_turn (after_turn A 3) 6) 1 7 9
  -- P4 count(1, 17) = 10; count(1, 18) is 4
  pub P4 : Count A 1 17 10 × Is A (rank 1 18) 4
  -- P5 find(1, 9) = 15; find(1, 10) is 6
  pub P5 : Find A 1 9 15 × Is A (select 1 10) 6
  -- P6 empty strip: count(0, 0) = 0, find(0, 0) is 6
  pub P6 : Count empty 0 0 0 × Is empty (select 0 0) 6
  -- P7 A: keys 0 to 7 and summaries 1 to 7 are 10, all else 0 (8 summaries, then 64 keys)
  pub P7 : (afresh_strip A).counters ≡ (0 ∷ replicate 7 10) ++ (replicate 8 10 ++ replicate 56 0)
  -- P8 turn 3 in A changes 15 counters
  pub P8 : Turn A 3 1 15
  -- P9 capacity 32,768, full, turn 32,767: 1
  pub P9 : FullTurn 32768 72 32767 1
  -- P10 capacity 33,280, full, turn 32,768: 15 + 14 = 29
  pub P10 : FullTurn 33280 216 32768 29
  -- P11 counters: capacity 32,768: 72; 33,280: 216; 2,097,152: 4,680; 2,097,664: 4,896; 134,217,728: 299,592
  pub P11 : Lay 32768 72 × Lay 33280 216 × Lay 2097152 4680 × Lay 2097664 4896 × Lay 134217728 299592
  -- strip 01010 is reached
  pub S-reached : ByAdds S
  -- P12 strip 01010 frozen as label 3, 560 bytes, hexadecimal: `bytes`, whatever was lent; it is unit 1
  pub P12 : (lent : List ℕ) → length lent ≡ 560
      → (shelf_move S (bare lent) (freeze 3) ≡ accepted (frozen_over lent) 1 0) × (afresh_image (frozen_over lent) ≡ bytes)
  -- with 559 bytes lent: 13
  pub P12-short : (lent : List ℕ) → length lent ≡ 559 → shelf_move S (bare lent) (freeze 3) ≡ refuses (bare lent) 13
  -- the same by the definition of the call on bytes; a refused freeze changes no byte
  pub P12-call : (frozen_into 560 ≡ image_outcome (value 1) bytes) × (frozen_into 559 ≡ image_outcome (refused 13) (cleared 559))
  -- the bytes are a sound chain of one record, at byte 16
  pub P12-chain : chain_of bytes ≡ some (16 ∷ [])
  -- the inspection finds one row in them, and is 10 for their first 15; with one bit set past the row's length it is 15
  pub P12-inspect : (inspect_told bytes ≡ value 1) × (inspect_told (take 15 bytes) ≡ refused 10) × (inspect_told (take 559 bytes ++ (1 ∷ [])) ≡ refused 15)
