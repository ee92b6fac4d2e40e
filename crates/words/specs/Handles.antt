-- The handle, and the checks that all strip calls share. Assumes nothing.
use Rattle.std.specs.Prelude.{ℕ, ◌/◌, ◌%◌, Bool, true, not, ◌&&◌, List, [], ◌∷◌, length, ◌==◌, nat_le}
use Rattle.words.specs.declared.handle.Handle.{Handle}
use Rattle.words.specs.Strip.{total_of}
use Rattle.words.specs.Refusals.{Line, ◌⇒◌}

-- a block: the step of the capacity, and the smallest one
abbrev pub block_bits : ℕ
block_bits = 512

-- the largest capacity
abbrev pub most_bits : ℕ
most_bits = 134217728

-- capacity allowed: a multiple of 512, from 512 to 134,217,728
abbrev pub allowed : ℕ → Bool
allowed c = c % block_bits == 0 && (nat_le block_bits c && nat_le c most_bits)

-- a handle has capacity, length and total
abbrev pub handle : ℕ → ℕ → ℕ → Handle
handle c n t = record { capacity = c; length = n; total = t }

-- the handle of a strip s of capacity c
abbrev pub handle_of : ℕ → List ℕ → Handle
handle_of c s = handle c (length s) (total_of s)

-- a capacity that is allowed, a length not above the capacity, and a total not above the length
abbrev pub good : Handle → Bool
good h = allowed h.capacity && (nat_le h.length h.capacity && nat_le h.total h.length)

-- the number of words
abbrev pub words_of : ℕ → ℕ
words_of c = c / 64

-- the flag of a call that takes no counters
abbrev pub untaken : Bool
untaken = true

-- all strip calls first: 1 capacity not allowed, length above capacity or total above length; 2 words not exactly capacity / 64; 3 counters, where taken,
-- not exactly as many as the capacity needs, which `counted` tells
abbrev pub strip_lines : Handle → ℕ → Bool → List Line
strip_lines h words counted =
    (not (good h) ⇒ 1)
    ∷ (not (words == words_of h.capacity) ⇒ 2)
    ∷ (not counted ⇒ 3)
    ∷ []
