-- Derived, for inner contracts: what one walk of the chain tells. Assumes nothing.
use Rattle.std.specs.Prelude.{◌≡◌, ℕ, ◌<◌, List, MatchOption, Result, Ok, Err, Some, None}
use Rattle.std.specs.Prelude as rust
use Rattle.std.proofs.Math.Option.{Option, some, none}
use Rattle.words.specs.declared.refusal.Refusal.{Refusal}
use Rattle.words.specs.declared.refusal.Refusal.TheVariants.{Unsound}
use Rattle.image.specs.declared.chain.Scan.{Scan}
use Rattle.image.specs.Chain.{kind_of, chain_of, place_of, chain_end, link_of}

-- o is byte x, where a record starts; none for byte 0
abbrev pub RecordAt : rust.Option ℕ → ℕ → Type 0
RecordAt o x = MatchOption o (x ≡ 0) (λ a. (a ≡ x) × (0 < a))

-- a place that may be there, as the code has it
abbrev pub found_at : Option ℕ → rust.Option ℕ
found_at none = None
found_at (some a) = Some a

-- of the records of a sound chain: where the index that ends it stands, the end of the last record, and where the label's record starts
abbrev pub scanned : List ℕ → ℕ → Option (List ℕ) → Result Scan Refusal
scanned s label none = Err Unsound
scanned s label (some rs) = Ok (record { link = link_of rs; end = chain_end (kind_of s) s rs; found = found_at (place_of s label rs) })

abbrev pub scan_of : List ℕ → ℕ → Result Scan Refusal
scan_of s label = scanned s label (chain_of s)
