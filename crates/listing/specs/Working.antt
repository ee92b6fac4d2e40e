-- Derived, for inner contracts. Assumes nothing.
use Rattle.std.specs.Prelude.{ℕ, ◌+◌, ◌≡◌, List, length}
use Rattle.std.proofs.lemmas.List.Edits.{sets}

-- t is s with the bytes xs stored from byte `at` on, and r is where they end
pub record Put (s : List ℕ) (at : ℕ) (xs t : List ℕ) (r : ℕ) : Type 0 where
  pub same : t ≡ sets s at xs
  pub end : r ≡ at + length xs
