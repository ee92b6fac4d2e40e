-- `counters::fit::record_fits` meets its contract. Assumes nothing.
use Rattle.std.proofs.Common.{◌≡◌, ℕ, ◌≤◌, true, false, sym, true≢false, arith}
use Rattle.std.specs.Prelude.{Option, Some, None}
use Rattle.std.specs.Option.{is_some}
use Rattle.words.specs.Strip.{PastZero}
use Rattle.words.specs.Bits.{bit_at}
use Rattle.words.specs.Working.{NextAt, FirstFrom}
use Rattle.counters.proofs.PromiseLaws.{sizes}
use Rattle.counters.specs.Record.{Fits}
use Rattle.counters.proofs.ReadLaws.{unfit_fitting, none_past, root_total, total_decides, total_fitting}
use Rattle.counters.proofs.fit.record_fits.Goals as goal

-- what is found past the length is a one
found : (f : ℕ → ℕ) (n i : ℕ) (o : Option ℕ) → NextAt f n 1 i o → true ≡ is_some o → ((p : ℕ) → i ≤ p → f p ≡ 0) → ⊥
found f n i (Some r) next e clean = omega (arith, clean r next.0.start, next.0.hit next.1)
found f n i None next e clean = true≢false e

-- nothing is found
nothing : (f : ℕ → ℕ) (n i : ℕ) (o : Option ℕ) → NextAt f n 1 i o → false ≡ is_some o → FirstFrom f n 1 i n
nothing f n i (Some r) next e = absurd (true≢false (sym e))
nothing f n i None next e = next

pub returns-then-is_some : goal.returns-then-is_some
returns-then-is_some c =
    let h = c.args.h in
    let ws = c.args.words.now in
    let cs = c.args.counters.now in
    let no : Fits h ws cs → ⊥ = λ f. found (bit_at ws) h.capacity h.length _ c.first_from.ensures c.if-is_some.ensures f.clean in
    (sym (unfit_fitting h ws cs (sizes h ws cs c.requires) no), no)

pub returns-then-not-fits : goal.returns-then-not-fits
returns-then-not-fits c =
    let h = c.args.h in
    let ws = c.args.words.now in
    let cs = c.args.counters.now in
    let no : Fits h ws cs → ⊥ = λ f. c.if-not-fits.ensures f.right in
    (sym (unfit_fitting h ws cs (sizes h ws cs c.requires) no), no)

pub returns : goal.returns
returns c =
    let h = c.args.h in
    let ws = c.args.words.now in
    let cs = c.args.counters.now in
    let z = sizes h ws cs c.requires in
    let clean : PastZero ws h.length = none_past h ws cs z (nothing (bit_at ws) h.capacity h.length _ c.first_from.ensures c.if-is_some.ensures) in
    let total = root_total h ws cs c.ones_held.result z c.if-not-fits.ensures clean c.ones_held.ensures.1 in (
      total_fitting h ws cs c.ones_held.result z (λ k. (c.type_inv.words k).fits) clean c.if-not-fits.ensures total,
      total_decides h ws cs c.ones_held.result clean c.if-not-fits.ensures total,
    )
