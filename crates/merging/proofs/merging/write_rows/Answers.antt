-- `merging::merging::write_rows` meets its contract. Assumes nothing.
use mathlib.Core.Path.{◌≡◌, ap, ◌∙◌}
use mathlib.Core.List.{◌++◌}
use Prim.Native.Nat.{ℕ, ◌+◌, ◌≤◌}
use native.Mathlib.Omega.{arith}
use lib.ListN.{length, drop}
use Rattle.std.specs.Prelude.{None, Some}
use Rattle.image.specs.Kinds.{kind1}
use Rattle.image.specs.Layout.{unit_bytes, most_bytes}
use Rattle.image.specs.Chain.{header_of}
use Rattle.image.specs.Shelf.{sizes_of}
use Rattle.image.proofs.KindLaws.{kind1_fits}
use Rattle.merging.specs.Merged.{rows_of}
use Rattle.merging.specs.Working.{unmarked}
use Rattle.merging.proofs.LoopLaws.{merged_sizes, merged_written}
use Rattle.merging.proofs.merging.write_rows.Goals as goal

pub copy_rows-at-requires : goal.copy_rows-at-requires
copy_rows-at-requires c =
    let sizes = merged_sizes c.requires.0.1 c.requires.1 kind1 kind1_fits in
    let fits : unit_bytes + sizes_of kind1 (unmarked None (rows_of c.args.first.image.now)) ≤ length c.put_header.new.image =
    omega (arith, sizes, c.requires.2, c.requires.3, c.put_header.auto.image) in
    let small : length c.put_header.new.image ≤ most_bytes = omega (arith, c.requires.4, c.put_header.auto.image) in
    (c.requires.0.0, fits, small)

pub copy_rows-requires : goal.copy_rows-requires
copy_rows-requires c =
    let sizes = merged_sizes c.requires.0.1 c.requires.1 kind1 kind1_fits in
    let long : length c.copy_rows-at.new.out ≡ length c.args.third.now = c.copy_rows-at.auto.out ∙ c.put_header.auto.image in
    let fits : c.copy_rows-at.result + sizes_of kind1 (unmarked (Some c.args.first.places.now) (rows_of c.args.second.now))
    ≤ length c.copy_rows-at.new.out =
    omega (arith, sizes, c.copy_rows-at.ensures.ends, c.requires.2, c.requires.3, long) in
    let small : length c.copy_rows-at.new.out ≤ most_bytes = omega (arith, c.requires.4, long) in
    (c.requires.1, fits, small)

pub returns : goal.returns
returns c =
    merged_written c.requires.0.1 c.requires.1 kind1 kind1_fits c.args.third.now c.put_header.new.image c.requires.2
    c.requires.3 (c.put_header.ensures ∙ ap (λ (k : ℕ). header_of kind1 k ++ drop unit_bytes c.args.third.now) c.next_index.ensures)
    c.copy_rows-at.ensures c.copy_rows.ensures
