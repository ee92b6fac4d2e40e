-- `image::right::part_right` meets its contract. The invariant: pad and padding are zero, the entries before superblock e are right, and `sum` is the
-- ones before it. Assumes nothing.
use mathlib.Core.Path.{refl, ap, subst}
use mathlib.Core.Bool.{Bool}
use Prim.Native.Nat.{ℕ, ◌+◌, ◌*◌}
use native.Mathlib.Omega.{arith}
use lib.ListN.{get_or}
use Rattle.counters.specs.Working.{Decides}
use Rattle.image.specs.Kinds.{kind1}
use Rattle.image.specs.Rows.{row_bits}
use Rattle.image.specs.Writing.{superblock_cells}
use Rattle.image.specs.Reading.{PaddingZero}
use Rattle.image.proofs.KindLaws.{kind1_fits, kind1_unpadded}
use Rattle.image.proofs.EntryLaws.{kind1_tells, counts_fit, entry_made}
use Rattle.image.proofs.PartLaws.{good_part_lem, row_le}
use Rattle.image.proofs.RightLaws.{no_right, SuperblocksRead, read_none, read_le, read_done}
use Rattle.image.proofs.RightLaws.{SuperblockCounted, read_counted, read_more, read_wrong}
use Rattle.std.proofs.Common.{not}
use Rattle.image.proofs.right.part_right.Goals as goal
use Rattle.image.proofs.right.part_right.Goals.{After-padding_zero, After-block_counts-counts, Else-not-entry_right}

pub new-requires : goal.new-requires
new-requires c =
    let k = good_part_lem kind1 c.args.part.now c.args.n c.requires in
    (k.1, k.2)

-- whether the padding is zero, of the part
padded : (c : After-padding_zero) → Decides c.padding_zero.result (PaddingZero kind1 c.args.part.now c.args.n)
padded c = rw (c.new.ensures.0, c.new.ensures.1) at c.padding_zero.ensures

pub returns-then-not-padding_zero : goal.returns-then-not-padding_zero
returns-then-not-padding_zero c =
    let a = c.args in
    let pad = padded (goal.at.returns-then-not-padding_zero c).After-padding_zero in
    no_right kind1 kind1_fits kind1_tells a.part.now a.n c.requires (λ i. omega (arith, c.type_inv.part i))
    (λ f. subst (λ (b : Bool). Decides b (PaddingZero kind1 a.part.now a.n)) (c.if-not-padding_zero.true) pad f.padding)

pub loop-e-init : goal.loop-e-init
loop-e-init c =
    let a = c.args in
    read_none kind1 a.part.now a.n (λ i l. absurd (omega (arith, kind1_unpadded a.n)))
    (subst (λ (b : Bool). Decides b (PaddingZero kind1 a.part.now a.n)) (c.if-not-padding_zero.false) (padded (goal.at.loop-e-init c).After-padding_zero))

-- the ones of superblock e are counted
counted : (c : After-block_counts-counts)
    → let a = c.args in
    let l = c.loop-e in
    SuperblockCounted kind1 a.part.now a.n l.e l.sum c.block_counts-counts.result
counted c =
    let a = c.args in
    let l = c.loop-e in
    read_counted kind1 kind1_fits a.part.now a.n l.e l.sum c.block_counts-counts.result _ l.invariant (omega arith)
    (ap (λ (s : ℕ). s + 512 * l.e) c.bits_start-start.ensures.0) c.block_counts-counts.ensures

pub entry_right-requires : goal.entry_right-requires
entry_right-requires c =
    let a = c.args in
    let l = c.loop-e in
    let k = good_part_lem kind1 a.part.now a.n c.requires in (
      omega (arith, k.1),
      counts_fit (superblock_cells kind1 (row_bits kind1 a.part.now a.n) l.e) _ _ (counted (goal.at.entry_right-requires c).After-block_counts-counts).counted
          (λ p. row_le kind1 a.part.now a.n (4096 * l.e + p))
          (omega (arith, read_le kind1 a.part.now a.n l.e l.sum l.invariant)),
    )

pub returns-then-not-entry_right : goal.returns-then-not-entry_right
returns-then-not-entry_right c =
    let right = c.entry_right in
    no_right kind1 kind1_fits kind1_tells c.args.part.now c.args.n c.requires
    (λ i. omega (arith, c.type_inv.part i))
    (read_wrong kind1 kind1_fits _ _ _ _ _ (counted (goal.at.returns-then-not-entry_right c).After-block_counts-counts) right.result _ (entry_made _ _ _ (counted (goal.at.returns-then-not-entry_right c).After-block_counts-counts).counted) right.ensures (ap not c.if-not-entry_right.true))

-- the entry of superblock e is right
next : (c : Else-not-entry_right) (counted : let a = c.args in
    let l = c.loop-e in
    SuperblockCounted kind1 a.part.now a.n l.e l.sum c.block_counts-counts.result)
    → let a = c.args in
    let l = c.loop-e in
    SuperblocksRead kind1 a.part.now a.n (l.e + 1) (l.sum + get_or c.block_counts-counts.result 7 0)
next c counted =
    let right = c.entry_right in
    let k = counted in
    read_more kind1 kind1_fits _ _ _ _ _ k right.result _ (entry_made _ _ _ k.counted) right.ensures 7 refl (ap not c.if-not-entry_right.false)

pub overflow_add-sum : goal.overflow_add-sum
overflow_add-sum c =
    let a = c.args in
    let l = c.loop-e in
    omega (arith, read_le kind1 a.part.now a.n (l.e + 1) _ (next (goal.at.overflow_add-sum c).Else-not-entry_right (counted (goal.at.overflow_add-sum c).After-block_counts-counts)))

pub loop-e-preserved : goal.loop-e-preserved
loop-e-preserved c = next (goal.at.loop-e-preserved c).Else-not-entry_right (counted (goal.at.loop-e-preserved c).After-block_counts-counts)

pub returns : goal.returns
returns c =
    let a = c.args in
    let l = c.loop-e in
    read_done kind1 kind1_fits kind1_tells a.part.now a.n l.e l.sum c.ones_at.result c.requires
    (λ i. omega (arith, c.type_inv.part i)) l.invariant (omega arith)
    c.ones_at.ensures.0
