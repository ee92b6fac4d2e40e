-- `listing::number::put_decimal` calls itself for the digits before the last. Assumes nothing.
use Rattle.std.proofs.Common.{ℕ, [], ◌∷◌, ◌++◌, length, sym, ap, ◌∙◌, arith}
use Rattle.listing.specs.Text.{decimal}
use Rattle.listing.specs.Working.{Put}
use Rattle.listing.proofs.DecimalLaws.{front, front_small, front_large, decimal_last, decimal_long}
use Rattle.listing.proofs.StoreLaws.{put_none, put_byte, put_length, put_as}
use Rattle.listing.proofs.number.+put_decimal.Goals as goal
use Rattle.listing.proofs.number.+put_decimal.Goals.{Joined-v-gt9, then-v-gt9, else-v-gt9}

pub put_decimal-last-requires : goal.put_decimal-last-requires
put_decimal-last-requires t c =
    (omega (arith, c.decreases, c.if-v-gt9.true), omega (arith, c.requires, decimal_long c.args.v, ap length (front_large c.args.v c.if-v-gt9.true)))

-- after the branch: the digits before the last are stored
fronted : (t : ℕ) (c : Joined-v-gt9 t) → Put c.args.out.now c.args.at (front c.args.v) c.if-v-gt9.out c.if-v-gt9.last
fronted t c =
    elim c.if-v-gt9.branch [
      | then-v-gt9 w ↦ rw (w.out-is, w.last-is) (put_as _ (sym (front_large _ w.if-v-gt9.true)) w.put_decimal-last.ensures)
      | else-v-gt9 w ↦ rw (w.out-is, w.last-is) (put_as _ (sym (front_small _ w.if-v-gt9.false)) (put_none _ _))
    ]

pub bounds-out-last : goal.bounds-out-last
bounds-out-last t c =
    let f = fronted t (goal.at.bounds-out-last t c).Joined-v-gt9 in
    omega (arith, f.end, put_length f, decimal_long c.args.v, c.requires)

pub overflow_add-result : goal.overflow_add-result
overflow_add-result t c =
    let f = fronted t (goal.at.overflow_add-result t c).Joined-v-gt9 in
    omega (arith, f.end, decimal_long c.args.v, c.requires, c.well_formed.0.0)

pub returns : goal.returns
returns t c =
    let v = c.args.v in
    put_as (decimal v) (ap (λ (d : ℕ). front v ++ (d ∷ [])) c.digit.ensures ∙ sym (decimal_last v)) (put_byte c.digit.result (fronted t (goal.at.returns t c).Joined-v-gt9))
