-- `words::strip::Strip::predecessor` meets its contract. Assumes nothing.
use Rattle.std.proofs.Common.{◌≡◌, ℕ, eqb, length, sym, refl, ap, ◌∙◌}
use Rattle.std.proofs.Math.Option.{Option, some, none}
use Rattle.words.specs.Bits.{bit_at}
use Rattle.words.specs.Strip.{as_bit, strip_of, predecessor_of, predecessor}
use Rattle.words.specs.Refusals.{refused, found}
use Rattle.words.specs.Handles.{untaken}
use Rattle.words.specs.Calls.{value_table, predecessor_told}
use Rattle.words.proofs.WordLaws.{as_bit_of}
use Rattle.words.proofs.CheckLaws.{checked_value, unless_passed}
use Rattle.words.proofs.ScanLaws.{last_before_some, last_before_none}
use Rattle.words.proofs.StripLaws.{strip_predecessor}
use Rattle.words.proofs.strip.Strip.predecessor.Goals as goal
use Rattle.words.proofs.strip.Strip.predecessor.Goals.{After-last_before}

-- the answer is what the search finds
passed : (c : After-last_before) (o : Option ℕ)
    → let h = c.args.self.handle in
    let ws = c.args.self.words.now in
    predecessor_of (bit_at ws) (as_bit (eqb c.args.v 1)) c.args.i ≡ o → found o ≡ predecessor_told h ws c.args.v c.args.i
passed c o e =
    let h = c.args.self.handle in
    let ws = c.args.self.words.now in
    let v = c.args.v in
    let i = c.args.i in
    let t = value_table h (length ws) untaken v i in
    let k = checked_value h (length ws) untaken v i (sym c.in_ok-check_value.ensures) in
    ap found (sym e ∙ ap (λ (b : ℕ). predecessor_of (bit_at ws) b i) (as_bit_of v k.1) ∙ sym (strip_predecessor ws h.length v i k.2))
    ∙ unless_passed t c.check_value.result refused (found (predecessor (strip_of ws h.length) v i)) c.check_value.ensures c.in_ok-check_value.was

pub returns-in-Some : goal.returns-in-Some
returns-in-Some c =
    let s = c.args in
    let o = c.in-Some.ensures in
    passed (goal.at.returns-in-Some c).After-last_before (some c.in-Some.p)
    (last_before_some (bit_at s.self.words.now) (as_bit (eqb s.v 1)) s.i _ _ o refl)

pub returns-in-None : goal.returns-in-None
returns-in-None c =
    let s = c.args in
    passed (goal.at.returns-in-None c).After-last_before none
    (last_before_none (bit_at s.self.words.now) (as_bit (eqb s.v 1)) s.i _ c.in-None.ensures refl)
