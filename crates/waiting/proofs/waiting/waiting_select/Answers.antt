-- `waiting::waiting::waiting_select` meets its contract: the k-th of the misfires that may be, and of those that must be. Assumes nothing.
use Rattle.std.proofs.Common.{◌≡◌, ◌+◌, ◌*◌, ◌/◌, length, sym, arith}
use Rattle.words.specs.Strip.{strip_of}
use Rattle.words.proofs.CheckLaws.{right_passed}
use Rattle.pairs.specs.Calls.{pair_lines}
use Rattle.pairs.proofs.CheckLaws.{checked_pair}
use Rattle.pairs.proofs.JoinLaws.{kth_below, kth_past, kth_none}
use Rattle.waiting.specs.Calls.{SelectTold, from_to, from_on, unselected, RightSelect, WaitingSelect}
use Rattle.waiting.specs.Working.{must_bit, may_bit}
use Rattle.waiting.proofs.CallLaws.{right_beyond, right_none, right_to, right_on}
use Rattle.waiting.proofs.waiting.waiting_select.Goals as goal
use Rattle.waiting.proofs.waiting.waiting_select.Goals.{In_ok-check_pair}

-- passed: an answer that is right of strips of one length
passed : (c : In_ok-check_pair) (x : SelectTold)
    → let a = c.args in
    let ws = a.strip.words.now in
    let vs = a.waiting.words.now in
    (a.strip.handle.length ≡ a.waiting.handle.length → RightSelect (strip_of ws a.strip.handle.length) (strip_of vs a.waiting.handle.length) a.k x)
    → WaitingSelect a.strip.handle ws a.waiting.handle vs a.k x
passed c x right =
    let h = c.args.strip.handle in
    let ws = c.args.strip.words.now in
    let g = c.args.waiting.handle in
    let vs = c.args.waiting.words.now in
    let k = checked_pair h (length ws) g (length vs) (sym c.in_ok-check_pair.ensures) in
    right_passed (pair_lines h (length ws) g (length vs)) c.check_pair.result unselected (RightSelect (strip_of ws h.length) (strip_of vs g.length) c.args.k)
    c.check_pair.ensures x c.in_ok-check_pair.was (right k.equal)

pub returns-then-n-k : goal.returns-then-n-k
returns-then-n-k c =
    let a = c.args in
    let ws = a.strip.words.now in
    let vs = a.waiting.words.now in
    passed (goal.at.returns-then-n-k c).In_ok-check_pair (unselected 6) (λ e.
    right_beyond ws vs a.strip.handle.length a.waiting.handle.length e a.k c.if-n-k.true)

pub returns-in_default : goal.returns-in_default
returns-in_default c =
    let a = c.args in
    let ws = a.strip.words.now in
    let vs = a.waiting.words.now in
    let n = a.strip.handle.length in
    passed (goal.at.returns-in_default c).In_ok-check_pair (unselected 6) (λ e.
    right_none ws vs n a.waiting.handle.length e a.k
    (kth_none (may_bit ws vs) n (64 * ((n + 63) / 64)) a.k (omega arith) c.in_default.ensures.0))

pub returns-then-n-a : goal.returns-then-n-a
returns-then-n-a c =
    let x = c.args in
    let ws = x.strip.words.now in
    let vs = x.waiting.words.now in
    let n = x.strip.handle.length in
    passed (goal.at.returns-then-n-a c).In_ok-check_pair (unselected 6) (λ e.
    right_none ws vs n x.waiting.handle.length e x.k
    (kth_past (may_bit ws vs) n (64 * ((n + 63) / 64)) x.k (omega arith) c.in-Some.a c.in-Some.ensures.0 c.if-n-a.true))

pub returns-in-Some-b : goal.returns-in-Some-b
returns-in-Some-b c =
    let x = c.args in
    let ws = x.strip.words.now in
    let vs = x.waiting.words.now in
    let n = x.strip.handle.length in
    let m = 64 * ((n + 63) / 64) in
    let at = kth_below (may_bit ws vs) n m x.k (omega arith) c.in-Some.a c.in-Some.ensures.0 (omega (arith, c.if-n-a.false)) in
    passed (goal.at.returns-in-Some-b c).In_ok-check_pair (from_to c.in-Some.a c.in-Some-b.p) (λ e.
    right_to ws vs n x.waiting.handle.length e x.k c.in-Some.a at c.in-Some-b.p
    (kth_below (must_bit ws vs) n m x.k (omega arith) c.in-Some-b.p (rw c.in-Some-b.is at c.in-Some.ensures.1) c.if-p-n.true))

pub returns-in_default-b : goal.returns-in_default-b
returns-in_default-b c =
    let x = c.args in
    let ws = x.strip.words.now in
    let vs = x.waiting.words.now in
    let n = x.strip.handle.length in
    let m = 64 * ((n + 63) / 64) in
    let at = kth_below (may_bit ws vs) n m x.k (omega arith) c.in-Some.a c.in-Some.ensures.0 (omega (arith, c.if-n-a.false)) in
    passed (goal.at.returns-in_default-b c).In_ok-check_pair (from_on c.in-Some.a) (λ e.
    right_on ws vs n x.waiting.handle.length e x.k c.in-Some.a at
    (kth_past (must_bit ws vs) n m x.k (omega arith) c.in-Some-b.p (rw c.in-Some-b.is at c.in-Some.ensures.1) c.if-p-n.false))

pub returns-in_default-b-2 : goal.returns-in_default-b-2
returns-in_default-b-2 c =
    let x = c.args in
    let ws = x.strip.words.now in
    let vs = x.waiting.words.now in
    let n = x.strip.handle.length in
    let m = 64 * ((n + 63) / 64) in
    let at = kth_below (may_bit ws vs) n m x.k (omega arith) c.in-Some.a c.in-Some.ensures.0 (omega (arith, c.if-n-a.false)) in
    passed (goal.at.returns-in_default-b-2 c).In_ok-check_pair (from_on c.in-Some.a) (λ e.
    right_on ws vs n x.waiting.handle.length e x.k c.in-Some.a at
    (kth_none (must_bit ws vs) n m x.k (omega arith) (rw c.in_default-b.is at c.in-Some.ensures.1)))
