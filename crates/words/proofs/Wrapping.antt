-- Products modulo a number, made of sums modulo it; differences modulo it that do not wrap. Assumes nothing.
use Rattle.std.proofs.Common.{◌≡◌, ℕ, ◌+◌, ◌-◌, ◌*◌, ◌/◌, ◌%◌, ◌<◌, ◌≤◌, ◌⊎◌, sym, ap, ◌∙◌, subst, inl, inr, mod-eq_of_lt, mul_assoc, mul_comm, add-mul, div-add-mod', mul-one, mul-add, arith}
use native.Mathlib.Nat.{add-mod-mod, mul-add-mod_self_right, mod-eq-sub-mod, mod-le}
use Rattle.words.proofs.Sums.{lt_or}

-- a factor may be taken modulo m first
pub mod_mul_mod : (a b m : ℕ) → (a % m * b) % m ≡ (a * b) % m
mod_mul_mod a b m =
    let swap : a / m * m * b ≡ a / m * b * m = mul_assoc (a / m) m b ∙ ap (λ (t : ℕ). a / m * t) (mul_comm m b) ∙ sym (mul_assoc (a / m) b m) in
    let e : a * b ≡ a / m * b * m + a % m * b =
    ap (λ (t : ℕ). t * b) (sym (div-add-mod' a m)) ∙ add-mul (a / m * m) (a % m) b ∙ ap (λ (t : ℕ). t + a % m * b) swap in
    sym (ap (λ (t : ℕ). t % m) e ∙ mul-add-mod_self_right (a / m * b) m (a % m * b))

-- where y is x times p modulo m, y plus y times q is x times p (1 + q)
pub wrapping_step : (m x p y z q : ℕ) → y ≡ (x * p) % m → z ≡ (y + (y * q) % m) % m → z ≡ (x * (p * (1 + q))) % m
wrapping_step m x p y z q ey ez =
    ez
    ∙ add-mod-mod y (y * q) m
    ∙ ap (λ (t : ℕ). t % m) (ap (λ (t : ℕ). t + y * q) (sym (mul-one y)) ∙ sym (mul-add y 1 q))
    ∙ ap (λ (t : ℕ). (t * (1 + q)) % m) ey
    ∙ mod_mul_mod (x * p) (1 + q) m
    ∙ ap (λ (t : ℕ). t % m) (mul_assoc x p (1 + q))

-- where r plus b is a modulo m, and a is not below b, it is a
pub wrapping_exact : (m a b r : ℕ) → r < m → (r + b) % m ≡ a → b ≤ a → r + b ≡ a
wrapping_exact m a b r small e l = go (lt_or (r + b) m)
  where
    go : (r + b < m) ⊎ (m ≤ r + b) → r + b ≡ a
    go (inl h) = sym (mod-eq_of_lt h) ∙ e
    go (inr h) =
        let le : a ≤ r + b - m = subst (λ (n : ℕ). n ≤ r + b - m) (sym (mod-eq-sub-mod h) ∙ e) (mod-le (r + b - m) m) in
        absurd (omega arith)
