-- Laws on numbers and tests that no library has.
-- Assumes nothing.
use Rattle.std.proofs.Common.{◌≡◌, ℕ, zero, suc, ◌<◌, ◌≤◌, Bool, true, false, ◌&&◌, ◌⊎◌, refl, ap, ◌∙◌, inl, inr, ⊎_elim, true≢false, suc-le-suc, zero-le, eq-or-lt_of_le, arith}
use mathlib.Core.Bool.{false≢true}

pub le_or_lt : (a b : ℕ) → (a ≤ b) ⊎ (b < a)
le_or_lt zero b = inl zero-le
le_or_lt (suc a) zero = inr (suc-le-suc zero-le)
le_or_lt (suc a) (suc b) = ⊎_elim (λ p. inl (suc-le-suc p)) (λ q. inr (suc-le-suc q)) (le_or_lt a b)

-- Both tests hold where their conjunction does.
pub both_true : (a b : Bool) → a && b ≡ true → (a ≡ true) × (b ≡ true)
both_true true b e = (refl, e)
both_true false b e = absurd (false≢true e)

pub and_true : (a b : Bool) → a ≡ true → b ≡ true → a && b ≡ true
and_true a b p q = ap (λ (x : Bool). x && b) p ∙ q

pub and_fails : (a b : Bool) → (a ≡ false) ⊎ (b ≡ false) → a && b ≡ false
and_fails true b (inl e) = absurd (true≢false e)
and_fails true b (inr e) = e
and_fails false b h = refl

-- The test passes at all numbers below n.
abbrev pub below : (ℕ → Bool) → ℕ → Bool
below test zero = true
below test (suc n) = test n && below test n

-- Then it passes at each of them.
pub below_at : (test : ℕ → Bool) (n : ℕ) → below test n ≡ true → (c : ℕ) → c < n → test c ≡ true
below_at test zero e c h = absurd (omega arith)
below_at test (suc n) e c h =
    let b = both_true (test n) (below test n) e in
    by_place (eq-or-lt_of_le {n = c} {m = n} (omega arith)) b.0 (below_at test n b.1 c)
  where
    by_place : (c ≡ n) ⊎ (c < n) → test n ≡ true → (c < n → test c ≡ true) → test c ≡ true
    by_place (inl p) t rest = ap test p ∙ t
    by_place (inr l) t rest = rest l
