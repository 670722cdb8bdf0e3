-- Runs of bytes that pass a test.
use Rattle.std.specs.Prelude.{◌≡◌, ℕ, ◌<◌, Bool}

-- The calls of a test are the function p: whatever a call gives for a byte is what p gives.
abbrev pub IsTest : (ℕ → Bool → Type 0) → (ℕ → Bool) → Type 0
IsTest gives p = (b : ℕ) (r : Bool) → b < 256 → gives b r → r ≡ p b
