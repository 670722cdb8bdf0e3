-- Laws on choices, and on numbers of 16 and 32 bits as bytes.
-- Assumes nothing.
use Prim.Native.Nat.{ℕ, ◌<◌}
use native.Mathlib.Omega.{arith}
use mathlib.Core.Path.{◌≡◌, refl}
use mathlib.Core.Bool.{Bool, true, false, cond}
use Rattle.std.proofs.lemmas.Nat.{from_be_bytes-to_be_bytes_4}
use Rattle.message.specs.Number.{word_at, long_at, bytes2, bytes4}

-- Of a choice, one way or the other was taken.
pub choose : {A C : Type 0} (t : Bool) {x y r : A} → cond t x y ≡ r → (t ≡ true → x ≡ r → C) → (t ≡ false → y ≡ r → C) → C
choose true e f g = f refl e
choose false e f g = g refl e

-- The bytes of a number give it back.
pub word_back : (v : ℕ) → v < 65536 → word_at (bytes2 v) 0 ≡ v
word_back v h = omega arith

pub long_back : (v : ℕ) → v < 4294967296 → long_at (bytes4 v) 0 ≡ v
long_back v h = from_be_bytes-to_be_bytes_4 v h
