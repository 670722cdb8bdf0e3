-- `frame::hex::hex_of` meets its contract by the law on both digits of a byte.
-- Assumes nothing.
use Rattle.std.proofs.Common.{◌≡◌, ℕ, ◌+◌, ◌*◌, ◌/◌, ◌%◌, ◌≤◌, [], ◌∷◌, ◌∙◌, ap₂, arith}
use lib.Bits.{bit_and, and_le_r}
use Rattle.frame.proofs.HexLaws.{both_digits_lem}
use Rattle.frame.proofs.hex.hex_of.Goals as goal

-- At most two letters are counted.
few : (b : ℕ) → bit_and ((b / 16 + b % 16 * 256 + 0x0606) / 16) 0x0101 ≤ 0x0101
few b = and_le_r ((b / 16 + b % 16 * 256 + 0x0606) / 16) 0x0101

pub returns : goal.returns
returns c =
    let b = c.args.b in
    let n = b / 16 + b % 16 * 256 + 0x3030 + bit_and ((b / 16 + b % 16 * 256 + 0x0606) / 16) 0x0101 * 7 in
    let h = both_digits_lem b (omega arith) in
    let high : n / 256 % 256 ≡ n / 256 = omega (arith, few b) in
    (rw c.from-w.ensures at c.to_le_bytes.ensures) ∙ ap₂ (λ (x y : ℕ). x ∷ y ∷ []) h.0 (high ∙ h.1)
