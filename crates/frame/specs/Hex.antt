-- Bytes as digits. Document 01, "Two framings": each byte as two characters of 0-9 A-F.
use Rattle.std.specs.Prelude.{ℕ, ◌+◌, ◌*◌, ◌/◌, ◌%◌, List, [], ◌∷◌}
use Rattle.frame.specs.Digit.{digit_of}

-- Two characters for each byte.
abbrev pub hex : List ℕ → List ℕ
hex [] = []
hex (b ∷ s) = digit_of (b / 16) ∷ digit_of (b % 16) ∷ hex s

-- The bytes that digit values stand for, two to a byte; a last odd one stands for none.
abbrev pub pairs : List ℕ → List ℕ
pairs [] = []
pairs (a ∷ []) = []
pairs (a ∷ b ∷ s) = (a * 16 + b) ∷ pairs s

-- The sum of numbers.
abbrev pub sum_of : List ℕ → ℕ
sum_of [] = 0
sum_of (n ∷ s) = n + sum_of s
