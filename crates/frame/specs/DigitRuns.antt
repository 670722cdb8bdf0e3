-- Behind the public calls: what the functions of digit.rt answer, and those of binary.rt that work on words; and that all characters are digits.
use Rattle.std.specs.Prelude.{◌≡◌, ℕ, zero, suc, ◌+◌, ◌*◌, ◌/◌, ◌%◌, Bool, true, cond, ◌&&◌, List, [], ◌∷◌, bit_xor}
use Rattle.frame.specs.Elements.{All}
use Rattle.frame.specs.Digit.{is_digit}

-- Every element passes the test.
abbrev pub all_pass : (ℕ → Bool) → List ℕ → Bool
all_pass test [] = true
all_pass test (c ∷ s) = test c && all_pass test s

-- Every character is a digit.
abbrev pub Digits : List ℕ → Type 0
Digits s = All (λ c. is_digit c ≡ true) s

-- The number that bytes stand for in little-endian order.
abbrev pub little_endian : List ℕ → ℕ
little_endian [] = 0
little_endian (b ∷ s) = b + 256 * little_endian s

-- The XOR of the n lowest bytes of a number.
abbrev pub bytes_xor : ℕ → ℕ → ℕ
bytes_xor zero w = 0
bytes_xor (suc n) w = bit_xor (w % 256) (bytes_xor n (w / 256))

-- The count of digits at the front of s, up to `most`.
abbrev pub digit_run : ℕ → List ℕ → ℕ
digit_run zero s = 0
digit_run (suc most) [] = 0
digit_run (suc most) (c ∷ s) = cond (is_digit c) (suc (digit_run most s)) 0
