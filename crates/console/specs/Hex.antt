-- Bytes as hex digits, which are the characters 0-9 and A-F.
use Rattle.std.specs.Prelude.{ℕ, ◌+◌, ◌-◌, ◌*◌, ◌/◌, ◌%◌, cond, ◌&&◌, List, [], ◌∷◌, leb, ltb}

-- The digit that stands for a value below 16.
unfoldable pub digit_of : ℕ → ℕ
digit_of v = cond (ltb v 10) (0x30 + v) (0x37 + v)

-- The value of a digit; 0 for any other character.
unfoldable pub digit_value : ℕ → ℕ
digit_value c = cond (leb 0x30 c && leb c 0x39) (c - 0x30) (cond (leb 0x41 c && leb c 0x46) (c - 0x37) 0)

-- Two digits for each byte, that of the upper half first.
abbrev pub hex : List ℕ → List ℕ
hex [] = []
hex (b ∷ s) = digit_of (b / 16) ∷ digit_of (b % 16) ∷ hex s

-- The byte that two digits stand for.
abbrev pub byte_of : ℕ → ℕ → ℕ
byte_of a b = 16 * digit_value a + digit_value b

-- The bytes that pairs of digits with a character between them stand for. A last digit alone stands for none.
abbrev pub pair_bytes : List ℕ → List ℕ
pair_bytes [] = []
pair_bytes (a ∷ []) = []
pair_bytes (a ∷ b ∷ []) = byte_of a b ∷ []
pair_bytes (a ∷ b ∷ c ∷ s) = byte_of a b ∷ pair_bytes s
