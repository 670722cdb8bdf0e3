-- Digits. Document 01, "Two framings": characters of 0-9 A-F.
use Rattle.std.specs.Prelude.{ℕ, ◌+◌, ◌-◌, Bool, cond, ◌&&◌, ◌||◌, nat_le, nat_lt}

-- c lies from a to b.
abbrev pub within : ℕ → ℕ → ℕ → Bool
within a b c = nat_le a c && nat_le c b

-- A digit is a character of 0-9 or A-F.
unfoldable pub is_digit : ℕ → Bool
is_digit c = within 0x30 0x39 c || within 0x41 0x46 c

-- The value of a digit; 0 for any other character.
unfoldable pub digit_value : ℕ → ℕ
digit_value c = cond (within 0x30 0x39 c) (c - 0x30) (cond (within 0x41 0x46 c) (c - 0x37) 0)

-- The digit that stands for a value below 16.
unfoldable pub digit_of : ℕ → ℕ
digit_of v = cond (nat_lt v 10) (0x30 + v) (0x37 + v)
