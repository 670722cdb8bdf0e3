-- Numbers are big-endian (document 01, "Two framings").
use Rattle.std.specs.Prelude.{ℕ, ◌+◌, ◌*◌, ◌/◌, ◌%◌, List, [], ◌∷◌, get_or}

-- The byte at a place, 0 past the end, and the numbers of 16 and 32 bits that begin there.
abbrev pub byte_at : List ℕ → ℕ → ℕ
byte_at p i = get_or p i 0

abbrev pub word_at : List ℕ → ℕ → ℕ
word_at p i = byte_at p i * 256 + byte_at p (i + 1)

abbrev pub long_at : List ℕ → ℕ → ℕ
long_at p i = byte_at p i * 16777216 + byte_at p (i + 1) * 65536 + byte_at p (i + 2) * 256 + byte_at p (i + 3)

-- Numbers of 16 and 32 bits as bytes.
abbrev pub bytes2 : ℕ → List ℕ
bytes2 v = v / 256 % 256 ∷ v % 256 ∷ []

abbrev pub bytes4 : ℕ → List ℕ
bytes4 v = v / 16777216 % 256 ∷ v / 65536 % 256 ∷ v / 256 % 256 ∷ v % 256 ∷ []
