-- Laws on hex digits.
-- Assumes nothing.
use Rattle.std.proofs.Common.{◌≡◌, refl, ℕ, ◌+◌, ◌≤◌, ◌<◌, List, [], ◌∷◌, ◌++◌, length, get_or, take, drop, arith}
use Rattle.std.proofs.lemmas.List.{take_more}
use Rattle.console.specs.Hex.{hex, byte_of, pair_bytes}

-- The digits of two texts in a row.
hex-append : (s t : List ℕ) → hex (s ++ t) ≡ hex s ++ hex t
hex-append [] t = refl
hex-append (b ∷ s) t = rw (hex-append s t)

-- The digits of one more byte behind those of the bytes before it.
pub hex_next : (s : List ℕ) (i : ℕ) → i < length s → hex (take i s) ++ hex (get_or s i 0 ∷ []) ≡ hex (take (i + 1) s)
hex_next s i h = rw (take_more s i 0 h, hex-append)

-- Two digits at least stand for a byte, and the next pair begins at the third character behind.
pub pairs_next : (s : List ℕ) → 2 ≤ length s → pair_bytes s ≡ byte_of (get_or s 0 0) (get_or s 1 0) ∷ pair_bytes (drop 3 s)
pairs_next [] h = absurd (omega arith)
pairs_next (a ∷ []) h = absurd (omega arith)
pairs_next (a ∷ b ∷ []) h = refl
pairs_next (a ∷ b ∷ c ∷ s) h = refl

-- Fewer than two characters stand for no byte.
pub pairs_short : (s : List ℕ) → length s < 2 → pair_bytes s ≡ []
pairs_short [] h = refl
pairs_short (a ∷ []) h = refl
pairs_short (a ∷ b ∷ s) h = absurd (omega arith)
