-- For readers that are built on these frames, as the crate reader is: what is judged at the front of bytes, and taken out of them.
use Rattle.std.specs.Prelude.{ℕ, ◌+◌, ◌*◌, ◌/◌, ◌%◌, Bool, cond, ◌&&◌, List, [], ◌∷◌, map, length, take, drop, nat_le}
use Rattle.frame.specs.Checks.{Verdict, cut, refused, frame}
use Rattle.frame.specs.Digit.{digit_value}
use Rattle.frame.specs.Hex.{pairs}
use Rattle.frame.specs.Framing.{in_front}
use Rattle.frame.specs.Refusal.{number_of}
use Rattle.frame.specs.declared.framing.Format.{Format}
use Rattle.frame.specs.declared.framing.Format.TheVariants.{Binary, Ascii}
use Rattle.frame.specs.declared.framing.Judged.{Judged}
use Rattle.frame.specs.declared.framing.Judged.TheVariants.{Undecided, Failed, Frame}

-- The bytes that the digits of s stand for, two to a byte.
abbrev pub decoded : List ℕ → List ℕ
decoded s = pairs (map digit_value s)

-- What is computed of a character: of a digit its value, of any other some number.
abbrev pub half_of : ℕ → ℕ
half_of c = c % 16 + 9 * (c / 64)

-- The byte that is computed of two characters.
abbrev pub byte_of : ℕ → ℕ → ℕ
byte_of a b = (half_of a % 16 * 16 + half_of b) % 256

-- The bytes that are computed of the characters of s, two to a byte: of digits those that they stand for.
abbrev pub unhexed : List ℕ → List ℕ
unhexed [] = []
unhexed (a ∷ []) = []
unhexed (a ∷ b ∷ s) = byte_of a b ∷ unhexed s

-- The payload of n bytes of the frame at the front of s.
abbrev pub payload_at : Format → List ℕ → ℕ → List ℕ
payload_at (Binary footer) s n = take n (drop 4 s)
payload_at (Ascii ending) s n = decoded (take (2 * n) (drop 1 s))

-- The place behind that payload.
abbrev pub payload_end : Format → ℕ → ℕ
payload_end (Binary footer) n = 4 + n
payload_end (Ascii ending) n = 1 + 2 * n

-- What is taken out of s for such a payload, also where s is no frame: in ASCII framing what is computed of characters that may be no digits.
abbrev pub bytes_at : Format → List ℕ → ℕ → List ℕ
bytes_at (Binary footer) s n = take n (drop 4 s)
bytes_at (Ascii ending) s n = unhexed (take (2 * n) (drop 1 s))

-- It is taken out where it has at most 256 bytes, s reaches as far, and the buffer has room for the longest payload. Then the buffer afterwards.
abbrev pub unpacks : Format → List ℕ → ℕ → List ℕ → Bool
unpacks m s n buf = nat_le 256 (length buf) && (nat_le n 256 && nat_le (payload_end m n) (length s))

abbrev pub unpacked : Format → List ℕ → ℕ → List ℕ → List ℕ
unpacked m s n buf = cond (unpacks m s n buf) (in_front (bytes_at m s n) buf) buf

-- The verdict where a frame's payload is to be put into a buffer: 13 where that has under 256 bytes, before a byte is judged.
abbrev pub with_room : List ℕ → Verdict → Verdict
with_room buf v = cond (nat_le 256 (length buf)) v (refused 0 13)

-- The verdict that an answer stands for, where s was judged.
abbrev pub verdict_of : Format → List ℕ → Judged → Verdict
verdict_of f s Undecided = cut
verdict_of f s (Failed r judged) = refused judged (number_of r)
verdict_of f s (Frame used len) = frame used (payload_at f s len)
