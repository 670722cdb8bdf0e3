-- Binary framing. Document 01, "Two framings": A5 5A; a 16-bit number, 0x8000 plus the payload length; the payload; the XOR of
-- its bytes; 04. Numbers are big-endian. Document 02, CR 2: on input the 04 may be missing, unless a reader requires it.
use Rattle.std.specs.Prelude.{ℕ, ◌+◌, ◌-◌, ◌/◌, ◌%◌, Bool, ◌&&◌, List, [], ◌∷◌, ◌++◌, length, bit_xor, nat_le}
use Rattle.frame.specs.Checks.{Checks, whole, byte, last_byte, test, word, bytes}
use Rattle.frame.specs.declared.framing.Footer.{Footer}
use Rattle.frame.specs.declared.framing.Footer.TheVariants.{Optional, Required}

-- The XOR of a and the bytes.
abbrev pub xor_from : ℕ → List ℕ → ℕ
xor_from a [] = a
xor_from a (b ∷ s) = xor_from (bit_xor a b) s

-- The checksum: the XOR of the payload's bytes.
abbrev pub xor_of : List ℕ → ℕ
xor_of p = xor_from 0 p

-- The published layout, from payload to frame, is a front and an ending. The front: all bytes before the ending.
unfoldable pub binary_front : List ℕ → List ℕ
binary_front p = let w : ℕ = 0x8000 + length p in 0xA5 ∷ 0x5A ∷ w / 256 ∷ w % 256 ∷ (p ++ (xor_of p ∷ []))

-- The footer.
abbrev pub footer_byte : ℕ
footer_byte = 0x04

-- The bytes of the ending.
abbrev pub binary_ending : List ℕ
binary_ending = footer_byte ∷ []

-- The number before the payload is 0x8000 plus a length from 1 to 256.
abbrev pub length_word : ℕ → Bool
length_word w = nat_le 0x8001 w && nat_le w 0x8100

-- Behind the length n: the payload, its checksum (4), the ending of a frame with that payload.
unfoldable pub body : (List ℕ → Checks) → ℕ → Checks
body end n = bytes n (λ p. byte (xor_of p) 4 (end p))

-- The checks: each start byte (1); the length once both its bytes are there (3); what stands behind it.
unfoldable pub binary : (List ℕ → Checks) → Checks
binary end = byte 0xA5 1 (byte 0x5A 1 (word (λ w. test (length_word w) 3 (body end (w - 0x8000)))))

-- Behind the checksum of a frame with the payload p: where the footer is optional, the frame is complete; where it is required, the footer.
abbrev pub behind_checksum : Footer → List ℕ → Checks
behind_checksum Optional p = whole p
behind_checksum Required p = last_byte footer_byte p
