-- ASCII framing. Document 01, "Two framings": a colon; the payload and one checksum byte, each as two characters of 0-9 A-F;
-- CR LF. The sum of payload and checksum is 0 modulo 256. Document 02, CR 9: a reader may also take any ending: CR, LF or CR LF.
use Rattle.std.specs.Prelude.{ℕ, zero, suc, ◌-◌, ◌%◌, Bool, cond, ◌&&◌, ◌||◌, List, [], ◌∷◌, ◌++◌, length, ◌==◌, nat_le}
use mathlib.Core.List.{drop_last}
use Rattle.frame.specs.Checks.{Checks, next, fails, whole, byte, last_byte, test}
use Rattle.frame.specs.Digit.{is_digit, digit_value}
use Rattle.frame.specs.Hex.{hex, pairs, sum_of}
use Rattle.frame.specs.declared.framing.Ending.{Ending}
use Rattle.frame.specs.declared.framing.Ending.TheVariants.{CrLf, Any}

-- The character that starts a frame.
abbrev pub colon : ℕ
colon = 0x3A

-- The first character of the published ending.
abbrev pub carriage_return : ℕ
carriage_return = 0x0D

-- The last character of that ending.
abbrev pub line_feed : ℕ
line_feed = 0x0A

-- The byte that brings the sum of payload and checksum to 0 modulo 256.
abbrev pub checksum_of : List ℕ → ℕ
checksum_of p = (256 - sum_of p % 256) % 256

-- The published layout, from payload to frame, is a front and an ending. The front: all characters before the ending.
unfoldable pub ascii_front : List ℕ → List ℕ
ascii_front p = colon ∷ hex (p ++ (checksum_of p ∷ []))

-- The characters of the ending.
abbrev pub ascii_ending : List ℕ
ascii_ending = carriage_return ∷ line_feed ∷ []

-- Up to `room` digits, whose values are handed to t with the first other character; a further digit is refusal 3.
unfoldable pub hex_digits : ℕ → (List ℕ → ℕ → Checks) → Checks
hex_digits zero t = next (λ c. cond (is_digit c) (fails 3) (t [] c))
hex_digits (suc room) t = next (λ c. cond (is_digit c) (hex_digits room (λ ds e. t (digit_value c ∷ ds) e)) (t [] c))

-- As many digits as a payload and its checksum have: an even count, at least four.
abbrev pub digit_count : ℕ → Bool
digit_count n = nat_le 4 n && n % 2 == 0

-- Behind digits of these values: their count (3), then their sum (4), then what is left for the payload that they stand for.
unfoldable pub after_digits : List ℕ → (List ℕ → Checks) → Checks
after_digits ds rest = test (digit_count (length ds)) 3 (test (sum_of (pairs ds) % 256 == 0) 4 (rest (drop_last (pairs ds))))

-- The checks: the start (1); at most 514 digits (3); the ending, given the digits' values and the first other character.
unfoldable pub ascii : (List ℕ → ℕ → Checks) → Checks
ascii end = byte colon 1 (hex_digits 514 end)

-- The characters at which the digits end and are judged: CR; under any ending also LF.
abbrev pub ends_digits : Ending → ℕ → Bool
ends_digits CrLf c = c == carriage_return
ends_digits Any c = c == carriage_return || c == line_feed

-- Behind the character that ended the digits of a frame with the payload p: under the ending CR LF there is LF; under any ending the frame is complete.
abbrev pub behind_digits : Ending → List ℕ → Checks
behind_digits CrLf p = last_byte line_feed p
behind_digits Any p = whole p

-- The ending, at the first character c that is no digit: where c does not end digits it is refusal 6; otherwise the digits are judged, and then the characters
-- behind c.
unfoldable pub line_ending : Ending → List ℕ → ℕ → Checks
line_ending e ds c = test (ends_digits e c) 6 (after_digits ds (behind_digits e))
