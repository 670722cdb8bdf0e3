-- Behind the public calls: what functions of ascii.rt and framing.rt ask for and answer.
use Rattle.std.specs.Prelude.{◌≡◌, ℕ, ◌+◌, ◌*◌, ◌%◌, ◌<◌, ◌≤◌, Bool, true, List, length, take, drop, slice_index, slice_index_or}
use Rattle.frame.specs.Checks.{Checks, last_byte, test, behind, run}
use Rattle.frame.specs.Ascii.{colon, ends_digits}
use Rattle.frame.specs.DigitRuns.{Digits}
use Rattle.frame.specs.Judged.{payload_at, payload_end, verdict_of}
use Rattle.frame.specs.declared.framing.Ending.{Ending}
use Rattle.frame.specs.declared.framing.Framing.{Framing}
use Rattle.frame.specs.declared.framing.Framing.TheVariants.{Binary as BinaryFraming, Ascii as AsciiFraming}
use Rattle.frame.specs.declared.framing.Format.{Format}
use Rattle.frame.specs.declared.framing.Format.TheVariants.{Binary, Ascii}
use Rattle.frame.specs.declared.framing.Judged.{Judged}

-- A payload of n bytes can be taken out of s: it is there, and in digits where they are decoded.
abbrev pub HasPayload : Format → List ℕ → ℕ → Type 0
HasPayload (Binary footer) s n = payload_end (Binary footer) n ≤ length s
HasPayload (Ascii ending) s n = (payload_end (Ascii ending) n ≤ length s) × Digits (take (2 * n) (drop 1 s))

-- The length of a frame with a payload of n bytes.
abbrev pub frame_length : Framing → ℕ → ℕ
frame_length BinaryFraming n = n + 6
frame_length AsciiFraming n = 2 * n + 5

-- s begins with a colon, has room for an even count of digits, for a payload of 16 to 31 bytes and its checksum, and a character behind them that ends digits.
-- Whether those are digits is not said.
pub record Short (ending : Ending) (s : List ℕ) (count : ℕ) : Type 0 where
  pub least : 34 ≤ count
  pub most : count ≤ 64
  pub even : count % 2 ≡ 0
  pub start : slice_index_or s 0 0 ≡ colon
  pub inside : 1 + count < length s
  pub ends : ends_digits ending (slice_index s (1 + count)) ≡ true

-- The checks of a frame's ending, whose payload is p: its checksum is right (4), and then what is left.
abbrev pub end_checks : Bool → (List ℕ → Checks) → List ℕ → Checks
end_checks right rest p = test right 4 (rest p)

-- The answer on the ending, in any format, where the checksum is complete with the byte at `end`.
abbrev pub EndedSo : List ℕ → ℕ → Bool → (List ℕ → Checks) → ℕ → Judged → Type 0
EndedSo s end right rest len r =
    (m : Format) → behind (end + 1) (run (end_checks right rest (payload_at m s len)) (drop (end + 1) s)) ≡ verdict_of m s r

-- Where one byte, `last`, is left (5).
abbrev pub Ended : List ℕ → ℕ → Bool → ℕ → ℕ → Judged → Type 0
Ended s end right last len r = EndedSo s end right (last_byte last) len r
