-- Reading and writing a single frame in either framing. Document 01, "Two framings" and "Refusal numbers".
use Rattle.std.specs.Prelude.{◌≡◌, ℕ, Bool, cond, ◌&&◌, List, length, nat_le, Result, Ok, Err}
use Rattle.frame.specs.Checks.{Verdict, cut, refused, frame, payload_in}
use Rattle.frame.specs.Framing.{read, layout, in_front}
use Rattle.frame.specs.Refusal.{number_of}
use Rattle.frame.specs.declared.framing.Framing.{Framing}
use Rattle.frame.specs.declared.framing.Format.{Format}
use Rattle.frame.specs.declared.refusal.Refusal.{Refusal}
use Rattle.frame.specs.declared.single.FrameRead.{FrameRead}

-- A read's answer as document 01 has it: the refusal's number, 0 for none, the bytes used and the payload's length.
pub record Reading : Type 0 where
  pub number : ℕ
  pub used : ℕ
  pub len : ℕ

-- A frame that was read.
abbrev pub frame_reading : ℕ → ℕ → Reading
frame_reading used len = record { number = 0; used = used; len = len }

-- A refused read.
abbrev pub no_reading : ℕ → Reading
no_reading n = record { number = n; used = 0; len = 0 }

-- The numbers of each answer.
abbrev pub reading_of : Result FrameRead Refusal → Reading
reading_of (Ok read) = frame_reading read.used read.len
reading_of (Err r) = no_reading (number_of r)

-- What a read answers where the verdict on its bytes is this and the buffer has this length: refusals 1 to 6, then 13.
abbrev pub reading : Verdict → ℕ → Reading
reading cut room = no_reading 2
reading (refused judged n) room = no_reading n
reading (frame used p) room =
    cond (nat_le (length p) room) (frame_reading used (length p)) (no_reading 13)

-- What a read leaves in the buffer.
abbrev pub read_into : Verdict → List ℕ → List ℕ
read_into v buf = cond (nat_le (length (payload_in v)) (length buf)) (in_front (payload_in v) buf) buf

-- The promise of a read of s into buf, which then holds `after`.
pub record Reads (m : Format) (s buf : List ℕ) (answer : Result FrameRead Refusal) (after : List ℕ) : Type 0 where
  pub answers : reading_of answer ≡ reading (read m s) (length buf)
  pub leaves : after ≡ read_into (read m s) buf

-- A write's answer: the refusal's number, 0 for none, and the length of the output.
pub record Writing : Type 0 where
  pub number : ℕ
  pub len : ℕ

-- What was written has this length.
abbrev pub length_writing : ℕ → Writing
length_writing len = record { number = 0; len = len }

-- A refused write.
abbrev pub no_writing : ℕ → Writing
no_writing n = record { number = n; len = 0 }

-- The numbers of each answer.
abbrev pub writing_of : Result ℕ Refusal → Writing
writing_of (Ok len) = length_writing len
writing_of (Err r) = no_writing (number_of r)

-- Document 01: 14 for a payload that is empty or over 256 bytes.
abbrev pub writable : List ℕ → Bool
writable p = nat_le 1 (length p) && nat_le (length p) 256

-- What a write of the payload p answers where the output is `out` and the buffer has this length: 14, then 13.
abbrev pub writing : List ℕ → List ℕ → ℕ → Writing
writing p out room =
    cond (writable p) (cond (nat_le (length out) room) (length_writing (length out)) (no_writing 13)) (no_writing 14)

-- What it leaves in the buffer.
abbrev pub write_into : List ℕ → List ℕ → List ℕ → List ℕ
write_into p out buf = cond (writable p && nat_le (length out) (length buf)) (in_front out buf) buf

-- The promise of a write of the payload p into buf, which then holds `after`.
pub record Writes (f : Framing) (p buf : List ℕ) (answer : Result ℕ Refusal) (after : List ℕ) : Type 0 where
  pub answers : writing_of answer ≡ writing p (layout f p) (length buf)
  pub leaves : after ≡ write_into p (layout f p) buf
