-- Reading and writing a single frame across the boundary: the numbers and the buffer are those that the crates below promise.
use Rattle.std.specs.Prelude.{ℕ, ◌≡◌, List, cond, eqb, length, Option, Some, None, Result, Ok, Err}
use Rattle.frame.specs.declared.framing.Framing.{Framing}
use Rattle.frame.specs.declared.framing.Format.{Format}
use Rattle.frame.specs.declared.single.FrameRead.{FrameRead}
use Rattle.frame.specs.Framing.{read, layout}
use Rattle.frame.specs.Single.{Reading, frame_reading, no_reading, reading, read_into, Writing, length_writing, no_writing, writing, write_into}
use Rattle.boundary.specs.Refusal.{unknown_number}
use Rattle.boundary.specs.declared.single.FlatReading.{FlatReading}
use Rattle.boundary.specs.declared.single.FlatWriting.{FlatWriting}

-- The numbers of a read's answer, and of a write's, as they cross.
abbrev pub flat_reading : Reading → FlatReading
flat_reading r = record { refusal = r.number; used = r.used; len = r.len }

abbrev pub flat_writing : Writing → FlatWriting
flat_writing w = record { refusal = w.number; len = w.len }

-- The same of an answer, by the numbers of its refusals.
abbrev pub reading_by : {E : Type 0} → (E → ℕ) → Result FrameRead E → FlatReading
reading_by number (Ok frame) = flat_reading (frame_reading frame.used frame.len)
reading_by number (Err e) = flat_reading (no_reading (number e))

abbrev pub writing_by : {E : Type 0} → (E → ℕ) → Result ℕ E → FlatWriting
writing_by number (Ok len) = flat_writing (length_writing len)
writing_by number (Err e) = flat_writing (no_writing (number e))

-- What a read answers and leaves in the buffer, by its format.
abbrev pub reading_in : Option Format → List ℕ → ℕ → Reading
reading_in (Some m) s room = reading (read m s) room
reading_in None s room = no_reading unknown_number

abbrev pub read_into_in : Option Format → List ℕ → List ℕ → List ℕ
read_into_in (Some m) s buf = read_into (read m s) buf
read_into_in None s buf = buf

-- The promise of a read of s into buf, which then holds `after`.
pub record ReadsFlat (m : Option Format) (s buf : List ℕ) (answer : FlatReading) (after : List ℕ) : Type 0 where
  pub answers : answer ≡ flat_reading (reading_in m s (length buf))
  pub leaves : after ≡ read_into_in m s buf

-- What a write of the payload p answers and leaves in the buffer, by its framing, where its message is refused with `refusal`, 0 for none.
abbrev pub writing_in : Option Framing → ℕ → List ℕ → ℕ → Writing
writing_in (Some f) refusal p room = cond (eqb refusal 0) (writing p (layout f p) room) (no_writing refusal)
writing_in None refusal p room = no_writing unknown_number

abbrev pub write_into_in : Option Framing → ℕ → List ℕ → List ℕ → List ℕ
write_into_in (Some f) refusal p buf = cond (eqb refusal 0) (write_into p (layout f p) buf) buf
write_into_in None refusal p buf = buf

-- The promise of such a write into buf, which then holds `after`.
pub record WritesFlat (f : Option Framing) (refusal : ℕ) (p buf : List ℕ) (answer : FlatWriting) (after : List ℕ) : Type 0 where
  pub answers : answer ≡ flat_writing (writing_in f refusal p (length buf))
  pub leaves : after ≡ write_into_in f refusal p buf
