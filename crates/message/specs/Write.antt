-- Writing a message as a frame. Document 01, "Refusal numbers", and document 02, CR 1: 8, 9, 10, 11, 17, then 14, then 13.
use Rattle.std.specs.Prelude.{ℕ, ◌≡◌, List, cond, eqb, length, Result, Ok, Err}
use Rattle.frame.specs.Framing.{layout}
use Rattle.frame.specs.Single.{Writing, length_writing, no_writing, writing, write_into}
use Rattle.frame.specs.declared.framing.Framing.{Framing}
use Rattle.message.specs.Refusal.{number_of}
use Rattle.message.specs.declared.refusal.Refusal.{Refusal}

-- The number and the length of each answer.
abbrev pub written_of : Result ℕ Refusal → Writing
written_of (Ok len) = length_writing len
written_of (Err r) = no_writing (number_of r)

-- The numbers of a write of a message with the payload p, which is refused with `refusal`, 0 for none, into a buffer with `room` bytes: the message's own
-- refusal first, and otherwise what the frame crate promises of the payload.
abbrev pub message_writing : Framing → ℕ → List ℕ → ℕ → Writing
message_writing f refusal p room = cond (eqb refusal 0) (writing p (layout f p) room) (no_writing refusal)

-- The promise of such a write into buf, which then holds `after`.
pub record Writes (f : Framing) (refusal : ℕ) (p buf : List ℕ) (answer : Result ℕ Refusal) (after : List ℕ) : Type 0 where
  pub answers : written_of answer ≡ message_writing f refusal p (length buf)
  pub leaves : after ≡ cond (eqb refusal 0) (write_into p (layout f p) buf) buf
