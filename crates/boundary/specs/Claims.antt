-- What is claimed of the flat form. A state that a call gave can be handed to the next call as it is, and so can a message that was read across the boundary
-- to a write: its numbers stand for it, and for no message of another call. An answer without a frame has 0 in the fields that speak of one.
-- proofs/Theorems.antt proves each claim.
use Rattle.std.specs.Prelude.{ℕ, ◌<◌, ◌≡◌, List, false, Option, Some, None, Ok, Err}
use Rattle.frame.specs.Framing.{format_of as default_format}
use Rattle.reader.specs.Reader.{new_reader}
use Rattle.frame.specs.declared.framing.Framing.{Framing}
use Rattle.frame.specs.declared.framing.Footer.TheVariants.{Required}
use Rattle.frame.specs.declared.framing.Ending.TheVariants.{Any}
use Rattle.frame.specs.declared.framing.Format.{Format}
use Rattle.frame.specs.declared.framing.Format.TheVariants.{Binary, Ascii}
use Rattle.reader.specs.declared.reader.Reader.{Reader}
use Rattle.message.specs.Setup.{command_of}
use Rattle.message.specs.ToModule.{change_refusal}
use Rattle.message.specs.declared.setup.SetupCommand.{SetupCommand}
use Rattle.message.specs.declared.to_module.Request.{Request}
use Rattle.message.specs.declared.to_module.OutputChange.{OutputChange}
use Rattle.message.specs.declared.from_module.Delivery.{Delivery}
use Rattle.message.specs.declared.from_module.Notice.{Notice}
use Rattle.boundary.specs.Refusal.{unknown_number}
use Rattle.boundary.specs.Framing.{framing_of, format_of, format_number}
use Rattle.boundary.specs.Line.{flat_reader, format_in, reader_in, new_flat, FeedsFlat, QuietsFlat}
use Rattle.boundary.specs.ToModule.{request_numbers, change_numbers, setup_numbers, request_in, change_in, change_refusal_in, setup_refusal_in}
use Rattle.boundary.specs.FromModule.{delivery_numbers, notice_numbers, delivery_in, notice_in}
use Rattle.boundary.specs.declared.refusal.Unnamed.TheVariants.{Kind}
use Rattle.boundary.specs.declared.line.LineReader.{LineReader}
use Rattle.boundary.specs.declared.line.LineAnswer.{LineAnswer}
use Rattle.boundary.specs.declared.line.LineFed.{LineFed}

pub record CrossesBack : Type 0 where
  -- The number of a format stands for it; that of a framing's default stands for the framing in a write.
  pub format : (m : Format) → format_of (format_number m) ≡ Some m
  pub framing : (f : Framing) → framing_of (format_number (default_format f)) ≡ Some f
  -- Binary with the footer required is 2, ASCII with any ending 3; numbers above it stand for no format, numbers above 1 for no framing.
  pub required : format_number (Binary Required) ≡ 2
  pub any_ending : format_number (Ascii Any) ≡ 3
  pub no_format : (n : ℕ) → 3 < n → format_of n ≡ None
  pub no_framing : (n : ℕ) → 1 < n → framing_of n ≡ None
  -- The numbers of a state stand for it; those of a new one are a new reader's.
  pub reader_format : (r : Reader) → format_in (flat_reader r) ≡ Some r.format
  pub reader : (r : Reader) → reader_in r.format (flat_reader r) ≡ r
  pub new : (m : Format) → new_flat (format_number m) ≡ flat_reader (new_reader m)
  -- A state that is not refused as unknown, handed over and given back, is the same in every field.
  pub given_back : (r : LineReader) (m : Format) → format_in r ≡ Some m → flat_reader (reader_in m r) ≡ r
  -- The numbers of a message stand for it, wherever its data began.
  pub request : (m : Request) (start : ℕ) → request_in (request_numbers m start) ≡ Some m
  pub change : (m : OutputChange) → change_in (change_numbers m) ≡ m
  pub setup : (c : SetupCommand) → command_of (setup_numbers c).command ≡ Some c
  pub delivery : (m : Delivery) (start : ℕ) → delivery_in (delivery_numbers m start) ≡ Some m
  pub notice : (m : Notice) → notice_in (notice_numbers m) ≡ Ok m
  -- The calls for a change of outputs and for a command, which test the kind first, find it right: what is refused is for the message's own reason.
  pub change_taken : (m : OutputChange) → change_refusal_in (change_numbers m) ≡ change_refusal m
  pub setup_taken : (c : SetupCommand) → setup_refusal_in (setup_numbers c) ≡ 0
  -- To the module: the numbers of a message are refused by the calls that write other messages.
  pub change_no_request : (m : OutputChange) → request_in (change_numbers m) ≡ None
  pub setup_no_request : (c : SetupCommand) → request_in (setup_numbers c) ≡ None
  pub request_no_change : (m : Request) (start : ℕ) → change_refusal_in (request_numbers m start) ≡ unknown_number
  pub setup_no_change : (c : SetupCommand) → change_refusal_in (setup_numbers c) ≡ unknown_number
  pub request_no_setup : (m : Request) (start : ℕ) → setup_refusal_in (request_numbers m start) ≡ unknown_number
  pub change_no_setup : (m : OutputChange) → setup_refusal_in (change_numbers m) ≡ unknown_number
  -- From the module: the same.
  pub notice_no_delivery : (m : Notice) → delivery_in (notice_numbers m) ≡ None
  pub delivery_no_notice : (m : Delivery) (start : ℕ) → notice_in (delivery_numbers m start) ≡ Err Kind

-- Of a line or quiet call, refused ones too: without a frame, the payload's length is 0, and so is how far back a frame began.
pub record ZeroWithoutFrame (a : LineAnswer) : Type 0 where
  pub len : a.len ≡ 0
  pub began : a.began ≡ 0

pub record NoneIsZero : Type 0 where
  pub at_line :
      (m : Option Format) (r : LineReader) (chunk buf : List ℕ) (fed : LineFed) (after : List ℕ) → FeedsFlat m r chunk buf fed after →
      fed.answer.is_frame ≡ false → ZeroWithoutFrame fed.answer
  pub at_quiet :
      (m : Option Format) (r : LineReader) (buf : List ℕ) (fed : LineFed) (after : List ℕ) → QuietsFlat m r buf fed after →
      fed.answer.is_frame ≡ false → ZeroWithoutFrame fed.answer
