-- Examples of the mark, and of where frames began, call by call: in binary framing with the footer optional and in ASCII framing under any ending, where the
-- mark means something, and in other formats. Document 02, CR 2, 9 and 14.
use Rattle.std.specs.Prelude.{◌≡◌, List, [], ◌∷◌, ◌++◌, true, false, ℕ}
use Rattle.frame.specs.Rule.{output, nothing, found_at, rule}
use Rattle.reader.specs.Reader.{State, holding, called, line, quiet, after}
use Rattle.reader.specs.RecoveryExamples.{response, success, bare, ascii_frame, ended_by_cr, ended_by_lf, four}
use Rattle.frame.specs.declared.framing.Footer.TheVariants.{Optional, Required}
use Rattle.frame.specs.declared.framing.Ending.TheVariants.{CrLf, Any}
use Rattle.frame.specs.declared.framing.Format.TheVariants.{Binary, Ascii}

-- A reader with the footer optional that holds these bytes, with the mark and without.
abbrev pub marked : List ℕ → State
marked h = holding (Binary Optional) h true 0

abbrev pub plain : List ℕ → State
plain h = holding (Binary Optional) h false 0

-- A frame of six bytes, without its 04.
abbrev pub first_frame : List ℕ
first_frame = 0xA5 ∷ 0x5A ∷ 0x80 ∷ 0x01 ∷ 0x11 ∷ 0x11 ∷ []

-- A frame with its 04, in one chunk or two: the call stops at the checksum, and the next one takes the 04, once; a frame behind it begins behind the 04.
pub record NextCallTakesIt : Type 0 where
  pub stops : line (plain []) response ≡ called 9 (output (success ∷ []) 0) 9 [] true
  pub cut : line (plain []) (bare response) ≡ called 9 (output (success ∷ []) 0) 9 [] true
  pub stays : line (marked []) [] ≡ called 0 nothing 0 [] true
  pub taken : line (marked []) (0x04 ∷ []) ≡ called 1 nothing 0 [] false
  pub once : line (marked []) (0x04 ∷ 0x04 ∷ []) ≡ called 2 (output [] 1) 0 [] false
  pub other : line (marked []) (0x05 ∷ 0x04 ∷ []) ≡ called 2 (output [] 2) 0 [] false
  pub behind : line (marked []) (0x04 ∷ first_frame) ≡ called 7 (output ((0x11 ∷ []) ∷ []) 0) 6 [] true

-- In a format without an optional byte a frame sets no mark. One that was set by hand stays where no byte is held or offered, and is gone behind other calls;
-- what these give besides is the same with it and without (MarkMeansNothing).
pub record OtherFormats : Type 0 where
  pub required : line (holding (Binary Required) [] true 0) (0x04 ∷ []) ≡ called 1 (output [] 1) 0 [] false
  pub ascii : line (holding (Ascii CrLf) [] true 0) (0x0A ∷ []) ≡ called 1 (output [] 1) 0 [] false
  pub stays : line (holding (Binary Required) [] true 0) [] ≡ called 0 nothing 0 [] true
  pub unset : line (holding (Binary Required) [] false 0) response ≡ called 10 (output (success ∷ []) 0) 10 [] false
  pub unset_ascii : line (holding (Ascii CrLf) [] false 0) ascii_frame ≡ called 13 (output (four ∷ []) 0) 13 [] false

-- A start that claims eight bytes of payload and fails late, and a frame inside its claim.
abbrev pub fails_late : List ℕ
fails_late = 0xA5 ∷ 0x5A ∷ 0x80 ∷ 0x08 ∷ 0xA5 ∷ 0x5A ∷ 0x80 ∷ 0x01 ∷ 0x11 ∷ 0x11 ∷ 0x04 ∷ 0x00 ∷ 0x55 ∷ []

-- The frame's 04 is held behind it, and the next call drops it.
pub record HeldBehindTheFrame : Type 0 where
  pub first : line (plain []) fails_late ≡ called 13 (output ((0x11 ∷ []) ∷ []) 4) 9 (0x04 ∷ 0x00 ∷ 0x55 ∷ []) true
  pub next : line (marked (0x04 ∷ 0x00 ∷ 0x55 ∷ [])) [] ≡ called 0 (output [] 2) 0 [] false
  pub at_quiet : quiet (marked (0x04 ∷ 0x00 ∷ 0x55 ∷ [])) ≡ called 0 (output [] 2) 0 [] false
  pub all : rule (Binary Optional) fails_late ≡ output (found_at 4 7 (0x11 ∷ []) ∷ []) 6

-- A frame that began in an earlier call, and one that is held whole, with a byte behind it.
pub record BeganEarlier : Type 0 where
  pub cut : line (plain (0xA5 ∷ 0x5A ∷ 0x80 ∷ [])) (0x01 ∷ 0x11 ∷ 0x11 ∷ 0x04 ∷ []) ≡ called 3 (output ((0x11 ∷ []) ∷ []) 0) 6 [] true
  pub held : line (marked (first_frame ++ (0x01 ∷ []))) [] ≡ called 0 (output ((0x11 ∷ []) ∷ []) 0) 7 (0x01 ∷ []) true

-- A start that claims more than comes before the quiet.
abbrev pub unfinished : List ℕ
unfinished = 0xA5 ∷ 0x5A ∷ 0x80 ∷ 0x10 ∷ response

-- A frame that a quiet call finds keeps its 04; behind "empty" a 04 is noise.
pub record QuietEndsIt : Type 0 where
  pub waits : line (plain []) unfinished ≡ called 14 nothing 0 unfinished false
  pub found : quiet (plain unfinished) ≡ called 0 (output (success ∷ []) 4) 10 (0x04 ∷ []) true
  pub dropped : quiet (marked (0x04 ∷ [])) ≡ called 0 nothing 0 [] false
  pub none : quiet (marked []) ≡ called 0 nothing 0 [] false
  pub after : line (plain []) (0x04 ∷ []) ≡ called 1 (output [] 1) 0 [] false

-- A reader under any ending that holds these bytes, with the mark and without.
abbrev pub marked_line : List ℕ → State
marked_line h = holding (Ascii Any) h true 0

abbrev pub plain_line : List ℕ → State
plain_line h = holding (Ascii Any) h false 0

-- Under any ending, a frame in one chunk or two: the call stops at CR or LF. Behind CR the next call takes an LF, once, and drops one that is held in a state
-- made by hand; behind LF, and behind "empty", an LF is noise.
pub record AnyEnding : Type 0 where
  pub at_cr : line (plain_line []) ascii_frame ≡ called 12 (output (four ∷ []) 0) 12 [] true
  pub cut : line (plain_line []) ended_by_cr ≡ called 12 (output (four ∷ []) 0) 12 [] true
  pub stays : line (marked_line []) [] ≡ called 0 nothing 0 [] true
  pub taken : line (marked_line []) (0x0A ∷ []) ≡ called 1 nothing 0 [] false
  pub once : line (marked_line []) (0x0A ∷ 0x0A ∷ []) ≡ called 2 (output [] 1) 0 [] false
  pub other : line (marked_line []) (0x0D ∷ 0x0A ∷ []) ≡ called 2 (output [] 2) 0 [] false
  pub at_lf : line (plain_line []) (ended_by_lf ++ (0x0A ∷ [])) ≡ called 12 (output (four ∷ []) 0) 12 [] false
  pub behind_lf : line (plain_line []) (0x0A ∷ []) ≡ called 1 (output [] 1) 0 [] false
  pub held : line (marked_line (0x0A ∷ 0x0A ∷ [])) [] ≡ called 0 (output [] 1) 0 [] false
  pub at_quiet : quiet (marked_line (0x0A ∷ 0x0A ∷ [])) ≡ called 0 (output [] 1) 0 [] false
  pub none : quiet (marked_line []) ≡ called 0 nothing 0 [] false
  pub behind_quiet : line (after (marked_line []) (quiet (marked_line []))) (0x0A ∷ []) ≡ called 1 (output [] 1) 0 [] false
