-- Examples of where frames began. Document 02, CR 14.
use Rattle.std.specs.Prelude.{ℕ, ◌≡◌, List, [], ◌∷◌, ◌++◌, true, false}
use Rattle.reader.specs.Reader.{holding}
use Rattle.reader.specs.Positions.{position, rule_positions}
use Rattle.reader.specs.Further.{positions_after}
use Rattle.reader.specs.RecoveryExamples.{response, success, ascii_frame, four}
use Rattle.reader.specs.MarkExamples.{first_frame, fails_late, unfinished}
use Rattle.frame.specs.declared.framing.Footer.TheVariants.{Optional, Required}
use Rattle.frame.specs.declared.framing.Ending.TheVariants.{CrLf, Any}
use Rattle.frame.specs.declared.framing.Format.TheVariants.{Binary, Ascii}

-- Another frame of six bytes, without its 04.
abbrev pub second_frame : List ℕ
second_frame = 0xA5 ∷ 0x5A ∷ 0x80 ∷ 0x01 ∷ 0x22 ∷ 0x22 ∷ []

-- Examples. On a clean line the number is the frame's length, without an optional byte, which the next call takes. A frame that lies wholly within the bytes
-- judged at an earlier start, one that fails late or is unfinished at the quiet, is counted from the end of those bytes, as is every frame within them.
pub record PositionExamples : Type 0 where
  pub clean : rule_positions (Binary Optional) (first_frame ++ second_frame) ≡ position (0x11 ∷ []) 6 6 ∷ position (0x22 ∷ []) 12 6 ∷ []
  pub optional : rule_positions (Binary Optional) (response ++ second_frame) ≡ position success 9 9 ∷ position (0x22 ∷ []) 16 6 ∷ []
  pub required : rule_positions (Binary Required) (response ++ response) ≡ position success 10 10 ∷ position success 20 10 ∷ []
  pub any_ending : rule_positions (Ascii Any) (ascii_frame ++ ascii_frame) ≡ position four 12 12 ∷ position four 25 12 ∷ []
  pub behind_colon : rule_positions (Ascii CrLf) (0x3A ∷ ascii_frame) ≡ position four 14 13 ∷ []
  pub late : rule_positions (Binary Optional) fails_late ≡ position (0x11 ∷ []) 13 9 ∷ []
  pub late_required : rule_positions (Binary Required) fails_late ≡ position (0x11 ∷ []) 13 9 ∷ []
  pub late_twice :
      rule_positions (Binary Optional) (0xA5 ∷ 0x5A ∷ 0x80 ∷ 0x0C ∷ (first_frame ++ (second_frame ++ (0x01 ∷ first_frame))))
      ≡ position (0x11 ∷ []) 17 13 ∷ position (0x22 ∷ []) 17 7 ∷ position (0x11 ∷ []) 23 6 ∷ []
  pub at_quiet : rule_positions (Binary Optional) unfinished ≡ position success 14 10 ∷ []
  pub at_quiet_twice :
      rule_positions (Binary Optional) (0xA5 ∷ 0x5A ∷ 0x80 ∷ 0x20 ∷ (first_frame ++ second_frame))
      ≡ position (0x11 ∷ []) 16 12 ∷ position (0x22 ∷ []) 16 6 ∷ []

-- From states made by hand: two held frames, and an optional byte that is held before one.
pub record PositionsAfterExamples : Type 0 where
  pub two_held :
      positions_after (holding (Ascii CrLf) (ascii_frame ++ ascii_frame) false 0) []
      ≡ position four 26 26 ∷ position four 26 13 ∷ []
  pub optional_held :
      positions_after (holding (Binary Optional) (0x04 ∷ first_frame) true 0) second_frame
      ≡ position (0x11 ∷ []) 7 6 ∷ position (0x22 ∷ []) 13 6 ∷ []
