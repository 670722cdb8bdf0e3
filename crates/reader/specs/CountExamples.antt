-- How near segments come to the bound on judged bytes, and examples of the count. Document 02, CR 7.
use Rattle.std.specs.Prelude.{ℕ, zero, suc, ◌+◌, ◌*◌, ◌≡◌, List, [], ◌∷◌, true, false, replicate}
use Rattle.frame.specs.Ascii.{colon}
use Rattle.frame.specs.Rule.{rule_judged}
use Rattle.reader.specs.Reader.{State, holding, line, line_judged, quiet_judged, after}
use Rattle.reader.specs.RecoveryExamples.{response, ascii_frame}
use Rattle.frame.specs.declared.framing.Footer.{Footer}
use Rattle.frame.specs.declared.framing.Footer.TheVariants.{Optional, Required}
use Rattle.frame.specs.declared.framing.Ending.{Ending}
use Rattle.frame.specs.declared.framing.Ending.TheVariants.{CrLf, Any}
use Rattle.frame.specs.declared.framing.Format.TheVariants.{Binary, Ascii}

-- How near segments come to the bound (most_judged). In ASCII framing within one: at each colon but the last, it and the next one are judged; at the last,
-- itself.
abbrev pub ColonsCount : Ending → Type 0
ColonsCount ending = (n : ℕ) → rule_judged (Ascii ending) (replicate (suc n) colon) ≡ 2 * n + 1

-- In binary framing an example with 66 for a byte, but for its end: starts that claim 256 bytes, four bytes apart. Each fails at its checksum, with 261 bytes
-- judged there and 3 at the places up to the next one; the 65 at the segment's end are undecided. That no segment has more is not claimed.
abbrev pub nested_starts : ℕ → List ℕ
nested_starts zero = []
nested_starts (suc n) = 0xA5 ∷ 0x5A ∷ 0x81 ∷ 0x00 ∷ nested_starts n

abbrev pub NestedStartsCount : Footer → Type 0
NestedStartsCount footer = (n : ℕ) → rule_judged (Binary footer) (nested_starts (n + 65)) ≡ 264 * n + 8775

-- Examples. An unfinished start is judged to its end, and then each byte behind its first at its own place; the quiet call counts what the line call did not.
pub record Unfinished : Type 0 where
  pub all : rule_judged (Binary Optional) (0xA5 ∷ 0x5A ∷ 0x80 ∷ []) ≡ 5
  pub at_line : line_judged (holding (Binary Optional) [] false 0) (0xA5 ∷ 0x5A ∷ 0x80 ∷ []) ≡ 3
  pub at_quiet : quiet_judged (holding (Binary Optional) (0xA5 ∷ 0x5A ∷ 0x80 ∷ []) false 3) ≡ 2
  pub further : line_judged (holding (Binary Optional) (0xA5 ∷ 0x5A ∷ []) false 2) (0x80 ∷ []) ≡ 1
  pub held :
      let s : State = holding (Binary Optional) [] false 0 in
      after s (line s (0xA5 ∷ 0x5A ∷ 0x80 ∷ [])) ≡ holding (Binary Optional) (0xA5 ∷ 0x5A ∷ 0x80 ∷ []) false 3

-- At a frame's own place its bytes are judged; an optional byte that follows it is not, and is no place.
pub record OptionalNotJudged : Type 0 where
  pub footer : rule_judged (Binary Optional) response ≡ 9
  pub required : rule_judged (Binary Required) response ≡ 10
  pub lf : rule_judged (Ascii Any) ascii_frame ≡ 12
  pub cr_lf : rule_judged (Ascii CrLf) ascii_frame ≡ 13
  pub taken : line_judged (holding (Binary Optional) [] true 0) (0x04 ∷ []) ≡ 0
  pub noise : line_judged (holding (Binary Optional) [] false 0) (0x04 ∷ []) ≡ 1

-- States made by hand: no more is left out than is judged at the first place, and nothing where an optional byte was absorbed there.
pub record HandMadeCounts : Type 0 where
  pub all : line_judged (holding (Binary Optional) (0xA5 ∷ 0x5A ∷ []) false 2) [] ≡ 0
  pub part : line_judged (holding (Binary Optional) (0xA5 ∷ 0x5A ∷ []) false 1) [] ≡ 1
  pub few : line_judged (holding (Binary Optional) (0x00 ∷ 0xA5 ∷ []) false 2) [] ≡ 1
  pub absorbed : line_judged (holding (Binary Optional) (0x04 ∷ 0xA5 ∷ 0x5A ∷ []) true 3) [] ≡ 2
  pub lf : quiet_judged (holding (Ascii Any) (0x0A ∷ colon ∷ 0x30 ∷ []) true 1) ≡ 3
