-- What is claimed of single frames, and that the leftmost rule leaves out no byte. Further claims stand in Further.antt; those on calls, and on the rule over
-- damage, in the crate reader. proofs/Theorems.antt proves each claim, one that takes a format for every format.
use Rattle.std.specs.Prelude.{◌≡◌, ℕ, ◌+◌, ◌≤◌, true, List, [], ◌∷◌, ◌++◌, map, length, take, ◌≢◌}
use mathlib.Core.List.{Memᴰ}
use Rattle.frame.specs.Checks.{refused, frame}
use Rattle.frame.specs.Binary.{binary_ending}
use Rattle.frame.specs.Ascii.{ascii_ending, carriage_return, line_feed}
use Rattle.frame.specs.Framing.{read, is_optional, front, framing_of}
use Rattle.frame.specs.Hex.{sum_of}
use Rattle.frame.specs.Rule.{Found, rule}
use Rattle.frame.specs.Elements.{Bytes}
use Rattle.frame.specs.declared.framing.Footer.TheVariants.{Optional, Required}
use Rattle.frame.specs.declared.framing.Ending.TheVariants.{CrLf, Any}
use Rattle.frame.specs.declared.framing.Format.{Format}
use Rattle.frame.specs.declared.framing.Format.TheVariants.{Binary, Ascii}

-- A payload: 1 to 256 bytes.
pub record Payload (p : List ℕ) : Type 0 where
  pub bytes : Bytes p
  pub some : 1 ≤ length p
  pub most : length p ≤ 256

-- The endings that a frame may have in a format: the published one; where the footer is optional, also none; under any ending, also CR alone and LF
-- alone.
abbrev pub endings : Format → List (List ℕ)
endings (Binary Optional) = binary_ending ∷ [] ∷ []
endings (Binary Required) = binary_ending ∷ []
endings (Ascii CrLf) = ascii_ending ∷ []
endings (Ascii Any) = ascii_ending ∷ (carriage_return ∷ []) ∷ (line_feed ∷ []) ∷ []

-- The front of a frame and any of its endings, where the first byte of what follows, if there is one, does not make that ending a longer one of the format,
-- are read as a frame of just that length with just that payload.
abbrev pub EndingsRead : Format → Type 0
EndingsRead m =
    (p ending more : List ℕ) → Payload p → Memᴰ ending (endings m) →
    ((b : ℕ) (rest : List ℕ) → more ≡ b ∷ rest → Memᴰ (ending ++ (b ∷ [])) (endings m) → ⊥) →
    let whole : List ℕ = front (framing_of m) p ++ ending in read m (whole ++ more) ≡ frame (length whole) p

-- Document 02, CR 2 and 9: in a format with an optional byte, which is where the footer is optional and under any ending, 5 is never given.
abbrev pub NeverFive : Format → Type 0
NeverFive m = (b : ℕ) → is_optional m b ≡ true → (s : List ℕ) (judged : ℕ) → read m s ≢ refused judged 5

-- The bytes used of s are the front of a frame with this payload and an ending.
pub record FrontAndEnding (m : Format) (s : List ℕ) (used : ℕ) (p : List ℕ) : Type 0 where
  pub ending : List ℕ
  pub ends : Memᴰ ending (endings m)
  pub bytes : take used s ≡ front (framing_of m) p ++ ending
  pub count : used ≡ length (front (framing_of m) p ++ ending)
  pub payload : Payload p

-- Of bytes, whatever is read as a frame is the front of a frame with its payload, and one of the format's endings: the encoding is unique but for these.
abbrev pub FrameIsFrontAndEnding : Format → Type 0
FrameIsFrontAndEnding m = (s p : List ℕ) (used : ℕ) → Bytes s → read m s ≡ frame used p → FrontAndEnding m s used p

-- The bytes of a segment are those of its frames and noise.
abbrev pub BytesAddUp : Format → Type 0
BytesAddUp f = (s : List ℕ) → sum_of (map (λ (x : Found). x.used) (rule f s).frames) + (rule f s).noise ≡ length s
