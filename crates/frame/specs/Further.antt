-- Further claims: on layouts that are read, on decisions, on sizes of frames, and on what is taken out of them. Document 00's demands are stated without them.
use Rattle.std.specs.Prelude.{◌≡◌, ℕ, ◌<◌, ◌≤◌, true, List, ◌++◌, length}
use Rattle.frame.specs.Checks.{Verdict, cut, refused, frame, payload_in}
use Rattle.frame.specs.Framing.{layout, framing_of, judge, read, limit, in_front}
use Rattle.frame.specs.Judged.{verdict_of, unpacks, unpacked}
use Rattle.frame.specs.Claims.{Payload}
use Rattle.frame.specs.declared.framing.Format.{Format}
use Rattle.frame.specs.declared.framing.Judged.TheVariants.{Frame}

-- In every format of a framing, what its layout gives is read as a frame of just that length with just that payload, whatever bytes follow.
abbrev pub LayoutReads : Format → Type 0
LayoutReads m =
    (p more : List ℕ) → Payload p → let whole : List ℕ = layout (framing_of m) p in read m (whole ++ more) ≡ frame (length whole) p

-- The bytes are enough for a decision.
abbrev pub Decided : Verdict → Type 0
Decided cut = ⊥
Decided (refused judged n) = Unit {0}
Decided (frame used p) = Unit {0}

-- A decision stands when more bytes follow.
abbrev pub DecisionStands : Format → Type 0
DecisionStands f = (s more : List ℕ) → Decided (judge f s) → judge f (s ++ more) ≡ judge f s

-- Bytes still undecided are fewer than the limit.
abbrev pub UndecidedIsShort : Format → Type 0
UndecidedIsShort f = (s : List ℕ) → judge f s ≡ cut → length s < limit f

-- As many bytes of s as a frame can use: at least one, at most the limit, and no more than there are.
pub record Sized (f : Format) (s : List ℕ) (used : ℕ) : Type 0 where
  pub some : 1 ≤ used
  pub most : used ≤ limit f
  pub there : used ≤ length s

-- A frame that was judged uses so many, and so does one that is read, with its optional byte.
abbrev pub FrameIsSized : Format → Type 0
FrameIsSized f = (s p : List ℕ) (used : ℕ) → judge f s ≡ frame used p → Sized f s used

abbrev pub ReadIsSized : Format → Type 0
ReadIsSized f = (s p : List ℕ) (used : ℕ) → read f s ≡ frame used p → Sized f s used

-- Where `judge` answers that there is a frame, its `len` is the length of the payload, and `unpack` with it puts the payload into a buffer with room, and says
-- so.
abbrev pub UnpackGivesPayload : Format → Type 0
UnpackGivesPayload f =
    (s buf : List ℕ) (used len : ℕ) → judge f s ≡ verdict_of f s (Frame used len) → 256 ≤ length buf →
    let p : List ℕ = payload_in (judge f s) in (length p ≡ len) × (unpacks f s len buf ≡ true) × (unpacked f s len buf ≡ in_front p buf)
