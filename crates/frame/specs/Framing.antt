-- The two framings, and the formats in which they are read, under one name: what documents 01 and 02 say of all is said once, over the framing where
-- frames are laid out, and over the format where they are read.
use Rattle.std.specs.Prelude.{ℕ, ◌+◌, ◌-◌, Bool, true, false, cond, List, [], ◌∷◌, ◌++◌, length, drop, ◌==◌, slice_index}
use Rattle.frame.specs.Checks.{Checks, Verdict, cut, refused, frame, run}
use Rattle.frame.specs.Binary.{binary, binary_front, binary_ending, footer_byte, behind_checksum}
use Rattle.frame.specs.Ascii.{ascii, ascii_front, ascii_ending, carriage_return, line_feed, line_ending}
use Rattle.frame.specs.declared.framing.Framing.{Framing}
use Rattle.frame.specs.declared.framing.Framing.TheVariants.{Binary as BinaryFraming, Ascii as AsciiFraming}
use Rattle.frame.specs.declared.framing.Footer.TheVariants.{Optional, Required}
use Rattle.frame.specs.declared.framing.Ending.TheVariants.{CrLf, Any}
use Rattle.frame.specs.declared.framing.Format.{Format}
use Rattle.frame.specs.declared.framing.Format.TheVariants.{Binary, Ascii}

-- The bytes of a frame before its ending.
abbrev pub front : Framing → List ℕ → List ℕ
front BinaryFraming p = binary_front p
front AsciiFraming p = ascii_front p

-- The published layout, from payload to frame.
abbrev pub layout : Framing → List ℕ → List ℕ
layout BinaryFraming p = front BinaryFraming p ++ binary_ending
layout AsciiFraming p = front AsciiFraming p ++ ascii_ending

-- The format in which a framing is read where none is named. Document 02, CR 2: binary frames with the footer and without it; CR 9: the strict ending.
abbrev pub format_of : Framing → Format
format_of BinaryFraming = Binary Optional
format_of AsciiFraming = Ascii CrLf

-- The framing of a format.
abbrev pub framing_of : Format → Framing
framing_of (Binary footer) = BinaryFraming
framing_of (Ascii ending) = AsciiFraming

-- The checks of a format.
abbrev pub checks : Format → Checks
checks (Binary footer) = binary (behind_checksum footer)
checks (Ascii ending) = ascii (line_ending ending)

-- The longest frame.
abbrev pub limit : Format → ℕ
limit (Binary footer) = 262
limit (Ascii ending) = 517

-- What the checks decide of the front of s: any verdict but `cut` is changed by no later byte. The line reader works with it.
abbrev pub judge : Format → List ℕ → Verdict
judge m s = run (checks m) s

-- How many bytes are judged at the place where s begins, by the verdict there: up to the deciding one, or all of s where it is undecided. Document 02, CR 7.
abbrev pub judged_as : Verdict → List ℕ → ℕ
judged_as cut s = length s
judged_as (refused judged n) s = judged
judged_as (frame used p) s = used

abbrev pub judged_at : Format → List ℕ → ℕ
judged_at m s = judged_as (judge m s) s

-- Behind a frame that the checks accept an optional byte may follow, which belongs to it. Whether it may is told by the format and the last byte that was
-- judged. Document 02, CR 2: where the footer is optional, it may follow every frame; CR 9: under any ending, one that ended with CR.
abbrev pub may_follow : Format → ℕ → Bool
may_follow (Binary Optional) last = true
may_follow (Binary Required) last = false
may_follow (Ascii CrLf) last = false
may_follow (Ascii Any) last = last == carriage_return

-- The optional byte is 04, in ASCII framing LF; where the footer is required, and under the ending CR LF, there is none.
abbrev pub is_optional : Format → ℕ → Bool
is_optional (Binary Optional) b = b == footer_byte
is_optional (Binary Required) b = false
is_optional (Ascii CrLf) b = false
is_optional (Ascii Any) b = b == line_feed

-- A frame is called open where an optional byte may follow it: here the frame that was judged of the first `used` bytes of s.
abbrev pub is_open : Format → ℕ → List ℕ → Bool
is_open m used s = may_follow m (slice_index s (used - 1))

-- How many bytes at the front of s, one or none, belong to the frame before them; `follows` says whether one may.
abbrev pub absorbed : Format → Bool → List ℕ → ℕ
absorbed m false s = 0
absorbed m true [] = 0
absorbed m true (b ∷ s) = cond (is_optional m b) 1 0

-- The bytes of s behind those that belong to the frame before.
abbrev pub behind_optional : Format → Bool → List ℕ → List ℕ
behind_optional m follows s = drop (absorbed m follows s) s

-- A frame of s that was judged, with the optional byte that follows it, which is counted among its bytes here alone.
abbrev pub with_optional : Format → List ℕ → Verdict → Verdict
with_optional m s cut = cut
with_optional m s (refused judged n) = refused judged n
with_optional m s (frame used p) = frame (used + absorbed m (is_open m used s) (drop used s)) p

-- Which frame stands at the front of s, with all bytes that belong to it. Single reads and the leftmost rule work with it.
abbrev pub read : Format → List ℕ → Verdict
read m s = with_optional m s (judge m s)

-- The bytes of p in the front of a buffer, the rest of which stays.
abbrev pub in_front : List ℕ → List ℕ → List ℕ
in_front p buf = p ++ drop (length p) buf
