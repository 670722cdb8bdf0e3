-- Examples of damage, in binary framing and last in ASCII framing: good frames are lost and later ones come back; without the proviso on A5 5A a good frame far
-- into the stretch may be lost; where the footer is optional, good frames with it and without it stand mixed, and under any ending those with CR, LF and CR LF.
-- Document 02, CR 2 and 9.
use Rattle.std.specs.Prelude.{ℕ, ◌+◌, ◌≤◌, ◌≡◌, length, take, drop, replicate}
use mathlib.Core.List.{List, [], ◌∷◌, ◌++◌, flatten, drop_last, Memᴰ}
use Rattle.frame.specs.Checks.{cut, refused}
use Rattle.frame.specs.Framing.{read}
use Rattle.frame.specs.Rule.{output, Found, found_at, rule}
use Rattle.reader.specs.Recovery.{Good, Stretch, founds_from, PairsBegin}
use Rattle.frame.specs.declared.framing.Footer.{Footer}
use Rattle.frame.specs.declared.framing.Footer.TheVariants.{Optional, Required}
use Rattle.frame.specs.declared.framing.Ending.{Ending}
use Rattle.frame.specs.declared.framing.Ending.TheVariants.{CrLf, Any}
use Rattle.frame.specs.declared.framing.Format.TheVariants.{Binary, Ascii}

-- A response: 80, success.
abbrev pub response : List ℕ
response = 0xA5 ∷ 0x5A ∷ 0x80 ∷ 0x04 ∷ 0xDB ∷ 0xA1 ∷ 0x80 ∷ 0x01 ∷ 0xFB ∷ 0x04 ∷ []

-- A frame whose payload is n times 00, for n from 1 to 255.
abbrev pub blank : ℕ → List ℕ
blank n = 0xA5 ∷ 0x5A ∷ 0x80 ∷ n ∷ (replicate n 0 ++ (0x00 ∷ 0x04 ∷ []))

-- The payload of the response.
abbrev pub success : List ℕ
success = 0xDB ∷ 0xA1 ∷ 0x80 ∷ 0x01 ∷ []

-- A response found at a place.
abbrev pub response_at : ℕ → Found
response_at place = found_at place 10 success

-- The start of a frame with 256 bytes of payload.
abbrev pub stray_start : List ℕ
stray_start = 0xA5 ∷ 0x5A ∷ 0x81 ∷ 0x00 ∷ []

-- 258 bytes of good frames that happen to complete it, then two more.
abbrev pub overlapped : List (List ℕ)
overlapped = replicate 22 response ++ (blank 11 ∷ blank 15 ∷ response ∷ response ∷ [])

-- The stray start takes 24 good frames with it, and the two behind them come back; for either choice of the footer.
pub record LostAndBack (footer : Footer) : Type 0 where
  pub good : Stretch (Binary footer) overlapped
  pub pairs : PairsBegin overlapped
  pub frames :
      rule (Binary footer) (stray_start ++ flatten overlapped)
      ≡ output (found_at 0 262 (take 256 (flatten overlapped)) ∷ response_at 262 ∷ response_at 272 ∷ []) 0

-- A good frame of 262 bytes whose payload holds another frame's start, and one that happens to complete that start.
abbrev pub holds_start : List ℕ
holds_start = 0xA5 ∷ 0x5A ∷ 0x81 ∷ 0x00 ∷ 0x7E ∷ 0x04 ∷ (stray_start ++ (replicate 250 0 ++ (0x04 ∷ 0x04 ∷ [])))

abbrev pub completes : List ℕ
completes = 0xA5 ∷ 0x5A ∷ 0x80 ∷ 0x04 ∷ 0x7B ∷ 0x04 ∷ 0x00 ∷ 0x00 ∷ 0x7F ∷ 0x04 ∷ []

abbrev pub unguarded : List (List ℕ)
unguarded = holds_start ∷ completes ∷ response ∷ []

-- The start of a frame with 4 bytes of payload.
abbrev pub short_start : List ℕ
short_start = 0xA5 ∷ 0x5A ∷ 0x80 ∷ 0x04 ∷ []

-- The second good frame, which begins 262 bytes into the stretch.
abbrev pub lost_frame : Found
lost_frame = found_at 266 10 (0x7B ∷ 0x04 ∷ 0x00 ∷ 0x00 ∷ [])

-- Without the proviso: it is lost to a frame that begins inside the first good one; for either choice of the footer.
pub record ProvisoNeeded (footer : Footer) : Type 0 where
  pub good : Stretch (Binary footer) unguarded
  pub there : Memᴰ lost_frame (founds_from (Binary footer) (length short_start) unguarded)
  pub late : length short_start + 260 ≤ lost_frame.place
  pub frames :
      rule (Binary footer) (short_start ++ flatten unguarded)
      ≡ output (found_at 0 10 stray_start ∷ found_at 10 262 (take 256 (drop 10 (flatten unguarded))) ∷ response_at 276 ∷ []) 4
  pub lost : Memᴰ lost_frame (rule (Binary footer) (short_start ++ flatten unguarded)).frames → ⊥

-- A frame without its footer.
abbrev pub bare : List ℕ → List ℕ
bare g = drop_last g

-- A response without its footer, found at a place.
abbrev pub bare_at : ℕ → Found
bare_at place = found_at place 9 success

-- Six good frames of 10, 9, 6, 11, 9 and 10 bytes, the second, third and fifth without their footers.
abbrev pub mixed : List (List ℕ)
mixed = response ∷ bare response ∷ bare (blank 1) ∷ blank 5 ∷ bare response ∷ response ∷ []

-- The start of a frame with 8 bytes of payload, which fails in the first good frame: their XOR is 80, and FB follows.
abbrev pub failing_start : List ℕ
failing_start = 0xA5 ∷ 0x5A ∷ 0x80 ∷ 0x08 ∷ []

-- The start of a frame with 34 bytes of payload, which the first four good frames happen to complete: the XOR of the 34 is 00, and the
-- fourth frame's checksum and footer follow, 00 and 04.
abbrev pub mixed_start : List ℕ
mixed_start = 0xA5 ∷ 0x5A ∷ 0x80 ∷ 0x22 ∷ []

-- Where the footer is optional: a start that fails takes no good frame with it; one that is completed takes four, with the fourth one's
-- footer, and the two behind them come back.
pub record MixedFooters : Type 0 where
  pub good : Stretch (Binary Optional) mixed
  pub pairs : PairsBegin mixed
  pub kept :
      rule (Binary Optional) (failing_start ++ flatten mixed)
      ≡ output
      (response_at 4 ∷ bare_at 14 ∷ found_at 23 6 (replicate 1 0) ∷ found_at 29 11 (replicate 5 0) ∷ bare_at 40 ∷ response_at 49 ∷ [])
      4
  pub lost :
      rule (Binary Optional) (mixed_start ++ flatten mixed)
      ≡ output (found_at 0 40 (take 34 (flatten mixed)) ∷ bare_at 40 ∷ response_at 49 ∷ []) 0

-- Where the footer is required, a frame without it is no good frame: alone it is cut short (2); before another frame it is refused (5),
-- and its bytes are noise.
pub record FooterRequired : Type 0 where
  pub not_good : Good (Binary Required) (bare response) → ⊥
  pub alone : read (Binary Required) (bare response) ≡ cut
  pub before : read (Binary Required) (bare response ++ response) ≡ refused 10 5
  pub frames : rule (Binary Required) (bare response ++ response) ≡ output (response_at 9 ∷ []) 9

-- In ASCII framing, a start `:0001` that the next one cuts short, and the frame `:00010203FA` with CR LF.
abbrev pub cut_short : List ℕ
cut_short = 0x3A ∷ 0x30 ∷ 0x30 ∷ 0x30 ∷ 0x31 ∷ []

abbrev pub ascii_frame : List ℕ
ascii_frame = 0x3A ∷ 0x30 ∷ 0x30 ∷ 0x30 ∷ 0x31 ∷ 0x30 ∷ 0x32 ∷ 0x30 ∷ 0x33 ∷ 0x46 ∷ 0x41 ∷ 0x0D ∷ 0x0A ∷ []

-- Its payload.
abbrev pub four : List ℕ
four = 0x00 ∷ 0x01 ∷ 0x02 ∷ 0x03 ∷ []

-- The start is noise, and the frame comes back; under either ending.
pub record AsciiBack (ending : Ending) : Type 0 where
  pub good : Stretch (Ascii ending) (ascii_frame ∷ [])
  pub frames : rule (Ascii ending) (cut_short ++ ascii_frame) ≡ output (found_at 5 13 four ∷ []) 5

-- The same frame with CR alone, and with LF alone.
abbrev pub ended_by_cr : List ℕ
ended_by_cr = drop_last ascii_frame

abbrev pub ended_by_lf : List ℕ
ended_by_lf = drop_last ended_by_cr ++ (0x0A ∷ [])

-- Six good frames under any ending, mixed.
abbrev pub mixed_lines : List (List ℕ)
mixed_lines = ended_by_cr ∷ ascii_frame ∷ ended_by_lf ∷ ended_by_lf ∷ ended_by_cr ∷ ascii_frame ∷ []

-- Under any ending: all come back behind a start cut short. An LF behind the frame's own LF, and a second one behind CR LF, is noise; CR LF
-- behind a CR that ended a frame is two bytes of noise.
pub record MixedLines : Type 0 where
  pub good : Stretch (Ascii Any) mixed_lines
  pub kept :
      rule (Ascii Any) (cut_short ++ flatten mixed_lines)
      ≡ output
      (found_at 5 12 four ∷ found_at 17 13 four ∷ found_at 30 12 four ∷ found_at 42 12 four ∷ found_at 54 12 four ∷ found_at 66 13 four ∷ [])
      5
  pub doubled_lf : rule (Ascii Any) (ended_by_lf ++ (0x0A ∷ ended_by_lf)) ≡ output (found_at 0 12 four ∷ found_at 13 12 four ∷ []) 1
  pub second_lf : rule (Ascii Any) (ascii_frame ++ (0x0A ∷ [])) ≡ output (found_at 0 13 four ∷ []) 1
  pub doubled_cr : rule (Ascii Any) (ended_by_cr ++ (0x0D ∷ 0x0A ∷ [])) ≡ output (found_at 0 12 four ∷ []) 2

-- Under the ending CR LF a frame with CR alone is cut short (2), and before another frame refused (5); with LF alone it is refused (6).
pub record StrictLines : Type 0 where
  pub alone : read (Ascii CrLf) ended_by_cr ≡ cut
  pub before : read (Ascii CrLf) (ended_by_cr ++ ascii_frame) ≡ refused 13 5
  pub at_lf : read (Ascii CrLf) ended_by_lf ≡ refused 12 6
  pub frames : rule (Ascii CrLf) (ended_by_cr ++ (ended_by_lf ++ ascii_frame)) ≡ output (found_at 24 13 four ∷ []) 24

-- Under any ending an LF gives 3 and 4 as a CR does; another character gives 6.
pub record LfJudges : Type 0 where
  pub odd : read (Ascii Any) (0x3A ∷ 0x30 ∷ 0x30 ∷ 0x30 ∷ 0x30 ∷ 0x30 ∷ 0x0A ∷ []) ≡ refused 7 3
  pub few : read (Ascii Any) (0x3A ∷ 0x30 ∷ 0x30 ∷ 0x0A ∷ []) ≡ refused 4 3
  pub odd_at_cr : read (Ascii Any) (0x3A ∷ 0x30 ∷ 0x30 ∷ 0x30 ∷ 0x30 ∷ 0x30 ∷ 0x0D ∷ []) ≡ refused 7 3
  pub sum : read (Ascii Any) (0x3A ∷ 0x30 ∷ 0x31 ∷ 0x30 ∷ 0x30 ∷ 0x0A ∷ []) ≡ refused 6 4
  pub sum_at_cr : read (Ascii Any) (0x3A ∷ 0x30 ∷ 0x31 ∷ 0x30 ∷ 0x30 ∷ 0x0D ∷ []) ≡ refused 6 4
  pub other : read (Ascii Any) (0x3A ∷ 0x30 ∷ 0x31 ∷ 0x46 ∷ 0x46 ∷ 0x20 ∷ []) ≡ refused 6 6
