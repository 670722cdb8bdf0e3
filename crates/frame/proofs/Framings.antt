-- Laws of the framings and formats under one name.
-- Assumes nothing.
use Rattle.std.proofs.Common.{◌≡◌, ℕ, ◌+◌, ◌-◌, ◌*◌, ◌/◌, ◌≤◌, min, true, List, length, take, drop, sym, refl, ap, ◌∙◌, subst, arith, lit≤, length-append, length-drop, length-take, le-leb}
use Rattle.frame.specs.Checks.{frame}
use Rattle.frame.specs.Binary.{behind_checksum, binary_ending}
use Rattle.frame.specs.Hex.{hex}
use Rattle.frame.specs.Ascii.{line_ending, ascii_ending}
use Rattle.frame.specs.Framing.{checks, judge, front, layout, limit, in_front}
use Rattle.frame.specs.Judged.{decoded, payload_at, payload_end, bytes_at, unpacks, unpacked, verdict_of}
use Rattle.frame.specs.DigitRuns.{Digits}
use Rattle.frame.specs.Parts.{HasPayload, frame_length}
use Rattle.frame.specs.Further.{UndecidedIsShort, FrameIsSized}
use Rattle.frame.specs.declared.framing.Framing.{Framing}
use Rattle.frame.specs.declared.framing.Framing.TheVariants.{Binary as BinaryFraming, Ascii as AsciiFraming}
use Rattle.frame.specs.declared.framing.Footer.TheVariants.{Optional, Required}
use Rattle.frame.specs.declared.framing.Ending.{Ending}
use Rattle.frame.specs.declared.framing.Ending.TheVariants.{CrLf, Any}
use Rattle.frame.specs.declared.framing.Format.{Format}
use Rattle.frame.specs.declared.framing.Format.TheVariants.{Binary, Ascii}
use Rattle.frame.specs.declared.framing.Judged.TheVariants.{Frame}
use Rattle.frame.proofs.Trees.{Within, bounded, Bounded}
use Rattle.frame.proofs.BinaryLaws.{binary_within, ending_within, ending_keeps, took_binary, binary_judged, binary_used, length_binary_front}
use Rattle.frame.proofs.AsciiLaws.{ascii_within, line_within, line_keeps, took_ascii, front_payload, ascii_is_layout, any_is_front, length_ascii_front}
use Rattle.frame.proofs.HexLaws.{length_decoded, hex_digits_lem, unhexed_digits}

-- The length of a layout.
pub length_layout : (f : Framing) (p : List ℕ) → length (layout f p) ≡ frame_length f (length p)
length_layout BinaryFraming p = omega (arith, length-append (front BinaryFraming p) binary_ending, length_binary_front p)
length_layout AsciiFraming p = omega (arith, length-append (front AsciiFraming p) ascii_ending, length_ascii_front p)

-- No way through the checks takes more bytes than the limit.
pub within_limit : (m : Format) → Within (limit m) (checks m)
within_limit (Binary footer) = binary_within (behind_checksum footer) 1 (ending_within footer)
within_limit (Ascii ending) = ascii_within (line_ending ending) 1 (line_within ending)

-- How many characters of an ASCII frame with a payload of n bytes are judged: all but an LF behind its CR under any ending.
abbrev ascii_judged : Ending → ℕ → ℕ
ascii_judged CrLf n = 2 * n + 5
ascii_judged Any n = 2 * n + 4

ascii_used : (ending : Ending) (s p : List ℕ) (used : ℕ) → judge (Ascii ending) s ≡ frame used p → used ≡ ascii_judged ending (length p)
ascii_used CrLf s p used e = (ascii_is_layout s p used e).1 ∙ length_layout AsciiFraming p
ascii_used Any s p used e = omega (arith, (any_is_front s p used e).4, length_ascii_front p)

-- How many bytes of a frame are judged goes by its payload's length.
abbrev pub judged_length : Format → ℕ → ℕ
judged_length (Binary footer) n = binary_judged footer n
judged_length (Ascii ending) n = ascii_judged ending n

pub used_is : (m : Format) (s p : List ℕ) (used : ℕ) → judge m s ≡ frame used p → used ≡ judged_length m (length p)
used_is (Binary footer) s p used e = binary_used footer s p used e
used_is (Ascii ending) s p used e = ascii_used ending s p used e

-- A frame has no more bytes than there are.
pub used_there : (f : Format) (s p : List ℕ) (used : ℕ) → judge f s ≡ frame used p → used ≤ length s
used_there f s p used e = (subst (Bounded (limit f) (length s)) e (bounded (limit f) (checks f) s (within_limit f))).1

-- Nor more than the limit.
pub used_most : (f : Format) (s p : List ℕ) (used : ℕ) → judge f s ≡ frame used p → used ≤ limit f
used_most f s p used e = (subst (Bounded (limit f) (length s)) e (bounded (limit f) (checks f) s (within_limit f))).0

-- It uses at least one.
pub some_used : (f : Format) (s p : List ℕ) (used : ℕ) → judge f s ≡ frame used p → 1 ≤ used
some_used (Binary Optional) s p used e = omega (arith, used_is (Binary Optional) s p used e)
some_used (Binary Required) s p used e = omega (arith, used_is (Binary Required) s p used e)
some_used (Ascii CrLf) s p used e = omega (arith, used_is (Ascii CrLf) s p used e)
some_used (Ascii Any) s p used e = omega (arith, used_is (Ascii Any) s p used e)

-- Undecided bytes are fewer than the limit.
pub undecided_short : (f : Format) → UndecidedIsShort f
undecided_short f s e = subst (Bounded (limit f) (length s)) e (bounded (limit f) (checks f) s (within_limit f))

-- A frame uses at least one byte, at most the limit, and no more than there are.
pub frame_sized : (f : Format) → FrameIsSized f
frame_sized f s p used e = record { some = some_used f s p used e; most = used_most f s p used e; there = used_there f s p used e }

-- A payload has 1 to 256 bytes.
abbrev pub PayloadSize : List ℕ → Type 0
PayloadSize p = (1 ≤ length p) × (length p ≤ 256)

-- The length of a frame's front, by its payload's.
abbrev front_length : Format → ℕ → ℕ
front_length (Binary footer) n = n + 5
front_length (Ascii ending) n = 2 * n + 3

-- The payload of a frame has 1 to 256 bytes, and all of the front that it is in is there.
fronted : (f : Format) (s p : List ℕ) (used : ℕ) → judge f s ≡ frame used p → PayloadSize p × (front_length f (length p) ≤ length s)
fronted (Binary footer) s p used e =
    let h = took_binary (behind_checksum footer) (ending_keeps footer) s p used e in
    let long = simp length-append at (ap length h.ends.split) in
    ((h.some, h.most), omega arith)
fronted (Ascii ending) s p used e =
    let h = took_ascii (line_ending ending) (line_keeps ending) s p used e in
    let long = simp length-append at (ap length h.ends.split) in
    ((h.payload.some, h.payload.most), omega (arith, length_ascii_front p))

pub payload_size : (f : Format) (s p : List ℕ) (used : ℕ) → judge f s ≡ frame used p → PayloadSize p
payload_size f s p used e = (fronted f s p used e).0

-- Where the payload of a frame is named by its place and length, it is there, and that long.
pub payload_there : (f : Format) (s : List ℕ) (used len : ℕ) → judge f s ≡ frame used (payload_at f s len) →
    (payload_end f len ≤ length s) × (length (payload_at f s len) ≡ len)
payload_there (Binary footer) s used len e =
    let h = fronted (Binary footer) s (take len (drop 4 s)) used e in
    let l : length (take len (drop 4 s)) ≡ min len (length s - 4) = length-take len (drop 4 s) ∙ ap (min len) (length-drop 4 s) in
    omega arith
payload_there (Ascii ending) s used len e =
    let h = fronted (Ascii ending) s (decoded (take (2 * len) (drop 1 s))) used e in
    let l : length (decoded (take (2 * len) (drop 1 s))) ≡ min (2 * len) (length s - 1) / 2 =
    length_decoded (take (2 * len) (drop 1 s))
    ∙ ap (λ (k : ℕ). k / 2) (length-take (2 * len) (drop 1 s) ∙ ap (min (2 * len)) (length-drop 1 s))
    in
    omega arith

-- It is what is taken out: in ASCII framing it is in digits.
payload_taken : (f : Format) (s : List ℕ) (used len : ℕ) → judge f s ≡ frame used (payload_at f s len) → bytes_at f s len ≡ payload_at f s len
payload_taken (Binary footer) s used len e = refl
payload_taken (Ascii ending) s used len e =
    let p : List ℕ = decoded (take (2 * len) (drop 1 s)) in
    let h = took_ascii (line_ending ending) (line_keeps ending) s p used e in
    let long = (payload_there (Ascii ending) s used len e).1 in
    let same : take (2 * len) (drop 1 s) ≡ hex p = ap (λ (k : ℕ). take (2 * k) (drop 1 s)) (sym long) ∙ front_payload (line_ending ending) s p used h in
    unhexed_digits (take (2 * len) (drop 1 s)) (subst Digits (sym same) (hex_digits_lem p h.payload.bytes))

-- So it can be taken out.
pub payload_held : (f : Format) (s : List ℕ) (used len : ℕ) → judge f s ≡ frame used (payload_at f s len) → HasPayload f s len
payload_held (Binary footer) s used len e = (payload_there (Binary footer) s used len e).0
payload_held (Ascii ending) s used len e =
    let p : List ℕ = decoded (take (2 * len) (drop 1 s)) in
    let h = took_ascii (line_ending ending) (line_keeps ending) s p used e in
    let t = payload_there (Ascii ending) s used len e in
    let same : take (2 * len) (drop 1 s) ≡ hex p = ap (λ (k : ℕ). take (2 * k) (drop 1 s)) (sym t.1) ∙ front_payload (line_ending ending) s p used h in
    (t.0, subst Digits (sym same) (hex_digits_lem p h.payload.bytes))

-- What a frame that was judged says of the payload that its answer names.
pub record PayloadNamed (f : Format) (s : List ℕ) (len : ℕ) : Type 0 where
  pub there : payload_end f len ≤ length s
  pub taken : bytes_at f s len ≡ payload_at f s len
  pub long : length (payload_at f s len) ≡ len
  pub most : len ≤ 256

pub payload_named : (f : Format) (s : List ℕ) (used len : ℕ) → judge f s ≡ verdict_of f s (Frame used len) → PayloadNamed f s len
payload_named f s used len e =
    let h = payload_there f s used len e in
    let m = payload_size f s (payload_at f s len) used e in
    record { there = h.0; taken = payload_taken f s used len e; long = h.1; most = omega (arith, h.1, m.1) }

-- So it can be unpacked into a buffer with room for the longest payload.
pub unpacks_frame :
    (f : Format) (s : List ℕ) (used len : ℕ) (buf : List ℕ) → judge f s ≡ frame used (payload_at f s len) → 256 ≤ length buf → unpacks f s len buf ≡ true
unpacks_frame f s used len buf e room =
    let h = payload_named f s used len e in
    rw (le-leb 256 (length buf) room, le-leb len 256 h.most, le-leb (payload_end f len) (length s) h.there)

-- What is unpacked is the payload.
pub unpacked_frame :
    (f : Format) (s : List ℕ) (used len : ℕ) (buf : List ℕ) → judge f s ≡ frame used (payload_at f s len) → 256 ≤ length buf →
    unpacked f s len buf ≡ in_front (payload_at f s len) buf
unpacked_frame f s used len buf e room = rw (unpacks_frame f s used len buf e room, (payload_named f s used len e).taken)

-- A state's array has room for the longest frame.
pub limit_most : (f : Format) → limit f ≤ 517
limit_most (Binary footer) = lit≤ tt
limit_most (Ascii ending) = lit≤ tt
