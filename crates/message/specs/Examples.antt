-- All starred rows of document 01, "Frames to check against", those of document 02, CR 2, on the footer and of CR 9 on line ends, and payloads of each kind and
-- refusal, those of CR 1 among them: one table, and one statement that is computed.
use Rattle.std.specs.Prelude.{ℕ, ◌≡◌, List, [], ◌∷◌, ◌++◌, map, Bool, true, false, cond, leb, eqb, length, take, drop, replicate, Some, None}
use Rattle.frame.specs.Checks.{Verdict}
use Rattle.frame.specs.Framing.{read, format_of}
use Rattle.frame.specs.Single.{Reading, reading, read_into, Writing}
use Rattle.reader.specs.Reader.{State, Called, line, quiet, after, state_of, new_reader, Values, refusal_values, called_values, buffer_at}
use Rattle.reader.specs.Reader.{feed_refusal, quiet_refusal}
use Rattle.frame.specs.declared.framing.Framing.{Framing}
use Rattle.frame.specs.declared.framing.Framing.TheVariants.{Binary, Ascii}
use Rattle.frame.specs.declared.framing.Footer.TheVariants.{Required}
use Rattle.frame.specs.declared.framing.Ending.TheVariants.{Any}
use Rattle.frame.specs.declared.framing.Format.{Format}
use Rattle.frame.specs.declared.framing.Format.TheVariants.{Binary as BinaryFormat, Ascii as AsciiFormat}
use Rattle.reader.specs.declared.reader.Reader.{Reader}
use Rattle.message.specs.Text.{text}
use Rattle.message.specs.Meaning.{Meaning, refused, carrying, bare}
use Rattle.message.specs.Options.{no_options}
use Rattle.message.specs.ToModule.{Order, change, setup, read_to_module}
use Rattle.message.specs.FromModule.{read_from_module}
use Rattle.message.specs.Status.{millivolts}
use Rattle.message.specs.Write.{message_writing}
use Rattle.message.specs.Claims.{Kind, requests, orders, deliveries, notices, family}
use Rattle.message.specs.AnyOrder.{sheet_options}
use Rattle.message.specs.declared.options.Options.{Options}
use Rattle.message.specs.declared.setup.SetupCommand.{SetupCommand}
use Rattle.message.specs.declared.setup.SetupCommand.TheVariants.{EnableAck, GetInformation, GetSettings, EraseSettings, SaveSettings, Reset}
use Rattle.message.specs.declared.setup.SetupReport.{SetupReport}
use Rattle.message.specs.declared.setup.SetupReport.TheVariants.{Acknowledged, Information as IsInformation, SettingsFailed, SilentMode}
use Rattle.message.specs.declared.to_module.Address.TheVariants.{Plain, Extended as ExtendedAddress}
use Rattle.message.specs.declared.to_module.Request.{Request}
use Rattle.message.specs.declared.to_module.Request.TheVariants.{Simple as SimpleRequest, Extended as ExtendedRequest, Settings as SettingsRequest}
use Rattle.message.specs.declared.from_module.Delivery.{Delivery}
use Rattle.message.specs.declared.from_module.Delivery.TheVariants.{Simple as SimpleDelivery, Extended as ExtendedDelivery, Settings as SettingsDelivery}
use Rattle.message.specs.declared.from_module.Notice.{Notice}
use Rattle.message.specs.declared.from_module.Notice.TheVariants.{Response as IsResponse, Standard, Remote, Setup}
use Rattle.message.specs.declared.from_module.Outcome.TheVariants.{Success}
use Rattle.message.specs.declared.status.StandardStatus.{StandardStatus}
use Rattle.message.specs.declared.status.Channel.TheVariants.{One, Two, Three, Four}

-- What is answered to a row: a call's refusal number, 0 for none, the bytes used or taken, the noise and the payloads handed out;
-- a message with its data, in a direction; or a write's refusal number and length.
pub data Answer : Type 0 where
  call : (number bytes noise : ℕ) → List (List ℕ) → Answer
  to : Meaning Request Order → List ℕ → Answer
  writing : (number len : ℕ) → Answer
  from : Meaning Delivery Notice → List ℕ → Answer

-- A buffer.
abbrev room : List ℕ
room = replicate 256 0

-- The payload of this length in the front of a buffer, none where there is none.
abbrev payload_shown : Bool → ℕ → List ℕ → List (List ℕ)
payload_shown false len buf = []
payload_shown true len buf = take len buf ∷ []

-- A single read, by the definitions that its contract cites.
abbrev pub single_read : Verdict → Answer
single_read v =
    let r : Reading = reading v 256 in
    call r.number r.used 0 (payload_shown (leb 1 r.len) r.len (read_into v room))

-- A reader with this state.
abbrev having : State → Reader
having s = record { format = s.format; held = s.held; count = length s.held; follows = s.follows; judged = s.judged }

-- A line or a quiet call with this refusal number, by the definitions that their contracts cite. The rows don't show the bytes that it judges, for which 0
-- stands here; examples of them are in the crate reader. No row has a refused call.
abbrev pub reader_call : ℕ → Called → Answer
reader_call number c =
    let v : Values = cond (eqb number 0) (called_values c 0 c.out.frames) (refusal_values number) in
    call number v.taken v.noise (payload_shown v.is_frame v.len (buffer_at c.out.frames room))

-- The data of a message in the payload p.
module _ {A B : Type 0} where
  abbrev pub data_in : Meaning A B → List ℕ → List ℕ
  data_in (refused n) p = []
  data_in (carrying m start) p = drop start p
  data_in (bare m) p = []

-- What a row asks: a single read; a line call of a new reader over the whole segment, another over what it did not take, and then two quiet calls; the
-- meaning of a payload; a write of a message into a buffer of so many bytes.
pub data Ask : Type 0 where
  single : Format → List ℕ → Ask
  segment : Format → List ℕ → Ask
  to_module : List ℕ → Ask
  from_module : List ℕ → Ask
  write : Framing → (k : Kind) → (family k).Message → ℕ → Ask

abbrev pub answers : Ask → List Answer
answers (single m s) = single_read (read m s) ∷ []
answers (segment m s) =
    let start : State = state_of (new_reader m) in
    let first : Called = line start s in
    let next : State = after start first in
    let rest : List ℕ = drop first.taken s in
    let second : Called = line next rest in
    let held : State = after next second in
    let third : Called = quiet held in
    let left : State = after held third in
    reader_call (feed_refusal (new_reader m) (length room) (length s)) first
    ∷ reader_call (feed_refusal (having next) (length room) (length rest)) second
    ∷ reader_call (quiet_refusal (having held) (length room)) third
    ∷ reader_call (quiet_refusal (having left) (length room)) (quiet left)
    ∷ []
answers (to_module p) = to (read_to_module p) (data_in (read_to_module p) p) ∷ []
answers (from_module p) = from (read_from_module p) (data_in (read_from_module p) p) ∷ []
answers (write f k m room) =
    let w : Writing = message_writing f ((family k).refusal_of m) ((family k).layout_of m) room in
    writing w.number w.len ∷ []

-- A row: what is asked, and what is to be answered.
pub record Row : Type 0 where
  pub ask : Ask
  pub expected : List Answer

abbrev row : Ask → List Answer → Row
row ask expected = record { ask = ask; expected = expected }

-- The formats: the default of each framing, binary framing with the footer required, and ASCII framing with any ending.
abbrev binary : Format
binary = format_of Binary

abbrev required : Format
required = BinaryFormat Required

abbrev ascii : Format
ascii = format_of Ascii

abbrev any_ending : Format
any_ending = AsciiFormat Any

abbrev reads : Format → List ℕ → ℕ → List ℕ → Row
reads m s used p = row (single m s) (call 0 used 0 (p ∷ []) ∷ [])

abbrev refuses : Format → List ℕ → ℕ → Row
refuses m s n = row (single m s) (call n 0 0 [] ∷ [])

abbrev response : ℕ → Meaning Delivery Notice
response id = bare (IsResponse (record { id = id; outcome = Success }))

-- The payload of these bytes is a simple message of the first two, with the others as its data.
abbrev to_simple : ℕ → ℕ → List ℕ → Row
to_simple address command dat =
    row (to_module (address ∷ command ∷ dat)) (to (carrying (SimpleRequest (record { address = address; command = command })) 2) dat ∷ [])

abbrev from_simple : ℕ → ℕ → List ℕ → Row
from_simple address command dat =
    row (from_module (address ∷ command ∷ dat))
    (from (carrying (SimpleDelivery (record { address = address; command = command })) 2) dat ∷ [])

abbrev to_refused : List ℕ → ℕ → Row
to_refused p n = row (to_module p) (to (refused n) [] ∷ [])

abbrev from_refused : List ℕ → ℕ → Row
from_refused p n = row (from_module p) (from (refused n) [] ∷ [])

-- The frame of response 80, success, as far as its checksum, and its payload.
abbrev response_front : List ℕ
response_front = 0xA5 ∷ 0x5A ∷ 0x80 ∷ 0x04 ∷ 0xDB ∷ 0xA1 ∷ 0x80 ∷ 0x01 ∷ 0xFB ∷ []

abbrev response_payload : List ℕ
response_payload = 0xDB ∷ 0xA1 ∷ 0x80 ∷ 0x01 ∷ []

-- The starred segments: damage and that frame; damage and the frame of response 01.
abbrev stray_length : List ℕ
stray_length = 0xA5 ∷ 0x5A ∷ 0x80 ∷ 0x10 ∷ (response_front ++ (0x04 ∷ []))

abbrev doubled_start : List ℕ
doubled_start = 0xA5 ∷ 0x5A ∷ 0xA5 ∷ 0x5A ∷ 0x80 ∷ 0x04 ∷ 0xDB ∷ 0xA1 ∷ 0x01 ∷ 0x01 ∷ 0x7A ∷ 0x04 ∷ []

-- The starred rows, with what the payloads of their frames mean, and the rows beside them that concern a single frame or payload. Frames in binary framing are
-- read in both formats; the rows of 2 for the missing footer and of 5 are those of the format that requires it, and footer_rows has what the default says there.
abbrev pub rows : List Row
rows =
    reads ascii (text ":00010203FA\r\n") 13 (0x00 ∷ 0x01 ∷ 0x02 ∷ 0x03 ∷ [])
    ∷ to_simple 0x00 0x01 (0x02 ∷ 0x03 ∷ [])
    ∷ from_simple 0x00 0x01 (0x02 ∷ 0x03 ∷ [])
    ∷ refuses ascii (text ":00010203FB\r\n") 4
    ∷ refuses ascii (text ":00010203fa\r\n") 6
    ∷ reads binary (response_front ++ (0x04 ∷ [])) 10 response_payload
    ∷ reads required (response_front ++ (0x04 ∷ [])) 10 response_payload
    ∷ row (from_module response_payload) (from (response 0x80) [] ∷ [])
    ∷ refuses required response_front 2
    ∷ refuses required (response_front ++ (0x05 ∷ [])) 5
    ∷ refuses binary (0xA5 ∷ 0x5A ∷ 0x80 ∷ 0x00 ∷ 0x00 ∷ 0x04 ∷ []) 3
    ∷ refuses required (0xA5 ∷ 0x5A ∷ 0x80 ∷ 0x00 ∷ 0x00 ∷ 0x04 ∷ []) 3
    ∷ refuses binary (0xA5 ∷ 0x5A ∷ 0x81 ∷ 0x01 ∷ []) 3
    ∷ refuses required (0xA5 ∷ 0x5A ∷ 0x81 ∷ 0x01 ∷ []) 3
    ∷ reads binary (0xA5 ∷ 0x5A ∷ 0x81 ∷ 0x00 ∷ (replicate 256 0x11 ++ (0x00 ∷ 0x04 ∷ []))) 262 (replicate 256 0x11)
    ∷ reads required (0xA5 ∷ 0x5A ∷ 0x81 ∷ 0x00 ∷ (replicate 256 0x11 ++ (0x00 ∷ 0x04 ∷ []))) 262 (replicate 256 0x11)
    ∷ row (segment binary stray_length) (call 0 14 0 [] ∷ call 0 0 0 [] ∷ call 0 0 4 (response_payload ∷ []) ∷ call 0 0 0 [] ∷ [])
    ∷ row (segment required stray_length) (call 0 14 0 [] ∷ call 0 0 0 [] ∷ call 0 0 4 (response_payload ∷ []) ∷ call 0 0 0 [] ∷ [])
    ∷ row (segment binary doubled_start)
    (call 0 11 2 ((0xDB ∷ 0xA1 ∷ 0x01 ∷ 0x01 ∷ []) ∷ []) ∷ call 0 1 0 [] ∷ call 0 0 0 [] ∷ call 0 0 0 [] ∷ [])
    ∷ row (segment required doubled_start)
    (call 0 12 2 ((0xDB ∷ 0xA1 ∷ 0x01 ∷ 0x01 ∷ []) ∷ []) ∷ call 0 0 0 [] ∷ call 0 0 0 [] ∷ call 0 0 0 [] ∷ [])
    ∷ row (from_module (0xDB ∷ 0xA1 ∷ 0x01 ∷ 0x01 ∷ [])) (from (response 0x01) [] ∷ [])
    ∷ reads ascii (text ":DBA1120171\r\n") 13 (0xDB ∷ 0xA1 ∷ 0x12 ∷ 0x01 ∷ [])
    ∷ row (from_module (0xDB ∷ 0xA1 ∷ 0x12 ∷ 0x01 ∷ [])) (from (response 0x12) [] ∷ [])
    ∷ reads ascii (text ":00A012FF123456B3\r\n") 19 (0x00 ∷ 0xA0 ∷ 0x12 ∷ 0xFF ∷ 0x12 ∷ 0x34 ∷ 0x56 ∷ [])
    ∷ row (to_module (0x00 ∷ 0xA0 ∷ 0x12 ∷ 0xFF ∷ 0x12 ∷ 0x34 ∷ 0x56 ∷ []))
    (to
    (carrying (ExtendedRequest (record { address = Plain 0x00; response_id = 0x12; options = no_options })) 4)
    (0x12 ∷ 0x34 ∷ 0x56 ∷ [])
    ∷ [])
    ∷ refuses binary [] 2
    ∷ refuses required [] 2
    ∷ refuses ascii [] 2
    ∷ to_simple 0x01 0x00 (0x00 ∷ [])
    ∷ from_simple 0x01 0x00 (0x00 ∷ [])
    ∷ to_refused (0x01 ∷ []) 7
    ∷ from_refused (0x01 ∷ []) 7
    ∷ []

-- A frame of sheet 001 without its footer, and a segment whose frame completes where an earlier start fails late: 04 00 55 are held behind it.
abbrev sheet_front : List ℕ
sheet_front = 0xA5 ∷ 0x5A ∷ 0x80 ∷ 0x04 ∷ 0x00 ∷ 0x01 ∷ 0x02 ∷ 0x03 ∷ 0x00 ∷ []

abbrev late_failure : List ℕ
late_failure = 0xA5 ∷ 0x5A ∷ 0x80 ∷ 0x08 ∷ 0xA5 ∷ 0x5A ∷ 0x80 ∷ 0x01 ∷ 0x11 ∷ 0x11 ∷ 0x04 ∷ 0x00 ∷ 0x55 ∷ []

-- The footer (document 02, CR 2): by default a frame is complete at its checksum, and a 04 next belongs to it, a second one not; in a line call the next call
-- takes it or, where it is held, drops it. Frames may differ in it.
abbrev pub footer_rows : List Row
footer_rows =
    reads binary response_front 9 response_payload
    ∷ reads binary (response_front ++ (0x05 ∷ [])) 9 response_payload
    ∷ reads binary (response_front ++ (0x04 ∷ 0x04 ∷ [])) 10 response_payload
    ∷ refuses binary (take 8 response_front) 2
    ∷ reads binary sheet_front 9 (0x00 ∷ 0x01 ∷ 0x02 ∷ 0x03 ∷ [])
    ∷ refuses required sheet_front 2
    ∷ row (segment binary (response_front ++ (0x04 ∷ 0x04 ∷ [])))
    (call 0 9 0 (response_payload ∷ []) ∷ call 0 2 1 [] ∷ call 0 0 0 [] ∷ call 0 0 0 [] ∷ [])
    ∷ row (segment required (response_front ++ (0x04 ∷ 0x04 ∷ [])))
    (call 0 10 0 (response_payload ∷ []) ∷ call 0 1 1 [] ∷ call 0 0 0 [] ∷ call 0 0 0 [] ∷ [])
    ∷ row (segment binary (response_front ++ (0x04 ∷ response_front)))
    (call 0 9 0 (response_payload ∷ []) ∷ call 0 10 0 (response_payload ∷ []) ∷ call 0 0 0 [] ∷ call 0 0 0 [] ∷ [])
    ∷ row (segment required (response_front ++ (0x04 ∷ response_front)))
    (call 0 10 0 (response_payload ∷ []) ∷ call 0 9 0 [] ∷ call 0 0 9 [] ∷ call 0 0 0 [] ∷ [])
    ∷ row (segment binary late_failure) (call 0 13 4 ((0x11 ∷ []) ∷ []) ∷ call 0 0 2 [] ∷ call 0 0 0 [] ∷ call 0 0 0 [] ∷ [])
    ∷ row (segment required late_failure) (call 0 13 4 ((0x11 ∷ []) ∷ []) ∷ call 0 0 2 [] ∷ call 0 0 0 [] ∷ call 0 0 0 [] ∷ [])
    ∷ []

-- A payload of four bytes.
abbrev four_bytes : List ℕ
four_bytes = 0x00 ∷ 0x01 ∷ 0x02 ∷ 0x03 ∷ []

-- Line ends (document 02, CR 9): under any ending a frame is complete at CR or LF, and an LF next belongs to one that ended with CR; 3 and 4 are given at LF as
-- at CR, 6 at any other character, 5 never. The ending CR LF is the default.
abbrev pub ending_rows : List Row
ending_rows =
    reads any_ending (text ":00010203FA\r\n") 13 four_bytes
    ∷ reads any_ending (text ":00010203FA\r") 12 four_bytes
    ∷ reads any_ending (text ":00010203FA\n") 12 four_bytes
    ∷ reads any_ending (text ":00010203FA\r\n\n") 13 four_bytes
    ∷ reads any_ending (text ":00010203FA\n\n") 12 four_bytes
    ∷ reads any_ending (text ":00010203FA\r:00") 12 four_bytes
    ∷ refuses any_ending (text "00010203FA\r") 1
    ∷ refuses any_ending (text ":00010203FA") 2
    ∷ refuses any_ending (text ":00010203F\n") 3
    ∷ refuses any_ending (text ":00\n") 3
    ∷ refuses any_ending (text ":00010203FB\r") 4
    ∷ refuses any_ending (text ":00010203FB\n") 4
    ∷ refuses any_ending (text ":00010203fa\n") 6
    ∷ refuses ascii (text ":00010203FA\r") 2
    ∷ refuses ascii (text ":00010203FA\r:00") 5
    ∷ refuses ascii (text ":00010203FA\n") 6
    ∷ row (segment any_ending (text ":00010203FA\r\n\n"))
    (call 0 12 0 (four_bytes ∷ []) ∷ call 0 2 1 [] ∷ call 0 0 0 [] ∷ call 0 0 0 [] ∷ [])
    ∷ row (segment any_ending (text ":00010203FA\n\n"))
    (call 0 12 0 (four_bytes ∷ []) ∷ call 0 1 1 [] ∷ call 0 0 0 [] ∷ call 0 0 0 [] ∷ [])
    ∷ row (segment ascii (text ":00010203FA\r\n\n"))
    (call 0 13 0 (four_bytes ∷ []) ∷ call 0 1 1 [] ∷ call 0 0 0 [] ∷ call 0 0 0 [] ∷ [])
    ∷ []

-- The first row is a frame of sheet 001 whose options do not ascend.
abbrev pub to_rows : List Row
to_rows =
    row
    (to_module
    (0x00 ∷ 0xA0 ∷ 0x12 ∷ 0x01 ∷ 0x04 ∷ 0x08 ∷ 0x00 ∷ 0x06 ∷ 0x02 ∷ 0x85 ∷ 0x05 ∷ 0x06 ∷ 0x00
    ∷ 0xFF ∷ 0xAB ∷ 0xCD ∷ 0xEF ∷ []))
    (to
    (carrying (ExtendedRequest (record { address = Plain 0x00; response_id = 0x12; options = sheet_options })) 14)
    (0xAB ∷ 0xCD ∷ 0xEF ∷ [])
    ∷ [])
    ∷ row (to_module (0x78 ∷ 0x80 ∷ 0x01 ∷ 0x00 ∷ 0x0F ∷ 0x01 ∷ 0x03 ∷ replicate 8 0x00))
    (to (bare (change (record { address = 0x78; signals = 0x000F; mask = 0x0103 }))) [] ∷ [])
    ∷ to_refused (0x00 ∷ 0xA0 ∷ []) 7
    ∷ to_refused (0x80 ∷ 0xA0 ∷ 0x01 ∷ 0x00 ∷ 0x00 ∷ 0x00 ∷ []) 7
    ∷ to_refused (0x80 ∷ 0xA0 ∷ 0x01 ∷ 0x00 ∷ 0x01 ∷ 0x00 ∷ 0x00 ∷ []) 8
    ∷ to_refused (0x80 ∷ 0x80 ∷ []) 9
    ∷ to_refused (0x80 ∷ 0xA0 ∷ 0x01 ∷ 0x00 ∷ 0x00 ∷ 0xFF ∷ 0xFF ∷ []) 10
    ∷ to_refused (0x00 ∷ 0xA0 ∷ 0x12 ∷ []) 10
    ∷ to_refused (0x78 ∷ 0x80 ∷ 0x01 ∷ 0x00 ∷ 0x0F ∷ 0x01 ∷ 0x03 ∷ replicate 8 0x01) 11
    ∷ []

-- The statuses are those that sheets 004 and 003 print.
abbrev pub from_rows : List Row
from_rows =
    row
    (from_module
    (0x78 ∷ 0x81 ∷ 0x15 ∷ 0x01 ∷ 0x75 ∷ 0x81 ∷ 0x00 ∷ 0x00 ∷ 0x38 ∷ 0x00 ∷ 0x26 ∷ 0xC9
    ∷ 0x00 ∷ 0x0C ∷ 0x04 ∷ 0x22 ∷ 0x00 ∷ 0x00 ∷ replicate 5 0xFF))
    (from
    (bare
    (Standard
    (record {
      sender = 0x78;
      identifier = 0x15;
      lqi = 0x75;
      serial = 0x81000038;
      destination = 0x00;
      time = 0x26C9;
      relays = 0x00;
      supply = 0x0C04;
      unused = 0x22;
      di = 0x00;
      di_changed = 0x00;
      ad1 = 0xFF;
      ad2 = 0xFF;
      ad3 = 0xFF;
      ad4 = 0xFF;
      correction = 0xFF;
    })))
    []
    ∷ [])
    ∷ row
    (from_module
    (0x01 ∷ 0x81 ∷ 0x0F ∷ 0x01 ∷ 0xDB ∷ 0x86 ∷ 0x30 ∷ 0x00 ∷ 0x02 ∷ 0x00 ∷ 0x64 ∷ 0x5F
    ∷ 0x00 ∷ 0x00 ∷ 0x40 ∷ 0x00 ∷ 0x4F ∷ 0x00 ∷ 0x40 ∷ 0x00 ∷ []))
    (from
    (bare
    (Remote
    (record {
      sender = 0x01;
      lqi = 0xDB;
      serial = 0x86300002;
      destination = 0x00;
      time = 0x645F;
      relays = 0x00;
      signals = 0x0040;
      mask = 0x004F;
      interrupts = 0x0040;
      unused = 0x00;
    })))
    []
    ∷ [])
    ∷ row
    (from_module
    (0x01 ∷ 0xA0 ∷ 0x02 ∷ 0x81 ∷ 0x00 ∷ 0x00 ∷ 0x38 ∷ 0x80 ∷ 0x00 ∷ 0x00 ∷ 0x01 ∷ 0x75 ∷ 0x00 ∷ 0x02 ∷ 0xAB ∷ 0xCD ∷ []))
    (from
    (carrying
    (ExtendedDelivery (record { sender = 0x01; response_id = 0x02; source = 0x81000038; destination = 0x80000001; lqi = 0x75 }))
    14)
    (0xAB ∷ 0xCD ∷ [])
    ∷ [])
    ∷ from_refused (0x78 ∷ 0x81 ∷ []) 7
    ∷ from_refused (0x80 ∷ 0x00 ∷ []) 8
    ∷ from_refused (0xDB ∷ 0xA0 ∷ []) 9
    ∷ from_refused (0x78 ∷ 0xA1 ∷ []) 9
    ∷ from_refused (0xDB ∷ 0xA1 ∷ 0x12 ∷ 0x02 ∷ []) 11
    ∷ from_refused (0x01 ∷ 0xA0 ∷ 0x02 ∷ (replicate 10 0x00 ++ (0x01 ∷ []))) 12
    ∷ []

-- Payloads in which no two fields have the same bytes, so that a field read from another's place shows; the options in descending order.
abbrev status_from : ℕ → StandardStatus
status_from sender =
    record {
      sender = sender;
      identifier = 0x16;
      lqi = 0x20;
      serial = 0x21222324;
      destination = 0x25;
      time = 0x2627;
      relays = 0x28;
      supply = 0x292A;
      unused = 0x2B;
      di = 0x2C;
      di_changed = 0x2D;
      ad1 = 0x2E;
      ad2 = 0x2F;
      ad3 = 0x30;
      ad4 = 0x31;
      correction = 0x1B;
    }

abbrev pub distinct_status : StandardStatus
distinct_status = status_from 0x05

abbrev pub distinct_rows : List Row
distinct_rows =
    row
    (from_module
    (0x05 ∷ 0x81 ∷ 0x16 ∷ 0x01 ∷ 0x20 ∷ 0x21 ∷ 0x22 ∷ 0x23 ∷ 0x24 ∷ 0x25 ∷ 0x26 ∷ 0x27
    ∷ 0x28 ∷ 0x29 ∷ 0x2A ∷ 0x2B ∷ 0x2C ∷ 0x2D ∷ 0x2E ∷ 0x2F ∷ 0x30 ∷ 0x31 ∷ 0x1B ∷ []))
    (from (bare (Standard distinct_status)) [] ∷ [])
    ∷ row
    (from_module
    (0x05 ∷ 0x81 ∷ 0x0F ∷ 0x01 ∷ 0x20 ∷ 0x21 ∷ 0x22 ∷ 0x23 ∷ 0x24 ∷ 0x25 ∷ 0x26 ∷ 0x27
    ∷ 0x28 ∷ 0x29 ∷ 0x2A ∷ 0x2B ∷ 0x2C ∷ 0x2D ∷ 0x2E ∷ 0x2F ∷ []))
    (from
    (bare
    (Remote
    (record {
      sender = 0x05;
      lqi = 0x20;
      serial = 0x21222324;
      destination = 0x25;
      time = 0x2627;
      relays = 0x28;
      signals = 0x292A;
      mask = 0x2B2C;
      interrupts = 0x2D2E;
      unused = 0x2F;
    })))
    []
    ∷ [])
    ∷ row
    (to_module
    (0x80 ∷ 0xA0 ∷ 0x12 ∷ 0x81 ∷ 0x29 ∷ 0x2A ∷ 0x2B ∷ 0x08 ∷ 0x07 ∷ 0x06 ∷ 0x05 ∷ 0x11 ∷ 0x17
    ∷ 0x04 ∷ 0x13 ∷ 0x14 ∷ 0x03 ∷ 0x15 ∷ 0x16 ∷ 0x02 ∷ 0x0E ∷ 0x01 ∷ 0xFF ∷ 0x99 ∷ []))
    (to
    (carrying
    (ExtendedRequest
    (record {
      address = ExtendedAddress 0x81292A2B;
      response_id = 0x12;
      options = record {
        mac_ack = true;
        retries = Some 0x0E;
        lower_delay = Some 0x1516;
        upper_delay = Some 0x1314;
        interval = Some 0x1117;
        parallel = true;
        no_response = true;
        sleep = true;
      };
    }))
    23)
    (0x99 ∷ [])
    ∷ [])
    ∷ []

-- The channels of that status in mV: AD1 to AD4 are 46 to 49, and the correction's pairs of bits, from the lowest on, are 3, 2, 1, 0.
abbrev pub ChannelsAreRead : Type 0
ChannelsAreRead = map (millivolts distinct_status) (One ∷ Two ∷ Three ∷ Four ∷ []) ≡ (748 ∷ 760 ∷ 772 ∷ 784 ∷ [])

-- An extended message to an address of these bytes, and one with a retry byte, each without data.
abbrev to_extended : List ℕ → ℕ → Row
to_extended bytes w =
    row (to_module (0x80 ∷ 0xA0 ∷ 0x12 ∷ (bytes ++ (0xFF ∷ []))))
    (to (carrying (ExtendedRequest (record { address = ExtendedAddress w; response_id = 0x12; options = no_options })) 8) [] ∷ [])

abbrev retries_alone : ℕ → Options
retries_alone b =
    record {
      mac_ack = false;
      retries = Some b;
      lower_delay = None;
      upper_delay = None;
      interval = None;
      parallel = false;
      no_response = false;
      sleep = false;
    }

abbrev with_retries : ℕ → Row
with_retries b =
    row (to_module (0x00 ∷ 0xA0 ∷ 0x12 ∷ 0x02 ∷ b ∷ 0xFF ∷ []))
    (to (carrying (ExtendedRequest (record { address = Plain 0x00; response_id = 0x12; options = retries_alone b })) 6) [] ∷ [])

-- Options without an argument, two at a time: none is taken for another.
abbrev flags_alone : Bool → Bool → Options
flags_alone first second =
    record {
      mac_ack = first;
      retries = None;
      lower_delay = None;
      upper_delay = None;
      interval = None;
      parallel = second;
      no_response = first;
      sleep = second;
    }

abbrev with_flags : ℕ → ℕ → Options → Row
with_flags a b o =
    row (to_module (0x00 ∷ 0xA0 ∷ 0x12 ∷ a ∷ b ∷ 0xFF ∷ []))
    (to (carrying (ExtendedRequest (record { address = Plain 0x00; response_id = 0x12; options = o })) 6) [] ∷ [])

abbrev pub flag_rows : List Row
flag_rows = with_flags 0x01 0x07 (flags_alone true false) ∷ with_flags 0x06 0x08 (flags_alone false true) ∷ []

-- A refusal for each of its causes: 7 for a long payload; 9 for commands just outside the known ones; 10 for an unknown, a repeated and a cut option; 11 for
-- each fixed field.
abbrev pub cause_rows : List Row
cause_rows =
    to_refused (replicate 257 0x00) 7
    ∷ from_refused (replicate 257 0x00) 7
    ∷ to_refused (0x00 ∷ 0x81 ∷ []) 9
    ∷ to_refused (0x00 ∷ 0x9F ∷ []) 9
    ∷ to_refused (0x00 ∷ 0xA1 ∷ []) 9
    ∷ from_refused (0x00 ∷ 0x80 ∷ []) 9
    ∷ from_refused (0x00 ∷ 0x82 ∷ []) 9
    ∷ from_refused (0x00 ∷ 0x9F ∷ []) 9
    ∷ from_refused (0x00 ∷ 0xA1 ∷ []) 9
    ∷ to_refused (0x00 ∷ 0xA0 ∷ 0x12 ∷ 0x09 ∷ 0xFF ∷ []) 10
    ∷ to_refused (0x00 ∷ 0xA0 ∷ 0x12 ∷ 0x01 ∷ 0x01 ∷ 0xFF ∷ []) 10
    ∷ to_refused (0x00 ∷ 0xA0 ∷ 0x12 ∷ 0x03 ∷ 0x05 ∷ []) 10
    ∷ to_refused (0x78 ∷ 0x80 ∷ 0x02 ∷ 0x00 ∷ 0x0F ∷ 0x01 ∷ 0x03 ∷ replicate 8 0x00) 11
    ∷ from_refused (0x78 ∷ 0x81 ∷ 0x15 ∷ 0x02 ∷ replicate 19 0x00) 11
    ∷ from_refused (0x78 ∷ 0x81 ∷ 0x0F ∷ 0x02 ∷ replicate 16 0x00) 11
    ∷ from_refused (0x78 ∷ 0x81 ∷ 0x0E ∷ 0x01 ∷ replicate 16 0x00) 11
    ∷ []

-- The ends of each range: plain addresses, extended addresses, retry bytes.
abbrev pub edge_rows : List Row
edge_rows =
    to_simple 0x00 0x7F []
    ∷ to_simple 0x64 0x7F []
    ∷ to_refused (0x65 ∷ 0x7F ∷ []) 8
    ∷ to_refused (0x77 ∷ 0x7F ∷ []) 8
    ∷ to_simple 0x78 0x7F []
    ∷ to_refused (0x79 ∷ 0x7F ∷ []) 8
    ∷ from_simple 0x00 0x7F []
    ∷ from_simple 0x64 0x7F []
    ∷ from_refused (0x65 ∷ 0x7F ∷ []) 8
    ∷ from_refused (0x77 ∷ 0x7F ∷ []) 8
    ∷ from_simple 0x78 0x7F []
    ∷ from_refused (0x79 ∷ 0x7F ∷ []) 8
    ∷ to_extended (0x00 ∷ 0x00 ∷ 0x00 ∷ 0x00 ∷ []) 0x00000000
    ∷ to_extended (0x00 ∷ 0x00 ∷ 0xFF ∷ 0xFF ∷ []) 0x0000FFFF
    ∷ to_refused (0x80 ∷ 0xA0 ∷ 0x12 ∷ 0x00 ∷ 0x01 ∷ 0x00 ∷ 0x00 ∷ 0xFF ∷ []) 8
    ∷ to_refused (0x80 ∷ 0xA0 ∷ 0x12 ∷ 0x7F ∷ 0xFF ∷ 0xFF ∷ 0xFF ∷ 0xFF ∷ []) 8
    ∷ to_extended (0x80 ∷ 0x00 ∷ 0x00 ∷ 0x00 ∷ []) 0x80000000
    ∷ to_extended (0xFF ∷ 0xFF ∷ 0xFF ∷ 0xFE ∷ []) 0xFFFFFFFE
    ∷ to_refused (0x80 ∷ 0xA0 ∷ 0x12 ∷ 0xFF ∷ 0xFF ∷ 0xFF ∷ 0xFF ∷ 0xFF ∷ []) 8
    ∷ with_retries 0x00
    ∷ with_retries 0x0F
    ∷ to_refused (0x00 ∷ 0xA0 ∷ 0x12 ∷ 0x02 ∷ 0x10 ∷ 0xFF ∷ []) 10
    ∷ to_refused (0x00 ∷ 0xA0 ∷ 0x12 ∷ 0x02 ∷ 0x80 ∷ 0xFF ∷ []) 10
    ∷ with_retries 0x81
    ∷ with_retries 0x8F
    ∷ to_refused (0x00 ∷ 0xA0 ∷ 0x12 ∷ 0x02 ∷ 0x90 ∷ 0xFF ∷ []) 10
    ∷ []

-- Setting up the module (CR 1). A settings list in each direction, and a command or a report without one.
abbrev to_settings : List ℕ → Row
to_settings list = row (to_module (0xDB ∷ 0xF2 ∷ list)) (to (carrying SettingsRequest 2) list ∷ [])

abbrev from_settings : List ℕ → Row
from_settings list = row (from_module (0xDB ∷ 0xF3 ∷ list)) (from (carrying SettingsDelivery 2) list ∷ [])

abbrev to_setup : ℕ → SetupCommand → Row
to_setup number c = row (to_module (0xDB ∷ number ∷ [])) (to (bare (setup c)) [] ∷ [])

abbrev from_setup : List ℕ → SetupReport → Row
from_setup p m = row (from_module p) (from (bare (Setup m)) [] ∷ [])

-- A list of three settings that do not ascend: the mode, the application ID, the error.
abbrev three_settings : List ℕ
three_settings = 0x06 ∷ 0x01 ∷ 0x00 ∷ 0x67 ∷ 0x72 ∷ 0x01 ∷ 0x02 ∷ 0xFF ∷ 0x00 ∷ []

-- Each message, and a refusal for each of its causes: 9 for commands of the other direction, F8 and A1 among them, and for others; 7 for a byte too many or
-- too few; 11 for another 01, 11 or state; 17 for an identifier unknown, repeated or cut. The frame that sheet 000 prints has the payload DB F8 10.
abbrev pub setup_rows : List Row
setup_rows =
    to_setup 0xF0 EnableAck
    ∷ to_setup 0xF1 GetInformation
    ∷ to_setup 0xF3 GetSettings
    ∷ to_setup 0xFD EraseSettings
    ∷ to_setup 0xFE SaveSettings
    ∷ to_setup 0xFF Reset
    ∷ to_settings []
    ∷ to_settings three_settings
    ∷ to_refused (0xDB ∷ 0xF8 ∷ 0x10 ∷ []) 9
    ∷ to_refused (0xDB ∷ 0xA1 ∷ 0x12 ∷ 0x01 ∷ []) 9
    ∷ to_refused (0xDB ∷ 0xF4 ∷ []) 9
    ∷ to_refused (0xDB ∷ 0xF0 ∷ 0x01 ∷ []) 7
    ∷ to_refused (0xDB ∷ 0xF1 ∷ 0x00 ∷ []) 7
    ∷ to_refused (0xDB ∷ 0xF3 ∷ 0xFF ∷ []) 7
    ∷ to_refused (0xDB ∷ 0xFD ∷ 0x00 ∷ []) 7
    ∷ to_refused (0xDB ∷ 0xFE ∷ 0x00 ∷ []) 7
    ∷ to_refused (0xDB ∷ 0xFF ∷ 0x00 ∷ []) 7
    ∷ to_refused (0xDB ∷ []) 7
    ∷ to_refused (0xDB ∷ 0xF2 ∷ replicate 255 0x00) 7
    ∷ to_refused (0xDB ∷ 0xF2 ∷ replicate 254 0x00) 17
    ∷ to_refused (0xDB ∷ 0xF2 ∷ 0xFF ∷ []) 17
    ∷ to_refused (0xDB ∷ 0xF2 ∷ 0x0B ∷ 0x00 ∷ []) 17
    ∷ to_refused (0xDB ∷ 0xF2 ∷ 0x03 ∷ 0x01 ∷ 0x03 ∷ 0x01 ∷ []) 17
    ∷ from_setup (0xDB ∷ 0xF0 ∷ 0x01 ∷ []) Acknowledged
    ∷ from_setup
    (0xDB ∷ 0xF1 ∷ 0x67 ∷ 0x72 ∷ 0x01 ∷ 0x02 ∷ 0x00 ∷ 0x01 ∷ 0x04 ∷ 0x07 ∷ 0x78 ∷ 0x82 ∷ 0x03 ∷ 0x68 ∷ 0x41 ∷ 0x05 ∷ 0x06 ∷ [])
    (IsInformation
    (record { application = 0x67720102; version = 0x00010407; device = 0x78; serial = 0x82036841; silent = 0x05; network = 0x06 }))
    ∷ from_settings []
    ∷ from_settings three_settings
    ∷ from_settings (0xFF ∷ 0x00 ∷ [])
    ∷ from_setup (0xDB ∷ 0xF3 ∷ 0xFF ∷ []) SettingsFailed
    ∷ from_setup (0xDB ∷ 0xF8 ∷ 0x11 ∷ 0x00 ∷ []) (SilentMode false)
    ∷ from_setup (0xDB ∷ 0xF8 ∷ 0x11 ∷ 0x01 ∷ []) (SilentMode true)
    ∷ from_refused (0xDB ∷ 0xF2 ∷ []) 9
    ∷ from_refused (0xDB ∷ 0xFD ∷ []) 9
    ∷ from_refused (0xDB ∷ 0xFE ∷ []) 9
    ∷ from_refused (0xDB ∷ 0xFF ∷ []) 9
    ∷ from_refused (0xDB ∷ 0xF4 ∷ []) 9
    ∷ from_refused (0xDB ∷ 0xF0 ∷ []) 7
    ∷ from_refused (0xDB ∷ 0xF8 ∷ 0x11 ∷ 0x01 ∷ 0x00 ∷ []) 7
    ∷ from_refused (0xDB ∷ 0xF8 ∷ 0x10 ∷ []) 7
    ∷ from_refused (0xDB ∷ 0xF0 ∷ 0x02 ∷ 0x01 ∷ []) 7
    ∷ from_refused (0xDB ∷ 0xF1 ∷ replicate 14 0x00) 7
    ∷ from_refused (0xDB ∷ 0xF1 ∷ replicate 16 0x00) 7
    ∷ from_refused (0xDB ∷ 0xF0 ∷ 0x02 ∷ []) 11
    ∷ from_refused (0xDB ∷ 0xF8 ∷ 0x10 ∷ 0x01 ∷ []) 11
    ∷ from_refused (0xDB ∷ 0xF8 ∷ 0x11 ∷ 0x02 ∷ []) 11
    ∷ from_refused (0xDB ∷ []) 7
    ∷ from_refused (0xDB ∷ 0xF3 ∷ 0x03 ∷ []) 17
    ∷ from_refused (0xDB ∷ 0xF3 ∷ 0x03 ∷ 0x01 ∷ 0xFF ∷ []) 17
    ∷ from_refused (0xDB ∷ 0xF3 ∷ 0xFE ∷ 0x00 ∷ []) 17
    ∷ from_refused (0xDB ∷ 0xF3 ∷ 0xFF ∷ 0x00 ∷ 0xFF ∷ 0x00 ∷ []) 17
    ∷ []

-- Writing. A setup command has a frame of 9 bytes in ASCII framing and 8 in binary framing.
abbrev wrote : Framing → (k : Kind) → (family k).Message → ℕ → ℕ → ℕ → Row
wrote f k m room number len = row (write f k m room) (writing number len ∷ [])

abbrev simple_to : ℕ → ℕ → Request
simple_to address command = SimpleRequest (record { address = address; command = command })

-- Each refusal of writing for each of its causes, and those that come first before those that come later: 8, 9, 10, 17, then 14, then 13; DB is no plain
-- address.
abbrev pub write_rows : List Row
write_rows =
    wrote Ascii orders (setup Reset) 9 0 9
    ∷ wrote Ascii orders (setup Reset) 8 13 0
    ∷ wrote Binary orders (setup Reset) 8 0 8
    ∷ wrote Binary orders (setup Reset) 7 13 0
    ∷ wrote Ascii requests (SettingsRequest, three_settings) 27 0 27
    ∷ wrote Ascii requests (SettingsRequest, []) 9 0 9
    ∷ wrote Ascii requests (SettingsRequest, 0xFF ∷ []) 517 17 0
    ∷ wrote Ascii requests (SettingsRequest, replicate 300 0x00) 0 17 0
    ∷ wrote Ascii deliveries (SettingsDelivery, 0xFF ∷ []) 517 17 0
    ∷ wrote Binary deliveries (SettingsDelivery, replicate 300 0x00) 0 17 0
    ∷ wrote Ascii notices (Setup SettingsFailed) 11 0 11
    ∷ wrote Ascii notices (Setup SettingsFailed) 10 13 0
    ∷ wrote Ascii requests (simple_to 0xDB 0x05, []) 517 8 0
    ∷ wrote Ascii requests (simple_to 0x65 0x80, replicate 300 0x00) 0 8 0
    ∷ wrote Ascii requests (simple_to 0x64 0x80, replicate 300 0x00) 0 9 0
    ∷ wrote Ascii requests
    (ExtendedRequest (record { address = Plain 0x00; response_id = 0x12; options = retries_alone 0x10 }), replicate 300 0x00)
    0 10 0
    ∷ wrote Ascii requests (ExtendedRequest (record { address = Plain 0x80; response_id = 0x12; options = no_options }), []) 517 8 0
    ∷ wrote Ascii requests
    (ExtendedRequest (record { address = ExtendedAddress 0x00010000; response_id = 0x12; options = retries_alone 0x10 }), [])
    517 8 0
    ∷ wrote Ascii orders (change (record { address = 0xDB; signals = 0x0000; mask = 0x0000 })) 0 8 0
    ∷ wrote Ascii deliveries (SimpleDelivery (record { address = 0x65; command = 0x80 }), []) 0 8 0
    ∷ wrote Ascii deliveries (SimpleDelivery (record { address = 0x64; command = 0x80 }), []) 0 9 0
    ∷ wrote Ascii deliveries
    (ExtendedDelivery (record { sender = 0xDB; response_id = 0x02; source = 0x00; destination = 0x00; lqi = 0x00 }), [])
    0 8 0
    ∷ wrote Ascii notices
    (Remote
    (record {
      sender = 0xDB;
      lqi = 0x00;
      serial = 0x00;
      destination = 0x00;
      time = 0x00;
      relays = 0x00;
      signals = 0x00;
      mask = 0x00;
      interrupts = 0x00;
      unused = 0x00;
    }))
    0 8 0
    ∷ wrote Ascii notices (Standard (status_from 0xDB)) 0 8 0
    ∷ wrote Ascii notices (Standard distinct_status) 51 0 51
    ∷ wrote Ascii notices (Standard distinct_status) 50 13 0
    ∷ wrote Ascii requests (simple_to 0x64 0x7F, replicate 255 0x00) 0 14 0
    ∷ wrote Ascii requests (simple_to 0x64 0x7F, replicate 254 0x00) 516 13 0
    ∷ wrote Ascii requests (simple_to 0x64 0x7F, replicate 254 0x00) 517 0 517
    ∷ []

abbrev pub all_rows : List Row
all_rows = rows ++ (footer_rows ++ (ending_rows ++ (to_rows ++ (from_rows ++ (distinct_rows ++ (flag_rows ++ (cause_rows ++ (edge_rows ++ (setup_rows ++ write_rows)))))))))

-- Each row is answered as documents 01 and 02 say.
abbrev pub Examples : Type 0
Examples = map (λ (r : Row). answers r.ask) all_rows ≡ map (λ (r : Row). r.expected) all_rows
