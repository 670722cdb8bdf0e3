-- The text that booth-list prints. Document 01, end of "Frames to check against": a line per frame, then the noise total in decimal. Fields are hex
-- capitals, empty data is `-`. Document 02, CR 1, has the line of settings.
use Rattle.std.specs.Prelude.{ℕ, zero, suc, ◌+◌, ◌/◌, ◌%◌, List, [], ◌∷◌, ◌++◌, cond, ltb, drop}
use Rattle.frame.specs.Hex.{hex}
use Rattle.frame.specs.Ascii.{line_feed}
use Rattle.message.specs.Text.{text}
use Rattle.message.specs.FromModule.{read_from_module}
use Rattle.message.specs.Meaning.{Meaning, refused, carrying, bare}
use Rattle.message.specs.Number.{byte_at, bytes2, bytes4}
use Rattle.message.specs.declared.simple.Simple.{Simple}
use Rattle.message.specs.declared.from_module.Reception.{Reception}
use Rattle.message.specs.declared.from_module.Response.{Response}
use Rattle.message.specs.declared.from_module.Outcome.{Outcome}
use Rattle.message.specs.declared.from_module.Outcome.TheVariants.{Failure, Success}
use Rattle.message.specs.declared.from_module.Delivery.{Delivery}
use Rattle.message.specs.declared.from_module.Delivery.TheVariants.{Simple as SimpleDelivery, Extended as ExtendedDelivery, Settings}
use Rattle.message.specs.declared.from_module.Notice.{Notice}
use Rattle.message.specs.declared.from_module.Notice.TheVariants.{Response as IsResponse, Standard, Remote, Setup}
use Rattle.message.specs.declared.status.StandardStatus.{StandardStatus}
use Rattle.message.specs.declared.status.RemoteStatus.{RemoteStatus}

-- A field: its bytes in hex behind a space.
abbrev pub field : List ℕ → List ℕ
field bytes = 0x20 ∷ hex bytes

-- A message's data.
abbrev pub data_field : List ℕ → List ℕ
data_field [] = text " -"
data_field (b ∷ s) = field (b ∷ s)

-- A number in decimal, with no more than `places` digits and no zero in front; 20 are enough for 64 bits.
abbrev pub digits_of : ℕ → ℕ → List ℕ
digits_of zero n = []
digits_of (suc places) n = cond (ltb n 10) [] (digits_of places (n / 10)) ++ ((0x30 + n % 10) ∷ [])

unfoldable pub decimal : ℕ → List ℕ
decimal n = digits_of 20 n

-- simple ADDR CMD DATA
unfoldable pub simple_line : Simple → List ℕ → List ℕ
simple_line m dat = text "simple" ++ (field (m.address ∷ []) ++ (field (m.command ∷ []) ++ data_field dat))

-- extended ADDR ID SOURCE DEST LQI DATA
unfoldable pub reception_line : Reception → List ℕ → List ℕ
reception_line m dat =
    text "extended"
    ++ (field (m.sender ∷ [])
    ++ (field (m.response_id ∷ [])
    ++ (field (bytes4 m.source) ++ (field (bytes4 m.destination) ++ (field (m.lqi ∷ []) ++ data_field dat)))))

-- response ID ok, or fail
abbrev pub outcome_text : Outcome → List ℕ
outcome_text Failure = text " fail"
outcome_text Success = text " ok"

unfoldable pub response_line : Response → List ℕ
response_line m = text "response" ++ (field (m.id ∷ []) ++ outcome_text m.outcome)

-- standard ADDR SERIAL LQI SUPPLY DI
unfoldable pub standard_line : StandardStatus → List ℕ
standard_line m =
    text "standard"
    ++ (field (m.sender ∷ []) ++ (field (bytes4 m.serial) ++ (field (m.lqi ∷ []) ++ (field (bytes2 m.supply) ++ field (m.di ∷ [])))))

-- remote ADDR SERIAL LQI SIGNALS
unfoldable pub remote_line : RemoteStatus → List ℕ
remote_line m =
    text "remote" ++ (field (m.sender ∷ []) ++ (field (bytes4 m.serial) ++ (field (m.lqi ∷ []) ++ field (bytes2 m.signals))))

-- settings CMD REST, of the payload p: its second byte, and all that follow
unfoldable pub settings_line : List ℕ → List ℕ
settings_line p = text "settings" ++ (field (byte_at p 1 ∷ []) ++ data_field (drop 2 p))

-- refused N (decimal)
unfoldable pub refusal_line : ℕ → List ℕ
refusal_line n = text "refused " ++ decimal n

-- The line of a message with data, and of one without, from the payload p.
abbrev pub delivery_line : List ℕ → Delivery → List ℕ → List ℕ
delivery_line p (SimpleDelivery m) dat = simple_line m dat
delivery_line p (ExtendedDelivery m) dat = reception_line m dat
delivery_line p Settings dat = settings_line p

abbrev pub notice_line : List ℕ → Notice → List ℕ
notice_line p (IsResponse m) = response_line m
notice_line p (Standard m) = standard_line m
notice_line p (Remote m) = remote_line m
notice_line p (Setup m) = settings_line p

-- The line of what a payload p means.
abbrev pub meaning_line : List ℕ → Meaning Delivery Notice → List ℕ
meaning_line p (refused n) = refusal_line n
meaning_line p (carrying m start) = delivery_line p m (drop start p)
meaning_line p (bare m) = notice_line p m

-- The line of a frame with the payload p, from the module.
unfoldable pub line_of : List ℕ → List ℕ
line_of p = meaning_line p (read_from_module p) ++ (line_feed ∷ [])

-- A line for each frame.
abbrev pub lines_of : List (List ℕ) → List ℕ
lines_of [] = []
lines_of (p ∷ ps) = line_of p ++ lines_of ps

-- The noise total.
unfoldable pub noise_line : ℕ → List ℕ
noise_line n = text "noise " ++ (decimal n ++ (line_feed ∷ []))
