-- Messages from the module. Document 01, "Payloads" and "Refusal numbers"; document 02, CR 1.
use Rattle.std.specs.Prelude.{ℕ, ◌-◌, List, [], ◌∷◌, ◌++◌, cond, ◌&&◌, leb, ltb, eqb, length, Result, Ok, Err}
use Rattle.message.specs.Number.{byte_at, word_at, long_at, bytes2, bytes4}
use Rattle.message.specs.Address.{plain_refusal}
use Rattle.message.specs.Meaning.{Meaning, refused, carrying, bare, by_address, by_plain}
use Rattle.message.specs.Refusal.{number_of}
use Rattle.message.specs.Setup.{information_at, report_layout, settings_layout, list_meaning, settings_refusal}
use Rattle.message.specs.Simple.{simple_layout, simple_refusal}
use Rattle.message.specs.Status.{standard_layout, standard_at, remote_layout, remote_at}
use Rattle.message.specs.declared.refusal.Refusal.{Refusal}
use Rattle.message.specs.declared.setup.SetupReport.TheVariants.{Acknowledged, Information as IsInformation, SettingsFailed, SilentMode}
use Rattle.message.specs.declared.from_module.Reception.{Reception}
use Rattle.message.specs.declared.from_module.Delivery.{Delivery}
use Rattle.message.specs.declared.from_module.Delivery.TheVariants.{Simple as SimpleDelivery, Extended as ExtendedDelivery, Settings}
use Rattle.message.specs.declared.from_module.Outcome.{Outcome}
use Rattle.message.specs.declared.from_module.Outcome.TheVariants.{Failure, Success}
use Rattle.message.specs.declared.from_module.Notice.{Notice}
use Rattle.message.specs.declared.from_module.Notice.TheVariants.{Response as IsResponse, Standard, Remote, Setup}
use Rattle.message.specs.declared.from_module.FromModule.{FromModule}
use Rattle.message.specs.declared.from_module.FromModule.TheVariants.{Delivery as IsDelivery, Notice as IsNotice}

-- Extended, 14 + M bytes: sender, A0, response ID, source address (4), destination address (4), LQI, M (2), M data bytes.
abbrev pub reception_layout : Reception → List ℕ → List ℕ
reception_layout m dat =
    m.sender ∷ 0xA0 ∷ m.response_id
    ∷ (bytes4 m.source ++ (bytes4 m.destination ++ (m.lqi ∷ (bytes2 (length dat) ++ dat))))

-- The layout of a message with its data.
abbrev pub delivery_layout : Delivery → List ℕ → List ℕ
delivery_layout (SimpleDelivery m) dat = simple_layout m dat
delivery_layout (ExtendedDelivery m) dat = reception_layout m dat
delivery_layout Settings dat = settings_layout 0xF3 dat

-- The result of a response: 0 or 1.
abbrev pub outcome_byte : Outcome → ℕ
outcome_byte Failure = 0
outcome_byte Success = 1

-- The layout of a message without data. Response, 4 bytes: DB, A1, ID (any), result 0 or 1.
abbrev pub notice_layout : Notice → List ℕ
notice_layout (IsResponse m) = 0xDB ∷ 0xA1 ∷ m.id ∷ outcome_byte m.outcome ∷ []
notice_layout (Standard m) = standard_layout m
notice_layout (Remote m) = remote_layout m
notice_layout (Setup m) = report_layout m

-- A response: the length (7), then the result (11).
unfoldable pub response_meaning : List ℕ → Meaning Delivery Notice
response_meaning p =
    cond (eqb (length p) 4)
    (cond (eqb (byte_at p 3) 0)
    (bare (IsResponse (record { id = byte_at p 2; outcome = Failure })))
    (cond (eqb (byte_at p 3) 1) (bare (IsResponse (record { id = byte_at p 2; outcome = Success }))) (refused 11)))
    (refused 7)

-- An acknowledgement: the length (7), then the 01 (11).
unfoldable pub ack_meaning : List ℕ → Meaning Delivery Notice
ack_meaning p = cond (eqb (length p) 3) (cond (eqb (byte_at p 2) 0x01) (bare (Setup Acknowledged)) (refused 11)) (refused 7)

-- The module's information: the length (7).
unfoldable pub information_meaning : List ℕ → Meaning Delivery Notice
information_meaning p = cond (eqb (length p) 17) (bare (Setup (IsInformation (information_at p)))) (refused 7)

-- The module's settings: FF alone is the failure; otherwise a settings list.
unfoldable pub settings_meaning : List ℕ → Meaning Delivery Notice
settings_meaning p = cond (eqb (length p) 3 && eqb (byte_at p 2) 0xFF) (bare (Setup SettingsFailed)) (list_meaning Settings p)

-- The state of silent mode: the length (7), then the 11 and the state, 0 or 1 (11).
unfoldable pub control_meaning : List ℕ → Meaning Delivery Notice
control_meaning p =
    cond (eqb (length p) 4)
    (cond (eqb (byte_at p 2) 0x11 && leb (byte_at p 3) 1) (bare (Setup (SilentMode (eqb (byte_at p 3) 1)))) (refused 11))
    (refused 7)

-- The module itself: A1 is a response, F0 an acknowledgement, F1 the information, F3 the settings, F8 the state of silent mode; any other command is 9.
unfoldable pub from_itself : List ℕ → Meaning Delivery Notice
from_itself p =
    cond (eqb (byte_at p 1) 0xA1) (response_meaning p)
    (cond (eqb (byte_at p 1) 0xF0) (ack_meaning p)
    (cond (eqb (byte_at p 1) 0xF1) (information_meaning p)
    (cond (eqb (byte_at p 1) 0xF3) (settings_meaning p)
    (cond (eqb (byte_at p 1) 0xF8) (control_meaning p) (refused 9)))))

-- An extended message: at least 14 bytes (7); then M (12). Both addresses are carried unjudged.
unfoldable pub reception_meaning : List ℕ → Meaning Delivery Notice
reception_meaning p =
    cond (leb 14 (length p))
    (cond (eqb (word_at p 12) (length p - 14))
    (carrying
    (ExtendedDelivery
    (record { sender = byte_at p 0; response_id = byte_at p 2; source = long_at p 3; destination = long_at p 7; lqi = byte_at p 11 }))
    14)
    (refused 12))
    (refused 7)

-- The fixed fields of the statuses (11): the fourth byte of a standard status; the third and the fourth of a remote one.
unfoldable pub standard_meaning : List ℕ → Meaning Delivery Notice
standard_meaning p = cond (eqb (byte_at p 3) 0x01) (bare (Standard (standard_at p))) (refused 11)

unfoldable pub remote_meaning : List ℕ → Meaning Delivery Notice
remote_meaning p = cond (eqb (byte_at p 2) 0x0F && eqb (byte_at p 3) 0x01) (bare (Remote (remote_at p))) (refused 11)

-- The length says which status it is; any other length is 7.
unfoldable pub status_meaning : List ℕ → Meaning Delivery Notice
status_meaning p = cond (eqb (length p) 23) (standard_meaning p) (cond (eqb (length p) 20) (remote_meaning p) (refused 7))

-- A plain address: a command below 0x80 is a simple message, 81 a status, A0 an extended message; any other is 9.
unfoldable pub sender_meaning : List ℕ → Meaning Delivery Notice
sender_meaning p =
    cond (ltb (byte_at p 1) 0x80)
    (carrying (SimpleDelivery (record { address = byte_at p 0; command = byte_at p 1 })) 2)
    (cond (eqb (byte_at p 1) 0x81) (status_meaning p) (cond (eqb (byte_at p 1) 0xA0) (reception_meaning p) (refused 9)))

-- Reading.
unfoldable pub read_from_module : List ℕ → Meaning Delivery Notice
read_from_module p = by_address from_itself (by_plain sender_meaning) p

-- The number and the message of each answer.
abbrev pub from_module_of : Result FromModule Refusal → Meaning Delivery Notice
from_module_of (Ok (IsDelivery m start)) = carrying m start
from_module_of (Ok (IsNotice m)) = bare m
from_module_of (Err r) = refused (number_of r)

-- Why a message is not written: 8, 9, 17; 0 where none of these applies, and 14 and 13 follow (Write.antt). A response has no refusal of its own, nor
-- has the state of silent mode: each is a type of two values (11). The module's other reports have no field that could be wrong.
abbrev pub reception_refusal : Reception → ℕ
reception_refusal m = plain_refusal m.sender

abbrev pub delivery_refusal : Delivery → List ℕ → ℕ
delivery_refusal (SimpleDelivery m) dat = simple_refusal m
delivery_refusal (ExtendedDelivery m) dat = reception_refusal m
delivery_refusal Settings dat = settings_refusal dat

abbrev pub notice_refusal : Notice → ℕ
notice_refusal (IsResponse m) = 0
notice_refusal (Standard m) = plain_refusal m.sender
notice_refusal (Remote m) = plain_refusal m.sender
notice_refusal (Setup m) = 0
