-- Messages from the module as numbers. The kinds: 0 a refusal, 1 simple, 2 extended, 3 a response, 4 a standard status, 5 a remote status, 6 a settings
-- list, 7 a report of the module on itself, by its command. A field that a kind does not have is 0 in reading and is not looked at in writing.
use Rattle.std.specs.Prelude.{ℕ, List, [], true, false, cond, eqb, Option, Some, None, Result, Ok, Err}
use Rattle.frame.specs.declared.framing.Framing.{Framing}
use Rattle.message.specs.Meaning.{Meaning, refused, carrying, bare}
use Rattle.message.specs.FromModule.{outcome_byte, delivery_refusal, delivery_layout, notice_refusal, notice_layout}
use Rattle.message.specs.Setup.{state_byte}
use Rattle.message.specs.declared.setup.Information.{Information}
use Rattle.message.specs.declared.setup.SetupReport.{SetupReport}
use Rattle.message.specs.declared.setup.SetupReport.TheVariants.{Acknowledged, Information as IsInformation, SettingsFailed, SilentMode}
use Rattle.message.specs.declared.simple.Simple.{Simple}
use Rattle.message.specs.declared.status.StandardStatus.{StandardStatus}
use Rattle.message.specs.declared.status.RemoteStatus.{RemoteStatus}
use Rattle.message.specs.declared.from_module.Reception.{Reception}
use Rattle.message.specs.declared.from_module.Delivery.{Delivery}
use Rattle.message.specs.declared.from_module.Delivery.TheVariants.{Simple as SimpleDelivery, Extended as ExtendedDelivery, Settings}
use Rattle.message.specs.declared.from_module.Outcome.TheVariants.{Failure, Success}
use Rattle.message.specs.declared.from_module.Response.{Response}
use Rattle.message.specs.declared.from_module.Notice.{Notice}
use Rattle.message.specs.declared.from_module.Notice.TheVariants.{Response as IsResponse, Standard, Remote, Setup}
use Rattle.boundary.specs.Refusal.{unknown_number, unnamed_number}
use Rattle.boundary.specs.Single.{WritesFlat}
use Rattle.boundary.specs.Status.{no_status, standard_part, remote_part, standard_in, remote_in}
use Rattle.boundary.specs.declared.refusal.Unnamed.{Unnamed}
use Rattle.boundary.specs.declared.refusal.Unnamed.TheVariants.{Kind, Command, Flag}
use Rattle.boundary.specs.declared.single.FlatWriting.{FlatWriting}
use Rattle.boundary.specs.declared.status.StatusNumbers.{StatusNumbers}
use Rattle.boundary.specs.declared.from_module.InformationNumbers.{InformationNumbers}
use Rattle.boundary.specs.declared.from_module.FromModuleNumbers.{FromModuleNumbers}

-- The information of F1 as numbers; of a message that has none; and what the numbers stand for.
abbrev pub information_numbers : Information → InformationNumbers
information_numbers m =
    record {
      application = m.application;
      version = m.version;
      device = m.device;
      serial = m.serial;
      silent = m.silent;
      network = m.network;
    }

abbrev pub no_information : InformationNumbers
no_information = record { application = 0; version = 0; device = 0; serial = 0; silent = 0; network = 0 }

abbrev pub information_in : InformationNumbers → Information
information_in n =
    record {
      application = n.application;
      version = n.version;
      device = n.device;
      serial = n.serial;
      silent = n.silent;
      network = n.network;
    }

-- No message: zeros alone.
abbrev pub no_message : FromModuleNumbers
no_message =
    record {
      kind = 0;
      refusal = 0;
      address = 0;
      command = 0;
      response_id = 0;
      result = 0;
      lqi = 0;
      source = 0;
      destination = 0;
      status = no_status;
      information = no_information;
      start = 0;
    }

-- A refusal: its number with zeros beside it.
abbrev pub refused_from : ℕ → FromModuleNumbers
refused_from n = record no_message { refusal = n }

-- The numbers of each message, with zeros beside them.
abbrev pub simple_numbers : Simple → ℕ → FromModuleNumbers
simple_numbers m start = record no_message { kind = 1; address = m.address; command = m.command; start = start }

abbrev pub reception_numbers : Reception → ℕ → FromModuleNumbers
reception_numbers m start =
    record no_message {
      kind = 2;
      address = m.sender;
      response_id = m.response_id;
      lqi = m.lqi;
      source = m.source;
      destination = m.destination;
      start = start;
    }

abbrev pub list_numbers : ℕ → FromModuleNumbers
list_numbers start = record no_message { kind = 6; start = start }

abbrev pub delivery_numbers : Delivery → ℕ → FromModuleNumbers
delivery_numbers (SimpleDelivery m) start = simple_numbers m start
delivery_numbers (ExtendedDelivery m) start = reception_numbers m start
delivery_numbers Settings start = list_numbers start

abbrev pub response_numbers : Response → FromModuleNumbers
response_numbers m = record no_message { kind = 3; response_id = m.id; result = outcome_byte m.outcome }

abbrev pub status_numbers : ℕ → ℕ → ℕ → StatusNumbers → FromModuleNumbers
status_numbers kind sender lqi status = record no_message { kind = kind; address = sender; lqi = lqi; status = status }

abbrev pub standard_numbers : StandardStatus → FromModuleNumbers
standard_numbers m = status_numbers 4 m.sender m.lqi (standard_part m)

abbrev pub remote_numbers : RemoteStatus → FromModuleNumbers
remote_numbers m = status_numbers 5 m.sender m.lqi (remote_part m)

abbrev pub own_numbers : ℕ → ℕ → InformationNumbers → FromModuleNumbers
own_numbers command result information = record no_message { kind = 7; command = command; result = result; information = information }

abbrev pub report_numbers : SetupReport → FromModuleNumbers
report_numbers Acknowledged = own_numbers 0xF0 0 no_information
report_numbers (IsInformation m) = own_numbers 0xF1 0 (information_numbers m)
report_numbers SettingsFailed = own_numbers 0xF3 0 no_information
report_numbers (SilentMode released) = own_numbers 0xF8 (state_byte released) no_information

abbrev pub notice_numbers : Notice → FromModuleNumbers
notice_numbers (IsResponse m) = response_numbers m
notice_numbers (Standard m) = standard_numbers m
notice_numbers (Remote m) = remote_numbers m
notice_numbers (Setup m) = report_numbers m

-- The numbers of what a payload means.
abbrev pub from_module_numbers : Meaning Delivery Notice → FromModuleNumbers
from_module_numbers (refused n) = refused_from n
from_module_numbers (carrying m start) = delivery_numbers m start
from_module_numbers (bare m) = notice_numbers m

-- The message that numbers stand for.
abbrev pub delivery_in : FromModuleNumbers → Option Delivery
delivery_in n =
    cond (eqb n.kind 1) (Some (SimpleDelivery (record { address = n.address; command = n.command })))
    (cond (eqb n.kind 2)
    (Some
    (ExtendedDelivery
    (record {
      sender = n.address;
      response_id = n.response_id;
      source = n.source;
      destination = n.destination;
      lqi = n.lqi;
    })))
    (cond (eqb n.kind 6) (Some Settings) None))

abbrev pub response_in : ℕ → ℕ → Result Notice Unnamed
response_in id result =
    cond (eqb result 0) (Ok (IsResponse (record { id = id; outcome = Failure })))
    (cond (eqb result 1) (Ok (IsResponse (record { id = id; outcome = Success }))) (Err Flag))

abbrev pub silent_mode_in : ℕ → Result Notice Unnamed
silent_mode_in result =
    cond (eqb result 0) (Ok (Setup (SilentMode false)))
    (cond (eqb result 1) (Ok (Setup (SilentMode true))) (Err Flag))

abbrev pub report_in : ℕ → ℕ → InformationNumbers → Result Notice Unnamed
report_in command result information =
    cond (eqb command 0xF0) (Ok (Setup Acknowledged))
    (cond (eqb command 0xF1) (Ok (Setup (IsInformation (information_in information))))
    (cond (eqb command 0xF3) (Ok (Setup SettingsFailed)) (cond (eqb command 0xF8) (silent_mode_in result) (Err Command))))

abbrev pub notice_in : FromModuleNumbers → Result Notice Unnamed
notice_in n =
    cond (eqb n.kind 3) (response_in n.response_id n.result)
    (cond (eqb n.kind 4) (Ok (Standard (standard_in n.address n.lqi n.status)))
    (cond (eqb n.kind 5) (Ok (Remote (remote_in n.address n.lqi n.status)))
    (cond (eqb n.kind 7) (report_in n.command n.result n.information) (Err Kind))))

-- Why they are not written, 0 for no reason, and the payload.
abbrev pub delivery_refusal_in : Option Delivery → List ℕ → ℕ
delivery_refusal_in (Some d) dat = delivery_refusal d dat
delivery_refusal_in None dat = unknown_number

abbrev pub delivery_layout_in : Option Delivery → List ℕ → List ℕ
delivery_layout_in (Some d) dat = delivery_layout d dat
delivery_layout_in None dat = []

abbrev pub notice_refusal_in : Result Notice Unnamed → ℕ
notice_refusal_in (Ok m) = notice_refusal m
notice_refusal_in (Err e) = unnamed_number e

abbrev pub notice_layout_in : Result Notice Unnamed → List ℕ
notice_layout_in (Ok m) = notice_layout m
notice_layout_in (Err e) = []

-- The promise of a write of such a message into buf, which then holds `after`.
abbrev pub WritesDelivery : Option Framing → Option Delivery → List ℕ → List ℕ → FlatWriting → List ℕ → Type 0
WritesDelivery f d dat buf answer after = WritesFlat f (delivery_refusal_in d dat) (delivery_layout_in d dat) buf answer after

abbrev pub WritesNotice : Option Framing → Result Notice Unnamed → List ℕ → FlatWriting → List ℕ → Type 0
WritesNotice f m buf answer after = WritesFlat f (notice_refusal_in m) (notice_layout_in m) buf answer after
