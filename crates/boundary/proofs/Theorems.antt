-- The claims of specs/Claims.antt, proved case by case.
-- Assumes nothing.
use Prim.Native.Nat.{ℕ, ◌<◌}
use native.Mathlib.Omega.{arith}
use mathlib.Core.Path.{◌≡◌, refl}
use mathlib.Core.List.{List}
use mathlib.Core.Bool.{Bool, true, false, cond, true≢false}
use lib.Dec.{eqb, leb}
use Rattle.std.proofs.lemmas.Bool.Decides.{nat_tests}
use Rattle.std.proofs.Common.{Option, Some, None, Result, Ok, Err, is_some, unwrap_or}
use Rattle.std.specs.Bool.{then_some}
use Rattle.std.specs.Int.{from_bool}
use Rattle.frame.specs.Framing.{format_of as default_format}
use Rattle.frame.specs.declared.framing.Framing.{Framing}
use Rattle.frame.specs.declared.framing.Framing.TheVariants.{Binary as BinaryFraming, Ascii as AsciiFraming}
use Rattle.frame.specs.declared.framing.Footer.TheVariants.{Optional, Required}
use Rattle.frame.specs.declared.framing.Ending.TheVariants.{CrLf, Any}
use Rattle.frame.specs.declared.framing.Format.{Format}
use Rattle.frame.specs.declared.framing.Format.TheVariants.{Binary, Ascii}
use Rattle.frame.specs.declared.refusal.Refusal.{Refusal}
use Rattle.reader.specs.Reader.{feed_values_of, quiet_values_of}
use Rattle.reader.specs.declared.reader.Reader.{Reader}
use Rattle.reader.specs.declared.answer.FeedAnswer.{FeedAnswer}
use Rattle.reader.specs.declared.answer.FeedAnswer.TheVariants.{Frame as FeedFrame, NeedsMore}
use Rattle.reader.specs.declared.answer.QuietAnswer.{QuietAnswer}
use Rattle.reader.specs.declared.answer.QuietAnswer.TheVariants.{Frame as QuietFrame, Empty}
use Rattle.message.specs.FromModule.{outcome_byte}
use Rattle.message.specs.Setup.{command_number, command_of}
use Rattle.message.specs.declared.options.Options.{Options}
use Rattle.message.specs.declared.setup.SetupCommand.{SetupCommand}
use Rattle.message.specs.declared.setup.SetupCommand.TheVariants.{EnableAck, GetInformation, GetSettings, EraseSettings, SaveSettings, Reset}
use Rattle.message.specs.declared.setup.SetupReport.TheVariants.{Acknowledged, Information as IsInformation, SettingsFailed, SilentMode}
use Rattle.message.specs.declared.to_module.Address.{Address}
use Rattle.message.specs.declared.to_module.Address.TheVariants.{Plain, Extended}
use Rattle.message.specs.declared.to_module.Transmission.{Transmission}
use Rattle.message.specs.declared.to_module.Request.{Request}
use Rattle.message.specs.declared.to_module.Request.TheVariants.{Simple as SimpleRequest, Extended as ExtendedRequest, Settings as SettingsRequest}
use Rattle.message.specs.declared.from_module.Delivery.{Delivery}
use Rattle.message.specs.declared.from_module.Delivery.TheVariants.{Simple as SimpleDelivery, Extended as ExtendedDelivery, Settings as SettingsDelivery}
use Rattle.message.specs.declared.from_module.Outcome.{Outcome}
use Rattle.message.specs.declared.from_module.Outcome.TheVariants.{Failure, Success}
use Rattle.message.specs.declared.from_module.Notice.{Notice}
use Rattle.message.specs.declared.from_module.Notice.TheVariants.{Response as IsResponse, Standard, Remote, Setup}
use Rattle.boundary.specs.Refusal.{unknown_number}
use Rattle.boundary.specs.Framing.{framing_of, format_of, format_number}
use Rattle.boundary.specs.Line.{flat_values, mark_in, flat_reader, format_in, reader_in, FeedsFlat, QuietsFlat}
use Rattle.boundary.specs.Claims.{CrossesBack, ZeroWithoutFrame, NoneIsZero}
use Rattle.boundary.specs.Options.{option_numbers, options_in}
use Rattle.boundary.specs.ToModule.{transmission_numbers, request_numbers, setup_numbers, request_in}
use Rattle.boundary.specs.ToModule.{address_kind, change_refusal_in, setup_refusal_in}
use Rattle.boundary.specs.FromModule.{delivery_numbers, notice_numbers}
use Rattle.boundary.specs.FromModule.{delivery_in, response_in, notice_in}
use Rattle.boundary.specs.declared.refusal.Unnamed.TheVariants.{Kind}
use Rattle.boundary.specs.declared.line.LineReader.{LineReader}
use Rattle.boundary.specs.declared.line.LineFed.{LineFed}

-- Formats, framings and states.
format : (m : Format) → format_of (format_number m) ≡ Some m
format (Binary Optional) = refl
format (Binary Required) = refl
format (Ascii CrLf) = refl
format (Ascii Any) = refl

framing : (f : Framing) → framing_of (format_number (default_format f)) ≡ Some f
framing BinaryFraming = refl
framing AsciiFraming = refl

no_format_lem : (n : ℕ) → 3 < n → format_of n ≡ None
no_format_lem n l = grind (arith, nat_tests)

no_framing_lem : (n : ℕ) → 1 < n → framing_of n ≡ None
no_framing_lem n l = grind (arith, nat_tests)

mark : (follows : Bool) → mark_in (from_bool follows) ≡ follows
mark true = refl
mark false = refl

reader : (r : Reader) → reader_in r.format (flat_reader r) ≡ r
reader r = rw (mark r.follows)

mark_known : (follows : Bool) → leb (from_bool follows) 1 ≡ true
mark_known true = refl
mark_known false = refl

reader_format_lem : (r : Reader) → format_in (flat_reader r) ≡ Some r.format
reader_format_lem r = rw (mark_known r.follows, format r.format)

-- A state that crossed: its numbers are those of what they stand for.
format_back : (n : ℕ) (m : Format) → format_of n ≡ Some m → format_number m ≡ n
format_back n m e = grind (arith, nat_tests)

mark_back : (n : ℕ) → leb n 1 ≡ true → from_bool (mark_in n) ≡ n
mark_back n e = grind (arith, nat_tests)

known : (t : Bool) (x : Option Format) (m : Format) → cond t x None ≡ Some m → (t ≡ true) × (x ≡ Some m)
known true x m e = (refl, e)
known false x m e = cc

given_back_lem : (r : LineReader) (m : Format) → format_in r ≡ Some m → flat_reader (reader_in m r) ≡ r
given_back_lem r m e =
    let k : (leb r.follows 1 ≡ true) × (format_of r.format ≡ Some m) = known _ _ m e in
    rw (format_back r.format m k.1, mark_back r.follows k.0)

-- Commands.
setup : (c : SetupCommand) → command_of (command_number c) ≡ Some c
unfolding command_of
setup EnableAck = refl
setup GetInformation = refl
setup GetSettings = refl
setup EraseSettings = refl
setup SaveSettings = refl
setup Reset = refl

setup_taken_lem : (c : SetupCommand) → setup_refusal_in (setup_numbers c) ≡ 0
setup_taken_lem c = rw (setup c)

-- Options: each argument with whether it is given.
given : {A : Type 0} (d : A) (o : Option A) → then_some (is_some o) (unwrap_or o d) ≡ o
given d None = refl
given d (Some x) = refl

options : (o : Options) → options_in (option_numbers o) ≡ o
options o = rw (given 0 o.retries, given 0 o.lower_delay, given 0 o.upper_delay, given 0 o.interval)

-- Messages to the module. Of an extended one the kind is by its address.
transmission : (a : Address) (id : ℕ) (o : Options) (start : ℕ) →
    let m : Transmission = record { address = a; response_id = id; options = o } in
    request_in (transmission_numbers m start) ≡ Some (ExtendedRequest m)
transmission (Plain a) id o start = rw (options o)
transmission (Extended w) id o start = rw (options o)

kind_lem : (a : Address) → (eqb (address_kind a) 4 ≡ false) × (eqb (address_kind a) 6 ≡ false)
kind_lem (Plain a) = (refl, refl)
kind_lem (Extended w) = (refl, refl)

request : (m : Request) (start : ℕ) → request_in (request_numbers m start) ≡ Some m
request (SimpleRequest m) start = refl
request (ExtendedRequest m) start = transmission m.address m.response_id m.options start
request SettingsRequest start = refl

request_no_change_lem : (m : Request) (start : ℕ) → change_refusal_in (request_numbers m start) ≡ unknown_number
request_no_change_lem (SimpleRequest m) start = refl
request_no_change_lem (ExtendedRequest m) start = rw (kind_lem m.address).0
request_no_change_lem SettingsRequest start = refl

request_no_setup_lem : (m : Request) (start : ℕ) → setup_refusal_in (request_numbers m start) ≡ unknown_number
request_no_setup_lem (SimpleRequest m) start = refl
request_no_setup_lem (ExtendedRequest m) start = rw (kind_lem m.address).1
request_no_setup_lem SettingsRequest start = refl

-- Messages from the module.
delivery : (m : Delivery) (start : ℕ) → delivery_in (delivery_numbers m start) ≡ Some m
delivery (SimpleDelivery m) start = refl
delivery (ExtendedDelivery m) start = refl
delivery SettingsDelivery start = refl

delivery_no_notice_lem : (m : Delivery) (start : ℕ) → notice_in (delivery_numbers m start) ≡ Err Kind
delivery_no_notice_lem (SimpleDelivery m) start = refl
delivery_no_notice_lem (ExtendedDelivery m) start = refl
delivery_no_notice_lem SettingsDelivery start = refl

response : (id : ℕ) (o : Outcome) → response_in id (outcome_byte o) ≡ Ok (IsResponse (record { id = id; outcome = o }))
response id Failure = refl
response id Success = refl

notice : (m : Notice) → notice_in (notice_numbers m) ≡ Ok m
notice (IsResponse m) = response m.id m.outcome
notice (Standard m) = refl
notice (Remote m) = refl
notice (Setup Acknowledged) = refl
notice (Setup (IsInformation m)) = refl
notice (Setup SettingsFailed) = refl
notice (Setup (SilentMode true)) = refl
notice (Setup (SilentMode false)) = refl

notice_no_delivery_lem : (m : Notice) → delivery_in (notice_numbers m) ≡ None
notice_no_delivery_lem (IsResponse m) = refl
notice_no_delivery_lem (Standard m) = refl
notice_no_delivery_lem (Remote m) = refl
notice_no_delivery_lem (Setup Acknowledged) = refl
notice_no_delivery_lem (Setup (IsInformation m)) = refl
notice_no_delivery_lem (Setup SettingsFailed) = refl
notice_no_delivery_lem (Setup (SilentMode released)) = refl

pub crosses_back : CrossesBack
crosses_back =
    record {
      format = format;
      framing = framing;
      required = refl;
      any_ending = refl;
      no_format = no_format_lem;
      no_framing = no_framing_lem;
      reader_format = reader_format_lem;
      reader = reader;
      new = λ m. refl;
      given_back = given_back_lem;
      request = request;
      change = λ m. refl;
      setup = setup;
      delivery = delivery;
      notice = notice;
      change_taken = λ m. refl;
      setup_taken = setup_taken_lem;
      change_no_request = λ m. refl;
      setup_no_request = λ c. refl;
      request_no_change = request_no_change_lem;
      setup_no_change = λ c. refl;
      request_no_setup = request_no_setup_lem;
      change_no_setup = λ m. refl;
      notice_no_delivery = notice_no_delivery_lem;
      delivery_no_notice = delivery_no_notice_lem;
    }

-- The numbers of an answer without a frame.
fed_zero : (a : Result FeedAnswer Refusal) → (feed_values_of a).is_frame ≡ false → ZeroWithoutFrame (flat_values (feed_values_of a))
fed_zero (Ok (FeedFrame taken noise judged len began)) e = absurd (true≢false e)
fed_zero (Ok (NeedsMore taken noise judged)) e = record { len = refl; began = refl }
fed_zero (Err r) e = record { len = refl; began = refl }

quiet_zero : (a : Result QuietAnswer Refusal) → (quiet_values_of a).is_frame ≡ false → ZeroWithoutFrame (flat_values (quiet_values_of a))
quiet_zero (Ok (QuietFrame noise judged len began)) e = absurd (true≢false e)
quiet_zero (Ok (Empty noise judged)) e = record { len = refl; began = refl }
quiet_zero (Err r) e = record { len = refl; began = refl }

-- They are what crosses.
zero_crosses : {a b : LineFed} → a ≡ b → (b.answer.is_frame ≡ false → ZeroWithoutFrame b.answer) → a.answer.is_frame ≡ false → ZeroWithoutFrame a.answer
zero_crosses e none = rw e none

at_line_lem :
    (m : Option Format) (r : LineReader) (chunk buf : List ℕ) (fed : LineFed) (after : List ℕ) → FeedsFlat m r chunk buf fed after →
    fed.answer.is_frame ≡ false → ZeroWithoutFrame fed.answer
at_line_lem (Some f) r chunk buf fed after p = zero_crosses p.crosses (fed_zero p.answer.answer)
at_line_lem None r chunk buf fed after p = zero_crosses p.refuses (λ _. record { len = refl; began = refl })

at_quiet_lem :
    (m : Option Format) (r : LineReader) (buf : List ℕ) (fed : LineFed) (after : List ℕ) → QuietsFlat m r buf fed after →
    fed.answer.is_frame ≡ false → ZeroWithoutFrame fed.answer
at_quiet_lem (Some f) r buf fed after p = zero_crosses p.crosses (quiet_zero p.answer.answer)
at_quiet_lem None r buf fed after p = zero_crosses p.refuses (λ _. record { len = refl; began = refl })

pub none_is_zero : NoneIsZero
none_is_zero = record { at_line = at_line_lem; at_quiet = at_quiet_lem }
