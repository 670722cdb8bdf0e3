-- The frame of every message reads back as the message's payload, in every format of its framing.
-- Assumes nothing.
use Rattle.std.specs.Prelude.{Option, Some, None}
use Prim.Native.Nat.{ℕ, zero, suc, ◌/◌, ◌%◌, ◌≤◌, ◌<◌}
use mathlib.Core.Path.{◌≡◌, ap, subst, ◌∙◌}
use mathlib.Core.List.{List, [], ◌∷◌, ◌++◌, append-nil, flatten}
use mathlib.Core.Bool.{Bool, true, false}
use native.Mathlib.Omega.{arith}
use lib.Dec.{lit<, lit≤}
use lib.ListN.{length, replicate}
use Rattle.frame.specs.Checks.{frame, payload_in}
use Rattle.frame.specs.Framing.{read, layout, framing_of}
use Rattle.frame.specs.Rule.{output}
use Rattle.frame.specs.Elements.{Bytes}
use Rattle.frame.specs.Claims.{Payload}
use Rattle.reader.specs.Recovery.{none, another}
use Rattle.frame.specs.declared.framing.Framing.{Framing}
use Rattle.frame.specs.declared.framing.Format.{Format}
use Rattle.frame.proofs.Theorems.{layout_reads}
use Rattle.reader.proofs.Theorems.{clean_calls}
use Rattle.message.specs.Number.{bytes2, bytes4}
use Rattle.message.specs.Simple.{simple_layout}
use Rattle.message.specs.ToModule.{Order, change, setup, request_layout, order_layout, address_bytes}
use Rattle.message.specs.Setup.{command_number, settings_layout, state_byte, report_layout}
use Rattle.message.specs.Options.{flag_bytes, retry_bytes, word_bytes, option_bytes}
use Rattle.message.specs.FromModule.{outcome_byte, delivery_layout, notice_layout}
use Rattle.message.specs.Claims.{ByteFits, OptionsFit, AddressFits, SimpleFits, RequestFits, OrderFits, DeliveryFits, ReportFits, NoticeFits}
use Rattle.message.specs.Claims.{Kind, requests, orders, deliveries, notices, family, FrameReadsBack}
use Rattle.message.specs.declared.options.Options.{Options}
use Rattle.message.specs.declared.to_module.Address.{Address}
use Rattle.message.specs.declared.to_module.Address.TheVariants.{Plain, Extended as ExtendedAddress}
use Rattle.message.specs.declared.to_module.Request.{Request}
use Rattle.message.specs.declared.simple.Simple.{Simple}
use Rattle.message.specs.declared.setup.SetupCommand.{SetupCommand}
use Rattle.message.specs.declared.setup.SetupCommand.TheVariants.{EnableAck, GetInformation, GetSettings, EraseSettings, SaveSettings, Reset}
use Rattle.message.specs.declared.setup.SetupReport.{SetupReport}
use Rattle.message.specs.declared.setup.SetupReport.TheVariants.{Acknowledged, Information as IsInformation, SettingsFailed, SilentMode}
use Rattle.message.specs.declared.to_module.Request.TheVariants.{Simple as SimpleRequest, Extended as ExtendedRequest, Settings as SettingsRequest}
use Rattle.message.specs.declared.from_module.Delivery.{Delivery}
use Rattle.message.specs.declared.from_module.Delivery.TheVariants.{Simple as SimpleDelivery, Extended as ExtendedDelivery, Settings as SettingsDelivery}
use Rattle.message.specs.declared.from_module.Outcome.{Outcome}
use Rattle.message.specs.declared.from_module.Outcome.TheVariants.{Failure, Success}
use Rattle.message.specs.declared.from_module.Notice.{Notice}
use Rattle.message.specs.declared.from_module.Notice.TheVariants.{Response as IsResponse, Standard, Remote, Setup}

infixr 20 ◌then◌
-- A list of bytes, field by field.
data Fits : List ℕ → Type 0 where
  end : Fits []
  byte : {b : ℕ} {s : List ℕ} → b < 256 → Fits s → Fits (b ∷ s)

-- A remainder by 256 is a byte.
low : (v : ℕ) → v % 256 < 256
low v = omega arith

-- Numbers of 16 and 32 bits.
word : (v : ℕ) {s : List ℕ} → Fits s → Fits (bytes2 v ++ s)
word v h = byte (low (v / 256)) (byte (low v) h)

long : (v : ℕ) {s : List ℕ} → Fits s → Fits (bytes4 v ++ s)
long v h = byte (low (v / 16777216)) (byte (low (v / 65536)) (byte (low (v / 256)) (byte (low v) h)))

-- Data, and zeros.
rest : (s : List ℕ) → Bytes s → Fits s
rest [] h = end
rest (b ∷ s) h = byte h.0 (rest s h.1)

zeros : (n : ℕ) → Fits (replicate n 0)
zeros zero = end
zeros (suc n) = byte (lit< tt) (zeros n)

-- Two of them in a row.
◌then◌ : {s t : List ℕ} → Fits s → Fits t → Fits (s ++ t)
end then h = h
byte b r then h = byte b (r then h)

all_bytes : {s : List ℕ} → Fits s → Bytes s
all_bytes end = tt
all_bytes (byte h r) = (h, all_bytes r)

-- The bytes of each option.
flag_fits : (id : ℕ) → id < 256 → (b : Bool) → Fits (flag_bytes id b)
flag_fits id h true = byte h end
flag_fits id h false = end

retry_fits : (r : Option ℕ) → ByteFits r → Fits (retry_bytes r)
retry_fits None h = end
retry_fits (Some b) h = byte (lit< tt) (byte h end)

word_fits : (id : ℕ) → id < 256 → (w : Option ℕ) → Fits (word_bytes id w)
word_fits id h None = end
word_fits id h (Some v) = byte h (word v end)

option_fits : (o : Options) → OptionsFit o → Fits (option_bytes o)
unfolding option_bytes
option_fits o fits =
    flag_fits 0x01 (lit< tt) o.mac_ack
    then (retry_fits o.retries fits.0
    then (word_fits 0x03 (lit< tt) o.lower_delay
    then (word_fits 0x04 (lit< tt) o.upper_delay
    then (word_fits 0x05 (lit< tt) o.interval
    then (flag_fits 0x06 (lit< tt) o.parallel
    then (flag_fits 0x07 (lit< tt) o.no_response
    then (flag_fits 0x08 (lit< tt) o.sleep
    then byte (lit< tt) end)))))))

address_fits : (a : Address) (id : ℕ) → AddressFits a → id < 256 → Fits (address_bytes a id)
address_fits (Plain a) id fits h = byte fits (byte (lit< tt) (byte h end))
address_fits (ExtendedAddress w) id fits h = byte (lit< tt) (byte (lit< tt) (byte h (long w end)))

-- The frame of a payload reads back as that payload.
module _ (p : List ℕ) (fits : Fits p) (some : 1 ≤ length p) (most : length p ≤ 256) where
  payload : Payload p
  payload = record { bytes = all_bytes fits; some = some; most = most }

  back_in : (format : Format) → FrameReadsBack (framing_of format) format p
  unfolding flatten
  back_in format =
      let f : Framing = framing_of format in
      let alone : read format (layout f p) ≡ frame (length (layout f p)) p = rw append-nil at (layout_reads format p [] payload) in
      record {
        single = λ more. layout_reads format p more payload;
        calls = λ out c.
            clean_calls format (layout f p ∷ []) out (another (record { payload = p; reads = alone }) none) (rw append-nil c)
            ∙ ap (λ v. output (payload_in v ∷ []) 0) alone;
      }

  frame_back : (f : Framing) (format : Format) → framing_of format ≡ f → FrameReadsBack f format p
  frame_back f format e = subst (λ (f : Framing). FrameReadsBack f format p) e (back_in format)

-- The layout of each message is a list of bytes.
simple_fits : (m : Simple) (dat : List ℕ) → SimpleFits m → Bytes dat → Fits (simple_layout m dat)
simple_fits m dat fits h = byte fits.0 (byte fits.1 (rest dat h))

settings_fits : (command : ℕ) (list : List ℕ) → command < 256 → Bytes list → Fits (settings_layout command list)
settings_fits command list fits h = byte (lit< tt) (byte fits (rest list h))

request_fits : (m : Request) (dat : List ℕ) → RequestFits m → Bytes dat → Fits (request_layout m dat)
request_fits (SimpleRequest m) dat fits h = simple_fits m dat fits h
request_fits (ExtendedRequest m) dat fits h =
    address_fits m.address m.response_id fits.0 fits.1 then (option_fits m.options fits.2 then rest dat h)
request_fits SettingsRequest dat fits h = settings_fits 0xF2 dat (lit< tt) h

number_fits : (c : SetupCommand) → command_number c < 256
number_fits EnableAck = lit< tt
number_fits GetInformation = lit< tt
number_fits GetSettings = lit< tt
number_fits EraseSettings = lit< tt
number_fits SaveSettings = lit< tt
number_fits Reset = lit< tt

order_fits : (m : Order) → OrderFits m → Fits (order_layout m)
order_fits (change m) fits = byte fits.0 (byte (lit< tt) (byte (lit< tt) (word m.signals (word m.mask (zeros 8)))))
order_fits (setup c) fits = byte (lit< tt) (byte (number_fits c) end)

delivery_fits : (m : Delivery) (dat : List ℕ) → DeliveryFits m → Bytes dat → Fits (delivery_layout m dat)
delivery_fits (SimpleDelivery m) dat fits h = simple_fits m dat fits h
delivery_fits (ExtendedDelivery m) dat fits h =
    byte fits.0 (byte (lit< tt) (byte fits.1 (long m.source (long m.destination (byte fits.4
    (word (length dat) (rest dat h)))))))
delivery_fits SettingsDelivery dat fits h = settings_fits 0xF3 dat (lit< tt) h

outcome_fits : (o : Outcome) → outcome_byte o < 256
outcome_fits Failure = lit< tt
outcome_fits Success = lit< tt

state_fits : (released : Bool) → state_byte released < 256
state_fits true = lit< tt
state_fits false = lit< tt

report_fits : (m : SetupReport) → ReportFits m → Fits (report_layout m)
report_fits Acknowledged fits = byte (lit< tt) (byte (lit< tt) (byte (lit< tt) end))
report_fits (IsInformation m) fits =
    byte (lit< tt) (byte (lit< tt) (long m.application (long m.version (byte fits.2
    (long m.serial (byte fits.4 (byte fits.5 end)))))))
report_fits SettingsFailed fits = byte (lit< tt) (byte (lit< tt) (byte (lit< tt) end))
report_fits (SilentMode released) fits = byte (lit< tt) (byte (lit< tt) (byte (lit< tt) (byte (state_fits released) end)))

notice_fits : (m : Notice) → NoticeFits m → Fits (notice_layout m)
notice_fits (IsResponse m) fits = byte (lit< tt) (byte (lit< tt) (byte fits (byte (outcome_fits m.outcome) end)))
notice_fits (Standard m) fits =
    byte fits.0 (byte (lit< tt) (byte fits.1 (byte (lit< tt) (byte fits.2 (long m.serial (byte fits.4
    (word m.time (byte fits.6 (word m.supply (byte fits.8 (byte fits.9 (byte fits.10 (byte fits.11
    (byte fits.12 (byte fits.13 (byte fits.14 (byte fits.15 end)))))))))))))))))
notice_fits (Remote m) fits =
    byte fits.0 (byte (lit< tt) (byte (lit< tt) (byte (lit< tt) (byte fits.1 (long m.serial (byte fits.3
    (word m.time (byte fits.5 (word m.signals (word m.mask (word m.interrupts (byte fits.9 end))))))))))))
notice_fits (Setup m) fits = report_fits m fits

-- It is not empty.
request_some : (m : Request) (dat : List ℕ) → 1 ≤ length (request_layout m dat)
request_some (SimpleRequest m) dat = omega arith
request_some (ExtendedRequest m) dat = address_some m.address m.response_id (option_bytes m.options ++ dat)
  where
    address_some : (a : Address) (id : ℕ) (s : List ℕ) → 1 ≤ length (address_bytes a id ++ s)
    address_some (Plain a) id s = omega arith
    address_some (ExtendedAddress w) id s = omega arith
request_some SettingsRequest dat = omega arith

order_some : (m : Order) → 1 ≤ length (order_layout m)
order_some (change m) = lit≤ tt
order_some (setup c) = lit≤ tt

delivery_some : (m : Delivery) (dat : List ℕ) → 1 ≤ length (delivery_layout m dat)
delivery_some (SimpleDelivery m) dat = omega arith
delivery_some (ExtendedDelivery m) dat = omega arith
delivery_some SettingsDelivery dat = omega arith

report_some : (m : SetupReport) → 1 ≤ length (report_layout m)
report_some Acknowledged = lit≤ tt
report_some (IsInformation m) = lit≤ tt
report_some SettingsFailed = lit≤ tt
report_some (SilentMode released) = lit≤ tt

notice_some : (m : Notice) → 1 ≤ length (notice_layout m)
notice_some (IsResponse m) = lit≤ tt
notice_some (Standard m) = lit≤ tt
notice_some (Remote m) = lit≤ tt
notice_some (Setup m) = report_some m

pub layout_some : (k : Kind) (m : (family k).Message) → 1 ≤ length ((family k).layout_of m)
layout_some requests m = request_some m.0 m.1
layout_some orders m = order_some m
layout_some deliveries m = delivery_some m.0 m.1
layout_some notices m = notice_some m

-- And so its frame reads back.
layout_fits : (k : Kind) (m : (family k).Message) → (family k).Representable m → Fits ((family k).layout_of m)
layout_fits requests m fits = request_fits m.0 m.1 fits.0 fits.1
layout_fits orders m fits = order_fits m fits
layout_fits deliveries m fits = delivery_fits m.0 m.1 fits.0 fits.1
layout_fits notices m fits = notice_fits m fits

pub layout_frame : (k : Kind) (m : (family k).Message) → (family k).Representable m → length ((family k).layout_of m) ≤ 256 →
    (f : Framing) (format : Format) → framing_of format ≡ f → FrameReadsBack f format ((family k).layout_of m)
layout_frame k m fits = frame_back ((family k).layout_of m) (layout_fits k m fits) (layout_some k m)
