-- Every message that is written reads back.
-- Assumes nothing.
use Prim.Native.Nat.{ℕ, suc, ◌+◌, ◌-◌, ◌≤◌}
use mathlib.Core.Path.{◌≡◌, refl, sym, ap, ◌∙◌}
use mathlib.Core.List.{List, [], ◌∷◌, ◌++◌, append_assoc}
use mathlib.Core.Bool.{Bool, true, false, cond, ◌&&◌, true≢false}
use native.Mathlib.Omega.{arith}
use lib.Dec.{leb, ltb, eqb, lit≤}
use lib.ListN.{length, drop, length-append}
use lib.Seq.{drop_at}
use borrow.Author.Tests.{le-leb, eq-eqb, ne_eqb}
use Rattle.settings.specs.List.{is_list}
use Rattle.settings.proofs.Theorems.{failure_is_no_list}
use Rattle.message.specs.Number.{byte_at, word_at}
use Rattle.message.specs.Address.{is_plain}
use Rattle.message.specs.Meaning.{carrying, bare}
use Rattle.message.specs.Simple.{simple_layout, simple_refusal}
use Rattle.message.specs.ToModule.{Order, change, setup, read_to_module, to_itself, to_address, to_plain_address, to_extended_address, request_at}
use Rattle.message.specs.ToModule.{output_change_at, request_layout, request_refusal, change_layout, change_refusal, order_layout, order_refusal}
use Rattle.message.specs.ToModule.{address_bytes, address_allowed, transmission_refusal}
use Rattle.message.specs.Setup.{command_of, setup_layout, settings_layout, settings_refusal, report_layout}
use Rattle.message.specs.Options.{no_options, option_bytes, retry_allowed}
use Rattle.message.specs.Status.{standard_layout, remote_layout}
use Rattle.message.specs.FromModule.{read_from_module, sender_meaning, status_meaning, standard_meaning, remote_meaning, reception_meaning}
use Rattle.message.specs.FromModule.{from_itself, response_meaning, ack_meaning, information_meaning, settings_meaning, control_meaning}
use Rattle.message.specs.FromModule.{reception_layout, delivery_layout, notice_layout, reception_refusal, delivery_refusal, notice_refusal}
use Rattle.message.specs.Claims.{AddressFits, RequestFits, OrderFits, DeliveryFits, ReportFits, NoticeFits, ReadsAs, RoundTrip, CanWrite}
use Rattle.message.specs.Claims.{Kind, requests, orders, deliveries, notices, family}
use Rattle.message.specs.declared.options.Options.{Options}
use Rattle.message.specs.declared.setup.SetupCommand.{SetupCommand}
use Rattle.message.specs.declared.setup.SetupCommand.TheVariants.{EnableAck, GetInformation, GetSettings, EraseSettings, SaveSettings, Reset}
use Rattle.message.specs.declared.setup.SetupReport.{SetupReport}
use Rattle.message.specs.declared.setup.SetupReport.TheVariants.{Acknowledged, Information as IsInformation, SettingsFailed, SilentMode}
use Rattle.message.specs.declared.to_module.Address.{Address}
use Rattle.message.specs.declared.to_module.Address.TheVariants.{Plain, Extended as ExtendedAddress}
use Rattle.message.specs.declared.to_module.Transmission.{Transmission}
use Rattle.message.specs.declared.to_module.Request.{Request}
use Rattle.message.specs.declared.simple.Simple.{Simple}
use Rattle.message.specs.declared.to_module.OutputChange.{OutputChange}
use Rattle.message.specs.declared.to_module.Request.TheVariants.{Simple as SimpleRequest, Extended as ExtendedRequest, Settings as SettingsRequest}
use Rattle.message.specs.declared.from_module.Reception.{Reception}
use Rattle.message.specs.declared.from_module.Delivery.{Delivery}
use Rattle.message.specs.declared.from_module.Delivery.TheVariants.{Simple as SimpleDelivery, Extended as ExtendedDelivery, Settings as SettingsDelivery}
use Rattle.message.specs.declared.from_module.Outcome.{Outcome}
use Rattle.message.specs.declared.from_module.Outcome.TheVariants.{Failure, Success}
use Rattle.message.specs.declared.from_module.Notice.{Notice}
use Rattle.message.specs.declared.from_module.Notice.TheVariants.{Response as IsResponse, Standard, Remote, Setup}
use Rattle.message.proofs.Numbers.{word_back, long_back}
use Rattle.message.proofs.OptionRoundTrip.{Ends, options_back}
use Rattle.message.proofs.Frames.{layout_some, layout_frame}
use Rattle.message.proofs.Written.{wrote, wrote_back}

-- A refusal of 0 is none.
not_refused : (t : Bool) (x n : ℕ) → cond t x (suc n) ≡ 0 → (t ≡ true) × (x ≡ 0)
not_refused true x n e = (refl, e)
not_refused false x n e = absurd (omega arith)

-- A plain address is none of the others.
plain_not : (a b : ℕ) → is_plain a ≡ true → is_plain b ≡ false → eqb a b ≡ false
plain_not a b plain other = ne_eqb a b (λ e. true≢false (sym plain ∙ ap is_plain e ∙ other))

-- The length of a payload is in range.
in_range : (n : ℕ) → 2 ≤ n → n ≤ 256 → leb 2 n && leb n 256 ≡ true
in_range n least most = rw (le-leb 2 n least, le-leb n 256 most)

-- A payload with a plain address is read by its command.
module _ (p : List ℕ) (least : 2 ≤ length p) (most : length p ≤ 256) (plain : is_plain (byte_at p 0) ≡ true) where
  to_plain_address_lem : read_to_module p ≡ to_plain_address p
  unfolding read_to_module to_address is_plain
  to_plain_address_lem =
      rw (in_range (length p) least most, plain_not (byte_at p 0) 0xDB plain refl, plain_not (byte_at p 0) 0x80 plain refl, plain)

  from_sender : read_from_module p ≡ sender_meaning p
  unfolding read_from_module is_plain
  from_sender = rw (in_range (length p) least most, plain_not (byte_at p 0) 0xDB plain refl, plain)

-- The simple message, in either direction.
module _ (m : Simple) (dat : List ℕ) (e : simple_refusal m ≡ 0) (most : length (simple_layout m dat) ≤ 256) where
  simple_request : ReadsAs read_to_module (simple_layout m dat) (SimpleRequest m) dat
  unfolding to_plain_address
  simple_request =
      let plain = not_refused (is_plain m.address) (cond (ltb m.command 0x80) 0 9) 7 e in
      let small = not_refused (ltb m.command 0x80) 0 8 plain.1 in
      record {
        start = 2;
        is = to_plain_address_lem (simple_layout m dat) (omega arith) most plain.0 ∙ rw small.0;
        part = refl;
      }

  simple_delivery : ReadsAs read_from_module (simple_layout m dat) (SimpleDelivery m) dat
  unfolding sender_meaning
  simple_delivery =
      let plain = not_refused (is_plain m.address) (cond (ltb m.command 0x80) 0 9) 7 e in
      let small = not_refused (ltb m.command 0x80) 0 8 plain.1 in
      record {
        start = 2;
        is = from_sender (simple_layout m dat) (omega arith) most plain.0 ∙ rw small.0;
        part = refl;
      }

-- The output change.
change_back : (m : OutputChange) → OrderFits (change m) → change_refusal m ≡ 0 → read_to_module (change_layout m) ≡ bare (change m)
unfolding to_plain_address output_change_at
change_back m fits e =
    to_plain_address_lem (change_layout m) (lit≤ tt) (lit≤ tt) (not_refused (is_plain m.address) 0 7 e).0
    ∙ (λ i. bare (change (record { address = m.address; signals = word_back m.signals fits.1 i; mask = word_back m.mask fits.2 i })))

-- The commands to the module itself.
setup_back : (c : SetupCommand) → read_to_module (setup_layout c) ≡ bare (setup c)
unfolding read_to_module to_itself command_of
setup_back EnableAck = refl
setup_back GetInformation = refl
setup_back GetSettings = refl
setup_back EraseSettings = refl
setup_back SaveSettings = refl
setup_back Reset = refl

-- The extended message from the module.
reception_back : (m : Reception) (dat : List ℕ) → DeliveryFits (ExtendedDelivery m) → reception_refusal m ≡ 0 →
    length (reception_layout m dat) ≤ 256 → ReadsAs read_from_module (reception_layout m dat) (ExtendedDelivery m) dat
unfolding sender_meaning reception_meaning
reception_back m dat fits e most =
    let p : List ℕ = reception_layout m dat in
    let count : word_at p 12 ≡ length p - 14 = word_back (length dat) (omega arith) ∙ omega arith in
    record {
      start = 14;
      is =
          from_sender p (omega arith) most (not_refused (is_plain m.sender) 0 7 e).0
          ∙ rw (le-leb 14 (length p) (omega arith), eq-eqb (word_at p 12) (length p - 14) count)
          (λ i.
          carrying
          (ExtendedDelivery
          (record {
            sender = m.sender;
            response_id = m.response_id;
            source = long_back m.source fits.2 i;
            destination = long_back m.destination fits.3 i;
            lqi = m.lqi;
          }))
          14);
      part = refl;
    }

-- The messages from the module without data.
response_back : (id : ℕ) (o : Outcome) →
    let m : Notice = IsResponse (record { id = id; outcome = o }) in
    read_from_module (notice_layout m) ≡ bare m
unfolding read_from_module from_itself response_meaning
response_back id Failure = refl
response_back id Success = refl

-- What the module says of itself.
report_back : (m : SetupReport) → ReportFits m → read_from_module (report_layout m) ≡ bare (Setup m)
unfolding read_from_module from_itself ack_meaning information_meaning settings_meaning control_meaning
report_back Acknowledged fits = refl
report_back (IsInformation m) fits =
    λ i.
    bare
    (Setup
    (IsInformation
    (record {
      application = long_back m.application fits.0 i;
      version = long_back m.version fits.1 i;
      device = m.device;
      serial = long_back m.serial fits.3 i;
      silent = m.silent;
      network = m.network;
    })))
report_back SettingsFailed fits = refl
report_back (SilentMode true) fits = refl
report_back (SilentMode false) fits = refl

-- A list is not the failure, which is FF alone.
not_failure : (list : List ℕ) → is_list list ≡ true → eqb (length (settings_layout 0xF3 list)) 3 && eqb (byte_at (settings_layout 0xF3 list) 2) 0xFF ≡ false
not_failure [] h = refl
not_failure (b ∷ []) h =
    ne_eqb b 0xFF (λ e. true≢false (sym h ∙ ap (λ (x : ℕ). is_list (x ∷ [])) e ∙ failure_is_no_list))
not_failure (a ∷ b ∷ s) h = rw (ne_eqb (length (settings_layout 0xF3 (a ∷ b ∷ s))) 3 (λ e. omega arith))

notice_back : (m : Notice) → NoticeFits m → notice_refusal m ≡ 0 → read_from_module (notice_layout m) ≡ bare m
unfolding sender_meaning status_meaning standard_meaning remote_meaning
notice_back (IsResponse m) fits e = response_back m.id m.outcome
notice_back (Standard m) fits e =
    from_sender (standard_layout m) (lit≤ tt) (lit≤ tt) (not_refused (is_plain m.sender) 0 7 e).0
    ∙ (λ i.
    bare
    (Standard
    (record {
      sender = m.sender;
      identifier = m.identifier;
      lqi = m.lqi;
      serial = long_back m.serial fits.3 i;
      destination = m.destination;
      time = word_back m.time fits.5 i;
      relays = m.relays;
      supply = word_back m.supply fits.7 i;
      unused = m.unused;
      di = m.di;
      di_changed = m.di_changed;
      ad1 = m.ad1;
      ad2 = m.ad2;
      ad3 = m.ad3;
      ad4 = m.ad4;
      correction = m.correction;
    })))
notice_back (Remote m) fits e =
    from_sender (remote_layout m) (lit≤ tt) (lit≤ tt) (not_refused (is_plain m.sender) 0 7 e).0
    ∙ (λ i.
    bare
    (Remote
    (record {
      sender = m.sender;
      lqi = m.lqi;
      serial = long_back m.serial fits.2 i;
      destination = m.destination;
      time = word_back m.time fits.4 i;
      relays = m.relays;
      signals = word_back m.signals fits.6 i;
      mask = word_back m.mask fits.7 i;
      interrupts = word_back m.interrupts fits.8 i;
      unused = m.unused;
    })))
notice_back (Setup m) fits e = report_back m fits

-- The extended message to the module, with a string that is read as its options.
module _ (id : ℕ) (o : Options) (s dat : List ℕ) (back : Ends no_options s o) where
  abbrev extended : Address → Transmission
  extended a = record { address = a; response_id = id; options = o }

  abbrev written : Address → List ℕ
  written a = address_bytes a id ++ (s ++ dat)

  extended_is : (a : Address) → AddressFits a → address_allowed a ≡ true → length (written a) ≤ 256 →
      read_to_module (written a) ≡ carrying (ExtendedRequest (extended a)) (length (address_bytes a id) + length s)
  unfolding read_to_module to_address to_plain_address to_extended_address request_at
  extended_is (Plain a) h plain most =
      to_plain_address_lem (written (Plain a)) (omega arith) most plain
      ∙ rw (le-leb 3 (length (written (Plain a))) (omega arith), back.reads 3 dat)
  extended_is (ExtendedAddress w) h allowed most =
      rw (
        in_range (length (written (ExtendedAddress w))) (omega arith) most,
        le-leb 7 (length (written (ExtendedAddress w))) (omega arith),
        long_back w h,
        allowed,
        back.reads 7 dat,
      )

  extended_back : (a : Address) → AddressFits a → address_allowed a ≡ true → length (written a) ≤ 256 →
      ReadsAs read_to_module (written a) (ExtendedRequest (extended a)) dat
  extended_back a h known most =
      let start : ℕ = length (address_bytes a id) + length s in
      record {
        start = start;
        is = extended_is a h known most;
        part =
            ap (drop start) (sym (append_assoc (address_bytes a id) s dat))
            ∙ drop_at (address_bytes a id ++ s) dat start (length-append (address_bytes a id) s);
      }

-- An extended message that is not refused reads back, with any string that is read as its options where their retry byte is allowed.
pub transmission_back : (m : Transmission) (s dat : List ℕ) → RequestFits (ExtendedRequest m) → transmission_refusal m ≡ 0 →
    (retry_allowed m.options.retries ≡ true → Ends no_options s m.options) →
    length (address_bytes m.address m.response_id ++ (s ++ dat)) ≤ 256 →
    ReadsAs read_to_module (address_bytes m.address m.response_id ++ (s ++ dat)) (ExtendedRequest m) dat
transmission_back m s dat fits e back most =
    let known = not_refused (address_allowed m.address) (cond (retry_allowed m.options.retries) 0 10) 7 e in
    let allowed = not_refused (retry_allowed m.options.retries) 0 9 known.1 in
    extended_back m.response_id m.options s dat (back allowed.0) m.address fits.0 known.0 most

-- A settings list, in either direction: a list is not the failure.
module _ (list : List ℕ) (e : settings_refusal list ≡ 0) (most : length list ≤ 254) where
  is_list_lem : is_list list ≡ true
  is_list_lem = (not_refused (is_list list) 0 16 e).0

  settings_request : ReadsAs read_to_module (settings_layout 0xF2 list) SettingsRequest list
  unfolding read_to_module to_itself
  settings_request =
      record {
        start = 2;
        is = rw (in_range (length (settings_layout 0xF2 list)) (omega arith) (omega arith), is_list_lem);
        part = refl;
      }

  settings_delivery : ReadsAs read_from_module (settings_layout 0xF3 list) SettingsDelivery list
  unfolding read_from_module from_itself settings_meaning
  settings_delivery =
      record {
        start = 2;
        is = rw (in_range (length (settings_layout 0xF3 list)) (omega arith) (omega arith), not_failure list is_list_lem, is_list_lem);
        part = refl;
      }

-- Every message reads back.
request_back : (m : Request) (dat : List ℕ) → RequestFits m → request_refusal m dat ≡ 0 → length (request_layout m dat) ≤ 256 →
    ReadsAs read_to_module (request_layout m dat) m dat
request_back (SimpleRequest m) dat fits e most = simple_request m dat e most
request_back (ExtendedRequest m) dat fits e most =
    transmission_back m (option_bytes m.options) dat fits e (options_back m.options fits.2) most
request_back SettingsRequest dat fits e most = settings_request dat e (omega arith)

order_back : (m : Order) → OrderFits m → order_refusal m ≡ 0 → read_to_module (order_layout m) ≡ bare m
order_back (change m) fits e = change_back m fits e
order_back (setup c) fits e = setup_back c

delivery_back : (m : Delivery) (dat : List ℕ) → DeliveryFits m → delivery_refusal m dat ≡ 0 → length (delivery_layout m dat) ≤ 256 →
    ReadsAs read_from_module (delivery_layout m dat) m dat
delivery_back (SimpleDelivery m) dat fits e most = simple_delivery m dat e most
delivery_back (ExtendedDelivery m) dat fits e most = reception_back m dat fits e most
delivery_back SettingsDelivery dat fits e most = settings_delivery dat e (omega arith)

layout_back : (k : Kind) (m : (family k).Message) → (family k).Representable m → (family k).refusal_of m ≡ 0 → length ((family k).layout_of m) ≤ 256 →
    (family k).ReadAs ((family k).layout_of m) m
layout_back requests m fits e most = request_back m.0 m.1 fits.0 e most
layout_back orders m fits e most = order_back m fits e
layout_back deliveries m fits e most = delivery_back m.0 m.1 fits.0 e most
layout_back notices m fits e most = notice_back m fits e

pub round_trip : RoundTrip
round_trip k f m buf len after fits writes =
    let w = wrote f ((family k).refusal_of m) ((family k).layout_of m) buf len after writes in
    (record { count = w.count; front = w.front; back = layout_frame k m fits w.most f }, layout_back k m fits w.allowed w.most)

pub can_write : CanWrite
can_write k f m buf none most room = wrote_back f ((family k).refusal_of m) ((family k).layout_of m) buf none (layout_some k m) most room
