-- What is claimed of messages: that they read back as they were written. Document 00, demand 2, and document 01, "Payloads" and "Refusal numbers"; document
-- 02, CR 1, for those that set up the module, and CR 2 and 9: in every format of the framing in which they are written. proofs/Theorems.antt proves each
-- claim.
use Rattle.std.specs.Prelude.{ℕ, ◌≤◌, ◌<◌, ◌≡◌, length, take, drop, Option, Some, None, Ok}
use mathlib.Core.List.{List, [], ◌∷◌, ◌++◌, Permᴰ as Permutation}
use Rattle.frame.specs.Checks.{frame}
use Rattle.frame.specs.Framing.{read, layout, framing_of, in_front}
use Rattle.frame.specs.Rule.{Output, output}
use Rattle.reader.specs.Reader.{new_reader}
use Rattle.frame.specs.Elements.{Bytes}
use Rattle.reader.specs.Calls.{Calls, offering}
use Rattle.frame.specs.declared.framing.Framing.{Framing}
use Rattle.frame.specs.declared.framing.Format.{Format}
use Rattle.message.specs.Meaning.{Meaning, carrying, bare}
use Rattle.message.specs.Options.{option_groups, option_string}
use Rattle.message.specs.ToModule.{Order, change, setup, read_to_module, request_layout, request_refusal, address_bytes, order_layout, order_refusal}
use Rattle.message.specs.FromModule.{read_from_module, delivery_layout, delivery_refusal, notice_layout, notice_refusal}
use Rattle.message.specs.Write.{Writes}
use Rattle.message.specs.declared.options.Options.{Options}
use Rattle.message.specs.declared.to_module.Address.{Address}
use Rattle.message.specs.declared.to_module.Address.TheVariants.{Plain, Extended as ExtendedAddress}
use Rattle.message.specs.declared.setup.SetupReport.{SetupReport}
use Rattle.message.specs.declared.setup.SetupReport.TheVariants.{Acknowledged, Information as IsInformation, SettingsFailed, SilentMode}
use Rattle.message.specs.declared.simple.Simple.{Simple}
use Rattle.message.specs.declared.to_module.Transmission.{Transmission}
use Rattle.message.specs.declared.to_module.Request.{Request}
use Rattle.message.specs.declared.to_module.Request.TheVariants.{Simple as SimpleRequest, Extended as ExtendedRequest, Settings as SettingsRequest}
use Rattle.message.specs.declared.from_module.Delivery.{Delivery}
use Rattle.message.specs.declared.from_module.Delivery.TheVariants.{Simple as SimpleDelivery, Extended as ExtendedDelivery, Settings as SettingsDelivery}
use Rattle.message.specs.declared.from_module.Notice.{Notice}
use Rattle.message.specs.declared.from_module.Notice.TheVariants.{Response as IsResponse, Standard, Remote, Setup}

-- The fields of a message fit the types that the code has for them.
abbrev pub IsByte : ℕ → Type 0
IsByte b = b < 256

abbrev pub IsWord : ℕ → Type 0
IsWord v = v < 65536

abbrev pub IsLong : ℕ → Type 0
IsLong v = v < 4294967296

abbrev pub ByteFits : Option ℕ → Type 0
ByteFits None = Unit {0}
ByteFits (Some b) = IsByte b

abbrev pub WordFits : Option ℕ → Type 0
WordFits None = Unit {0}
WordFits (Some v) = IsWord v

abbrev pub OptionsFit : Options → Type 0
OptionsFit o = ByteFits o.retries × WordFits o.lower_delay × WordFits o.upper_delay × WordFits o.interval

abbrev pub AddressFits : Address → Type 0
AddressFits (Plain a) = IsByte a
AddressFits (ExtendedAddress w) = IsLong w

abbrev pub SimpleFits : Simple → Type 0
SimpleFits m = IsByte m.address × IsByte m.command

abbrev pub RequestFits : Request → Type 0
RequestFits (SimpleRequest m) = SimpleFits m
RequestFits (ExtendedRequest m) = AddressFits m.address × IsByte m.response_id × OptionsFit m.options
RequestFits SettingsRequest = Unit {0}

abbrev pub OrderFits : Order → Type 0
OrderFits (change m) = IsByte m.address × IsWord m.signals × IsWord m.mask
OrderFits (setup c) = Unit {0}

abbrev pub DeliveryFits : Delivery → Type 0
DeliveryFits (SimpleDelivery m) = SimpleFits m
DeliveryFits (ExtendedDelivery m) =
    IsByte m.sender × IsByte m.response_id × IsLong m.source × IsLong m.destination × IsByte m.lqi
DeliveryFits SettingsDelivery = Unit {0}

abbrev pub ReportFits : SetupReport → Type 0
ReportFits Acknowledged = Unit {0}
ReportFits (IsInformation m) =
    IsLong m.application × IsLong m.version × IsByte m.device × IsLong m.serial × IsByte m.silent × IsByte m.network
ReportFits SettingsFailed = Unit {0}
ReportFits (SilentMode released) = Unit {0}

abbrev pub NoticeFits : Notice → Type 0
NoticeFits (IsResponse m) = IsByte m.id
NoticeFits (Standard m) =
    IsByte m.sender × IsByte m.identifier × IsByte m.lqi × IsLong m.serial × IsByte m.destination × IsWord m.time
    × IsByte m.relays × IsWord m.supply × IsByte m.unused × IsByte m.di × IsByte m.di_changed × IsByte m.ad1
    × IsByte m.ad2 × IsByte m.ad3 × IsByte m.ad4 × IsByte m.correction
NoticeFits (Remote m) =
    IsByte m.sender × IsByte m.lqi × IsLong m.serial × IsByte m.destination × IsWord m.time × IsByte m.relays
    × IsWord m.signals × IsWord m.mask × IsWord m.interrupts × IsByte m.unused
NoticeFits (Setup m) = ReportFits m

-- Reading the payload p gives the message m with the data dat.
pub record ReadsAs {A B : Type 0} (meaning : List ℕ → Meaning A B) (p : List ℕ) (m : A) (dat : List ℕ) : Type 0 where
  pub start : ℕ
  pub is : meaning p ≡ carrying m start
  pub part : drop start p ≡ dat

-- An extended message whose options stand in the order of the groups gs.
abbrev pub ordered_layout : Transmission → List (List ℕ) → List ℕ → List ℕ
ordered_layout m gs dat = address_bytes m.address m.response_id ++ (option_string gs ++ dat)

-- The payload p is the layout of an extended message but for the order of its options: the groups of bytes that the layout has for them stand
-- in some order.
pub record Reordered (p : List ℕ) (m : Transmission) (dat : List ℕ) : Type 0 where
  pub groups : List (List ℕ)
  pub order : Permutation groups (option_groups m.options)
  pub bytes : p ≡ ordered_layout m groups dat

-- The payload p is a layout of the message with the data.
abbrev pub EncodesRequest : List ℕ → Request → List ℕ → Type 0
EncodesRequest p (SimpleRequest m) dat = p ≡ request_layout (SimpleRequest m) dat
EncodesRequest p (ExtendedRequest m) dat = Reordered p m dat
EncodesRequest p SettingsRequest dat = p ≡ request_layout SettingsRequest dat

-- What the claims say of a family of messages: which payloads are read as a message, its layout, why it is not written, 0 for no reason, which messages fit
-- the code's types, and which payloads are a layout of a message: its layout alone, but for the order of options.
pub record Family : Type 1 where
  pub Message : Type 0
  pub ReadAs : List ℕ → Message → Type 0
  pub layout_of : Message → List ℕ
  pub refusal_of : Message → ℕ
  pub Representable : Message → Type 0
  pub Encodes : List ℕ → Message → Type 0

-- The families: messages to the module, each with its data or without data, and messages from the module.
pub data Kind : Type 0 where
  requests orders deliveries notices : Kind

abbrev pub family : Kind → Family
family requests =
    record {
      Message = Request × List ℕ;
      ReadAs = λ p m. ReadsAs read_to_module p m.0 m.1;
      layout_of = λ m. request_layout m.0 m.1;
      refusal_of = λ m. request_refusal m.0 m.1;
      Representable = λ m. RequestFits m.0 × Bytes m.1;
      Encodes = λ p m. EncodesRequest p m.0 m.1;
    }
family orders =
    record {
      Message = Order;
      ReadAs = λ p m. read_to_module p ≡ bare m;
      layout_of = order_layout;
      refusal_of = order_refusal;
      Representable = OrderFits;
      Encodes = λ p m. p ≡ order_layout m;
    }
family deliveries =
    record {
      Message = Delivery × List ℕ;
      ReadAs = λ p m. ReadsAs read_from_module p m.0 m.1;
      layout_of = λ m. delivery_layout m.0 m.1;
      refusal_of = λ m. delivery_refusal m.0 m.1;
      Representable = λ m. DeliveryFits m.0 × Bytes m.1;
      Encodes = λ p m. p ≡ delivery_layout m.0 m.1;
    }
family notices =
    record {
      Message = Notice;
      ReadAs = λ p m. read_from_module p ≡ bare m;
      layout_of = notice_layout;
      refusal_of = notice_refusal;
      Representable = NoticeFits;
      Encodes = λ p m. p ≡ notice_layout m;
    }

-- The frame with the payload p in this framing reads back as p in a format: by a single read, whatever follows, and as the one frame that any list of
-- calls over it hands out.
pub record FrameReadsBack (f : Framing) (format : Format) (p : List ℕ) : Type 0 where
  pub single : (more : List ℕ) → read format (layout f p ++ more) ≡ frame (length (layout f p)) p
  pub calls : (out : Output (List ℕ)) → Calls offering (new_reader format) (layout f p) out → out ≡ output (p ∷ []) 0

-- What a write left: the frame with the payload p in the front of the buffer; it reads back under every format of its framing.
pub record FrameStands (f : Framing) (p : List ℕ) (len : ℕ) (after : List ℕ) : Type 0 where
  pub count : len ≡ length (layout f p)
  pub front : take len after ≡ layout f p
  pub back : (format : Format) → framing_of format ≡ f → FrameReadsBack f format p

-- Every message that is written reads back: where the promise of its write holds and the answer is a length, the message's frame stands in
-- the buffer, and the frame's payload is read, in the message's own direction, as the same message with the same data.
abbrev pub RoundTrip : Type 0
RoundTrip =
    (k : Kind) (f : Framing) (m : (family k).Message) (buf : List ℕ) (len : ℕ) (after : List ℕ) → (family k).Representable m →
    Writes f ((family k).refusal_of m) ((family k).layout_of m) buf (Ok len) after →
    FrameStands f ((family k).layout_of m) len after × (family k).ReadAs ((family k).layout_of m) m

-- Given room, a message of at most 256 bytes that has no refusal of its own is written, so the claim above is not about nothing.
abbrev pub CanWrite : Type 0
CanWrite =
    (k : Kind) (f : Framing) (m : (family k).Message) (buf : List ℕ) →
    let p : List ℕ = (family k).layout_of m in
    (family k).refusal_of m ≡ 0 → length p ≤ 256 → length (layout f p) ≤ length buf →
    Writes f ((family k).refusal_of m) p buf (Ok (length (layout f p))) (in_front (layout f p) buf)

-- What is read as a message has 2 to 256 bytes.
abbrev pub MessageIsSized : Type 0
MessageIsSized = (k : Kind) (p : List ℕ) (m : (family k).Message) → (family k).ReadAs p m → (2 ≤ length p) × (length p ≤ 256)

-- The data begin inside the payload or at its end.
pub record DataIsInside : Type 0 where
  pub request : (p : List ℕ) (m : Request) (start : ℕ) → read_to_module p ≡ carrying m start → start ≤ length p
  pub delivery : (p : List ℕ) (m : Delivery) (start : ℕ) → read_from_module p ≡ carrying m start → start ≤ length p

-- Whatever reading gives as a message can be written: it is not refused, and with its data it is short enough. So writing refuses no more than it must: no
-- message that its layout reads back as.
abbrev pub WhatIsReadIsWritten : Type 0
WhatIsReadIsWritten =
    (k : Kind) (p : List ℕ) (m : (family k).Message) → (family k).ReadAs p m →
    ((family k).refusal_of m ≡ 0) × (length ((family k).layout_of m) ≤ 256)

-- Reading is exact: what is read as a message is a layout of it with its data, byte for byte.
abbrev pub ReadingIsExact : Type 0
ReadingIsExact = (k : Kind) (p : List ℕ) (m : (family k).Message) → Bytes p → (family k).ReadAs p m → (family k).Encodes p m
