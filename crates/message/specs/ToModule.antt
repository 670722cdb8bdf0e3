-- Messages to the module. Document 01, "Payloads" and "Refusal numbers"; document 02, CR 1.
use Rattle.std.specs.Prelude.{ℕ, List, [], ◌∷◌, ◌++◌, Bool, cond, ◌&&◌, leb, ltb, eqb, length, drop, replicate, Option, Some, None, Result, Ok, Err}
use Rattle.message.specs.Number.{byte_at, word_at, long_at, bytes2, bytes4}
use Rattle.message.specs.Address.{is_plain, is_extended, plain_refusal}
use Rattle.message.specs.Meaning.{Meaning, refused, carrying, bare, by_address, by_plain}
use Rattle.message.specs.Options.{Opted, bad, opted, option, options_from, no_options, option_bytes, retry_allowed}
use Rattle.message.specs.Refusal.{number_of}
use Rattle.message.specs.Setup.{command_of, setup_layout, settings_layout, list_meaning, settings_refusal}
use Rattle.message.specs.Simple.{simple_layout, simple_refusal}
use Rattle.message.specs.declared.refusal.Refusal.{Refusal}
use Rattle.message.specs.declared.setup.SetupCommand.{SetupCommand}
use Rattle.message.specs.declared.to_module.Address.{Address}
use Rattle.message.specs.declared.to_module.Address.TheVariants.{Plain, Extended as ExtendedAddress}
use Rattle.message.specs.declared.to_module.Transmission.{Transmission}
use Rattle.message.specs.declared.to_module.Request.{Request}
use Rattle.message.specs.declared.to_module.Request.TheVariants.{Simple as SimpleRequest, Extended as ExtendedRequest, Settings}
use Rattle.message.specs.declared.to_module.OutputChange.{OutputChange}
use Rattle.message.specs.declared.to_module.ToModule.{ToModule}
use Rattle.message.specs.declared.to_module.ToModule.TheVariants.{Request as IsRequest, OutputChange as IsOutputChange, Setup as IsSetup}

-- The bytes of an extended message before its options: address, A0, response ID; 0x80 in place of the address and four address bytes.
abbrev pub address_bytes : Address → ℕ → List ℕ
address_bytes (Plain a) id = a ∷ 0xA0 ∷ id ∷ []
address_bytes (ExtendedAddress w) id = 0x80 ∷ 0xA0 ∷ id ∷ bytes4 w

-- Extended: those, the options, the data.
abbrev pub transmission_layout : Transmission → List ℕ → List ℕ
transmission_layout m dat = address_bytes m.address m.response_id ++ (option_bytes m.options ++ dat)

-- The layout of a message with its data.
abbrev pub request_layout : Request → List ℕ → List ℕ
request_layout (SimpleRequest m) dat = simple_layout m dat
request_layout (ExtendedRequest m) dat = transmission_layout m dat
request_layout Settings dat = settings_layout 0xF2 dat

-- Output change (003), 15 bytes: address, 80, 01, signals (2), mask (2), four zero words.
abbrev pub change_layout : OutputChange → List ℕ
change_layout m = m.address ∷ 0x80 ∷ 0x01 ∷ (bytes2 m.signals ++ (bytes2 m.mask ++ replicate 8 0))

-- The messages without data.
pub data Order : Type 0 where
  change : OutputChange → Order
  setup : SetupCommand → Order

abbrev pub order_layout : Order → List ℕ
order_layout (change m) = change_layout m
order_layout (setup c) = setup_layout c

-- What an option string makes of an extended message: the data begin behind its FF.
abbrev pub request_as : Opted → List ℕ → Address → Meaning Request Order
request_as bad p address = refused 10
request_as (opted o end) p address =
    carrying (ExtendedRequest (record { address = address; response_id = byte_at p 2; options = o })) end

-- The option string begins at index `at`.
unfoldable pub request_at : List ℕ → Address → ℕ → Meaning Request Order
request_at p address at = request_as (options_from option no_options at (drop at p)) p address

-- Byte 0 is 0x80, which allows no other command than A0 (9). Under 7 bytes is 7; then the extended address (8).
unfoldable pub to_extended_address : List ℕ → Meaning Request Order
to_extended_address p =
    cond (eqb (byte_at p 1) 0xA0)
    (cond (leb 7 (length p))
    (cond (is_extended (long_at p 3)) (request_at p (ExtendedAddress (long_at p 3)) 7) (refused 8))
    (refused 7))
    (refused 9)

-- The length (7), then the fixed field and the zero words (11).
unfoldable pub output_change_at : List ℕ → Meaning Request Order
output_change_at p =
    cond (eqb (length p) 15)
    (cond (eqb (byte_at p 2) 0x01 && (eqb (long_at p 7) 0 && eqb (long_at p 11) 0))
    (bare (change (record { address = byte_at p 0; signals = word_at p 3; mask = word_at p 5 })))
    (refused 11))
    (refused 7)

-- A plain address: a command below 0x80 is a simple message, 0x80 an output change, A0 an extended message of at least 3 bytes (7); any other
-- is 9.
unfoldable pub to_plain_address : List ℕ → Meaning Request Order
to_plain_address p =
    cond (ltb (byte_at p 1) 0x80)
    (carrying (SimpleRequest (record { address = byte_at p 0; command = byte_at p 1 })) 2)
    (cond (eqb (byte_at p 1) 0x80) (output_change_at p)
    (cond (eqb (byte_at p 1) 0xA0) (cond (leb 3 (length p)) (request_at p (Plain (byte_at p 0)) 3) (refused 7)) (refused 9)))

-- 80 in place of an address begins an extended address.
unfoldable pub to_address : List ℕ → Meaning Request Order
to_address p = cond (eqb (byte_at p 0) 0x80) (to_extended_address p) (by_plain to_plain_address p)

-- A command to the module itself with nothing after it: any more bytes are 7; an unknown one is 9.
abbrev pub command_as : Option SetupCommand → List ℕ → Meaning Request Order
command_as None p = refused 9
command_as (Some c) p = cond (eqb (length p) 2) (bare (setup c)) (refused 7)

-- The module itself: F2 with a settings list, or one of those commands.
unfoldable pub to_itself : List ℕ → Meaning Request Order
to_itself p = cond (eqb (byte_at p 1) 0xF2) (list_meaning Settings p) (command_as (command_of (byte_at p 1)) p)

-- Reading.
unfoldable pub read_to_module : List ℕ → Meaning Request Order
read_to_module p = by_address to_itself to_address p

-- The number and the message of each answer.
abbrev pub to_module_of : Result ToModule Refusal → Meaning Request Order
to_module_of (Ok (IsRequest m start)) = carrying m start
to_module_of (Ok (IsOutputChange m)) = bare (change m)
to_module_of (Ok (IsSetup c)) = bare (setup c)
to_module_of (Err r) = refused (number_of r)

-- The address is one of those allowed (8); 0x80 or DB in place of a plain address is not.
abbrev pub address_allowed : Address → Bool
address_allowed (Plain a) = is_plain a
address_allowed (ExtendedAddress w) = is_extended w

-- Why a message is not written: 8, 9, 10, 17; 0 where none of these applies, and 14 and 13 follow (Write.antt).
abbrev pub transmission_refusal : Transmission → ℕ
transmission_refusal m = cond (address_allowed m.address) (cond (retry_allowed m.options.retries) 0 10) 8

abbrev pub request_refusal : Request → List ℕ → ℕ
request_refusal (SimpleRequest m) dat = simple_refusal m
request_refusal (ExtendedRequest m) dat = transmission_refusal m
request_refusal Settings dat = settings_refusal dat

abbrev pub change_refusal : OutputChange → ℕ
change_refusal m = plain_refusal m.address

abbrev pub order_refusal : Order → ℕ
order_refusal (change m) = change_refusal m
order_refusal (setup c) = 0
