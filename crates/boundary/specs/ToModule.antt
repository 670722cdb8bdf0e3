-- Messages to the module as numbers. The kinds: 0 a refusal, 1 simple, 2 extended to a plain address, 3 extended to an extended address, 4 a change of
-- outputs, 5 a settings list, 6 a command to the module itself. A field that a kind does not have is 0 in reading and is not looked at in writing.
use Rattle.std.specs.Prelude.{ℕ, List, [], cond, eqb, Option, Some, None}
use Rattle.frame.specs.declared.framing.Framing.{Framing}
use Rattle.message.specs.Meaning.{Meaning, refused, carrying, bare}
use Rattle.message.specs.Setup.{command_number, command_of, setup_layout}
use Rattle.message.specs.ToModule.{Order, change, setup, request_refusal, request_layout, change_refusal, change_layout}
use Rattle.message.specs.declared.setup.SetupCommand.{SetupCommand}
use Rattle.message.specs.declared.to_module.Address.{Address}
use Rattle.message.specs.declared.to_module.Address.TheVariants.{Plain, Extended}
use Rattle.message.specs.declared.to_module.Transmission.{Transmission}
use Rattle.message.specs.declared.to_module.Request.{Request}
use Rattle.message.specs.declared.to_module.Request.TheVariants.{Simple as SimpleRequest, Extended as ExtendedRequest, Settings}
use Rattle.message.specs.declared.to_module.OutputChange.{OutputChange}
use Rattle.boundary.specs.Refusal.{unknown_number}
use Rattle.boundary.specs.Single.{WritesFlat}
use Rattle.boundary.specs.Options.{no_numbers, option_numbers, options_in}
use Rattle.boundary.specs.declared.single.FlatWriting.{FlatWriting}
use Rattle.boundary.specs.declared.to_module.ToModuleNumbers.{ToModuleNumbers}

-- A plain address, an extended one, and the kind of an extended message to it.
abbrev pub plain_of : Address → ℕ
plain_of (Plain a) = a
plain_of (Extended w) = 0

abbrev pub extended_of : Address → ℕ
extended_of (Plain a) = 0
extended_of (Extended w) = w

abbrev pub address_kind : Address → ℕ
address_kind (Plain a) = 2
address_kind (Extended w) = 3

-- No message: zeros alone.
abbrev pub no_message : ToModuleNumbers
no_message =
    record {
      kind = 0;
      refusal = 0;
      address = 0;
      command = 0;
      response_id = 0;
      extended = 0;
      options = no_numbers;
      signals = 0;
      mask = 0;
      start = 0;
    }

-- A refusal: its number with zeros beside it.
abbrev pub refused_to : ℕ → ToModuleNumbers
refused_to n = record no_message { refusal = n }

-- The numbers of each message, with zeros beside them.
abbrev pub transmission_numbers : Transmission → ℕ → ToModuleNumbers
transmission_numbers m start =
    record no_message {
      kind = address_kind m.address;
      address = plain_of m.address;
      response_id = m.response_id;
      extended = extended_of m.address;
      options = option_numbers m.options;
      start = start;
    }

abbrev pub request_numbers : Request → ℕ → ToModuleNumbers
request_numbers (SimpleRequest m) start = record no_message { kind = 1; address = m.address; command = m.command; start = start }
request_numbers (ExtendedRequest m) start = transmission_numbers m start
request_numbers Settings start = record no_message { kind = 5; start = start }

abbrev pub change_numbers : OutputChange → ToModuleNumbers
change_numbers m = record no_message { kind = 4; address = m.address; signals = m.signals; mask = m.mask }

abbrev pub setup_numbers : SetupCommand → ToModuleNumbers
setup_numbers c = record no_message { kind = 6; command = command_number c }

-- The numbers of what a payload means.
abbrev pub to_module_numbers : Meaning Request Order → ToModuleNumbers
to_module_numbers (refused n) = refused_to n
to_module_numbers (carrying m start) = request_numbers m start
to_module_numbers (bare (change m)) = change_numbers m
to_module_numbers (bare (setup c)) = setup_numbers c

-- The message that numbers stand for.
abbrev pub transmission_in : Address → ToModuleNumbers → Transmission
transmission_in address n = record { address = address; response_id = n.response_id; options = options_in n.options }

abbrev pub request_in : ToModuleNumbers → Option Request
request_in n =
    cond (eqb n.kind 1) (Some (SimpleRequest (record { address = n.address; command = n.command })))
    (cond (eqb n.kind 2) (Some (ExtendedRequest (transmission_in (Plain n.address) n)))
    (cond (eqb n.kind 3) (Some (ExtendedRequest (transmission_in (Extended n.extended) n)))
    (cond (eqb n.kind 5) (Some Settings) None)))

abbrev pub change_in : ToModuleNumbers → OutputChange
change_in n = record { address = n.address; signals = n.signals; mask = n.mask }

-- Why they are not written, 0 for no reason, and the payload. A number that names no command is document 01's refusal 9.
abbrev pub request_refusal_in : Option Request → List ℕ → ℕ
request_refusal_in (Some q) dat = request_refusal q dat
request_refusal_in None dat = unknown_number

abbrev pub request_layout_in : Option Request → List ℕ → List ℕ
request_layout_in (Some q) dat = request_layout q dat
request_layout_in None dat = []

abbrev pub change_refusal_in : ToModuleNumbers → ℕ
change_refusal_in n = cond (eqb n.kind 4) (change_refusal (change_in n)) unknown_number

abbrev pub command_refusal : Option SetupCommand → ℕ
command_refusal (Some c) = 0
command_refusal None = 9

abbrev pub setup_refusal_in : ToModuleNumbers → ℕ
setup_refusal_in n = cond (eqb n.kind 6) (command_refusal (command_of n.command)) unknown_number

abbrev pub command_layout : Option SetupCommand → List ℕ
command_layout (Some c) = setup_layout c
command_layout None = []

-- The promise of a write of such a message into buf, which then holds `after`.
abbrev pub WritesRequest : Option Framing → Option Request → List ℕ → List ℕ → FlatWriting → List ℕ → Type 0
WritesRequest f q dat buf answer after = WritesFlat f (request_refusal_in q dat) (request_layout_in q dat) buf answer after

abbrev pub WritesChange : Option Framing → ToModuleNumbers → List ℕ → FlatWriting → List ℕ → Type 0
WritesChange f n buf answer after = WritesFlat f (change_refusal_in n) (change_layout (change_in n)) buf answer after

abbrev pub WritesSetup : Option Framing → ToModuleNumbers → List ℕ → FlatWriting → List ℕ → Type 0
WritesSetup f n buf answer after = WritesFlat f (setup_refusal_in n) (command_layout (command_of n.command)) buf answer after
