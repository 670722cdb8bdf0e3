-- Setting up the module itself: DB in place of an address. Document 02, CR 1; sheet 000, "0xDB commands". What a settings list is, the crate settings says.
use Rattle.std.specs.Prelude.{ℕ, List, [], ◌∷◌, ◌++◌, Bool, cond, eqb, drop, Option, Some, None}
use Rattle.settings.specs.List.{is_list}
use Rattle.message.specs.Number.{byte_at, long_at, bytes4}
use Rattle.message.specs.Meaning.{Meaning, refused, carrying}
use Rattle.message.specs.declared.setup.SetupCommand.{SetupCommand}
use Rattle.message.specs.declared.setup.SetupCommand.TheVariants.{EnableAck, GetInformation, GetSettings, EraseSettings, SaveSettings, Reset}
use Rattle.message.specs.declared.setup.Information.{Information}
use Rattle.message.specs.declared.setup.SetupReport.{SetupReport}
use Rattle.message.specs.declared.setup.SetupReport.TheVariants.{Acknowledged, Information as IsInformation, SettingsFailed, SilentMode}

-- To the module: the commands with nothing after them, and their numbers. That F3 has nothing after it is document 02's own limit.
abbrev pub commands : List SetupCommand
commands = EnableAck ∷ GetInformation ∷ GetSettings ∷ EraseSettings ∷ SaveSettings ∷ Reset ∷ []

abbrev pub command_number : SetupCommand → ℕ
command_number EnableAck = 0xF0
command_number GetInformation = 0xF1
command_number GetSettings = 0xF3
command_number EraseSettings = 0xFD
command_number SaveSettings = 0xFE
command_number Reset = 0xFF

-- The one of these commands whose number is n, if any.
abbrev pub named : List SetupCommand → ℕ → Option SetupCommand
named [] n = None
named (c ∷ cs) n = cond (eqb n (command_number c)) (Some c) (named cs n)

unfoldable pub command_of : ℕ → Option SetupCommand
command_of n = named commands n

-- Such a command, 2 bytes: DB, its number.
abbrev pub setup_layout : SetupCommand → List ℕ
setup_layout c = 0xDB ∷ command_number c ∷ []

-- A settings list: DB, F2 to the module or F3 from it, the list to the payload's end (17). Why it is not written: 17; 0 where it is a list.
abbrev pub settings_layout : ℕ → List ℕ → List ℕ
settings_layout command list = 0xDB ∷ command ∷ list

module _ {A B : Type 0} where
  abbrev pub list_meaning : A → List ℕ → Meaning A B
  list_meaning m p = cond (is_list (drop 2 p)) (carrying m 2) (refused 17)

abbrev pub settings_refusal : List ℕ → ℕ
settings_refusal list = cond (is_list list) 0 17

-- From the module: F0 01, 3 bytes; F1 and the information, 17 bytes: application ID (4), version (4), device ID, serial (4), silent, network; F3 FF for
-- failure, 3 bytes; F8 11 and the state, 4 bytes, 1 where silent mode is released and 0 where it is not.
abbrev pub information_layout : Information → List ℕ
information_layout m =
    0xDB ∷ 0xF1 ∷ (bytes4 m.application ++ (bytes4 m.version ++ (m.device ∷ (bytes4 m.serial ++ (m.silent ∷ m.network ∷ [])))))

abbrev pub state_byte : Bool → ℕ
state_byte released = cond released 1 0

abbrev pub report_layout : SetupReport → List ℕ
report_layout Acknowledged = 0xDB ∷ 0xF0 ∷ 0x01 ∷ []
report_layout (IsInformation m) = information_layout m
report_layout SettingsFailed = 0xDB ∷ 0xF3 ∷ 0xFF ∷ []
report_layout (SilentMode released) = 0xDB ∷ 0xF8 ∷ 0x11 ∷ state_byte released ∷ []

-- The information in a payload of 17 bytes.
abbrev pub information_at : List ℕ → Information
information_at p =
    record {
      application = long_at p 2;
      version = long_at p 6;
      device = byte_at p 10;
      serial = long_at p 11;
      silent = byte_at p 15;
      network = byte_at p 16;
    }
