-- Options are read in any order. Document 01, "Payloads": "Any order is read".
use Rattle.std.specs.Prelude.{ℕ, ◌+◌, ◌≤◌, ◌≡◌, true, false, length, Some, None}
use mathlib.Core.List.{List, [], ◌∷◌, ◌++◌, Permᴰ as Permutation}
use Rattle.message.specs.Options.{no_options, option, options_from, opted, retry_allowed, option_groups, option_string}
use Rattle.message.specs.ToModule.{read_to_module, transmission_refusal}
use Rattle.message.specs.Claims.{OptionsFit, RequestFits, ReadsAs, ordered_layout}
use Rattle.message.specs.declared.options.Options.{Options}
use Rattle.message.specs.declared.to_module.Transmission.{Transmission}
use Rattle.message.specs.declared.to_module.Request.TheVariants.{Extended as ExtendedRequest}

-- The options of the frame of sheet 001, and its groups in the order of that frame: 01, 04 0800, 06, 02 85, 05 0600, then the empty ones.
abbrev pub sheet_options : Options
sheet_options =
    record {
      mac_ack = true;
      retries = Some 0x85;
      lower_delay = None;
      upper_delay = Some 0x0800;
      interval = Some 0x0600;
      parallel = true;
      no_response = false;
      sleep = false;
    }

abbrev pub sheet_groups : List (List ℕ)
sheet_groups =
    (0x01 ∷ [])
    ∷ (0x04 ∷ 0x08 ∷ 0x00 ∷ [])
    ∷ (0x06 ∷ [])
    ∷ (0x02 ∷ 0x85 ∷ [])
    ∷ (0x05 ∷ 0x06 ∷ 0x00 ∷ [])
    ∷ []
    ∷ []
    ∷ []
    ∷ []

-- Every string of the groups of options, whatever their order, is read as those options, at every place and whatever follows; and so every
-- message with such a string is read as the message. The ascending order, that of the groups, is the one that is written; the frame of sheet 001
-- has another.
pub record AnyOrderIsRead : Type 0 where
  pub options :
      (o : Options) (gs : List (List ℕ)) → OptionsFit o → retry_allowed o.retries ≡ true → Permutation gs (option_groups o) →
      (at : ℕ) (dat : List ℕ) → options_from option no_options at (option_string gs ++ dat) ≡ opted o (at + length (option_string gs))
  pub message :
      (m : Transmission) (gs : List (List ℕ)) (dat : List ℕ) → RequestFits (ExtendedRequest m) → transmission_refusal m ≡ 0 →
      Permutation gs (option_groups m.options) → length (ordered_layout m gs dat) ≤ 256 →
      ReadsAs read_to_module (ordered_layout m gs dat) (ExtendedRequest m) dat
  pub another : Permutation sheet_groups (option_groups sheet_options) × (sheet_groups ≡ option_groups sheet_options → ⊥)
