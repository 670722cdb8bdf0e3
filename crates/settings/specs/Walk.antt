-- Walking a settings list: which setting has an index, and where its data are.
use Rattle.std.specs.Prelude.{ℕ, zero, suc, ◌+◌, Bool, true, false, cond, List, [], ◌∷◌, Option, Some, None, Result, Ok, Err}
use Rattle.settings.specs.List.{width_of, is_list}
use Rattle.settings.specs.declared.walk.Setting.{Setting}
use Rattle.settings.specs.declared.walk.NotAList.{NotAList}

-- The settings of the rest of a list, which stands at `at`, where w more bytes of data are passed over first.
unfoldable pub settings_from : ℕ → ℕ → List ℕ → List Setting
settings_from zero at [] = []
settings_from zero at (id ∷ s) = record { identifier = id; start = at + 1; len = width_of id } ∷ settings_from (width_of id) (at + 1) s
settings_from (suc w) at [] = []
settings_from (suc w) at (b ∷ s) = settings_from w (at + 1) s

-- The settings of a list, in their order.
unfoldable pub settings_of : List ℕ → List Setting
settings_of s = settings_from 0 0 s

-- What a look at an index gives: the refusal's number, 0 for none, whether there is a setting, and the setting, zeros where there is none.
pub record Finding : Type 0 where
  pub number : ℕ
  pub is_found : Bool
  pub setting : Setting

abbrev pub no_setting : Setting
no_setting = record { identifier = 0; start = 0; len = 0 }

abbrev pub found : Setting → Finding
found x = record { number = 0; is_found = true; setting = x }

abbrev pub nothing : ℕ → Finding
nothing number = record { number = number; is_found = false; setting = no_setting }

-- The setting with this index; none past the last.
abbrev pub nth : List Setting → ℕ → Finding
nth [] i = nothing 0
nth (x ∷ xs) zero = found x
nth (x ∷ xs) (suc i) = nth xs i

-- Bytes that are no list: 17.
abbrev pub finding : List ℕ → ℕ → Finding
finding s i = cond (is_list s) (nth (settings_of s) i) (nothing 17)

-- The number and the setting of each answer.
abbrev pub finding_of : Result (Option Setting) NotAList → Finding
finding_of (Ok (Some x)) = found x
finding_of (Ok None) = nothing 0
finding_of (Err e) = nothing 17
