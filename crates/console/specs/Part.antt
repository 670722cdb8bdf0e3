-- How much of a slice there is room for.
use Rattle.std.specs.Prelude.{ℕ, ◌-◌, min, List, length}

-- How many of the elements of s fit into d from the place `at` on.
abbrev pub fitting : List ℕ → ℕ → List ℕ → ℕ
fitting d at s = min (length s) (length d - at)
