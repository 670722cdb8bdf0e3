-- What is said of the elements of lists.
use Rattle.std.specs.Prelude.{ℕ, ◌<◌, List, [], ◌∷◌}

module _ {A : Type 0} where
  -- Every element has the property.
  abbrev pub All : (A → Type 0) → List A → Type 0
  All P [] = Unit {0}
  All P (x ∷ xs) = P x × All P xs

-- Every element is a byte.
abbrev pub Bytes : List ℕ → Type 0
Bytes s = All (λ b. b < 256) s
