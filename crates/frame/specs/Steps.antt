-- One step of the leftmost rule, for what is stated of its steps, as the crate reader does: what it gives at a place, as outputs, and how far it then goes.
use Rattle.std.specs.Prelude.{ℕ, pred, [], ◌∷◌}
use Rattle.frame.specs.Checks.{Verdict}
use Rattle.frame.specs.Rule.{Output, output, on_by}

-- A byte of noise, and what is handed out, as outputs.
module _ {A : Type 0} where
  abbrev pub noise_byte : Output A
  noise_byte = output [] 1

  abbrev pub handed : A → Output A
  handed x = output (x ∷ []) 0

-- How many bytes behind a place the rule passes over.
abbrev pub pass_after : Verdict → ℕ
pass_after v = pred (on_by v)
