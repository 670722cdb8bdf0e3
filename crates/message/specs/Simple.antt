-- The simple message, in either direction. Document 01, "Payloads": plain address, command below 0x80, data (may be empty).
use Rattle.std.specs.Prelude.{ℕ, List, ◌∷◌, cond, ltb}
use Rattle.message.specs.Address.{is_plain}
use Rattle.message.specs.declared.simple.Simple.{Simple}

-- The layout of a message with its data.
abbrev pub simple_layout : Simple → List ℕ → List ℕ
simple_layout m dat = m.address ∷ m.command ∷ dat

-- Why it is not written: 8, 9; 0 where neither applies.
abbrev pub simple_refusal : Simple → ℕ
simple_refusal m = cond (is_plain m.address) (cond (ltb m.command 0x80) 0 9) 8
