-- Numbers that stand for nothing, and the number of the refusal.
use Rattle.std.specs.Prelude.{ℕ}
use Rattle.boundary.specs.declared.refusal.Unnamed.{Unnamed}
use Rattle.boundary.specs.declared.refusal.Unnamed.TheVariants.{Kind, Command, Flag}

-- The answer where a framing, a format, a mark or a kind of message crosses as a number that stands for none. The documents' own numbers end below it.
abbrev pub unknown_number : ℕ
unknown_number = 255

-- A number that names no command is refused with 9, a result that is neither 0 nor 1 with 11.
abbrev pub unnamed_number : Unnamed → ℕ
unnamed_number Kind = unknown_number
unnamed_number Command = 9
unnamed_number Flag = 11
