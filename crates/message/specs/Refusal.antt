-- Document 01, "Refusal numbers"; 17 is document 02's, CR 1.
use Rattle.std.specs.Prelude.{ℕ}
use Rattle.message.specs.declared.refusal.Refusal.{Refusal}
use Rattle.message.specs.declared.refusal.Refusal.TheVariants.{Length, Address, Command, Option, Field, Count, Buffer, Payload, Identifier}

-- The number of each refusal.
abbrev pub number_of : Refusal → ℕ
number_of Length = 7
number_of Address = 8
number_of Command = 9
number_of Option = 10
number_of Field = 11
number_of Count = 12
number_of Buffer = 13
number_of Payload = 14
number_of Identifier = 17
