-- Document 01, "Refusal numbers".
use Rattle.std.specs.Prelude.{ℕ}
use Rattle.frame.specs.declared.refusal.Refusal.{Refusal}
use Rattle.frame.specs.declared.refusal.Refusal.TheVariants.{Start, Cut, Length, Checksum, Footer, Character, Buffer, Payload, Chunk, State}

-- The number of each refusal.
abbrev pub number_of : Refusal → ℕ
number_of Start = 1
number_of Cut = 2
number_of Length = 3
number_of Checksum = 4
number_of Footer = 5
number_of Character = 6
number_of Buffer = 13
number_of Payload = 14
number_of Chunk = 15
number_of State = 16
