-- The words for the formats.
use Rattle.std.specs.Prelude.{ℕ, List, cond, eqb, get_or, Option, Some, None}
use Rattle.frame.specs.declared.framing.Footer.TheVariants.{Optional, Required}
use Rattle.frame.specs.declared.framing.Ending.TheVariants.{CrLf, Any}
use Rattle.frame.specs.declared.framing.Format.{Format}
use Rattle.frame.specs.declared.framing.Format.TheVariants.{Binary, Ascii}

-- The format that a word's second letter names: i of `binary`, e of `required`, s of `ascii`, n of `any`; none by any other, or where there is none.
abbrev pub format_of_letter : ℕ → Option Format
format_of_letter c =
    cond (eqb c 0x69) (Some (Binary Optional))
    (cond (eqb c 0x65) (Some (Binary Required)) (cond (eqb c 0x73) (Some (Ascii CrLf)) (cond (eqb c 0x6E) (Some (Ascii Any)) None)))

abbrev pub format_named : List ℕ → Option Format
format_named word = format_of_letter (get_or word 1 0)
