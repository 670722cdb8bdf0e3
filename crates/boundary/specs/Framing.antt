-- Framings and formats as numbers. A framing, in which frames are written: 0 is binary, 1 is ASCII, and any other is none. A format, in which they are read: 0
-- and 1 are the defaults of these framings, in binary with the footer optional, in ASCII with the ending CR LF; 2 is binary with the footer required, 3 is
-- ASCII with any ending, and any other is none.
use Rattle.std.specs.Prelude.{ℕ, cond, eqb, Option, Some, None}
use Rattle.frame.specs.declared.framing.Framing.{Framing}
use Rattle.frame.specs.declared.framing.Framing.TheVariants.{Binary as BinaryFraming, Ascii as AsciiFraming}
use Rattle.frame.specs.declared.framing.Footer.TheVariants.{Optional, Required}
use Rattle.frame.specs.declared.framing.Ending.TheVariants.{CrLf, Any}
use Rattle.frame.specs.declared.framing.Format.{Format}
use Rattle.frame.specs.declared.framing.Format.TheVariants.{Binary, Ascii}

-- The framing that a number stands for.
abbrev pub framing_of : ℕ → Option Framing
framing_of n = cond (eqb n 0) (Some BinaryFraming) (cond (eqb n 1) (Some AsciiFraming) None)

-- The format that a number stands for.
abbrev pub format_of : ℕ → Option Format
format_of n =
    cond (eqb n 0) (Some (Binary Optional))
    (cond (eqb n 1) (Some (Ascii CrLf))
    (cond (eqb n 2) (Some (Binary Required))
    (cond (eqb n 3) (Some (Ascii Any)) None)))

-- The number that stands for a format.
abbrev pub format_number : Format → ℕ
format_number (Binary Optional) = 0
format_number (Binary Required) = 2
format_number (Ascii CrLf) = 1
format_number (Ascii Any) = 3
