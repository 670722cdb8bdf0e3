-- Good ASCII frames behind damage: every one is handed out, and the damage gives what it gives alone.
-- Assumes nothing.
use Prim.Native.Nat.{ℕ, ◌+◌, zero-le}
use native.Mathlib.Nat.{zero-add}
use mathlib.Core.Path.{◌≡◌, sym, ap, ap₂, ◌∙◌, subst}
use mathlib.Core.List.{List, ◌∷◌, ◌++◌, append-nil, flatten}
use lib.ListN.{length}
use Rattle.frame.specs.Checks.{cut}
use Rattle.frame.specs.Ascii.{colon}
use Rattle.frame.specs.Framing.{judge}
use Rattle.frame.specs.Rule.{join}
use Rattle.reader.specs.Recovery.{Stretch, none, another}
use Rattle.reader.specs.Further.{AsciiRecovers}
use Rattle.frame.specs.declared.framing.Ending.{Ending}
use Rattle.frame.specs.declared.framing.Format.{Format}
use Rattle.frame.specs.declared.framing.Format.TheVariants.{Ascii}
use Rattle.frame.proofs.Shapes.{NoFrame, refused_no_frame, colon_stops}
use Rattle.frame.proofs.Rules.{rule_walk, rule_split}
use Rattle.reader.proofs.Stretches.{colon_read, stretch_plain, rule_stretch}

-- A stretch makes no frame of an undecided start: it is empty or begins with a colon.
stretch_breaks :
    (ending : Ending) {gs : List (List ℕ)} → Stretch (Ascii ending) gs → (b : ℕ) (s : List ℕ) → judge (Ascii ending) (b ∷ s) ≡ cut →
    NoFrame (judge (Ascii ending) ((b ∷ s) ++ flatten gs))
unfolding flatten
stretch_breaks ending none b s e = subst NoFrame (sym (ap (judge (Ascii ending)) (append-nil (b ∷ s)) ∙ e)) tt
stretch_breaks ending (another {g} {gs} good st) b s e =
    let h = colon_read ending g good.payload (length g) good.reads in
    subst
    (λ (l : List ℕ). NoFrame (judge (Ascii ending) ((b ∷ s) ++ (l ++ flatten gs))))
    (sym h.1)
    (refused_no_frame (judge (Ascii ending) ((b ∷ s) ++ (colon ∷ (h.0 ++ flatten gs)))) (colon_stops ending b s (h.0 ++ flatten gs) e))

-- What the damage alone gives, then every good frame, in order, and no noise.
pub ascii_recovers : (ending : Ending) → AsciiRecovers ending
ascii_recovers ending damage gs st =
    let f : Format = Ascii ending in
    rule_walk f (damage ++ flatten gs)
    ∙ rule_split f (flatten gs) (stretch_breaks ending st) (stretch_plain f st) 0 0 damage zero-le
    ∙ ap₂ join (sym (rule_walk f damage)) (rule_stretch f (0 + length damage) st ∙ rw zero-add)
