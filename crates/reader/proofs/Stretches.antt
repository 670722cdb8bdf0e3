-- Laws of stretches: good frames, each right behind the last.
-- Assumes nothing.
use Prim.Native.Nat.{ℕ, ◌+◌}
use mathlib.Core.Path.{◌≡◌, refl, sym, ap, ap₂, ◌∙◌}
use mathlib.Core.List.{List, ◌∷◌, ◌++◌, flatten}
use mathlib.Core.Bool.{Bool, true, false}
use lib.ListN.{length}
use lib.Seq.{drop-append_seam}
use Rattle.frame.specs.Checks.{frame, payload_in}
use Rattle.frame.specs.Ascii.{colon}
use Rattle.frame.specs.Framing.{read, is_open, absorbed}
use Rattle.frame.specs.Rule.{output, join, found_at}
use Rattle.reader.specs.Recovery.{Good, Stretch, none, another, founds_from}
use Rattle.reader.specs.Further.{CleanLine}
use Rattle.frame.specs.Steps.{handed}
use Rattle.frame.specs.declared.framing.Footer.{Footer}
use Rattle.frame.specs.declared.framing.Footer.TheVariants.{Optional, Required}
use Rattle.frame.specs.declared.framing.Ending.{Ending}
use Rattle.frame.specs.declared.framing.Ending.TheVariants.{CrLf, Any}
use Rattle.frame.specs.declared.framing.Format.{Format}
use Rattle.frame.specs.declared.framing.Format.TheVariants.{Binary, Ascii}
use Rattle.frame.proofs.Shapes.{pair_first, colon_first}
use Rattle.frame.proofs.Optional.{absorbed_nil, read_frame, read_stands}
use Rattle.frame.proofs.Rules.{rule_from, rule_walk, rule_frame}

-- A binary frame begins with A5 5A.
pub pair_read : (footer : Footer) (s p : List ℕ) (used : ℕ) → read (Binary footer) s ≡ frame used p → (rest : List ℕ) × (s ≡ 0xA5 ∷ 0x5A ∷ rest)
pair_read footer s p used e =
    let (judged, is, size) = read_frame (Binary footer) s used p e in
    pair_first footer s p judged is

-- An ASCII frame begins with a colon.
pub colon_read : (ending : Ending) (s p : List ℕ) (used : ℕ) → read (Ascii ending) s ≡ frame used p → (rest : List ℕ) × (s ≡ colon ∷ rest)
colon_read ending s p used e =
    let (judged, is, size) = read_frame (Ascii ending) s used p e in
    colon_first ending s p judged is

-- A good frame does not begin with an optional byte.
good_plain : (f : Format) (g more : List ℕ) → Good f g → (follows : Bool) → absorbed f follows (g ++ more) ≡ 0
good_plain f g more good false = refl
good_plain (Binary Optional) g more good true =
    ap
    (λ (s : List ℕ). absorbed (Binary Optional) true (s ++ more))
    (pair_read Optional g good.payload (length g) good.reads).1
good_plain (Binary Required) g more good true =
    ap
    (λ (s : List ℕ). absorbed (Binary Required) true (s ++ more))
    (pair_read Required g good.payload (length g) good.reads).1
good_plain (Ascii CrLf) g more good true =
    ap
    (λ (s : List ℕ). absorbed (Ascii CrLf) true (s ++ more))
    (colon_read CrLf g good.payload (length g) good.reads).1
good_plain (Ascii Any) g more good true =
    ap
    (λ (s : List ℕ). absorbed (Ascii Any) true (s ++ more))
    (colon_read Any g good.payload (length g) good.reads).1

module _ (f : Format) where
  -- Nor does a stretch.
  pub stretch_plain : {gs : List (List ℕ)} → Stretch f gs → (follows : Bool) → absorbed f follows (flatten gs) ≡ 0
  unfolding flatten
  stretch_plain none follows = absorbed_nil f follows
  stretch_plain (another {g} {gs} good st) follows = good_plain f g (flatten gs) good follows

  -- A good frame is read whatever follows, but for an optional byte.
  pub good_reads :
      {g : List ℕ} (good : Good f g) (more : List ℕ) → ((follows : Bool) → absorbed f follows more ≡ 0) → read f (g ++ more) ≡ frame (length g) good.payload
  good_reads {g} good more plain =
      let (judged, is, size) = read_frame f g (length g) good.payload good.reads in
      read_stands f g more judged good.payload is (plain (is_open f judged g)) ∙ good.reads

  -- The rule over a good frame and what follows it.
  pub rule_good :
      {g : List ℕ} (place : ℕ) (more : List ℕ) → ((follows : Bool) → absorbed f follows more ≡ 0) → Good f g →
      rule_from f place 0 (g ++ more)
      ≡ join (handed (found_at place (length g) (payload_in (read f g)))) (rule_from f (place + length g) 0 more)
  rule_good {g} place more plain good =
      rule_frame f place (length g) good.payload (g ++ more) (good_reads good more plain)
      ∙ ap₂
      (λ (p s : List ℕ). join (handed (found_at place (length g) p)) (rule_from f (place + length g) 0 s))
      (ap payload_in (sym good.reads))
      (drop-append_seam g more)

  -- The rule over a stretch: every good frame, in order, and no noise.
  pub rule_stretch :
      {gs : List (List ℕ)} (place : ℕ) → Stretch f gs →
      rule_from f place 0 (flatten gs) ≡ output (founds_from f place gs) 0
  unfolding rule_from join flatten
  rule_stretch place none = refl
  rule_stretch place (another {g} {gs} good st) =
      rule_good place (flatten gs) (stretch_plain st) good
      ∙ ap (join (handed (found_at place (length g) (payload_in (read f g))))) (rule_stretch (place + length g) st)

  -- With no damage: every good frame, in order, and no noise.
  pub clean_line : CleanLine f
  clean_line gs st = rule_walk f (flatten gs) ∙ rule_stretch 0 st
