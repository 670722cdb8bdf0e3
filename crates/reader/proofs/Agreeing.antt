-- The promises of line and quiet calls leave no answer open.
-- Assumes nothing.
use Prim.Native.Nat.{ℕ}
use mathlib.Core.Path.{◌≡◌, refl, sym, ap, ◌∙◌, subst}
use mathlib.Core.List.{List, [], ◌∷◌}
use mathlib.Core.Bool.{Bool, true, false}
use lib.Dec.{eqb}
use lib.ListN.{length}
use Rattle.reader.specs.Reader.{State, Called, line, quiet, line_judged, quiet_judged, after, state_of, Holds, Values, refusal_values}
use Rattle.reader.specs.Reader.{called_values, buffer_at, can_hold, call_refusal, Gives, AfterQuiet}
use Rattle.reader.specs.Further.{Alike, FeedsAgree, QuietsAgree}
use Rattle.frame.specs.declared.framing.Format.{Format}
use Rattle.reader.specs.declared.reader.Reader.{Reader}

-- Readers that have the same state after a call.
both_hold : {s s' : State} {r r' : Reader} → s ≡ s' → Holds s r → Holds s' r' → Alike r r'
both_hold e h k =
    record { state = h.state ∙ e ∙ sym k.state; count = h.count ∙ ap (λ (s : State). length s.held) e ∙ sym k.count }

same_reader : {r r' x x' : Reader} → Alike r r' → x ≡ r → x' ≡ r' → Alike x x'
same_reader {r} {r'} {x} {x'} k e e' = subst (λ (y : Reader). Alike y x') (sym e) (subst (Alike r) (sym e') k)

both_end : (m : Format) (c : Called) (fs : List (List ℕ)) (r r' : Reader) → AfterQuiet m c fs r → AfterQuiet m c fs r' → Alike r r'
both_end m c [] r r' h k = same_reader (record { state = refl; count = refl }) h k
both_end m c (p ∷ ps) r r' h k = both_hold refl h k

-- Two answers to one call: refused or not, they have the same values and buffers; the readers are as they were, or follow the call.
module _ {r r' x x' : Reader} {n n' : ℕ} (c c' : Called) (j j' : ℕ) {Next Next' : Reader → Type 0} {buf b b' : List ℕ} {v v' : Values}
    (k : Alike r r') (same : n ≡ n') (values : called_values c j c.out.frames ≡ called_values c' j' c'.out.frames)
    (frames : c.out.frames ≡ c'.out.frames) (next : Next x → Next' x' → Alike x x')
    (p : Gives n c j Next r buf v x b) (p' : Gives n' c' j' Next' r' buf v' x' b') where
  agree : (v ≡ v') × (b ≡ b') × Alike x x'
  agree = by (eqb n 0) refl
    where
      by : (q : Bool) → eqb n 0 ≡ q → (v ≡ v') × (b ≡ b') × Alike x x'
      by true e =
          let h = p.answers e in
          let h' = p'.answers (ap (λ (k : ℕ). eqb k 0) (sym same) ∙ e) in (
            h.0 ∙ values ∙ sym h'.0,
            h.2 ∙ ap (λ (fs : List (List ℕ)). buffer_at fs buf) frames ∙ sym h'.2,
            next h.1 h'.1,
          )
      by false e =
          let h = p.refuses e in
          let h' = p'.refuses (ap (λ (k : ℕ). eqb k 0) (sym same) ∙ e) in (
            h.0 ∙ ap refusal_values same ∙ sym h'.0,
            h.2 ∙ sym h'.2,
            same_reader k h.1 h'.1,
          )

-- The refusals of readers with the same state.
same_sound : {r r' : Reader} → Alike r r' → can_hold r.format r.count r.judged ≡ can_hold r'.format r'.count r'.judged
same_sound k = λ i. can_hold (k.state i).format (k.count i) (k.state i).judged

pub feeds_agree : FeedsAgree
feeds_agree r r' chunk buf a a' b b' k p p' =
    agree (line (state_of r) chunk) (line (state_of r') chunk) (line_judged (state_of r) chunk) (line_judged (state_of r') chunk) k
    (ap (λ (q : Bool). call_refusal q 256 (length buf) (length chunk)) (same_sound k))
    (ap (λ (s : State). called_values (line s chunk) (line_judged s chunk) (line s chunk).out.frames) k.state)
    (ap (λ (s : State). (line s chunk).out.frames) k.state)
    (both_hold (ap (λ (s : State). after s (line s chunk)) k.state))
    p p'

pub quiets_agree : QuietsAgree
quiets_agree r r' buf a a' b b' k p p' =
    agree (quiet (state_of r)) (quiet (state_of r')) (quiet_judged (state_of r)) (quiet_judged (state_of r')) k
    (ap (λ (q : Bool). call_refusal q 256 (length buf) 0) (same_sound k))
    (ap (λ (s : State). called_values (quiet s) (quiet_judged s) (quiet s).out.frames) k.state)
    (ap (λ (s : State). (quiet s).out.frames) k.state)
    (λ h h'.
    let c : Called = quiet (state_of r) in
    both_end r.format c c.out.frames a.reader a'.reader h
    (subst (λ (s : State). AfterQuiet s.format (quiet s) (quiet s).out.frames a'.reader) (sym k.state) h'))
    p p'
