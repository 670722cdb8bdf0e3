-- Laws of the rule's count of judged bytes, place by place, and that each call counts the first part of it.
-- Assumes nothing.
use Prim.Native.Nat.{ℕ, zero, suc, pred, ◌+◌, ◌-◌, ◌≤◌, min}
use native.Mathlib.Nat.{le_trans, add-zero, zero-add, not-suc-le-zero}
use native.Mathlib.Omega.{arith}
use mathlib.Core.Bool.{Bool, false}
use mathlib.Core.List.{List, [], ◌∷◌, ◌++◌, map, append-nil}
use mathlib.Core.Path.{◌≡◌, refl, sym, ap, ap₂, ◌∙◌, subst}
use lib.ListN.{length, take, drop, length-append}
use lib.Seq.{take-append_seam, drop-append-le, drop-drop}
use Rattle.frame.specs.Checks.{Verdict, cut, refused, frame}
use Rattle.frame.specs.Hex.{sum_of}
use Rattle.frame.specs.Framing.{judge, judged_as, judged_at, read, is_open, absorbed, behind_optional, checks}
use Rattle.frame.specs.Rule.{join, places, rule_judged}
use Rattle.reader.specs.Reader.{holding, Called, settle_as, settle, ended, if_fails, judged_to, left_out, count_from, judged_held}
use Rattle.reader.specs.Drain.{judged_after}
use Rattle.frame.specs.Steps.{pass_after}
use Rattle.frame.specs.Further.{Decided}
use Rattle.frame.specs.declared.framing.Format.{Format}
use Rattle.frame.proofs.Trees.{cut≢refused, cut≢frame}
use Rattle.reader.proofs.Prefixes.{enough}
use Rattle.frame.proofs.Framings.{frame_sized}
use Rattle.frame.proofs.Optional.{behind_frame, read_judged, no_frame_read, open_append}
use Rattle.frame.proofs.Shapes.{NoFrame, judge_stands}

-- Where nothing was judged before, nothing is left out.
pub none_left : (f : Format) (follows : Bool) (h bytes : List ℕ) (count : List ℕ → ℕ) →
    count_from (holding f h follows 0) count bytes ≡ count (behind_optional f follows bytes)
none_left f follows h bytes count = by (absorbed f follows bytes)
  where
    by : (n : ℕ) → count (drop n bytes) - left_out f n 0 (drop n bytes) ≡ count (drop n bytes)
    by zero = omega arith
    by (suc n) = omega arith

module _ (f : Format) where
  -- To pass over bytes is to begin behind them.
  pub places_pass : (pass : ℕ) (s : List ℕ) → places f pass s ≡ places f 0 (drop pass s)
  unfolding places
  places_pass zero s = refl
  places_pass (suc pass) [] = refl
  places_pass (suc pass) (b ∷ s) = places_pass pass s

  -- Behind what is no frame the rule goes on with the next byte.
  none_passed : (v : Verdict) → NoFrame v → pass_after v ≡ 0
  none_passed cut h = refl
  none_passed (refused judged n) h = refl
  none_passed (frame used p) h = absurd h

  -- Where no frame stands, the bytes judged there are counted, and then those of the places behind it.
  pub counted_failed : (b : ℕ) (s : List ℕ) → NoFrame (judge f (b ∷ s)) → rule_judged f (b ∷ s) ≡ judged_at f (b ∷ s) + rule_judged f s
  unfolding places
  counted_failed b s h =
      ap (λ (n : ℕ). judged_at f (b ∷ s) + sum_of (map (judged_at f) (places f n s))) (none_passed (read f (b ∷ s)) (no_frame_read f (b ∷ s) h))

  -- A frame's bytes are, and then those of the places behind it and an optional byte.
  pub counted_frame :
      (used : ℕ) (p s : List ℕ) → judge f s ≡ frame used p →
      rule_judged f s ≡ used + rule_judged f (behind_optional f (is_open f used s) (drop used s))
  unfolding places
  counted_frame used p [] e = absurd (not-suc-le-zero (le_trans (frame_sized f [] p used e).some (frame_sized f [] p used e).there))
  counted_frame zero p (b ∷ s) e = absurd (not-suc-le-zero (frame_sized f (b ∷ s) p zero e).some)
  counted_frame (suc used) p (b ∷ s) e =
      let n : ℕ = behind_frame f (b ∷ s) (suc used) in
      let pass : pred (suc used + n) ≡ used + n = omega arith in
      ap₂ (λ (v w : Verdict). judged_as v (b ∷ s) + sum_of (map (judged_at f) (places f (pass_after w) s))) e (read_judged f (b ∷ s) (suc used) p e)
      ∙ ap (λ (l : List (List ℕ)). suc used + sum_of (map (judged_at f) l))
      (ap (λ (k : ℕ). places f k s) pass ∙ places_pass (used + n) s ∙ ap (places f 0) (sym (drop-drop n used s)))

  -- The first place is counted.
  pub first_judged : (b : ℕ) (s : List ℕ) → judged_at f (b ∷ s) ≤ rule_judged f (b ∷ s)
  unfolding places
  first_judged b s = omega arith

  -- Undecided bytes are all judged at their place when more follow.
  more_at : (s more : List ℕ) (v : Verdict) → judge f (s ++ more) ≡ v → judge f s ≡ cut → length s ≤ judged_as v (s ++ more)
  more_at s more cut e q = rw length-append (omega arith)
  more_at s more (refused judged n) e q = by_size (length s - judged) refl
    where
      by_size : (d : ℕ) → length s - judged ≡ d → length s ≤ judged
      by_size zero z = omega arith
      by_size (suc d) z =
          let same : judge f (take (length s) (s ++ more)) ≡ judge f (s ++ more) =
          enough (checks f) (s ++ more) (length s) (subst Decided (sym e) tt) (rw e (omega arith)) in
          absurd (cut≢refused judged n (sym q ∙ ap (judge f) (sym (take-append_seam s more)) ∙ same ∙ e))
  more_at s more (frame used p) e q = by_size (length s - used) refl
    where
      by_size : (d : ℕ) → length s - used ≡ d → length s ≤ used
      by_size zero z = omega arith
      by_size (suc d) z =
          let same : judge f (take (length s) (s ++ more)) ≡ judge f (s ++ more) =
          enough (checks f) (s ++ more) (length s) (subst Decided (sym e) tt) (rw e (omega arith)) in
          absurd (cut≢frame used p (sym q ∙ ap (judge f) (sym (take-append_seam s more)) ∙ same ∙ e))

  pub cut_judged : (s more : List ℕ) → judge f s ≡ cut → length s ≤ judged_at f (s ++ more)
  cut_judged s more q = more_at s more (judge f (s ++ more)) refl q

  -- As much is left out of a count whatever follows.
  pub left_stands : (s more : List ℕ) (judged : ℕ) → judged ≤ length s → min judged (judged_at f s) ≡ min judged (judged_at f (s ++ more))
  left_stands s more judged l = by_verdict (judge f s) refl
    where
      by_verdict : (v : Verdict) → judge f s ≡ v → min judged (judged_at f s) ≡ min judged (judged_at f (s ++ more))
      by_verdict cut e =
          let all : judged_at f s ≡ length s = ap (λ (v : Verdict). judged_as v s) e in omega (arith, all, cut_judged s more e)
      by_verdict (refused j n) e = ap (min judged) (ap (λ (v : Verdict). judged_as v s) e
          ∙ sym (ap (λ (v : Verdict). judged_as v (s ++ more)) (judge_stands f s more (refused j n) tt e)))
      by_verdict (frame used p) e = ap (min judged) (ap (λ (v : Verdict). judged_as v s) e
          ∙ sym (ap (λ (v : Verdict). judged_as v (s ++ more)) (judge_stands f s more (frame used p) tt e)))

  -- What is still to be judged behind settled bytes, where more follow.
  abbrev pub behind_settled : Called → List ℕ → ℕ
  behind_settled st more = judged_after (holding f st.held st.follows (judged_held st.out.frames st.held)) more

  -- One place of settled bytes, where the segment goes on.
  settled_at :
      (b : ℕ) (h more : List ℕ) (later : Called) (v : Verdict) → judge f (b ∷ h) ≡ v →
      rule_judged f (h ++ more) ≡ judged_to f (judge f) h + behind_settled later more →
      rule_judged f ((b ∷ h) ++ more) ≡ judged_as v (b ∷ h) + if_fails v (judged_to f (judge f) h) + behind_settled (settle_as f v (b ∷ h) later) more
  unfolding join
  settled_at b h more later cut e k =
      let w : List ℕ = (b ∷ h) ++ more in
      omega (arith, cut_judged (b ∷ h) more e, first_judged b (h ++ more))
  settled_at b h more later (refused judged n) e k =
      let stands : judge f ((b ∷ h) ++ more) ≡ refused judged n = judge_stands f (b ∷ h) more (refused judged n) tt e in
      let here : judged_at f ((b ∷ h) ++ more) ≡ judged = ap (λ (v : Verdict). judged_as v ((b ∷ h) ++ more)) stands in
      omega (arith, counted_failed b (h ++ more) (subst NoFrame (sym stands) tt), here, k)
  settled_at b h more later (frame used p) e k =
      let s : List ℕ = b ∷ h in
      let size = frame_sized f s p used e in
      let stands : judge f (s ++ more) ≡ frame used p = judge_stands f s more (frame used p) tt e in
      counted_frame used p (s ++ more) stands
      ∙ ap₂ (λ (q : Bool) (t : List ℕ). used + rule_judged f (behind_optional f q t)) (open_append f used size.some s more size.there)
      (drop-append-le used s more size.there)
      ∙ ap₂ ◌+◌ (sym (add-zero used)) (sym (none_left f (is_open f used s) (drop used s) (drop used s ++ more) (rule_judged f)))

  -- All of them.
  pub settled_counts :
      (h more : List ℕ) → rule_judged f (h ++ more) ≡ judged_to f (judge f) h + behind_settled (settle f (judge f) h) more
  unfolding judged_to settle
  settled_counts [] more = sym (zero-add _ ∙ none_left f false [] more (rule_judged f))
  settled_counts (b ∷ h) more = settled_at b h more (settle f (judge f) h) (judge f (b ∷ h)) refl (settled_counts h more)

  -- The same where the segment has ended.
  ended_at :
      (b : ℕ) (h : List ℕ) (later : Called) (v : Verdict) → judge f (b ∷ h) ≡ v →
      rule_judged f h ≡ judged_to f (λ x. ended (judge f x)) h + behind_settled later [] →
      rule_judged f (b ∷ h)
      ≡ judged_as v (b ∷ h) + if_fails (ended v) (judged_to f (λ x. ended (judge f x)) h) + behind_settled (settle_as f (ended v) (b ∷ h) later) []
  unfolding join
  ended_at b h later cut e k =
      let here : judged_at f (b ∷ h) ≡ length (b ∷ h) = ap (λ (v : Verdict). judged_as v (b ∷ h)) e in
      omega (arith, counted_failed b h (subst NoFrame (sym e) tt), here, k)
  ended_at b h later (refused judged n) e k =
      let here : judged_at f (b ∷ h) ≡ judged = ap (λ (v : Verdict). judged_as v (b ∷ h)) e in
      omega (arith, counted_failed b h (subst NoFrame (sym e) tt), here, k)
  ended_at b h later (frame used p) e k =
      let s : List ℕ = b ∷ h in
      counted_frame used p s e
      ∙ ap₂ ◌+◌ (sym (add-zero used))
      (ap (λ (t : List ℕ). rule_judged f (behind_optional f (is_open f used s) t)) (sym (append-nil (drop used s)))
      ∙ sym (none_left f (is_open f used s) (drop used s) (drop used s ++ []) (rule_judged f)))

  pub ended_counts :
      (h : List ℕ) →
      rule_judged f h ≡ judged_to f (λ x. ended (judge f x)) h + behind_settled (settle f (λ x. ended (judge f x)) h) []
  unfolding judged_to settle
  ended_counts [] = sym (zero-add _ ∙ none_left f false [] [] (rule_judged f))
  ended_counts (b ∷ h) = ended_at b h (settle f (λ x. ended (judge f x)) h) (judge f (b ∷ h)) refl (ended_counts h)
