-- Laws of what the calls over one chunk, or of one quiet, give together.
-- Assumes nothing.
use Prim.Native.Nat.{ℕ, zero, suc, pred, ◌+◌, ◌≤◌, zero-le, suc-le-suc}
use native.Mathlib.Nat.{le_of_suc-le-suc, not-suc-le-zero, le_trans}
use native.Mathlib.Omega.{arith}
use mathlib.Core.Path.{◌≡◌, refl, sym, ap, ap₂, ◌∙◌, subst}
use mathlib.Core.List.{List, [], ◌∷◌, ◌++◌, append-nil, append_assoc}
use mathlib.Core.Logic.{⊎_elim}
use mathlib.Core.Bool.{Bool, true, false, cond}
use lib.ListN.{length, drop, length-append}
use lib.Seq.{drop-append-le}
use Rattle.frame.specs.Checks.{Verdict, cut, refused, frame}
use Rattle.frame.specs.Framing.{judge, read, is_open, is_optional, behind_optional}
use Rattle.frame.specs.Rule.{Output, nothing, join, out_at, payloads}
use Rattle.reader.specs.Reader.{Called, line}
use Rattle.reader.specs.Drain.{Drained, drained, before, drain_as, follows_after, drain_from}
use Rattle.frame.specs.Steps.{pass_after, noise_byte, handed}
use Rattle.reader.specs.Draining.{LineDrains, NeedsMoreIsDrained, DrainFollowsRule, DrainIsSized, overhead, size_of, RuleIsSized}
use Rattle.frame.specs.declared.framing.Footer.TheVariants.{Optional, Required}
use Rattle.frame.specs.declared.framing.Ending.TheVariants.{CrLf, Any}
use Rattle.frame.specs.declared.framing.Format.{Format}
use Rattle.frame.specs.declared.framing.Format.TheVariants.{Binary, Ascii}
use Rattle.frame.proofs.Framings.{judged_length, frame_sized, used_is, payload_size}
use Rattle.frame.proofs.Optional.{open_append, read_frame, read_sized}
use Rattle.frame.proofs.Rules.{join_nothing, join_assoc, rule_from, rule_walk, given, given_behind, given_failed, given_judged}
use Rattle.reader.proofs.Settling.{line_over_lem, line_unmarked, needs_more_is_true}
use Rattle.frame.proofs.Shapes.{NoFrame, IsRefused, judge_stands}

-- Nothing before what was drained adds nothing.
before_nothing : (st : Drained) → before nothing st ≡ st
before_nothing st = ap (λ (o : Output (List ℕ)). drained o st.held st.follows) (join_nothing st.out)

-- Outputs are put before it in any grouping.
before_join : (x y : Output (List ℕ)) (st : Drained) → before (join x y) st ≡ before x (before y st)
before_join x y st = ap (λ (o : Output (List ℕ)). drained o st.held st.follows) (join_assoc x y st.out)

module _ (f : Format) where
  -- To pass over bytes is to begin behind them.
  drain_pass : (follows : Bool) (pass : ℕ) (s : List ℕ) → drain_from f follows pass s ≡ drain_from f follows 0 (drop pass s)
  unfolding drain_from
  drain_pass follows zero s = refl
  drain_pass follows (suc pass) [] = refl
  drain_pass follows (suc pass) (b ∷ s) = drain_pass follows pass s

  -- An optional byte that may follow is passed over.
  drain_skip : (follows : Bool) (b : ℕ) (s : List ℕ) → drain_from f follows 0 (b ∷ s) ≡ drain_from f false 0 (behind_optional f follows (b ∷ s))
  unfolding drain_from
  drain_skip false b s = refl
  drain_skip true b s = by_byte (is_optional f b)
    where
      by_byte :
          (q : Bool) →
          cond q (drain_from f false 0 s)
          (drain_as (judge f (b ∷ s)) (b ∷ s) (drain_from f (follows_after f (judge f (b ∷ s)) (b ∷ s)) (pass_after (judge f (b ∷ s))) s))
          ≡ drain_from f false 0 (drop (cond q 1 0) (b ∷ s))
      by_byte true = refl
      by_byte false = refl

  -- What is drained at a place of this verdict.
  abbrev drained_as : Verdict → ℕ → List ℕ → Drained
  drained_as v b s = drain_as v (b ∷ s) (drain_from f (follows_after f v (b ∷ s)) (pass_after v) s)

  drain_here : (b : ℕ) (s : List ℕ) (v : Verdict) → judge f (b ∷ s) ≡ v → drain_from f false 0 (b ∷ s) ≡ drained_as v b s
  unfolding drain_from
  drain_here b s v e = ap (λ (x : Verdict). drained_as x b s) e

  noise_at : (b : ℕ) (s : List ℕ) (v : Verdict) → IsRefused v → drained_as v b s ≡ before noise_byte (drain_from f false 0 s)
  noise_at b s cut h = absurd h
  noise_at b s (refused judged n) h = refl
  noise_at b s (frame used p) h = absurd h

  -- Where the bytes are refused, one is noise.
  drain_noise : (b : ℕ) (s : List ℕ) → IsRefused (judge f (b ∷ s)) → drain_from f false 0 (b ∷ s) ≡ before noise_byte (drain_from f false 0 s)
  drain_noise b s h = drain_here b s (judge f (b ∷ s)) refl ∙ noise_at b s (judge f (b ∷ s)) h

  -- A frame is handed out, and the rule goes on behind it, where an optional byte may follow.
  drain_frame :
      (used : ℕ) (p s : List ℕ) → judge f s ≡ frame used p → drain_from f false 0 s ≡ before (handed p) (drain_from f (is_open f used s) 0 (drop used s))
  drain_frame used p [] e = absurd (not-suc-le-zero (le_trans (frame_sized f [] p used e).some (frame_sized f [] p used e).there))
  drain_frame zero p (b ∷ s) e = absurd (not-suc-le-zero (frame_sized f (b ∷ s) p zero e).some)
  drain_frame (suc used) p (b ∷ s) e = drain_here b s (frame (suc used) p) e ∙ ap (before (handed p)) (drain_pass (is_open f (suc used) (b ∷ s)) used s)

  -- Undecided bytes stay.
  drain_cut : (s : List ℕ) → judge f s ≡ cut → drain_from f false 0 s ≡ drained nothing s false
  unfolding drain_from
  drain_cut [] e = refl
  drain_cut (b ∷ s) e = drain_here b s cut e

  -- Of nothing nothing is drained, and the mark stays.
  drain_nil : (follows : Bool) (s : List ℕ) → s ≡ [] → drain_from f follows 0 s ≡ drained nothing s follows
  unfolding drain_from
  drain_nil follows s e = rw e

  -- What was drained gave the first part of what the rule gives, and the bytes still held stand for the rest of it.
  abbrev Leads : Output (List ℕ) → Drained → List ℕ → Type 0
  Leads o st more = o ≡ join st.out (given_behind f st.follows (st.held ++ more))

  -- At a place with this verdict.
  drain_at :
      (b : ℕ) (s more : List ℕ) (v : Verdict) → judge f (b ∷ s) ≡ v →
      ((follows : Bool) (pass : ℕ) → pass ≤ length s → Leads (given_behind f follows (drop pass s ++ more)) (drain_from f follows pass s) more) →
      Leads (given f ((b ∷ s) ++ more)) (drained_as v b s) more
  drain_at b s more cut e later = sym (join_nothing (given f ((b ∷ s) ++ more)))
  drain_at b s more (refused judged n) e later =
      let st : Drained = drain_from f false 0 s in
      given_failed f b (s ++ more) (subst NoFrame (sym (judge_stands f (b ∷ s) more (refused judged n) tt e)) tt)
      ∙ ap (join noise_byte) (later false 0 zero-le)
      ∙ sym (join_assoc noise_byte st.out (given_behind f st.follows (st.held ++ more)))
  drain_at b s more (frame zero p) e later = absurd (not-suc-le-zero (frame_sized f (b ∷ s) p zero e).some)
  drain_at b s more (frame (suc used) p) e later =
      let inside : used ≤ length s = omega (arith, (frame_sized f (b ∷ s) p (suc used) e).there) in
      let q : Bool = is_open f (suc used) (b ∷ s) in
      let st : Drained = drain_from f q used s in
      given_judged f (suc used) p ((b ∷ s) ++ more) (judge_stands f (b ∷ s) more (frame (suc used) p) tt e)
      ∙ ap₂ (λ (x : Bool) (t : List ℕ). join (handed p) (given_behind f x t))
      (open_append f (suc used) (suc-le-suc zero-le) (b ∷ s) more (suc-le-suc inside))
      (drop-append-le used s more inside)
      ∙ ap (join (handed p)) (later q used inside)
      ∙ sym (join_assoc (handed p) st.out (given_behind f st.follows (st.held ++ more)))

  -- At a place where an optional byte may stand.
  drain_first :
      (follows : Bool) (b : ℕ) (s more : List ℕ) →
      ((follows : Bool) (pass : ℕ) → pass ≤ length s → Leads (given_behind f follows (drop pass s ++ more)) (drain_from f follows pass s) more) →
      Leads (given_behind f follows ((b ∷ s) ++ more)) (drain_from f follows 0 (b ∷ s)) more
  unfolding drain_from
  drain_first false b s more later = drain_at b s more (judge f (b ∷ s)) refl later
  drain_first true b s more later = by_byte (is_optional f b)
    where
      by_byte :
          (q : Bool) →
          Leads (given f (drop (cond q 1 0) ((b ∷ s) ++ more))) (cond q (drain_from f false 0 s) (drained_as (judge f (b ∷ s)) b s)) more
      by_byte true = later false 0 zero-le
      by_byte false = drain_at b s more (judge f (b ∷ s)) refl later

  drain_rule :
      (follows : Bool) (pass : ℕ) (s more : List ℕ) → pass ≤ length s →
      Leads (given_behind f follows (drop pass s ++ more)) (drain_from f follows pass s) more
  unfolding drain_from
  drain_rule follows zero [] more l = sym (join_nothing (given_behind f follows more))
  drain_rule follows (suc pass) [] more l = absurd (not-suc-le-zero l)
  drain_rule follows zero (b ∷ s) more l = drain_first follows b s more (λ follows pass. drain_rule follows pass s more)
  drain_rule follows (suc pass) (b ∷ s) more l = drain_rule follows pass s more (le_of_suc-le-suc l)

  -- A frame has its payload and so many bytes more.
  frame_holds : (s p : List ℕ) (used : ℕ) → judge f s ≡ frame used p → length p + overhead f ≤ used
  frame_holds s p used e = holds f (used_is f s p used e) (payload_size f s p used e).0
    where
      holds : (g : Format) → used ≡ judged_length g (length p) → 1 ≤ length p → length p + overhead g ≤ used
      holds (Binary Optional) e some = omega arith
      holds (Binary Required) e some = omega arith
      holds (Ascii CrLf) e some = omega arith
      holds (Ascii Any) e some = omega arith

-- A line call gives the first part of what its bytes give.
pub line_drains : LineDrains
line_drains s chunk =
    let f : Format = s.format in
    let c : Called = line s chunk in
    rw append-nil at
    (line_over_lem f IsRefused (λ follows t. drain_from f follows 0 t) before before_nothing before_join (drain_noise f) (drain_frame f) (λ _ _. tt) (drain_skip f)
    s.follows s.held chunk [])

-- Where nothing comes out of a line call, all is drained.
pub needs_more_is_drained : NeedsMoreIsDrained
needs_more_is_drained s chunk e =
    let f : Format = s.format in
    let c : Called = line s chunk in
    ap (drain_from f c.follows 0) (append-nil c.held)
    ∙ ⊎_elim
    (drain_nil f c.follows c.held)
    (λ (h : judge f c.held ≡ cut).
    ⊎_elim
    (drain_nil f c.follows c.held)
    (λ (u : c.follows ≡ false). rw u (drain_cut f c.held h))
    (line_unmarked f s.follows s.held chunk e))
    (needs_more_is_true s chunk e).1

-- What is drained, and then the rule over what is left and what follows, is the rule over all.
pub drain_follows_rule : DrainFollowsRule
drain_follows_rule s chunk more =
    let f : Format = s.format in
    ap (given_behind f s.follows) (sym (append_assoc s.held chunk more)) ∙ drain_rule f s.follows 0 (s.held ++ chunk) more zero-le

module _ (f : Format) where
  -- What was drained of n bytes, with `pass` of them passed over, takes no more than there are.
  abbrev Covers : Drained → ℕ → ℕ → Type 0
  Covers st pass n = size_of f st.out + length st.held + pass ≤ n

  -- One place of what is drained.
  drained_at :
      (b : ℕ) (s : List ℕ) (v : Verdict) → judge f (b ∷ s) ≡ v →
      ((follows : Bool) (pass : ℕ) → pass ≤ length s → Covers (drain_from f follows pass s) pass (length s)) →
      Covers (drained_as f v b s) 0 (suc (length s))
  unfolding join
  drained_at b s cut e later = omega arith
  drained_at b s (refused judged n) e later = omega (arith, later false 0 zero-le)
  drained_at b s (frame used p) e later =
      let h = frame_sized f (b ∷ s) p used e in
      let l : pred used ≤ length s = omega (arith, h.some, h.there) in
      omega (arith, later (is_open f used (b ∷ s)) (pred used) l, h.some, frame_holds f (b ∷ s) p used e)

  drained_first :
      (follows : Bool) (b : ℕ) (s : List ℕ) →
      ((follows : Bool) (pass : ℕ) → pass ≤ length s → Covers (drain_from f follows pass s) pass (length s)) →
      Covers (drain_from f follows 0 (b ∷ s)) 0 (suc (length s))
  unfolding drain_from
  drained_first false b s later = drained_at b s (judge f (b ∷ s)) refl later
  drained_first true b s later = by_byte (is_optional f b)
    where
      by_byte : (q : Bool) → Covers (cond q (drain_from f false 0 s) (drained_as f (judge f (b ∷ s)) b s)) 0 (suc (length s))
      by_byte true = omega (arith, later false 0 zero-le)
      by_byte false = drained_at b s (judge f (b ∷ s)) refl later

  drained_size : (follows : Bool) (pass : ℕ) (s : List ℕ) → pass ≤ length s → Covers (drain_from f follows pass s) pass (length s)
  unfolding drain_from
  drained_size follows pass [] l = omega arith
  drained_size follows zero (b ∷ s) l = drained_first follows b s (λ follows pass. drained_size follows pass s)
  drained_size follows (suc pass) (b ∷ s) l = omega (arith, drained_size follows pass s (le_of_suc-le-suc l))

  -- One place of the rule.
  ruled_at :
      (place b : ℕ) (s : List ℕ) (v : Verdict) → read f (b ∷ s) ≡ v →
      ((pass : ℕ) → pass ≤ length s → size_of f (payloads (rule_from f (suc place) pass s)) + pass ≤ length s) →
      size_of f (payloads (join (out_at place v) (rule_from f (suc place) (pass_after v) s))) ≤ suc (length s)
  unfolding join
  ruled_at place b s cut e later = omega (arith, later 0 zero-le)
  ruled_at place b s (refused judged n) e later = omega (arith, later 0 zero-le)
  ruled_at place b s (frame used p) e later =
      let h = read_sized f (b ∷ s) p used e in
      let (judged, is, size) = read_frame f (b ∷ s) used p e in
      let l : pred used ≤ length s = omega (arith, h.some, h.there) in
      omega (arith, later (pred used) l, h.some, frame_holds f (b ∷ s) p judged is)

  ruled_size : (place pass : ℕ) (s : List ℕ) → pass ≤ length s → size_of f (payloads (rule_from f place pass s)) + pass ≤ length s
  unfolding rule_from
  ruled_size place pass [] l = omega arith
  ruled_size place zero (b ∷ s) l = omega (arith, ruled_at place b s (read f (b ∷ s)) refl (λ pass. ruled_size (suc place) pass s))
  ruled_size place (suc pass) (b ∷ s) l = omega (arith, ruled_size (suc place) pass s (le_of_suc-le-suc l))

  -- What the rule gives takes no more bytes than there are.
  pub rule_is_sized : RuleIsSized f
  rule_is_sized s = rw (rule_walk f s) (omega (arith, ruled_size 0 0 s zero-le))

-- What is drained takes no more bytes than were held and offered.
pub drain_is_sized : DrainIsSized
drain_is_sized s chunk = omega (arith, drained_size s.format s.follows 0 (s.held ++ chunk) zero-le, length-append s.held chunk)
