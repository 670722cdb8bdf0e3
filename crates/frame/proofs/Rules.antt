-- Laws of the leftmost rule, for all formats at once.
-- Assumes nothing.
use Rattle.std.proofs.Common.{◌≡◌, ℕ, zero, suc, pred, ◌+◌, ◌≤◌, Bool, List, [], ◌∷◌, ◌++◌, map, length, drop, sym, refl, ap, ◌∙◌, subst, append_assoc, zero-le, le_trans, le_of_suc-le-suc, not-suc-le-zero, add-zero, add_assoc, add-suc, suc-add, zero-add, arith, drop-drop}
use mathlib.Core.List.{map-append}
use Rattle.frame.specs.Checks.{Verdict, cut, refused, frame}
use Rattle.frame.specs.Hex.{sum_of}
use Rattle.frame.specs.Framing.{judge, read, is_open, absorbed, behind_optional}
use Rattle.frame.specs.Rule.{Output, output, nothing, join, on_by, places, Found, found_at, out_at, out_from, rule, payloads}
use Rattle.frame.specs.Elements.{All}
use Rattle.frame.specs.Claims.{BytesAddUp}
use Rattle.frame.specs.Steps.{pass_after, noise_byte, handed}
use Rattle.frame.specs.declared.framing.Format.{Format}
use Rattle.frame.proofs.Shapes.{NoFrame, judge_stands}
use Rattle.frame.proofs.Optional.{absorbed_nil, behind_frame, read_judged, read_cut, read_refused, read_stands, no_frame_read, read_sized}

-- Outputs join in any grouping, and nothing adds nothing.
module _ {A : Type 0} where
  -- Nothing before an output adds nothing.
  pub join_nothing : (o : Output A) → join nothing o ≡ o
  unfolding join
  join_nothing o = λ i. output o.frames (zero-add o.noise i)

  -- Outputs join in any grouping.
  pub join_assoc : (a b c : Output A) → join (join a b) c ≡ join a (join b c)
  unfolding join
  join_assoc a b c =
      λ i. output (append_assoc a.frames b.frames c.frames i) (add_assoc a.noise b.noise c.noise i)

-- The rule over s, whose first byte stands at `place`, with `pass` bytes to pass over first: places and what is found there in one walk.
unfoldable pub rule_from : Format → ℕ → ℕ → List ℕ → Output Found
rule_from f place pass [] = nothing
rule_from f place zero (b ∷ s) =
    join (out_at place (read f (b ∷ s))) (rule_from f (suc place) (pass_after (read f (b ∷ s))) s)
rule_from f place (suc pass) (b ∷ s) = rule_from f (suc place) pass s

module _ (f : Format) where
  -- The rule goes on by a byte or more, and no further than the bytes behind a place.
  on_by_lem : (b : ℕ) (s : List ℕ) (v : Verdict) → read f (b ∷ s) ≡ v → (on_by v ≡ suc (pass_after v)) × (pass_after v ≤ length s)
  on_by_lem b s cut e = (refl, zero-le)
  on_by_lem b s (refused judged n) e = (refl, zero-le)
  on_by_lem b s (frame used p) e =
      let h = read_sized f (b ∷ s) p used e in
      let some : used ≡ suc (pred used) = omega (arith, h.some) in
      let inside : pred used ≤ length s = omega (arith, h.some, h.there) in
      (some, inside)

  -- What is found at the rule's places is what the walk gives.
  found_walk : (place pass : ℕ) (s : List ℕ) → pass ≤ length s → out_from f (place + pass) (places f pass s) ≡ rule_from f place pass s
  unfolding out_from places rule_from
  found_walk place pass [] l = refl
  found_walk place zero (b ∷ s) l =
      let v : Verdict = read f (b ∷ s) in
      let h = on_by_lem b s v refl in
      let next : place + on_by v ≡ suc place + pass_after v = omega (arith, h.0) in
      rw (add-zero, next) (ap (join (out_at place v)) (found_walk (suc place) (pass_after v) s h.1))
  found_walk place (suc pass) (b ∷ s) l =
      let next : place + suc pass ≡ suc place + pass = omega arith in rw next (found_walk (suc place) pass s (le_of_suc-le-suc l))

  -- The rule over a segment is the walk from its first byte on.
  pub rule_walk : (s : List ℕ) → rule f s ≡ rule_from f 0 0 s
  unfolding rule
  rule_walk s = found_walk 0 0 s zero-le

-- The bytes of an output: those of its frames and its noise.
abbrev bytes_of : Output Found → ℕ
bytes_of o = sum_of (map (λ (x : Found). x.used) o.frames) + o.noise

-- Every frame that the rule gives uses a byte.
used_at :
    (f : Format) (place b : ℕ) (s : List ℕ) (v : Verdict) → read f (b ∷ s) ≡ v →
    ((pass : ℕ) → All (λ x. 1 ≤ x.used) (rule_from f (suc place) pass s).frames) →
    All (λ x. 1 ≤ x.used) (join (out_at place v) (rule_from f (suc place) (pass_after v) s)).frames
unfolding join
used_at f place b s cut e later = later 0
used_at f place b s (refused judged n) e later = later 0
used_at f place b s (frame used p) e later = ((read_sized f (b ∷ s) p used e).some, later (pred used))

rule_used : (f : Format) (place pass : ℕ) (s : List ℕ) → All (λ x. 1 ≤ x.used) (rule_from f place pass s).frames
unfolding rule_from
rule_used f place pass [] = tt
rule_used f place zero (b ∷ s) = used_at f place b s (read f (b ∷ s)) refl (λ pass. rule_used f (suc place) pass s)
rule_used f place (suc pass) (b ∷ s) = rule_used f (suc place) pass s

-- Frames that use a byte each are no more than their bytes.
count_used : (xs : List Found) → All (λ x. 1 ≤ x.used) xs → length xs ≤ sum_of (map (λ (x : Found). x.used) xs)
count_used [] h = zero-le
count_used (x ∷ xs) h = omega (arith, count_used xs h.1, h.0)

-- One place of the rule: its byte, or the frame there, and what lies behind.
add_up_at :
    (f : Format) (place b : ℕ) (s : List ℕ) (v : Verdict) → read f (b ∷ s) ≡ v →
    ((pass : ℕ) → pass ≤ length s → bytes_of (rule_from f (suc place) pass s) + pass ≡ length s) →
    bytes_of (join (out_at place v) (rule_from f (suc place) (pass_after v) s)) ≡ suc (length s)
unfolding join
add_up_at f place b s cut e later = omega (arith, later 0 zero-le)
add_up_at f place b s (refused judged n) e later = omega (arith, later 0 zero-le)
add_up_at f place b s (frame used p) e later =
    let h = read_sized f (b ∷ s) p used e in
    let l : pred used ≤ length s = omega (arith, h.some, h.there) in
    omega (arith, later (pred used) l, h.some)

-- The bytes that the rule gives out behind those it passes over are all the others.
add_up : (f : Format) (place pass : ℕ) (s : List ℕ) → pass ≤ length s → bytes_of (rule_from f place pass s) + pass ≡ length s
unfolding rule_from
add_up f place pass [] h = omega arith
add_up f place zero (b ∷ s) h =
    add-zero _ ∙ add_up_at f place b s (read f (b ∷ s)) refl (λ pass l. add_up f (suc place) pass s l)
add_up f place (suc pass) (b ∷ s) h = omega (arith, add_up f (suc place) pass s (le_of_suc-le-suc h))

-- The bytes of a segment are those of its frames and noise.
pub bytes_add_up : (f : Format) → BytesAddUp f
bytes_add_up f s = rw (rule_walk f s) (sym (add-zero (bytes_of (rule_from f 0 0 s))) ∙ add_up f 0 0 s zero-le)

-- The rule gives no more frames than there are bytes.
pub rule_few : (f : Format) (s : List ℕ) → length (rule f s).frames ≤ length s
rule_few f s = omega (arith, bytes_add_up f s, count_used (rule f s).frames (rw (rule_walk f s) (rule_used f 0 0 s)))

module _ (f : Format) where
  -- To pass over bytes is to begin behind them.
  pub rule_pass : (place pass : ℕ) (s : List ℕ) → rule_from f place pass s ≡ rule_from f (place + pass) 0 (drop pass s)
  unfolding rule_from
  rule_pass place zero s = rw add-zero
  rule_pass place (suc pass) [] = refl
  rule_pass place (suc pass) (b ∷ s) = rule_pass (suc place) pass s ∙ rw (suc-add, add-suc)

  noise_at :
      (place b : ℕ) (s : List ℕ) (v : Verdict) → NoFrame v →
      join (out_at place v) (rule_from f (suc place) (pass_after v) s) ≡ join noise_byte (rule_from f (suc place) 0 s)
  noise_at place b s cut h = refl
  noise_at place b s (refused judged n) h = refl
  noise_at place b s (frame used p) h = absurd h

  -- Where no frame stands, one byte is noise.
  pub rule_noise :
      (place b : ℕ) (s : List ℕ) → NoFrame (read f (b ∷ s)) → rule_from f place 0 (b ∷ s) ≡ join noise_byte (rule_from f (suc place) 0 s)
  unfolding rule_from
  rule_noise place b s h = noise_at place b s (read f (b ∷ s)) h

  -- A frame is handed out, and the rule goes on behind it.
  pub rule_frame :
      (place used : ℕ) (p s : List ℕ) → read f s ≡ frame used p →
      rule_from f place 0 s ≡ join (handed (found_at place used p)) (rule_from f (place + used) 0 (drop used s))
  unfolding rule_from
  rule_frame place used p [] e = absurd (not-suc-le-zero (le_trans (read_sized f [] p used e).some (read_sized f [] p used e).there))
  rule_frame place zero p (b ∷ s) e = absurd (not-suc-le-zero (read_sized f (b ∷ s) p zero e).some)
  rule_frame place (suc used) p (b ∷ s) e =
      ap (λ (v : Verdict). join (out_at place v) (rule_from f (suc place) (pass_after v) s)) e
      ∙ ap (join (handed (found_at place (suc used) p))) (rule_pass (suc place) used s ∙ rw (suc-add, add-suc))

-- Payloads of joined outputs are joined payloads.
pub payloads_join : (a b : Output Found) → payloads (join a b) ≡ join (payloads a) (payloads b)
unfolding join
payloads_join a b =
    λ i. output (map-append (λ (x : Found). x.payload) a.frames b.frames i) (a.noise + b.noise)

-- The payload at a place does not depend on where the place is.
payloads_at : (place place' : ℕ) (v : Verdict) → payloads (out_at place v) ≡ payloads (out_at place' v)
payloads_at place place' cut = refl
payloads_at place place' (refused judged n) = refl
payloads_at place place' (frame used p) = refl

-- The payloads of a segment: what its rule gives, without the places.
abbrev pub given : Format → List ℕ → Output (List ℕ)
given f s = payloads (rule f s)

module _ (f : Format) where
  -- Wherever a segment begins, its payloads are the same.
  pub any_place : (place place' pass : ℕ) (s : List ℕ) → payloads (rule_from f place pass s) ≡ payloads (rule_from f place' pass s)
  unfolding rule_from
  any_place place place' pass [] = refl
  any_place place place' zero (b ∷ s) =
      let v = read f (b ∷ s) in
      payloads_join (out_at place v) (rule_from f (suc place) (pass_after v) s)
      ∙ ap (λ (o : Output (List ℕ)). join o (payloads (rule_from f (suc place) (pass_after v) s))) (payloads_at place place' v)
      ∙ ap (join (payloads (out_at place' v))) (any_place (suc place) (suc place') (pass_after v) s)
      ∙ sym (payloads_join (out_at place' v) (rule_from f (suc place') (pass_after v) s))
  any_place place place' (suc pass) (b ∷ s) = any_place (suc place) (suc place') pass s

  -- Where no frame stands, one byte is noise.
  pub given_noise : (b : ℕ) (s : List ℕ) → NoFrame (read f (b ∷ s)) → given f (b ∷ s) ≡ join noise_byte (given f s)
  given_noise b s h =
      rw (rule_walk f (b ∷ s), rule_walk f s)
      (ap payloads (rule_noise f 0 b s h) ∙ payloads_join noise_byte (rule_from f 1 0 s) ∙ ap (join noise_byte) (any_place 1 0 0 s))

  -- A frame's payload is handed out, and the rule goes on behind it.
  pub given_frame : (used : ℕ) (p s : List ℕ) → read f s ≡ frame used p → given f s ≡ join (handed p) (given f (drop used s))
  given_frame used p s e =
      ap payloads (rule_walk f s ∙ rule_frame f 0 used p s e)
      ∙ payloads_join (handed (found_at 0 used p)) (rule_from f (0 + used) 0 (drop used s))
      ∙ ap (join (handed p)) (any_place (0 + used) 0 0 (drop used s) ∙ ap payloads (sym (rule_walk f (drop used s))))

-- What the rule gives from a place on where an optional byte may stand there: it is passed over.
abbrev pub given_behind : Format → Bool → List ℕ → Output (List ℕ)
given_behind f follows s = given f (behind_optional f follows s)

module _ (f : Format) where
  -- Where the bytes are judged to be no frame, one is noise.
  pub given_failed : (b : ℕ) (s : List ℕ) → NoFrame (judge f (b ∷ s)) → given f (b ∷ s) ≡ join noise_byte (given f s)
  given_failed b s h = given_noise f b s (no_frame_read f (b ∷ s) h)

  -- Where they are judged a frame, its payload is handed out, and behind it an optional byte is passed over.
  pub given_judged :
      (used : ℕ) (p s : List ℕ) → judge f s ≡ frame used p → given f s ≡ join (handed p) (given_behind f (is_open f used s) (drop used s))
  given_judged used p s e =
      given_frame f (used + behind_frame f s used) p s (read_judged f s used p e)
      ∙ ap (λ (t : List ℕ). join (handed p) (given f t)) (sym (drop-drop (behind_frame f s used) used s))

-- Of no bytes the rule gives nothing.
given_nil : (f : Format) → given f [] ≡ nothing
unfolding rule out_from places
given_nil f = refl

-- Behind a mark too.
pub given_behind_nil : (f : Format) (follows : Bool) → given_behind f follows [] ≡ nothing
given_behind_nil f follows = ap (λ (n : ℕ). given f (drop n [])) (absorbed_nil f follows) ∙ given_nil f

-- Where what follows makes no frame of an undecided start and does not begin with an optional byte, the rule over both is the rule over each.
module _ (f : Format) (more : List ℕ) (breaks : (b : ℕ) (s : List ℕ) → judge f (b ∷ s) ≡ cut → NoFrame (judge f ((b ∷ s) ++ more)))
    (plain : (follows : Bool) → absorbed f follows more ≡ 0) where
  -- What stands in the first part at a place stands there with the second part behind it.
  split_at :
      (place b : ℕ) (s : List ℕ) (v : Verdict) → judge f (b ∷ s) ≡ v →
      (rule_from f place 0 ((b ∷ s) ++ more)
      ≡ join (out_at place (read f (b ∷ s))) (rule_from f (suc place) (pass_after (read f (b ∷ s))) (s ++ more)))
      × (pass_after (read f (b ∷ s)) ≤ length s)
  unfolding rule_from
  split_at place b s cut e =
      rw (read_cut f (b ∷ s) e) (rule_noise f place b (s ++ more) (no_frame_read f ((b ∷ s) ++ more) (breaks b s e)), zero-le)
  split_at place b s (refused judged n) e =
      rw (read_refused f (b ∷ s) judged n e) (
        rule_noise f place b (s ++ more)
            (no_frame_read f ((b ∷ s) ++ more) (subst NoFrame (sym (judge_stands f (b ∷ s) more (refused judged n) tt e)) tt)),
        zero-le,
      )
  split_at place b s (frame used p) e =
      let here : read f (b ∷ s) ≡ frame (used + behind_frame f (b ∷ s) used) p = read_judged f (b ∷ s) used p e in
      let same : read f ((b ∷ s) ++ more) ≡ read f (b ∷ s) = read_stands f (b ∷ s) more used p e (plain (is_open f used (b ∷ s))) in
      let r = read_sized f (b ∷ s) p (used + behind_frame f (b ∷ s) used) here in
      let inside : pred (used + behind_frame f (b ∷ s) used) ≤ length s = omega (arith, r.some, r.there) in
      (ap (λ (v : Verdict). join (out_at place v) (rule_from f (suc place) (pass_after v) (s ++ more))) same, rw here inside)

  -- The rule over both parts.
  pub rule_split :
      (place pass : ℕ) (s : List ℕ) → pass ≤ length s →
      rule_from f place pass (s ++ more) ≡ join (rule_from f place pass s) (rule_from f (place + length s) 0 more)
  unfolding rule_from
  rule_split place zero [] l = sym (join_nothing (rule_from f (place + 0) 0 more) ∙ rw add-zero)
  rule_split place (suc pass) [] l = absurd (not-suc-le-zero l)
  rule_split place zero (b ∷ s) l =
      let v : Verdict = read f (b ∷ s) in
      let k = split_at place b s (judge f (b ∷ s)) refl in
      k.0
      ∙ ap (join (out_at place v)) (rule_split (suc place) (pass_after v) s k.1)
      ∙ sym (join_assoc (out_at place v) (rule_from f (suc place) (pass_after v) s) (rule_from f (suc place + length s) 0 more))
      ∙ rw (suc-add, add-suc)
  rule_split place (suc pass) (b ∷ s) l = rule_split (suc place) pass s (le_of_suc-le-suc l) ∙ rw (suc-add, add-suc)
