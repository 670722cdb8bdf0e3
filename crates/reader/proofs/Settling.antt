-- Laws of held bytes and of the line and quiet calls over them: what they hand out is what the leftmost rule gives.
-- Assumes nothing.
use Prim.Native.Nat.{ℕ, suc, ◌≤◌, zero-le, suc-le-suc}
use native.Mathlib.Nat.{le_refl, le_trans, le_step}
use native.Mathlib.Omega.{arith}
use mathlib.Core.Path.{◌≡◌, refl, sym, ap, ap₂, ◌∙◌, subst}
use mathlib.Core.List.{List, [], ◌∷◌, ◌++◌, append_assoc, append-nil, cons≢nil}
use mathlib.Core.Logic.{◌⊎◌, inl, inr, ⊎_elim}
use mathlib.Core.Bool.{Bool, false}
use lib.ListN.{length, drop, length-append, length-drop}
use lib.Seq.{drop-append-le, drop-drop}
use Rattle.frame.specs.Checks.{Verdict, cut, refused, frame}
use Rattle.frame.specs.Framing.{judge, is_open, absorbed, limit, behind_optional}
use Rattle.frame.specs.Rule.{Output, nothing, join}
use Rattle.reader.specs.Reader.{State, Called, settle_as, settle, stopped, one_more, if_frame, line_from, line_on, line_behind, line}
use Rattle.reader.specs.Reader.{ended, quiet_held, quiet, after}
use Rattle.reader.specs.Drain.{rule_after}
use Rattle.frame.specs.Steps.{noise_byte, handed}
use Rattle.reader.specs.Claims.{NeedsMoreIsTrue}
use Rattle.reader.specs.Draining.{QuietFollowsRule, EmptyIsDrained}
use Rattle.frame.specs.Further.{Sized}
use Rattle.reader.specs.Further.{TakenIsInside}
use Rattle.frame.specs.declared.framing.Format.{Format}
use Rattle.frame.specs.declared.framing.Format.TheVariants.{Binary, Ascii}
use Rattle.frame.proofs.Shapes.{NoFrame, judge_stands}
use Rattle.frame.proofs.Framings.{frame_sized, undecided_short}
use Rattle.frame.proofs.Optional.{open_append, absorbed_there, absorbed_front}
use Rattle.frame.proofs.Rules.{join_nothing, join_assoc, given, given_behind, given_failed, given_judged}

-- Where no frame came out of settling, no mark is set.
unmarked_at :
    (f : Format) (h : List ℕ) (later : Called) (v : Verdict) → (later.out.frames ≡ [] → later.follows ≡ false) →
    (settle_as f v h later).out.frames ≡ [] → (settle_as f v h later).follows ≡ false
unfolding join
unmarked_at f h later cut u e = refl
unmarked_at f h later (refused judged n) u e = u e
unmarked_at f h later (frame used p) u e = absurd (cons≢nil e)

unmarked : (f : Format) (judgement : List ℕ → Verdict) (h : List ℕ) → (settle f judgement h).out.frames ≡ [] → (settle f judgement h).follows ≡ false
unfolding settle
unmarked f judgement [] e = refl
unmarked f judgement (b ∷ h) e = unmarked_at f (b ∷ h) (settle f judgement h) (judgement (b ∷ h)) (unmarked f judgement h) e

-- A decision on held bytes stands whatever follows.
module _ (f : Format) (Fails : Verdict → Type 0) where
  -- The held bytes h were judged so, and what follows them does not change it.
  abbrev Agrees : List ℕ → Verdict → List ℕ → Type 0
  Agrees more cut h = Unit {0}
  Agrees more (refused judged n) h = Fails (judge f (h ++ more))
  Agrees more (frame used p) h = (judge f (h ++ more) ≡ frame used p) × Sized f h used

  agrees_as : ((judged n : ℕ) → Fails (refused judged n)) → (more h : List ℕ) (v : Verdict) → judge f h ≡ v → Agrees more v h
  agrees_as fails more h cut e = tt
  agrees_as fails more h (refused judged n) e = subst Fails (sym (judge_stands f h more (refused judged n) tt e)) (fails judged n)
  agrees_as fails more h (frame used p) e = (judge_stands f h more (frame used p) tt e, frame_sized f h p used e)

-- At a quiet nothing follows, and what is undecided is no frame.
agrees_ended : (f : Format) (h : List ℕ) (v : Verdict) → judge f h ≡ v → Agrees f NoFrame [] (ended v) h
agrees_ended f h cut e = subst NoFrame (sym (ap (judge f) (append-nil h) ∙ e)) tt
agrees_ended f h (refused judged n) e = agrees_as f NoFrame (λ _ _. tt) [] h (refused judged n) e
agrees_ended f h (frame used p) e = agrees_as f NoFrame (λ _ _. tt) [] h (frame used p) e

-- What is worked out of a segment place by place: `over` is its value for a segment, behind a mark, and `onto` puts an output before a value.
module _ (f : Format) {A : Type 0} (Fails : Verdict → Type 0) (over : Bool → List ℕ → A) (onto : Output (List ℕ) → A → A)
    (onto-nothing : (a : A) → onto nothing a ≡ a)
    (onto-join : (x y : Output (List ℕ)) (a : A) → onto (join x y) a ≡ onto x (onto y a))
    (over-noise : (b : ℕ) (s : List ℕ) → Fails (judge f (b ∷ s)) → over false (b ∷ s) ≡ onto noise_byte (over false s))
    (over-frame : (used : ℕ) (p s : List ℕ) → judge f s ≡ frame used p → over false s ≡ onto (handed p) (over (is_open f used s) (drop used s))) where
  -- One step of settling.
  settle_at :
      (more : List ℕ) (b : ℕ) (h : List ℕ) (later : Called) (v : Verdict) → Agrees f Fails more v (b ∷ h) →
      over false (h ++ more) ≡ onto later.out (over later.follows (later.held ++ more)) →
      let st : Called = settle_as f v (b ∷ h) later in over false ((b ∷ h) ++ more) ≡ onto st.out (over st.follows (st.held ++ more))
  settle_at more b h later cut a e = sym (onto-nothing (over false ((b ∷ h) ++ more)))
  settle_at more b h later (refused judged n) a e =
      over-noise b (h ++ more) a
      ∙ ap (onto noise_byte) e
      ∙ sym (onto-join noise_byte later.out (over later.follows (later.held ++ more)))
  settle_at more b h later (frame used p) a e =
      over-frame used p ((b ∷ h) ++ more) a.0
      ∙ ap₂ (λ (q : Bool) (s : List ℕ). onto (handed p) (over q s))
      (open_append f used a.1.some (b ∷ h) more a.1.there)
      (drop-append-le used (b ∷ h) more a.1.there)

  -- Settled bytes gave what all of them give, and the bytes still held stand for the rest of it.
  settle_over :
      (more : List ℕ) (judgement : List ℕ → Verdict) → ((h : List ℕ) → Agrees f Fails more (judgement h) h) → (h : List ℕ) →
      let st : Called = settle f judgement h in over false (h ++ more) ≡ onto st.out (over st.follows (st.held ++ more))
  unfolding settle
  settle_over more judgement a [] = sym (onto-nothing (over false more))
  settle_over more judgement a (b ∷ h) =
      settle_at more b h (settle f judgement h) (judgement (b ∷ h)) (a (b ∷ h)) (settle_over more judgement a h)

  module _ (fails : (judged n : ℕ) → Fails (refused judged n)) where
    -- The call c, begun with st and the bytes todo before it, leaves of them what they still have to give.
    abbrev Follows : Called → List ℕ → Called → Type 0
    Follows st todo c =
        onto st.out (over st.follows (st.held ++ todo)) ≡ onto c.out (over c.follows (c.held ++ drop c.taken todo))

    -- A decision on held bytes stands.
    stays : (todo h : List ℕ) → Agrees f Fails todo (judge f h) h
    stays todo h = agrees_as f Fails fails todo h (judge f h) refl

    -- One more byte: where no frame came out, no mark is set.
    follows_step :
        (st : Called) (b : ℕ) (todo : List ℕ) (c : Called) (fs : List (List ℕ)) → (fs ≡ [] → st.follows ≡ false) →
        Follows (settle f (judge f) (st.held ++ (b ∷ []))) todo c →
        Follows st (b ∷ todo) (if_frame fs (stopped st) (one_more st.out c))
    follows_step st b todo c [] u e =
        ap (λ (q : Bool). onto st.out (over q (st.held ++ (b ∷ todo)))) (u refl)
        ∙ ap (λ (s : List ℕ). onto st.out (over false s)) (sym (append_assoc st.held (b ∷ []) todo))
        ∙ ap (onto st.out) (settle_over todo (judge f) (stays todo) (st.held ++ (b ∷ [])) ∙ e)
        ∙ sym (onto-join st.out c.out (over c.follows (c.held ++ drop c.taken todo)))
    follows_step st b todo c (p ∷ ps) u e = refl

    -- A whole chunk.
    line_follows : (st : Called) (chunk more : List ℕ) → (st.out.frames ≡ [] → st.follows ≡ false) → Follows st (chunk ++ more) (line_from f st chunk)
    unfolding line_from
    line_follows st [] more u = refl
    line_follows st (b ∷ chunk) more u =
        let h : List ℕ = st.held ++ (b ∷ []) in
        follows_step st b (chunk ++ more) (line_from f (settle f (judge f) h) chunk) st.out.frames u
        (line_follows (settle f (judge f) h) chunk more (unmarked f (judge f) h))

    -- What a line call handed out, and what it holds with the bytes not taken, is what all of them give.
    on_over :
        (held chunk more : List ℕ) →
        let c : Called = line_on f held chunk in
        over false (held ++ (chunk ++ more)) ≡ onto c.out (over c.follows (c.held ++ drop c.taken (chunk ++ more)))
    unfolding line_on
    on_over held chunk more =
        settle_over (chunk ++ more) (judge f) (stays (chunk ++ more)) held
        ∙ line_follows (settle f (judge f) held) chunk more (unmarked f (judge f) held)

    -- Behind a mark too.
    module _ (over_skip : (follows : Bool) (b : ℕ) (s : List ℕ) → over follows (b ∷ s) ≡ over false (behind_optional f follows (b ∷ s))) where
      pub line_over_lem :
          (follows : Bool) (held chunk more : List ℕ) →
          let c : Called = line_behind f follows held chunk in
          over follows (held ++ (chunk ++ more)) ≡ onto c.out (over c.follows (c.held ++ drop c.taken (chunk ++ more)))
      line_over_lem follows [] [] more = sym (onto-nothing (over follows more))
      line_over_lem follows [] (b ∷ chunk) more =
          let n : ℕ = absorbed f follows (b ∷ chunk) in
          let c : Called = line_on f [] (drop n (b ∷ chunk)) in
          let split : drop n ((b ∷ chunk) ++ more) ≡ drop n (b ∷ chunk) ++ more =
          drop-append-le n (b ∷ chunk) more (absorbed_there f follows (b ∷ chunk)) in
          over_skip follows b (chunk ++ more)
          ∙ ap (λ (k : ℕ). over false (drop k ((b ∷ chunk) ++ more))) (absorbed_front f follows b (chunk ++ more) chunk)
          ∙ ap (over false) split
          ∙ on_over [] (drop n (b ∷ chunk)) more
          ∙ ap (λ (t : List ℕ). onto c.out (over c.follows (c.held ++ t)))
          (ap (drop c.taken) (sym split) ∙ drop-drop c.taken n ((b ∷ chunk) ++ more))
      line_over_lem follows (b ∷ h) chunk more =
          let n : ℕ = absorbed f follows (b ∷ h) in
          over_skip follows b (h ++ (chunk ++ more))
          ∙ ap (λ (k : ℕ). over false (drop k ((b ∷ h) ++ (chunk ++ more)))) (absorbed_front f follows b (h ++ (chunk ++ more)) h)
          ∙ ap (over false) (drop-append-le n (b ∷ h) (chunk ++ more) (absorbed_there f follows (b ∷ h)))
          ∙ on_over (drop n (b ∷ h)) chunk more

-- What a call handed out and holds: at most one payload; without one, nothing or undecided bytes are left.
pub record Sound (judgement : List ℕ → Verdict) (out : Output (List ℕ)) (held : List ℕ) : Type 0 where
  pub one : length out.frames ≤ 1
  pub left : out.frames ≡ [] → (held ≡ []) ⊎ (judgement held ≡ cut)

-- One step of settling is sound.
sound_at :
    (f : Format) (judgement : List ℕ → Verdict) (b : ℕ) (h : List ℕ) (later : Called) (v : Verdict) → judgement (b ∷ h) ≡ v →
    Sound judgement later.out later.held → Sound judgement (settle_as f v (b ∷ h) later).out (settle_as f v (b ∷ h) later).held
unfolding join
sound_at f judgement b h later cut e s = record { one = zero-le; left = λ _. inr e }
sound_at f judgement b h later (refused judged n) e s = record { one = s.one; left = s.left }
sound_at f judgement b h later (frame used p) e s = record { one = le_refl 1; left = λ n. absurd (cons≢nil n) }

-- Settling is sound.
settle_sound : (f : Format) (judgement : List ℕ → Verdict) (h : List ℕ) → Sound judgement (settle f judgement h).out (settle f judgement h).held
unfolding settle
settle_sound f judgement [] = record { one = zero-le; left = λ _. inl refl }
settle_sound f judgement (b ∷ h) = sound_at f judgement b h (settle f judgement h) (judgement (b ∷ h)) refl (settle_sound f judgement h)

-- Settled bytes are no more than before.
size_at : (f : Format) (h : List ℕ) (later : Called) (v : Verdict) → length later.held ≤ length h → length (settle_as f v h later).held ≤ length h
size_at f h later cut l = le_refl (length h)
size_at f h later (refused judged n) l = l
size_at f h later (frame used p) l = rw length-drop (omega arith)

settle_size : (f : Format) (judgement : List ℕ → Verdict) (h : List ℕ) → length (settle f judgement h).held ≤ length h
unfolding settle
settle_size f judgement [] = zero-le
settle_size f judgement (b ∷ h) = size_at f (b ∷ h) (settle f judgement h) (judgement (b ∷ h)) (le_step (settle_size f judgement h))

-- What a line call handed out, and what it holds with the bytes not taken, is what the rule gives over all.
pub line_rule :
    (s : State) (chunk more : List ℕ) →
    let c : Called = line s chunk in rule_after s (chunk ++ more) ≡ join c.out (rule_after (after s c) (drop c.taken (chunk ++ more)))
line_rule s chunk more =
    let f : Format = s.format in
    line_over_lem f NoFrame (given_behind f) join join_nothing join_assoc (given_failed f) (given_judged f) (λ _ _. tt) (λ follows b t. refl)
    s.follows s.held chunk more

-- What a quiet call over these bytes hands out is what the rule gives.
quiet_held_rule :
    (f : Format) (h : List ℕ) → let c : Called = quiet_held f h in given f h ≡ join c.out (given_behind f c.follows (c.held ++ []))
unfolding quiet_held
quiet_held_rule f h =
    ap (given f) (sym (append-nil h))
    ∙ settle_over f NoFrame (given_behind f) join join_nothing join_assoc (given_failed f) (given_judged f) []
    (λ h. ended (judge f h)) (λ h. agrees_ended f h (judge f h) refl) h

-- A quiet call hands out what the rule gives over the held bytes alone.
pub quiet_rule : QuietFollowsRule
quiet_rule s =
    let f : Format = s.format in
    ap (given_behind f s.follows) (append-nil s.held) ∙ quiet_held_rule f (behind_optional f s.follows s.held)

-- At a quiet nothing is undecided.
ended_decides : (v : Verdict) → ended v ≡ cut → ⊥
ended_decides cut e = let z : ◌≡◌ {A = ℕ} 0 1 = cc in omega arith
ended_decides (refused judged n) e = let z : ◌≡◌ {A = ℕ} 0 1 = cc in omega arith
ended_decides (frame used p) e = let z : ◌≡◌ {A = ℕ} 0 1 = cc in omega arith

-- A quiet call hands out at most one payload.
pub quiet_one : (s : State) → length (quiet s).out.frames ≤ 1
unfolding quiet_held
quiet_one s = let f : Format = s.format in (settle_sound f (λ h. ended (judge f h)) (behind_optional f s.follows s.held)).one

-- A quiet call that hands out nothing holds nothing.
pub quiet_left : EmptyIsDrained
unfolding quiet_held
quiet_left s e =
    let f : Format = s.format in
    let h : List ℕ = behind_optional f s.follows s.held in
    let st : Called = settle f (λ h. ended (judge f h)) h in
    ⊎_elim (λ h. h) (λ h. absurd (ended_decides (judge f st.held) h)) ((settle_sound f (λ h. ended (judge f h)) h).left e)

-- Without an optional byte in front the bytes are no more.
behind_size : (f : Format) (follows : Bool) (h : List ℕ) → length (behind_optional f follows h) ≤ length h
behind_size f follows h = rw length-drop (omega arith)

-- The held bytes are no more after a quiet call.
pub quiet_size : (s : State) → length (quiet s).held ≤ length s.held
unfolding quiet_held
quiet_size s =
    let f : Format = s.format in
    let h : List ℕ = behind_optional f s.follows s.held in
    le_trans (settle_size f (λ h. ended (judge f h)) h) (behind_size f s.follows s.held)

module _ (f : Format) where
  -- A frame has room for a byte.
  some_limit : 1 ≤ limit f
  some_limit = limit_of f
    where
      limit_of : (g : Format) → 1 ≤ limit g
      limit_of (Binary footer) = omega arith
      limit_of (Ascii ending) = omega arith

  -- One byte more than nothing or undecided bytes is within the limit.
  grow : (out : Output (List ℕ)) (held : List ℕ) (b : ℕ) → Sound (judge f) out held → out.frames ≡ [] → length (held ++ (b ∷ [])) ≤ limit f
  grow out held b s e =
      ⊎_elim
      (λ (h : held ≡ []). subst (λ (l : List ℕ). length (l ++ (b ∷ [])) ≤ limit f) (sym h) some_limit)
      (λ (h : judge f held ≡ cut). rw length-append (omega (arith, undecided_short f held h)))
      (s.left e)

  -- A call over a chunk, begun with st: sound; no more than the chunk is taken, and without a payload all of it; the held bytes stay within
  -- the limit.
  record LineSound (st : Called) (chunk : List ℕ) (c : Called) : Type 0 where
    sound : Sound (judge f) c.out c.held
    most : c.taken ≤ length chunk
    all : c.out.frames ≡ [] → c.taken ≡ length chunk
    size : length st.held ≤ limit f → length c.held ≤ limit f

  -- One more byte.
  sound_step :
      (st : Called) (b : ℕ) (chunk : List ℕ) (c : Called) (fs : List (List ℕ)) → st.out.frames ≡ fs →
      Sound (judge f) st.out st.held → LineSound (settle f (judge f) (st.held ++ (b ∷ []))) chunk c →
      LineSound st (b ∷ chunk) (if_frame fs (stopped st) (one_more st.out c))
  unfolding join
  sound_step st b chunk c [] e s h =
      let same : st.out.frames ++ c.out.frames ≡ c.out.frames = ap (λ (x : List (List ℕ)). x ++ c.out.frames) e in
      record {
        sound = record { one = rw same h.sound.one; left = λ n. h.sound.left (sym same ∙ n) };
        most = suc-le-suc h.most;
        all = λ n. ap suc (h.all (sym same ∙ n));
        size = λ _. h.size (le_trans (settle_size f (judge f) (st.held ++ (b ∷ []))) (grow st.out st.held b s e));
      }
  sound_step st b chunk c (p ∷ ps) e s h = record { sound = s; most = zero-le; all = λ n. absurd (cons≢nil (sym e ∙ n)); size = λ l. l }

  -- A whole chunk.
  line_from_sound : (st : Called) (chunk : List ℕ) → Sound (judge f) st.out st.held → LineSound st chunk (line_from f st chunk)
  unfolding line_from
  line_from_sound st [] s = record { sound = s; most = zero-le; all = λ _. refl; size = λ l. l }
  line_from_sound st (b ∷ chunk) s =
      let st' : Called = settle f (judge f) (st.held ++ (b ∷ [])) in
      let later : LineSound st' chunk (line_from f st' chunk) = line_from_sound st' chunk (settle_sound f (judge f) (st.held ++ (b ∷ []))) in
      sound_step st b chunk (line_from f st' chunk) st.out.frames refl s later

-- Where no frame comes out of a call where no optional byte is to come, no mark is set.
unmarked_step :
    (st : Called) (c : Called) (fs : List (List ℕ)) → st.out.frames ≡ fs → (st.out.frames ≡ [] → st.follows ≡ false) →
    (c.out.frames ≡ [] → c.follows ≡ false) →
    let d : Called = if_frame fs (stopped st) (one_more st.out c) in d.out.frames ≡ [] → d.follows ≡ false
unfolding join
unmarked_step st c [] e u later n = later (ap (λ (x : List (List ℕ)). x ++ c.out.frames) (sym e) ∙ n)
unmarked_step st c (p ∷ ps) e u later n = u n

line_from_unmarked :
    (f : Format) (st : Called) (chunk : List ℕ) → (st.out.frames ≡ [] → st.follows ≡ false) →
    (line_from f st chunk).out.frames ≡ [] → (line_from f st chunk).follows ≡ false
unfolding line_from
line_from_unmarked f st [] u = u
line_from_unmarked f st (b ∷ chunk) u =
    let h : List ℕ = st.held ++ (b ∷ []) in
    unmarked_step st (line_from f (settle f (judge f) h) chunk) st.out.frames refl u
    (line_from_unmarked f (settle f (judge f) h) chunk (unmarked f (judge f) h))

on_unmarked : (f : Format) (h chunk : List ℕ) → (line_on f h chunk).out.frames ≡ [] → (line_on f h chunk).follows ≡ false
unfolding line_on
on_unmarked f h chunk = line_from_unmarked f (settle f (judge f) h) chunk (unmarked f (judge f) h)

-- Where no frame comes out of a line call, nothing is held or no mark is set.
pub line_unmarked :
    (f : Format) (follows : Bool) (held chunk : List ℕ) →
    let c : Called = line_behind f follows held chunk in c.out.frames ≡ [] → (c.held ≡ []) ⊎ (c.follows ≡ false)
line_unmarked f follows [] [] e = inl refl
line_unmarked f follows [] (b ∷ chunk) e = inr (on_unmarked f [] (drop (absorbed f follows (b ∷ chunk)) (b ∷ chunk)) e)
line_unmarked f follows (b ∷ h) chunk e = inr (on_unmarked f (drop (absorbed f follows (b ∷ h)) (b ∷ h)) chunk e)

-- What is said of a line call: at most one payload; without one all of the chunk is taken and nothing or undecided bytes are held, and so on.
record Sounds (f : Format) (held chunk : List ℕ) (c : Called) : Type 0 where
  sound : Sound (judge f) c.out c.held
  most : c.taken ≤ length chunk
  all : c.out.frames ≡ [] → c.taken ≡ length chunk
  size : length held ≤ limit f → length c.held ≤ limit f

-- A line call where no optional byte is to come.
on_sound : (f : Format) (held chunk : List ℕ) → Sounds f held chunk (line_on f held chunk)
unfolding line_on
on_sound f held chunk =
    let h = line_from_sound f (settle f (judge f) held) chunk (settle_sound f (judge f) held) in
    record { sound = h.sound; most = h.most; all = h.all; size = λ l. h.size (le_trans (settle_size f (judge f) held) l) }

-- It takes no more than the chunk.
pub on_taken : (f : Format) (held chunk : List ℕ) → (line_on f held chunk).taken ≤ length chunk
on_taken f held chunk = (on_sound f held chunk).most

-- Without a payload all of it is.
pub on_all : (f : Format) (held chunk : List ℕ) → (line_on f held chunk).out.frames ≡ [] → (line_on f held chunk).taken ≡ length chunk
on_all f held chunk = (on_sound f held chunk).all

-- Any line call.
line_sound : (f : Format) (follows : Bool) (held chunk : List ℕ) → Sounds f held chunk (line_behind f follows held chunk)
line_sound f follows [] [] =
    record { sound = record { one = zero-le; left = λ _. inl refl }; most = zero-le; all = λ _. refl; size = λ l. l }
line_sound f follows [] (b ∷ chunk) =
    let n : ℕ = absorbed f follows (b ∷ chunk) in
    let h = on_sound f [] (drop n (b ∷ chunk)) in
    let size = length-drop n (b ∷ chunk) in
    let there = absorbed_there f follows (b ∷ chunk) in
    record {
      sound = h.sound;
      most = omega (arith, h.most);
      all = λ e. let k = h.all e in omega arith;
      size = h.size;
    }
line_sound f follows (b ∷ held) chunk =
    let h = on_sound f (behind_optional f follows (b ∷ held)) chunk in
    record { sound = h.sound; most = h.most; all = h.all; size = λ l. h.size (le_trans (behind_size f follows (b ∷ held)) l) }

-- A line call hands out at most one payload.
pub line_one : (s : State) (chunk : List ℕ) → length (line s chunk).out.frames ≤ 1
line_one s chunk = (line_sound s.format s.follows s.held chunk).sound.one

-- A line call takes no more than the chunk.
pub line_taken : TakenIsInside
line_taken s chunk = (line_sound s.format s.follows s.held chunk).most

-- The held bytes stay within the limit.
pub line_size : (s : State) (chunk : List ℕ) → length s.held ≤ limit s.format → length (line s chunk).held ≤ limit s.format
line_size s chunk l = (line_sound s.format s.follows s.held chunk).size l

-- A line call that hands out nothing has taken the whole chunk, and holds nothing or undecided bytes.
pub needs_more_is_true : NeedsMoreIsTrue
needs_more_is_true s chunk e =
    let h = line_sound s.format s.follows s.held chunk in (h.all e, h.sound.left e)
