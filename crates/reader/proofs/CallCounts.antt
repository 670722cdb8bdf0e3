-- That each call counts the first part of what the rule judges from its state on, and so any list of calls all of it.
-- Assumes nothing.
use Prim.Native.Nat.{ℕ, zero, suc, ◌+◌, ◌-◌, ◌≤◌, min, zero-le}
use native.Mathlib.Nat.{zero-add, add_assoc, sub_self, le_refl}
use native.Mathlib.Omega.{arith}
use mathlib.Core.Bool.{Bool, true, false, cond}
use mathlib.Core.List.{List, [], ◌∷◌, ◌++◌, append_assoc, append-nil}
use mathlib.Core.Path.{◌≡◌, refl, sym, ap, ap₂, ◌∙◌, subst}
use lib.ListN.{length, drop, length-append}
use lib.Seq.{take-append_seam, drop-append-le, drop-append_seam, drop-drop, drop-length}
use Rattle.frame.specs.Checks.{byte}
use Rattle.frame.specs.Binary.{binary}
use Rattle.frame.specs.Ascii.{ascii}
use Rattle.frame.specs.Framing.{judge, judged_at, absorbed}
use Rattle.frame.specs.Rule.{Output, nothing, join, places, rule_judged}
use Rattle.reader.specs.Reader.{State, holding, Called, settle, line_on, line_behind, line, ended, quiet_held, quiet}
use Rattle.reader.specs.Reader.{judged_to, left_out, count_from, line_judged, quiet_judged, judged_held, after, state_of, Holds, Values, feed_values_of}
use Rattle.reader.specs.Reader.{Feeds, refusal_values}
use Rattle.reader.specs.Drain.{Drained, drained, before, drain, after_drain, judged_after, drain_judged}
use Rattle.reader.specs.Calls.{Answered, Phase, offering, quieting, over, Calls, fed, taken, quieted, emptied, feed_refused, quiet_refused, done}
use Rattle.reader.specs.Counts.{judged_by, CallsCount}
use Rattle.reader.specs.Further.{LineCounts, QuietCounts, AbsorbedNotJudged, CallsCountFrom}
use Rattle.reader.specs.Draining.{DrainCounts, DrainSums}
use Rattle.frame.specs.declared.framing.Format.{Format}
use Rattle.frame.specs.declared.framing.Format.TheVariants.{Binary, Ascii}
use Rattle.reader.specs.declared.reader.Reader.{Reader}
use Rattle.reader.specs.declared.reader.Fed.{Fed}
use Rattle.frame.proofs.Optional.{absorbed_nil, absorbed_there, absorbed_front}
use Rattle.reader.proofs.Settling.{line_taken, on_taken, on_all, quiet_left, needs_more_is_true}
use Rattle.reader.proofs.Draining.{line_drains, needs_more_is_drained}
use Rattle.reader.proofs.Taking.{whole}
use Rattle.reader.proofs.Promises.{answered, refusing, takes, counts}
use Rattle.reader.proofs.Calling.{empty_none, frame_holds, emptied_fresh}
use Rattle.reader.proofs.Refusals.{judged_few}
use Rattle.reader.proofs.RuleCounts.{none_left, left_stands, settled_counts, ended_counts}

module _ (f : Format) where
  -- As many held bytes were judged at the first place, whether some of them were taken or not.
  same_judged :
      (fs : List (List ℕ)) (held rest t : List ℕ) → held ++ t ≡ rest → (fs ≡ [] → t ≡ []) → judged_held fs held ≡ judged_held fs rest
  same_judged [] held rest t e none = ap length (sym (append-nil held) ∙ ap (λ (l : List ℕ). held ++ l) (sym (none refl)) ∙ e)
  same_judged (p ∷ ps) held rest t e none = refl

  -- A line call where no optional byte is to come.
  on_counts :
      (h chunk more : List ℕ) →
      let c : Called = line_on f h chunk in
      rule_judged f ((h ++ chunk) ++ more)
      ≡ judged_to f (judge f) (h ++ chunk)
      + judged_after (holding f c.held c.follows (judged_held c.out.frames c.held)) (drop c.taken (chunk ++ more))
  on_counts h chunk more =
      let w : List ℕ = h ++ chunk in
      let c : Called = line_on f h chunk in
      let st : Called = settle f (judge f) w in
      let k = rw (take-append_seam h chunk, drop-append_seam h chunk) at (whole f w (length h) (rw length-append (omega arith))) in
      let rest : c.held ++ drop c.taken chunk ≡ st.held = k.1 in
      let none : c.out.frames ≡ [] → drop c.taken chunk ≡ [] =
      λ e. ap (λ (n : ℕ). drop n chunk) (on_all f h chunk e) ∙ drop-length chunk in
      let judged : judged_held c.out.frames c.held ≡ judged_held st.out.frames st.held =
      same_judged c.out.frames c.held st.held (drop c.taken chunk) rest none
      ∙ ap (λ (o : Output (List ℕ)). judged_held o.frames st.held) k.0 in
      let bytes : c.held ++ drop c.taken (chunk ++ more) ≡ st.held ++ more =
      ap (λ (t : List ℕ). c.held ++ t) (drop-append-le c.taken chunk more (on_taken f h chunk))
      ∙ sym (append_assoc c.held (drop c.taken chunk) more)
      ∙ ap (λ (t : List ℕ). t ++ more) rest in
      settled_counts f w more
      ∙ ap (λ (n : ℕ). judged_to f (judge f) w + n)
      (sym (λ i. count_from (holding f [] (k.2 i) (judged i)) (rule_judged f) (bytes i)))

  -- The first place is counted.
  first_to : (b : ℕ) (s : List ℕ) → judged_at f (b ∷ s) ≤ judged_to f (judge f) (b ∷ s)
  unfolding judged_to
  first_to b s = omega arith

  -- What is left out of a call's count is left out of the rule's.
  left_alike :
      (follows : Bool) (b : ℕ) (s more : List ℕ) (judged n later : ℕ) → judged ≤ length (b ∷ s) → n ≡ absorbed f follows (b ∷ s) →
      let w : List ℕ = drop n (b ∷ s) in
      rule_judged f (w ++ more) ≡ judged_to f (judge f) w + later →
      count_from (holding f [] follows judged) (rule_judged f) ((b ∷ s) ++ more)
      ≡ count_from (holding f [] follows judged) (judged_to f (judge f)) (b ∷ s) + later
  left_alike follows b s more judged n later l e k =
      let there : n ≤ length (b ∷ s) = subst (λ (i : ℕ). i ≤ length (b ∷ s)) (sym e) (absorbed_there f follows (b ∷ s)) in
      ap (λ (i : ℕ). rule_judged f (drop i ((b ∷ s) ++ more)) - left_out f i judged (drop i ((b ∷ s) ++ more))) (absorbed_front f follows b (s ++ more) s ∙ sym e)
      ∙ ap (λ (t : List ℕ). rule_judged f t - left_out f n judged t) (drop-append-le n (b ∷ s) more there)
      ∙ by n k
      ∙ ap (λ (i : ℕ). judged_to f (judge f) (drop i (b ∷ s)) - left_out f i judged (drop i (b ∷ s)) + later) e
    where
      by :
          (i : ℕ) → rule_judged f (drop i (b ∷ s) ++ more) ≡ judged_to f (judge f) (drop i (b ∷ s)) + later →
          rule_judged f (drop i (b ∷ s) ++ more) - left_out f i judged (drop i (b ∷ s) ++ more)
          ≡ judged_to f (judge f) (drop i (b ∷ s)) - left_out f i judged (drop i (b ∷ s)) + later
      by zero q = omega (arith, q, left_stands f (b ∷ s) more judged l, first_to b s)
      by (suc i) q = omega (arith, q)

  -- A line call, by the mark.
  line_counts_at :
      (follows : Bool) (judged : ℕ) (h chunk more : List ℕ) → judged ≤ length h →
      let c : Called = line_behind f follows h chunk in
      count_from (holding f h follows judged) (rule_judged f) (h ++ (chunk ++ more))
      ≡ count_from (holding f h follows judged) (judged_to f (judge f)) (h ++ chunk)
      + judged_after (holding f c.held c.follows (judged_held c.out.frames c.held)) (drop c.taken (chunk ++ more))
  unfolding judged_to
  line_counts_at follows judged [] [] more l =
      let none : judged ≡ 0 = omega arith in
      let nil : count_from (holding f [] follows judged) (judged_to f (judge f)) [] ≡ 0 =
      ap (λ (j : ℕ). count_from (holding f [] follows j) (judged_to f (judge f)) []) none
      ∙ none_left f follows [] [] (judged_to f (judge f))
      ∙ ap (λ (n : ℕ). judged_to f (judge f) (drop n [])) (absorbed_nil f follows) in
      omega (arith, nil, ap (λ (j : ℕ). count_from (holding f [] follows j) (rule_judged f) more) none)
  line_counts_at follows judged [] (b ∷ chunk) more l =
      let n : ℕ = absorbed f follows (b ∷ chunk) in
      let c : Called = line_on f [] (drop n (b ∷ chunk)) in
      let there : n ≤ length (b ∷ chunk) = absorbed_there f follows (b ∷ chunk) in
      let todo : drop c.taken (drop n (b ∷ chunk) ++ more) ≡ drop (n + c.taken) ((b ∷ chunk) ++ more) =
      ap (drop c.taken) (sym (drop-append-le n (b ∷ chunk) more there)) ∙ drop-drop c.taken n ((b ∷ chunk) ++ more) in
      left_alike follows b chunk more judged n _ (omega arith) refl
      (on_counts [] (drop n (b ∷ chunk)) more
      ∙ ap (λ (t : List ℕ). judged_to f (judge f) (drop n (b ∷ chunk))
      + judged_after (holding f c.held c.follows (judged_held c.out.frames c.held)) t) todo)
  line_counts_at follows judged (b ∷ h) chunk more l =
      let n : ℕ = absorbed f follows (b ∷ h) in
      let there : n ≤ length (b ∷ h) = absorbed_there f follows (b ∷ h) in
      let split : drop n ((b ∷ h) ++ chunk) ≡ drop n (b ∷ h) ++ chunk = drop-append-le n (b ∷ h) chunk there in
      let c : Called = line_on f (drop n (b ∷ h)) chunk in
      let later : ℕ = judged_after (holding f c.held c.follows (judged_held c.out.frames c.held)) (drop c.taken (chunk ++ more)) in
      ap (count_from (holding f [] follows judged) (rule_judged f)) (sym (append_assoc (b ∷ h) chunk more))
      ∙ left_alike follows b (h ++ chunk) more judged n later (omega (arith, l, length-append h chunk)) (absorbed_front f follows b h (h ++ chunk))
      (ap (λ (t : List ℕ). rule_judged f (t ++ more)) split
      ∙ on_counts (drop n (b ∷ h)) chunk more
      ∙ ap (λ (t : List ℕ). judged_to f (judge f) t + later) (sym split))

-- A line call counts the first part of what the rule judges from its state on.
pub line_counts_lem : LineCounts
line_counts_lem s chunk more l = line_counts_at s.format s.follows s.judged s.held chunk more l

-- Of no bytes none is judged.
judged_nil : (f : Format) → judged_at f [] ≡ 0
unfolding binary ascii byte
judged_nil (Binary footer) = refl
judged_nil (Ascii e) = refl

-- No more is left out than is judged at the first place.
first_ended : (f : Format) (h : List ℕ) (judged : ℕ) → min judged (judged_at f h) ≤ judged_to f (λ x. ended (judge f x)) h
unfolding judged_to
first_ended f [] judged = let none : judged_at f [] ≡ 0 = judged_nil f in omega arith
first_ended f (b ∷ h) judged = omega arith

-- A quiet call counts so over the held bytes.
quiet_alike :
    (f : Format) (h : List ℕ) (judged n later : ℕ) → rule_judged f (drop n h) ≡ judged_to f (λ x. ended (judge f x)) (drop n h) + later →
    rule_judged f (drop n h) - left_out f n judged (drop n h)
    ≡ judged_to f (λ x. ended (judge f x)) (drop n h) - left_out f n judged (drop n h) + later
quiet_alike f h judged zero later q = omega (arith, q, first_ended f h judged)
quiet_alike f h judged (suc n) later q = omega (arith, q)

pub quiet_counts_lem : QuietCounts
unfolding quiet_held
quiet_counts_lem s =
    let f : Format = s.format in
    let n : ℕ = absorbed f s.follows s.held in
    let later : ℕ = judged_after (after s (quiet s)) [] in
    ap (count_from s (rule_judged f)) (append-nil s.held) ∙ quiet_alike f s.held s.judged n later (ended_counts f (drop n s.held))

-- What the line calls over a chunk count together, whatever follows it.
record DrainedSo (s : State) (chunk : List ℕ) : Type 0 where
  counted : ℕ
  rest : (more : List ℕ) → judged_after s (chunk ++ more) ≡ counted + judged_after (after_drain s (drain s chunk)) more

-- The frames that a line call hands out are the first of those that are drained.
drained_frames :
    (s : State) (chunk : List ℕ) →
    let c : Called = line s chunk in
    length (drain s chunk).out.frames ≡ length c.out.frames + length (drain (after s c) (drop c.taken chunk)).out.frames
unfolding join
drained_frames s chunk =
    let c : Called = line s chunk in
    ap (λ (d : Drained). length d.out.frames) (line_drains s chunk)
    ∙ length-append c.out.frames (drain (after s c) (drop c.taken chunk)).out.frames

-- The first call needs more bytes.
drained_last :
    (s : State) (chunk : List ℕ) → s.judged ≤ length s.held → (line s chunk).out.frames ≡ [] → DrainedSo s chunk
drained_last s chunk l e =
    let c : Called = line s chunk in
    let n = (needs_more_is_true s chunk e).0 in
    let todo : drop c.taken chunk ≡ [] = ap (λ (k : ℕ). drop k chunk) n ∙ drop-length chunk in
    let d : drain s chunk ≡ before c.out (drained nothing c.held c.follows) =
    line_drains s chunk ∙ ap (λ (t : List ℕ). before c.out (drain (after s c) t)) todo ∙ ap (before c.out) (needs_more_is_drained s chunk e) in
    let state : after s c ≡ after_drain s (drain s chunk) =
    ap (λ (fs : List (List ℕ)). holding s.format c.held c.follows (judged_held fs c.held)) e ∙ sym (ap (after_drain s) d) in
    record {
      counted = line_judged s chunk;
      rest = λ more.
          line_counts_lem s chunk more l
          ∙ ap₂ (λ (x : State) (t : List ℕ). line_judged s chunk + judged_after x t) state
          (drop-append-le c.taken chunk more (line_taken s chunk) ∙ ap (λ (t : List ℕ). t ++ more) todo);
    }

-- It hands out a frame, and others follow.
drained_next :
    (s : State) (chunk : List ℕ) → s.judged ≤ length s.held →
    let c : Called = line s chunk in DrainedSo (after s c) (drop c.taken chunk) → DrainedSo s chunk
drained_next s chunk l k =
    let c : Called = line s chunk in
    let state : after_drain (after s c) (drain (after s c) (drop c.taken chunk)) ≡ after_drain s (drain s chunk) =
    sym (ap (after_drain s) (line_drains s chunk)) in
    record {
      counted = line_judged s chunk + k.counted;
      rest = λ more.
          line_counts_lem s chunk more l
          ∙ ap (λ (t : List ℕ). line_judged s chunk + judged_after (after s c) t) (drop-append-le c.taken chunk more (line_taken s chunk))
          ∙ ap (λ (n : ℕ). line_judged s chunk + n) (k.rest more)
          ∙ sym (add_assoc (line_judged s chunk) k.counted (judged_after (after_drain (after s c) (drain (after s c) (drop c.taken chunk))) more))
          ∙ ap (λ (x : State). line_judged s chunk + k.counted + judged_after x more) state;
    }

-- All of them: each but the last hands out a frame of those that are drained.
drained_all :
    (n : ℕ) (s : State) (chunk : List ℕ) (fs : List (List ℕ)) → (line s chunk).out.frames ≡ fs → length (drain s chunk).out.frames ≤ n →
    s.judged ≤ length s.held → DrainedSo s chunk
drained_all zero s chunk [] e m l = drained_last s chunk l e
drained_all (suc n) s chunk [] e m l = drained_last s chunk l e
drained_all zero s chunk (p ∷ ps) e m l = absurd (let z : ⊥ = omega (arith, m, drained_frames s chunk, ap length e) in z)
drained_all (suc n) s chunk (p ∷ ps) e m l =
    let c : Called = line s chunk in
    drained_next s chunk l
    (drained_all n (after s c) (drop c.taken chunk) (line (after s c) (drop c.taken chunk)).out.frames refl
    (omega (arith, m, drained_frames s chunk, ap length e)) (judged_few c.out.frames c.held))

pub drain_counts : DrainCounts
drain_counts s chunk more l =
    let k = drained_all (length (drain s chunk).out.frames) s chunk (line s chunk).out.frames refl (le_refl _) l in
    let whole : judged_after s chunk ≡ k.counted + judged_after (after_drain s (drain s chunk)) [] =
    ap (judged_after s) (sym (append-nil chunk)) ∙ k.rest [] in
    omega (arith, k.rest more, whole)

-- Where a call needed more bytes, nothing is counted over an empty chunk.
none_after : (s : State) (chunk : List ℕ) → (line s chunk).out.frames ≡ [] → drain_judged (after s (line s chunk)) [] ≡ 0
none_after s chunk e =
    let c : Called = line s chunk in
    let same : after s c ≡ after_drain (after s c) (drain (after s c) []) =
    ap (λ (fs : List (List ℕ)). holding s.format c.held c.follows (judged_held fs c.held)) e
    ∙ sym (ap (after_drain (after s c)) (needs_more_is_drained s chunk e)) in
    ap (λ (y : State). judged_after (after s c) [] - judged_after y []) (sym same) ∙ sub_self (judged_after (after s c) [])

-- What they count together is the sum of what each counts.
pub drain_sums : DrainSums
drain_sums s chunk l =
    let c : Called = line s chunk in
    let x : ℕ = judged_after (after_drain s (drain s chunk)) [] in
    let rest : List ℕ = drop c.taken chunk in
    let all : judged_after s chunk ≡ drain_judged s chunk + x = ap (judged_after s) (sym (append-nil chunk)) ∙ drain_counts s chunk [] l in
    let one : judged_after s chunk ≡ line_judged s chunk + judged_after (after s c) rest =
    ap (judged_after s) (sym (append-nil chunk)) ∙ line_counts_lem s chunk [] l
    ∙ ap (λ (t : List ℕ). line_judged s chunk + judged_after (after s c) (drop c.taken t)) (append-nil chunk) in
    let others : judged_after (after s c) rest ≡ drain_judged (after s c) rest + x =
    ap (judged_after (after s c)) (sym (append-nil rest)) ∙ drain_counts (after s c) rest [] (judged_few c.out.frames c.held)
    ∙ ap (λ (y : State). drain_judged (after s c) rest + judged_after y []) (sym (ap (after_drain s) (line_drains s chunk))) in
    record { first = omega (arith, all, one, others); last = λ e. none_after s chunk e }

-- Of no bytes the rule judges none.
nothing_left : (f : Format) (follows : Bool) → judged_after (holding f [] follows 0) [] ≡ 0
unfolding places
nothing_left f follows = none_left f follows [] [] (rule_judged f) ∙ ap (λ (n : ℕ). rule_judged f (drop n [])) (absorbed_nil f follows)

-- What is left to be judged by a list of calls from the reader r with todo still to be taken.
abbrev left : Phase → Reader → List ℕ → ℕ
left offering r todo = judged_after (state_of r) todo
left quieting r todo = judged_after (state_of r) todo
left over r todo = 0

-- A state says of no more bytes than it holds that they were judged.
abbrev Known : Reader → Type 0
Known r = r.judged ≤ length (state_of r).held

holds_known : {s : State} {r : Reader} → Holds s r → s.judged ≤ length s.held → Known r
holds_known k l = subst (λ (x : State). x.judged ≤ length x.held) (sym k.state) l

-- An answered line call counts the first part of what is left, and leaves a state of which that is said too.
fed_counts :
    {r : Reader} {todo : List ℕ} (chunk more buf buf' : List ℕ) (a : Fed) (later : ℕ) → Feeds r chunk buf a buf' →
    Answered (feed_values_of a.answer) → todo ≡ chunk ++ more → Known r →
    later ≡ judged_after (state_of a.reader) (drop (feed_values_of a.answer).taken todo) →
    (feed_values_of a.answer).judged + later ≡ judged_after (state_of r) todo
fed_counts {r} {todo} chunk more buf buf' a later p z e l k =
    let s : State = state_of r in
    let c : Called = line s chunk in
    let j : ℕ = line_judged s chunk in
    let next : later ≡ judged_after (after s c) (drop c.taken (chunk ++ more)) =
    k ∙ (λ i. judged_after ((answered c j p z).1.state i) (drop (takes c j p z i) (e i))) in
    ap₂ ◌+◌ (counts c j p z) next ∙ sym (line_counts_lem s chunk more l) ∙ ap (judged_after s) (sym e)

fed_known :
    {r : Reader} (chunk buf buf' : List ℕ) (a : Fed) → Feeds r chunk buf a buf' → Answered (feed_values_of a.answer) → Known a.reader
fed_known {r} chunk buf buf' a p z =
    let c : Called = line (state_of r) chunk in
    holds_known (answered c (line_judged (state_of r) chunk) p z).1 (judged_few c.out.frames c.held)

-- A refused call reports no byte.
none_reported : {v : Values} {n : ℕ} → v ≡ refusal_values n → (later : ℕ) → v.judged + later ≡ later
none_reported e later = ap (λ (v : Values). v.judged + later) e ∙ zero-add later

-- Whatever the calls, they report what the rule judges of the held bytes and those still to be taken.
calls_report :
    {phase : Phase} {r : Reader} {todo : List ℕ} {out : Output (List ℕ)} (calls : Calls phase r todo out) → Known r →
    judged_by calls ≡ left phase r todo
calls_report (fed {r} chunk more buf buf' a p n e later) l =
    fed_counts {r = r} chunk more buf buf' a (judged_by later) p n e l (calls_report later (fed_known {r = r} chunk buf buf' a p n))
calls_report (taken later) l = calls_report later l
calls_report (quieted {r} buf buf' a p n later) l =
    let s : State = state_of r in
    let c : Called = quiet s in
    let h : Holds (after s c) a.reader = frame_holds {r = r} buf buf' a p n in
    ap₂ ◌+◌ (counts c (quiet_judged s) p n.answered)
    (calls_report later (holds_known h (judged_few c.out.frames c.held)) ∙ ap (λ (x : State). judged_after x []) h.state)
    ∙ sym (quiet_counts_lem s)
calls_report (emptied {r} buf buf' a p n later) l =
    let s : State = state_of r in
    let c : Called = quiet s in
    let none : c.out.frames ≡ [] = empty_none {r = r} buf buf' a p n in
    let rest : judged_after (after s c) [] ≡ 0 =
    ap₂ (λ (fs : List (List ℕ)) (h : List ℕ). judged_after (holding s.format h c.follows (judged_held fs h)) []) none (quiet_left s none)
    ∙ nothing_left s.format c.follows in
    ap₂ ◌+◌ (counts c (quiet_judged s) p n.answered)
    (calls_report later (subst Known (sym (emptied_fresh {r = r} buf buf' a p n)) zero-le) ∙ sym rest)
    ∙ sym (quiet_counts_lem s)
calls_report (feed_refused {phase} {r} {todo} chunk buf buf' a p n later) l =
    let h = refusing (line (state_of r) chunk) (line_judged (state_of r) chunk) p n in
    none_reported h.0 (judged_by later)
    ∙ calls_report later (subst Known (sym h.1) l)
    ∙ ap (λ (x : Reader). left phase x todo) h.1
calls_report (quiet_refused {phase} {r} {todo} buf buf' a p n later) l =
    let h = refusing (quiet (state_of r)) (quiet_judged (state_of r)) p n in
    none_reported h.0 (judged_by later)
    ∙ calls_report later (subst Known (sym h.1) l)
    ∙ ap (λ (x : Reader). left phase x todo) h.1
calls_report done l = refl

-- An optional byte that a line call takes is not judged.
pub absorbed_not_judged : (m : Format) → AbsorbedNotJudged m
absorbed_not_judged m b chunk e =
    none_left m true [] (b ∷ chunk) (judged_to m (judge m))
    ∙ ap (λ (q : Bool). judged_to m (judge m) (drop (cond q 1 0) (b ∷ chunk))) e
    ∙ sym (none_left m false [] chunk (judged_to m (judge m)))

-- From any reader, what the rule judges from its state on.
pub calls_count_from : CallsCountFrom
calls_count_from r todo out calls l = calls_report calls l

-- Any list of calls reports the rule's own count over the whole segment.
pub calls_count : (f : Format) → CallsCount f
calls_count f segment out calls = calls_report calls zero-le ∙ none_left f false [] segment (rule_judged f)
