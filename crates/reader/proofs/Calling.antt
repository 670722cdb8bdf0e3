-- Laws of lists of calls: whatever the calls, they hand out what the leftmost rule gives.
-- Assumes nothing.
use Prim.Native.Nat.{ℕ}
use mathlib.Core.Path.{◌≡◌, refl, sym, ap, ap₂, ◌∙◌, subst}
use mathlib.Core.List.{List, [], ◌∷◌, ◌++◌}
use mathlib.Core.Bool.{true, false, false≢true}
use lib.ListN.{drop}
use Rattle.frame.specs.Rule.{Output, nothing, join}
use Rattle.reader.specs.Reader.{State, holding, Called, line, quiet, after, state_of, Holds, Values, feed_values_of, quiet_values_of, called_values}
use Rattle.reader.specs.Reader.{line_judged, quiet_judged, judged_held, Feeds, AfterQuiet, Quiets, new_reader}
use Rattle.reader.specs.Drain.{rule_after}
use Rattle.reader.specs.Calls.{Answered, Gave, out_of, Phase, offering, quieting, over}
use Rattle.reader.specs.Calls.{Calls, fed, taken, quieted, emptied, feed_refused, quiet_refused, done}
use Rattle.reader.specs.Claims.{CallsFollowRule}
use Rattle.reader.specs.Draining.{FeedReports, QuietReports}
use Rattle.reader.specs.Further.{last_state, EndsFresh}
use Rattle.frame.specs.declared.framing.Format.{Format}
use Rattle.reader.specs.declared.reader.Reader.{Reader}
use Rattle.reader.specs.declared.reader.Fed.{Fed}
use Rattle.reader.specs.declared.reader.Quieted.{Quieted}
use Rattle.frame.proofs.Rules.{given_behind_nil}
use Rattle.reader.proofs.Settling.{line_rule, line_one, quiet_rule, quiet_one, quiet_left}
use Rattle.reader.proofs.Promises.{answered, refusing, hands_out, takes, none_out, says}

-- What the answer of a line call says.
pub feed_reports : FeedReports
feed_reports r chunk buf a buf' p = says (line (state_of r) chunk) (line_judged (state_of r) chunk) p (line_one (state_of r) chunk)

-- What the answer of a quiet call says.
pub quiet_reports : QuietReports
quiet_reports r buf a buf' p = says (quiet (state_of r)) (quiet_judged (state_of r)) p (quiet_one (state_of r))

-- What is left to hand out by a list of calls from the reader r with todo still to be taken.
abbrev Leaves : Phase → Reader → List ℕ → Output (List ℕ) → Type 0
Leaves offering r todo out = out ≡ rule_after (state_of r) todo
Leaves quieting r todo out = out ≡ rule_after (state_of r) todo
Leaves over r todo out = out ≡ nothing

-- An answered line call hands out the first part of what is left.
fed_gives :
    {r : Reader} {todo : List ℕ} {out : Output (List ℕ)} (chunk more buf buf' : List ℕ) (a : Fed) →
    Feeds r chunk buf a buf' → Answered (feed_values_of a.answer) → todo ≡ chunk ++ more →
    Leaves offering a.reader (drop (feed_values_of a.answer).taken todo) out →
    Leaves offering r todo (join (out_of (feed_values_of a.answer) buf') out)
fed_gives {r} {todo} {out} chunk more buf buf' a p z e g =
    let s : State = state_of r in
    let c : Called = line s chunk in
    let j : ℕ = line_judged s chunk in
    let later : out ≡ rule_after (after s c) (drop c.taken (chunk ++ more)) =
    g ∙ (λ i. rule_after ((answered c j p z).1.state i) (drop (takes c j p z i) (e i))) in
    ap₂ join (hands_out c j p (line_one s chunk) z) later ∙ sym (line_rule s chunk more) ∙ ap (rule_after s) (sym e)

-- The state after a quiet call that handed out a payload.
after_frame :
    (m : Format) (c : Called) (j : ℕ) (fs : List (List ℕ)) (r : Reader) → (called_values c j fs).is_frame ≡ true → AfterQuiet m c fs r →
    Holds (holding m c.held c.follows (judged_held fs c.held)) r
after_frame m c j [] r e h = absurd (false≢true e)
after_frame m c j (p ∷ ps) r e h = h

module _ {r : Reader} (buf buf' : List ℕ) (a : Quieted) (p : Quiets r buf a buf') where
  -- What came out of a quiet call is the first part of what is left.
  quiet_out :
      {out : Output (List ℕ)} → Answered (quiet_values_of a.answer) → out ≡ rule_after (after (state_of r) (quiet (state_of r))) [] →
      Leaves quieting r [] (join (out_of (quiet_values_of a.answer) buf') out)
  quiet_out z later = ap₂ join (hands_out (quiet (state_of r)) (quiet_judged (state_of r)) p (quiet_one (state_of r)) z) later ∙ sym (quiet_rule (state_of r))

  -- The state that a quiet call with a frame gives back.
  pub frame_holds : Gave true (quiet_values_of a.answer) → Holds (after (state_of r) (quiet (state_of r))) a.reader
  frame_holds n =
      let c : Called = quiet (state_of r) in
      let h = answered c (quiet_judged (state_of r)) p n.answered in
      after_frame r.format c (quiet_judged (state_of r)) c.out.frames a.reader (ap (λ (v : Values). v.is_frame) (sym h.0) ∙ n.frame) h.1

  -- A quiet call with a frame hands out the first part of what is left.
  quieted_gives :
      {out : Output (List ℕ)} → Gave true (quiet_values_of a.answer) → Leaves quieting a.reader [] out →
      Leaves quieting r [] (join (out_of (quiet_values_of a.answer) buf') out)
  quieted_gives n g = quiet_out n.answered (g ∙ ap (λ (s : State). rule_after s []) (frame_holds n).state)

  -- A quiet call that answers "empty" hands out no payload.
  pub empty_none : Gave false (quiet_values_of a.answer) → (quiet (state_of r)).out.frames ≡ []
  empty_none n = none_out (quiet (state_of r)) (quiet_judged (state_of r)) p n.answered n.frame

  -- It hands out the rest, which is noise.
  emptied_gives :
      {out : Output (List ℕ)} → Gave false (quiet_values_of a.answer) → Leaves over a.reader [] out →
      Leaves quieting r [] (join (out_of (quiet_values_of a.answer) buf') out)
  emptied_gives n g =
      let f : Format = r.format in
      let c : Called = quiet (state_of r) in
      quiet_out n.answered
      (g
      ∙ sym (given_behind_nil f c.follows)
      ∙ ap (λ (h : List ℕ). rule_after (holding f h c.follows 0) []) (sym (quiet_left (state_of r) (empty_none n))))

  -- Behind "empty" stands a new reader.
  pub emptied_fresh : Gave false (quiet_values_of a.answer) → a.reader ≡ new_reader r.format
  emptied_fresh n =
      subst
      (λ (fs : List (List ℕ)). AfterQuiet r.format (quiet (state_of r)) fs a.reader)
      (empty_none n)
      (answered (quiet (state_of r)) (quiet_judged (state_of r)) p n.answered).1

-- Whatever the calls, they hand out what the rule gives over the held bytes and those still to be taken.
calls_give : {phase : Phase} {r : Reader} {todo : List ℕ} {out : Output (List ℕ)} → Calls phase r todo out → Leaves phase r todo out
calls_give (fed chunk more buf buf' a p n e k) = fed_gives chunk more buf buf' a p n e (calls_give k)
calls_give (taken k) = calls_give k
calls_give (quieted buf buf' a p n k) = quieted_gives buf buf' a p n (calls_give k)
calls_give (emptied buf buf' a p n k) = emptied_gives buf buf' a p n (calls_give k)
calls_give (feed_refused {phase} {r} {todo} {out} chunk buf buf' a p n k) =
    subst (λ (x : Reader). Leaves phase x todo out) (refusing (line (state_of r) chunk) (line_judged (state_of r) chunk) p n).1 (calls_give k)
calls_give (quiet_refused {phase} {r} {todo} {out} buf buf' a p n k) =
    subst (λ (x : Reader). Leaves phase x todo out) (refusing (quiet (state_of r)) (quiet_judged (state_of r)) p n).1 (calls_give k)
calls_give done = refl

-- Any list of calls hands out what the rule gives over the whole segment.
pub calls_follow_rule : (f : Format) → CallsFollowRule f
calls_follow_rule f segment out k = calls_give k

-- The state in which a list of calls from r ends: a new reader's; behind "empty" the same.
abbrev end_of : Phase → Reader → Reader
end_of offering r = new_reader r.format
end_of quieting r = new_reader r.format
end_of over r = r

-- Readers with the same state have the same format.
same_format : {s : State} {r : Reader} → Holds s r → r.format ≡ s.format
same_format h = ap (λ (x : State). x.format) h.state

-- Whatever the calls, they end so.
ends_so :
    {phase : Phase} {r : Reader} {todo : List ℕ} {out : Output (List ℕ)} (calls : Calls phase r todo out) → last_state calls ≡ end_of phase r
ends_so (fed {r} chunk more buf buf' a p n e k) =
    ends_so k ∙ ap new_reader (same_format (answered (line (state_of r) chunk) (line_judged (state_of r) chunk) p n).1)
ends_so (taken k) = ends_so k
ends_so (quieted buf buf' a p n k) = ends_so k ∙ ap new_reader (same_format (frame_holds buf buf' a p n))
ends_so (emptied buf buf' a p n k) = ends_so k ∙ emptied_fresh buf buf' a p n
ends_so (feed_refused {phase} {r} chunk buf buf' a p n k) =
    ends_so k ∙ ap (end_of phase) (refusing (line (state_of r) chunk) (line_judged (state_of r) chunk) p n).1
ends_so (quiet_refused {phase} {r} buf buf' a p n k) = ends_so k ∙ ap (end_of phase) (refusing (quiet (state_of r)) (quiet_judged (state_of r)) p n).1
ends_so done = refl

-- A list of calls from a new reader ends in a new reader's state.
pub ends_fresh : (f : Format) → EndsFresh f
ends_fresh f segment out calls = ends_so calls
