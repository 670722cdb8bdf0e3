-- What the calls over one chunk, or of one quiet, give together, said of each call: it gives the first part, and the calls after it the rest.
-- Document 01, "The leftmost rule and the line reader": the caller calls again with the rest, even an empty rest, until more bytes are needed; a
-- quiet is repeated until it is empty.
use Rattle.std.specs.Prelude.{ℕ, ◌+◌, ◌≤◌, ◌≡◌, List, [], ◌++◌, map, false, eqb, length, drop}
use Rattle.frame.specs.Hex.{sum_of}
use Rattle.frame.specs.Rule.{Output, nothing, join, rule, payloads}
use Rattle.reader.specs.Reader.{State, Called, line, quiet, line_judged, quiet_judged, after, state_of, Holds, Values, feed_values_of}
use Rattle.reader.specs.Reader.{quiet_values_of, feed_refusal, quiet_refusal, Feeds, AfterQuiet, Quiets}
use Rattle.reader.specs.View.{view_call, view_judged, NextView, view_refusal, Views}
use Rattle.reader.specs.Drain.{Drained, drained, before, drain, after_drain, rule_after, judged_after, drain_judged}
use Rattle.reader.specs.Calls.{Refused, Answered, out_of}
use Rattle.frame.specs.declared.framing.Footer.TheVariants.{Optional, Required}
use Rattle.frame.specs.declared.framing.Ending.TheVariants.{CrLf, Any}
use Rattle.frame.specs.declared.framing.Format.{Format}
use Rattle.frame.specs.declared.framing.Format.TheVariants.{Binary, Ascii}
use Rattle.reader.specs.declared.reader.Reader.{Reader}
use Rattle.reader.specs.declared.reader.Fed.{Fed}
use Rattle.reader.specs.declared.reader.Quieted.{Quieted}
use Rattle.reader.specs.declared.view.View.{View}
use Rattle.reader.specs.declared.view.Viewed.{Viewed}

-- A line call gives the first part of what is drained, and the same call again with the rest gives the others.
abbrev pub LineDrains : Type 0
LineDrains =
    (s : State) (chunk : List ℕ) → let c : Called = line s chunk in drain s chunk ≡ before c.out (drain (after s c) (drop c.taken chunk))

-- Where no frame comes out of a line call, all is drained.
abbrev pub NeedsMoreIsDrained : Type 0
NeedsMoreIsDrained =
    (s : State) (chunk : List ℕ) → let c : Called = line s chunk in c.out.frames ≡ [] → drain (after s c) [] ≡ drained nothing c.held c.follows

-- What is drained, and then the rule over what is left and what follows, is the rule over all.
abbrev pub DrainFollowsRule : Type 0
DrainFollowsRule =
    (s : State) (chunk more : List ℕ) →
    let d : Drained = drain s chunk in rule_after s (chunk ++ more) ≡ join d.out (rule_after (after_drain s d) more)

-- A quiet call gives the first part of what the rule gives over the held bytes, and the same call again the others.
abbrev pub QuietFollowsRule : Type 0
QuietFollowsRule = (s : State) → let c : Called = quiet s in rule_after s [] ≡ join c.out (rule_after (after s c) [])

-- Where no frame comes out of a quiet call, nothing is held.
abbrev pub EmptyIsDrained : Type 0
EmptyIsDrained = (s : State) → (quiet s).out.frames ≡ [] → (quiet s).held ≡ []

-- What the answer of a call that gives c and judges so many bytes says. Not refused: what it hands out, the bytes that it takes and judges and the state that
-- follows are those of the call; refused: the number, and state and buffer stay. A payload is within the buffer as it then is, and no more is taken than the
-- call takes. Where a frame began is no part of it.
pub record Reports {S : Type 0} (number : ℕ) (c : Called) (judged : ℕ) (Next : S → Type 0) (s : S) (buf : List ℕ) (v : Values) (s' : S) (buf' : List ℕ)
    : Type 0 where
  pub inside : v.len ≤ length buf'
  pub most : v.taken ≤ c.taken
  pub answered : Answered v → (number ≡ 0) × (out_of v buf' ≡ c.out) × (v.taken ≡ c.taken) × Next s'
  pub counted : Answered v → v.judged ≡ judged
  pub refused : Refused v → (eqb number 0 ≡ false) × (v.number ≡ number) × (s' ≡ s) × (buf' ≡ buf)

-- Of a line call, of a quiet call, and of a view's call.
abbrev pub FeedReports : Type 0
FeedReports =
    (r : Reader) (chunk buf : List ℕ) (a : Fed) (buf' : List ℕ) → Feeds r chunk buf a buf' →
    let s : State = state_of r in
    let c : Called = line s chunk in
    Reports (feed_refusal r (length buf) (length chunk)) c (line_judged s chunk) (Holds (after s c)) r buf (feed_values_of a.answer) a.reader buf'

abbrev pub QuietReports : Type 0
QuietReports =
    (r : Reader) (buf : List ℕ) (a : Quieted) (buf' : List ℕ) → Quiets r buf a buf' →
    let s : State = state_of r in
    let c : Called = quiet s in
    Reports (quiet_refusal r (length buf)) c (quiet_judged s) (AfterQuiet r.format c c.out.frames) r buf (quiet_values_of a.answer) a.reader buf'

abbrev pub ViewReports : Type 0
ViewReports =
    (v : View) (chunk buf : List ℕ) (a : Viewed) (buf' : List ℕ) → Views v chunk buf a buf' →
    let c : Called = view_call v chunk in
    Reports (view_refusal v (length buf) (length chunk)) c (view_judged v chunk) (NextView v chunk c) v buf (feed_values_of a.answer) a.view buf'

-- The bytes of a frame besides its payload, at least: of a binary one 5, and 6 where the footer is required. An ASCII one has two
-- characters for each byte of its payload, of which one is counted here, and 5 more, or 4 under any ending; so 6 and 5 for a payload of one byte.
abbrev pub overhead : Format → ℕ
overhead (Binary Optional) = 5
overhead (Binary Required) = 6
overhead (Ascii CrLf) = 6
overhead (Ascii Any) = 5

-- The bytes that an output takes at least: each payload its length and those, each byte of noise one.
abbrev pub size_of : Format → Output (List ℕ) → ℕ
size_of m o = sum_of (map (λ p. length p + overhead m) o.frames) + o.noise

-- What is drained takes no more bytes than were held and offered.
abbrev pub DrainIsSized : Type 0
DrainIsSized =
    (s : State) (chunk : List ℕ) →
    let d : Drained = drain s chunk in size_of s.format d.out + length d.held ≤ length s.held + length chunk

-- What the rule gives takes no more than the segment has.
abbrev pub RuleIsSized : Format → Type 0
RuleIsSized m = (s : List ℕ) → size_of m (payloads (rule m s)) ≤ length s

-- The line calls over a chunk count together the first part of what the rule judges from a state on, and later calls the rest, whatever bytes follow the
-- chunk: in any state that says of no more bytes than it holds that they were judged.
abbrev pub DrainCounts : Type 0
DrainCounts =
    (s : State) (chunk more : List ℕ) → s.judged ≤ length s.held →
    judged_after s (chunk ++ more) ≡ drain_judged s chunk + judged_after (after_drain s (drain s chunk)) more

-- What they count together is the sum of what each of them counts: the first call's, and then those of the others over what is left of the chunk; none where
-- the call needed more bytes.
pub record DrainIsSum (s : State) (chunk : List ℕ) : Type 0 where
  pub first : drain_judged s chunk ≡ line_judged s chunk + drain_judged (after s (line s chunk)) (drop (line s chunk).taken chunk)
  pub last : (line s chunk).out.frames ≡ [] → drain_judged (after s (line s chunk)) [] ≡ 0

abbrev pub DrainSums : Type 0
DrainSums = (s : State) (chunk : List ℕ) → s.judged ≤ length s.held → DrainIsSum s chunk
