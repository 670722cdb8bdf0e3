-- Further claims: on single calls, on the rule over damage, and on calls from states made by hand. Document 00's demands are stated without them.
use Rattle.std.specs.Prelude.{ℕ, ◌+◌, ◌*◌, ◌≤◌, ◌≡◌, true, false, length, drop, Result}
use mathlib.Core.List.{List, [], ◌∷◌, ◌++◌, flatten, Memᴰ}
use Rattle.frame.specs.Checks.{frame}
use Rattle.frame.specs.Framing.{judge, is_open, is_optional, absorbed, behind_optional}
use Rattle.frame.specs.Rule.{Output, output, join, places, Found, out_from, rule, rule_judged}
use Rattle.reader.specs.Reader.{State, holding, Called, line, quiet, line_judged, quiet_judged, after, state_of, new_reader}
use Rattle.reader.specs.Reader.{feed_values_of, quiet_values_of, sound, Feeds, Quiets}
use Rattle.reader.specs.Calls.{Phase, offering, Calls, fed, taken, quieted, emptied, feed_refused, quiet_refused, done}
use Rattle.reader.specs.Recovery.{Stretch, founds_from, PairsBegin, Recovered}
use Rattle.reader.specs.Counts.{judged_by, most_judged}
use Rattle.reader.specs.Positions.{Position, positions_from, positions_by, GivesPlaces}
use Rattle.reader.specs.Drain.{judged_after}
use Rattle.frame.specs.declared.framing.Footer.{Footer}
use Rattle.frame.specs.declared.framing.Ending.{Ending}
use Rattle.frame.specs.declared.framing.Format.{Format}
use Rattle.frame.specs.declared.framing.Format.TheVariants.{Binary, Ascii}
use Rattle.frame.specs.declared.refusal.Refusal.{Refusal}
use Rattle.reader.specs.declared.reader.Reader.{Reader}
use Rattle.reader.specs.declared.reader.Fed.{Fed}
use Rattle.reader.specs.declared.reader.Quieted.{Quieted}
use Rattle.reader.specs.declared.answer.FeedAnswer.{FeedAnswer}
use Rattle.reader.specs.declared.answer.QuietAnswer.{QuietAnswer}

-- A line call takes no more bytes than the chunk has.
abbrev pub TakenIsInside : Type 0
TakenIsInside = (s : State) (chunk : List ℕ) → (line s chunk).taken ≤ length chunk

-- Two calls that give the same, but for the mark afterwards.
pub record SameButMark (a b : Called) : Type 0 where
  pub taken : a.taken ≡ b.taken
  pub out : a.out ≡ b.out
  pub began : a.began ≡ b.began
  pub held : a.held ≡ b.held

-- What follows from document 02, CR 2 and 9, for a format in which no byte is optional: the mark means nothing. With it and without, a line call gives the
-- same but for the mark, and a quiet call the same, and they judge as many bytes.
pub record SameWithMark (m : Format) (h : List ℕ) (judged : ℕ) (chunk : List ℕ) : Type 0 where
  pub at_line : SameButMark (line (holding m h true judged) chunk) (line (holding m h false judged) chunk)
  pub line_counts : line_judged (holding m h true judged) chunk ≡ line_judged (holding m h false judged) chunk
  pub at_quiet : quiet (holding m h true judged) ≡ quiet (holding m h false judged)
  pub quiet_counts : quiet_judged (holding m h true judged) ≡ quiet_judged (holding m h false judged)

abbrev pub MarkMeansNothing : Format → Type 0
MarkMeansNothing m = ((b : ℕ) → is_optional m b ≡ false) → (h : List ℕ) (judged : ℕ) (chunk : List ℕ) → SameWithMark m h judged chunk

-- Readers with the same state; the other bytes of their arrays may differ.
pub record Alike (r r' : Reader) : Type 0 where
  pub state : state_of r ≡ state_of r'
  pub count : r.count ≡ r'.count

-- The promises leave no answer open: from readers with the same state, with the same chunk and buffer, two answers that keep the promise have the same
-- values, and leave the same buffer and readers with the same state.
abbrev pub FeedsAgree : Type 0
FeedsAgree =
    (r r' : Reader) (chunk buf : List ℕ) (a a' : Fed) (b b' : List ℕ) → Alike r r' → Feeds r chunk buf a b → Feeds r' chunk buf a' b' →
    (feed_values_of a.answer ≡ feed_values_of a'.answer) × (b ≡ b') × Alike a.reader a'.reader

abbrev pub QuietsAgree : Type 0
QuietsAgree =
    (r r' : Reader) (buf : List ℕ) (a a' : Quieted) (b b' : List ℕ) → Alike r r' → Quiets r buf a b → Quiets r' buf a' b' →
    (quiet_values_of a.answer ≡ quiet_values_of a'.answer) × (b ≡ b') × Alike a.reader a'.reader

-- Whatever sound state a line call gets, the state that follows is sound, with the same format.
abbrev pub FeedStaysSound : Type 0
FeedStaysSound =
    (r : Reader) (chunk buf : List ℕ) (a : Fed) (buf' : List ℕ) → Feeds r chunk buf a buf' → sound r ≡ true →
    (a.reader.format ≡ r.format) × (sound a.reader ≡ true)

-- The same of a quiet call.
abbrev pub QuietStaysSound : Type 0
QuietStaysSound =
    (r : Reader) (buf : List ℕ) (a : Quieted) (buf' : List ℕ) → Quiets r buf a buf' → sound r ≡ true →
    (a.reader.format ≡ r.format) × (sound a.reader ≡ true)

-- The state at the end of a list of calls.
abbrev pub last_state : {phase : Phase} {r : Reader} {todo : List ℕ} {out : Output (List ℕ)} → Calls phase r todo out → Reader
last_state (fed chunk more buf buf' a p n e later) = last_state later
last_state (taken later) = last_state later
last_state (quieted buf buf' a p n later) = last_state later
last_state (emptied buf buf' a p n later) = last_state later
last_state (feed_refused chunk buf buf' a p n later) = last_state later
last_state (quiet_refused buf buf' a p n later) = last_state later
last_state (done {r}) = r

-- A list of calls from a new reader ends in a new reader's state.
abbrev pub EndsFresh : Format → Type 0
EndsFresh f =
    (segment : List ℕ) (out : Output (List ℕ)) (calls : Calls offering (new_reader f) segment out) → last_state calls ≡ new_reader f

-- The rule over damage and a stretch in ASCII framing: what the damage alone gives, then every good frame, in order, and no noise.
abbrev pub AsciiRecovers : Ending → Type 0
AsciiRecovers ending =
    (damage : List ℕ) (gs : List (List ℕ)) → Stretch (Ascii ending) gs →
    rule (Ascii ending) (damage ++ flatten gs) ≡ join (rule (Ascii ending) damage) (output (founds_from (Ascii ending) (length damage) gs) 0)

-- The rule over damage and a stretch in binary framing: what `Recovered` says (Recovery.antt).
abbrev pub BinaryRecovers : Footer → Type 0
BinaryRecovers footer = (damage : List ℕ) (gs : List (List ℕ)) → Stretch (Binary footer) gs → PairsBegin gs → Recovered footer damage gs

-- In binary framing every good frame that begins 260 or more bytes into the stretch is handed out.
abbrev pub LateFramesComeBack : Footer → Type 0
LateFramesComeBack footer =
    (damage : List ℕ) (gs : List (List ℕ)) → Stretch (Binary footer) gs → PairsBegin gs → (x : Found) →
    Memᴰ x (founds_from (Binary footer) (length damage) gs) → length damage + 260 ≤ x.place →
    Memᴰ x (rule (Binary footer) (damage ++ flatten gs)).frames

-- The rule over a stretch with no damage, in any format and without the proviso: every good frame, in order, and no noise.
abbrev pub CleanLine : Format → Type 0
CleanLine f = (gs : List (List ℕ)) → Stretch f gs → rule f (flatten gs) ≡ output (founds_from f 0 gs) 0

-- From any reader that says of no more bytes than it holds that they were judged, a list of calls reports what the rule judges from its state on. From a new
-- reader it is CallsCount, Counts.antt.
abbrev pub CallsCountFrom : Type 0
CallsCountFrom =
    (r : Reader) (todo : List ℕ) (out : Output (List ℕ)) (calls : Calls offering r todo out) → r.judged ≤ length (state_of r).held →
    judged_by calls ≡ judged_after (state_of r) todo

-- The bound on judged bytes (most_judged, Counts.antt) holds of the rule's count over a segment, and of what the rule judges from any state on.
abbrev pub RuleBound : Format → Type 0
RuleBound f = (s : List ℕ) → rule_judged f s ≤ most_judged f * length s

abbrev pub StateBound : Type 0
StateBound = (s : State) (todo : List ℕ) → judged_after s todo ≤ most_judged s.format * (length s.held + length todo)

-- Judged bytes call by call. In any state that says of no more bytes than it holds that they were judged, a line call counts the first part of what the rule
-- judges from that state on, and later calls the rest, whatever bytes follow. As each call counts by places, no byte is counted twice at one.
abbrev pub LineCounts : Type 0
LineCounts =
    (s : State) (chunk more : List ℕ) → s.judged ≤ length s.held →
    let c : Called = line s chunk in judged_after s (chunk ++ more) ≡ line_judged s chunk + judged_after (after s c) (drop c.taken (chunk ++ more))

-- A quiet call does so over the held bytes.
abbrev pub QuietCounts : Type 0
QuietCounts = (s : State) → let c : Called = quiet s in judged_after s [] ≡ quiet_judged s + judged_after (after s c) []

-- At a frame the rule judges its bytes, and goes on behind it and its optional byte, which is not judged; nor is it by the line call that takes it.
abbrev pub FrameCounts : Format → Type 0
FrameCounts m =
    (s p : List ℕ) (used : ℕ) → judge m s ≡ frame used p →
    rule_judged m s ≡ used + rule_judged m (behind_optional m (is_open m used s) (drop used s))

abbrev pub AbsorbedNotJudged : Format → Type 0
AbsorbedNotJudged m =
    (b : ℕ) (chunk : List ℕ) → is_optional m b ≡ true → line_judged (holding m [] true 0) (b ∷ chunk) ≡ line_judged (holding m [] false 0) chunk

-- What is said of where frames began is the same for every cut of the segment, whatever the calls.
abbrev pub CutsAgree : Format → Type 0
CutsAgree f =
    (segment : List ℕ) (out out' : Output (List ℕ)) (a : Calls offering (new_reader f) segment out) (b : Calls offering (new_reader f) segment out') →
    positions_by 0 a ≡ positions_by 0 b

-- Where frames began, from any reader, where `todo` is still to come. All indices count from the first held byte, the held bytes were taken before, and the
-- first place lies behind an absorbed byte, if there is one. From a new reader it is CallsGivePositions and CallsGivePlaces, Positions.antt.
abbrev pub first_after : State → List ℕ → ℕ
first_after s todo = absorbed s.format s.follows (s.held ++ todo)

abbrev pub places_after : State → List ℕ → List (List ℕ)
places_after s todo = places s.format 0 (behind_optional s.format s.follows (s.held ++ todo))

abbrev pub positions_after : State → List ℕ → List Position
positions_after s todo = positions_from s.format (length s.held) (first_after s todo) (places_after s todo)

pub record GivesAfter (s : State) (todo : List ℕ) (said : List Position) : Type 0 where
  pub positions : said ≡ positions_after s todo
  pub frames : GivesPlaces said (out_from s.format (first_after s todo) (places_after s todo)).frames

abbrev pub CallsGiveAfter : Type 0
CallsGiveAfter =
    (r : Reader) (todo : List ℕ) (out : Output (List ℕ)) (calls : Calls offering r todo out) →
    let count : ℕ = length (state_of r).held in GivesAfter (state_of r) todo (positions_by count calls)

-- A call that hands out no frame gives 0 for where it began; so does every refusal or answer without a frame, by the definition of their values.
pub record NoneIsZero : Type 0 where
  pub line_call : (s : State) (chunk : List ℕ) → (line s chunk).out.frames ≡ [] → (line s chunk).began ≡ 0
  pub quiet_call : (s : State) → (quiet s).out.frames ≡ [] → (quiet s).began ≡ 0
  pub line_answer : (a : Result FeedAnswer Refusal) → (feed_values_of a).is_frame ≡ false → (feed_values_of a).began ≡ 0
  pub quiet_answer : (a : Result QuietAnswer Refusal) → (quiet_values_of a).is_frame ≡ false → (quiet_values_of a).began ≡ 0
