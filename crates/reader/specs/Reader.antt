-- The line reader's calls. Document 01, "The leftmost rule and the line reader" and "Refusal numbers". A line call offers a chunk; a quiet call, document
-- 01's term, says that the line was silent and the segment has ended.
use Rattle.std.specs.Prelude.{ℕ, zero, suc, ◌+◌, ◌-◌, min, ◌≡◌, List, [], ◌∷◌, ◌++◌, Bool, true, false, cond, ◌&&◌, leb, eqb, length, take, drop, replicate}
use Rattle.std.specs.Prelude.{Result, Ok, Err}
use Rattle.frame.specs.Checks.{Verdict, cut, refused, frame}
use Rattle.frame.specs.Framing.{judge, judged_at, is_open, absorbed, behind_optional, limit, in_front}
use Rattle.frame.specs.Refusal.{number_of}
use Rattle.frame.specs.Rule.{Output, output, nothing, join}
use Rattle.frame.specs.declared.framing.Format.{Format}
use Rattle.frame.specs.declared.refusal.Refusal.{Refusal}
use Rattle.reader.specs.declared.reader.Reader.{Reader}
use Rattle.reader.specs.declared.reader.Fed.{Fed}
use Rattle.reader.specs.declared.answer.FeedAnswer.{FeedAnswer}
use Rattle.reader.specs.declared.answer.FeedAnswer.TheVariants.{Frame as FeedFrame, NeedsMore}
use Rattle.reader.specs.declared.reader.Quieted.{Quieted}
use Rattle.reader.specs.declared.answer.QuietAnswer.{QuietAnswer}
use Rattle.reader.specs.declared.answer.QuietAnswer.TheVariants.{Frame as QuietFrame, Empty}

-- What a reader's calls depend on: its format, the bytes that it holds, and the mark of document 02, CR 2 and 9: whether an optional byte may still follow the
-- last frame and belong to it. In a format without such a byte it means nothing (MarkMeansNothing, Further.antt). CR 7: how many of the held bytes were judged
-- at the first held place, which changes nothing but the count of judged bytes.
pub record State : Type 0 where
  pub format : Format
  pub held : List ℕ
  pub follows : Bool
  pub judged : ℕ

abbrev pub holding : Format → List ℕ → Bool → ℕ → State
holding m h follows judged = record { format = m; held = h; follows = follows; judged = judged }

-- What a call gives: bytes taken; what came out; how far before the first untaken byte the frame that came out began (document 02, CR 14), 0 where none did;
-- the bytes held afterwards; and the mark.
pub record Called : Type 0 where
  pub taken : ℕ
  pub out : Output (List ℕ)
  pub began : ℕ
  pub held : List ℕ
  pub follows : Bool

abbrev pub called : ℕ → Output (List ℕ) → ℕ → List ℕ → Bool → Called
called taken out began held follows = record { taken = taken; out = out; began = began; held = held; follows = follows }

-- What the held bytes h give, judged so, before any other byte is taken: undecided, they stay; a frame is handed out, which began as many bytes before the
-- first untaken one as h has, and an optional byte may follow it where it is open; at a failed start one byte is noise, and the rest is judged again.
abbrev pub settle_as : Format → Verdict → List ℕ → Called → Called
settle_as m cut h later = called 0 nothing 0 h false
settle_as m (refused judged n) h later = called 0 (join (output [] 1) later.out) later.began later.held later.follows
settle_as m (frame used p) h later = called 0 (output (p ∷ []) 0) (length h) (drop used h) (is_open m used h)

unfoldable pub settle : Format → (List ℕ → Verdict) → List ℕ → Called
settle m judgement [] = called 0 nothing 0 [] false
settle m judgement (b ∷ h) = let later : Called = settle m judgement h in settle_as m (judgement (b ∷ h)) (b ∷ h) later

-- The call stops here.
abbrev pub stopped : Called → Called
stopped st = called 0 st.out st.began st.held st.follows

-- The call took one byte more, after `out` had come out.
abbrev pub one_more : Output (List ℕ) → Called → Called
one_more out c = called (suc c.taken) (join out c.out) c.began c.held c.follows

-- A frame came out: the first; otherwise the second.
abbrev pub if_frame : List (List ℕ) → Called → Called → Called
if_frame [] a b = b
if_frame (p ∷ ps) a b = a

-- The line call over a chunk, byte by byte. A further byte is taken only while the held bytes are empty or undecided; the call stops as
-- soon as a frame completes, or with the chunk used up.
unfoldable pub line_from : Format → Called → List ℕ → Called
line_from m st [] = stopped st
line_from m st (b ∷ chunk) =
    let next : Called = one_more st.out (line_from m (settle m (judge m) (st.held ++ (b ∷ []))) chunk) in
    if_frame st.out.frames (stopped st) next

-- The line call where h is held and no optional byte is to come.
unfoldable pub line_on : Format → List ℕ → List ℕ → Called
line_on m h chunk = line_from m (settle m (judge m) h) chunk

-- A call that took n bytes more, before the others.
abbrev pub took_first : ℕ → Called → Called
took_first n c = called (n + c.taken) c.out c.began c.held c.follows

-- The line call by what is held and the mark. An optional byte that may follow is dealt with first: where it is the first held byte, it is dropped; where
-- nothing is held, it is taken from the chunk's front, and with an empty chunk the mark stays. It is no noise.
abbrev pub line_behind : Format → Bool → List ℕ → List ℕ → Called
line_behind m follows [] [] = called 0 nothing 0 [] follows
line_behind m follows [] (b ∷ chunk) =
    let n : ℕ = absorbed m follows (b ∷ chunk) in took_first n (line_on m [] (drop n (b ∷ chunk)))
line_behind m follows (b ∷ h) chunk = line_on m (behind_optional m follows (b ∷ h)) chunk

abbrev pub line : State → List ℕ → Called
line s chunk = line_behind s.format s.follows s.held chunk

-- At a quiet the held bytes end the segment: an unfinished frame fails like any other. How many bytes were judged at its place is said by `judged_at` alone.
abbrev pub ended : Verdict → Verdict
ended cut = refused 0 2
ended (refused judged n) = refused judged n
ended (frame used p) = frame used p

-- The quiet call where h is held and no optional byte is to come. Where a frame began is counted from the end of h, which is the segment's.
unfoldable pub quiet_held : Format → List ℕ → Called
quiet_held m h = stopped (settle m (λ h. ended (judge m h)) h)

-- The quiet call: a held optional byte that may follow is dropped first.
abbrev pub quiet : State → Called
quiet s = quiet_held s.format (behind_optional s.format s.follows s.held)

-- Where a place fails, what is counted behind it.
abbrev pub if_fails : Verdict → ℕ → ℕ
if_fails cut later = 0
if_fails (refused judged n) later = later
if_fails (frame used p) later = 0

-- The bytes judged at the places of s in order, up to the first place that does not fail: those at which a call over s stands. Document 02, CR 7.
unfoldable pub judged_to : Format → (List ℕ → Verdict) → List ℕ → ℕ
judged_to m judgement [] = 0
judged_to m judgement (b ∷ s) = judged_at m (b ∷ s) + if_fails (judgement (b ∷ s)) (judged_to m judgement s)

-- How many of the bytes judged at the first place of s are left out, since a state says that `judged` were judged at its first held place: as many as it
-- says, and no more than are judged there. Where an optional byte was absorbed before s, the state's number belonged to its place, and none are.
abbrev pub left_out : Format → ℕ → ℕ → List ℕ → ℕ
left_out m zero judged s = min judged (judged_at m s)
left_out m (suc n) judged s = 0

-- What a count gives from a state on, over the held bytes and those behind them, without the bytes that are left out.
abbrev pub count_from : State → (List ℕ → ℕ) → List ℕ → ℕ
count_from s count bytes =
    let n : ℕ = absorbed s.format s.follows bytes in
    let rest : List ℕ = drop n bytes in count rest - left_out s.format n s.judged rest

-- The bytes that a line call judges, and a quiet call.
abbrev pub line_judged : State → List ℕ → ℕ
line_judged s chunk = count_from s (judged_to s.format (judge s.format)) (s.held ++ chunk)

abbrev pub quiet_judged : State → ℕ
quiet_judged s = count_from s (judged_to s.format (λ h. ended (judge s.format h))) s.held

-- How many held bytes were judged at the first held place after a call: where no frame came out, the held bytes are undecided, and all were; behind a frame
-- none were yet.
abbrev pub judged_held : List (List ℕ) → List ℕ → ℕ
judged_held [] h = length h
judged_held (p ∷ ps) h = 0

-- The state that follows a call.
abbrev pub after : State → Called → State
after s c = holding s.format c.held c.follows (judged_held c.out.frames c.held)

-- The state of a reader: the bytes that it holds are the first `count` of its array.
abbrev pub state_of : Reader → State
state_of r = holding r.format (take r.count r.held) r.follows r.judged

-- A reader with this state; the other bytes of its array may be any.
pub record Holds (s : State) (r : Reader) : Type 0 where
  pub state : state_of r ≡ s
  pub count : r.count ≡ length s.held

-- A new reader.
abbrev pub new_reader : Format → Reader
new_reader m = record { format = m; held = replicate 517 0; count = 0; follows = false; judged = 0 }

-- An answer as document 01 has it: the refusal's number, 0 for none, bytes taken, noise, the payload's length, and whether there is one; and as document 02,
-- CR 7 and 14, has it: bytes judged, and how far before the first untaken byte, at a quiet before the segment's end, the frame began.
pub record Values : Type 0 where
  pub number : ℕ
  pub taken : ℕ
  pub noise : ℕ
  pub judged : ℕ
  pub len : ℕ
  pub began : ℕ
  pub is_frame : Bool

abbrev pub refusal_values : ℕ → Values
refusal_values n = record { number = n; taken = 0; noise = 0; judged = 0; len = 0; began = 0; is_frame = false }

abbrev pub frame_values : ℕ → ℕ → ℕ → ℕ → ℕ → Values
frame_values taken noise judged len began =
    record { number = 0; taken = taken; noise = noise; judged = judged; len = len; began = began; is_frame = true }

abbrev pub no_frame_values : ℕ → ℕ → ℕ → Values
no_frame_values taken noise judged = record { number = 0; taken = taken; noise = noise; judged = judged; len = 0; began = 0; is_frame = false }

-- The values of each answer of a call that is not refused.
abbrev pub fed_values_of : FeedAnswer → Values
fed_values_of (FeedFrame taken noise judged len began) = frame_values taken noise judged len began
fed_values_of (NeedsMore taken noise judged) = no_frame_values taken noise judged

abbrev pub quieted_values_of : QuietAnswer → Values
quieted_values_of (QuietFrame noise judged len began) = frame_values 0 noise judged len began
quieted_values_of (Empty noise judged) = no_frame_values 0 noise judged

-- The values of what a call gives back; everything else that is said of answers goes by them.
abbrev pub feed_values_of : Result FeedAnswer Refusal → Values
feed_values_of (Ok answer) = fed_values_of answer
feed_values_of (Err r) = refusal_values (number_of r)

abbrev pub quiet_values_of : Result QuietAnswer Refusal → Values
quiet_values_of (Ok answer) = quieted_values_of answer
quiet_values_of (Err r) = refusal_values (number_of r)

-- The values of a call that is not refused, by the bytes that it judged and the payloads that came out.
abbrev pub called_values : Called → ℕ → List (List ℕ) → Values
called_values c judged [] = no_frame_values c.taken c.out.noise judged
called_values c judged (p ∷ ps) = frame_values c.taken c.out.noise judged (length p) c.began

-- The buffer afterwards, by the payloads that came out.
abbrev pub buffer_at : List (List ℕ) → List ℕ → List ℕ
buffer_at [] buf = buf
buffer_at (p ∷ ps) buf = in_front p buf

-- A state is sound where it holds no more bytes than the longest frame has, and says of no more bytes than it holds that they were judged.
abbrev pub can_hold : Format → ℕ → ℕ → Bool
can_hold m count judged = leb count (limit m) && leb judged count

abbrev pub sound : Reader → Bool
sound r = can_hold r.format r.count r.judged

-- The refusals of a call, in their order: 16 where the state is not sound, 13 where the buffer has under `least` bytes, 15 where more than 65,536 bytes are
-- offered. 0: none.
abbrev pub call_refusal : Bool → ℕ → ℕ → ℕ → ℕ
call_refusal is_sound least room size = cond is_sound (cond (leb least room) (cond (leb size 65536) 0 15) 13) 16

-- Those of a quiet call, which offers no bytes, and of a line call.
abbrev pub quiet_refusal : Reader → ℕ → ℕ
quiet_refusal r room = call_refusal (sound r) 256 room 0

abbrev pub feed_refusal : Reader → ℕ → ℕ → ℕ
feed_refusal r room size = call_refusal (sound r) 256 room size

-- What any call with a state and a buffer promises, by its refusal's number, 0 for none. Refused, it answers `refusal`, and state and buffer stay.
-- Otherwise it answers `answer`, the state that follows has the property Next, and the buffer holds `filled`.
pub record Promise {A S : Type 0} (number : ℕ) (refusal answer : A) (Next : S → Type 0) (filled : List ℕ)
    (s : S) (buf : List ℕ) (values : A) (s' : S) (buf' : List ℕ) : Type 0 where
  pub refuses : (eqb number 0 ≡ false) → (values ≡ refusal) × (s' ≡ s) × (buf' ≡ buf)
  pub answers : (eqb number 0 ≡ true) → (values ≡ answer) × Next s' × (buf' ≡ filled)

-- The promise of a reader's call that gives c and judges so many bytes.
abbrev pub Gives : {S : Type 0} → ℕ → Called → ℕ → (S → Type 0) → S → List ℕ → Values → S → List ℕ → Type 0
Gives number c judged Next s buf values s' buf' =
    Promise number (refusal_values number) (called_values c judged c.out.frames) Next (buffer_at c.out.frames buf) s buf values s' buf'

-- The promise of a line call with the reader r, a chunk and a buffer.
abbrev pub Feeds : Reader → List ℕ → List ℕ → Fed → List ℕ → Type 0
Feeds r chunk buf fed buf' =
    let s : State = state_of r in
    let c : Called = line s chunk in
    Gives (feed_refusal r (length buf) (length chunk)) c (line_judged s chunk) (Holds (after s c)) r buf (feed_values_of fed.answer) fed.reader buf'

-- After a quiet call: a new reader where no frame came out.
abbrev pub AfterQuiet : Format → Called → List (List ℕ) → Reader → Type 0
AfterQuiet m c [] r = r ≡ new_reader m
AfterQuiet m c (p ∷ ps) r = Holds (holding m c.held c.follows 0) r

-- The promise of a quiet call with the reader r and a buffer.
abbrev pub Quiets : Reader → List ℕ → Quieted → List ℕ → Type 0
Quiets r buf q buf' =
    let s : State = state_of r in
    let c : Called = quiet s in
    Gives (quiet_refusal r (length buf)) c (quiet_judged s) (AfterQuiet r.format c c.out.frames) r buf (quiet_values_of q.answer) q.reader buf'
