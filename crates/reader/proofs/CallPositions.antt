-- Where frames began, over any list of calls: it says what is worked out from the segment alone, and gives the rule's places.
-- Assumes nothing.
use Prim.Native.Nat.{ℕ, ◌+◌, ◌-◌, ◌≤◌, max, zero-le}
use native.Mathlib.Nat.{zero-add, le_refl}
use native.Mathlib.Omega.{arith}
use mathlib.Core.Bool.{Bool, true, false, cond, true≢false}
use mathlib.Core.List.{List, [], ◌∷◌, ◌++◌, map, flatten, cons≢nil}
use mathlib.Core.Path.{◌≡◌, refl, sym, ap, ap₂, ◌∙◌, subst}
use lib.ListN.{length, take, drop, length-append, length-drop}
use Rattle.frame.specs.Checks.{Verdict, cut, refused, frame, byte, test, word, bytes, last_byte}
use Rattle.frame.specs.Binary.{binary, body}
use Rattle.frame.specs.Digit.{is_digit, digit_value}
use Rattle.frame.specs.Ascii.{ascii, hex_digits, line_ending, after_digits}
use Rattle.frame.specs.Framing.{judge, judged_at, read, absorbed, behind_optional}
use Rattle.frame.specs.Rule.{Output, Found, join, on_by, places, out_at, out_from, rule}
use Rattle.reader.specs.Reader.{Called, settle_as, settle, stopped, one_more, if_frame, line_from, line_on, line_behind, ended}
use Rattle.reader.specs.Reader.{State, Called, line, quiet_held, quiet, line_judged, quiet_judged, after, state_of, Values, feed_values_of, quiet_values_of}
use Rattle.reader.specs.Reader.{called_values, refusal_values, Feeds, Quiets}
use Rattle.frame.specs.Elements.{All}
use Rattle.reader.specs.Calls.{Answered, Gave, out_of, Phase, offering, quieting, over}
use Rattle.reader.specs.Calls.{Calls, fed, taken, quieted, emptied, feed_refused, quiet_refused, done, Reply, reply, replies_of}
use Rattle.reader.specs.Positions.{Position, position, position_at, positions_from, position_of, reached, positions_by, QuietsAtEnd, CallsGivePositions}
use Rattle.reader.specs.Positions.{GivesPlaces, CallsGivePlaces}
use Rattle.reader.specs.Further.{CutsAgree, first_after, places_after, positions_after, CallsGiveAfter, NoneIsZero}
use Rattle.reader.specs.PositionExamples.{PositionExamples, PositionsAfterExamples}
use Rattle.frame.specs.declared.framing.Format.{Format}
use Rattle.reader.specs.declared.reader.Reader.{Reader}
use Rattle.reader.specs.declared.reader.Fed.{Fed}
use Rattle.reader.specs.declared.reader.Quieted.{Quieted}
use Rattle.std.proofs.Common.{Result, Ok, Err}
use Rattle.frame.specs.declared.refusal.Refusal.{Refusal}
use Rattle.reader.specs.declared.answer.FeedAnswer.{FeedAnswer}
use Rattle.reader.specs.declared.answer.FeedAnswer.TheVariants.{Frame as FeedFrame, NeedsMore}
use Rattle.reader.specs.declared.answer.QuietAnswer.{QuietAnswer}
use Rattle.reader.specs.declared.answer.QuietAnswer.TheVariants.{Frame as QuietFrame, Empty}
use Rattle.reader.proofs.Settling.{line_one, line_taken, quiet_one, quiet_left}
use Rattle.reader.proofs.Promises.{answered, refusing, hands_out, takes}
use Rattle.reader.proofs.Calling.{empty_none, frame_holds, emptied_fresh}
use Rattle.frame.proofs.Optional.{absorbed_nil}
use Rattle.reader.proofs.Positions.{positions_in, positions_behind, LeadsBehind, line_leads, quiet_leads}

-- What is said of the payloads that came out of a call, by the call's number or by that of its answer.
said_alike :
    (c : Called) (j from : ℕ) (fs : List (List ℕ)) →
    map (λ p. position p from (called_values c j fs).began) fs ≡ map (λ p. position p from c.began) fs
said_alike c j from [] = refl
said_alike c j from (p ∷ ps) = refl

-- An answer says of its frame what the call gives.
said_is :
    (c : Called) (j from from' : ℕ) (v : Values) (buf : List ℕ) → v ≡ called_values c j c.out.frames → out_of v buf ≡ c.out → from ≡ from' →
    position_of (reply true v buf) from ≡ map (λ p. position p from' c.began) c.out.frames
said_is c j from from' v buf e o same =
    (λ i. map (λ p. position p (same i) (e i).began) (o i).frames) ∙ said_alike c j from' c.out.frames

-- Without a frame it says nothing.
none_said : (v : Values) (buf : List ℕ) (at : ℕ) → v.is_frame ≡ false → position_of (reply true v buf) at ≡ []
none_said v buf at e = ap (λ (q : Bool). map (λ p. position p at v.began) (cond q (take v.len buf ∷ []) [])) e

-- What the rule gives from a state on, where `at` bytes were taken, the held ones the last of them.
abbrev ahead : State → ℕ → List ℕ → List Position
ahead s at todo = positions_behind s.format s.follows at (at - length s.held) (s.held ++ todo)

-- What is left to be said by a list of calls from the reader r with todo still to be taken.
abbrev left : Phase → Reader → ℕ → List ℕ → List Position
left offering r at todo = ahead (state_of r) at todo
left quieting r at todo = ahead (state_of r) at todo
left over r at todo = []

-- A call says the first part, where `at` bytes were taken before it.
first_said :
    (s : State) (at : ℕ) (todo : List ℕ) (c : Called) → length s.held ≤ at →
    LeadsBehind s.format (length s.held) todo (at - length s.held) c
    (positions_behind s.format s.follows (at - length s.held + length s.held) (at - length s.held) (s.held ++ todo)) →
    (length c.held ≤ at + c.taken)
    × (ahead s at todo ≡ map (λ p. position p (at + c.taken) c.began) c.out.frames ++ ahead (after s c) (at + c.taken) (drop c.taken todo))
first_said s at todo c l k =
    let f : Format = s.format in
    let whole : at - length s.held + length s.held ≡ at = omega arith in (
      omega (arith, k.few),
      ap (λ (r : ℕ). positions_behind f s.follows r (at - length s.held) (s.held ++ todo)) (sym whole)
          ∙ k.same
          ∙ ap (λ (r : ℕ). map (λ p. position p (r + c.taken) c.began) c.out.frames
          ++ positions_behind f c.follows (r + c.taken) (r + c.taken - length c.held) (c.held ++ drop c.taken todo)) whole,
    )

-- A line call and a quiet call do.
line_said :
    (s : State) (at : ℕ) (chunk more : List ℕ) → length s.held ≤ at →
    let c : Called = line s chunk in
    (length c.held ≤ at + c.taken)
    × (ahead s at (chunk ++ more)
    ≡ map (λ p. position p (at + c.taken) c.began) c.out.frames ++ ahead (after s c) (at + c.taken) (drop c.taken (chunk ++ more)))
line_said s at chunk more l =
    first_said s at (chunk ++ more) (line s chunk) l (line_leads s.format s.follows s.held chunk more (at - length s.held))

quiet_said :
    (s : State) (at : ℕ) → length s.held ≤ at →
    let c : Called = quiet s in
    (length c.held ≤ at) × (ahead s at [] ≡ map (λ p. position p at c.began) c.out.frames ++ ahead (after s c) at [])
unfolding quiet_held
quiet_said s at l =
    let c : Called = quiet s in
    let none : at + 0 ≡ at = omega arith in
    let k = first_said s at [] c l (quiet_leads s.format s.follows s.held (at - length s.held)) in (
      omega (arith, k.0),
      k.1 ∙ ap (λ (r : ℕ). map (λ p. position p r c.began) c.out.frames ++ ahead (after s c) r []) none,
    )

-- An answered line call.
fed_says :
    {r : Reader} {todo : List ℕ} (chunk more buf buf' : List ℕ) (a : Fed) (at : ℕ) (later : List Position) → Feeds r chunk buf a buf' →
    Answered (feed_values_of a.answer) → todo ≡ chunk ++ more → length (state_of r).held ≤ at →
    let v : Values = feed_values_of a.answer in
    later ≡ ahead (state_of a.reader) (at + v.taken) (drop v.taken todo) → position_of (reply false v buf') (at + v.taken) ++ later ≡ ahead (state_of r) at todo
fed_says {r} {todo} chunk more buf buf' a at later p z e l k =
    let s : State = state_of r in
    let c : Called = line s chunk in
    let j : ℕ = line_judged s chunk in
    let h = answered c j p z in
    let t = takes c j p z in
    let v : Values = feed_values_of a.answer in
    let next : later ≡ ahead (after s c) (at + c.taken) (drop c.taken (chunk ++ more)) =
    k ∙ (λ i. ahead (h.1.state i) (at + t i) (drop (t i) (e i))) in
    ap₂ ◌++◌ (said_is c j (at + v.taken) (at + c.taken) v buf' h.0 (hands_out c j p (line_one s chunk) z) (ap (λ (n : ℕ). at + n) t)) next
    ∙ sym (line_said s at chunk more l).1
    ∙ ap (ahead s at) (sym e)

-- The state that follows holds no more bytes than were taken.
fed_few :
    {r : Reader} {at : ℕ} (chunk more buf buf' : List ℕ) (a : Fed) → Feeds r chunk buf a buf' → Answered (feed_values_of a.answer) →
    length (state_of r).held ≤ at → length (state_of a.reader).held ≤ at + (feed_values_of a.answer).taken
fed_few {r} {at} chunk more buf buf' a p z l =
    let s : State = state_of r in
    let c : Called = line s chunk in
    let j : ℕ = line_judged s chunk in
    let held : length (state_of a.reader).held ≡ length c.held = ap (λ (x : State). length x.held) (answered c j p z).1.state in
    omega (arith, held, takes c j p z, (line_said s at chunk more l).0)

-- An answered quiet call takes no byte.
quiet_takes :
    {r : Reader} (buf buf' : List ℕ) (a : Quieted) (at : ℕ) → Quiets r buf a buf' → Answered (quiet_values_of a.answer) →
    at + (quiet_values_of a.answer).taken ≡ at
unfolding quiet_held
quiet_takes {r} buf buf' a at p z = omega (arith, takes (quiet (state_of r)) (quiet_judged (state_of r)) p z)

-- Nor does a refused call.
none_taken : {v : Values} {n : ℕ} (at : ℕ) → v ≡ refusal_values n → at + v.taken ≡ at
none_taken at e = omega (arith, ap (λ (v : Values). v.taken) e)

-- A quiet call with a frame.
quieted_says :
    {r : Reader} (buf buf' : List ℕ) (a : Quieted) (at : ℕ) (later : List Position) → Quiets r buf a buf' → Gave true (quiet_values_of a.answer) →
    length (state_of r).held ≤ at →
    let v : Values = quiet_values_of a.answer in
    later ≡ ahead (state_of a.reader) (at + v.taken) [] → position_of (reply true v buf') (at + v.taken) ++ later ≡ ahead (state_of r) at []
quieted_says {r} buf buf' a at later p n l e =
    let s : State = state_of r in
    let c : Called = quiet s in
    let j : ℕ = quiet_judged s in
    let v : Values = quiet_values_of a.answer in
    let none : at + v.taken ≡ at = quiet_takes {r = r} buf buf' a at p n.answered in
    ap₂ ◌++◌ (said_is c j (at + v.taken) at v buf' (answered c j p n.answered).0 (hands_out c j p (quiet_one s) n.answered) none)
    (e ∙ ap₂ (λ (x : State) (k : ℕ). ahead x k []) (frame_holds {r = r} buf buf' a p n).state none)
    ∙ sym (quiet_said s at l).1

quieted_few :
    {r : Reader} {at : ℕ} (buf buf' : List ℕ) (a : Quieted) → Quiets r buf a buf' → Gave true (quiet_values_of a.answer) →
    length (state_of r).held ≤ at → length (state_of a.reader).held ≤ at + (quiet_values_of a.answer).taken
quieted_few {r} {at} buf buf' a p n l =
    let held = ap (λ (x : State). length x.held) (frame_holds {r = r} buf buf' a p n).state in
    omega (arith, held, (quiet_said (state_of r) at l).0)

-- Where a quiet call is empty, nothing is left.
emptied_says :
    {r : Reader} (buf buf' : List ℕ) (a : Quieted) (at : ℕ) → Quiets r buf a buf' → Gave false (quiet_values_of a.answer) →
    length (state_of r).held ≤ at → [] ≡ ahead (state_of r) at []
unfolding places positions_from
emptied_says {r} buf buf' a at p n l =
    let s : State = state_of r in
    let f : Format = s.format in
    let c : Called = quiet s in
    let none : c.out.frames ≡ [] = empty_none {r = r} buf buf' a p n in
    sym
    ((quiet_said s at l).1
    ∙ ap₂
    (λ (fs : List (List ℕ)) (h : List ℕ). map (λ p. position p at c.began) fs ++ positions_behind f c.follows at (at - length h) (h ++ []))
    none
    (quiet_left s none)
    ∙ ap (λ (k : ℕ). positions_in f at (at - 0 + k) (drop k [])) (absorbed_nil f c.follows))

-- A refused call says nothing, and changes nothing.
refused_says :
    {r x : Reader} {n : ℕ} {said : ℕ → List Position} (v : Values) (buf : List ℕ) (at : ℕ) (phase : Phase) (todo : List ℕ) → v ≡ refusal_values n → x ≡ r →
    ((k : ℕ) → length (state_of x).held ≤ k → said k ≡ left phase x k todo) → length (state_of r).held ≤ at →
    position_of (reply true v buf) (at + v.taken) ++ said (at + v.taken) ≡ left phase r at todo
refused_says {r} {x} {said = said} v buf at phase todo e same later l =
    let few : length (state_of x).held ≤ at = subst (λ (y : Reader). length (state_of y).held ≤ at) (sym same) l in
    ap (λ (ps : List Position). ps ++ said (at + v.taken)) (none_said v buf (at + v.taken) (ap (λ (x : Values). x.is_frame) e))
    ∙ ap said (none_taken at e)
    ∙ later at few
    ∙ ap (λ (y : Reader). left phase y at todo) same

-- Whatever the calls, they say what the rule gives from the state on.
calls_say :
    {phase : Phase} {r : Reader} {todo : List ℕ} {out : Output (List ℕ)} (calls : Calls phase r todo out) (at : ℕ) → length (state_of r).held ≤ at →
    positions_by at calls ≡ left phase r at todo
unfolding flatten
calls_say (fed {r} chunk more buf buf' a p n e later) at l =
    fed_says {r = r} chunk more buf buf' a at _ p n e l (calls_say later _ (fed_few {r = r} chunk more buf buf' a p n l))
calls_say (taken later) at l = calls_say later at l
calls_say (quieted {r} buf buf' a p n later) at l =
    quieted_says {r = r} buf buf' a at _ p n l (calls_say later _ (quieted_few {r = r} buf buf' a p n l))
calls_say (emptied {r} buf buf' a p n later) at l =
    let few : length (state_of a.reader).held ≤ at + (quiet_values_of a.answer).taken =
    subst (λ (x : Reader). length (state_of x).held ≤ at + (quiet_values_of a.answer).taken) (sym (emptied_fresh {r = r} buf buf' a p n)) zero-le in
    let v : Values = quiet_values_of a.answer in
    ap (λ (ps : List Position). ps ++ positions_by (at + v.taken) later) (none_said v buf' (at + v.taken) n.frame)
    ∙ calls_say later _ few
    ∙ emptied_says {r = r} buf buf' a at p n l
calls_say (feed_refused {phase} {r} {todo} chunk buf buf' a p n later) at l =
    let h = refusing (line (state_of r) chunk) (line_judged (state_of r) chunk) p n in
    refused_says {r = r} {x = a.reader} (feed_values_of a.answer) buf' at phase todo h.0 h.1 (λ k m. calls_say later k m) l
calls_say (quiet_refused {phase} {r} {todo} buf buf' a p n later) at l =
    let h = refusing (quiet (state_of r)) (quiet_judged (state_of r)) p n in
    refused_says {r = r} {x = a.reader} (quiet_values_of a.answer) buf' at phase todo h.0 h.1 (λ k m. calls_say later k m) l
calls_say done at l = refl

-- From a new reader, over a whole segment.
pub calls_give_positions : (f : Format) → CallsGivePositions f
calls_give_positions f segment out calls = calls_say calls 0 zero-le

-- So it is for two lists of calls.
pub cuts_agree : (f : Format) → CutsAgree f
cuts_agree f segment out out' a b = calls_give_positions f segment out a ∙ sym (calls_give_positions f segment out' b)

module _ (f : Format) where
  -- What the rule gives at a place is its frame there.
  place_at :
      (v : Verdict) (place far : ℕ) (said : List Position) (o : Output Found) → place ≤ far → GivesPlaces said o.frames →
      GivesPlaces (position_at v place far ++ said) (join (out_at place v) o).frames
  unfolding join
  place_at cut place far said o l h = h
  place_at (refused judged n) place far said o l h = h
  place_at (frame used p) place far said o l h =
      let back : far - (far - place) ≡ place = omega arith in
      record {
        place = ap₂ ◌∷◌ back h.place;
        payload = ap (λ (l : List (List ℕ)). p ∷ l) h.payload;
        inside = (omega arith, h.inside);
      }

  -- At all places.
  place_from : (reach place : ℕ) (ss : List (List ℕ)) → GivesPlaces (positions_from f reach place ss) (out_from f place ss).frames
  unfolding positions_from out_from
  place_from reach place [] = record { place = refl; payload = refl; inside = tt }
  place_from reach place (s ∷ ss) =
      let far : ℕ = max reach (place + judged_at f s) in
      place_at (read f s) place far (positions_from f far (place + on_by (read f s)) ss) (out_from f (place + on_by (read f s)) ss) (omega arith)
      (place_from far (place + on_by (read f s)) ss)

  -- Over a segment, so that what a list of calls says gives the places.
  pub calls_give_places : CallsGivePlaces f
  unfolding rule
  calls_give_places segment out calls =
      subst (λ (said : List Position). GivesPlaces said (rule f segment).frames) (sym (calls_give_positions f segment out calls))
      (place_from 0 0 (places f 0 segment))

-- From any reader.
pub calls_give_after : CallsGiveAfter
calls_give_after r todo out calls =
    let s : State = state_of r in
    let f : Format = s.format in
    let count : ℕ = length s.held in
    let n : ℕ = first_after s todo in
    let first : count - count + n ≡ n = omega arith in
    let same : positions_by count calls ≡ positions_after s todo =
    calls_say calls count (le_refl count)
    ∙ ap (λ (k : ℕ). positions_in f count k (drop n (s.held ++ todo))) first in
    record {
      positions = same;
      frames = subst (λ (said : List Position). GivesPlaces said (out_from f n (places_after s todo)).frames) (sym same)
          (place_from f count n (places_after s todo));
    }

-- Whatever the calls, all that was to be taken is taken at the quiet calls that are answered.
abbrev AtEnd : ℕ → Reply × ℕ → Type 0
AtEnd size x = x.0.is_quiet ≡ true → Answered x.0.values → x.1 ≡ size

at_end :
    {phase : Phase} {r : Reader} {todo : List ℕ} {out : Output (List ℕ)} (calls : Calls phase r todo out) (at size : ℕ) → at + length todo ≡ size →
    All (AtEnd size) (reached at (replies_of calls))
at_end (fed {r} {todo} chunk more buf buf' a p n e later) at size all =
    let s : State = state_of r in
    let v : Values = feed_values_of a.answer in
    let there : length todo ≡ length chunk + length more = ap length e ∙ length-append chunk more in (
      λ q z. absurd (true≢false (sym q)),
      at_end later (at + v.taken) size
          (omega (arith, all, length-drop v.taken todo, takes (line s chunk) (line_judged s chunk) p n, line_taken s chunk, there)),
    )
at_end (taken later) at size all = at_end later at size all
at_end (quieted {r} buf buf' a p n later) at size all =
    let same : at + (quiet_values_of a.answer).taken ≡ size = quiet_takes {r = r} buf buf' a at p n.answered ∙ omega (arith, all) in
    (λ q z. same, at_end later _ size (omega (arith, same)))
at_end (emptied {r} buf buf' a p n later) at size all =
    let same : at + (quiet_values_of a.answer).taken ≡ size = quiet_takes {r = r} buf buf' a at p n.answered ∙ omega (arith, all) in
    (λ q z. same, at_end later _ size (omega (arith, same)))
at_end (feed_refused {r = r} chunk buf buf' a p n later) at size all = (
  λ q z. absurd (true≢false (sym q)),
  at_end later _ size (omega (arith, all, none_taken at (refusing (line (state_of r) chunk) (line_judged (state_of r) chunk) p n).0)),
)
at_end (quiet_refused {r = r} buf buf' a p n later) at size all = (
  λ q z. absurd (true≢false (sym z ∙ n)),
  at_end later _ size (omega (arith, all, none_taken at (refusing (quiet (state_of r)) (quiet_judged (state_of r)) p n).0)),
)
at_end done at size all = tt

pub quiets_at_end : QuietsAtEnd
quiets_at_end r segment out calls = at_end calls 0 (length segment) (zero-add (length segment))

-- Settled bytes that gave no frame.
none_at :
    (f : Format) (h : List ℕ) (later : Called) (v : Verdict) → (later.out.frames ≡ [] → later.began ≡ 0) →
    (settle_as f v h later).out.frames ≡ [] → (settle_as f v h later).began ≡ 0
unfolding join
none_at f h later cut k e = refl
none_at f h later (refused judged n) k e = k e
none_at f h later (frame used p) k e = absurd (cons≢nil e)

none_settled : (f : Format) (judgement : List ℕ → Verdict) (h : List ℕ) → (settle f judgement h).out.frames ≡ [] → (settle f judgement h).began ≡ 0
unfolding settle
none_settled f judgement [] e = refl
none_settled f judgement (b ∷ h) e = none_at f (b ∷ h) (settle f judgement h) (judgement (b ∷ h)) (none_settled f judgement h) e

-- A call that gave none.
none_step :
    (st : Called) (c : Called) (fs : List (List ℕ)) → st.out.frames ≡ fs → (c.out.frames ≡ [] → c.began ≡ 0) →
    (if_frame fs (stopped st) (one_more st.out c)).out.frames ≡ [] → (if_frame fs (stopped st) (one_more st.out c)).began ≡ 0
unfolding join
none_step st c [] e k n = k (ap (λ (fs : List (List ℕ)). fs ++ c.out.frames) (sym e) ∙ n)
none_step st c (p ∷ ps) e k n = absurd (cons≢nil (sym e ∙ n))

none_from :
    (f : Format) (st : Called) (chunk : List ℕ) → (st.out.frames ≡ [] → st.began ≡ 0) → (line_from f st chunk).out.frames ≡ [] →
    (line_from f st chunk).began ≡ 0
unfolding line_from
none_from f st [] k n = k n
none_from f st (b ∷ chunk) k n =
    let st' : Called = settle f (judge f) (st.held ++ (b ∷ [])) in
    none_step st (line_from f st' chunk) st.out.frames refl (none_from f st' chunk (none_settled f (judge f) (st.held ++ (b ∷ [])))) n

none_on : (f : Format) (h chunk : List ℕ) → (line_on f h chunk).out.frames ≡ [] → (line_on f h chunk).began ≡ 0
unfolding line_on
none_on f h chunk n = none_from f (settle f (judge f) h) chunk (none_settled f (judge f) h) n

none_behind : (f : Format) (follows : Bool) (h chunk : List ℕ) → (line_behind f follows h chunk).out.frames ≡ [] → (line_behind f follows h chunk).began ≡ 0
none_behind f follows [] [] n = refl
none_behind f follows [] (b ∷ chunk) n = none_on f [] (drop (absorbed f follows (b ∷ chunk)) (b ∷ chunk)) n
none_behind f follows (b ∷ h) chunk n = none_on f (drop (absorbed f follows (b ∷ h)) (b ∷ h)) chunk n

none_quiet : (f : Format) (h : List ℕ) → (quiet_held f h).out.frames ≡ [] → (quiet_held f h).began ≡ 0
unfolding quiet_held
none_quiet f h n = none_settled f (λ x. ended (judge f x)) h n

-- Without a frame the number is 0.
pub none_is_zero : NoneIsZero
none_is_zero =
    record {
      line_call = λ s chunk. none_behind s.format s.follows s.held chunk;
      quiet_call = λ s. none_quiet s.format (behind_optional s.format s.follows s.held);
      line_answer = at_line_lem;
      quiet_answer = at_quiet_lem;
    }
  where
    at_line_lem : (a : Result FeedAnswer Refusal) → (feed_values_of a).is_frame ≡ false → (feed_values_of a).began ≡ 0
    at_line_lem (Ok (FeedFrame size noise judged len began)) e = absurd (true≢false e)
    at_line_lem (Ok (NeedsMore size noise judged)) e = refl
    at_line_lem (Err r) e = refl

    at_quiet_lem : (a : Result QuietAnswer Refusal) → (quiet_values_of a).is_frame ≡ false → (quiet_values_of a).began ≡ 0
    at_quiet_lem (Ok (QuietFrame noise judged len began)) e = absurd (true≢false e)
    at_quiet_lem (Ok (Empty noise judged)) e = refl
    at_quiet_lem (Err r) e = refl

pub position_examples : PositionExamples
unfolding places positions_from binary body last_byte ascii hex_digits is_digit digit_value line_ending after_digits byte test word bytes
position_examples =
    record {
      clean = refl;
      optional = refl;
      required = refl;
      any_ending = refl;
      behind_colon = refl;
      late = refl;
      late_required = refl;
      late_twice = refl;
      at_quiet = refl;
      at_quiet_twice = refl;
    }

pub positions_after_examples : PositionsAfterExamples
unfolding places positions_from binary body last_byte ascii hex_digits is_digit digit_value line_ending after_digits byte test word bytes
positions_after_examples = record { two_held = refl; optional_held = refl }
