-- A caller gets any segment through a reader: lists of calls exist for every cut into chunks.
-- Assumes nothing.
use Prim.Native.Nat.{ℕ, zero, suc, ◌+◌, ◌-◌, ◌≤◌, zero-le}
use native.Mathlib.Nat.{le_trans}
use native.Mathlib.Omega.{arith}
use mathlib.Core.Path.{◌≡◌, refl, sym, ap, ap₂, ◌∙◌, subst}
use mathlib.Core.List.{List, [], ◌∷◌, ◌++◌, cons≢nil, flatten}
use mathlib.Core.Bool.{Bool, true, false, cond}
use borrow.Author.Tests.{le-leb}
use lib.Dec.{leb}
use lib.ListN.{length, take, drop, replicate, length-append, length-drop, length-map}
use lib.Seq.{take-append_seam, drop-append_seam, drop-append-le}
use Rattle.frame.specs.Framing.{in_front}
use Rattle.frame.specs.Rule.{Output, nothing, join, Found, rule}
use Rattle.reader.specs.Reader.{State, holding, Called, line, quiet_held, quiet, line_judged, quiet_judged, judged_held, after, state_of, Holds, new_reader}
use Rattle.reader.specs.Reader.{Values, feed_values_of, quiet_values_of, called_values, buffer_at, quiet_refusal, feed_refusal, Gives, Feeds, AfterQuiet, Quiets}
use Rattle.reader.specs.Drain.{rule_after}
use Rattle.frame.specs.Elements.{All}
use Rattle.reader.specs.Calls.{Gave, out_of, Phase, offering, quieting, over, Calls, fed, taken, quieted, emptied, feed_refused, quiet_refused, done, replies_of}
use Rattle.reader.specs.Driving.{chunks_after, Offers, CanDrive, DrivesAreShort}
use Rattle.frame.specs.declared.framing.Format.{Format}
use Rattle.reader.specs.declared.reader.Reader.{Reader}
use Rattle.reader.specs.declared.reader.Fed.{Fed}
use Rattle.reader.specs.declared.answer.FeedAnswer.TheVariants.{Frame as FeedFrame, NeedsMore}
use Rattle.std.proofs.Common.{Ok}
use Rattle.reader.specs.declared.reader.Quieted.{Quieted}
use Rattle.reader.specs.declared.answer.QuietAnswer.TheVariants.{Frame as QuietFrame, Empty}
use Rattle.frame.proofs.Rules.{given_behind_nil, rule_few}
use Rattle.reader.proofs.Promises.{answers}
use Rattle.reader.proofs.Settling.{line_rule, line_one, line_taken, line_size, quiet_rule, quiet_one, quiet_left, quiet_size, needs_more_is_true}
use Rattle.reader.proofs.Calling.{calls_follow_rule}
use Rattle.reader.proofs.Refusals.{StateFits, new_fits, fits_held, judged_few, holds_fits}

-- A reader with this state.
abbrev reader_of : State → Reader
reader_of s =
    record {
      format = s.format;
      held = s.held ++ replicate (517 - length s.held) 0;
      count = length s.held;
      follows = s.follows;
      judged = s.judged;
    }

-- It has it.
reader_holds : (s : State) → Holds s (reader_of s)
reader_holds s = record {
  state = ap (λ (h : List ℕ). holding s.format h s.follows s.judged) (take-append_seam s.held (replicate (517 - length s.held) 0));
  count = refl;
}

-- A call that is not refused answers by what came out of it.
keeps :
    {number : ℕ} (c : Called) (j : ℕ) {Next : Reader → Type 0} {r : Reader} (fs : List (List ℕ)) (buf : List ℕ) (r' : Reader) →
    number ≡ 0 → c.out.frames ≡ fs → Next r' → Gives number c j Next r buf (called_values c j fs) r' (buffer_at fs buf)
keeps c j fs buf r' z e next = answers z (ap (called_values c j) (sym e)) next (ap (λ (x : List (List ℕ)). buffer_at x buf) (sym e))

-- A buffer with room for any payload.
buffer : List ℕ
buffer = replicate 256 0

-- It is not too short.
buffer_room : leb 256 (length buffer) ≡ true
unfolding buffer
buffer_room = refl

-- A quiet call with it and a state that fits is not refused.
quiet_free : (r : Reader) → StateFits r → quiet_refusal r (length buffer) ≡ 0
quiet_free r l =
    ap₂ (λ (s t : Bool). cond s (cond t 0 13) 16) l buffer_room

-- Nor is a line call, where the chunk is not too long.
feed_free : (r : Reader) (chunk : List ℕ) → StateFits r → length chunk ≤ 65536 → feed_refusal r (length buffer) (length chunk) ≡ 0
feed_free r chunk l k =
    ap₂
    (λ (s t : Bool). cond s (cond t (cond (leb (length chunk) 65536) 0 15) 13) 16)
    l
    buffer_room
    ∙ ap (λ (t : Bool). cond t 0 15) (le-leb (length chunk) 65536 k)

-- The payloads still to come from a state on.
abbrev payloads_in : State → List ℕ → ℕ
payloads_in s todo = length (rule_after s todo).frames

-- Joined outputs have as many payloads as their parts.
join_count : (o : Output (List ℕ)) (a b : Output (List ℕ)) → o ≡ join a b → length o.frames ≡ length a.frames + length b.frames
unfolding join
join_count o a b e = ap (λ (x : Output (List ℕ)). length x.frames) e ∙ length-append a.frames b.frames

-- The quiet calls from r on: one for each payload still to come, and one that says "empty".
record Ends (r : Reader) (n : ℕ) : Type 0 where
  out : Output (List ℕ)
  calls : Calls quieting r [] out
  offers : Offers calls []
  count : length (replies_of calls) ≡ suc n

module _ (r : Reader) (l : StateFits r) where
  abbrev quiet_call : Called
  quiet_call = quiet (state_of r)

  -- The payloads still to come at a quiet are those of the call and those that come after it.
  quiet_count :
      payloads_in (state_of r) [] ≡ length quiet_call.out.frames + payloads_in (after (state_of r) quiet_call) []
  quiet_count = join_count (rule_after (state_of r) []) quiet_call.out (rule_after (after (state_of r) quiet_call) []) (quiet_rule (state_of r))

  -- The last quiet call.
  ends_empty : (n : ℕ) → payloads_in (state_of r) [] ≡ n → quiet_call.out.frames ≡ [] → Ends r n
  unfolding quiet_held
  ends_empty n e h =
      let f : Format = r.format in
      let a : Quieted = record { reader = new_reader f; answer = Ok (Empty quiet_call.out.noise (quiet_judged (state_of r))) } in
      let p : Quiets r buffer a buffer =
      keeps quiet_call (quiet_judged (state_of r)) [] buffer (new_reader f) (quiet_free r l) h
      (subst (λ (fs : List (List ℕ)). AfterQuiet r.format quiet_call fs (new_reader f)) (sym h) refl) in
      let left : payloads_in (after (state_of r) quiet_call) [] ≡ 0 =
      ap (λ (h : List ℕ). payloads_in (holding f h quiet_call.follows 0) []) (quiet_left (state_of r) h)
      ∙ ap (λ (o : Output (List ℕ)). length o.frames) (given_behind_nil f quiet_call.follows) in
      let z : n ≡ 0 = sym e ∙ quiet_count ∙ ap₂ ◌+◌ (ap length h) left in
      record {
        out = join (out_of (quiet_values_of a.answer) buffer) nothing;
        calls = emptied buffer buffer a p (record { answered = refl; frame = refl }) done;
        offers = refl;
        count = ap suc (sym z);
      }

  -- A quiet call that hands out a payload, and those behind it.
  ends_frame :
      (n : ℕ) (p : List ℕ) (ps : List (List ℕ)) → payloads_in (state_of r) [] ≡ suc n → quiet_call.out.frames ≡ p ∷ ps →
      ((r' : Reader) → StateFits r' → payloads_in (state_of r') [] ≡ n → Ends r' n) → Ends r (suc n)
  unfolding quiet_held
  ends_frame n p ps e h later =
      let s' : State = after (state_of r) quiet_call in
      let r' : Reader = reader_of s' in
      let a : Quieted = record { reader = r'; answer = Ok (QuietFrame quiet_call.out.noise (quiet_judged (state_of r)) (length p) quiet_call.began) } in
      let q : Quiets r buffer a (in_front p buffer) =
      keeps quiet_call (quiet_judged (state_of r)) (p ∷ ps) buffer r' (quiet_free r l) h
      (subst
      (λ (fs : List (List ℕ)). AfterQuiet r.format quiet_call fs r') (sym h)
      (subst (λ (fs : List (List ℕ)). Holds (holding r.format quiet_call.held quiet_call.follows (judged_held fs quiet_call.held)) r')
      h (reader_holds s'))) in
      let first : length quiet_call.out.frames ≡ suc (length ps) = ap length h in
      let rest : payloads_in s' [] ≡ n = omega (arith, quiet_one (state_of r), quiet_count) in
      let k : Ends r' n =
      later r' (holds_fits (reader_holds s') (le_trans (quiet_size (state_of r)) (fits_held r l)) (judged_few quiet_call.out.frames quiet_call.held))
      (ap (λ (s : State). payloads_in s []) (reader_holds s').state ∙ rest) in
      record {
        out = join (out_of (quiet_values_of a.answer) (in_front p buffer)) k.out;
        calls = quieted buffer (in_front p buffer) a q (record { answered = refl; frame = refl }) k.calls;
        offers = k.offers;
        count = ap suc {x = length (replies_of k.calls)} k.count;
      }

  -- The first quiet call of several, whatever comes out of it.
  ends_at :
      (n : ℕ) (fs : List (List ℕ)) → payloads_in (state_of r) [] ≡ suc n → quiet_call.out.frames ≡ fs →
      ((r' : Reader) → StateFits r' → payloads_in (state_of r') [] ≡ n → Ends r' n) → Ends r (suc n)
  ends_at n [] e h later = ends_empty (suc n) e h
  ends_at n (p ∷ ps) e h later = ends_frame n p ps e h later

-- A list of length 0 is empty.
no_length : (fs : List (List ℕ)) → length fs ≡ 0 → fs ≡ []
no_length [] z = refl
no_length (p ∷ ps) z = absurd (let h : ⊥ = omega arith in h)

-- All of the quiet calls.
ends : (n : ℕ) (r : Reader) → StateFits r → payloads_in (state_of r) [] ≡ n → Ends r n
ends zero r l e =
    let none : length (quiet (state_of r)).out.frames ≡ 0 = omega (arith, quiet_count r l) in
    ends_empty r l zero e (no_length (quiet (state_of r)).out.frames none)
ends (suc n) r l e = ends_at r l n (quiet (state_of r)).out.frames e refl (λ r' k z. ends n r' k z)

-- Chunks that a line call does not refuse.
abbrev Short : List (List ℕ) → Type 0
Short chunks = All (λ chunk. length chunk ≤ 65536) chunks

-- The calls from r on: one for each chunk and each payload still to come, and one that says "empty".
record Goes (r : Reader) (todo : List ℕ) (chunks : List (List ℕ)) (n : ℕ) : Type 0 where
  out : Output (List ℕ)
  calls : Calls offering r todo out
  offers : Offers calls chunks
  count : length (replies_of calls) ≡ suc n

-- How many payloads and chunks are still to come.
abbrev Left : Reader → List ℕ → List (List ℕ) → ℕ → Type 0
Left r todo chunks n = payloads_in (state_of r) todo + length chunks ≡ n

-- With all chunks offered the quiet calls follow.
goes_quiet : (n : ℕ) (r : Reader) (todo : List ℕ) → StateFits r → todo ≡ [] → Left r todo [] n → Goes r todo [] n
goes_quiet n r [] l e z =
    let k : Ends r n = ends n r l (omega arith) in
    record { out = k.out; calls = taken k.calls; offers = k.offers; count = k.count }
goes_quiet n r (b ∷ todo) l e z = absurd (cons≢nil e)

-- The first line call of many, with what follows it.
module _
    (n : ℕ) (r : Reader) (todo chunk : List ℕ) (chunks : List (List ℕ)) (l : StateFits r) (e : todo ≡ chunk ++ flatten chunks)
    (short : Short (chunk ∷ chunks)) (z : Left r todo (chunk ∷ chunks) (suc n))
    (later :
    (r' : Reader) (todo' : List ℕ) (chunks' : List (List ℕ)) → StateFits r' → todo' ≡ flatten chunks' → Short chunks' → Left r' todo' chunks' n →
    Goes r' todo' chunks' n)
  where
    -- What the call gives.
    abbrev call : Called
    call = line (state_of r) chunk

    -- The reader that follows.
    abbrev next : Reader
    next = reader_of (after (state_of r) call)

    -- It fits.
    next_fits : StateFits next
    next_fits =
        holds_fits (reader_holds (after (state_of r) call)) (line_size (state_of r) chunk (fits_held r l)) (judged_few call.out.frames call.held)

    -- The payloads still to come are those of this call and those that come after it.
    next_left : payloads_in (state_of r) todo ≡ length call.out.frames + payloads_in (state_of next) (drop call.taken todo)
    next_left =
        let s' : State = after (state_of r) call in
        ap (payloads_in (state_of r)) e
        ∙ join_count
        (rule_after (state_of r) (chunk ++ flatten chunks))
        call.out
        (rule_after s' (drop call.taken (chunk ++ flatten chunks)))
        (line_rule (state_of r) chunk (flatten chunks))
        ∙ ap₂
        (λ (s : State) (t : List ℕ). length call.out.frames + payloads_in s (drop call.taken t))
        (sym (reader_holds s').state)
        (sym e)

    -- The call and those behind it.
    goes_on : (fs : List (List ℕ)) → call.out.frames ≡ fs → Goes r todo (chunk ∷ chunks) (suc n)
    unfolding flatten
    goes_on [] h =
        let a : Fed = record { reader = next; answer = Ok (NeedsMore call.taken call.out.noise (line_judged (state_of r) chunk)) } in
        let q : Feeds r chunk buffer a buffer =
        keeps call (line_judged (state_of r) chunk) [] buffer next (feed_free r chunk l short.0) h (reader_holds (after (state_of r) call)) in
        let rest : drop call.taken todo ≡ flatten chunks =
        ap₂ drop (needs_more_is_true (state_of r) chunk h).0 e ∙ drop-append_seam chunk (flatten chunks) in
        let none : length call.out.frames ≡ 0 = ap length h in
        let k : Goes next (drop call.taken todo) chunks n =
        later next (drop call.taken todo) chunks next_fits rest short.1 (omega (arith, next_left)) in
        record {
          out = join (out_of (feed_values_of a.answer) buffer) k.out;
          calls = fed chunk (flatten chunks) buffer buffer a q refl e k.calls;
          offers = (refl, k.offers);
          count = ap suc {x = length (replies_of k.calls)} k.count;
        }
    goes_on (p ∷ ps) h =
        let a : Fed =
        record { reader = next; answer = Ok (FeedFrame call.taken call.out.noise (line_judged (state_of r) chunk) (length p) call.began) } in
        let q : Feeds r chunk buffer a (in_front p buffer) =
        keeps call (line_judged (state_of r) chunk) (p ∷ ps) buffer next (feed_free r chunk l short.0) h (reader_holds (after (state_of r) call)) in
        let again : List (List ℕ) = drop call.taken chunk ∷ chunks in
        let rest : drop call.taken todo ≡ flatten again =
        ap (drop call.taken) e ∙ drop-append-le call.taken chunk (flatten chunks) (line_taken (state_of r) chunk) in
        let some : length call.out.frames ≡ suc (length ps) = ap length h in
        let size : length (drop call.taken chunk) ≤ 65536 = rw length-drop (omega (arith, short.0)) in
        let k : Goes next (drop call.taken todo) again n =
        later next (drop call.taken todo) again next_fits rest (size, short.1) (omega (arith, next_left, line_one (state_of r) chunk)) in
        record {
          out = join (out_of (feed_values_of a.answer) (in_front p buffer)) k.out;
          calls = fed chunk (flatten chunks) buffer (in_front p buffer) a q refl e k.calls;
          offers = (refl, k.offers);
          count = ap suc {x = length (replies_of k.calls)} k.count;
        }

-- All of the calls.
goes :
    (n : ℕ) (r : Reader) (todo : List ℕ) (chunks : List (List ℕ)) → StateFits r → todo ≡ flatten chunks → Short chunks → Left r todo chunks n →
    Goes r todo chunks n
unfolding flatten
goes zero r todo [] l e short z = goes_quiet zero r todo l e z
goes zero r todo (chunk ∷ chunks) l e short z = absurd (let h : ⊥ = omega arith in h)
goes (suc n) r todo [] l e short z = goes_quiet (suc n) r todo l e z
goes (suc n) r todo (chunk ∷ chunks) l e short z =
    goes_on n r todo chunk chunks l e short z (λ r' todo' chunks'. goes n r' todo' chunks')
    (line (state_of r) chunk).out.frames refl

-- A segment has no more payloads than bytes.
payloads_few : (f : Format) (s : List ℕ) → payloads_in (holding f [] false 0) s ≤ length s
payloads_few f s = rw (length-map (rule f s).frames (λ (x : Found). x.payload)) (rule_few f s)

-- However a segment is cut into chunks, a caller gets it through a new reader.
pub can_drive : (f : Format) → CanDrive f
can_drive f chunks short =
    let n : ℕ = payloads_in (holding f [] false 0) (flatten chunks) + length chunks in
    let k : Goes (new_reader f) (flatten chunks) chunks n = goes n (new_reader f) (flatten chunks) chunks (new_fits f) refl short refl in
    record { out = k.out; calls = k.calls; offers = k.offers }

-- The call that says "empty" is still to come, or not.
abbrev last_calls : Phase → ℕ
last_calls offering = 1
last_calls quieting = 1
last_calls over = 0

-- A line call hands out a payload, or is done with the chunk.
fed_uses :
    (v : Values) (buf chunk : List ℕ) (chunks : List (List ℕ)) (out : Output (List ℕ)) →
    suc (length out.frames + length (chunks_after v chunk chunks)) ≡ length (join (out_of v buf) out).frames + length (chunk ∷ chunks)
unfolding join
fed_uses v buf chunk chunks out = by_frame v.is_frame
  where
    by_frame :
        (is_frame : Bool) →
        suc (length out.frames + length (cond is_frame (drop v.taken chunk ∷ chunks) chunks))
        ≡ length (cond is_frame (take v.len buf ∷ []) [] ++ out.frames) + length (chunk ∷ chunks)
    by_frame true = omega arith
    by_frame false = omega arith

-- A quiet call with a frame hands out a payload.
quieted_uses :
    (v : Values) (buf : List ℕ) (out : Output (List ℕ)) → Gave true v → length (join (out_of v buf) out).frames ≡ suc (length out.frames)
unfolding join
quieted_uses v buf out n = rw n.frame

-- No call hands out less than nothing.
joined_more : (a out : Output (List ℕ)) → length out.frames ≤ length (join a out).frames
joined_more a out = rw (join_count (join a out) a out refl) (omega arith)

-- Calls that offer these chunks are no more than the payloads that they hand out and the chunks, and one.
few_calls :
    {phase : Phase} {r : Reader} {todo : List ℕ} {out : Output (List ℕ)} (calls : Calls phase r todo out) (chunks : List (List ℕ)) →
    Offers calls chunks → length (replies_of calls) ≤ length out.frames + length chunks + last_calls phase
few_calls (fed offered more buf buf' a p n e later) [] o = absurd o
few_calls (fed {out = out} offered more buf buf' a p n e later) (chunk ∷ chunks) o =
    let v : Values = feed_values_of a.answer in
    omega (arith, few_calls later (chunks_after v chunk chunks) o.1, fed_uses v buf' chunk chunks out)
few_calls (taken later) [] o = few_calls later [] o
few_calls (taken later) (chunk ∷ chunks) o = absurd o
few_calls (quieted {out = out} buf buf' a p n later) chunks o =
    omega (arith, few_calls later chunks o, quieted_uses (quiet_values_of a.answer) buf' out n)
few_calls (emptied {out = out} buf buf' a p n later) chunks o =
    omega (arith, few_calls later chunks o, joined_more (out_of (quiet_values_of a.answer) buf') out)
few_calls (feed_refused offered buf buf' a p n later) chunks o = absurd o
few_calls (quiet_refused buf buf' a p n later) chunks o = absurd o
few_calls done chunks o = zero-le

-- However a caller offers a segment in chunks, the calls are no more than chunks and bytes, and one.
pub drives_are_short : (f : Format) → DrivesAreShort f
drives_are_short f chunks out calls o =
    let all : length out.frames ≡ payloads_in (holding f [] false 0) (flatten chunks) =
    ap (λ (x : Output (List ℕ)). length x.frames) (calls_follow_rule f (flatten chunks) out calls) in
    omega (arith, few_calls calls chunks o, payloads_few f (flatten chunks))
