-- Lists of calls. Document 01, last section.
use Rattle.std.specs.Prelude.{ℕ, ◌≡◌, List, [], ◌∷◌, ◌++◌, Bool, true, false, cond, eqb, take, drop}
use Rattle.frame.specs.Rule.{Output, output, nothing, join}
use Rattle.reader.specs.Reader.{Values, feed_values_of, quiet_values_of, Feeds, Quiets}
use Rattle.reader.specs.declared.reader.Reader.{Reader}
use Rattle.reader.specs.declared.reader.Fed.{Fed}
use Rattle.reader.specs.declared.reader.Quieted.{Quieted}

-- The call was refused, or not.
abbrev pub Refused : Values → Type 0
Refused v = eqb v.number 0 ≡ false

abbrev pub Answered : Values → Type 0
Answered v = eqb v.number 0 ≡ true

-- It was not refused, and handed out a frame or, by a quiet call with "empty", none.
pub record Gave (is_frame : Bool) (v : Values) : Type 0 where
  pub answered : Answered v
  pub frame : v.is_frame ≡ is_frame

-- What an answer hands out, where the buffer then holds `buf`.
abbrev pub out_of : Values → List ℕ → Output (List ℕ)
out_of v buf = output (cond v.is_frame (take v.len buf ∷ []) []) v.noise

-- Where a list of calls stands: bytes of the segment are offered; quiet calls follow; "empty" was answered.
pub data Phase : Type 0 where
  offering quieting over : Phase

-- A list of calls from a reader's state with `todo`, the segment's bytes not yet taken, and what it hands out. Each call meets the promise
-- of feed or quiet and gets the state that the last one gave back.
pub data Calls : Phase → Reader → List ℕ → Output (List ℕ) → Type 0 where
  -- A line call that is not refused offers bytes from the first untaken one on, as many as it likes, none too.
  fed : {r : Reader} {todo : List ℕ} {out : Output (List ℕ)} (chunk more buf buf' : List ℕ) (a : Fed) →
      Feeds r chunk buf a buf' → Answered (feed_values_of a.answer) → todo ≡ chunk ++ more →
      Calls offering a.reader (drop (feed_values_of a.answer).taken todo) out →
      Calls offering r todo (join (out_of (feed_values_of a.answer) buf') out)
  -- All are taken: the quiet calls begin.
  taken : {r : Reader} {out : Output (List ℕ)} → Calls quieting r [] out → Calls offering r [] out
  -- A quiet call that hands out a frame is followed by another.
  quieted : {r : Reader} {out : Output (List ℕ)} (buf buf' : List ℕ) (a : Quieted) →
      Quiets r buf a buf' → Gave true (quiet_values_of a.answer) → Calls quieting a.reader [] out →
      Calls quieting r [] (join (out_of (quiet_values_of a.answer) buf') out)
  -- "Empty" ends the segment.
  emptied : {r : Reader} {out : Output (List ℕ)} (buf buf' : List ℕ) (a : Quieted) →
      Quiets r buf a buf' → Gave false (quiet_values_of a.answer) → Calls over a.reader [] out →
      Calls quieting r [] (join (out_of (quiet_values_of a.answer) buf') out)
  -- Refused calls stand anywhere, whatever their chunk and buffer.
  feed_refused : {phase : Phase} {r : Reader} {todo : List ℕ} {out : Output (List ℕ)} (chunk buf buf' : List ℕ) (a : Fed) →
      Feeds r chunk buf a buf' → Refused (feed_values_of a.answer) → Calls phase a.reader todo out → Calls phase r todo out
  quiet_refused : {phase : Phase} {r : Reader} {todo : List ℕ} {out : Output (List ℕ)} (buf buf' : List ℕ) (a : Quieted) →
      Quiets r buf a buf' → Refused (quiet_values_of a.answer) → Calls phase a.reader todo out → Calls phase r todo out
  -- The list ends.
  done : {r : Reader} → Calls over r [] nothing

-- What a call replied: whether it was a quiet call, its values, and the buffer afterwards.
pub record Reply : Type 0 where
  pub is_quiet : Bool
  pub values : Values
  pub buffer : List ℕ

abbrev pub reply : Bool → Values → List ℕ → Reply
reply is_quiet values buffer = record { is_quiet = is_quiet; values = values; buffer = buffer }

-- The replies of a list of calls in order, refusals too.
abbrev pub replies_of : {phase : Phase} {r : Reader} {todo : List ℕ} {out : Output (List ℕ)} → Calls phase r todo out → List Reply
replies_of (fed chunk more buf buf' a p n e later) = reply false (feed_values_of a.answer) buf' ∷ replies_of later
replies_of (taken later) = replies_of later
replies_of (quieted buf buf' a p n later) = reply true (quiet_values_of a.answer) buf' ∷ replies_of later
replies_of (emptied buf buf' a p n later) = reply true (quiet_values_of a.answer) buf' ∷ replies_of later
replies_of (feed_refused chunk buf buf' a p n later) = reply false (feed_values_of a.answer) buf' ∷ replies_of later
replies_of (quiet_refused buf buf' a p n later) = reply true (quiet_values_of a.answer) buf' ∷ replies_of later
replies_of done = []
