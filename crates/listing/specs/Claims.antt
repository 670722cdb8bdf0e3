-- What follows from the promises: the calls over a segment print its listing, however it is cut into chunks. Document 01, end of "Frames to check
-- against"; document 02, CR 7, for the bytes judged.
use Rattle.std.specs.Prelude.{ℕ, ◌+◌, ◌≤◌, ◌≡◌, true, false, eqb, length, take, Result}
use mathlib.Core.List.{List, [], ◌∷◌, ◌++◌, flatten}
use Rattle.frame.specs.Rule.{Output, join, rule, rule_judged, payloads}
use Rattle.reader.specs.Reader.{State, holding, new_reader, sound}
use Rattle.frame.specs.Single.{writing_of}
use Rattle.reader.specs.Drain.{Drained, drain, after_drain, rule_after}
use Rattle.frame.specs.Elements.{All}
use Rattle.frame.specs.declared.framing.Format.{Format}
use Rattle.reader.specs.declared.reader.Reader.{Reader}
use Rattle.frame.specs.declared.refusal.Refusal.{Refusal}
use Rattle.listing.specs.Listing.{ListValues, values_of, ListsChunk, ListsQuiet, ListsTotal}
use Rattle.listing.specs.Line.{lines_of, noise_line}
use Rattle.listing.specs.declared.list.Listed.{Listed}

-- The text is within the buffer, which keeps its length. A chunk has at most 65,536 bytes of noise and 517 that were held, a quiet 517.
abbrev pub ChunkIsSmall : Type 0
ChunkIsSmall =
    (r : Reader) (chunk out : List ℕ) (a : Listed) (out' : List ℕ) → ListsChunk r chunk out a out' →
    ((values_of a.answer).len ≤ length out) × (length out' ≡ length out) × ((values_of a.answer).noise ≤ 66053)

abbrev pub QuietIsSmall : Type 0
QuietIsSmall =
    (r : Reader) (out : List ℕ) (a : Listed) (out' : List ℕ) → ListsQuiet r out a out' →
    ((values_of a.answer).len ≤ length out) × (length out' ≡ length out) × ((values_of a.answer).noise ≤ 517)

abbrev pub TotalIsSmall : Type 0
TotalIsSmall =
    (noise : ℕ) (out : List ℕ) (a : Result ℕ Refusal) (out' : List ℕ) → ListsTotal noise out a out' →
    ((writing_of a).len ≤ length out) × (length out' ≡ length out)

-- What the chunks of a segment give from a state on, and then its quiet.
abbrev pub given : State → List (List ℕ) → Output (List ℕ)
given s [] = rule_after s []
given s (chunk ∷ chunks) = let d : Drained = drain s chunk in join d.out (given (after_drain s d) chunks)

-- All that is printed of an output.
abbrev pub printed : Output (List ℕ) → List ℕ
printed o = lines_of o.frames ++ noise_line o.noise

-- The listing of a segment: the frames that the leftmost rule hands out, and its noise.
abbrev pub listing : Format → List ℕ → List ℕ
listing m segment = printed (payloads (rule m segment))

-- However a segment is cut into chunks, the lines of all of them and of the quiet, and then the total of their noise, are the segment's listing.
abbrev pub AnyCutIsListed : Type 0
AnyCutIsListed = (m : Format) (chunks : List (List ℕ)) → printed (given (holding m [] false 0) chunks) ≡ listing m (flatten chunks)

-- A call was not refused.
abbrev pub NotRefused : ListValues → Type 0
NotRefused v = eqb v.number 0 ≡ true

-- The last call of a run: it keeps the promise of `list_total` with all the noise, is not refused, and prints the text of its answer.
pub record Totals (noise : ℕ) (shown : List ℕ) : Type 0 where
  pub out : List ℕ
  pub out' : List ℕ
  pub answer : Result ℕ Refusal
  pub lists : ListsTotal noise out answer out'
  pub answered : (writing_of answer).number ≡ 0
  pub shows : take (writing_of answer).len out' ≡ shown

-- A run over a segment's chunks from a reader's state and a count of noise: a call for each chunk that keeps the promise of `list_chunk` and gets the
-- state that the last one gave back, then one that keeps that of `list_quiet`, and last one that keeps that of `list_total`, with the noise of all of
-- them. What it prints is the text of each answer, in order.
pub data Run : Reader → ℕ → List (List ℕ) → List ℕ → Type 0 where
  chunk_listed : {r : Reader} {noise : ℕ} {chunks : List (List ℕ)} {shown : List ℕ} (chunk out out' : List ℕ) (a : Listed) →
      ListsChunk r chunk out a out' → NotRefused (values_of a.answer) → Run a.reader (noise + (values_of a.answer).noise) chunks shown →
      Run r noise (chunk ∷ chunks) (take (values_of a.answer).len out' ++ shown)
  quiet_listed : {r : Reader} {noise : ℕ} {shown : List ℕ} (out out' : List ℕ) (a : Listed) →
      ListsQuiet r out a out' → NotRefused (values_of a.answer) → Totals (noise + (values_of a.answer).noise) shown →
      Run r noise [] (take (values_of a.answer).len out' ++ shown)

-- Whatever its chunks, a run from a new reader prints the segment's listing, with the line of its noise last.
abbrev pub RunIsListing : Type 0
RunIsListing = (m : Format) (chunks : List (List ℕ)) (shown : List ℕ) → Run (new_reader m) 0 chunks shown → shown ≡ listing m (flatten chunks)

-- A run over these chunks, and what it prints.
pub record HasRun (r : Reader) (noise : ℕ) (chunks : List (List ℕ)) : Type 0 where
  pub shown : List ℕ
  pub run : Run r noise chunks shown

-- However a segment is cut into chunks of at most 65,536 bytes, there is a run over them from a new reader.
abbrev pub RunExists : Type 0
RunExists = (m : Format) (chunks : List (List ℕ)) → All (λ chunk. length chunk ≤ 65536) chunks → HasRun (new_reader m) 0 chunks

-- The bytes that the answers of a run report as judged, together.
abbrev pub judged_by_run : {r : Reader} {noise : ℕ} {chunks : List (List ℕ)} {shown : List ℕ} → Run r noise chunks shown → ℕ
judged_by_run (chunk_listed chunk out out' a p n later) = (values_of a.answer).judged + judged_by_run later
judged_by_run (quiet_listed out out' a p n totals) = (values_of a.answer).judged

-- Whatever its chunks, they are the rule's own count over the segment. Document 02, CR 7.
abbrev pub RunCounts : Type 0
RunCounts = (m : Format) (chunks : List (List ℕ)) (shown : List ℕ) (run : Run (new_reader m) 0 chunks shown) → judged_by_run run ≡ rule_judged m (flatten chunks)

-- Whatever sound state a chunk is listed with, the state that follows is sound, with the same format: no later call refuses it.
abbrev pub ChunkStaysSound : Type 0
ChunkStaysSound =
    (r : Reader) (chunk out : List ℕ) (a : Listed) (out' : List ℕ) → ListsChunk r chunk out a out' → sound r ≡ true →
    (a.reader.format ≡ r.format) × (sound a.reader ≡ true)
