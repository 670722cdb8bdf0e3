-- Where frames began: what the answers of calls say of it is worked out from the segment alone, and so is the same for every cut; and it gives the rule's place
-- of each frame. Document 02, CR 14.
use Rattle.std.specs.Prelude.{ℕ, ◌+◌, ◌-◌, ◌≤◌, max, ◌≡◌, true, length}
use mathlib.Core.List.{List, [], ◌∷◌, ◌++◌, map, flatten}
use Rattle.frame.specs.Checks.{Verdict, cut, refused, frame}
use Rattle.frame.specs.Framing.{judged_at, read}
use Rattle.frame.specs.Rule.{Output, on_by, places, Found, rule}
use Rattle.reader.specs.Reader.{new_reader}
use Rattle.frame.specs.Elements.{All}
use Rattle.reader.specs.Calls.{Answered, out_of, Phase, offering, Calls, Reply, replies_of}
use Rattle.frame.specs.declared.framing.Format.{Format}
use Rattle.reader.specs.declared.reader.Reader.{Reader}

-- A frame's payload, and where it began: `began` bytes before the index `reach`.
pub record Position : Type 0 where
  pub payload : List ℕ
  pub reach : ℕ
  pub began : ℕ

abbrev pub position : List ℕ → ℕ → ℕ → Position
position p reach began = record { payload = p; reach = reach; began = began }

-- By the rule, the number of a frame at a place counts back from the index behind the furthest byte that was judged at this place or an earlier one, `reach`.
abbrev pub position_at : Verdict → ℕ → ℕ → List Position
position_at cut place reach = []
position_at (refused judged n) place reach = []
position_at (frame used p) place reach = position p reach (reach - place) ∷ []

-- At places in order, the first of which is `place`; `reach` is the index behind the furthest byte judged so far, or held at the start. A byte that a frame
-- absorbs is not judged; whether it is counted in makes no difference, since later places lie behind it, and what is judged there reaches beyond it.
unfoldable pub positions_from : Format → ℕ → ℕ → List (List ℕ) → List Position
positions_from f reach place [] = []
positions_from f reach place (s ∷ ss) =
    let reach' : ℕ = max reach (place + judged_at f s) in position_at (read f s) place reach' ++ positions_from f reach' (place + on_by (read f s)) ss

-- The rule's frames over a whole segment, and where they began.
abbrev pub rule_positions : Format → List ℕ → List Position
rule_positions f s = positions_from f 0 0 (places f 0 s)

-- What a reply says of a frame that it hands out, where the number counts back from the index `reach`.
abbrev pub position_of : Reply → ℕ → List Position
position_of a reach = map (λ p. position p reach a.values.began) (out_of a.values a.buffer).frames

-- Replies in order, each with the index that its number counts back from: the bytes taken up to and with its call, by the replies, refusals too; `at` were
-- taken before the first.
abbrev pub reached : ℕ → List Reply → List (Reply × ℕ)
reached at [] = []
reached at (a ∷ later) = let at' : ℕ = at + a.values.taken in (a, at') ∷ reached at' later

-- What the replies of a list of calls say, in order, where `at` bytes of the segment were taken before it.
abbrev pub positions_by : {phase : Phase} {r : Reader} {todo : List ℕ} {out : Output (List ℕ)} → ℕ → Calls phase r todo out → List Position
positions_by at calls = flatten (map (λ (x : Reply × ℕ). position_of x.0 x.1) (reached at (replies_of calls)))

-- Of a quiet call that is not refused that index is the segment's end.
abbrev pub QuietsAtEnd : Type 0
QuietsAtEnd =
    (r : Reader) (segment : List ℕ) (out : Output (List ℕ)) (calls : Calls offering r segment out) →
    All (λ (x : Reply × ℕ). x.0.is_quiet ≡ true → Answered x.0.values → x.1 ≡ length segment) (reached 0 (replies_of calls))

-- Any list of calls says what is worked out from the segment alone: bytes were taken up to the furthest one that the rule had judged by then, and the number
-- is the index behind that byte less the frame's place; so of a frame that a quiet call hands out it is the segment's length less the place.
abbrev pub CallsGivePositions : Format → Type 0
CallsGivePositions f =
    (segment : List ℕ) (out : Output (List ℕ)) (calls : Calls offering (new_reader f) segment out) →
    positions_by 0 calls ≡ rule_positions f segment

-- What is said gives the places of frames, in order, each with its payload; no number is larger than the index that it counts back from.
pub record GivesPlaces (said : List Position) (frames : List Found) : Type 0 where
  pub place : map (λ (x : Position). x.reach - x.began) said ≡ map (λ (x : Found). x.place) frames
  pub payload : map (λ (x : Position). x.payload) said ≡ map (λ (x : Found). x.payload) frames
  pub inside : All (λ (x : Position). x.began ≤ x.reach) said

-- So an editor can turn what any list of calls says into places: the bytes taken up to and with the call, less the number, is the rule's place of the frame.
abbrev pub CallsGivePlaces : Format → Type 0
CallsGivePlaces f =
    (segment : List ℕ) (out : Output (List ℕ)) (calls : Calls offering (new_reader f) segment out) →
    GivesPlaces (positions_by 0 calls) (rule f segment).frames
