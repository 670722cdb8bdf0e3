-- A reader's state whose held bytes are a part of the chunk at hand: the line call of document 01 on that state, without a copy of the bytes.
use Rattle.std.specs.Prelude.{ℕ, ◌+◌, ◌-◌, ◌≡◌, List, [], Bool, false, cond, ◌&&◌, leb, length, take, drop}
use Rattle.reader.specs.Reader.{State, holding, Called, line, line_judged, after, Holds, feed_values_of, can_hold, Gives, call_refusal}
use Rattle.reader.specs.declared.reader.Reader.{Reader}
use Rattle.reader.specs.declared.view.View.{View}
use Rattle.reader.specs.declared.view.Viewed.{Viewed}

-- The view's bytes lie in a chunk of this size, and a reader can hold them with the view's number of judged bytes.
abbrev pub inside : View → ℕ → Bool
inside v size = leb v.from v.end && (leb v.end size && can_hold v.format (v.end - v.from) v.judged)

-- The bytes of s from index `from` up to `end`.
abbrev pub part : ℕ → ℕ → List ℕ → List ℕ
part from end s = take (end - from) (drop from s)

-- The state that a view of a chunk stands for: it holds that part of the chunk.
abbrev pub viewed : View → List ℕ → State
viewed v chunk = holding v.format (part v.from v.end chunk) v.follows v.judged

-- The line call on that state, which is offered what stands behind the view in the chunk.
abbrev pub view_call : View → List ℕ → Called
view_call v chunk = line (viewed v chunk) (drop v.end chunk)

-- The bytes that it judges.
abbrev pub view_judged : View → List ℕ → ℕ
view_judged v chunk = line_judged (viewed v chunk) (drop v.end chunk)

-- The view that follows a call: it ends behind the bytes taken, and stands for the state that follows.
pub record NextView (v : View) (chunk : List ℕ) (c : Called) (v' : View) : Type 0 where
  pub end : v'.end ≡ v.end + c.taken
  pub from : v'.from + length c.held ≡ v'.end
  pub state : viewed v' chunk ≡ after (viewed v chunk) c

-- The refusals of a view's call: 16, also where its bytes do not lie in the chunk; 13; 15, for a chunk over 65,536 bytes.
abbrev pub view_refusal : View → ℕ → ℕ → ℕ
view_refusal v room size = call_refusal (inside v size) 256 room size

-- The promise of a view's call with a chunk and a buffer.
abbrev pub Views : View → List ℕ → List ℕ → Viewed → List ℕ → Type 0
Views v chunk buf a buf' =
    let c : Called = view_call v chunk in
    Gives (view_refusal v (length buf) (length chunk)) c (view_judged v chunk) (NextView v chunk c) v buf (feed_values_of a.answer) a.view buf'

-- The reader that a view stands for; one that holds nothing, without the mark, where `inside` fails, which is where the view's call is refused with 16.
abbrev pub Stands : View → List ℕ → Reader → Type 0
Stands v chunk r = Holds (cond (inside v (length chunk)) (viewed v chunk) (holding v.format [] false 0)) r
