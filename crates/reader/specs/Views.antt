-- What is claimed of views.
use Rattle.std.specs.Prelude.{◌≡◌, List, true, ℕ, length, drop}
use Rattle.reader.specs.Reader.{feed_values_of, Feeds}
use Rattle.reader.specs.View.{inside, Views, Stands}
use Rattle.reader.specs.Calls.{Refused, Answered}
use Rattle.reader.specs.declared.reader.Reader.{Reader}
use Rattle.reader.specs.declared.view.View.{View}
use Rattle.reader.specs.declared.view.Viewed.{Viewed}

-- Where the view is inside the chunk, its call is the line call of the reader that it stands for, offered what stands behind the view in the chunk, and the
-- view that follows stands for the reader that follows; where it is refused, that reader is refused so with the chunk. So lists of calls admit it.
pub record IsFeed (v : View) (chunk buf : List ℕ) (a : Viewed) (buf' : List ℕ) (r : Reader) : Type 0 where
  pub answered :
      Answered (feed_values_of a.answer) → (r' : Reader) → Stands a.view chunk r' →
      Feeds r (drop v.end chunk) buf (record { reader = r'; answer = a.answer }) buf'
  pub refused : Refused (feed_values_of a.answer) → Feeds r chunk buf (record { reader = r; answer = a.answer }) buf'

abbrev pub ViewIsFeed : Type 0
ViewIsFeed =
    (v : View) (chunk buf : List ℕ) (a : Viewed) (buf' : List ℕ) (r : Reader) → Views v chunk buf a buf' → inside v (length chunk) ≡ true →
    Stands v chunk r → IsFeed v chunk buf a buf' r

-- The view that follows a call lies in the chunk.
abbrev pub ViewStaysInside : Type 0
ViewStaysInside =
    (v : View) (chunk buf : List ℕ) (a : Viewed) (buf' : List ℕ) → Views v chunk buf a buf' → inside v (length chunk) ≡ true →
    inside a.view (length chunk) ≡ true
