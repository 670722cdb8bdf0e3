-- The line reader across the boundary: numbers, state and buffer are those that the reader crate promises.
use Rattle.std.specs.Prelude.{ℕ, ◌≡◌, List, Bool, cond, eqb, leb, replicate, Option, Some, None}
use Rattle.std.specs.Int.{from_bool}
use Rattle.reader.specs.Reader.{Values, refusal_values, feed_values_of, quiet_values_of, Feeds, Quiets}
use Rattle.frame.specs.declared.framing.Format.{Format}
use Rattle.reader.specs.declared.reader.Reader.{Reader}
use Rattle.reader.specs.declared.reader.Fed.{Fed}
use Rattle.reader.specs.declared.reader.Quieted.{Quieted}
use Rattle.boundary.specs.Refusal.{unknown_number}
use Rattle.boundary.specs.Framing.{format_of, format_number}
use Rattle.boundary.specs.declared.line.LineReader.{LineReader}
use Rattle.boundary.specs.declared.line.LineAnswer.{LineAnswer}
use Rattle.boundary.specs.declared.line.LineFed.{LineFed}

-- The numbers of an answer as they cross.
abbrev pub flat_values : Values → LineAnswer
flat_values v =
    record {
      refusal = v.number;
      is_frame = v.is_frame;
      taken = v.taken;
      noise = v.noise;
      judged = v.judged;
      len = v.len;
      began = v.began;
    }

-- A state as it crosses, its mark as 1 for yes and 0 for no. Any other number is no mark.
abbrev pub flat_reader : Reader → LineReader
flat_reader r =
    record { format = format_number r.format; held = r.held; count = r.count; follows = from_bool r.follows; judged = r.judged }

-- The format of a state that crossed: the one that its number stands for, and none where its mark is neither 0 nor 1.
abbrev pub format_in : LineReader → Option Format
format_in r = cond (leb r.follows 1) (format_of r.format) None

-- The mark that a number stands for.
abbrev pub mark_in : ℕ → Bool
mark_in n = eqb n 1

-- The state that crossed, whose format is m.
abbrev pub reader_in : Format → LineReader → Reader
reader_in m r = record { format = m; held = r.held; count = r.count; follows = mark_in r.follows; judged = r.judged }

-- A new reader's state.
abbrev pub new_flat : ℕ → LineReader
new_flat n = record { format = n; held = replicate 517 0; count = 0; follows = 0; judged = 0 }

-- There is an answer that keeps the reader crate's promise, and it is what crosses.
pub record Crosses (A : Type 0) (Promised : A → Type 0) (flat : A → LineFed) (fed : LineFed) : Type 0 where
  pub answer : A
  pub promised : Promised answer
  pub crosses : fed ≡ flat answer

-- The refusal of a state for an unknown format or mark.
abbrev pub unnamed : LineReader → LineFed
unnamed r = record { reader = r; answer = flat_values (refusal_values unknown_number) }

-- It leaves state and buffer.
pub record Unnamed (r : LineReader) (buf : List ℕ) (fed : LineFed) (after : List ℕ) : Type 0 where
  pub refuses : fed ≡ unnamed r
  pub leaves : after ≡ buf

abbrev pub flat_fed : Fed → LineFed
flat_fed fed = record { reader = flat_reader fed.reader; answer = flat_values (feed_values_of fed.answer) }

abbrev pub flat_quieted : Quieted → LineFed
flat_quieted q = record { reader = flat_reader q.reader; answer = flat_values (quiet_values_of q.answer) }

-- The promise of a line call with the state r, a chunk and a buffer, which then holds `after`.
abbrev pub FeedsFlat : Option Format → LineReader → List ℕ → List ℕ → LineFed → List ℕ → Type 0
FeedsFlat (Some m) r chunk buf fed after = Crosses Fed (λ a. Feeds (reader_in m r) chunk buf a after) flat_fed fed
FeedsFlat None r chunk buf fed after = Unnamed r buf fed after

-- The promise of a quiet call with the state r and a buffer.
abbrev pub QuietsFlat : Option Format → LineReader → List ℕ → LineFed → List ℕ → Type 0
QuietsFlat (Some m) r buf fed after = Crosses Quieted (λ a. Quiets (reader_in m r) buf a after) flat_quieted fed
QuietsFlat None r buf fed after = Unnamed r buf fed after
