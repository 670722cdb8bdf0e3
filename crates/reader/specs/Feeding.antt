-- Behind the public calls: what the functions of reader.rt and view.rt answer that `feed`, `quiet` and a view's call are made of. proofs/ shows that it is
-- what `line` and `quiet` give.
use Rattle.std.specs.Prelude.{ℕ, ◌+◌, ◌-◌, ◌*◌, ◌≤◌, max, ◌≡◌, List, ◌++◌, Bool, true, false, cond, eqb, length, take, drop, Result, Ok, Err}
use Rattle.frame.specs.Framing.{limit, absorbed}
use Rattle.frame.specs.Refusal.{number_of}
use Rattle.reader.specs.Reader.{State, holding, Holds, Called, line, line_on, line_judged, judged_held, sound, AfterQuiet, fed_values_of, quiet_values_of, buffer_at}
use Rattle.reader.specs.View.{part}
use Rattle.reader.specs.Answer.{HeldSo, values_at}
use Rattle.frame.specs.declared.framing.Format.{Format}
use Rattle.frame.specs.declared.refusal.Refusal.{Refusal}
use Rattle.reader.specs.declared.answer.FeedAnswer.{FeedAnswer}
use Rattle.reader.specs.declared.answer.Kept.{Kept}
use Rattle.reader.specs.declared.reader.Reader.{Reader}
use Rattle.reader.specs.declared.reader.Settled.{Settled}
use Rattle.reader.specs.declared.reader.Quieted.{Quieted}
use Rattle.reader.specs.declared.reader.Joined.{Joined}
use Rattle.reader.specs.declared.view.View.{View}

-- The held bytes and as much of the chunk as a frame that begins in them can have.
abbrev pub joined : Format → List ℕ → List ℕ → List ℕ
joined f held chunk = held ++ take (limit f) chunk

-- Bytes joined in front of a larger array.
pub record Joins (f : Format) (held chunk : List ℕ) (j : Joined) : Type 0 where
  pub size : j.size ≡ length (joined f held chunk)
  pub bytes : take j.size j.bytes ≡ joined f held chunk

-- What a call gives back as its refusal's number, 0 for none.
abbrev pub refusal_in : {A : Type 0} → Result A Refusal → ℕ
refusal_in (Ok a) = 0
refusal_in (Err r) = number_of r

-- What is known where a call is not refused.
pub record Admitted (is_sound : Bool) (least given size : ℕ) : Type 0 where
  pub sound : is_sound ≡ true
  pub room : least ≤ given
  pub short : size ≤ 65536

-- What the functions behind `feed` are called with.
abbrev pub Ready : Reader → List ℕ → List ℕ → Type 0
Ready r chunk buf = Admitted (sound r) 256 (length buf) (length chunk)

-- The state behind an optional byte that was dropped, where it was the first held.
abbrev pub past : State → State
past s =
    let n : ℕ = absorbed s.format s.follows s.held in
    holding s.format (drop n s.held) false (cond (eqb n 0) s.judged 0)

-- A reader is set by a kept part, whose bytes stand in its array's front.
pub record Settles (r : Reader) (k : Kept) (a : FeedAnswer) (r' : Reader) : Type 0 where
  pub answer : a ≡ k.answer
  pub format : r'.format ≡ r.format
  pub held : r'.held ≡ r.held
  pub count : r'.count ≡ k.end - k.from
  pub follows : r'.follows ≡ k.follows
  pub judged : HeldSo k.answer r'.count r'.judged

-- The bytes of a kept part are held, and the answer goes on.
pub record Stores (f : Format) (s : List ℕ) (k : Kept) (a : FeedAnswer) (r : Reader) : Type 0 where
  pub answer : a ≡ k.answer
  pub format : r.format ≡ f
  pub count : r.count ≡ length s
  pub bytes : take r.count r.held ≡ s
  pub follows : r.follows ≡ k.follows
  pub judged : HeldSo k.answer r.count r.judged

-- A function behind `feed` answers what c gives, which judged `total` bytes: values, the reader that follows, and the buffer.
pub record Leaves (f : Format) (c : Called) (total : ℕ) (buf : List ℕ) (answer : FeedAnswer) (r : Reader) (buf' : List ℕ) : Type 0 where
  pub values : fed_values_of answer ≡ values_at c total
  pub next : Holds (holding f c.held c.follows (judged_held c.out.frames c.held)) r
  pub buffer : buf' ≡ buffer_at c.out.frames buf

-- The same of the line call in a state, by the mark, and where no optional byte is to come.
abbrev pub LeavesLine : State → List ℕ → List ℕ → FeedAnswer → Reader → List ℕ → Type 0
LeavesLine s chunk = Leaves s.format (line s chunk) (line_judged s chunk)

abbrev pub LeavesHeld : State → List ℕ → List ℕ → FeedAnswer → Reader → List ℕ → Type 0
LeavesHeld s chunk = Leaves s.format (line_on s.format s.held chunk) (line_judged (holding s.format s.held false s.judged) chunk)

-- A function behind `quiet` answers what c gives, which judged `total` bytes, with the reader that follows.
pub record QuietAnswered (m : Format) (c : Called) (total : ℕ) (buf : List ℕ) (q : Quieted) (buf' : List ℕ) : Type 0 where
  pub values : quiet_values_of q.answer ≡ values_at c total
  pub state : AfterQuiet m c c.out.frames q.reader
  pub buffer : buf' ≡ buffer_at c.out.frames buf

-- The call over w, whose first `count` bytes are held and whose others are offered, where no optional byte is to come.
abbrev pub line_over : Format → ℕ → List ℕ → Called
line_over f count w = line_on f (take count w) (drop count w)

-- The bytes that it judges, by the mark, where `judged` were judged at the first.
abbrev pub judged_in : Format → Bool → ℕ → ℕ → List ℕ → ℕ
judged_in f follows count judged w = line_judged (holding f (take count w) follows judged) (drop count w)

-- What a view's call that judged `total` bytes answers, and the part of w that is held afterwards, where the first `count` bytes of w were held.
pub record KeepsCall (c : Called) (total count : ℕ) (w : List ℕ) (k : Kept) (buf buf' : List ℕ) : Type 0 where
  pub values : fed_values_of k.answer ≡ values_at c total
  pub held : part k.from k.end w ≡ c.held
  pub inside : k.from ≤ k.end
  pub there : k.end ≤ length w
  pub ends : k.end ≡ count + c.taken
  pub follows : k.follows ≡ c.follows
  pub buffer : buf' ≡ buffer_at c.out.frames buf

-- The view behind an optional byte that may follow the last frame: the byte is passed over where it is held, and taken where it is offered.
abbrev pub past_optional : View → List ℕ → View
past_optional v chunk =
    let n : ℕ = absorbed v.format v.follows (drop v.from chunk) in
    let next : ℕ = v.from + n in
    record { format = v.format; from = next; end = max v.end next; follows = false; judged = cond (eqb n 0) v.judged 0 }

-- What `feed_part` is called with.
pub record PartFed (f : Format) (w : List ℕ) (count : ℕ) (buf : List ℕ) : Type 0 where
  pub inside : count ≤ length w
  pub fits : count ≤ limit f
  pub short : length w ≤ 65536
  pub room : 256 ≤ length buf

-- What `feed_chunk` is called with.
pub record ChunkFed (f : Format) (chunk : List ℕ) (settled : Settled) (buf : List ℕ) : Type 0 where
  pub short : length chunk ≤ 65536
  pub reached : settled.reach ≤ length chunk
  pub near : settled.reach ≤ limit f
  pub small : settled.noise ≤ 517
  pub few : settled.judged ≤ 517 * 517
  pub room : 256 ≤ length buf
