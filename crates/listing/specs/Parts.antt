-- What the functions behind the public calls answer.
use Rattle.std.specs.Prelude.{ℕ, ⊤, ◌+◌, ◌≤◌, ◌≡◌, List, [], ◌++◌, true, length, take, drop, Option, Some, None, Result, Ok, Err, MatchResult}
use Rattle.std.specs.Borrow.{MutBor}
use Rattle.frame.specs.Rule.{Output}
use Rattle.frame.specs.declared.refusal.Refusal.{Refusal}
use Rattle.reader.specs.Reader.{State, state_of, Holds, new_reader, sound}
use Rattle.reader.specs.View.{inside, viewed, Stands}
use Rattle.reader.specs.Drain.{Drained, drain, after_drain, rule_after, judged_after, drain_judged}
use Rattle.reader.specs.declared.answer.FeedAnswer.{FeedAnswer}
use Rattle.reader.specs.declared.reader.Reader.{Reader}
use Rattle.reader.specs.declared.reader.Fed.{Fed}
use Rattle.reader.specs.declared.view.View.{View}
use Rattle.listing.specs.Line.{lines_of}
use Rattle.listing.specs.declared.text.Lines.{Lines}
use Rattle.listing.specs.declared.text.Listing.{Listing}
use Rattle.listing.specs.declared.list.Listed.{Listed}

-- A listing that begins at the front of a buffer.
pub record Starts (out : MutBor (List ℕ)) (g : Listing) : Type 0 where
  pub same_reference : g.out.ghost_name ≡ out.ghost_name
  pub bytes : g.out.now ≡ out.now
  pub size : length g.out.now ≡ length out.now
  pub len : g.lines.len ≡ 0
  pub noise : g.lines.noise ≡ 0
  pub judged : g.lines.judged ≡ 0

-- The buffer has room for the text s behind what is written.
abbrev pub HasRoom : Listing → List ℕ → Type 0
HasRoom g s = g.lines.len + length s ≤ length g.out.now

-- The text s is written behind what was, and the rest of the buffer stays.
pub record Writes (g : Listing) (s : List ℕ) (g' : Listing) : Type 0 where
  pub same_reference : g'.out.ghost_name ≡ g.out.ghost_name
  pub size : length g'.out.now ≡ length g.out.now
  pub len : g'.lines.len ≡ g.lines.len + length s
  pub text : take g'.lines.len g'.out.now ≡ take g.lines.len g.out.now ++ s
  pub rest : drop g'.lines.len g'.out.now ≡ drop (g.lines.len + length s) g.out.now

-- It is, and so many bytes more are counted as noise, and as judged.
pub record Adds (g : Listing) (s : List ℕ) (n j : ℕ) (g' : Listing) : Type 0 where
  pub text : Writes g s g'
  pub noise : g'.lines.noise ≡ g.lines.noise + n
  pub judged : g'.lines.judged ≡ g.lines.judged + j

-- Part of a text is written, and the rest is to follow.
pub record PartlyWritten (g : Listing) (whole rest : List ℕ) (g' : Listing) : Type 0 where
  pub done : List ℕ
  pub writes : Writes g done g'
  pub all : done ++ rest ≡ whole

-- No more bytes are judged over a chunk: 262 for each of the 66,053 that are held or offered at most.
abbrev pub judged_most : ℕ
judged_most = 17305886

-- A call's noise and the bytes that it judged can be counted, and a frame's line be written besides.
pub record CanCount (g : Listing) (n j : ℕ) : Type 0 where
  pub noise : g.lines.noise + n ≤ 66053
  pub judged : g.lines.judged + j ≤ judged_most

pub record CanAdd (g : Listing) (s : List ℕ) (n j : ℕ) : Type 0 where
  pub room : HasRoom g s
  pub counts : CanCount g n j

-- Of `whole`, `left` is still to be listed: behind g, the lines before it are written, and its noise is counted.
pub record Progress (whole left : Output (List ℕ)) (g g' : Listing) : Type 0 where
  pub text : PartlyWritten g (lines_of whole.frames) (lines_of left.frames) g'
  pub noises : g'.lines.noise + left.noise ≡ g.lines.noise + whole.noise

-- Some of the calls over a chunk are made: from the state s on, `rest` is still to be offered, and what the other calls give is what is left of `whole`; the
-- bytes judged so far and those that are still judged, as if the segment ended with the chunk, are `total`.
pub record PartlyDrained (whole : Drained) (total : ℕ) (s : State) (rest : List ℕ) (g g' : Listing) : Type 0 where
  pub same : (drain s rest).held ≡ whole.held
  pub mark : (drain s rest).follows ≡ whole.follows
  pub progress : Progress whole.out (drain s rest).out g g'
  pub counts : g'.lines.judged + judged_after s rest ≡ total
  pub known : s.judged ≤ length s.held

-- All of `whole` can be listed: there is room for its lines, and its noise is small.
pub record Room (whole : Drained) (g : Listing) : Type 0 where
  pub room : HasRoom g (lines_of whole.out.frames)
  pub few : g.lines.noise + whole.out.noise ≤ 66053

-- It is listed: the lines are written, the noise is counted, `judged` bytes were judged, and the reader has the state that follows s.
pub record ListsRest (s : State) (whole : Drained) (judged : ℕ) (g : Listing) (r : Reader) (g' : Listing) : Type 0 where
  pub text : Writes g (lines_of whole.out.frames) g'
  pub noise : g'.lines.noise ≡ g.lines.noise + whole.out.noise
  pub judges : g'.lines.judged ≡ judged
  pub state : Holds (after_drain s whole) r

-- What `list_view` is called with, and what it lists: the calls of a view over the rest of its chunk. It is never refused.
abbrev pub view_drain : View → List ℕ → Drained
view_drain v chunk = drain (viewed v chunk) (drop v.end chunk)

pub record CanView (v : View) (chunk : List ℕ) (g : Listing) : Type 0 where
  pub within : inside v (length chunk) ≡ true
  pub small : length chunk ≤ 65536
  pub fits : Room (view_drain v chunk) g
  pub count : g.lines.judged + judged_after (viewed v chunk) (drop v.end chunk) ≤ judged_most

abbrev pub ListsView : View → List ℕ → Listing → Result View Refusal → Listing → Type 0
ListsView v chunk g answer g' =
    let s : State = viewed v chunk in
    MatchResult answer
    (λ v'. (r : Reader) → Stands v' chunk r → ListsRest s (view_drain v chunk) (g.lines.judged + drain_judged s (drop v.end chunk)) g r g')
    (λ _. ⊥)

-- Where the loop of `list_view` stands: some of the calls are made.
pub record ViewGoesOn (v₀ : View) (chunk : List ℕ) (g₀ : Listing) (v : View) (g : Listing) : Type 0 where
  pub within : inside v (length chunk) ≡ true
  pub format : v.format ≡ v₀.format
  pub drained :
      PartlyDrained (view_drain v₀ chunk) (g₀.lines.judged + judged_after (viewed v₀ chunk) (drop v₀.end chunk)) (viewed v chunk) (drop v.end chunk) g₀ g

-- The reader that holds what is left of a chunk: a view's, or this one.
abbrev pub Left : Option View → Reader → List ℕ → Reader → Type 0
Left (Some v) r chunk r' = Stands v chunk r'
Left None r chunk r' = r' ≡ r

-- What `list_all` is called with, and what it lists: all calls over the chunk. It is never refused.
pub record CanFeed (r : Reader) (chunk : List ℕ) (g : Listing) : Type 0 where
  pub within : sound r ≡ true
  pub known : r.judged ≤ length (state_of r).held
  pub small : length chunk ≤ 65536
  pub fits : Room (drain (state_of r) chunk) g
  pub count : g.lines.judged + judged_after (state_of r) chunk ≤ judged_most

abbrev pub ListsAll : Reader → List ℕ → Listing → Result (Option View) Refusal → Reader → Listing → Type 0
ListsAll r chunk g answer r' g' =
    let s : State = state_of r in
    MatchResult answer
    (λ left. (r'' : Reader) → Left left r' chunk r'' → ListsRest s (drain s chunk) (g.lines.judged + drain_judged s chunk) g r'' g')
    (λ _. ⊥)

-- What `list_held` is called with, and what it lists: what the rule gives over the held bytes. It is never refused.
pub record CanQuiet (r : Reader) (g : Listing) : Type 0 where
  pub within : sound r ≡ true
  pub room : HasRoom g (lines_of (rule_after (state_of r) []).frames)
  pub few : g.lines.noise + (rule_after (state_of r) []).noise ≤ 66053
  pub count : g.lines.judged + judged_after (state_of r) [] ≤ judged_most

pub record QuietListed (r : Reader) (g : Listing) (r' : Reader) (g' : Listing) : Type 0 where
  pub text : Writes g (lines_of (rule_after (state_of r) []).frames) g'
  pub noise : g'.lines.noise ≡ g.lines.noise + (rule_after (state_of r) []).noise
  pub judges : g'.lines.judged ≡ g.lines.judged + judged_after (state_of r) []
  pub state : r' ≡ new_reader r.format

abbrev pub ListsHeld : Reader → Listing → Result ⊤ Refusal → Reader → Listing → Type 0
ListsHeld r g answer r' g' = MatchResult answer (λ _. QuietListed r g r' g') (λ _. ⊥)

-- What a call answers, and the reader that it leaves.
abbrev pub fed_of : Reader → Result FeedAnswer Refusal → Fed
fed_of r answer = record { reader = r; answer = answer }

abbrev pub listed_of : Reader → Result Lines Refusal → Listed
listed_of r answer = record { reader = r; answer = answer }

-- What a call over a chunk answers, where this reader or a view is what the calls leave: behind a refusal it is this reader.
abbrev pub Follows : Reader → List ℕ → Result (Option View × Lines) Refusal → Listed → Type 0
Follows r chunk (Ok (left, lines)) a = Left left r chunk a.reader × (a.answer ≡ Ok lines)
Follows r chunk (Err e) a = a ≡ listed_of r (Err e)

-- Where the loop of `list_all` stands.
pub record HeldGoesOn (r₀ : Reader) (chunk : List ℕ) (g₀ : Listing) (r : Reader) (done : ℕ) (g : Listing) : Type 0 where
  pub inside : done ≤ length chunk
  pub within : sound r ≡ true
  pub format : r.format ≡ r₀.format
  pub drained :
      PartlyDrained (drain (state_of r₀) chunk) (g₀.lines.judged + judged_after (state_of r₀) chunk) (state_of r) (drop done chunk) g₀ g

-- Where the loop of `list_held` stands.
pub record QuietGoesOn (r₀ : Reader) (g₀ : Listing) (r : Reader) (g : Listing) : Type 0 where
  pub within : sound r ≡ true
  pub format : r.format ≡ r₀.format
  pub progress : Progress (rule_after (state_of r₀) []) (rule_after (state_of r) []) g₀ g
  pub counts : g.lines.judged + judged_after (state_of r) [] ≡ g₀.lines.judged + judged_after (state_of r₀) []
