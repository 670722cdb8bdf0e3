-- What is claimed of line calls and of lists of calls, in that order. Claims on how lists of calls come about stand in Driving.antt, those on damage, of the
-- rule too, in Recovery.antt and Further.antt, on judged bytes in Counts.antt, on where frames began in Positions.antt, on views in Views.antt, on what calls
-- over a chunk give together in Draining.antt, and others in Further.antt. proofs/Theorems.antt proves each claim, one that takes a format for every format.
use Rattle.std.specs.Prelude.{ℕ, ◌+◌, ◌<◌, ◌≡◌, List, [], ◌++◌, ◌⊎◌, length, take, drop}
use Rattle.frame.specs.Checks.{cut}
use Rattle.frame.specs.Framing.{judge}
use Rattle.frame.specs.Rule.{Output, rule, payloads}
use Rattle.reader.specs.Reader.{State, holding, Called, line, new_reader}
use Rattle.reader.specs.Calls.{Calls, offering}
use Rattle.frame.specs.declared.framing.Format.{Format}

-- A line call takes no byte that it can do without: of a chunk cut before the last byte that it takes, it hands out no frame. (That it hands out those that
-- are there is NeedsMoreIsTrue and CallsFollowRule.)
abbrev pub TakenIsNeeded : Type 0
TakenIsNeeded = (s : State) (chunk : List ℕ) (n : ℕ) → n < (line s chunk).taken → (line s (take n chunk)).out.frames ≡ []

-- A line call that hands out no frame has taken the whole chunk, and holds nothing or undecided bytes.
abbrev pub NeedsMoreIsTrue : Type 0
NeedsMoreIsTrue =
    (s : State) (chunk : List ℕ) →
    let c : Called = line s chunk in
    c.out.frames ≡ [] → (c.taken ≡ length chunk) × ((c.held ≡ []) ⊎ (judge s.format c.held ≡ cut))

-- The call c over a chunk, where `count` bytes were held, gives what another gives that is offered `all`, held bytes too: what comes out, noise too, what is
-- left and the mark. And the frame begins at the same index of `all`: the bytes held and taken, less how far back it began, are the same number; it is
-- written without subtraction.
pub record AsOffered (count : ℕ) (c : Called) (chunk : List ℕ) (whole : Called) (all : List ℕ) : Type 0 where
  pub out : c.out ≡ whole.out
  pub rest : c.held ++ drop c.taken chunk ≡ whole.held ++ drop whole.taken all
  pub follows : c.follows ≡ whole.follows
  pub index : count + c.taken + whole.began ≡ whole.taken + c.began

-- A line call's answer, but for the bytes taken, those judged and how far back the frame began, is that of the held bytes followed by the chunk: of a call
-- that has the same mark, holds nothing and is offered both.
abbrev pub HeldThenChunk : Type 0
HeldThenChunk =
    (s : State) (chunk : List ℕ) →
    let all : List ℕ = s.held ++ chunk in
    AsOffered (length s.held) (line s chunk) chunk (line (holding s.format [] s.follows 0) all) all

-- Any list of calls hands out what the rule gives over the whole segment.
abbrev pub CallsFollowRule : Format → Type 0
CallsFollowRule f = (segment : List ℕ) (out : Output (List ℕ)) → Calls offering (new_reader f) segment out → out ≡ payloads (rule f segment)
