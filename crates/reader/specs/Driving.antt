-- That there are lists of calls, and what any of them has in common: however a segment is cut into chunks, one offers these chunks; every one that does is
-- short; and in none is the reader's own state refused. That the answers of every program make such a list follows, call by call, from FeedsAgree and
-- QuietsAgree, Further.antt: the promises leave no answer open. Document 01, "The leftmost rule and the line reader" and last section.
use Rattle.std.specs.Prelude.{ℕ, ◌+◌, ◌≤◌, ◌≡◌, cond, length, drop}
use mathlib.Core.List.{List, [], ◌∷◌, flatten}
use Rattle.frame.specs.Rule.{Output}
use Rattle.reader.specs.Reader.{new_reader, Values, feed_values_of}
use Rattle.frame.specs.Elements.{All}
use Rattle.reader.specs.Calls.{Phase, offering, Calls, fed, taken, quieted, emptied, feed_refused, quiet_refused, done, Reply, replies_of}
use Rattle.frame.specs.declared.framing.Format.{Format}
use Rattle.reader.specs.declared.reader.Reader.{Reader}

-- The chunks still to be offered after an answer to the first: its rest again, until "needs more".
abbrev pub chunks_after : Values → List ℕ → List (List ℕ) → List (List ℕ)
chunks_after v chunk chunks = cond v.is_frame (drop v.taken chunk ∷ chunks) chunks

-- The calls offer these chunks in order, each one's rest again until "needs more"; then come the quiet calls, up to "empty". None is
-- refused.
abbrev pub Offers : {phase : Phase} {r : Reader} {todo : List ℕ} {out : Output (List ℕ)} → Calls phase r todo out → List (List ℕ) → Type 0
Offers (fed offered more buf buf' a p n e later) [] = ⊥
Offers (fed offered more buf buf' a p n e later) (chunk ∷ chunks) = (offered ≡ chunk) × Offers later (chunks_after (feed_values_of a.answer) chunk chunks)
Offers (taken later) [] = Offers later []
Offers (taken later) (chunk ∷ chunks) = ⊥
Offers (quieted buf buf' a p n later) chunks = Offers later chunks
Offers (emptied buf buf' a p n later) chunks = Offers later chunks
Offers (feed_refused offered buf buf' a p n later) chunks = ⊥
Offers (quiet_refused buf buf' a p n later) chunks = ⊥
Offers done chunks = chunks ≡ []

-- There is a list of calls that offers these chunks to a new reader.
pub record Driven (f : Format) (chunks : List (List ℕ)) : Type 0 where
  pub out : Output (List ℕ)
  pub calls : Calls offering (new_reader f) (flatten chunks) out
  pub offers : Offers calls chunks

abbrev pub CanDrive : Format → Type 0
CanDrive f = (chunks : List (List ℕ)) → All (λ chunk. length chunk ≤ 65536) chunks → Driven f chunks

-- However a caller offers a segment in chunks, the calls are no more than the chunks plus the bytes plus one.
abbrev pub DrivesAreShort : Format → Type 0
DrivesAreShort f =
    (chunks : List (List ℕ)) (out : Output (List ℕ)) (calls : Calls offering (new_reader f) (flatten chunks) out) → Offers calls chunks →
    length (replies_of calls) ≤ length chunks + length (flatten chunks) + 1

-- No call in a list from a new reader refuses the state that it gets.
abbrev pub StateNeverRefused : Format → Type 0
StateNeverRefused f =
    (segment : List ℕ) (out : Output (List ℕ)) (calls : Calls offering (new_reader f) segment out) →
    All (λ (a : Reply). a.values.number ≡ 16 → ⊥) (replies_of calls)
