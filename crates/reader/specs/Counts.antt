-- How many bytes are judged: by any list of calls as many as by the rule, and at most so many for each byte of a segment. Document 02, CR 7.
use Rattle.std.specs.Prelude.{ℕ, ◌*◌, ◌≤◌, ◌≡◌, List, map, length}
use Rattle.frame.specs.Hex.{sum_of}
use Rattle.frame.specs.Rule.{Output, rule_judged}
use Rattle.reader.specs.Reader.{new_reader}
use Rattle.reader.specs.Calls.{Phase, offering, Calls, Reply, replies_of}
use Rattle.frame.specs.declared.framing.Format.{Format}
use Rattle.frame.specs.declared.framing.Format.TheVariants.{Binary, Ascii}
use Rattle.reader.specs.declared.reader.Reader.{Reader}

-- The bytes that the answers of a list of calls report together, refusals too.
abbrev pub judged_by : {phase : Phase} {r : Reader} {todo : List ℕ} {out : Output (List ℕ)} → Calls phase r todo out → ℕ
judged_by calls = sum_of (map (λ (a : Reply). a.values.judged) (replies_of calls))

-- Any list of calls reports the rule's own count over the whole segment.
abbrev pub CallsCount : Format → Type 0
CallsCount f = (segment : List ℕ) (out : Output (List ℕ)) (calls : Calls offering (new_reader f) segment out) → judged_by calls ≡ rule_judged f segment

-- The bound, so many judged bytes for each byte, and that what any list of calls reports keeps it. How near segments come to it is shown in
-- CountExamples.antt.
abbrev pub most_judged : Format → ℕ
most_judged (Binary footer) = 262
most_judged (Ascii ending) = 2

abbrev pub CallsBound : Format → Type 0
CallsBound f =
    (segment : List ℕ) (out : Output (List ℕ)) (calls : Calls offering (new_reader f) segment out) → judged_by calls ≤ most_judged f * length segment
