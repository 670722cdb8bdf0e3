-- What all line calls over one chunk give together. Document 01, "The leftmost rule and the line reader": the caller calls again with the rest, even an
-- empty rest, until more bytes are needed.
use Rattle.std.specs.Prelude.{ℕ, zero, suc, ◌-◌, List, [], ◌∷◌, ◌++◌, Bool, false, cond, ◌&&◌, length}
use Rattle.frame.specs.Checks.{Verdict, cut, refused, frame}
use Rattle.frame.specs.Framing.{judge, is_open, is_optional, behind_optional}
use Rattle.frame.specs.Rule.{Output, nothing, join, rule, rule_judged, payloads}
use Rattle.frame.specs.Steps.{noise_byte, handed, pass_after}
use Rattle.reader.specs.Reader.{State, holding, count_from}
use Rattle.frame.specs.declared.framing.Format.{Format}

-- What was drained of bytes: what they gave, those that stay, and the mark.
pub record Drained : Type 0 where
  pub out : Output (List ℕ)
  pub held : List ℕ
  pub follows : Bool

abbrev pub drained : Output (List ℕ) → List ℕ → Bool → Drained
drained out held follows = record { out = out; held = held; follows = follows }

-- An output, and then what was drained.
abbrev pub before : Output (List ℕ) → Drained → Drained
before o d = drained (join o d.out) d.held d.follows

-- The rule at a place of a segment that goes on: undecided bytes stay.
abbrev pub drain_as : Verdict → List ℕ → Drained → Drained
drain_as cut s later = drained nothing s false
drain_as (refused judged n) s later = before noise_byte later
drain_as (frame used p) s later = before (handed p) later

-- Whether an optional byte may follow what stands at the front of s.
abbrev pub follows_after : Format → Verdict → List ℕ → Bool
follows_after m cut s = false
follows_after m (refused judged n) s = false
follows_after m (frame used p) s = is_open m used s

-- The leftmost rule over s, with `pass` bytes to pass over first, as far as it is settled: from the first undecided place on the bytes stay. `follows`
-- says whether the byte behind those that are passed over may be an optional one, which is then passed over too.
unfoldable pub drain_from : Format → Bool → ℕ → List ℕ → Drained
drain_from m follows pass [] = drained nothing [] follows
drain_from m follows (suc pass) (b ∷ s) = drain_from m follows pass s
drain_from m follows zero (b ∷ s) =
    let v : Verdict = judge m (b ∷ s) in
    cond (follows && is_optional m b) (drain_from m false zero s) (drain_as v (b ∷ s) (drain_from m (follows_after m v (b ∷ s)) (pass_after v) s))

-- What the line calls over a chunk give together from a state on, and the state that follows them: the bytes that stay were all judged at the first of them.
abbrev pub drain : State → List ℕ → Drained
drain s chunk = drain_from s.format s.follows 0 (s.held ++ chunk)

abbrev pub after_drain : State → Drained → State
after_drain s d = holding s.format d.held d.follows (length d.held)

-- What the rule gives from a state on, where these bytes are still to come.
abbrev pub rule_after : State → List ℕ → Output (List ℕ)
rule_after s todo = payloads (rule s.format (behind_optional s.format s.follows (s.held ++ todo)))

-- The bytes that the rule judges from a state on, where these are still to come: its own count, but for those judged already. Document 02, CR 7.
abbrev pub judged_after : State → List ℕ → ℕ
judged_after s todo = count_from s (rule_judged s.format) (s.held ++ todo)

-- What the line calls over a chunk judge together: what the rule judges as if the segment ended with the chunk, but for what it judges at the places behind the
-- first byte that stays. That it is the sum of the calls' counts is DrainSums, Draining.antt.
abbrev pub drain_judged : State → List ℕ → ℕ
drain_judged s chunk = judged_after s chunk - judged_after (after_drain s (drain s chunk)) []
