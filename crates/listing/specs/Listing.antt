-- What the calls behind booth-list promise. Document 01, end of "Frames to check against": the input's end is the quiet.
use Rattle.std.specs.Prelude.{ℕ, ◌≡◌, List, [], cond, leb, length, Result, Ok, Err}
use Rattle.frame.specs.Framing.{in_front}
use Rattle.frame.specs.Refusal.{number_of}
use Rattle.frame.specs.Rule.{Output}
use Rattle.reader.specs.Reader.{State, state_of, new_reader, Holds, sound, Promise, call_refusal}
use Rattle.frame.specs.Single.{length_writing, no_writing, writing_of}
use Rattle.reader.specs.Drain.{Drained, drain, after_drain, rule_after, judged_after, drain_judged}
use Rattle.reader.specs.declared.reader.Reader.{Reader}
use Rattle.frame.specs.declared.refusal.Refusal.{Refusal}
use Rattle.listing.specs.Line.{lines_of, noise_line}
use Rattle.listing.specs.declared.list.Listed.{Listed}
use Rattle.listing.specs.declared.text.Lines.{Lines}

-- An answer in numbers: the refusal's, 0 for none, the length of the text, the bytes settled as noise, and the bytes judged.
pub record ListValues : Type 0 where
  pub number : ℕ
  pub len : ℕ
  pub noise : ℕ
  pub judged : ℕ

abbrev pub text_values : ℕ → ℕ → ℕ → ListValues
text_values len noise judged = record { number = 0; len = len; noise = noise; judged = judged }

abbrev pub no_text_values : ℕ → ListValues
no_text_values n = record { number = n; len = 0; noise = 0; judged = 0 }

abbrev pub values_of : Result Lines Refusal → ListValues
values_of (Ok lines) = text_values lines.len lines.noise lines.judged
values_of (Err r) = no_text_values (number_of r)

-- The promise of a call that lists o and judges so many bytes, where its refusal is `number`, 0 for none, and the reader that follows has the property Next.
abbrev pub Lists : ℕ → Output (List ℕ) → ℕ → (Reader → Type 0) → Reader → List ℕ → Listed → List ℕ → Type 0
Lists number o judged Next r out a out' =
    Promise number (no_text_values number) (text_values (length (lines_of o.frames)) o.noise judged) Next (in_front (lines_of o.frames) out)
    r out (values_of a.answer) a.reader out'

-- The room of a text is three bytes for each byte that is held or offered: in every format a frame has at least 5 bytes besides its payload, and its line
-- has at most 12 and two for each byte of the payload.
--
-- The refusals of a chunk, in the line call's order: 16; 13 for a buffer under 198,159 bytes, three times the sum of 65,536 and 517; 15.
abbrev pub chunk_refusal : Reader → ℕ → ℕ → ℕ
chunk_refusal r room size = call_refusal (sound r) 198159 room size

-- What a chunk settles of the bytes held and its own is listed; what is undecided stays held.
abbrev pub ListsChunk : Reader → List ℕ → List ℕ → Listed → List ℕ → Type 0
ListsChunk r chunk out a out' =
    let s : State = state_of r in
    let d : Drained = drain s chunk in
    Lists (chunk_refusal r (length out) (length chunk)) d.out (drain_judged s chunk) (Holds (after_drain s d)) r out a out'

-- The refusals of a quiet: 16; 13 for a buffer under 1,551 bytes, three times 517.
abbrev pub end_refusal : Reader → ℕ → ℕ
end_refusal r room = call_refusal (sound r) 1551 room 0

-- At a quiet what the rule gives over the bytes held is listed, and the reader is a new one.
abbrev pub ListsQuiet : Reader → List ℕ → Listed → List ℕ → Type 0
ListsQuiet r out a out' =
    let s : State = state_of r in Lists (end_refusal r (length out)) (rule_after s []) (judged_after s []) (λ r'. r' ≡ new_reader r.format) r out a out'

-- The total of noise: 13 for a buffer under 27 bytes, which any 64-bit number's line fits in.
pub record ListsTotal (noise : ℕ) (out : List ℕ) (a : Result ℕ Refusal) (out' : List ℕ) : Type 0 where
  pub answers : writing_of a ≡ cond (leb 27 (length out)) (length_writing (length (noise_line noise))) (no_writing 13)
  pub leaves : out' ≡ cond (leb 27 (length out)) (in_front (noise_line noise) out) out
