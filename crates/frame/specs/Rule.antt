-- The leftmost rule over a segment. Document 01, "The leftmost rule and the line reader"; the rule's name is that document's, and so are these terms: a
-- segment is what arrives between two quiets, a quiet is a silence on the line that the caller reports, and noise are the bytes of a segment that lie in no
-- frame of the rule.
use Rattle.std.specs.Prelude.{ℕ, zero, suc, pred, ◌+◌, List, [], ◌∷◌, ◌++◌, map}
use Rattle.frame.specs.Checks.{Verdict, cut, refused, frame}
use Rattle.frame.specs.Hex.{sum_of}
use Rattle.frame.specs.Framing.{read, judged_at}
use Rattle.frame.specs.declared.framing.Format.{Format}

-- What comes out of a segment or of calls: frames in their order, and the count of noise bytes.
pub record Output (A : Type 0) : Type 0 where
  pub frames : List A
  pub noise : ℕ

module _ {A : Type 0} where
  abbrev pub output : List A → ℕ → Output A
  output frames noise = record { frames = frames; noise = noise }

  abbrev pub nothing : Output A
  nothing = output [] 0

  -- One output and then another.
  unfoldable pub join : Output A → Output A → Output A
  join a b = output (a.frames ++ b.frames) (a.noise + b.noise)

-- How far the rule goes on from a place: behind the last byte of a frame that fails nothing, otherwise by one. At the segment's end an
-- unfinished frame fails like any other.
abbrev pub on_by : Verdict → ℕ
on_by cut = 1
on_by (refused judged n) = 1
on_by (frame used p) = used

-- The places at which the rule stands in s, with `pass` bytes to pass over first: each as the bytes from there on.
unfoldable pub places : Format → ℕ → List ℕ → List (List ℕ)
places f pass [] = []
places f zero (b ∷ s) = (b ∷ s) ∷ places f (pred (on_by (read f (b ∷ s)))) s
places f (suc pass) (b ∷ s) = places f pass s

-- A frame of a segment: the place at which it begins, the bytes it uses, its payload.
pub record Found : Type 0 where
  pub place : ℕ
  pub used : ℕ
  pub payload : List ℕ

abbrev pub found_at : ℕ → ℕ → List ℕ → Found
found_at place used p = record { place = place; used = used; payload = p }

-- What the rule gives at a place: a frame is handed out, otherwise one byte is noise.
abbrev pub out_at : ℕ → Verdict → Output Found
out_at place cut = output [] 1
out_at place (refused judged n) = output [] 1
out_at place (frame used p) = output (found_at place used p ∷ []) 0

-- What it gives at places in order, the first of which is `place`.
unfoldable pub out_from : Format → ℕ → List (List ℕ) → Output Found
out_from f place [] = nothing
out_from f place (s ∷ ss) = join (out_at place (read f s)) (out_from f (place + on_by (read f s)) ss)

-- The rule over a whole segment: it starts at place 0.
unfoldable pub rule : Format → List ℕ → Output Found
rule f s = out_from f 0 (places f 0 s)

-- The rule's own count of judged bytes: at every place at which it stands, those that are judged there. Document 02, CR 7. An optional byte that
-- belongs to a frame of the rule is passed over with it: it is no place, and is not judged at the frame's.
abbrev pub rule_judged : Format → List ℕ → ℕ
rule_judged f s = sum_of (map (judged_at f) (places f 0 s))

-- The payloads of an output, with its noise.
abbrev pub payloads : Output Found → Output (List ℕ)
payloads o = output (map (λ (x : Found). x.payload) o.frames) o.noise
