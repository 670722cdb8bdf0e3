-- Good frames behind damage. Document 00, demand 3, and document 01, last section; "damage", "stretch" and "good frame" are its terms. The bytes of a
-- stretch are its frames one behind another, `flatten`. Document 02, CR 2: in binary framing for either choice of the footer; where it is optional, good
-- frames have it or not, mixed as they come. CR 9: in ASCII framing for either choice of the ending; under any ending good frames end with CR, LF or CR LF,
-- mixed as they come.
use Rattle.std.specs.Prelude.{ℕ, suc, ◌+◌, ◌≤◌, ◌<◌, ◌≡◌, Bool, true, not, ◌&&◌, leb, ltb, length, get_or}
use mathlib.Core.List.{List, [], ◌∷◌, ◌++◌, flatten, filter, Memᴰ}
use Rattle.std.proofs.Math.Bool.{Bool-discrete}
use Rattle.frame.specs.Checks.{frame, payload_in}
use Rattle.frame.specs.Framing.{read}
use Rattle.frame.specs.Rule.{Output, output, join, Found, found_at, rule, payloads}
use Rattle.reader.specs.Reader.{new_reader}
use Rattle.frame.specs.Elements.{All}
use Rattle.reader.specs.Calls.{Calls, offering}
use Rattle.frame.specs.declared.framing.Footer.{Footer}
use Rattle.frame.specs.declared.framing.Ending.{Ending}
use Rattle.frame.specs.declared.framing.Format.{Format}
use Rattle.frame.specs.declared.framing.Format.TheVariants.{Binary, Ascii}

-- The elements that pass a test, in their order.
abbrev pub select : {A : Type 0} → (A → Bool) → List A → List A
select test xs = filter (λ x. Bool-discrete (test x) true) xs

-- A good frame: any bytes that a single read with room for the payload accepts and uses to the last.
pub record Good (f : Format) (g : List ℕ) : Type 0 where
  pub payload : List ℕ
  pub reads : read f g ≡ frame (length g) payload

-- A stretch: any number of good frames, none too, each right behind the last.
pub data Stretch (f : Format) : List (List ℕ) → Type 0 where
  none : Stretch f []
  another : {g : List ℕ} {gs : List (List ℕ)} → Good f g → Stretch f gs → Stretch f (g ∷ gs)

-- Its frames, the first of which begins at `place`.
abbrev pub founds_from : Format → ℕ → List (List ℕ) → List Found
founds_from f place [] = []
founds_from f place (g ∷ gs) =
    found_at place (length g) (payload_in (read f g)) ∷ founds_from f (place + length g) gs

-- The places at which the frames of a stretch begin, the first at `place`.
abbrev pub starts : ℕ → List (List ℕ) → List ℕ
starts place [] = []
starts place (g ∷ gs) = place ∷ starts (place + length g) gs

-- The proviso: wherever the pair A5 5A stands in the stretch's bytes, a frame of it begins.
abbrev pub PairsBegin : List (List ℕ) → Type 0
PairsBegin gs =
    (i : ℕ) → suc i < length (flatten gs) → get_or (flatten gs) i 0 ≡ 0xA5 → get_or (flatten gs) (suc i) 0 ≡ 0x5A → Memᴰ i (starts 0 gs)

-- The frame reaches past a place.
abbrev pub reaches : ℕ → Found → Bool
reaches place x = ltb place (x.place + x.used)

-- A place lies in none of the frames.
abbrev pub in_none : ℕ → List Found → Bool
in_none place [] = true
in_none place (x ∷ xs) = not (leb x.place place && reaches place x) && in_none place xs

-- The good frames behind damage whose first byte lies in none of the frames `early`.
abbrev pub clear_of : Footer → List Found → List ℕ → List (List ℕ) → List Found
clear_of footer early damage gs = select (λ x. in_none x.place early) (founds_from (Binary footer) (length damage) gs)

-- The frames that the rule over damage and a stretch in binary framing hands out and that begin in the damage.
abbrev pub early_of : Footer → List ℕ → List (List ℕ) → List Found
early_of footer damage gs = select (λ x. ltb x.place (length damage)) (rule (Binary footer) (damage ++ flatten gs)).frames

-- The rule over damage and a stretch in binary framing: the frames that begin in the damage; at most one of them reaches into the stretch,
-- and none further than its first 260 bytes; then, in order, exactly the good frames whose first byte lies in none of them.
pub record Recovered (footer : Footer) (damage : List ℕ) (gs : List (List ℕ)) : Type 0 where
  pub one : length (select (reaches (length damage)) (early_of footer damage gs)) ≤ 1
  pub reach : All (λ x. x.place + x.used ≤ length damage + 260) (early_of footer damage gs)
  pub frames : (rule (Binary footer) (damage ++ flatten gs)).frames ≡ early_of footer damage gs ++ clear_of footer (early_of footer damage gs) damage gs

-- Any list of calls over damage and a stretch in ASCII framing hands out what the damage alone gives, then every good frame's payload, in
-- order, and adds no noise.
abbrev pub AsciiCallsRecover : Ending → Type 0
AsciiCallsRecover ending =
    (damage : List ℕ) (gs : List (List ℕ)) (out : Output (List ℕ)) → Stretch (Ascii ending) gs →
    Calls offering (new_reader (Ascii ending)) (damage ++ flatten gs) out →
    out ≡ payloads (join (rule (Ascii ending) damage) (output (founds_from (Ascii ending) (length damage) gs) 0))

-- What calls over damage and a stretch in binary framing hand out: the payloads of the frames that begin in the damage, then those of the
-- good frames clear of them, among which are all that begin 260 or more bytes into the stretch; the noise is the rule's.
pub record CallsRecovered (footer : Footer) (damage : List ℕ) (gs : List (List ℕ)) (out : Output (List ℕ)) : Type 0 where
  pub found : Recovered footer damage gs
  pub given : out ≡ payloads (rule (Binary footer) (damage ++ flatten gs))
  pub late :
      (x : Found) → Memᴰ x (founds_from (Binary footer) (length damage) gs) → length damage + 260 ≤ x.place →
      Memᴰ x (clear_of footer (early_of footer damage gs) damage gs)

abbrev pub BinaryCallsRecover : Footer → Type 0
BinaryCallsRecover footer =
    (damage : List ℕ) (gs : List (List ℕ)) (out : Output (List ℕ)) → Stretch (Binary footer) gs → PairsBegin gs →
    Calls offering (new_reader (Binary footer)) (damage ++ flatten gs) out → CallsRecovered footer damage gs out

-- With no damage, any list of calls hands out every good frame's payload, in order, and no noise.
abbrev pub CleanCalls : Format → Type 0
CleanCalls f =
    (gs : List (List ℕ)) (out : Output (List ℕ)) → Stretch f gs → Calls offering (new_reader f) (flatten gs) out →
    out ≡ payloads (output (founds_from f 0 gs) 0)
