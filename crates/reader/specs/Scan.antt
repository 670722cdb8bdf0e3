-- Behind the public calls: how scan.rt finds a frame, by judging whole slices and not byte by byte. proofs/ shows that what is made of a scan is what
-- `line` gives.
use Rattle.std.specs.Prelude.{ℕ, zero, suc, ◌+◌, ◌-◌, ◌≤◌, ◌<◌, max, ◌≡◌, List, [], ◌∷◌, Bool, true, false, not, eqb, length, get_or, take, drop}
use Rattle.frame.specs.Checks.{Verdict, cut, refused, frame}
use Rattle.frame.specs.Framing.{judge, judged_as, judged_at}
use Rattle.reader.specs.Reader.{ended, if_fails, buffer_at}
use Rattle.frame.specs.DigitRuns.{all_pass}
use Rattle.frame.specs.Judged.{payload_at}
use Rattle.frame.specs.declared.framing.Format.{Format}
use Rattle.reader.specs.declared.scan.ScanResult.{ScanResult}
use Rattle.reader.specs.declared.scan.Step.{Step}
use Rattle.reader.specs.declared.scan.Places.{Places}
use Rattle.reader.specs.declared.scan.ScanEnd.{ScanEnd}
use Rattle.reader.specs.declared.scan.ScanEnd.TheVariants.{Frame, Undecided, Passed}
use Rattle.frame.specs.Ascii.{colon}
use Rattle.frame.specs.declared.framing.Format.TheVariants.{Binary, Ascii}

-- The first byte of every frame.
abbrev pub start_of : Format → ℕ
start_of (Binary footer) = 0xA5
start_of (Ascii ending) = colon

-- The places that a failed start passes over, its own the first: in ASCII framing the bytes before the failing one are digits or a CR, which
-- start no frame.
abbrev pub passed_by : Format → ℕ → ℕ
passed_by (Binary footer) judged = 1
passed_by (Ascii ending) judged = judged - 1

-- The judge of a segment that goes on, or has ended.
abbrev pub judging : Bool → Format → List ℕ → Verdict
judging true f s = ended (judge f s)
judging false f s = judge f s

-- How many bytes were judged for a decision.
abbrev pub judged_bytes : Verdict → ℕ
judged_bytes v = judged_as v []

-- Where a scan stops: at a frame with its count of bytes and payload, at undecided bytes, or behind the last place.
pub data Stop : Type 0 where
  found : ℕ → List ℕ → Stop
  undecided : Stop
  passed : Stop

-- The place at which a scan stopped, how far bytes were judged, and why it stopped.
pub record Scanned : Type 0 where
  pub place : ℕ
  pub reach : ℕ
  pub stop : Stop

abbrev pub scanned_to : ℕ → ℕ → Stop → Scanned
scanned_to place reach stop = record { place = place; reach = reach; stop = stop }

-- The scan at a place with this verdict.
abbrev pub scan_as : Verdict → ℕ → ℕ → Scanned → Scanned
scan_as cut place reach later = scanned_to place reach undecided
scan_as (refused judged n) place reach later = later
scan_as (frame used p) place reach later = scanned_to place (max reach (place + used)) (found used p)

-- The scan of s, whose first byte stands at `place`, over n places; bytes up to `reach` were judged before.
unfoldable pub scan_from : (List ℕ → Verdict) → ℕ → ℕ → ℕ → List ℕ → Scanned
scan_from judgement zero place reach s = scanned_to place reach passed
scan_from judgement (suc n) place reach s =
    let later : Scanned = scan_from judgement n (suc place) (max reach (place + judged_bytes (judgement s))) (drop 1 s) in
    scan_as (judgement s) place reach later

-- The bytes judged at the first n places of s, up to the first that does not fail; over all places of s that is `judged_to`.
unfoldable pub scan_judged : Format → (List ℕ → Verdict) → ℕ → List ℕ → ℕ
scan_judged f judgement zero s = 0
scan_judged f judgement (suc n) s = judged_at f s + if_fails (judgement s) (scan_judged f judgement n (drop 1 s))

-- c is another byte than b, or the same.
abbrev pub other : ℕ → ℕ → Bool
other b c = not (eqb c b)

abbrev pub same : ℕ → ℕ → Bool
same b c = eqb c b

-- The bytes of s from one place to another, which is no further than `stop`, all pass a test.
pub record Skips (test : ℕ → Bool) (s : List ℕ) (from stop to : ℕ) : Type 0 where
  pub onward : from ≤ to
  pub inside : to ≤ stop
  pub others : all_pass test (take (to - from) (drop from s)) ≡ true

-- What `scan` and `find` are called with.
pub record Scannable (p : Places) (s : List ℕ) : Type 0 where
  pub onward : p.from ≤ p.stop
  pub inside : p.stop ≤ length s
  pub reached : p.reach ≤ length s
  pub short : length s ≤ 65536

-- The scan of s over such places, and the bytes that are judged at them.
abbrev pub scan_over : Format → Places → List ℕ → Scanned
scan_over f p s = scan_from (judging p.ended f) (p.stop - p.from) p.from p.reach (drop p.from s)

abbrev pub judged_over : Format → Places → List ℕ → ℕ
judged_over f p s = scan_judged f (judging p.ended f) (p.stop - p.from) (drop p.from s)

-- The result that an answer of `scan` stands for.
abbrev pub stop_of : Format → List ℕ → ScanEnd → Stop
stop_of f s (Frame used len) = found used (payload_at f s len)
stop_of f s Undecided = undecided
stop_of f s Passed = passed

abbrev pub scanned : Format → List ℕ → ScanResult → Scanned
scanned f s r = scanned_to r.place r.reach (stop_of f (drop r.place s) r.end)

abbrev pub stopped_at : ℕ → ℕ → ℕ → ScanEnd → ScanResult
stopped_at place reach judged end = record { place = place; reach = reach; judged = judged; end = end }

-- The payload that was found, if any, and the buffer after a scan that stopped so.
abbrev pub stop_frames : Stop → List (List ℕ)
stop_frames (found used p) = p ∷ []
stop_frames undecided = []
stop_frames passed = []

abbrev pub stop_buffer : Stop → List ℕ → List ℕ
stop_buffer stop buf = buffer_at (stop_frames stop) buf

-- Whether a frame may start at a place of s: where it may, the byte there starts one; where it may not, it does not, or another start follows it.
pub record MayStart (s : List ℕ) (start place : ℕ) (may : Bool) : Type 0 where
  pub starts : (may ≡ true) → get_or s place 0 ≡ start
  pub doubled : (may ≡ false) → get_or s place 0 ≡ start → (place + 1 < length s) × (get_or s (place + 1) 0 ≡ start)

abbrev pub step_to : ℕ → ℕ → ℕ → Step
step_to place reach judged = record { place = place; reach = reach; judged = judged }

-- A place failed with so many bytes judged.
pub record FailsWith (v : Verdict) (judged : ℕ) : Type 0 where
  pub number : ℕ
  pub fails : v ≡ refused judged number

-- Places of s from one on were passed, up to the next: a scan goes on there, with these bytes judged.
pub record PassesOver (ended : Bool) (f : Format) (s : List ℕ) (from stop : ℕ) (step : Step) : Type 0 where
  pub onward : from < step.place
  pub inside : step.place ≤ stop
  pub scans :
      (far : ℕ) →
      scan_from (judging ended f) (stop - from) from far (drop from s)
      ≡ scan_from (judging ended f) (stop - step.place) step.place (max far step.reach) (drop step.place s)
  pub counts :
      scan_judged f (judging ended f) (stop - from) (drop from s)
      ≡ step.judged + scan_judged f (judging ended f) (stop - step.place) (drop step.place s)

-- What `left_out` is called with: `found` is what a scan of the first places of s has found, and no more bytes were judged before than there are places.
pub record LeavesOut (f : Format) (s : List ℕ) (found : ScanResult) (known : ℕ) (buf : List ℕ) : Type 0 where
  pub ends : Bool
  pub places : ℕ
  pub reached : ℕ
  pub few : known ≤ places
  pub inside : places ≤ length s
  pub short : length s ≤ 65536
  pub room : 256 ≤ length buf
  pub scans : scanned f s found ≡ scan_from (judging ends f) places 0 reached s
  pub counts : found.judged ≡ scan_judged f (judging ends f) places s
