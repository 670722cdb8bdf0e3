-- Laws of the calls where bytes are held, which are scanned with the chunk behind them.
-- Assumes nothing.
use Prim.Native.Nat.{ℕ, ◌+◌, ◌-◌, ◌*◌, ◌≤◌, min, zero-le}
use native.Mathlib.Nat.{le_refl}
use native.Mathlib.Omega.{arith}
use mathlib.Core.Bool.{true, false, true≢false}
use mathlib.Core.List.{List, ◌++◌}
use mathlib.Core.Path.{◌≡◌, refl, ap, ◌∙◌}
use lib.ListN.{length, take, length-append, length-take}
use lib.Seq.{length-take-le}
use Rattle.frame.specs.Framing.{judge, judged_at, limit}
use Rattle.reader.specs.Reader.{holding, quiet_judged}
use Rattle.reader.specs.Scan.{judging, found, undecided, Scanned, scan_from, scan_judged, scan_over, judged_over}
use Rattle.reader.specs.Feeding.{joined}
use Rattle.frame.specs.declared.framing.Format.{Format}
use Rattle.reader.specs.declared.reader.Reader.{Reader}
use Rattle.reader.specs.declared.scan.Places.{Places}
use Rattle.frame.proofs.Framings.{limit_most}
use Rattle.reader.proofs.Scanning.{AtFrame, scan_facts, scan_found, scan_undecided}
use Rattle.reader.proofs.Counting.{count_most}
use Rattle.reader.proofs.Passing.{over_from_first, judged_from_first}
use Rattle.reader.proofs.JudgedCalls.{quiet_scanned}
use Rattle.reader.proofs.Refusals.{StateFits, fits_count}

-- A segment that goes on is scanned from its first place on, up to `stop`, where `reach` bytes were taken.
abbrev pub places_to : ℕ → ℕ → Places
places_to stop reach = record { from = 0; stop = stop; reach = reach; ended = false }

-- What is known of a state's held bytes.
pub record HeldFacts (r : Reader) : Type 0 where
  pub fits : r.count ≤ limit r.format
  pub known : r.judged ≤ r.count
  pub size : length (take r.count r.held) ≡ r.count
  pub there : r.count ≤ 517

pub held_facts : (r : Reader) → StateFits r → length r.held ≡ 517 → HeldFacts r
held_facts r h array =
    let few = fits_count r h in
    let there : r.count ≤ 517 = omega (arith, few.0, limit_most r.format) in
    record { fits = few.0; known = few.1; size = length-take-le r.count r.held (omega arith); there = there }

-- They were scanned with a chunk's front behind them.
pub record LongFacts (r : Reader) (chunk w : List ℕ) (x : Scanned) : Type 0 where
  pub held : HeldFacts r
  pub size : length w ≡ r.count + min (limit r.format) (length chunk)
  pub scan : x ≡ scan_from (judging false r.format) r.count 0 r.count w
  pub count : judged_over r.format (places_to r.count r.count) w ≡ scan_judged r.format (judge r.format) r.count w
  pub few : judged_over r.format (places_to r.count r.count) w ≤ 517 * 517
  pub far : r.count ≤ x.reach
  pub there : x.reach ≤ length w

pub long_facts :
    (r : Reader) (chunk w : List ℕ) (x : Scanned) → StateFits r → length r.held ≡ 517 → w ≡ joined r.format (take r.count r.held) chunk →
    x ≡ scan_over r.format (places_to r.count r.count) w → LongFacts r chunk w x
long_facts r chunk w x h array j is =
    let held = held_facts r h array in
    let f : Format = r.format in
    let size : length w ≡ r.count + min (limit f) (length chunk) =
    ap length j
    ∙ length-append (take r.count r.held) (take (limit f) chunk)
    ∙ (λ i. held.size i + length-take (limit f) chunk i) in
    let scan : x ≡ scan_from (judging false f) r.count 0 r.count w = is ∙ over_from_first f (places_to r.count r.count) w refl in
    let count : judged_over f (places_to r.count r.count) w ≡ scan_judged f (judge f) r.count w =
    judged_from_first f (places_to r.count r.count) w refl in
    let facts = scan_facts false f w r.count r.count (omega arith) (omega arith) x scan in
    record {
      held = held;
      size = size;
      scan = scan;
      count = count;
      few = omega (arith, count, count_most f (judge f) r.count w, held.there);
      far = facts.far;
      there = facts.there;
    }

-- And with the whole chunk behind them.
pub record ShortFacts (r : Reader) (chunk w : List ℕ) (x : Scanned) : Type 0 where
  pub held : HeldFacts r
  pub size : length w ≡ r.count + length chunk
  pub scan : x ≡ scan_from (judging false r.format) (r.count + length chunk) 0 r.count w
  pub count : judged_over r.format (places_to (r.count + length chunk) r.count) w ≡ scan_judged r.format (judge r.format) (r.count + length chunk) w

pub short_facts :
    (r : Reader) (chunk w : List ℕ) (x : Scanned) → StateFits r → length r.held ≡ 517 → w ≡ take r.count r.held ++ chunk →
    x ≡ scan_over r.format (places_to (r.count + length chunk) r.count) w → ShortFacts r chunk w x
short_facts r chunk w x h array e is =
    let held = held_facts r h array in
    record {
      held = held;
      size = ap length e ∙ length-append (take r.count r.held) chunk ∙ ap (λ (n : ℕ). n + length chunk) held.size;
      scan = is ∙ over_from_first r.format (places_to (r.count + length chunk) r.count) w refl;
      count = judged_from_first r.format (places_to (r.count + length chunk) r.count) w refl;
    }

-- What is known of the scan of bytes that end a segment.
pub record QuietFacts (f : Format) (s : List ℕ) (known : ℕ) (x : Scanned) (judged : ℕ) : Type 0 where
  pub scan : x ≡ scan_from (judging true f) (length s) 0 0 s
  pub counts : judged ≡ quiet_judged (holding f s false known)
  pub frame : (used : ℕ) (p : List ℕ) → x.stop ≡ found used p → AtFrame f s (length s) x.place x.reach used p × (x.place + used ≤ length s)
  pub decided : x.stop ≡ undecided → ⊥

pub quiet_facts :
    (f : Format) (s : List ℕ) (known judged : ℕ) (x : Scanned) →
    let p : Places = record { from = 0; stop = length s; reach = 0; ended = true } in
    x ≡ scan_over f p s → judged ≡ judged_over f p s - min known (judged_at f s) → QuietFacts f s known x judged
quiet_facts f s known judged x is j =
    let p : Places = record { from = 0; stop = length s; reach = 0; ended = true } in
    let n : ℕ = length s in
    let scan : x ≡ scan_from (judging true f) n 0 0 s = is ∙ over_from_first f p s refl in
    let facts = scan_facts true f s n 0 (le_refl n) zero-le x scan in
    record {
      scan = scan;
      counts = j ∙ ap (λ (k : ℕ). k - min known (judged_at f s)) (judged_from_first f p s refl) ∙ quiet_scanned f s known;
      frame = λ used t e.
          let h = scan_found true f s n 0 (le_refl n) zero-le x scan used t e in (h, omega (arith, h.inside, facts.there));
      decided = λ e. true≢false (scan_undecided true f s n 0 (le_refl n) zero-le x scan e).goes_on;
    }
