-- Laws of the steps of a scan: places are passed, and the scan goes on behind them or stops.
-- Assumes nothing.
use Prim.Native.Nat.{ℕ, ◌+◌, ◌-◌, ◌*◌, ◌≤◌, ◌<◌, max, min}
use native.Mathlib.Nat.{sub-zero, zero-add}
use native.Mathlib.Omega.{arith}
use mathlib.Core.Bool.{Bool, true, false}
use mathlib.Core.List.{List}
use mathlib.Core.Path.{◌≡◌, refl, sym, ap, ◌∙◌, subst}
use lib.ListN.{length, get_or, take, drop, length-drop}
use Rattle.frame.specs.Checks.{Verdict, cut, frame}
use Rattle.frame.specs.Framing.{judge, judged_as, judged_at}
use Rattle.frame.specs.Judged.{verdict_of}
use Rattle.reader.specs.Reader.{judged_to}
use Rattle.reader.specs.Scan.{start_of, passed_by, judging, scan_from, scan_judged, scan_over, judged_over, Scanned, scanned_to, found, undecided, passed}
use Rattle.reader.specs.Scan.{Scannable, step_to, FailsWith, PassesOver}
use Rattle.frame.specs.declared.framing.Format.{Format}
use Rattle.frame.specs.declared.framing.Judged.{Judged}
use Rattle.reader.specs.declared.scan.Places.{Places}
use Rattle.reader.specs.declared.scan.Step.{Step}
use Rattle.frame.proofs.Lists.{take_rest}
use Rattle.frame.proofs.Framings.{frame_sized}
use Rattle.reader.proofs.Prefixes.{refused_sized}
use Rattle.reader.proofs.Scanning.{step_end, step_frame, step_undecided, step_ended}
use Rattle.reader.proofs.Skipping.{fails_over, scan_fails}
use Rattle.reader.proofs.JudgedCalls.{first_counted}
use Rattle.reader.proofs.Counting.{count_most, count_end, count_frame, count_undecided, count_ended, count_fails, count_whole}

-- What is judged of the slice from a place on is judged there.
pub judged_slice :
    (f : Format) (s : List ℕ) (place : ℕ) (r : Judged) →
    judge f (take (length s - place) (drop place s)) ≡ verdict_of f (take (length s - place) (drop place s)) r →
    judge f (drop place s) ≡ verdict_of f (drop place s) r
judged_slice f s place r h = subst (λ (l : List ℕ). judge f l ≡ verdict_of f l r) (take_rest s place) h

-- What is known of a start that failed with so many bytes judged.
pub record Failed (f : Format) (s : List ℕ) (place stop judged : ℕ) : Type 0 where
  pub some : 1 ≤ judged
  pub there : place + judged ≤ length s
  pub by : passed_by f judged ≤ judged
  pub onward : place < min (place + passed_by f judged) stop
  pub passes :
      (e : Bool) →
      let to = min (place + passed_by f judged) stop in PassesOver e f s place stop (step_to to (place + judged) (judged + (to - place - 1)))

pub start_failed :
    (f : Format) (s : List ℕ) (place stop judged : ℕ) → stop ≤ length s → place < stop → get_or s place 0 ≡ start_of f →
    FailsWith (judge f (drop place s)) judged → Failed f s place stop judged
start_failed f s place stop judged m l is q =
    let size = refused_sized f (drop place s) judged q.number q.fails in
    let over = fails_over f s stop place judged q.number m l is q.fails in
    let onward : place < min (place + passed_by f judged) stop = omega (arith, over.0.onward) in
    record {
      some = size.some;
      there = omega (arith, size.there, length-drop place s);
      by = over.1;
      onward = onward;
      passes = λ e.
          record {
            onward = onward;
            inside = omega arith;
            scans = λ far. scan_fails e f s stop m place far judged q.number l is q.fails;
            counts = count_fails e f s stop m place judged q.number l is q.fails;
          };
    }

-- Undecided bytes end the segment.
pub undecided_passes :
    (e : Bool) (f : Format) (s : List ℕ) (place stop : ℕ) → e ≡ true → place < stop → judge f (drop place s) ≡ cut →
    PassesOver e f s place stop (step_to (place + 1) place (length s - place))
undecided_passes e f s place stop is l q =
    subst (λ (x : Bool). PassesOver x f s place stop (step_to (place + 1) place (length s - place))) (sym is)
    (record {
      onward = omega arith;
      inside = omega arith;
      scans = λ far. step_ended f stop place far s l q;
      counts = count_ended f stop place s l q;
    })

-- From the first place on.
module _ (f : Format) (p : Places) (s : List ℕ) (e : p.from ≡ 0) where
  pub over_from_first : scan_over f p s ≡ scan_from (judging p.ended f) p.stop 0 p.reach s
  over_from_first =
      ap (λ (k : ℕ). scan_from (judging p.ended f) (p.stop - k) k p.reach (drop k s)) e
      ∙ ap (λ (k : ℕ). scan_from (judging p.ended f) k 0 p.reach s) (sub-zero p.stop)

  pub judged_from_first : judged_over f p s ≡ scan_judged f (judging p.ended f) p.stop s
  judged_from_first =
      ap (λ (k : ℕ). scan_judged f (judging p.ended f) (p.stop - k) (drop k s)) e
      ∙ ap (λ (k : ℕ). scan_judged f (judging p.ended f) k s) (sub-zero p.stop)

  -- As many as were judged at the first place are counted there.
  pub first_over : (known : ℕ) → known ≤ p.stop → min known (judged_at f s) ≤ judged_over f p s
  first_over known l = omega (arith, judged_from_first, first_counted f (judging p.ended f) p.stop known s l)

-- A scan has come so far: from there on it gives what it gives from its first place on.
pub record Come (f : Format) (p : Places) (s : List ℕ) (at : Step) : Type 0 where
  pub inside : at.place ≤ p.stop
  pub scans : scan_from (judging p.ended f) (p.stop - at.place) at.place at.reach (drop at.place s) ≡ scan_over f p s
  pub counts : at.judged + scan_judged f (judging p.ended f) (p.stop - at.place) (drop at.place s) ≡ judged_over f p s

module _ (f : Format) (p : Places) (s : List ℕ) (h : Scannable p s) where
  -- No more bytes are judged than this.
  pub over_most : judged_over f p s ≤ 517 * 65536
  over_most = omega (arith, count_most f (judging p.ended f) (p.stop - p.from) (drop p.from s), h.inside, h.short)

  module _ (at : Step) (c : Come f p s at) where
    -- Places are passed.
    module _ (b : Step) (k : PassesOver p.ended f s at.place p.stop b) where
      pub come_few : at.judged + b.judged ≤ 4294967296
      come_few = omega (arith, over_most, c.counts, k.counts)

      pub come_on : Come f p s (step_to b.place (max at.reach b.reach) (at.judged + b.judged))
      come_on = record { inside = k.inside; scans = sym (k.scans at.reach) ∙ c.scans; counts = omega (arith, c.counts, k.counts) }

    -- All were.
    pub come_end : p.stop ≤ at.place → (scanned_to at.place at.reach passed ≡ scan_over f p s) × (at.judged ≡ judged_over f p s)
    come_end l = (
      sym (step_end (judging p.ended f) p.stop at.place at.reach s l) ∙ c.scans,
      omega (arith, c.counts, count_end f (judging p.ended f) p.stop at.place s l),
    )

    module _ (l : at.place < p.stop) where
      -- It stops at a frame.
      module _ (used : ℕ) (t : List ℕ) (q : judge f (drop at.place s) ≡ frame used t) where
        pub frame_there : at.place + used ≤ length s
        frame_there = let z = frame_sized f (drop at.place s) t used q in omega (arith, z.there, length-drop at.place s, h.inside)

        pub frame_counts : at.judged + used ≡ judged_over f p s
        frame_counts = omega (arith, c.counts, count_frame p.ended f p.stop at.place s l used t q)

        pub frame_few : at.judged + used ≤ 4294967296
        frame_few = omega (arith, over_most, frame_counts)

        pub frame_stops : scanned_to at.place (max at.reach (at.place + used)) (found used t) ≡ scan_over f p s
        frame_stops = sym (step_frame p.ended f p.stop at.place at.reach s l used t q) ∙ c.scans

      -- It stops at undecided bytes.
      module _ (e : p.ended ≡ false) (q : judge f (drop at.place s) ≡ cut) where
        pub undecided_counts : at.judged + (length s - at.place) ≡ judged_over f p s
        undecided_counts =
            omega (
              arith,
              c.counts,
              ap (λ (x : Bool). scan_judged f (judging x f) (p.stop - at.place) (drop at.place s)) e,
              count_undecided f p.stop at.place s l q,
            )

        pub undecided_few : at.judged + (length s - at.place) ≤ 4294967296
        undecided_few = omega (arith, over_most, undecided_counts)

        pub undecided_stops : scanned_to at.place at.reach undecided ≡ scan_over f p s
        undecided_stops =
            sym (step_undecided f p.stop at.place at.reach s l q)
            ∙ ap (λ (x : Bool). scan_from (judging x f) (p.stop - at.place) at.place at.reach (drop at.place s)) (sym e)
            ∙ c.scans

-- The first place of a segment that goes on, judged before the others.
module _ (f : Format) (s : List ℕ) (reach : ℕ) where
  -- All places, and those behind a step over the first.
  abbrev pub all_places : Places
  all_places = record { from = 0; stop = length s; reach = reach; ended = false }

  abbrev pub places_behind : Step → Places
  places_behind b = record { from = b.place; stop = length s; reach = max reach b.reach; ended = false }

  abbrev pub whole : Scanned
  whole = scan_from (judging false f) (length s) 0 reach s

  pub all_whole : scan_over f all_places s ≡ whole
  all_whole = over_from_first f all_places s refl

  pub all_judged : judged_over f all_places s ≡ judged_to f (judge f) s
  all_judged = judged_from_first f all_places s refl ∙ sym (count_whole f (judge f) s)

  pub empty_whole : length s ≡ 0 → (scanned_to 0 reach passed ≡ whole) × (judged_to f (judge f) s ≡ 0)
  empty_whole e = (
    sym (step_end (judge f) (length s) 0 reach s (omega arith)) ∙ all_whole,
    omega (arith, all_judged, count_end f (judge f) (length s) 0 s (omega arith)),
  )

  module _ (l : 0 < length s) where
    pub first_frame :
        (used : ℕ) (t : List ℕ) → judge f s ≡ frame used t →
        (scanned_to 0 (max reach used) (found used t) ≡ whole) × (judged_to f (judge f) s ≡ used) × (judged_at f s ≡ used)
    first_frame used t q = (
      ap (λ (n : ℕ). scanned_to 0 (max reach n) (found used t)) (sym (zero-add used))
          ∙ sym (step_frame false f (length s) 0 reach s l used t q)
          ∙ all_whole,
      omega (arith, all_judged, count_frame false f (length s) 0 s l used t q),
      ap (λ (v : Verdict). judged_as v s) q,
    )

    pub first_undecided :
        judge f s ≡ cut →
        (scanned_to 0 reach undecided ≡ whole) × (judged_to f (judge f) s ≡ length s) × (judged_at f s ≡ length s)
    first_undecided q = (
      sym (step_undecided f (length s) 0 reach s l q) ∙ all_whole,
      omega (arith, all_judged, count_undecided f (length s) 0 s l q),
      ap (λ (v : Verdict). judged_as v s) q,
    )

  pub first_passed :
      (b : Step) → PassesOver false f s 0 (length s) b →
      (scan_over f (places_behind b) s ≡ whole) × (judged_to f (judge f) s ≡ b.judged + judged_over f (places_behind b) s)
  first_passed b k = (sym (k.scans reach) ∙ all_whole, omega (arith, all_judged, k.counts))
