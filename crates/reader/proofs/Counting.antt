-- Laws of the count of judged bytes: its bounds, and the steps in which the scan counts.
-- Assumes nothing.
use Prim.Native.Nat.{ℕ, zero, suc, ◌+◌, ◌-◌, ◌*◌, ◌≤◌, ◌<◌, max, min, zero-le}
use native.Mathlib.Nat.{add-zero, zero-add, le_refl}
use native.Mathlib.Numerals.{add-one}
use native.Mathlib.Omega.{arith}
use mathlib.Core.Path.{◌≡◌, refl, sym, ap, ◌∙◌}
use mathlib.Core.List.{List, [], ◌∷◌}
use mathlib.Core.Bool.{Bool, true, false}
use mathlib.Core.Logic.{⊎_elim}
use borrow.Author.Tests.{eqb-false, not-true}
use lib.Dec.{eqb}
use lib.ListN.{length, get_or, take, drop, length-drop, take-append-drop}
use lib.Seq.{drop-drop, length-take-le}
use Rattle.frame.specs.Checks.{Verdict, cut, refused, frame}
use Rattle.frame.specs.Framing.{checks, judge, judged_as, judged_at, limit}
use Rattle.reader.specs.Reader.{if_fails, judged_to}
use Rattle.frame.specs.DigitRuns.{all_pass}
use Rattle.reader.specs.Scan.{start_of, passed_by, judging, judged_bytes, Stop, passed, Scanned, scan_as, scan_from, scan_judged, other, Skips, stop_buffer}
use Rattle.frame.specs.Further.{Decided}
use Rattle.frame.specs.declared.framing.Format.{Format}
use Rattle.frame.proofs.Numbers.{both_true, le_or_lt}
use Rattle.frame.proofs.Lists.{drop_next}
use Rattle.frame.proofs.Trees.{Bounded, bounded}
use Rattle.frame.proofs.Framings.{within_limit, limit_most, frame_sized}
use Rattle.reader.proofs.Prefixes.{refused_sized, enough, too_few, front_undecided}
use Rattle.frame.proofs.Shapes.{NoFrame, judge_stands}
use Rattle.reader.proofs.Scanning.{judging_refused, judging_frame}
use Rattle.reader.proofs.Skipping.{start_fails, fails_over, Starts, starts_fails, starts_next}

-- The bytes judged at a place are no more than n, and are there.
at_bounded : (n : ℕ) (s : List ℕ) (v : Verdict) → Bounded n (length s) v → (judged_as v s ≤ n) × (judged_as v s ≤ length s)
at_bounded n s cut h = (omega arith, le_refl (length s))
at_bounded n s (refused judged k) h = h
at_bounded n s (frame used p) h = h

module _ (f : Format) (s : List ℕ) where
  -- No more bytes are judged at a place than the longest frame has.
  pub judged_at_most : judged_at f s ≤ limit f
  judged_at_most = (at_bounded (limit f) s (judge f s) (bounded (limit f) (checks f) s (within_limit f))).0

  -- Nor more than there are.
  pub judged_at_there : judged_at f s ≤ length s
  judged_at_there = (at_bounded (limit f) s (judge f s) (bounded (limit f) (checks f) s (within_limit f))).1

-- What is counted behind a place is no more than if it fails.
if_fails_most : (v : Verdict) (later : ℕ) → if_fails v later ≤ later
if_fails_most cut later = zero-le
if_fails_most (refused judged n) later = omega arith
if_fails_most (frame used p) later = zero-le

-- At each place no more than a state's array has room for.
pub count_most : (f : Format) (judgement : List ℕ → Verdict) (n : ℕ) (s : List ℕ) → scan_judged f judgement n s ≤ 517 * n
unfolding scan_judged
count_most f judgement zero s = zero-le
count_most f judgement (suc n) s =
    let later : ℕ = scan_judged f judgement n (drop 1 s) in
    omega (arith, judged_at_most f s, limit_most f, if_fails_most (judgement s) later, count_most f judgement n (drop 1 s))

module _ (f : Format) (judgement : List ℕ → Verdict) where
  -- Over all places of s the scan counts what a call over s counts.
  pub count_whole : (s : List ℕ) → judged_to f judgement s ≡ scan_judged f judgement (length s) s
  unfolding judged_to scan_judged
  count_whole [] = refl
  count_whole (b ∷ s) = ap (λ (later : ℕ). judged_at f (b ∷ s) + if_fails (judgement (b ∷ s)) later) (count_whole s)

  -- So that has the same bound.
  pub whole_most : (s : List ℕ) → judged_to f judgement s ≤ 517 * length s
  whole_most s = rw (count_whole s) (count_most f judgement (length s) s)

  -- The bytes judged at the first place are among those that a call counts.
  pub whole_first : (s : List ℕ) → judged_at f s ≤ judged_to f judgement s
  unfolding judged_to
  whole_first [] = judged_at_there f []
  whole_first (b ∷ s) = omega arith

module _ (f : Format) (judgement : List ℕ → Verdict) (stop place : ℕ) (s : List ℕ) where
  -- The count over the places from one on.
  count_at :
      place < stop →
      scan_judged f judgement (stop - place) (drop place s)
      ≡ judged_at f (drop place s) + if_fails (judgement (drop place s)) (scan_judged f judgement (stop - (place + 1)) (drop (place + 1) s))
  unfolding scan_judged
  count_at l =
      let left : stop - place ≡ suc (stop - (place + 1)) = omega arith in
      rw (left, drop-drop 1 place s, add-one)

  -- Behind the last place.
  pub count_end : stop ≤ place → scan_judged f judgement (stop - place) (drop place s) ≡ 0
  unfolding scan_judged
  count_end l = let left : stop - place ≡ 0 = omega arith in rw left

module _ (e : Bool) (f : Format) (stop place : ℕ) (s : List ℕ) (l : place < stop) where
  -- At a place that fails the bytes up to the failing one are counted, and then those of the places behind it.
  pub count_refused :
      (judged n : ℕ) → judge f (drop place s) ≡ refused judged n →
      scan_judged f (judging e f) (stop - place) (drop place s)
      ≡ judged + scan_judged f (judging e f) (stop - (place + 1)) (drop (place + 1) s)
  count_refused judged n q = count_at f (judging e f) stop place s l ∙ rw (judging_refused e f (drop place s) judged n q, q)

  -- At a frame its bytes are, and nothing behind it.
  pub count_frame :
      (used : ℕ) (p : List ℕ) → judge f (drop place s) ≡ frame used p → scan_judged f (judging e f) (stop - place) (drop place s) ≡ used
  count_frame used p q = count_at f (judging e f) stop place s l ∙ rw (judging_frame e f (drop place s) p used q, q, add-zero)

module _ (f : Format) (stop place : ℕ) (s : List ℕ) (l : place < stop) (q : judge f (drop place s) ≡ cut) where
  -- At undecided bytes all of them are, and nothing behind them where the segment goes on.
  pub count_undecided : scan_judged f (judging false f) (stop - place) (drop place s) ≡ length s - place
  count_undecided = count_at f (judge f) stop place s l ∙ rw (q, add-zero, length-drop)

  -- Where the segment has ended, they fail.
  pub count_ended :
      scan_judged f (judging true f) (stop - place) (drop place s)
      ≡ length s - place + scan_judged f (judging true f) (stop - (place + 1)) (drop (place + 1) s)
  count_ended = count_at f (judging true f) stop place s l ∙ rw (q, length-drop)

module _ (e : Bool) (f : Format) (s : List ℕ) (stop : ℕ) (m : stop ≤ length s) where
  -- Bytes that start no frame count one each.
  count_many :
      (left place : ℕ) → place + left ≤ stop → all_pass (other (start_of f)) (take left (drop place s)) ≡ true →
      scan_judged f (judging e f) (stop - place) (drop place s)
      ≡ left + scan_judged f (judging e f) (stop - (place + left)) (drop (place + left) s)
  count_many zero place l h = rw (add-zero, zero-add)
  count_many (suc left) place l h =
      let rest = all_pass (other (start_of f)) (take left (drop (place + 1) s)) in
      let both = both_true (other (start_of f) (get_or s place 0)) rest (rw (drop_next s place (omega arith)) at h) in
      let none = start_fails f s place (omega arith) (eqb-false (get_or s place 0) (start_of f) (not-true (eqb (get_or s place 0) (start_of f)) both.0)) in
      let next : place + 1 + left ≡ place + suc left = omega arith in
      omega (arith, count_refused e f stop place s (omega arith) 1 1 none, rw next at (count_many left (place + 1) (omega arith) both.1))

  -- So do those that were skipped behind one that fails.
  count_over :
      (place judged n to : ℕ) → place < stop → judge f (drop place s) ≡ refused judged n → Skips (other (start_of f)) s (place + 1) stop to →
      scan_judged f (judging e f) (stop - place) (drop place s) ≡ judged + (to - place - 1) + scan_judged f (judging e f) (stop - to) (drop to s)
  count_over place judged n to l q h =
      let there : place + 1 + (to - (place + 1)) ≡ to = omega (arith, h.onward) in
      let many = rw there at (count_many (to - (place + 1)) (place + 1) (omega (arith, h.inside)) h.others) in
      omega (arith, count_refused e f stop place s l judged n q, many)

  -- From a byte that starts no frame on, as many are counted as places up to where the bytes behind it were skipped to.
  pub count_skips :
      (place to : ℕ) → place < stop → (get_or s place 0 ≡ start_of f → ⊥) → Skips (other (start_of f)) s (place + 1) stop to →
      scan_judged f (judging e f) (stop - place) (drop place s) ≡ to - place + scan_judged f (judging e f) (stop - to) (drop to s)
  count_skips place to l n h =
      omega (arith, count_over place 1 1 to l (start_fails f s place (omega arith) n) h, h.onward)

  -- From a failed start on, the bytes judged there, and one at each place behind it that it passes over.
  pub count_fails :
      (place judged n : ℕ) → place < stop → get_or s place 0 ≡ start_of f → judge f (drop place s) ≡ refused judged n →
      let to = min (place + passed_by f judged) stop in
      scan_judged f (judging e f) (stop - place) (drop place s) ≡ judged + (to - place - 1) + scan_judged f (judging e f) (stop - to) (drop to s)
  count_fails place judged n l is q =
      count_over place judged n (min (place + passed_by f judged) stop) l q (fails_over f s stop place judged n m l is q).0

module _ (e : Bool) (f : Format) (s : List ℕ) (stop to : ℕ) where
  -- From a place so far before the last of starts in a row, two bytes are counted at each before that.
  count_left :
      (left place : ℕ) → to ≡ place + suc left → Starts f s stop place to →
      scan_judged f (judging e f) (stop - place) (drop place s) ≡ 2 * (to - place) + scan_judged f (judging e f) (stop - to) (drop to s)
  count_left zero place d h =
      let next : place + 1 ≡ to = omega arith in
      omega (arith, rw next at (count_refused e f stop place s (omega (arith, h.inside)) 2 _ (starts_fails f s stop place to h)))
  count_left (suc left) place d h =
      omega (
        arith,
        count_refused e f stop place s (omega (arith, h.inside)) 2 _ (starts_fails f s stop place to h),
        count_left left (place + 1) (omega arith) (starts_next f s stop place to h (omega arith)),
      )

  -- So they are from the first.
  pub count_starts :
      (place : ℕ) → Starts f s stop place to →
      scan_judged f (judging e f) (stop - place) (drop place s) ≡ 2 * (to - place) + scan_judged f (judging e f) (stop - to) (drop to s)
  count_starts place h = count_left (to - place - 1) place (omega (arith, h.onward)) h

-- At a place of this verdict at least one byte is judged.
some_judged : (f : Format) (s : List ℕ) (v : Verdict) → judge f s ≡ v → 1 ≤ length s → 1 ≤ judged_as v s
some_judged f s cut q l = l
some_judged f s (refused judged n) q l = (refused_sized f s judged n q).some
some_judged f s (frame used p) q l = (frame_sized f s p used q).some

-- So it is at every place.
pub judged_at_some : (f : Format) (s : List ℕ) → 1 ≤ length s → 1 ≤ judged_at f s
judged_at_some f s l = some_judged f s (judge f s) refl l

-- Nothing is counted behind a place behind which nothing stands.
none_behind : (v : Verdict) → if_fails v 0 ≡ 0
none_behind cut = refl
none_behind (refused judged n) = refl
none_behind (frame used p) = refl

-- Over one place the count is the bytes judged there.
pub count_one : (f : Format) (judgement : List ℕ → Verdict) (s : List ℕ) → scan_judged f judgement 1 s ≡ judged_at f s
unfolding scan_judged
count_one f judgement s = rw (none_behind (judgement s), add-zero)

-- At a place of this verdict a scan stops at no place before it.
as_onward : (v : Verdict) (place reach : ℕ) (later : Scanned) → place ≤ later.place → place ≤ (scan_as v place reach later).place
as_onward cut place reach later h = le_refl place
as_onward (refused judged n) place reach later h = h
as_onward (frame used p) place reach later h = le_refl place

-- Nor does a scan over several places.
scan_onward : (judgement : List ℕ → Verdict) (n place reach : ℕ) (s : List ℕ) → place ≤ (scan_from judgement n place reach s).place
unfolding scan_from
scan_onward judgement zero place reach s = le_refl place
scan_onward judgement (suc n) place reach s =
    let far : ℕ = max reach (place + judged_bytes (judgement s)) in
    as_onward (judgement s) place reach _ (omega (arith, scan_onward judgement n (suc place) far (drop 1 s)))

-- Behind a first place that stops the scan nothing is counted.
as_stays : (v : Verdict) (reach : ℕ) (x : Scanned) (later : ℕ) → 1 ≤ x.place → (scan_as v 0 reach x).place ≡ 0 → if_fails v later ≡ 0
as_stays cut reach x later l e = refl
as_stays (refused judged n) reach x later l e = absurd (omega arith)
as_stays (frame used p) reach x later l e = refl

-- Any other stops no scan.
as_goes : (v : Verdict) (reach : ℕ) (x y : Scanned) → ((scan_as v 0 reach x).place ≡ 0 → ⊥) → (scan_as v 0 0 y).stop ≡ y.stop
as_goes cut reach x y n = absurd (n refl)
as_goes (refused judged k) reach x y n = refl
as_goes (frame used p) reach x y n = absurd (n refl)

module _ (judgement : List ℕ → Verdict) (reach : ℕ) (s : List ℕ) where
  -- Where the scan stopped at the first place, the count is the bytes judged there.
  pub count_stays : (f : Format) (n : ℕ) → 1 ≤ n → (scan_from judgement n 0 reach s).place ≡ 0 → scan_judged f judgement n s ≡ judged_at f s
  unfolding scan_from scan_judged
  count_stays f zero l e = absurd (omega arith)
  count_stays f (suc n) l e =
      let far : ℕ = max reach (0 + judged_bytes (judgement s)) in
      rw (as_stays (judgement s) reach _ (scan_judged f judgement n (drop 1 s)) (scan_onward judgement n 1 far (drop 1 s)) e, add-zero)

-- What is judged for a decision does not depend on the bytes behind it.
judged_alike : (v : Verdict) → Decided v → (s t : List ℕ) → judged_as v s ≡ judged_as v t
judged_alike cut d s t = absurd d
judged_alike (refused judged n) d s t = refl
judged_alike (frame used p) d s t = refl

-- Of the first bytes of s as many are judged at the first place as of s, and no more than there are.
pub known_front : (f : Format) (k : ℕ) (s : List ℕ) → k ≤ length s → judged_at f (take k s) ≡ min k (judged_at f s)
known_front f k s l = by_verdict (judge f s) refl
  where
    -- Undecided, all of them are.
    all_front : judge f (take k s) ≡ cut → k ≤ judged_at f s → judged_at f (take k s) ≡ min k (judged_at f s)
    all_front e h =
        let size : judged_at f (take k s) ≡ k = ap (λ (v : Verdict). judged_as v (take k s)) e ∙ length-take-le k s l in omega arith

    -- Decided, the same are.
    same_front : judge f (take k s) ≡ judge f s → Decided (judge f s) → judged_at f s ≤ k → judged_at f (take k s) ≡ min k (judged_at f s)
    same_front e d h =
        let same : judged_at f (take k s) ≡ judged_at f s = ap (λ (v : Verdict). judged_as v (take k s)) e ∙ judged_alike (judge f s) d (take k s) s in omega arith

    by_verdict : (v : Verdict) → judge f s ≡ v → judged_at f (take k s) ≡ min k (judged_at f s)
    by_verdict cut e = all_front (front_undecided (checks f) s k e) (rw e l)
    by_verdict (refused judged n) e =
        ⊎_elim (λ (h : judged ≤ k). same_front (enough (checks f) s k (rw e tt) (rw e h)) (rw e tt) (rw e h))
        (λ (h : k < judged). all_front (too_few (checks f) s k (rw e h)) (rw e (omega arith)))
        (le_or_lt judged k)
    by_verdict (frame used p) e =
        ⊎_elim (λ (h : used ≤ k). same_front (enough (checks f) s k (rw e tt) (rw e h)) (rw e tt) (rw e h))
        (λ (h : k < used). all_front (too_few (checks f) s k (rw e h)) (rw e (omega arith)))
        (le_or_lt used k)

-- Where a scan did not stop at the first place, one of that place alone, over the first bytes of s, finds no frame.
module _ (e : Bool) (f : Format) (k : ℕ) (s buf : List ℕ) where
  not_first : (n reach used : ℕ) (p : List ℕ) → judge f s ≡ frame used p → (scan_from (judging e f) n 0 reach s).place ≡ 0
  unfolding scan_from
  not_first zero reach used p q = refl
  not_first (suc n) reach used p q =
      let far : ℕ = max reach (0 + judged_bytes (judging e f s)) in
      ap (λ (v : Verdict). (scan_as v 0 reach (scan_from (judging e f) n 1 far (drop 1 s))).place) (judging_frame e f s p used q)

  front_at : (v : Verdict) (x : Scanned) → x.stop ≡ passed → NoFrame v → stop_buffer (scan_as v 0 0 x).stop buf ≡ buf
  front_at cut x h n = refl
  front_at (refused judged m) x h n = ap (λ (t : Stop). stop_buffer t buf) h
  front_at (frame used p) x h n = absurd n

  pub front_stops :
      (n reach : ℕ) → ((scan_from (judging e f) n 0 reach s).place ≡ 0 → ⊥) → stop_buffer (scan_from (judge f) 1 0 0 (take k s)).stop buf ≡ buf
  unfolding scan_from
  front_stops n reach h = front_at (judge f (take k s)) _ refl (no_frame (judge f (take k s)) refl)
    where
      no_frame : (v : Verdict) → judge f (take k s) ≡ v → NoFrame v
      no_frame cut q = tt
      no_frame (refused judged m) q = tt
      no_frame (frame used p) q =
          absurd (h (not_first n reach used p (ap (judge f) (sym (take-append-drop k s)) ∙ judge_stands f (take k s) (drop k s) (frame used p) tt q)))
