-- Laws of the scan behind the line reader: its steps, and what its result says of the bytes.
-- Assumes nothing.
use Prim.Native.Nat.{ℕ, zero, suc, ◌+◌, ◌-◌, ◌≤◌, ◌<◌, max, zero-le}
use native.Mathlib.Nat.{add-zero, sub-zero, le_refl}
use native.Mathlib.Numerals.{add-one}
use native.Mathlib.Omega.{arith}
use mathlib.Core.Path.{◌≡◌, refl, ap, ◌∙◌}
use mathlib.Core.List.{List}
use mathlib.Core.Bool.{Bool, true, false}
use lib.ListN.{length, drop, length-drop}
use lib.Seq.{drop-drop}
use Rattle.frame.specs.Checks.{Verdict, cut, refused, frame}
use Rattle.frame.specs.Framing.{judge, limit}
use Rattle.reader.specs.Reader.{ended}
use Rattle.reader.specs.Scan.{judging, judged_bytes, Stop, found, undecided, passed, Scanned, scanned_to, scan_as, scan_from}
use Rattle.frame.specs.Further.{Sized}
use Rattle.frame.specs.declared.framing.Format.{Format}
use Rattle.frame.proofs.Framings.{frame_sized}
use Rattle.reader.proofs.Prefixes.{refused_sized}

-- What is decided is judged so whether the segment ends or not.
pub judging_refused : (e : Bool) (f : Format) (s : List ℕ) (judged n : ℕ) → judge f s ≡ refused judged n → judging e f s ≡ refused judged n
judging_refused true f s judged n q = ap ended q
judging_refused false f s judged n q = q

pub judging_frame : (e : Bool) (f : Format) (s p : List ℕ) (used : ℕ) → judge f s ≡ frame used p → judging e f s ≡ frame used p
judging_frame true f s p used q = ap ended q
judging_frame false f s p used q = q

module _ (judgement : List ℕ → Verdict) (stop place far : ℕ) (s : List ℕ) where
  -- The scan of the places from one on.
  scan_at :
      place < stop →
      scan_from judgement (stop - place) place far (drop place s)
      ≡ scan_as (judgement (drop place s)) place far
      (scan_from judgement (stop - (place + 1)) (place + 1) (max far (place + judged_bytes (judgement (drop place s)))) (drop (place + 1) s))
  unfolding scan_from
  scan_at l =
      let left : stop - place ≡ suc (stop - (place + 1)) = omega arith in
      rw (left, drop-drop 1 place s, add-one)

  -- Behind the last place.
  pub step_end :
      stop ≤ place → scan_from judgement (stop - place) place far (drop place s) ≡ scanned_to place far passed
  unfolding scan_from
  step_end l = let left : stop - place ≡ 0 = omega arith in rw left

module _ (e : Bool) (f : Format) (stop place far : ℕ) (s : List ℕ) (l : place < stop) where
  -- The scan goes on behind a place that fails.
  pub step_refused :
      (judged n : ℕ) → judge f (drop place s) ≡ refused judged n →
      scan_from (judging e f) (stop - place) place far (drop place s)
      ≡ scan_from (judging e f) (stop - (place + 1)) (place + 1) (max far (place + judged)) (drop (place + 1) s)
  step_refused judged n q =
      scan_at (judging e f) stop place far s l ∙ rw (judging_refused e f (drop place s) judged n q)

  -- It stops at a frame.
  pub step_frame :
      (used : ℕ) (p : List ℕ) → judge f (drop place s) ≡ frame used p →
      scan_from (judging e f) (stop - place) place far (drop place s)
      ≡ scanned_to place (max far (place + used)) (found used p)
  step_frame used p q = scan_at (judging e f) stop place far s l ∙ rw (judging_frame e f (drop place s) p used q)

module _ (f : Format) (stop place far : ℕ) (s : List ℕ) (l : place < stop) (q : judge f (drop place s) ≡ cut) where
  -- It stops at undecided bytes where the segment goes on.
  pub step_undecided :
      scan_from (judging false f) (stop - place) place far (drop place s) ≡ scanned_to place far undecided
  step_undecided = scan_at (judge f) stop place far s l ∙ rw q

  -- Where the segment has ended, they fail.
  pub step_ended :
      scan_from (judging true f) (stop - place) place far (drop place s)
      ≡ scan_from (judging true f) (stop - (place + 1)) (place + 1) (max far place) (drop (place + 1) s)
  step_ended = scan_at (judging true f) stop place far s l ∙ rw (q, add-zero)

-- A scan of s over n places stopped at `place`, having judged bytes up to `reach`: at a frame.
pub record AtFrame (f : Format) (s : List ℕ) (n place reach used : ℕ) (p : List ℕ) : Type 0 where
  pub is_frame : judge f (drop place s) ≡ frame used p
  pub inside : place + used ≤ reach
  pub before : place < n

-- At undecided bytes, where the segment goes on.
pub record AtUndecided (e : Bool) (f : Format) (s : List ℕ) (n place : ℕ) : Type 0 where
  pub goes_on : e ≡ false
  pub is_cut : judge f (drop place s) ≡ cut
  pub before : place < n

-- By the reason for which it stopped.
abbrev pub Ends : Bool → Format → List ℕ → ℕ → ℕ → ℕ → Stop → Type 0
Ends e f s n place reach (found used p) = AtFrame f s n place reach used p
Ends e f s n place reach undecided = AtUndecided e f s n place
Ends e f s n place reach passed = place ≡ n

-- What the result x of a scan of s over n places says, where bytes up to `reach` were judged before.
pub record ScanFacts (e : Bool) (f : Format) (s : List ℕ) (n reach : ℕ) (x : Scanned) : Type 0 where
  pub far : reach ≤ x.reach
  pub there : x.reach ≤ length s
  pub near : x.reach ≤ max reach (x.place + limit f)
  pub ends : Ends e f s n x.place x.reach x.stop

-- The same of the scan of the places from one on, which stops there or behind.
record FactsFrom (e : Bool) (f : Format) (s : List ℕ) (n place reach : ℕ) (x : Scanned) : Type 0 where
  facts : ScanFacts e f s n reach x
  onward : place ≤ x.place

module _ (f : Format) (s : List ℕ) (n : ℕ) (l : n ≤ length s) where
  -- The facts behind a place are the facts from it on.
  facts_on :
      (e : Bool) (place reach judged : ℕ) (x : Scanned) → judged ≤ limit f → FactsFrom e f s n (place + 1) (max reach (place + judged)) x →
      FactsFrom e f s n place reach x
  facts_on e place reach judged x m h =
      record {
        facts =
            record {
              far = omega (arith, h.facts.far);
              there = h.facts.there;
              near = omega (arith, h.facts.near, h.onward);
              ends = h.facts.ends;
            };
        onward = omega (arith, h.onward);
      }

  -- The bytes judged at a place are there.
  judged_inside : (place judged : ℕ) → place < n → judged ≤ length (drop place s) → place + judged ≤ length s
  judged_inside place judged h k = let size : length (drop place s) ≡ length s - place = length-drop place s in omega arith

  -- The facts at a place of this verdict.
  facts_at :
      (e : Bool) (place reach : ℕ) (v : Verdict) → judge f (drop place s) ≡ v → place < n → reach ≤ length s →
      ((far : ℕ) → far ≤ length s →
      FactsFrom e f s n (place + 1) far (scan_from (judging e f) (n - (place + 1)) (place + 1) far (drop (place + 1) s))) →
      FactsFrom e f s n place reach (scan_from (judging e f) (n - place) place reach (drop place s))
  facts_at true place reach cut q h k later =
      rw (step_ended f n place reach s h q) (facts_on true place reach 0 _ zero-le (rw add-zero (later (max reach place) (omega arith))))
  facts_at false place reach cut q h k later =
      rw (step_undecided f n place reach s h q)
      (record {
        facts =
            record { far = le_refl reach; there = k; near = omega arith; ends = record { goes_on = refl; is_cut = q; before = h } };
        onward = le_refl place;
      })
  facts_at e place reach (refused judged m) q h k later =
      let size : Sized f (drop place s) judged = refused_sized f (drop place s) judged m q in
      let inside : place + judged ≤ length s = judged_inside place judged h size.there in
      rw (step_refused e f n place reach s h judged m q)
      (facts_on e place reach judged _ size.most (later (max reach (place + judged)) (omega arith)))
  facts_at e place reach (frame used p) q h k later =
      let size : Sized f (drop place s) used = frame_sized f (drop place s) p used q in
      let inside : place + used ≤ length s = judged_inside place used h size.there in
      rw (step_frame e f n place reach s h used p q)
      (record {
        facts =
            record {
              far = omega arith;
              there = omega arith;
              near = omega arith;
              ends = record { is_frame = q; inside = omega arith; before = h };
            };
        onward = le_refl place;
      })

  -- The facts of the scan from a place on.
  facts_from :
      (e : Bool) (left place reach : ℕ) → n ≡ place + left → reach ≤ length s →
      FactsFrom e f s n place reach (scan_from (judging e f) (n - place) place reach (drop place s))
  facts_from e zero place reach d k =
      rw (step_end (judging e f) n place reach s (omega arith))
      (record { facts = record { far = le_refl reach; there = k; near = omega arith; ends = omega arith }; onward = le_refl place })
  facts_from e (suc left) place reach d k =
      facts_at e place reach (judge f (drop place s)) refl (omega arith) k (λ far m. facts_from e left (place + 1) far (omega arith) m)

module _ (e : Bool) (f : Format) (s : List ℕ) (n reach : ℕ) (l : n ≤ length s) (k : reach ≤ length s) (x : Scanned)
    (is : x ≡ scan_from (judging e f) n 0 reach s) where
  -- What a scan's result says.
  pub scan_facts : ScanFacts e f s n reach x
  scan_facts = rw is (rw sub-zero at (facts_from f s n l e n 0 reach (omega arith) k).facts)

  -- The same, by the reason for which it stopped.
  pub scan_found : (used : ℕ) (p : List ℕ) → x.stop ≡ found used p → AtFrame f s n x.place x.reach used p
  scan_found used p q = rw q at scan_facts.ends

  pub scan_undecided : x.stop ≡ undecided → AtUndecided e f s n x.place
  scan_undecided q = rw q at scan_facts.ends

  pub scan_passed : x.stop ≡ passed → x.place ≡ n
  scan_passed q = rw q at scan_facts.ends

-- A scan from a later place on stopped at a frame.
pub scan_found_from :
    (e : Bool) (f : Format) (s : List ℕ) (n from reach : ℕ) → n ≤ length s → reach ≤ length s → from ≤ n → (x : Scanned) →
    x ≡ scan_from (judging e f) (n - from) from reach (drop from s) → (used : ℕ) (p : List ℕ) → x.stop ≡ found used p →
    AtFrame f s n x.place x.reach used p
scan_found_from e f s n from reach l k m x is used p q =
    let facts : ScanFacts e f s n reach x = rw is (facts_from f s n l e (n - from) from reach (omega arith) k).facts in rw q at facts.ends
