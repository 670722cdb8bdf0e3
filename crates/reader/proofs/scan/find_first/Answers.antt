-- `reader::scan::find_first` meets its contract: the first place is judged and counted as the scan judges and counts it, and the others are left to it.
-- Assumes nothing.
use Prim.Native.Nat.{ℕ}
use native.Mathlib.Omega.{arith}
use mathlib.Core.Bool.{false}
use mathlib.Core.Path.{sym, ap, ◌∙◌}
use lib.ListN.{length}
use Rattle.frame.specs.Checks.{Verdict}
use Rattle.frame.specs.Framing.{judge, judged_as}
use Rattle.frame.specs.Judged.{payload_at}
use Rattle.reader.specs.Scan.{found, scanned, scanned_to, scan_over}
use Rattle.reader.specs.declared.scan.ScanResult.{ScanResult}
use Rattle.reader.proofs.Skipping.{start_fails}
use Rattle.reader.proofs.Counting.{whole_most, whole_first}
use Rattle.reader.proofs.Passing.{all_judged, empty_whole, first_frame, first_undecided, first_passed}
use Rattle.reader.proofs.scan.find_first.Goals as goal

pub returns-then-size-eq0-clause-result_value : goal.returns-then-size-eq0-clause-result_value
returns-then-size-eq0-clause-result_value c =
    ap (scanned c.args.format c.args.s.now) c.at_front.ensures ∙ (empty_whole c.args.format c.args.s.now c.args.reach c.if-size-eq0.true).0

pub returns-then-size-eq0-clause-judged_value : goal.returns-then-size-eq0-clause-judged_value
returns-then-size-eq0-clause-judged_value c =
    omega (arith, ap (λ (r : ScanResult). r.judged) c.at_front.ensures, (empty_whole c.args.format c.args.s.now c.args.reach c.if-size-eq0.true).1)

pub counted-requires-clause-more_bound : goal.counted-requires-clause-more_bound
counted-requires-clause-more_bound c =
    omega (arith, c.find-found.ensures.judged_value, all_judged c.args.format c.args.s.now c.args.reach, whole_most c.args.format (judge c.args.format) c.args.s.now)

pub counted-requires-clause-known_bound : goal.counted-requires-clause-known_bound
counted-requires-clause-known_bound c =
    let fails = start_fails c.args.format c.args.s.now 0 (omega arith) (λ e. c.if-s-start_of.true (e ∙ sym c.start_of.ensures)) in
    omega (
      arith,
      c.min.ensures,
      c.find-found.ensures.judged_value,
      all_judged c.args.format c.args.s.now c.args.reach,
      ap (λ (v : Verdict). judged_as v c.args.s.now) fails,
      whole_first c.args.format (judge c.args.format) c.args.s.now,
    )

pub returns-then-s-start_of-clause-judged_value : goal.returns-then-s-start_of-clause-judged_value
returns-then-s-start_of-clause-judged_value c =
    let fails = start_fails c.args.format c.args.s.now 0 (omega arith) (λ e. c.if-s-start_of.true (e ∙ sym c.start_of.ensures)) in
    omega (
      arith,
      c.min.ensures,
      ap (λ (y : ScanResult). y.judged) c.counted.ensures,
      c.find-found.ensures.judged_value,
      all_judged c.args.format c.args.s.now c.args.reach,
      ap (λ (v : Verdict). judged_as v c.args.s.now) fails,
    )

pub find-found-requires-in-Failed-clause-scannable : goal.find-found-requires-in-Failed-clause-scannable
find-found-requires-in-Failed-clause-scannable c =
    record {
      onward = (c.pass_failed-first.ensures.passes false).inside;
      inside = omega arith;
      reached = omega (arith, c.max.ensures, c.pass_failed-first.ensures.in_bounds, c.requires.reach_in_bounds);
      short = c.requires.s_len_bound;
    }

pub counted-requires-in-Failed-clause-more_bound : goal.counted-requires-in-Failed-clause-more_bound
counted-requires-in-Failed-clause-more_bound c =
    omega (
      arith,
      c.find-found-in-Failed.ensures.judged_value,
      (first_passed c.args.format c.args.s.now c.args.reach c.pass_failed-first.result (c.pass_failed-first.ensures.passes false)).1,
      c.max.ensures,
      whole_most c.args.format (judge c.args.format) c.args.s.now,
    )

pub counted-requires-in-Failed-clause-known_bound : goal.counted-requires-in-Failed-clause-known_bound
counted-requires-in-Failed-clause-known_bound c =
    omega (
      arith,
      c.min-in-Failed.ensures,
      c.find-found-in-Failed.ensures.judged_value,
      (first_passed c.args.format c.args.s.now c.args.reach c.pass_failed-first.result (c.pass_failed-first.ensures.passes false)).1,
      ap (λ (v : Verdict). judged_as v c.args.s.now) (c.in-Failed.ensures.room_value c.requires.in_bounds),
      whole_first c.args.format (judge c.args.format) c.args.s.now,
    )

pub returns-in-Undecided-clause-result_value : goal.returns-in-Undecided-clause-result_value
returns-in-Undecided-clause-result_value c =
    ap (scanned c.args.format c.args.s.now) c.at_front-in-Undecided.ensures
    ∙ (first_undecided c.args.format c.args.s.now c.args.reach (omega arith) (c.in-Undecided.ensures.room_value c.requires.in_bounds)).0

pub returns-in-Undecided-clause-judged_value : goal.returns-in-Undecided-clause-judged_value
returns-in-Undecided-clause-judged_value c =
    let h = first_undecided c.args.format c.args.s.now c.args.reach (omega arith) (c.in-Undecided.ensures.room_value c.requires.in_bounds) in omega (arith, h.1, ap (λ (r : ScanResult). r.judged) c.at_front-in-Undecided.ensures, c.min-in-Undecided.ensures)

pub returns-in-Failed-clause-result_value : goal.returns-in-Failed-clause-result_value
returns-in-Failed-clause-result_value c =
    ap (scanned c.args.format c.args.s.now) c.counted-in-Failed.ensures
    ∙ c.find-found-in-Failed.ensures.result_value
    ∙ ap
    (λ (n : ℕ).
    scan_over c.args.format (record { from = c.pass_failed-first.result.place; stop = length c.args.s.now; reach = n; ended = false }) c.args.s.now)
    c.max.ensures
    ∙ (first_passed c.args.format c.args.s.now c.args.reach c.pass_failed-first.result (c.pass_failed-first.ensures.passes false)).0

pub returns-in-Failed-clause-judged_value : goal.returns-in-Failed-clause-judged_value
returns-in-Failed-clause-judged_value c =
    omega (
      arith,
      c.min-in-Failed.ensures,
      ap (λ (y : ScanResult). y.judged) c.counted-in-Failed.ensures,
      c.find-found-in-Failed.ensures.judged_value,
      (first_passed c.args.format c.args.s.now c.args.reach c.pass_failed-first.result (c.pass_failed-first.ensures.passes false)).1,
      ap (λ (v : Verdict). judged_as v c.args.s.now) (c.in-Failed.ensures.room_value c.requires.in_bounds),
    )

pub returns-in-Frame-clause-result_value : goal.returns-in-Frame-clause-result_value
returns-in-Frame-clause-result_value c =
    let p = payload_at c.args.format c.args.s.now c.in-Frame.len in
    ap (scanned c.args.format c.args.s.now) c.at_front-in-Frame.ensures
    ∙ ap (λ (n : ℕ). scanned_to 0 n (found c.in-Frame.used p)) c.max-in-Frame.ensures
    ∙ (first_frame c.args.format c.args.s.now c.args.reach (omega arith) c.in-Frame.used p (c.in-Frame.ensures.room_value c.requires.in_bounds)).0

pub returns-in-Frame-clause-judged_value : goal.returns-in-Frame-clause-judged_value
returns-in-Frame-clause-judged_value c =
    let p = payload_at c.args.format c.args.s.now c.in-Frame.len in
    let h = first_frame c.args.format c.args.s.now c.args.reach (omega arith) c.in-Frame.used p (c.in-Frame.ensures.room_value c.requires.in_bounds) in
    omega (arith, h.1, ap (λ (r : ScanResult). r.judged) c.at_front-in-Frame.ensures, c.min-in-Frame.ensures)
