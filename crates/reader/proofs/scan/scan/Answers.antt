-- `reader::scan::scan` meets its contract: at each turn the scan from the present place gives what the whole scan gives, and the bytes counted so far and those
-- that it counts are those that the whole scan counts.
-- Assumes nothing.
use native.Mathlib.Omega.{arith}
use mathlib.Core.Path.{sym, ap, ◌∙◌, subst}
use borrow.Author.Tests.{not-true, not-false}
use Rattle.frame.specs.declared.framing.Judged.TheVariants.{Undecided, Frame}
use Rattle.reader.specs.Scan.{scanned, stopped_at}
use Rattle.reader.specs.declared.scan.Step.{Step}
use Rattle.reader.specs.declared.scan.ScanEnd.TheVariants.{Frame as FrameEnd}
use Rattle.reader.specs.declared.scan.ScanResult.{ScanResult}
use Rattle.reader.proofs.Passing.{Come, judged_slice, undecided_passes, come_few, come_on, come_end, frame_there, frame_counts, frame_few, frame_stops}
use Rattle.reader.proofs.Passing.{over_most, undecided_counts, undecided_few, undecided_stops}
use Rattle.reader.proofs.scan.scan.Goals as goal

pub then-at-requires : goal.then-at-requires
then-at-requires c =
    come_few c.args.format c.args.places c.args.s.now c.requires c.loop-at.at c.loop-at.invariant c.pass_over.result (c.pass_over.ensures.passes c.args.places.ended)

pub then-at-requires-in-Failed : goal.then-at-requires-in-Failed
then-at-requires-in-Failed c =
    come_few c.args.format c.args.places c.args.s.now c.requires c.loop-at.at c.loop-at.invariant c.pass_failed.result (c.pass_failed.ensures.passes c.args.places.ended)

pub stopped-requires : goal.stopped-requires
stopped-requires c =
    undecided_few c.args.format c.args.places c.args.s.now c.requires c.loop-at.at c.loop-at.invariant c.loop-at-test.true (not-true _ c.if-not-places.true)
    (judged_slice c.args.format c.args.s.now c.loop-at.at.place Undecided c.in-Undecided.ensures)

pub returns-then-not-places-clause-result_value : goal.returns-then-not-places-clause-result_value
returns-then-not-places-clause-result_value c =
    ap (scanned c.args.format c.args.s.now) c.stopped.ensures
    ∙ undecided_stops c.args.format c.args.places c.args.s.now c.requires c.loop-at.at c.loop-at.invariant c.loop-at-test.true (not-true _ c.if-not-places.true)
    (judged_slice c.args.format c.args.s.now c.loop-at.at.place Undecided c.in-Undecided.ensures)

pub returns-then-not-places-clause-judged_value : goal.returns-then-not-places-clause-judged_value
returns-then-not-places-clause-judged_value c =
    ap (λ (r : ScanResult). r.judged) c.stopped.ensures
    ∙ undecided_counts c.args.format c.args.places c.args.s.now c.requires c.loop-at.at c.loop-at.invariant c.loop-at-test.true (not-true _ c.if-not-places.true)
    (judged_slice c.args.format c.args.s.now c.loop-at.at.place Undecided c.in-Undecided.ensures)

pub then-at-requires-in-Undecided : goal.then-at-requires-in-Undecided
then-at-requires-in-Undecided c =
    let q = judged_slice c.args.format c.args.s.now c.loop-at.at.place Undecided c.in-Undecided.ensures in
    come_few c.args.format c.args.places c.args.s.now c.requires c.loop-at.at c.loop-at.invariant _
    (undecided_passes c.args.places.ended c.args.format c.args.s.now c.loop-at.at.place c.args.places.stop (not-false _ c.if-not-places.false) c.loop-at-test.true q)

pub loop-at-preserved-in-Undecided : goal.loop-at-preserved-in-Undecided
loop-at-preserved-in-Undecided c =
    let q = judged_slice c.args.format c.args.s.now c.loop-at.at.place Undecided c.in-Undecided.ensures in
    subst (Come c.args.format c.args.places c.args.s.now) (sym c.then-at-in-Undecided.ensures)
    (come_on c.args.format c.args.places c.args.s.now c.requires c.loop-at.at c.loop-at.invariant _
    (undecided_passes c.args.places.ended c.args.format c.args.s.now c.loop-at.at.place c.args.places.stop (not-false _ c.if-not-places.false) c.loop-at-test.true q))

pub overflow_add-frame : goal.overflow_add-frame
overflow_add-frame c =
    let q = judged_slice c.args.format c.args.s.now c.loop-at.at.place (Frame c.in-Frame.used c.in-Frame.len) c.in-Frame.ensures in
    omega (arith, c.requires.short, frame_there c.args.format c.args.places c.args.s.now c.requires c.loop-at.at c.loop-at.invariant c.loop-at-test.true _ _ q)

pub then-requires : goal.then-requires
then-requires c =
    let q = judged_slice c.args.format c.args.s.now c.loop-at.at.place (Frame c.in-Frame.used c.in-Frame.len) c.in-Frame.ensures in
    frame_few c.args.format c.args.places c.args.s.now c.requires c.loop-at.at c.loop-at.invariant c.loop-at-test.true _ _ q

pub stopped-requires-in-Frame : goal.stopped-requires-in-Frame
stopped-requires-in-Frame c =
    let q = judged_slice c.args.format c.args.s.now c.loop-at.at.place (Frame c.in-Frame.used c.in-Frame.len) c.in-Frame.ensures in
    omega (
      arith,
      ap (λ (x : Step). x.judged) c.then.ensures,
      frame_few c.args.format c.args.places c.args.s.now c.requires c.loop-at.at c.loop-at.invariant c.loop-at-test.true _ _ q,
    )

pub returns-in-Frame-clause-result_value : goal.returns-in-Frame-clause-result_value
returns-in-Frame-clause-result_value c =
    let q = judged_slice c.args.format c.args.s.now c.loop-at.at.place (Frame c.in-Frame.used c.in-Frame.len) c.in-Frame.ensures in
    ap (scanned c.args.format c.args.s.now) c.stopped-in-Frame.ensures
    ∙ ap (λ (x : Step). scanned c.args.format c.args.s.now (stopped_at x.place x.reach 0 (FrameEnd c.in-Frame.used c.in-Frame.len))) c.then.ensures
    ∙ frame_stops c.args.format c.args.places c.args.s.now c.requires c.loop-at.at c.loop-at.invariant c.loop-at-test.true _ _ q

pub returns-in-Frame-clause-judged_value : goal.returns-in-Frame-clause-judged_value
returns-in-Frame-clause-judged_value c =
    let q = judged_slice c.args.format c.args.s.now c.loop-at.at.place (Frame c.in-Frame.used c.in-Frame.len) c.in-Frame.ensures in
    omega (
      arith,
      ap (λ (r : ScanResult). r.judged) c.stopped-in-Frame.ensures,
      ap (λ (x : Step). x.judged) c.then.ensures,
      frame_counts c.args.format c.args.places c.args.s.now c.requires c.loop-at.at c.loop-at.invariant c.loop-at-test.true _ _ q,
    )

pub stopped-requires-2 : goal.stopped-requires-2
stopped-requires-2 c =
    omega (
      arith,
      (come_end c.args.format c.args.places c.args.s.now c.requires c.loop-at.at c.loop-at.invariant c.loop-at-test.false).1,
      over_most c.args.format c.args.places c.args.s.now c.requires,
    )

pub returns-clause-result_value : goal.returns-clause-result_value
returns-clause-result_value c =
    ap (scanned c.args.format c.args.s.now) c.stopped-2.ensures
    ∙ (come_end c.args.format c.args.places c.args.s.now c.requires c.loop-at.at c.loop-at.invariant c.loop-at-test.false).0

pub returns-clause-judged_value : goal.returns-clause-judged_value
returns-clause-judged_value c =
    omega (
      arith,
      ap (λ (r : ScanResult). r.judged) c.stopped-2.ensures,
      (come_end c.args.format c.args.places c.args.s.now c.requires c.loop-at.at c.loop-at.invariant c.loop-at-test.false).1,
    )
