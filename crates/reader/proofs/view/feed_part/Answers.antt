-- `reader::view::feed_part` meets its contract: all places are scanned, which is the line call.
-- Assumes nothing.
use native.Mathlib.Nat.{le_refl}
use Prim.Native.Nat.{zero-le}
use mathlib.Core.Path.{sym, ◌∙◌}
use lib.ListN.{length, take, drop, take-append-drop}
use Rattle.reader.specs.Scan.{scanned}
use Rattle.reader.proofs.Scanning.{scan_facts}
use mathlib.Core.Bool.{false}
use Rattle.reader.proofs.JudgedCalls.{short_judged}
use Rattle.reader.proofs.Readers.{answerable, view_keeps, keeps_total}
use Rattle.reader.proofs.view.feed_part.Goals as goal

pub answer-requires : goal.answer-requires
answer-requires c =
    answerable c.args.format c.args.w.now (length c.args.w.now) c.args.count (scanned c.args.format c.args.w.now c.find_first-found.result) _ (le_refl (length c.args.w.now)) c.requires.inside c.requires.fits
    c.find_first-found.ensures.result_value (le_refl c.args.count) zero-le

pub returns : goal.returns
returns c =
    let x = scanned c.args.format c.args.w.now c.find_first-found.result in
    keeps_total _ _ _ c.args.count c.args.w.now _ c.args.buf.now _
    (c.find_first-found.ensures.judged_value ∙ short_judged c.args.format (take c.args.count c.args.w.now) (drop c.args.count c.args.w.now) c.args.w.now c.args.judged (sym (take-append-drop c.args.count c.args.w.now)))
    (view_keeps c.args.format c.args.w.now c.args.count x c.find_first-found.result.judged c.answer.result c.args.buf.now _ c.requires.inside
    (scan_facts false c.args.format c.args.w.now (length c.args.w.now) c.args.count (le_refl (length c.args.w.now)) c.requires.inside x c.find_first-found.ensures.result_value).far c.find_first-found.ensures.result_value c.answer.ensures c.find_first-found.ensures.buf_after)
