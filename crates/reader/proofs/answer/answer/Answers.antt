-- `reader::answer::answer` meets its contract: the answer is made by where the scan stopped.
-- Assumes nothing.
use Prim.Native.Nat.{◌+◌, ◌≤◌}
use native.Mathlib.Omega.{arith}
use mathlib.Core.Path.{◌≡◌, ◌∙◌, subst}
use lib.ListN.{drop, length-drop}
use Rattle.frame.specs.Checks.{cut, frame}
use Rattle.frame.specs.Framing.{judge}
use Rattle.frame.specs.Judged.{payload_at}
use Rattle.reader.specs.Scan.{stop_of}
use Rattle.reader.specs.Answer.{Usable}
use Rattle.reader.specs.declared.scan.ScanEnd.{ScanEnd}
use Rattle.frame.proofs.Framings.{some_used, undecided_short, payload_there, limit_most}
use Rattle.frame.proofs.Optional.{open_at}
use Rattle.reader.proofs.Readers.{kept_frame, kept_undecided}
use Rattle.reader.proofs.answer.answer.Goals as goal

pub returns-in-Frame : goal.returns-in-Frame
returns-in-Frame c =
    let at-frame : (let at = drop c.args.found.place c.args.w.now in (judge c.args.format at ≡ frame c.in-Frame.used (payload_at c.args.format at c.in-Frame.len)) × (c.args.found.place + c.in-Frame.used ≤ c.args.found.reach) × (c.args.found.reach ≤ c.args.found.place + 517)) = subst (λ (e : ScanEnd). Usable (stop_of c.args.format (drop c.args.found.place c.args.w.now) e) c.args.format c.args.w.now c.args.found.place c.args.found.reach)
    c.in-Frame.is c.requires.usable in
    let some : 1 ≤ c.in-Frame.used = some_used c.args.format (drop c.args.found.place c.args.w.now) _ _ (at-frame).0 in
    let f = at-frame in
    kept_frame c.args.format c.args.w.now c.args.before c.args.found.place c.args.found.reach c.args.found.end c.args.judged c.in-Frame.used c.in-Frame.len c.may_follow.result
    (c.may_follow.ensures ∙ open_at c.args.format c.in-Frame.used (some) c.args.found.place c.args.w.now) c.in-Frame.is
    (payload_there c.args.format (drop c.args.found.place c.args.w.now) c.in-Frame.used c.in-Frame.len f.0).1 f.1 c.requires.there f.2

pub returns-in-Undecided : goal.returns-in-Undecided
returns-in-Undecided c =
    let at = drop c.args.found.place c.args.w.now in
    let e : judge c.args.format at ≡ cut =
    subst (λ (e : ScanEnd). Usable (stop_of c.args.format at e) c.args.format c.args.w.now c.args.found.place c.args.found.reach) c.in-Undecided.is c.requires.usable
    in
    kept_undecided c.args.format c.args.w.now c.args.before c.args.found.place c.args.found.reach c.args.found.end c.args.judged c.more_needed.result c.in-Undecided.is c.more_needed.ensures
    c.requires.inside (omega (arith, undecided_short c.args.format at e, limit_most c.args.format, length-drop c.args.found.place c.args.w.now))
