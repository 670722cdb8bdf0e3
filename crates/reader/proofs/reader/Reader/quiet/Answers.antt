-- `reader::reader::Reader::quiet` meets its contract: the refusals in their order, and otherwise the quiet of the held bytes.
-- Assumes nothing.
use mathlib.Core.Bool.{false}
use mathlib.Core.Path.{refl, sym, ap, ◌∙◌, subst}
use Rattle.reader.specs.Reader.{State, holding, state_of, quiet_held, quiet, quiet_judged}
use Rattle.reader.specs.Answer.{values_at}
use Rattle.reader.specs.Feeding.{QuietAnswered}
use Rattle.reader.proofs.JudgedCalls.{quiet_behind}
use Rattle.reader.proofs.Promises.{answers}
use Rattle.reader.proofs.reader.Reader.quiet.Goals as goal

pub returns : goal.returns
returns c =
    let r = c.args.self in
    let s : State = state_of r in
    let h =
    subst
    (λ (t : State). QuietAnswered t.format (quiet_held t.format t.held) (quiet_judged (holding t.format t.held false t.judged)) c.args.buf.now
    c.quiet_held.result c.quiet_held.new.buf)
    c.drop_optional.ensures.state c.quiet_held.ensures in
    answers (sym c.in_default.ensures.number)
    (h.values ∙ ap (values_at (quiet s)) (quiet_behind s.format s.follows s.held _ s.judged _ refl refl)) h.state h.buffer
