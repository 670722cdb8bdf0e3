-- `frame::ascii::Line::judge_end` meets its contract: behind the character that ends the digits the sum is wrong, or the ending is left.
-- Assumes nothing.
use Rattle.std.proofs.Common.{◌+◌, ◌-◌, ◌*◌, ◌/◌, true, false, take, drop, ap, ◌∙◌, rules, eq-eqb, ne_eqb}
use Rattle.frame.specs.Ascii.{behind_digits}
use Rattle.frame.specs.Judged.{decoded}
use Rattle.frame.specs.declared.framing.Ending.{Ending}
use Rattle.frame.specs.declared.framing.Format.TheVariants.{Ascii}
use Rattle.frame.proofs.AsciiJudge.{Summed, line_judges}
use Rattle.frame.proofs.Endings.{ending_at, ending_wrong, ending_complete, line_ending_lem}
use Rattle.frame.proofs.ascii.Line.judge_end.Goals as goal

pub returns-in-Any : goal.returns-in-Any
returns-in-Any c =
    let p = decoded (take (2 * (c.args.self.count / 2 - 1)) (drop 1 c.args.self.s.now)) in
    let summed : Summed c.args.self.s.now c.args.self.count c.args.total = search rules in
    line_ending_lem c.args.ending summed (line_judges c.args.ending c.args.self.s.now c.args.self.count (search rules)) true (eq-eqb _ _ c.if-total-ne0.false)
    ∙ ap (λ (e : Ending). ending_at (behind_digits e) p c.args.self.s.now (1 + c.args.self.count) true) c.in-Any.is
    ∙ ending_complete p c.args.self.s.now (1 + c.args.self.count)

pub returns-then-total-ne0 : goal.returns-then-total-ne0
returns-then-total-ne0 c =
    let p = decoded (take (2 * (c.args.self.count / 2 - 1)) (drop 1 c.args.self.s.now)) in
    let summed : Summed c.args.self.s.now c.args.self.count c.args.total = search rules in
    rw c.failed.ensures
    (line_ending_lem c.args.ending summed (line_judges c.args.ending c.args.self.s.now c.args.self.count (search rules)) false (ne_eqb _ _ c.if-total-ne0.true)
    ∙ ending_wrong (behind_digits c.args.ending) p c.args.self.s.now (1 + c.args.self.count))

pub returns-in-CrLf : goal.returns-in-CrLf
returns-in-CrLf c =
    let p = decoded (take (2 * (c.args.self.count / 2 - 1)) (drop 1 c.args.self.s.now)) in
    let summed : Summed c.args.self.s.now c.args.self.count c.args.total = search rules in
    line_ending_lem c.args.ending summed (line_judges c.args.ending c.args.self.s.now c.args.self.count (search rules)) true (eq-eqb _ _ c.if-total-ne0.false)
    ∙ ap (λ (e : Ending). ending_at (behind_digits e) p c.args.self.s.now (1 + c.args.self.count) true) c.in-CrLf.is
    ∙ c.judge_ending.ensures (Ascii c.args.ending)
