-- `frame::ascii::Line::judge` meets its contract: each way out is one of the laws on the colon, or what `judge_digits` ensures.
-- Assumes nothing.
use Rattle.std.proofs.Common.{sym, ◌∙◌, arith, eqb-true}
use borrow.Author.Tests.{eqb-false}
use Rattle.frame.specs.Ascii.{line_ending}
use Rattle.frame.proofs.AsciiJudge.{judge_empty, judge_start, judge_line}
use Rattle.frame.proofs.ascii.Line.judge.Goals as goal

pub returns-then-is_empty : goal.returns-then-is_empty
returns-then-is_empty c = judge_empty (line_ending c.args.ending) c.args.self.s.now (eqb-true _ _ (sym c.is_empty.ensures ∙ c.if-is_empty.true))

pub returns-then-s-ne58 : goal.returns-then-s-ne58
returns-then-s-ne58 c =
    rw c.failed.ensures
    (let some = eqb-false _ _ (sym c.is_empty.ensures ∙ c.if-is_empty.false) in
    judge_start (line_ending c.args.ending) c.args.self.s.now (omega arith) c.if-s-ne58.true)

pub returns : goal.returns
returns c =
    let some = eqb-false _ _ (sym c.is_empty.ensures ∙ c.if-is_empty.false) in
    judge_line (line_ending c.args.ending) c.args.self.s.now (omega arith) c.if-s-ne58.false ∙ c.judge_digits.ensures
