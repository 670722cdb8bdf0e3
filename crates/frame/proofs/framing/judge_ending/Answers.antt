-- `frame::framing::judge_ending` meets its contract: each way out is one of the laws on the ending.
-- Assumes nothing.
use Rattle.frame.specs.Judged.{payload_at}
use Rattle.frame.proofs.Endings.{ending_cut, ending_other, ending_frame}
use Rattle.frame.proofs.framing.judge_ending.Goals as goal

pub returns-then-s-end : goal.returns-then-s-end
returns-then-s-end c = λ m. ending_cut c.args.last (payload_at m c.args.s.now c.args.len) c.args.s.now c.args.end c.if-s-end.true

pub returns-then-s-end-2 : goal.returns-then-s-end-2
returns-then-s-end-2 c =
    rw c.failed.ensures
    (λ m. ending_other c.args.last (payload_at m c.args.s.now c.args.len) c.args.s.now c.args.end c.if-s-end.false c.if-s-end-2.true)

pub returns : goal.returns
returns c = λ m. ending_frame c.args.last (payload_at m c.args.s.now c.args.len) c.args.s.now c.args.end c.if-s-end.false c.if-s-end-2.false
