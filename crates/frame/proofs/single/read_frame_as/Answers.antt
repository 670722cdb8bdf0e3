-- `frame::single::read_frame_as` meets its contract where a frame was judged.
-- Assumes nothing.
use Rattle.std.proofs.Common.{◌∙◌, ap₂, arith}
use Rattle.frame.specs.Framing.{absorbed}
use Rattle.frame.proofs.Lists.{take_rest}
use Rattle.frame.proofs.Singles.{reads_short, reads_frame}
use Rattle.frame.proofs.single.read_frame_as.Goals as goal

pub returns-in-Frame : goal.returns-in-Frame
returns-in-Frame c =
    reads_short c.args.format c.args.s.now _ _ c.in-Frame.len c.judge.ensures c.in-Frame.is c.args.buf.now c.if-buf-len.true

pub returns-in-Frame-2 : goal.returns-in-Frame-2
returns-in-Frame-2 c =
    reads_frame c.args.format c.args.s.now _ _ c.in-Frame.len c.judge.ensures c.in-Frame.is c.args.buf.now _ _ (omega arith)
    (c.absorbed-more.ensures ∙ ap₂ (absorbed c.args.format) c.may_follow.ensures (take_rest c.args.s.now c.in-Frame.used))
    c.take_out.ensures.value
