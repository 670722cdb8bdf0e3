-- `frame::single::write_frame` meets its contract where the payload can be written.
-- Assumes nothing.
use Rattle.std.proofs.Common.{arith}
use Rattle.frame.proofs.Singles.{writes_short, writes_frame}
use Rattle.frame.proofs.single.write_frame.Goals as goal

pub returns-then-buf-size : goal.returns-then-buf-size
returns-then-buf-size c = writes_short c.args.framing c.args.payload.now c.args.buf.now (omega arith) (omega arith) (omega (arith, c.frame_len-size.ensures))

pub returns : goal.returns
returns c =
    writes_frame c.args.framing c.args.payload.now c.args.buf.now (omega arith) (omega arith) _ _ c.frame_len-size.ensures c.if-buf-size.false c.pack.ensures
