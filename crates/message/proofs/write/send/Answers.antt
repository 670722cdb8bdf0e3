-- `message::write::send` meets its contract: its answer has the number and the length of the frame's.
-- Assumes nothing.
use Rattle.message.proofs.WriteLaws.{writes_sent}
use Rattle.message.proofs.write.send.Goals as goal

pub returns : goal.returns
returns c = writes_sent _ _ _ _ _ _ _ (λ e r l. l) c.map_err.ensures.cases c.write_frame.ensures
