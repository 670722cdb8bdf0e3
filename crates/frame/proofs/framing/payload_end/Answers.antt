-- `frame::framing::payload_end` meets its contract: each framing is one case.
-- Assumes nothing.
use Rattle.frame.proofs.framing.payload_end.Goals as goal

pub returns-in-Binary : goal.returns-in-Binary
returns-in-Binary c = rw c.in-Binary.is

pub returns-in-Ascii : goal.returns-in-Ascii
returns-in-Ascii c = rw c.in-Ascii.is
