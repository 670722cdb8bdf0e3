-- `frame::framing::frame_len` meets its contract: the length is that of each framing.
-- Assumes nothing.
use Rattle.frame.proofs.framing.frame_len.Goals as goal

pub returns-in-Binary : goal.returns-in-Binary
returns-in-Binary c = cc

pub returns-in-Ascii : goal.returns-in-Ascii
returns-in-Ascii c = cc
