-- `frame::framing::take_out` meets its contract: each framing is one case.
-- Assumes nothing.
use Rattle.frame.proofs.framing.take_out.Goals as goal

pub unpack-requires : goal.unpack-requires
unpack-requires c = rw c.in-Binary.is at c.requires

pub unpack-requires-in-Ascii : goal.unpack-requires-in-Ascii
unpack-requires-in-Ascii c = rw c.in-Ascii.is at c.requires

pub returns-in-Binary : goal.returns-in-Binary
returns-in-Binary c = rw c.in-Binary.is (record { value = c.unpack.ensures; payload = λ h. c.unpack.ensures })

pub returns-in-Ascii : goal.returns-in-Ascii
returns-in-Ascii c = rw c.in-Ascii.is (record { value = c.unpack-in-Ascii.ensures.value; payload = λ h. c.unpack-in-Ascii.ensures.digits h.1 })
