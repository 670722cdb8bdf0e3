-- `frame::hex::put_hex` meets its contract: the two stores are of what `hex_of` ensures.
-- Assumes nothing.
use Rattle.frame.proofs.hex.put_hex.Goals as goal

pub returns : goal.returns
returns c = rw c.hex_of-pair.ensures
