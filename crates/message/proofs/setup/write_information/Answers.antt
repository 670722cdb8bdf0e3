-- `message::setup::write_information` meets its contract: the array is the layout.
-- Assumes nothing.
use Rattle.message.proofs.setup.write_information.Goals as goal

pub returns : goal.returns
returns c = rw (c.to_be_bytes-application.ensures, c.to_be_bytes-version.ensures, c.to_be_bytes-serial.ensures) at c.send.ensures
