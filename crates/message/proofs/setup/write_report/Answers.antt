-- `message::setup::write_report` meets its contract: the information is written by its call.
-- Assumes nothing.
use Rattle.message.proofs.setup.write_report.Goals as goal

pub returns-in-Information : goal.returns-in-Information
returns-in-Information c = rw c.in-Information.is c.write_information.ensures
