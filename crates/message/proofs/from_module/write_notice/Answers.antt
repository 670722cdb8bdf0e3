-- `message::from_module::write_notice` meets its contract: a standard status is written by its call.
-- Assumes nothing.
use Rattle.message.proofs.from_module.write_notice.Goals as goal

pub returns-in-Standard : goal.returns-in-Standard
returns-in-Standard c = rw c.in-Standard.is c.write_standard.ensures
