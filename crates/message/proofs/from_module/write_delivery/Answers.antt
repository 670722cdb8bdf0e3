-- `message::from_module::write_delivery` meets its contract: an extended message is written by its call.
-- Assumes nothing.
use Rattle.message.proofs.from_module.write_delivery.Goals as goal

pub returns-in-Extended : goal.returns-in-Extended
returns-in-Extended c = rw c.in-Extended.is c.write_reception.ensures
