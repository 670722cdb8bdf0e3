-- `message::from_module::write_remote` meets its contract: the array is the layout.
-- Assumes nothing.
use Rattle.std.proofs.Common.{sym, ◌∙◌}
use Rattle.message.proofs.WriteLaws.{plain_written}
use Rattle.message.proofs.from_module.write_remote.Goals as goal

pub returns : goal.returns
returns c =
    plain_written _ (sym c.is_plain.ensures ∙ c.in_ok-ensure.ensures.ok)
    (rw (c.to_be_bytes-serial.ensures, c.to_be_bytes-time.ensures, c.to_be_bytes-signals.ensures, c.to_be_bytes-mask.ensures, c.to_be_bytes-interrupts.ensures) at c.send.ensures)
