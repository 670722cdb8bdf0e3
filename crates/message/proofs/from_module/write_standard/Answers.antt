-- `message::from_module::write_standard` meets its contract: the array is the layout.
-- Assumes nothing.
use Rattle.std.proofs.Common.{sym, ◌∙◌}
use Rattle.message.proofs.WriteLaws.{plain_written}
use Rattle.message.proofs.from_module.write_standard.Goals as goal

pub returns : goal.returns
returns c =
    plain_written _ (sym c.is_plain.ensures ∙ c.in_ok-ensure.ensures.ok)
    (rw (c.to_be_bytes-serial.ensures, c.to_be_bytes-time.ensures, c.to_be_bytes-supply.ensures) at c.send.ensures)
