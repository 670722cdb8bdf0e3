-- `frame::framing::Framing::format` meets its contract: each arm is the definition's case.
-- Assumes nothing.
use Rattle.std.proofs.Common.{sym, ap}
use Rattle.frame.specs.Framing.{format_of}
use Rattle.frame.proofs.framing.Framing.format.Goals as goal

pub returns-in-Binary : goal.returns-in-Binary
returns-in-Binary c = ap format_of (sym c.in-Binary.is)

pub returns-in-Ascii : goal.returns-in-Ascii
returns-in-Ascii c = ap format_of (sym c.in-Ascii.is)
