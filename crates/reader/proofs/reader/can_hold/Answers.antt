-- `reader::reader::can_hold` meets its contract: where the count is within the limit, the judged bytes decide.
-- Assumes nothing.
use Rattle.std.proofs.Common.{Bool, ◌&&◌, leb, sym, ap, arith}
use borrow.Author.Tests.{le-leb}
use Rattle.frame.specs.Framing.{limit}
use Rattle.reader.proofs.reader.can_hold.Goals as goal

pub returns-then-count-limit_of : goal.returns-then-count-limit_of
returns-then-count-limit_of c =
    ap (λ (b : Bool). b && leb c.args.judged c.args.count)
    (sym (le-leb c.args.count (limit c.args.format) (omega (arith, c.limit_of.ensures, c.if-count-limit_of.true))))
