-- `reader::reader::put_behind` meets its contract: a single byte is stored, and more are copied.
-- Assumes nothing.
use native.Mathlib.Omega.{arith}
use mathlib.Core.Path.{refl}
use Rattle.frame.proofs.Copying.{copied_at}
use Rattle.reader.proofs.Parts.{pasted_one}
use Rattle.reader.proofs.reader.put_behind.Goals as goal

pub returns-then-chunk-eq1 : goal.returns-then-chunk-eq1
returns-then-chunk-eq1 c = pasted_one c.args.held.now c.args.chunk.now c.args.at c.if-chunk-eq1.true (omega arith)

pub returns : goal.returns
returns c = copied_at c.args.held.now c.args.chunk.now _ c.args.at _ refl c.copy.ensures.bytes
