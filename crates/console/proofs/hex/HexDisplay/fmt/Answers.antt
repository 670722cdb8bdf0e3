-- The digits of one more byte are written.
use Rattle.std.proofs.Common.{rules, arith}
use Rattle.std.proofs.Output.{has_written_append, has_written_of_eq}
use Rattle.console.proofs.HexLaws.{hex_next}
use Rattle.console.proofs.hex.HexDisplay.fmt.Goals as goal

pub loop-b-preserved : goal.loop-b-preserved
loop-b-preserved g c p =
    has_written_of_eq _ _ _ _ _ (hex_next c.args.self.now.0.now c.loop-b.b-index (omega arith))
    (has_written_append _ _ _ _ _ _ (c.loop-b.invariant p) (search rules))
