-- One more byte of the pairs is copied, or the pairs have no further byte.
use Rattle.std.proofs.Common.{◌∙◌, arith}
use Rattle.console.specs.Hex.{pair_bytes}
use Rattle.console.proofs.Lists.{behind_is, front_next}
use Rattle.console.proofs.HexLaws.{pairs_next}
use Rattle.console.proofs.hex.hex_bytes.Goals as goal

pub loop-n-preserved : goal.loop-n-preserved
loop-n-preserved c =
    let l = c.loop-n in
    let pairs = pair_bytes c.args.pairs.now in
    let known = behind_is pairs l.n _ _ (l.invariant.1 ∙ pairs_next l.left.now (omega arith)) in
    let stored = front_next c.args.bytes.now pairs l.n _ (omega arith) known.0 known.1 in
    (omega arith, rw c.rest-left.ensures known.2, rw (c.digit_value.ensures.value, c.digit_value-in-loop-n.ensures.value, l.invariant.2) stored)
