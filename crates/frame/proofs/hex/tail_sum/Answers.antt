-- `frame::hex::tail_sum` meets its contract: what is summed so far, with the sum of the bytes behind the pairs so far, is the whole sum.
-- Assumes nothing.
use Rattle.std.proofs.Common.{◌∙◌, ◌*◌, [], drop, ap, arith, length-drop}
use Rattle.frame.specs.Hex.{sum_of}
use Rattle.frame.proofs.HexLaws.{sum_pair, unhexed_short, unhexed_digits}
use Rattle.frame.proofs.hex.tail_sum.Goals as goal

pub loop-pair-preserved : goal.loop-pair-preserved
loop-pair-preserved c =
    let byte = rw c.as_chunks.ensures.front at c.byte_of.ensures.value in
    (omega arith, omega (arith, byte, sum_pair c.args.s.now [] c.loop-pair.pair-index (omega (arith, c.as_chunks.ensures.front_len))))

pub returns-clause-value : goal.returns-clause-value
returns-clause-value c =
    let at = 2 * c.loop-pair.pair-index in
    omega (arith, ap sum_of (unhexed_short (drop at c.args.s.now) (simp length-drop (omega (arith, c.as_chunks.ensures.front_len)))))

pub returns-clause-digits : goal.returns-clause-digits
returns-clause-digits c = λ d. returns-clause-value c ∙ ap sum_of (unhexed_digits c.args.s.now d)
