-- `frame::hex::sum_of_two` meets its contract: each byte is at most 255.
-- Assumes nothing.
use Rattle.std.proofs.Common.{ap, arith}
use Rattle.frame.specs.Hex.{sum_of}
use Rattle.frame.proofs.HexLaws.{sum_most, sum_split}
use Rattle.frame.proofs.Lists.{take_rest}
use Rattle.frame.proofs.Words.{bytes_by}
use Rattle.frame.proofs.hex.sum_of_two.Goals as goal

pub overflow_add-result : goal.overflow_add-result
overflow_add-result c =
    let two = c.args.two.now in
    let most = sum_most two (bytes_by two (λ i. omega (arith, c.type_inv.two i))) in
    omega (arith, c.byte_sum.ensures, c.end_sum.ensures, ap sum_of (take_rest two c.args.from), sum_split 16 two, sum_split c.args.from two, most)
