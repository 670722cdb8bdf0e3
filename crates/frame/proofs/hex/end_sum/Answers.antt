-- `frame::hex::end_sum` meets its contract: the two parts are all bytes, and each byte is at most 255.
-- Assumes nothing.
use Rattle.std.proofs.Common.{◌-◌, length, ap, arith}
use Rattle.frame.specs.Hex.{sum_of}
use Rattle.frame.proofs.HexLaws.{sum_most, sum_split}
use Rattle.frame.proofs.Words.{bytes_by}
use Rattle.frame.proofs.hex.end_sum.Goals as goal

pub returns-in-Some : goal.returns-in-Some
returns-in-Some c =
    let (front, last, size) = c.in-Some.ensures.cases in
    omega (arith, c.byte_sum.ensures, c.byte_sum-in-Some.ensures, ap sum_of front, ap sum_of last, sum_split (length c.args.s.now - 8) c.args.s.now)

pub overflow_add-result : goal.overflow_add-result
overflow_add-result c = omega (arith, returns-in-Some c, sum_most c.args.s.now (bytes_by c.args.s.now (λ i. omega (arith, c.type_inv.s i))))
