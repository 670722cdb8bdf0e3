-- `frame::digit::word_run` meets its contract: what is computed of the 8 characters at once is computed of each in its own byte.
-- Assumes nothing.
use Rattle.std.proofs.Common.{◌∙◌, arith}
use lib.Bits.{bit_xor, and_le_r}
use Rattle.frame.proofs.Words.{bytes_by, word_digits, word_little_endian}
use Rattle.frame.proofs.digit.word_run.Goals as goal

pub overflow_add-ranges : goal.overflow_add-ranges
overflow_add-ranges c = omega (arith, and_le_r (bit_xor c.from_le_bytes-w.result 0x3030303030303030) 0x7F7F7F7F7F7F7F7F)

pub overflow_add-ranges-2 : goal.overflow_add-ranges-2
overflow_add-ranges-2 c = omega (arith, and_le_r (bit_xor c.from_le_bytes-w.result 0x3030303030303030) 0x7F7F7F7F7F7F7F7F)

pub overflow_add-ranges-3 : goal.overflow_add-ranges-3
overflow_add-ranges-3 c = omega (arith, and_le_r (bit_xor c.from_le_bytes-w.result 0x3030303030303030) 0x7F7F7F7F7F7F7F7F)

pub returns : goal.returns
returns c =
    word_digits c.args.chars.now c.from_le_bytes-w.result (omega arith) (bytes_by c.args.chars.now (λ i. omega arith))
    (c.from_le_bytes-w.ensures ∙ word_little_endian c.args.chars.now (omega arith))
