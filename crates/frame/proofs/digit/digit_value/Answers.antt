-- `frame::digit::digit_value` meets its contract: the two halves of a byte are small, and of a digit they make its value.
-- Assumes nothing.
use Rattle.std.proofs.Common.{refl, arith}
use Rattle.frame.proofs.DigitLaws.{digit_small, digit_halves}
use Rattle.frame.proofs.digit.digit_value.Goals as goal

pub returns-clause-value : goal.returns-clause-value
returns-clause-value c = refl

pub returns-clause-upper_bound : goal.returns-clause-upper_bound
returns-clause-upper_bound c = omega arith

pub returns-clause-digit : goal.returns-clause-digit
returns-clause-digit c = digit_halves c.args.c

pub returns-clause-digit_bound : goal.returns-clause-digit_bound
returns-clause-digit_bound c = λ d. omega (arith, digit_halves c.args.c d, digit_small c.args.c)
