-- `frame::digit::is_digit` meets its contract: its tests are those of the definition.
-- Assumes nothing.
use Rattle.std.proofs.Common.{refl}
use Rattle.frame.specs.Digit.{is_digit}
use Rattle.frame.proofs.digit.is_digit.Goals as goal

pub returns : goal.returns
unfolding is_digit
returns c = refl
