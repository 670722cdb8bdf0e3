-- Each call of itself starts further on, so the measure is what is left of the slice.
use Rattle.std.proofs.Common.{◌-◌, length}
use Rattle.message.proofs.options.+read_options.Given as goal

abbrev pub decreases-read_options : goal.decreases-read_options
decreases-read_options l = length l.s.now - l.at
