-- `frame::digit::digit_run` meets its contract: the count looks at the first 515 characters only.
-- Assumes nothing.
use Rattle.std.proofs.Common.{ℕ, take, ap, ◌∙◌}
use Rattle.frame.specs.DigitRuns.{digit_run}
use Rattle.frame.proofs.Words.{run_cut}
use Rattle.frame.proofs.digit.digit_run.Goals as goal

pub returns : goal.returns
returns c = c.front_run.ensures ∙ ap (λ (n : ℕ). digit_run 515 (take n c.args.s.now)) c.min.ensures ∙ run_cut 515 c.args.s.now
