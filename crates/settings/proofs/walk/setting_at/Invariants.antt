-- In the loop, what is looked for lies in the rest at `at`, behind as many settings as were passed.
use Rattle.settings.proofs.WalkLaws.{Walking}
use Rattle.settings.proofs.walk.setting_at.Given as goal

abbrev pub invariant-loop : goal.invariant-loop
invariant-loop l = Walking l.list l.index l.at l.counter
