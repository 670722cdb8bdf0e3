-- `settings::list::Seen::insert` meets its contract: the mark that is set is the identifier's.
-- Assumes nothing.
use Rattle.std.proofs.Common.{ℕ, true, set, ap}
use Rattle.settings.proofs.list.Seen.insert.Goals as goal

pub returns-clause-marks : goal.returns-clause-marks
returns-clause-marks c = ap (λ (p : ℕ). set c.args.self.now.marks p true) c.place_of-place.ensures.value
