-- `settings::list::value` meets its contract where the data are cut.
-- Assumes nothing.
use Rattle.std.proofs.Common.{rules}
use Rattle.settings.proofs.ListLaws.{cut}
use Rattle.settings.proofs.list.+identifier_value.Goals as goal

pub value-returns-in-None : goal.value-returns-in-None
value-returns-in-None t c = cut _ _ _ (search rules)
