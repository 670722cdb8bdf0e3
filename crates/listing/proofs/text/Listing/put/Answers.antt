-- `listing::text::Listing::put` meets its contract: the text is copied behind what is written.
-- Assumes nothing.
use Rattle.std.proofs.Common.{arith, rules}
use Rattle.std.proofs.lemmas.Grind.{common_steps}
use Rattle.listing.proofs.Texts.{puts_copy}
use Rattle.listing.proofs.text.Listing.put.Goals as goal

pub returns : goal.returns
returns c = puts_copy c.requires (search rules) (grind (arith, common_steps)) (search rules) (search rules) (search rules)
