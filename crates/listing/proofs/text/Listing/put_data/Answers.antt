-- `listing::text::Listing::put_data` meets its contract: of no data the field is ` -`.
-- Assumes nothing.
use Rattle.std.proofs.Common.{sym, ◌∙◌, eqb-true}
use Rattle.listing.proofs.Texts.{puts_none}
use Rattle.listing.proofs.text.Listing.put_data.Goals as goal

pub returns-then-is_empty : goal.returns-then-is_empty
returns-then-is_empty c = puts_none c.args.«data».now (eqb-true _ 0 (sym c.is_empty.ensures ∙ c.if-is_empty.true)) c.put.ensures
