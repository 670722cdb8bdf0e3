-- `listing::text::Listing::put_field` meets its contract: a space, and then the digits.
-- Assumes nothing.
use Rattle.listing.proofs.Texts.{puts_both}
use Rattle.listing.proofs.text.Listing.put_field.Goals as goal

pub returns : goal.returns
returns c = puts_both c.put.ensures c.put_hex.ensures
