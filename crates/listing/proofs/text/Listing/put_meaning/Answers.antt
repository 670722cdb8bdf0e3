-- `listing::text::Listing::put_meaning` meets its contract: what the payload means says which line it has, and that its data lie within it.
-- Assumes nothing.
use Rattle.listing.proofs.Fits.{start_inside, delivery_long, notice_long}
use Rattle.listing.proofs.text.Listing.put_meaning.Goals as goal

pub slice_bounds-data-count : goal.slice_bounds-data-count
slice_bounds-data-count c = start_inside c.args.payload.now (rw c.in-Ok-Delivery.field-0-is at c.in-Ok-Delivery.ensures)

pub slice_bounds-data-start : goal.slice_bounds-data-start
slice_bounds-data-start c = start_inside c.args.payload.now (rw c.in-Ok-Delivery.field-0-is at c.in-Ok-Delivery.ensures)

pub put_settings-requires-clause-in_bounds : goal.put_settings-requires-clause-in_bounds
put_settings-requires-clause-in_bounds c = delivery_long c.args.payload.now (rw c.in-Ok-Delivery.field-0-is at c.in-Ok-Delivery.ensures)

pub put_settings-requires-in-Setup-clause-in_bounds : goal.put_settings-requires-in-Setup-clause-in_bounds
put_settings-requires-in-Setup-clause-in_bounds c = notice_long c.args.payload.now (rw c.in-Ok-Notice.field-0-is at c.in-Ok-Notice.ensures)
