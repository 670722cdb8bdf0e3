-- `listing::list::list_chunk` meets its contract: the reader that is handed out is the view's, or the one that the calls left.
-- Assumes nothing.
use Rattle.std.proofs.Common.{refl}
use Rattle.listing.proofs.list.list_chunk.Goals as goal

pub returns-in-Ok-Some-default : goal.returns-in-Ok-Some-default
returns-in-Ok-Some-default c =
    (rw c.in-Ok-Some-default.field-0-0-is at c.in-Ok-Some-default.ensures) _ (c.by_view.ensures.reader, c.by_view.ensures.answer)

pub returns-in-Ok-None-default : goal.returns-in-Ok-None-default
returns-in-Ok-None-default c = (rw c.in-Ok-None-default.field-0-0-is at c.in-Ok-None-default.ensures) _ (refl, refl)
