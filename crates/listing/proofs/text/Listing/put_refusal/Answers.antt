use Rattle.listing.specs.Line.{refusal_line}
use Rattle.listing.proofs.Texts.{puts_both}
use Rattle.listing.proofs.text.Listing.put_refusal.Goals as goal

pub returns : goal.returns
unfolding refusal_line
returns c = puts_both c.put.ensures (rw (c.from.ensures, c.number.ensures) at c.put_decimal.ensures)
