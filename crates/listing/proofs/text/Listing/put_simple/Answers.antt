use Rattle.listing.specs.Line.{simple_line}
use Rattle.listing.proofs.Texts.{puts_both}
use Rattle.listing.proofs.text.Listing.put_simple.Goals as goal

pub returns : goal.returns
unfolding simple_line
returns c = puts_both c.put.ensures (puts_both c.put_field.ensures (puts_both c.put_field-2.ensures c.put_data.ensures))
