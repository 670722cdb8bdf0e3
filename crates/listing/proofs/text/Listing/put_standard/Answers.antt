use Rattle.listing.specs.Line.{standard_line}
use Rattle.listing.proofs.Texts.{puts_both}
use Rattle.listing.proofs.text.Listing.put_standard.Goals as goal

pub returns : goal.returns
unfolding standard_line
returns c =
    puts_both c.put.ensures
    (puts_both c.put_field.ensures
    (puts_both (rw c.to_be_bytes.ensures at c.put_field-2.ensures)
    (puts_both c.put_field-3.ensures (puts_both (rw c.to_be_bytes-2.ensures at c.put_field-4.ensures) c.put_field-5.ensures))))
