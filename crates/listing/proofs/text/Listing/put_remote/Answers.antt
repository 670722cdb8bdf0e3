use Rattle.listing.specs.Line.{remote_line}
use Rattle.listing.proofs.Texts.{puts_both}
use Rattle.listing.proofs.text.Listing.put_remote.Goals as goal

pub returns : goal.returns
unfolding remote_line
returns c =
    puts_both c.put.ensures
    (puts_both c.put_field.ensures
    (puts_both (rw c.to_be_bytes.ensures at c.put_field-2.ensures)
    (puts_both c.put_field-3.ensures (rw c.to_be_bytes-2.ensures at c.put_field-4.ensures))))
