use Rattle.listing.specs.Line.{settings_line}
use Rattle.listing.proofs.Texts.{puts_both}
use Rattle.listing.proofs.Fits.{rest_is}
use Rattle.listing.proofs.text.Listing.put_settings.Goals as goal

pub returns : goal.returns
unfolding settings_line
returns c =
    puts_both c.put.ensures
    (puts_both c.put_field.ensures (rw (rest_is c.args.payload.now 2 c.requires.in_bounds) at c.put_data.ensures))
