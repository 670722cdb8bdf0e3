use Rattle.listing.specs.Line.{response_line}
use Rattle.listing.proofs.Texts.{puts_both}
use Rattle.listing.proofs.text.Listing.put_response.Goals as goal

pub returns-in-Failure : goal.returns-in-Failure
unfolding response_line
returns-in-Failure c = puts_both c.put.ensures (puts_both c.put_field.ensures (rw c.in-Failure.is c.put-in-Failure.ensures))

pub returns-in-Success : goal.returns-in-Success
unfolding response_line
returns-in-Success c = puts_both c.put.ensures (puts_both c.put_field.ensures (rw c.in-Success.is c.put-in-Success.ensures))
