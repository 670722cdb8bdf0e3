use Rattle.std.proofs.Common.{arith, ◌∙◌}
use Rattle.listing.proofs.Decimals.{decimal_is}
use Rattle.listing.proofs.text.Listing.put_decimal.Goals as goal

pub put-requires : goal.put-requires
put-requires c =
    let is = c.decimal-count.ensures.digits ∙ decimal_is c.decimal-count.result c.args.n c.decimal-count.ensures.len (omega arith) in
    rw is c.requires

pub returns : goal.returns
returns c =
    let is = c.decimal-count.ensures.digits ∙ decimal_is c.decimal-count.result c.args.n c.decimal-count.ensures.len (omega arith) in
    rw is at c.put.ensures
