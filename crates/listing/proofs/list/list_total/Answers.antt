-- `listing::list::list_total` meets its contract: a test finds whether there is room, and the line is written in three parts.
-- Assumes nothing.
use Rattle.std.proofs.Common.{arith, rules, ap}
use Rattle.listing.specs.Line.{noise_line}
use Rattle.listing.specs.declared.text.Lines.{Lines}
use Rattle.listing.proofs.Texts.{puts_both}
use Rattle.listing.proofs.Decimals.{decimal_few, total_lists}
use Rattle.listing.proofs.list.list_total.Goals as goal

pub put_decimal-requires : goal.put_decimal-requires
put_decimal-requires c = omega (arith, decimal_few c.args.noise)

pub put-requires-2 : goal.put-requires-2
put-requires-2 c = omega (arith, decimal_few c.args.noise)

pub returns : goal.returns
unfolding noise_line
returns c =
    let all = puts_both c.put.ensures (puts_both c.put_decimal.ensures c.put-2.ensures) in
    total_lists c.new-listing.ensures all.text c.if-out-lt-TOTAL_ROOM.false (λ e. search rules) (ap (λ (l : Lines). l.len) c.lines.ensures)
