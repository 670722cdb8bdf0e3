-- `listing::list::chunk_lines` meets its contract: what is listed from the front of the buffer on is what the call promises.
-- Assumes nothing.
use Rattle.std.proofs.Common.{arith, rules, sym}
use Rattle.listing.proofs.Chunks.{front_lists}
use Rattle.listing.proofs.Steps.{can_chunk}
use Rattle.listing.proofs.list.chunk_lines.Goals as goal

pub list_all-requires : goal.list_all-requires
list_all-requires c = can_chunk c.requires c.new-listing.ensures c.in_ok-admits.ensures.accepted

pub returns : goal.returns
returns c listed follows =
    let all = c.in_ok-left.ensures listed.reader follows.0 in
    front_lists _ listed c.new-listing.ensures (sym c.in_ok-admits.ensures.number) all.text all.noise (omega (arith, all.judges)) all.state follows.1
    c.lines.ensures (λ e. search rules)
