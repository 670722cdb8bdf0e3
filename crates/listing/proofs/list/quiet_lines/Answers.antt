-- `listing::list::quiet_lines` meets its contract: what is listed from the front of the buffer on is what the call promises.
-- Assumes nothing.
use Rattle.std.proofs.Common.{arith, rules, refl, sym}
use Rattle.listing.proofs.Chunks.{front_lists}
use Rattle.listing.proofs.Steps.{can_quiet}
use Rattle.listing.proofs.list.quiet_lines.Goals as goal

pub list_held-requires : goal.list_held-requires
list_held-requires c = can_quiet c.new-listing.ensures c.in_ok-admits.ensures.accepted

pub returns : goal.returns
returns c =
    let all = c.in_ok-list_held.ensures in
    front_lists _ _ c.new-listing.ensures (sym c.in_ok-admits.ensures.number) all.text all.noise (omega (arith, all.judges)) all.state refl c.lines.ensures
    (λ e. search rules)
