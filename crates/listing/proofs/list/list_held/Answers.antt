-- `listing::list::list_held` meets its contract: what is listed so far, and what the calls from the present state on give, is all.
-- Assumes nothing.
use Rattle.std.proofs.Common.{refl, ◌∙◌}
use Rattle.listing.proofs.Steps.{quiet_starts, quiet_can_add, quiet_less, quiet_adds, quiet_can_count, quiet_lists}
use Rattle.listing.proofs.list.list_held.Goals as goal

pub loop-noise-init : goal.loop-noise-init
loop-noise-init c = (refl, quiet_starts c.args.reader.now c.args.listing.now c.requires)

pub frame-requires : goal.frame-requires
frame-requires c =
    quiet_can_add c.loop-noise.invariant.1 c.loop-noise.invariant.0 _ c.quiet-quieted.ensures c.in_ok-noise.was c.in-Frame.is c.requires

pub loop-noise-smaller : goal.loop-noise-smaller
loop-noise-smaller c = quiet_less c.loop-noise.invariant.1 c.loop-noise.invariant.0 _ c.quiet-quieted.ensures c.in_ok-noise.was c.in-Frame.is

pub loop-noise-preserved : goal.loop-noise-preserved
loop-noise-preserved c = (
  c.quiet-quieted.auto.buf ∙ c.loop-noise.invariant.0,
  quiet_adds c.loop-noise.invariant.1 c.loop-noise.invariant.0 _ c.quiet-quieted.ensures c.in_ok-noise.was c.in-Frame.is c.frame.ensures,
)

pub count-requires : goal.count-requires
count-requires c =
    quiet_can_count c.loop-noise.invariant.1 c.loop-noise.invariant.0 _ c.quiet-quieted.ensures c.in_ok-noise.was c.in-Empty.is c.requires

pub returns-in-Empty : goal.returns-in-Empty
returns-in-Empty c =
    quiet_lists c.loop-noise.invariant.1 c.loop-noise.invariant.0 _ c.quiet-quieted.ensures c.in_ok-noise.was c.in-Empty.is c.count.ensures
