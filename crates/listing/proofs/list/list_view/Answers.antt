-- `listing::list::list_view` meets its contract: what is listed so far, and what the calls from the present view on give, is all.
-- Assumes nothing.
use Rattle.std.proofs.Common.{◌∙◌}
use Rattle.io.proofs.Counting.{length-take_of_le}
use Rattle.listing.proofs.Steps.{view_starts, view_inside, view_can_add, view_less, view_adds, view_never, view_can_count, view_lists}
use Rattle.listing.proofs.list.list_view.Goals as goal

pub loop-noise-init : goal.loop-noise-init
loop-noise-init c = (c.requires.full, view_starts c.args.view c.args.chunk.now c.args.listing.now c.requires.can)

pub slice_bounds-frame-end : goal.slice_bounds-frame-end
slice_bounds-frame-end c =
    view_inside c.requires.can c.loop-noise.invariant.1 c.loop-noise.invariant.0 _ c.feed-fed.ensures c.in_ok-noise.was c.in-Frame.is

pub slice_bounds-frame-end-in-Frame : goal.slice_bounds-frame-end-in-Frame
slice_bounds-frame-end-in-Frame c =
    length-take_of_le _ _
    (view_inside c.requires.can c.loop-noise.invariant.1 c.loop-noise.invariant.0 _ c.feed-fed.ensures c.in_ok-noise.was c.in-Frame.is)

pub frame-requires : goal.frame-requires
frame-requires c = view_can_add c.requires.can c.loop-noise.invariant.1 c.loop-noise.invariant.0 _ c.feed-fed.ensures c.in_ok-noise.was c.in-Frame.is

pub loop-noise-smaller : goal.loop-noise-smaller
loop-noise-smaller c = view_less c.requires.can c.loop-noise.invariant.1 c.loop-noise.invariant.0 _ c.feed-fed.ensures c.in_ok-noise.was c.in-Frame.is

pub loop-noise-preserved : goal.loop-noise-preserved
loop-noise-preserved c = (
  c.feed-fed.auto.buf ∙ c.loop-noise.invariant.0,
  view_adds c.requires.can c.loop-noise.invariant.1 c.loop-noise.invariant.0 _ c.feed-fed.ensures c.in_ok-noise.was c.in-Frame.is c.frame.ensures,
)

pub returns-in_err-noise : goal.returns-in_err-noise
returns-in_err-noise c = absurd (view_never c.requires.can c.loop-noise.invariant.1 c.loop-noise.invariant.0 _ c.feed-fed.ensures c.in_err-noise.was)

pub count-requires : goal.count-requires
count-requires c = view_can_count c.requires.can c.loop-noise.invariant.1 c.loop-noise.invariant.0 _ c.feed-fed.ensures c.in_ok-noise.was c.in-NeedsMore.is

pub returns-in-NeedsMore : goal.returns-in-NeedsMore
returns-in-NeedsMore c r t =
    view_lists c.requires.can c.loop-noise.invariant.1 c.loop-noise.invariant.0 _ c.feed-fed.ensures c.in_ok-noise.was c.in-NeedsMore.is t c.count.ensures
