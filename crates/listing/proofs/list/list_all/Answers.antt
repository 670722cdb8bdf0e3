-- `listing::list::list_all` meets its contract: what is listed so far, and what the calls from the present state on give, is all.
-- Assumes nothing.
use Rattle.std.proofs.Common.{arith, refl, ◌∙◌}
use Rattle.listing.proofs.Steps.{held_starts, held_can_add, held_taken, held_less, held_adds, held_can_count, held_lists, held_view, held_all}
use Rattle.listing.proofs.list.list_all.Goals as goal

pub loop-reader-init : goal.loop-reader-init
loop-reader-init c = (refl, held_starts c.args.reader.now c.args.chunk.now c.args.listing.now c.requires)

pub frame-requires : goal.frame-requires
frame-requires c = held_can_add c.requires c.loop-reader.invariant.1 c.loop-reader.invariant.0 _ c.feed.ensures c.in_ok-taken.was c.in-Frame.is

pub overflow_add-done : goal.overflow_add-done
overflow_add-done c =
    omega (
      arith,
      held_taken c.requires c.loop-reader.invariant.1 c.loop-reader.invariant.0 _ c.feed.ensures c.in_ok-taken.was c.in-Frame.is,
      c.requires.small,
    )

pub loop-reader-smaller : goal.loop-reader-smaller
loop-reader-smaller c = held_less c.requires c.loop-reader.invariant.1 c.loop-reader.invariant.0 _ c.feed.ensures c.in_ok-taken.was c.in-Frame.is

pub loop-reader-preserved : goal.loop-reader-preserved
loop-reader-preserved c = (
  c.feed.auto.buf ∙ c.loop-reader.invariant.0,
  held_adds c.requires c.loop-reader.invariant.1 c.loop-reader.invariant.0 _ c.feed.ensures c.in_ok-taken.was c.in-Frame.is c.frame.ensures,
)

pub count-requires : goal.count-requires
count-requires c = held_can_count c.requires c.loop-reader.invariant.1 c.loop-reader.invariant.0 _ c.feed.ensures c.in_ok-taken.was c.in-NeedsMore.is

pub returns-in-NeedsMore : goal.returns-in-NeedsMore
returns-in-NeedsMore c r e =
    rw e (held_lists c.requires c.loop-reader.invariant.1 c.loop-reader.invariant.0 _ c.feed.ensures c.in_ok-taken.was c.in-NeedsMore.is c.count.ensures)

pub list_view-requires-clause-can : goal.list_view-requires-clause-can
list_view-requires-clause-can c = held_view c.requires c.loop-reader.invariant.1 c.loop-reader-test.false

pub returns : goal.returns
returns c r t = held_all c.requires c.loop-reader.invariant.1 c.loop-reader-test.false r (c.in_ok-list_view.ensures r t)
