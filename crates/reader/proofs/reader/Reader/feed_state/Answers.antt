-- `reader::reader::Reader::feed_state` meets its contract: an optional byte in front of the held bytes is dropped, and the call goes on from that state.
-- Assumes nothing.
use native.Mathlib.Omega.{arith}
use mathlib.Core.Path.{subst}
use borrow.Author.Rules.{rules}
use Rattle.reader.specs.Reader.{State, state_of}
use Rattle.reader.specs.Feeding.{LeavesHeld}
use Rattle.reader.proofs.Following.{past_leaves}
use Rattle.reader.proofs.Joining.{held_facts}
use Rattle.reader.proofs.reader.Reader.feed_state.Goals as goal

pub returns-then-limit_of-self : goal.returns-then-limit_of-self
returns-then-limit_of-self c =
    let size = (held_facts c.args.self.now c.requires.sound (search rules)).size in
    past_leaves (state_of c.args.self.now) c.args.chunk.now c.args.buf.now _ _ _ (omega (arith, size, c.if-self-eq0.false))
    (subst (λ (s : State). LeavesHeld s c.args.chunk.now c.args.buf.now c.feed_long.result c.feed_long.new.self c.feed_long.new.buf) c.drop_optional.ensures.state
    c.feed_long.ensures)

pub returns-else-limit_of-self : goal.returns-else-limit_of-self
returns-else-limit_of-self c =
    let size = (held_facts c.args.self.now c.requires.sound (search rules)).size in
    past_leaves (state_of c.args.self.now) c.args.chunk.now c.args.buf.now _ _ _ (omega (arith, size, c.if-self-eq0.false))
    (subst (λ (s : State). LeavesHeld s c.args.chunk.now c.args.buf.now c.feed_short.result c.feed_short.new.self c.feed_short.new.buf) c.drop_optional.ensures.state
    c.feed_short.ensures)
