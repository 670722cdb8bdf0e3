-- `reader::view::View::feed_rest` meets its contract: an optional byte is passed over, and the rest of the chunk is a call without one.
-- Assumes nothing.
use Prim.Native.Nat.{◌-◌}
use native.Mathlib.Omega.{arith}
use mathlib.Core.Path.{◌≡◌, refl, sym, ap, ◌∙◌, subst}
use lib.ListN.{length, take, drop, length-drop}
use Rattle.frame.proofs.Lists.{take_rest}
use Rattle.reader.proofs.Views.{Inside, is_inside, waiting_views, Past, past_optional_lem, kept_views}
use Rattle.reader.proofs.Following.{few_taken}
use Rattle.reader.proofs.view.View.feed_rest.Goals as goal

pub returns-then-self-chunk : goal.returns-then-self-chunk
returns-then-self-chunk c =
    waiting_views c.args.self c.args.chunk.now c.args.buf.now _ (is_inside c.args.self (length c.args.chunk.now) c.requires.sound) c.if-self-chunk.true
    c.requires.room c.requires.short refl refl

pub took_first-requires-clause-answer_bound : goal.took_first-requires-clause-answer_bound
took_first-requires-clause-answer_bound c =
    let lies : Inside c.args.self (length c.args.chunk.now) = is_inside c.args.self (length c.args.chunk.now) c.requires.sound in
    let past : Past c.args.self c.args.chunk.now c.past_optional-at.result = let h = lies in
    subst (Past c.args.self c.args.chunk.now) (sym c.past_optional-at.ensures)
    (past_optional_lem c.args.self c.args.chunk.now h (omega (arith, h.onward, h.there, c.if-self-chunk.false))) in
    let rest-size : length (take (length c.args.chunk.now - c.past_optional-at.result.from) (drop c.past_optional-at.result.from c.args.chunk.now)) ≡ length c.args.chunk.now - c.past_optional-at.result.from = ap length (take_rest c.args.chunk.now c.past_optional-at.result.from) ∙ length-drop c.past_optional-at.result.from c.args.chunk.now in
    let w = take (length c.args.chunk.now - c.past_optional-at.result.from) (drop c.past_optional-at.result.from c.args.chunk.now) in
    let k = c.past_optional-at.result.end - c.past_optional-at.result.from in few_taken c.past_optional-at.result.format (take k w) (drop k w) _ c.feed_part-kept.result.answer c.feed_part-kept.ensures.values
    (omega (arith, length-drop k w, rest-size, c.requires.short))

pub returns : goal.returns
returns c =
    let lies : Inside c.args.self (length c.args.chunk.now) = is_inside c.args.self (length c.args.chunk.now) c.requires.sound in
    let past : Past c.args.self c.args.chunk.now c.past_optional-at.result = let h = lies in
    subst (Past c.args.self c.args.chunk.now) (sym c.past_optional-at.ensures)
    (past_optional_lem c.args.self c.args.chunk.now h (omega (arith, h.onward, h.there, c.if-self-chunk.false))) in
    kept_views c.args.self c.args.chunk.now _ c.args.buf.now _ c.past_optional-at.result c.feed_part-kept.result c.took_first.result _ (lies) (past) c.requires.room c.requires.short
    (take_rest c.args.chunk.now c.past_optional-at.result.from) c.feed_part-kept.ensures c.judged_held.ensures c.took_first.ensures
