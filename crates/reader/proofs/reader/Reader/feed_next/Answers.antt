-- `reader::reader::Reader::feed_next` meets its contract: the optional byte is taken first, and the chunk's rest is fed.
-- Assumes nothing.
use native.Mathlib.Omega.{arith}
use mathlib.Core.Path.{◌≡◌, sym, ap, ◌∙◌}
use borrow.Author.Tests.{eqb-true, eqb-false}
use lib.ListN.{length, length-drop}
use Rattle.frame.proofs.Lists.{take_rest}
use Rattle.reader.proofs.Refusals.{fits_count}
use Rattle.reader.proofs.Following.{chunk_taken, next_empty, next_leaves}
use Rattle.reader.proofs.reader.Reader.feed_next.Goals as goal

pub returns-then-is_empty : goal.returns-then-is_empty
returns-then-is_empty c =
    let empty : length c.args.chunk.now ≡ 0 = eqb-true _ 0 (sym c.is_empty.ensures ∙ c.if-is_empty.true) in
    let known = (fits_count c.args.self.now c.requires.ready.sound).1 in
    next_empty c.args.self.now c.requires.none_held (omega (arith, known, c.requires.none_held)) c.args.chunk.now c.args.buf.now empty

pub took_first-requires-clause-answer_bound : goal.took_first-requires-clause-answer_bound
took_first-requires-clause-answer_bound c =
    let rest = take_rest c.args.chunk.now c.absorbed-first.result in
    chunk_taken c.args.self.now.format _ _ c.feed_chunk.result c.feed_chunk.ensures.values
    (omega (arith, ap length rest, length-drop c.absorbed-first.result c.args.chunk.now, c.requires.ready.short))

pub returns : goal.returns
returns c =
    let some = eqb-false _ 0 (sym c.is_empty.ensures ∙ c.if-is_empty.false) in
    let known = (fits_count c.args.self.now c.requires.ready.sound).1 in
    next_leaves c.args.self.now c.requires.none_held (omega (arith, known, c.requires.none_held)) c.args.chunk.now c.args.buf.now _ c.absorbed-first.result
    c.feed_chunk.result c.took_first.result c.feed_chunk.new.self c.feed_chunk.new.buf (omega (arith, some)) c.absorbed-first.ensures
    (take_rest c.args.chunk.now c.absorbed-first.result) c.feed_chunk.ensures c.took_first.ensures
