-- `reader::reader::Reader::feed_chunk` meets its contract: the scan of the chunk gives the answer, and the kept part is held.
-- Assumes nothing.
use Prim.Native.Nat.{ℕ, ◌+◌, zero-le}
use native.Mathlib.Nat.{le_refl}
use native.Mathlib.Omega.{arith}
use mathlib.Core.Path.{ap, ◌∙◌}
use lib.ListN.{length}
use Rattle.frame.specs.Framing.{judge}
use Rattle.reader.specs.Scan.{scanned}
use Rattle.reader.proofs.Counting.{whole_most}
use Rattle.reader.proofs.Passing.{all_whole, all_judged}
use Rattle.reader.proofs.Readers.{answerable, chunk_leaves, leaves_total}
use Rattle.reader.proofs.reader.Reader.feed_chunk.Goals as goal

pub overflow_add-judged : goal.overflow_add-judged
overflow_add-judged c =
    let f = c.args.self.now.format in
    omega (
      arith,
      c.find-found.ensures.judged_value,
      all_judged f c.args.chunk.now c.args.settled.reach,
      whole_most f (judge f) c.args.chunk.now,
      c.requires.short,
      c.requires.few,
    )

pub answer-requires : goal.answer-requires
answer-requires c =
    let f = c.args.self.now.format in
    answerable f c.args.chunk.now (length c.args.chunk.now) c.args.settled.reach (scanned f c.args.chunk.now c.find-found.result) _
    (le_refl (length c.args.chunk.now)) c.requires.reached c.requires.near
    (c.find-found.ensures.result_value ∙ all_whole f c.args.chunk.now c.args.settled.reach) zero-le c.requires.small

pub returns : goal.returns
returns c =
    let f = c.args.self.now.format in
    leaves_total f _ _ _ c.args.buf.now _ _ _
    (ap (λ (n : ℕ). c.args.settled.judged + n) (c.find-found.ensures.judged_value ∙ all_judged f c.args.chunk.now c.args.settled.reach))
    (chunk_leaves f c.args.chunk.now c.args.settled.noise c.args.settled.reach (scanned f c.args.chunk.now c.find-found.result) _ c.answer.result c.args.buf.now _ _ _
    (c.find-found.ensures.result_value ∙ all_whole f c.args.chunk.now c.args.settled.reach) c.answer.ensures c.find-found.ensures.buf_after c.keep.ensures)
