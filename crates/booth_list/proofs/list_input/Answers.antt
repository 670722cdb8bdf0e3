-- `booth_list::list_input` is safe and ends: a chunk has little noise, and its listing leaves the buffer's length.
-- Assumes nothing.
use Rattle.std.proofs.Common.{◌∙◌, arith}
use Rattle.listing.proofs.Theorems.{chunk_is_small}
use Rattle.booth_list.proofs.list_input.Goals as goal

pub overflow_add-noise : goal.overflow_add-noise
overflow_add-noise g c =
    let small = chunk_is_small c.loop.reader _ c.loop.out c.list_chunk-listed.result _ c.list_chunk-listed.ensures in
    omega (arith, c.in_ok-noise.ensures, small.2, c.loop.invariant.2)

pub loop-preserved : goal.loop-preserved
loop-preserved g c =
    let small = chunk_is_small c.loop.reader _ c.loop.out c.list_chunk-listed.result _ c.list_chunk-listed.ensures in (
      c.read.auto.buf ∙ c.loop.invariant.0,
      small.1 ∙ c.loop.invariant.1,
      omega (arith, c.in_ok-noise.ensures, small.2, c.loop.invariant.2),
    )
