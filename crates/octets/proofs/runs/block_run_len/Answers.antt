-- `octets::runs::block_run_len` meets its contract: all bytes of the blocks before one pass, and where that one does not, the count ends in it.
-- Assumes nothing.
use Rattle.std.proofs.Common.{◌*◌, ◌/◌, length, refl, arith}
use Rattle.octets.proofs.Prefix.{block_passes, prefix_most}
use Rattle.octets.proofs.runs.block_run_len.Goals as goal

pub returns-then-not-all_pass-clause-value : goal.returns-then-not-all_pass-clause-value
returns-then-not-all_pass-clause-value g c = λ p t.
    let passes = block_passes p c.args.s.now _ (length c.args.s.now / 16) c.loop-i.i (16 * c.loop-i.i) c.all_pass.result (omega arith) refl
    (c.loop-i.invariant p t) (rw c.as_chunks.ensures.front at (c.all_pass.ensures p t)) in
    omega (arith, c.loop-i.invariant p t, passes.1 c.if-not-all_pass.true)

pub loop-i-preserved : goal.loop-i-preserved
loop-i-preserved g c = λ p t.
    let passes = block_passes p c.args.s.now _ (length c.args.s.now / 16) c.loop-i.i (16 * c.loop-i.i) c.all_pass.result (omega arith) refl
    (c.loop-i.invariant p t) (rw c.as_chunks.ensures.front at (c.all_pass.ensures p t)) in
    omega (arith, passes.0 c.if-not-all_pass.false)

pub returns-clause-value : goal.returns-clause-value
returns-clause-value g c = λ p t. omega (arith, c.loop-i.invariant p t, prefix_most p c.args.s.now, c.as_chunks.ensures.front_len)
