-- `reader::scan::skip_to` meets its contract: the blocks without b are skipped, and then one byte at a time.
-- Assumes nothing.
use Prim.Native.Nat.{ℕ, ◌-◌, ◌*◌, ◌/◌}
use native.Mathlib.Omega.{arith}
use mathlib.Core.List.{List}
use mathlib.Core.Path.{◌≡◌}
use borrow.Author.Rules.{rules}
use lib.ListN.{take, drop, get_or}
use Rattle.std.specs.List.{prefix_len}
use Rattle.reader.specs.Scan.{other}
use Rattle.reader.proofs.Skipping.{other_byte}
use Rattle.reader.proofs.Runs.{run_skips, skips_one}
use Rattle.reader.proofs.scan.skip_to.Goals as goal

pub loop-place-init : goal.loop-place-init
loop-place-init c =
    let t : List ℕ = take (c.args.stop - c.args.from) (drop c.args.from c.args.s.now) in
    let blocks : c.block_run_len-blocks.result ≡ prefix_len (other c.args.b) t / 16 * 16 =
    c.block_run_len-blocks.ensures.value (other c.args.b) (λ b r l h. search rules) in
    run_skips (other c.args.b) c.args.s.now c.args.from c.args.stop _ c.requires.from_le_stop c.requires.stop_in_bounds (omega arith)

pub loop-place-preserved : goal.loop-place-preserved
loop-place-preserved c =
    skips_one (other c.args.b) c.args.s.now c.args.from c.args.stop c.loop-place.place c.loop-place.invariant c.loop-place-test.true
    (other_byte c.args.b (get_or c.args.s.now c.loop-place.place 0) c.if-s-place.false)
