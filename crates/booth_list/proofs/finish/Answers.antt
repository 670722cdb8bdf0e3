-- `booth_list::finish` is safe: the total fits.
-- Assumes nothing.
use Rattle.std.proofs.Common.{arith}
use Rattle.listing.proofs.Theorems.{quiet_is_small}
use Rattle.booth_list.proofs.finish.Goals as goal

pub overflow_add-noise : goal.overflow_add-noise
overflow_add-noise g c =
    let small = quiet_is_small c.args.reader c.args.out.now c.list_quiet-listed.result _ c.list_quiet-listed.ensures in
    omega (arith, c.in_ok-noise.ensures, small.2)
