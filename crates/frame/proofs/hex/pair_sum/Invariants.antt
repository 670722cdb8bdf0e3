use Rattle.std.proofs.Common.{◌≡◌, ◌+◌, ◌*◌, ◌≤◌, drop}
use Rattle.frame.specs.Hex.{sum_of}
use Rattle.frame.specs.Judged.{unhexed}
use Rattle.frame.proofs.hex.pair_sum.Given as goal

abbrev pub invariant-loop-block : goal.invariant-loop-block
invariant-loop-block l = (l.sum ≤ 4080 * l.block-index) × (l.sum + sum_of (unhexed (drop (32 * l.block-index) l.s)) ≡ sum_of (unhexed l.s))
