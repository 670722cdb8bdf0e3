use Rattle.std.proofs.Common.{◌≡◌, ◌+◌, ◌*◌, ◌≤◌, drop}
use Rattle.frame.specs.Hex.{sum_of}
use Rattle.frame.specs.Judged.{unhexed}
use Rattle.frame.proofs.hex.tail_sum.Given as goal

abbrev pub invariant-loop-pair : goal.invariant-loop-pair
invariant-loop-pair l = (l.sum ≤ 255 * l.pair-index) × (l.sum + sum_of (unhexed (drop (2 * l.pair-index) l.s)) ≡ sum_of (unhexed l.s))
