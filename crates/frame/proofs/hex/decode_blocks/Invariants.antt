use Rattle.std.proofs.Common.{◌≡◌, ◌*◌, ◌++◌, length, take, drop}
use Rattle.frame.specs.Judged.{unhexed}
use Rattle.frame.proofs.hex.decode_blocks.Given as goal

abbrev pub invariant-loop-i : goal.invariant-loop-i
invariant-loop-i l = (length l.dst ≡ length l.initial.dst) × (l.dst ≡ take (16 * l.i) (unhexed l.src) ++ drop (16 * l.i) l.initial.dst)
