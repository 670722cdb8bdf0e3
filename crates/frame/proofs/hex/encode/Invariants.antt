use Rattle.std.proofs.Common.{◌≡◌, length}
use Rattle.frame.proofs.HexLaws.{hexed}
use Rattle.frame.proofs.hex.encode.Given as goal

abbrev pub invariant-loop-i : goal.invariant-loop-i
invariant-loop-i l = (length l.dst ≡ length l.initial.dst) × (l.dst ≡ hexed l.initial.dst l.at l.src l.i)
