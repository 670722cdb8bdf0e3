use Prim.Native.Nat.{◌-◌}
use Rattle.reader.proofs.Passing.{Come}
use Rattle.reader.proofs.scan.scan.Given as goal

abbrev pub invariant-loop-at : goal.invariant-loop-at
invariant-loop-at l = Come l.format l.places l.s l.at

abbrev pub decreases-loop-at : goal.decreases-loop-at
decreases-loop-at l = l.places.stop - l.at.place
