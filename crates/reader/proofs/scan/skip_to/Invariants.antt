use Rattle.reader.specs.Scan.{other, Skips}
use Rattle.reader.proofs.scan.skip_to.Given as goal

abbrev pub invariant-loop-place : goal.invariant-loop-place
invariant-loop-place l = Skips (other l.b) l.s l.from l.stop l.place
