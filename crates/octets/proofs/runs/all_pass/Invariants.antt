use Rattle.std.proofs.Common.{ℕ, Bool}
use Rattle.octets.specs.Runs.{IsTest}
use Rattle.octets.proofs.Prefix.{Upto}
use Rattle.octets.proofs.runs.all_pass.Given as goal

abbrev pub invariant-loop-b : goal.invariant-loop-b
invariant-loop-b g l = (p : ℕ → Bool) → IsTest (goal.F-post g l.passes) p → Upto p l.block l.b-index l.all
