use Rattle.std.proofs.Common.{ℕ, ◌*◌, ◌≤◌, Bool}
use Rattle.std.specs.List.{prefix_len}
use Rattle.octets.specs.Runs.{IsTest}
use Rattle.octets.proofs.runs.block_run_len.Given as goal

abbrev pub invariant-loop-i : goal.invariant-loop-i
invariant-loop-i g l = (p : ℕ → Bool) → IsTest (goal.F-post g l.passes) p → 16 * l.i ≤ prefix_len p l.s
