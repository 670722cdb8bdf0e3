-- The number is that of the digits passed, continued by what is left, and it has at most six digits.
use Rattle.std.proofs.Common.{◌≡◌, ◌<◌, drop}
use Rattle.console.specs.Text.{number_from}
use Rattle.console.proofs.text.number.Given as goal

abbrev pub invariant-loop-c : goal.invariant-loop-c
invariant-loop-c l = (l.value < 1000000) × (number_from 0 l.s ≡ number_from l.value (drop l.c-index l.s))
