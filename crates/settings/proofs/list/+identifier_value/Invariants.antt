-- The measure is twice the bytes left, and one more in `value`, which may pass all of them on.
use Rattle.std.proofs.Common.{◌+◌, length}
use Rattle.settings.proofs.list.+identifier_value.Given as goal

abbrev pub decreases-identifier : goal.decreases-identifier
decreases-identifier l = length l.rest.now + length l.rest.now

abbrev pub decreases-value : goal.decreases-value
decreases-value l = length l.rest.now + length l.rest.now + 1
