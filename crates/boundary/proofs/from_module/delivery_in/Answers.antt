-- Computed, so that a field in another's place is a fact that fails.
use Rattle.std.proofs.Common.{refl}
use Rattle.boundary.proofs.from_module.delivery_in.Goals as goal

pub returns-in-2 : goal.returns-in-2
returns-in-2 c = simp c.in-2.is refl
