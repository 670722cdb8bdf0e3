-- `settings::walk::setting_at` meets its contract.
-- Assumes nothing.
use Rattle.std.proofs.Common.{sym, rules, ◌∙◌}
use Rattle.settings.proofs.WalkLaws.{start, none_is, onward}
use Rattle.settings.proofs.walk.setting_at.Goals as goal

pub loop-init : goal.loop-init
loop-init c = start _ _ (sym c.is_list.ensures ∙ c.if-not-is_list.false)

pub returns-in_default : goal.returns-in_default
returns-in_default c = none_is _ _ _ _ c.loop.invariant c.loop.auto.counter-end (sym c.in_default.is ∙ c.setting_from.ensures)

pub loop-preserved : goal.loop-preserved
loop-preserved c = onward _ _ _ _ _ c.loop.invariant (sym c.in-Some.is ∙ c.setting_from.ensures)

pub overflow_add-at : goal.overflow_add-at
overflow_add-at c = search (rules, (loop-preserved c).inside)
