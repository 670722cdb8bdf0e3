-- The table of specs/Examples.antt holds, by computation.
-- Assumes nothing.
use mathlib.Core.Path.{refl}
use mathlib.Core.List.{flatten}
use Rattle.settings.specs.List.{width_of, list_from, is_list}
use Rattle.settings.specs.Walk.{settings_from, settings_of}
use Rattle.settings.specs.Examples.{Examples}

pub examples : Examples
unfolding flatten width_of list_from is_list settings_from settings_of
examples = refl
