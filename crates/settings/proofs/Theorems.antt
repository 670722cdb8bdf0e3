-- The claims of specs/Claims.antt and the table of specs/Examples.antt, proved; a crate above this one names this module alone.
-- Assumes nothing.
use mathlib.Core.Path.{refl}
use Rattle.settings.specs.List.{is_list, list_from, width_of}
use Rattle.settings.specs.Claims.{TableIsRead, ListIsItsSettings, SettingsAreAList, FailureIsNoList}
use Rattle.settings.specs.Examples.{Examples}
use Rattle.settings.proofs.Values.{is_one_lem, of_list, inside, back, places}
use Rattle.settings.proofs.Examples as table

pub table_is_read : TableIsRead
unfolding width_of
table_is_read =
    record { once = (refl, (refl, (refl, (refl, (refl, (refl, (refl, (refl, (refl, (refl, (refl, (refl, (refl, tt))))))))))))); beside = refl; no_zero = refl }

pub list_is_its_settings : ListIsItsSettings
list_is_its_settings =
    record {
      inside = λ s e. let m = of_list s e in rw m.3 (inside m.0 m.1);
      places = λ s e. let m = of_list s e in rw m.3 (places m.0 m.1);
      known = λ s e. let m = of_list s e in rw (m.3, back m.0 m.1) m.1;
      distinct = λ s e. let m = of_list s e in rw (m.3, back m.0 m.1) m.2;
      whole = λ s e. let m = of_list s e in rw (m.3, back m.0 m.1);
    }

pub settings_are_a_list : SettingsAreAList
settings_are_a_list = record { is_one = is_one_lem; back = λ vs known d. back vs known }

pub failure_is_no_list : FailureIsNoList
unfolding is_list list_from width_of
failure_is_no_list = refl

pub examples : Examples
examples = table.examples
