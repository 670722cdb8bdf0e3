-- What a settings list has at an index, as it crosses the boundary.
use Rattle.settings.specs.Walk.{Finding}
use Rattle.boundary.specs.declared.setting.FlatSetting.{FlatSetting}

-- The numbers of what the settings crate finds there.
abbrev pub flat_setting : Finding → FlatSetting
flat_setting f =
    record {
      refusal = f.number;
      is_found = f.is_found;
      identifier = f.setting.identifier;
      start = f.setting.start;
      len = f.setting.len;
    }
