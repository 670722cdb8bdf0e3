-- What the functions behind the public calls answer.
use Rattle.std.specs.Prelude.{ℕ, Option, Some, None}
use Rattle.message.specs.Options.{Opted, bad, opted}
use Rattle.message.specs.declared.options.Options.{Options}

-- The result that an answer stands for.
abbrev pub options_read : Option (Options × ℕ) → Opted
options_read (Some (o, end)) = opted o end
options_read None = bad
