-- Good frames behind damage, by any list of calls.
-- Assumes nothing.
use mathlib.Core.Path.{ap, ◌∙◌}
use mathlib.Core.List.{◌++◌, flatten}
use Rattle.frame.specs.Rule.{payloads}
use Rattle.reader.specs.Recovery.{AsciiCallsRecover, BinaryCallsRecover, CleanCalls}
use Rattle.frame.specs.declared.framing.Footer.{Footer}
use Rattle.frame.specs.declared.framing.Ending.{Ending}
use Rattle.frame.specs.declared.framing.Format.{Format}
use Rattle.frame.specs.declared.framing.Format.TheVariants.{Binary, Ascii}
use Rattle.reader.proofs.Calling.{calls_follow_rule}
use Rattle.reader.proofs.Stretches.{clean_line}
use Rattle.reader.proofs.AsciiRecovery.{ascii_recovers}
use Rattle.reader.proofs.BinaryRecovery.{binary_recovers, late_clear}

-- In ASCII framing: what the damage alone gives, then every good frame's payload.
pub ascii_calls_recover : (ending : Ending) → AsciiCallsRecover ending
ascii_calls_recover ending damage gs out st calls =
    calls_follow_rule (Ascii ending) (damage ++ flatten gs) out calls ∙ ap payloads (ascii_recovers ending damage gs st)

-- In binary framing: the frames that begin in the damage, then the good ones clear of them.
pub binary_calls_recover : (footer : Footer) → BinaryCallsRecover footer
binary_calls_recover footer damage gs out st pairs calls =
    let r = binary_recovers footer damage gs st pairs in
    record {
      found = r;
      given = calls_follow_rule (Binary footer) (damage ++ flatten gs) out calls;
      late = λ x m l. late_clear footer damage gs r x m l;
    }

-- With no damage, in any format: every good frame's payload.
pub clean_calls : (f : Format) → CleanCalls f
clean_calls f gs out st calls = calls_follow_rule f (flatten gs) out calls ∙ ap payloads (clean_line f gs st)
