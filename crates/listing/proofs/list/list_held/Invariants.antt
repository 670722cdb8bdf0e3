use Rattle.std.proofs.Common.{◌≡◌, [], length}
use Rattle.reader.specs.Reader.{state_of}
use Rattle.reader.specs.Drain.{rule_after}
use Rattle.listing.specs.Parts.{QuietGoesOn}
use Rattle.listing.proofs.list.list_held.Given as goal

abbrev pub invariant-loop-noise : goal.invariant-loop-noise
invariant-loop-noise l = (length l.buf ≡ 256) × QuietGoesOn l.initial.reader l.initial.listing l.reader l.listing

abbrev pub decreases-loop-noise : goal.decreases-loop-noise
decreases-loop-noise l = length (rule_after (state_of l.reader) []).frames
