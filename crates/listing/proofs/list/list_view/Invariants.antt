use Rattle.std.proofs.Common.{◌≡◌, length, drop}
use Rattle.reader.specs.View.{viewed}
use Rattle.reader.specs.Drain.{drain}
use Rattle.listing.specs.Parts.{ViewGoesOn}
use Rattle.listing.proofs.list.list_view.Given as goal

abbrev pub invariant-loop-noise : goal.invariant-loop-noise
invariant-loop-noise l = (length l.buf ≡ 256) × ViewGoesOn l.initial.view l.chunk l.initial.listing l.view l.listing

abbrev pub decreases-loop-noise : goal.decreases-loop-noise
decreases-loop-noise l = length (drain (viewed l.view l.chunk) (drop l.view.end l.chunk)).out.frames
