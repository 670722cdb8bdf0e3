use Rattle.std.proofs.Common.{◌≡◌, length, drop}
use Rattle.reader.specs.Reader.{state_of}
use Rattle.reader.specs.Drain.{drain}
use Rattle.listing.specs.Parts.{HeldGoesOn}
use Rattle.listing.proofs.list.list_all.Given as goal

abbrev pub invariant-loop-reader : goal.invariant-loop-reader
invariant-loop-reader l = (length l.buf ≡ 256) × HeldGoesOn l.initial.reader l.chunk l.initial.listing l.reader l.done l.listing

abbrev pub decreases-loop-reader : goal.decreases-loop-reader
decreases-loop-reader l = length (drain (state_of l.reader) (drop l.done l.chunk)).out.frames
