-- `frame::binary::folded` meets its contract: the two halves laid over each other have the same XOR of their bytes.
-- Assumes nothing.
use Rattle.frame.proofs.XorLaws.{xor_folded}
use Rattle.frame.proofs.binary.folded.Goals as goal

pub returns : goal.returns
returns c = xor_folded c.args.w
