-- `vectors::text_bytes` meets its contract: its bytes are those that were put last.
-- Assumes nothing.
use Rattle.vectors.proofs.text_bytes.Goals as goal

pub returns : goal.returns
returns c = c.append.ensures.prefix_len
