-- `frame::binary::unpack` meets its contract: the payload is copied.
-- Assumes nothing.
use Rattle.std.proofs.Common.{ℕ, ◌+◌, ◌-◌, take, drop, ap, ◌∙◌}
use native.Mathlib.Nat.{add-sub_cancel_left}
use Rattle.frame.specs.Framing.{in_front}
use Rattle.frame.proofs.Copying.{copied}
use Rattle.frame.proofs.Lists.{paste_front}
use Rattle.frame.proofs.binary.unpack.Goals as goal

pub returns : goal.returns
returns c =
    let p = take (4 + c.args.len - 4) (drop 4 c.args.s.now) in
    copied c.args.buf.now p _ c.copy.ensures.bytes
    ∙ paste_front c.args.buf.now p
    ∙ ap (λ (k : ℕ). in_front (take k (drop 4 c.args.s.now)) c.args.buf.now) (add-sub_cancel_left 4 c.args.len)
