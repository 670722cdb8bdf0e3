-- `frame::ascii::unpack` meets its contract: the bytes are computed of the characters, and are those that digits stand for.
-- Assumes nothing.
use Rattle.std.proofs.Common.{ℕ, ◌+◌, ◌-◌, ◌*◌, List, take, drop, ap, ◌∙◌, arith, length-take}
use native.Mathlib.Nat.{add-sub_cancel_left}
use Rattle.frame.specs.Framing.{in_front}
use Rattle.frame.specs.Judged.{unhexed}
use Rattle.frame.proofs.HexLaws.{unhexed_digits}
use Rattle.frame.proofs.ascii.unpack.Goals as goal

pub decode-requires : goal.decode-requires
decode-requires c = omega (arith, length-take (1 + 2 * c.args.len - 1) (drop 1 c.args.s.now))

pub returns : goal.returns
returns c =
    let s = c.args.s.now in
    let value =
    c.decode.ensures.value
    ∙ ap (λ (k : ℕ). in_front (unhexed (take k (drop 1 s))) c.args.buf.now) (add-sub_cancel_left 1 (2 * c.args.len))
    in
    record { value = value; digits = λ d. value ∙ ap (λ (l : List ℕ). in_front l c.args.buf.now) (unhexed_digits _ d) }
