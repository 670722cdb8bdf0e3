-- `frame::hex::decode_bytes` meets its contract: dst begins with the bytes before the pair, and is else as it came.
-- Assumes nothing.
use Rattle.std.proofs.Common.{◌≡◌, ◌∙◌, ap, arith, List, ℕ, length, length-set}
use lib.Seq.{take-length}
use Rattle.frame.specs.Framing.{in_front}
use Rattle.frame.specs.Judged.{unhexed}
use Rattle.frame.proofs.Lists.{wrote_next}
use Rattle.frame.proofs.HexLaws.{unhexed_pair, length_unhexed, unhexed_digits}
use Rattle.frame.proofs.hex.decode_bytes.Goals as goal

pub loop-i-preserved : goal.loop-i-preserved
loop-i-preserved c =
    let s = unhexed c.args.src.now in
    let byte = rw c.as_chunks.ensures.front at c.byte_of.ensures.value in
    let size = length_unhexed c.args.src.now in
    let there = c.as_chunks.ensures.front_len in
    (simp length-set (omega arith), cc (byte ∙ unhexed_pair c.args.src.now _ c.loop-i.i (omega arith), wrote_next s c.args.dst.now c.loop-i.i (omega arith) (omega arith)))

pub returns-clause-value : goal.returns-clause-value
returns-clause-value c =
    let s = unhexed c.args.src.now in
    let all : c.loop-i.i ≡ length s = omega (arith, length_unhexed c.args.src.now, c.as_chunks.ensures.front_len) in
    cc (c.loop-i.invariant.1, take-length s)

pub returns-clause-digits : goal.returns-clause-digits
returns-clause-digits c = λ d. returns-clause-value c ∙ ap (λ (l : List ℕ). in_front l c.args.dst.now) (unhexed_digits c.args.src.now d)
