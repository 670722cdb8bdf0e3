-- `frame::hex::decode_blocks` meets its contract: dst begins with the bytes of the blocks so far, and is else as it came.
-- Assumes nothing.
use Rattle.std.proofs.Common.{◌≡◌, ℕ, ◌+◌, ◌-◌, ◌*◌, ◌/◌, ◌≤◌, [], List, ◌++◌, length, take, drop, refl, ap, ap₂, ◌∙◌, arith, length-take-le}
use lib.Seq.{paste, take-length}
use Rattle.frame.specs.Framing.{in_front}
use Rattle.frame.specs.Judged.{unhexed}
use Rattle.frame.proofs.Copying.{copied_at}
use Rattle.frame.proofs.HexLaws.{block_over, front_block, length_unhexed, unhexed_digits}
use Rattle.frame.proofs.hex.decode_blocks.Goals as goal

pub loop-i-preserved : goal.loop-i-preserved
loop-i-preserved c =
    let s = c.args.src.now in
    let i = 16 * c.loop-i.i in
    let b = c.decode_block.result in
    let next : i + 16 ≡ 16 * (c.loop-i.i + 1) = omega arith in
    let front : 2 * (length s / 2) - 1 ≤ length s = omega arith in
    let blocks = length-take-le (2 * (length s / 2) - 1) s front in
    let block : b ≡ unhexed (take 32 (drop (2 * i) s)) =
    rw c.as_chunks.ensures.front at c.decode_block.ensures.value ∙ ap unhexed (front_block (2 * (length s / 2) - 1) c.loop-i.i s [] front (omega (arith, c.as_chunks.ensures.front_len)))
    in
    let there : i + 16 ≤ length s / 2 = omega (arith, c.as_chunks.ensures.front_len) in (
      omega (arith, c.copy.auto.to),
      copied_at c.loop-i.dst b _ i _ refl c.copy.ensures.bytes
          ∙ ap (λ (d : List ℕ). paste d i b (length b)) c.loop-i.invariant.1
          ∙ block_over s c.args.dst.now b i i block (omega arith) (omega arith) there
          ∙ ap (λ (k : ℕ). take k (unhexed s) ++ drop k c.args.dst.now) next,
    )

pub returns-clause-value : goal.returns-clause-value
returns-clause-value c =
    let s = c.args.src.now in
    let last = length s / 2 - 16 in
    let b = c.decode_block-2.result in
    let width : 2 * (length s / 2) - (2 * (length s / 2) - 32) ≡ 32 = omega arith in
    let start : 2 * (length s / 2) - 32 ≡ 2 * last = omega arith in
    let blocks = length-take-le (2 * (length s / 2) - 1) s (omega arith) in
    let all : last + 16 ≡ length (unhexed s) = omega (arith, length_unhexed s) in
    let block : b ≡ unhexed (take 32 (drop (2 * last) s)) = c.decode_block-2.ensures.value ∙ ap₂ (λ (j i : ℕ). unhexed (take j (drop i s))) width start in
    copied_at c.loop-i.dst b _ last _ refl c.copy-2.ensures.bytes
    ∙ ap (λ (d : List ℕ). paste d last b (length b)) c.loop-i.invariant.1
    ∙ block_over s c.args.dst.now b last (16 * c.loop-i.i) block (omega (arith, blocks, c.as_chunks.ensures.front_len)) (omega (arith, blocks, c.as_chunks.ensures.front_len)) (omega arith)
    ∙ ap (λ (k : ℕ). take k (unhexed s) ++ drop k c.args.dst.now) all
    ∙ ap (λ (p : List ℕ). p ++ drop (length (unhexed s)) c.args.dst.now) (take-length (unhexed s))

pub returns-clause-digits : goal.returns-clause-digits
returns-clause-digits c = λ d. returns-clause-value c ∙ ap (λ (l : List ℕ). in_front l c.args.dst.now) (unhexed_digits c.args.src.now d)
