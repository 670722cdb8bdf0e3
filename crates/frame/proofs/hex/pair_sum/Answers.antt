-- `frame::hex::pair_sum` meets its contract: what is summed so far, with the sum of the bytes behind the blocks so far, is the whole sum.
-- Assumes nothing.
use Rattle.std.proofs.Common.{◌≡◌, ◌+◌, ◌*◌, ◌/◌, ℕ, List, [], length, drop, take, ap, ◌∙◌, arith}
use Rattle.octets.proofs.Prefix.{chunk_at}
use Rattle.frame.specs.Hex.{sum_of}
use Rattle.frame.specs.Judged.{unhexed}
use Rattle.frame.proofs.HexLaws.{unhexed_digits, sum_unhexed, sum_block}
use Rattle.frame.proofs.hex.pair_sum.Goals as goal

-- The block's sum.
block : (c : goal.After-byte_sum-sum) → c.byte_sum-sum.result ≡ sum_of (unhexed (take 32 (drop (32 * c.loop-block.block-index) c.args.s.now)))
block c =
    let s = c.args.s.now in
    c.byte_sum-sum.ensures
    ∙ ap sum_of ((rw c.as_chunks.ensures.front at c.decode_block.ensures.value)
    ∙ ap unhexed (chunk_at 32 (length s / 32) c.loop-block.block-index s [] (omega (arith, c.as_chunks.ensures.front_len))))

pub overflow_add-sum : goal.overflow_add-sum
overflow_add-sum c =
    omega (arith, block c, sum_block c.args.s.now (32 * c.loop-block.block-index) (omega (arith, c.as_chunks.ensures.front_len)))

pub loop-block-preserved : goal.loop-block-preserved
loop-block-preserved c =
    let s = c.args.s.now in
    let at = 32 * c.loop-block.block-index in
    let next : at + 32 ≡ 32 * (c.loop-block.block-index + 1) = omega arith in
    let here = rw next at (sum_block s at (omega (arith, c.as_chunks.ensures.front_len))) in
    (omega (arith, block c, here.1), omega (arith, block c, here.0))

-- All blocks and what is behind them are all of the characters.
whole : (c : goal.After-behind_sum) → c.loop-block.sum + c.behind_sum.result ≡ sum_of (unhexed c.args.s.now)
whole c =
    let all : 32 * c.loop-block.block-index ≡ length c.args.s.now / 32 * 32 = omega (arith, c.as_chunks.ensures.front_len) in
    omega (arith, c.behind_sum.ensures, ap (λ (r : List ℕ). sum_of (unhexed r)) c.as_chunks.ensures.back, rw all at c.loop-block.invariant.1)

pub overflow_add-result : goal.overflow_add-result
overflow_add-result c = omega (arith, whole c, sum_unhexed c.args.s.now)

pub returns-clause-digits : goal.returns-clause-digits
returns-clause-digits c = λ d. whole c ∙ ap sum_of (unhexed_digits c.args.s.now d)
