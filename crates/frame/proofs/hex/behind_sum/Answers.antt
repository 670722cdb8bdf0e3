-- `frame::hex::behind_sum` meets its contract: the bytes behind the whole blocks are the last ones of the last 16.
-- Assumes nothing.
use Rattle.std.proofs.Common.{◌≡◌, ℕ, ◌-◌, ◌*◌, ◌/◌, ◌%◌, List, length, take, drop, ap, ap₂, sym, ◌∙◌, arith}
use Rattle.frame.specs.Hex.{sum_of}
use Rattle.frame.specs.Judged.{unhexed}
use Rattle.frame.proofs.HexLaws.{behind_blocks}
use Rattle.frame.proofs.hex.behind_sum.Goals as goal

pub returns-then-s-lt32 : goal.returns-then-s-lt32
returns-then-s-lt32 c =
    let none : length c.args.s.now / 32 * 32 ≡ 0 = omega arith in
    rw (c.requires.rest_value, none) c.rest_sum.ensures.value

pub returns : goal.returns
returns c =
    let s = c.args.s.now in
    let n = length s / 2 in
    let k = n % 16 in
    let all : 16 - (16 - k) ≡ k = omega arith in
    let width : 2 * n - (2 * n - 32) ≡ 32 = omega arith in
    let start : 2 * n - 32 ≡ 2 * (n - 16) = omega arith in
    let block : c.decode_block-last.result ≡ unhexed (take 32 (drop (2 * (n - 16)) s)) =
    c.decode_block-last.ensures.value ∙ ap₂ (λ (j i : ℕ). unhexed (take j (drop i s))) width start in
    c.end_sum.ensures
    ∙ ap₂ (λ (j : ℕ) (b : List ℕ). sum_of (take j (drop (16 - k) b))) all block
    ∙ ap sum_of (behind_blocks s (length s / 32 * 32) (omega arith) (omega arith) (omega arith) (omega arith))
    ∙ ap (λ (r : List ℕ). sum_of (unhexed r)) (sym c.requires.rest_value)
