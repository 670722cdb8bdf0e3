-- `frame::hex::decode_two` meets its contract: each block is put where it belongs.
-- Assumes nothing.
use Rattle.std.proofs.Common.{◌≡◌, ℕ, ◌+◌, ◌-◌, List, ◌++◌, length, take, drop, ap, ◌∙◌, ap₂, arith, sym, length-take-le}
use lib.Seq.{paste}
use Rattle.frame.specs.Judged.{unhexed}
use Rattle.frame.proofs.Copying.{copied, copied_at}
use Rattle.frame.proofs.DigitLaws.{digits_drop, digits_take}
use Rattle.frame.proofs.HexLaws.{length_block, two_blocks, unhexed_digits}
use Rattle.frame.proofs.hex.decode_two.Goals as goal

pub slice_bounds-decode_block-end : goal.slice_bounds-decode_block-end
slice_bounds-decode_block-end c = sym (length-take-le 32 c.args.s.now (omega arith))

pub decode_block-requires : goal.decode_block-requires
decode_block-requires c = length-take-le 32 c.args.s.now (omega arith)

pub returns-clause-value : goal.returns-clause-value
returns-clause-value c =
    let s = c.args.s.now in
    let start : c.args.last + 32 - c.args.last ≡ 32 = omega arith in
    let second : c.decode_block-2.result ≡ unhexed (take 32 (drop c.args.last s)) =
    c.decode_block-2.ensures.value ∙ ap (λ (k : ℕ). unhexed (take k (drop c.args.last s))) start
    in
    copied_at c.copy.new.to c.decode_block-2.result _ 16 16 (omega (arith, c.copy.auto.to)) c.copy-2.ensures.bytes
    ∙ ap (λ (d : List ℕ). paste d 16 c.decode_block-2.result (length c.decode_block-2.result)) (copied _ c.decode_block.result _ c.copy.ensures.bytes)
    ∙ two_blocks _ c.decode_block.result c.decode_block-2.result (omega arith) (ap length c.decode_block.ensures.value ∙ length_block s 0 (omega arith))
    (ap length second ∙ length_block s c.args.last (omega arith))
    ∙ ap₂ (λ (x y : List ℕ). x ++ y) c.decode_block.ensures.value second

pub returns-clause-digits : goal.returns-clause-digits
returns-clause-digits c = λ d.
    returns-clause-value c
    ∙ ap₂ (λ (x y : List _). x ++ y) (unhexed_digits _ (digits_take 32 c.args.s.now d)) (unhexed_digits _ (digits_take 32 _ (digits_drop c.args.last c.args.s.now d)))
