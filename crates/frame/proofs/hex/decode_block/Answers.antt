-- `frame::hex::decode_block` meets its contract: the bytes fill the array.
-- Assumes nothing.
use Rattle.std.proofs.Common.{◌++◌, ◌/◌, drop, ℕ, replicate, ap, ◌∙◌, append-nil}
use Rattle.frame.specs.Judged.{unhexed}
use Rattle.frame.proofs.HexLaws.{length_unhexed, unhexed_digits}
use Rattle.frame.proofs.hex.decode_block.Goals as goal

pub returns-clause-value : goal.returns-clause-value
returns-clause-value c =
    let b = unhexed c.args.s.now in
    c.decode_bytes.ensures.value ∙ ap (λ (k : ℕ). b ++ drop k (replicate 16 0)) (length_unhexed c.args.s.now ∙ ap (λ (n : ℕ). n / 2) c.requires) ∙ append-nil b

pub returns-clause-digits : goal.returns-clause-digits
returns-clause-digits c = λ d. returns-clause-value c ∙ unhexed_digits c.args.s.now d
