-- `frame::hex::rest_sum` meets its contract: the bytes of the first 16 characters, and those of the others.
-- Assumes nothing.
use Rattle.std.proofs.Common.{◌∙◌, ap, arith}
use Rattle.frame.specs.Hex.{sum_of}
use Rattle.frame.specs.Judged.{unhexed}
use Rattle.frame.proofs.HexLaws.{unhexed_take, unhexed_drop, unhexed_digits, sum_split}
use Rattle.frame.proofs.hex.rest_sum.Goals as goal

pub returns-in-Some-clause-value : goal.returns-in-Some-clause-value
returns-in-Some-clause-value c =
    let (block, rest, size) = c.in-Some.ensures.cases in
    let s = c.args.s.now in
    omega (
      arith,
      c.tail_sum.ensures.value ∙ ap (λ l. sum_of (unhexed l)) block ∙ ap sum_of (unhexed_take 8 s),
      c.tail_sum-in-Some.ensures.value ∙ ap (λ l. sum_of (unhexed l)) rest ∙ ap sum_of (unhexed_drop 8 s),
      sum_split 8 (unhexed s),
    )

pub returns-in-Some-clause-digits : goal.returns-in-Some-clause-digits
returns-in-Some-clause-digits c = λ d. returns-in-Some-clause-value c ∙ ap sum_of (unhexed_digits c.args.s.now d)
