-- `frame::digit::front_run` meets its contract: the digits of the whole blocks, then those of the next 16 characters, not all of which are digits, or
-- the rest one by one.
-- Assumes nothing.
use Rattle.std.proofs.Common.{◌≡◌, ◌*◌, ◌/◌, take, drop, ap, ◌∙◌, arith}
use Rattle.std.specs.List.{prefix_len}
use Rattle.octets.proofs.Prefix.{prefix_drop, prefix_most, prefix_take}
use Rattle.frame.specs.Digit.{is_digit}
use Rattle.frame.specs.DigitRuns.{digit_run}
use Rattle.frame.proofs.DigitLaws.{run_prefix}
use Rattle.frame.proofs.Lists.{take_rest}
use Rattle.frame.proofs.digit.front_run.Goals as goal

pub returns-in-Some : goal.returns-in-Some
returns-in-Some c =
    let s = c.args.s.now in
    let at = c.block_run_len-at.result in
    let blocks : at ≡ prefix_len is_digit s / 16 * 16 = c.block_run_len-at.ensures.value is_digit (λ b r h e. e) in
    let chars : c.in-Some.chars.now ≡ take 16 (drop at s) = c.in-Some.ensures.cases.same ∙ ap (take 16) (take_rest s at) in
    let next : c.words_run.result ≡ digit_run 16 (take 16 (drop at s)) = c.words_run.ensures ∙ ap (digit_run 16) chars in
    omega (
      arith,
      run_prefix 515 s,
      run_prefix 16 (take 16 (drop at s)),
      prefix_take is_digit 16 (drop at s),
      prefix_most is_digit s,
      prefix_drop is_digit at s (omega arith),
      c.in-Some.ensures.cases.enough,
    )

pub returns-in-None : goal.returns-in-None
returns-in-None c =
    let s = c.args.s.now in
    let at = c.block_run_len-at.result in
    let blocks : at ≡ prefix_len is_digit s / 16 * 16 = c.block_run_len-at.ensures.value is_digit (λ b r h e. e) in
    let rest : c.run_len.result ≡ prefix_len is_digit (drop at s) = c.run_len.ensures.value is_digit (λ b r h e. e) ∙ ap (prefix_len is_digit) (take_rest s at) in
    omega (arith, run_prefix 515 s, prefix_most is_digit s, prefix_drop is_digit at s (omega arith))
