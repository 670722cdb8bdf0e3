-- `frame::ascii::Line::judge_digits` meets its contract: each way out is one of the laws on what stands behind the colon.
-- Assumes nothing.
use Rattle.std.proofs.Common.{◌≡◌, ◌+◌, ◌%◌, ◌<◌, ◌⊎◌, true, get_or, drop, sym, ◌∙◌, inl, inr, arith, ℕ, ap, take}
use native.Mathlib.Nat.{add-sub_cancel_left}
use Rattle.frame.specs.Hex.{sum_of}
use Rattle.frame.specs.Judged.{unhexed}
use Rattle.frame.specs.Ascii.{ends_digits, behind_digits, line_ending}
use Rattle.frame.proofs.DigitLaws.{counted}
use Rattle.frame.proofs.AsciiJudge.{line_unhexed, line_many, line_short, Stopped, JudgesAt, line_character, line_judges, line_count}
use Rattle.frame.proofs.ascii.Line.judge_digits.Goals.{then-count-lt4-via-then-count-lt4, then-count-lt4-via-else-count-lt4+then-count-ne0}
use Rattle.frame.proofs.ascii.Line.judge_digits.Goals as goal

pub overflow_add-end : goal.overflow_add-end
overflow_add-end c = omega (arith, (counted 515 (drop 1 c.args.self.s.now)).room)

pub returns-then-count-gt514 : goal.returns-then-count-gt514
returns-then-count-gt514 c =
    rw c.failed.ensures
    (line_many c.args.self.s.now c.args.self.count c.args.self.counted (line_ending c.args.ending) c.if-count-gt514.true)

pub returns-then-n-end : goal.returns-then-n-end
returns-then-n-end c = line_short c.args.self.s.now c.args.self.count c.args.self.counted (line_ending c.args.ending) (omega arith) c.if-n-end.true

pub returns-then-not-ends_digits : goal.returns-then-not-ends_digits
returns-then-not-ends_digits c =
    rw c.failed-then-not-ends_digits.ensures
    (let stopped : Stopped c.args.self.s.now c.args.self.count = record { count_is = c.args.self.counted; room = omega arith; there = omega arith } in
    line_character c.args.ending (stopped) (sym c.ends_digits.ensures ∙ c.if-not-ends_digits.true))

pub returns-then-count-lt4 : goal.returns-then-count-lt4
returns-then-count-lt4 c =
    rw c.failed-then-count-lt4.ensures
    (let wrong : (c.args.self.count < 4) ⊎ (c.args.self.count % 2 ≡ 0 → ⊥) =
    elim c.then-count-lt4.branch [
      | then-count-lt4-via-then-count-lt4 w ↦ inl w.if-count-lt4.true
      | then-count-lt4-via-else-count-lt4+then-count-ne0 w ↦ inr w.if-count-ne0.true
    ]
    in
    let stopped : Stopped c.args.self.s.now c.args.self.count = record { count_is = c.args.self.counted; room = omega arith; there = omega arith } in
    let ends : ends_digits c.args.ending (get_or c.args.self.s.now (1 + c.args.self.count) 0) ≡ true = sym c.ends_digits.ensures ∙ c.if-not-ends_digits.false in
    let judges : JudgesAt (line_ending c.args.ending) (behind_digits c.args.ending) c.args.self.s.now c.args.self.count = line_judges c.args.ending c.args.self.s.now c.args.self.count (ends) in
    line_count (line_ending c.args.ending) (behind_digits c.args.ending) (stopped) (judges) wrong)

pub judge_end-requires-clause-count_value_3 : goal.judge_end-requires-clause-count_value_3
judge_end-requires-clause-count_value_3 c = sym c.ends_digits.ensures ∙ c.if-not-ends_digits.false

pub judge_end-requires-clause-total_value : goal.judge_end-requires-clause-total_value
judge_end-requires-clause-total_value c =
    c.pair_sum.ensures.value
    ∙ ap (λ (k : ℕ). sum_of (unhexed (take k (drop 1 c.args.self.s.now)))) (add-sub_cancel_left 1 c.args.self.count)
    ∙ ap sum_of (line_unhexed c.args.self.s.now c.args.self.count c.args.self.counted)
