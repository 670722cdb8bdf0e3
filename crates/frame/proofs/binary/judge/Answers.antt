-- `frame::binary::judge` meets its contract: each way out is one of the laws on the start bytes and the length.
-- Assumes nothing.
use Rattle.std.proofs.Common.{◌∙◌, ◌<◌, ◌⊎◌, inl, inr, arith}
use Rattle.frame.specs.Binary.{behind_checksum}
use Rattle.frame.proofs.BinaryJudge.{judge_empty, judge_first, judge_one, judge_second, judge_short, judge_length, judge_rest}
use Rattle.frame.proofs.binary.judge.Goals.{then-word-lt32769-via-then-word-lt32769, then-word-lt32769-via-else-word-lt32769+then-word-gt33024}
use Rattle.frame.proofs.binary.judge.Goals as goal

pub returns-then-n-eq0 : goal.returns-then-n-eq0
returns-then-n-eq0 c = judge_empty (behind_checksum c.args.footer) c.args.s.now c.if-n-eq0.true

pub returns-then-s : goal.returns-then-s
returns-then-s c =
    rw c.failed.ensures
    (judge_first (behind_checksum c.args.footer) c.args.s.now
    (omega arith) c.if-s.true)

pub returns-then-n-eq1 : goal.returns-then-n-eq1
returns-then-n-eq1 c = judge_one (behind_checksum c.args.footer) c.args.s.now c.if-s.false c.if-n-eq1.true

pub returns-then-s-ne90 : goal.returns-then-s-ne90
returns-then-s-ne90 c =
    rw c.failed-then-s-ne90.ensures
    (judge_second (behind_checksum c.args.footer) c.args.s.now
    c.if-s.false (omega arith) c.if-s-ne90.true)

pub returns-then-n-lt4 : goal.returns-then-n-lt4
returns-then-n-lt4 c = judge_short (behind_checksum c.args.footer) c.args.s.now c.if-s.false c.if-s-ne90.false (omega arith) c.if-n-lt4.true

pub returns-then-word-lt32769 : goal.returns-then-word-lt32769
returns-then-word-lt32769 c =
    rw c.failed-then-word-lt32769.ensures
    (let wrong : (c.from_be_bytes-word.result < 0x8001) ⊎ (0x8100 < c.from_be_bytes-word.result) = elim c.then-word-lt32769.branch [ then-word-lt32769-via-then-word-lt32769 w ↦ inl w.if-word-lt32769.true | then-word-lt32769-via-else-word-lt32769+then-word-gt33024 w ↦ inr w.if-word-gt33024.true ] in
    judge_length (behind_checksum c.args.footer) c.args.s.now c.if-s.false c.if-s-ne90.false
    c.from_be_bytes-word.result c.from_be_bytes-word.ensures c.if-n-lt4.false wrong)

pub returns : goal.returns
returns c =
    judge_rest (behind_checksum c.args.footer) c.args.s.now c.if-s.false c.if-s-ne90.false
    c.from_be_bytes-word.result c.from_be_bytes-word.ensures c.if-n-lt4.false
    c.if-word-lt32769.false c.if-word-gt33024.false
    ∙ rw c.from.ensures at c.judge_body.ensures
