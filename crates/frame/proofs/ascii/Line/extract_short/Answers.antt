-- `frame::ascii::Line::extract_short` meets its contract: the verdict is that of the sum and the ending, and only a frame changes the buffer.
-- Assumes nothing.
use Rattle.std.proofs.Common.{◌≡◌, ℕ, ◌+◌, ◌-◌, ◌*◌, ◌/◌, List, ◌++◌, length, take, drop, sym, refl, ap, ◌∙◌, ap₂, arith, length-drop, length-take-le}
use native.Mathlib.Nat.{add-sub_cancel_left}
use lib.Seq.{paste}
use Rattle.frame.specs.Checks.{Verdict, payload_in}
use Rattle.frame.specs.Hex.{sum_of}
use Rattle.frame.specs.Ascii.{behind_digits, line_ending}
use Rattle.frame.specs.Framing.{judge, in_front}
use Rattle.frame.specs.Judged.{decoded, unhexed, verdict_of}
use Rattle.frame.specs.declared.framing.Format.TheVariants.{Ascii}
use Rattle.frame.proofs.AsciiJudge.{line_payload, line_judges, judge_line}
use Rattle.frame.proofs.AsciiLaws.{behind_keeps}
use Rattle.frame.proofs.AsciiShort.{short_long, short_sum, short_put, short_summed}
use Rattle.frame.proofs.Copying.{copied, copied_at, stays}
use Rattle.frame.proofs.ascii.Line.extract_short.Goals as goal

pub decode_two-two-requires : goal.decode_two-two-requires
decode_two-two-requires c =
    let long : length (take (1 + c.args.self.count - 1) (drop 1 c.args.self.s.now)) ≡ 1 + c.args.self.count - 1 =
    length-take-le (1 + c.args.self.count - 1) (drop 1 c.args.self.s.now) (omega (arith, length-drop 1 c.args.self.s.now, c.requires.short.inside))
    in
    omega (arith, long, c.requires.short.least)

pub slice_bounds-whole-end : goal.slice_bounds-whole-end
slice_bounds-whole-end c =
    let is : (let ds = take c.args.self.count (drop 1 c.args.self.s.now) in c.decode_two-two.result ≡ unhexed (take 32 ds) ++ unhexed (take 32 (drop (c.args.self.count - 32) ds))) = rw (add-sub_cancel_left 1 c.args.self.count) at c.decode_two-two.ensures.value in
    let long : length c.decode_two-two.result ≡ 32 = short_long c.args.ending c.args.self.s.now c.args.self.count c.args.self.counted c.requires.short c.decode_two-two.result (is) in
    sym (long)

pub overflow_sub-n : goal.overflow_sub-n
overflow_sub-n c = omega (arith, c.requires.short.most)

pub sum_of_two-requires-clause-two_len : goal.sum_of_two-requires-clause-two_len
sum_of_two-requires-clause-two_len c =
    let is : (let ds = take c.args.self.count (drop 1 c.args.self.s.now) in c.decode_two-two.result ≡ unhexed (take 32 ds) ++ unhexed (take 32 (drop (c.args.self.count - 32) ds))) = rw (add-sub_cancel_left 1 c.args.self.count) at c.decode_two-two.ensures.value in
    let long : length c.decode_two-two.result ≡ 32 = short_long c.args.ending c.args.self.s.now c.args.self.count c.args.self.counted c.requires.short c.decode_two-two.result (is) in long

pub sum_of_two-requires-clause-le_from : goal.sum_of_two-requires-clause-le_from
sum_of_two-requires-clause-le_from c =
    let is : (let ds = take c.args.self.count (drop 1 c.args.self.s.now) in c.decode_two-two.result ≡ unhexed (take 32 ds) ++ unhexed (take 32 (drop (c.args.self.count - 32) ds))) = rw (add-sub_cancel_left 1 c.args.self.count) at c.decode_two-two.ensures.value in
    let long : length c.decode_two-two.result ≡ 32 = short_long c.args.ending c.args.self.s.now c.args.self.count c.args.self.counted c.requires.short c.decode_two-two.result (is) in omega (arith, c.requires.short.most)

pub sum_of_two-requires-clause-from_bound : goal.sum_of_two-requires-clause-from_bound
sum_of_two-requires-clause-from_bound c =
    let is : (let ds = take c.args.self.count (drop 1 c.args.self.s.now) in c.decode_two-two.result ≡ unhexed (take 32 ds) ++ unhexed (take 32 (drop (c.args.self.count - 32) ds))) = rw (add-sub_cancel_left 1 c.args.self.count) at c.decode_two-two.ensures.value in
    let long : length c.decode_two-two.result ≡ 32 = short_long c.args.ending c.args.self.s.now c.args.self.count c.args.self.counted c.requires.short c.decode_two-two.result (is) in omega (arith, c.requires.short.least)

pub judge_end-verdict-requires-clause-le_count : goal.judge_end-verdict-requires-clause-le_count
judge_end-verdict-requires-clause-le_count c =
    let is : (let ds = take c.args.self.count (drop 1 c.args.self.s.now) in c.decode_two-two.result ≡ unhexed (take 32 ds) ++ unhexed (take 32 (drop (c.args.self.count - 32) ds))) = rw (add-sub_cancel_left 1 c.args.self.count) at c.decode_two-two.ensures.value in
    let total : c.sum_of_two.result ≡ sum_of (decoded (take c.args.self.count (drop 1 c.args.self.s.now))) = c.sum_of_two.ensures ∙ short_sum c.args.ending c.args.self.s.now c.args.self.count c.args.self.counted c.requires.short c.decode_two-two.result (is) in omega (arith, c.requires.short.least)

pub judge_end-verdict-requires-clause-count_bound : goal.judge_end-verdict-requires-clause-count_bound
judge_end-verdict-requires-clause-count_bound c =
    let is : (let ds = take c.args.self.count (drop 1 c.args.self.s.now) in c.decode_two-two.result ≡ unhexed (take 32 ds) ++ unhexed (take 32 (drop (c.args.self.count - 32) ds))) = rw (add-sub_cancel_left 1 c.args.self.count) at c.decode_two-two.ensures.value in
    let total : c.sum_of_two.result ≡ sum_of (decoded (take c.args.self.count (drop 1 c.args.self.s.now))) = c.sum_of_two.ensures ∙ short_sum c.args.ending c.args.self.s.now c.args.self.count c.args.self.counted c.requires.short c.decode_two-two.result (is) in omega (arith, c.requires.short.most)

pub judge_end-verdict-requires-clause-count_value_2 : goal.judge_end-verdict-requires-clause-count_value_2
judge_end-verdict-requires-clause-count_value_2 c =
    let is : (let ds = take c.args.self.count (drop 1 c.args.self.s.now) in c.decode_two-two.result ≡ unhexed (take 32 ds) ++ unhexed (take 32 (drop (c.args.self.count - 32) ds))) = rw (add-sub_cancel_left 1 c.args.self.count) at c.decode_two-two.ensures.value in
    let total : c.sum_of_two.result ≡ sum_of (decoded (take c.args.self.count (drop 1 c.args.self.s.now))) = c.sum_of_two.ensures ∙ short_sum c.args.ending c.args.self.s.now c.args.self.count c.args.self.counted c.requires.short c.decode_two-two.result (is) in c.requires.short.even

pub judge_end-verdict-requires-clause-count_in_bounds : goal.judge_end-verdict-requires-clause-count_in_bounds
judge_end-verdict-requires-clause-count_in_bounds c =
    let is : (let ds = take c.args.self.count (drop 1 c.args.self.s.now) in c.decode_two-two.result ≡ unhexed (take 32 ds) ++ unhexed (take 32 (drop (c.args.self.count - 32) ds))) = rw (add-sub_cancel_left 1 c.args.self.count) at c.decode_two-two.ensures.value in
    let total : c.sum_of_two.result ≡ sum_of (decoded (take c.args.self.count (drop 1 c.args.self.s.now))) = c.sum_of_two.ensures ∙ short_sum c.args.ending c.args.self.s.now c.args.self.count c.args.self.counted c.requires.short c.decode_two-two.result (is) in c.requires.short.inside

pub judge_end-verdict-requires-clause-count_value_3 : goal.judge_end-verdict-requires-clause-count_value_3
judge_end-verdict-requires-clause-count_value_3 c =
    let is : (let ds = take c.args.self.count (drop 1 c.args.self.s.now) in c.decode_two-two.result ≡ unhexed (take 32 ds) ++ unhexed (take 32 (drop (c.args.self.count - 32) ds))) = rw (add-sub_cancel_left 1 c.args.self.count) at c.decode_two-two.ensures.value in
    let total : c.sum_of_two.result ≡ sum_of (decoded (take c.args.self.count (drop 1 c.args.self.s.now))) = c.sum_of_two.ensures ∙ short_sum c.args.ending c.args.self.s.now c.args.self.count c.args.self.counted c.requires.short c.decode_two-two.result (is) in c.requires.short.ends

pub judge_end-verdict-requires-clause-total_value : goal.judge_end-verdict-requires-clause-total_value
judge_end-verdict-requires-clause-total_value c =
    let is : (let ds = take c.args.self.count (drop 1 c.args.self.s.now) in c.decode_two-two.result ≡ unhexed (take 32 ds) ++ unhexed (take 32 (drop (c.args.self.count - 32) ds))) = rw (add-sub_cancel_left 1 c.args.self.count) at c.decode_two-two.ensures.value in
    let total : c.sum_of_two.result ≡ sum_of (decoded (take c.args.self.count (drop 1 c.args.self.s.now))) = c.sum_of_two.ensures ∙ short_sum c.args.ending c.args.self.s.now c.args.self.count c.args.self.counted c.requires.short c.decode_two-two.result (is) in total

pub slice_bounds-copy-end : goal.slice_bounds-copy-end
slice_bounds-copy-end c =
    let is : (let ds = take c.args.self.count (drop 1 c.args.self.s.now) in c.decode_two-two.result ≡ unhexed (take 32 ds) ++ unhexed (take 32 (drop (c.args.self.count - 32) ds))) = rw (add-sub_cancel_left 1 c.args.self.count) at c.decode_two-two.ensures.value in
    let long : length c.decode_two-two.result ≡ 32 = short_long c.args.ending c.args.self.s.now c.args.self.count c.args.self.counted c.requires.short c.decode_two-two.result (is) in
    let front_long : length (take 16 c.decode_two-two.result) ≡ 16 = length-take-le 16 c.decode_two-two.result (omega (arith, long)) in
    sym (front_long)

pub copy-requires : goal.copy-requires
copy-requires c =
    let is : (let ds = take c.args.self.count (drop 1 c.args.self.s.now) in c.decode_two-two.result ≡ unhexed (take 32 ds) ++ unhexed (take 32 (drop (c.args.self.count - 32) ds))) = rw (add-sub_cancel_left 1 c.args.self.count) at c.decode_two-two.ensures.value in
    let long : length c.decode_two-two.result ≡ 32 = short_long c.args.ending c.args.self.s.now c.args.self.count c.args.self.counted c.requires.short c.decode_two-two.result (is) in
    let front_long : length (take 16 c.decode_two-two.result) ≡ 16 = length-take-le 16 c.decode_two-two.result (omega (arith, long)) in
    omega (arith, front_long)

pub slice_bounds-copy-start : goal.slice_bounds-copy-start
slice_bounds-copy-start c =
    let is : (let ds = take c.args.self.count (drop 1 c.args.self.s.now) in c.decode_two-two.result ≡ unhexed (take 32 ds) ++ unhexed (take 32 (drop (c.args.self.count - 32) ds))) = rw (add-sub_cancel_left 1 c.args.self.count) at c.decode_two-two.ensures.value in
    let long : length c.decode_two-two.result ≡ 32 = short_long c.args.ending c.args.self.s.now c.args.self.count c.args.self.counted c.requires.short c.decode_two-two.result (is) in
    omega (arith, long)

pub slice_bounds-copy-end-in-Frame : goal.slice_bounds-copy-end-in-Frame
slice_bounds-copy-end-in-Frame c =
    let is : (let ds = take c.args.self.count (drop 1 c.args.self.s.now) in c.decode_two-two.result ≡ unhexed (take 32 ds) ++ unhexed (take 32 (drop (c.args.self.count - 32) ds))) = rw (add-sub_cancel_left 1 c.args.self.count) at c.decode_two-two.ensures.value in
    let long : length c.decode_two-two.result ≡ 32 = short_long c.args.ending c.args.self.s.now c.args.self.count c.args.self.counted c.requires.short c.decode_two-two.result (is) in
    omega (arith, long)

pub overflow_sub-n-in-Frame : goal.overflow_sub-n-in-Frame
overflow_sub-n-in-Frame c = omega (arith, c.requires.short.least)

pub slice_bounds-copy-count-in-Frame : goal.slice_bounds-copy-count-in-Frame
slice_bounds-copy-count-in-Frame c = omega (arith, c.requires.short.most)

pub slice_bounds-copy-start-in-Frame : goal.slice_bounds-copy-start-in-Frame
slice_bounds-copy-start-in-Frame c = omega (arith, c.requires.short.most)

pub copy-requires-in-Frame : goal.copy-requires-in-Frame
copy-requires-in-Frame c =
    let is : (let ds = take c.args.self.count (drop 1 c.args.self.s.now) in c.decode_two-two.result ≡ unhexed (take 32 ds) ++ unhexed (take 32 (drop (c.args.self.count - 32) ds))) = rw (add-sub_cancel_left 1 c.args.self.count) at c.decode_two-two.ensures.value in
    let long : length c.decode_two-two.result ≡ 32 = short_long c.args.ending c.args.self.s.now c.args.self.count c.args.self.counted c.requires.short c.decode_two-two.result (is) in
    let last-long : length (take 15 (drop 16 c.decode_two-two.result)) ≡ 15 = length-take-le 15 (drop 16 c.decode_two-two.result) (omega (arith, length-drop 16 c.decode_two-two.result, long)) in
    omega (arith, last-long, c.requires.short.least, c.requires.short.most)

pub returns-in-Frame-clause-s_value : goal.returns-in-Frame-clause-s_value
returns-in-Frame-clause-s_value c =
    let is : (let ds = take c.args.self.count (drop 1 c.args.self.s.now) in c.decode_two-two.result ≡ unhexed (take 32 ds) ++ unhexed (take 32 (drop (c.args.self.count - 32) ds))) = rw (add-sub_cancel_left 1 c.args.self.count) at c.decode_two-two.ensures.value in
    let long : length c.decode_two-two.result ≡ 32 = short_long c.args.ending c.args.self.s.now c.args.self.count c.args.self.counted c.requires.short c.decode_two-two.result (is) in
    let front_long : length (take 16 c.decode_two-two.result) ≡ 16 = length-take-le 16 c.decode_two-two.result (omega (arith, long)) in
    let last-long : length (take 15 (drop 16 c.decode_two-two.result)) ≡ 15 = length-take-le 15 (drop 16 c.decode_two-two.result) (omega (arith, length-drop 16 c.decode_two-two.result, long)) in
    let total : c.sum_of_two.result ≡ sum_of (decoded (take c.args.self.count (drop 1 c.args.self.s.now))) = c.sum_of_two.ensures ∙ short_sum c.args.ending c.args.self.s.now c.args.self.count c.args.self.counted c.requires.short c.decode_two-two.result (is) in
    let verdict : judge (Ascii c.args.ending) c.args.self.s.now ≡ verdict_of (Ascii c.args.ending) c.args.self.s.now c.judge_end-verdict.result = judge_line (line_ending c.args.ending) c.args.self.s.now (omega (arith, c.requires.short.inside)) c.requires.short.start ∙ c.judge_end-verdict.ensures in
    let end = line_ending c.args.ending in
    let p : List ℕ = decoded (take (2 * c.in-Frame.len) (drop 1 c.args.self.s.now)) in
    let e = c.judge_end-verdict.ensures ∙ ap (verdict_of (Ascii c.args.ending) c.args.self.s.now) c.in-Frame.is in
    let sums = short_summed c.args.ending c.args.self.s.now c.args.self.count c.sum_of_two.result c.args.self.counted c.requires.short (total) in verdict

pub returns-in-Frame-clause-buf_after : goal.returns-in-Frame-clause-buf_after
returns-in-Frame-clause-buf_after c =
    let is : (let ds = take c.args.self.count (drop 1 c.args.self.s.now) in c.decode_two-two.result ≡ unhexed (take 32 ds) ++ unhexed (take 32 (drop (c.args.self.count - 32) ds))) = rw (add-sub_cancel_left 1 c.args.self.count) at c.decode_two-two.ensures.value in
    let long : length c.decode_two-two.result ≡ 32 = short_long c.args.ending c.args.self.s.now c.args.self.count c.args.self.counted c.requires.short c.decode_two-two.result (is) in
    let front_long : length (take 16 c.decode_two-two.result) ≡ 16 = length-take-le 16 c.decode_two-two.result (omega (arith, long)) in
    let last-long : length (take 15 (drop 16 c.decode_two-two.result)) ≡ 15 = length-take-le 15 (drop 16 c.decode_two-two.result) (omega (arith, length-drop 16 c.decode_two-two.result, long)) in
    let total : c.sum_of_two.result ≡ sum_of (decoded (take c.args.self.count (drop 1 c.args.self.s.now))) = c.sum_of_two.ensures ∙ short_sum c.args.ending c.args.self.s.now c.args.self.count c.args.self.counted c.requires.short c.decode_two-two.result (is) in
    let verdict : judge (Ascii c.args.ending) c.args.self.s.now ≡ verdict_of (Ascii c.args.ending) c.args.self.s.now c.judge_end-verdict.result = judge_line (line_ending c.args.ending) c.args.self.s.now (omega (arith, c.requires.short.inside)) c.requires.short.start ∙ c.judge_end-verdict.ensures in
    let end = line_ending c.args.ending in
    let p : List ℕ = decoded (take (2 * c.in-Frame.len) (drop 1 c.args.self.s.now)) in
    let e = c.judge_end-verdict.ensures ∙ ap (verdict_of (Ascii c.args.ending) c.args.self.s.now) c.in-Frame.is in
    let sums = short_summed c.args.ending c.args.self.s.now c.args.self.count c.sum_of_two.result c.args.self.counted c.requires.short (total) in copied_at c.copy.new.to (take 15 (drop 16 c.decode_two-two.result)) _ (c.args.self.count / 2 - 16) _ refl c.copy-in-Frame.ensures.bytes
    ∙ ap₂ (λ (b : List ℕ) (k : ℕ). paste b (c.args.self.count / 2 - 16) (take 15 (drop 16 c.decode_two-two.result)) k)
    (copied c.args.buf.now (take 16 c.decode_two-two.result) _ c.copy.ensures.bytes ∙ ap (paste c.args.buf.now 0 (take 16 c.decode_two-two.result)) (front_long)) (last-long)
    ∙ short_put c.args.ending c.args.self.s.now c.args.self.count c.args.self.counted c.requires.short c.decode_two-two.result (is) c.args.buf.now p
    (line_payload sums end (behind_digits c.args.ending) (line_judges c.args.ending c.args.self.s.now c.args.self.count c.requires.short.ends) (behind_keeps c.args.ending) c.in-Frame.used p e)
    ∙ sym (ap (λ (w : Verdict). in_front (payload_in w) c.args.buf.now) (judge_line end c.args.self.s.now (omega (arith, c.requires.short.inside)) c.requires.short.start ∙ e))

pub returns-in_default-clause-s_value : goal.returns-in_default-clause-s_value
returns-in_default-clause-s_value c = let verdict : judge (Ascii c.args.ending) c.args.self.s.now ≡ verdict_of (Ascii c.args.ending) c.args.self.s.now c.judge_end-verdict.result = judge_line (line_ending c.args.ending) c.args.self.s.now (omega (arith, c.requires.short.inside)) c.requires.short.start ∙ c.judge_end-verdict.ensures in verdict

pub returns-in_default-clause-buf_after : goal.returns-in_default-clause-buf_after
returns-in_default-clause-buf_after c =
    let verdict : judge (Ascii c.args.ending) c.args.self.s.now ≡ verdict_of (Ascii c.args.ending) c.args.self.s.now c.judge_end-verdict.result = judge_line (line_ending c.args.ending) c.args.self.s.now (omega (arith, c.requires.short.inside)) c.requires.short.start ∙ c.judge_end-verdict.ensures in sym
    (ap (λ (v : Verdict). in_front (payload_in v) c.args.buf.now) (verdict)
    ∙ stays (Ascii c.args.ending) c.args.self.s.now c.args.buf.now c.judge_end-verdict.result
    c.in_default.not-Frame)
