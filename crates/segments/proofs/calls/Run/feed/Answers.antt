-- `segments::calls::Run::feed` meets its contract: that no more bytes are taken than the chunk has is what the line call promises.
-- Assumes nothing.
use Rattle.std.proofs.Common.{◌≡◌, ℕ, ap, arith, Result}
use Rattle.frame.specs.declared.refusal.Refusal.{Refusal}
use Rattle.reader.specs.declared.answer.FeedAnswer.{FeedAnswer}
use Rattle.reader.specs.Reader.{state_of, fed_values_of, feed_values_of}
use Rattle.reader.proofs.Theorems.{feed_reports, taken_is_inside}
use Rattle.segments.proofs.calls.Run.feed.Goals as goal

-- The bytes that an answer says are taken.
abbrev taken_of : Result FeedAnswer Refusal → ℕ
taken_of answer = (feed_values_of answer).taken

abbrev taken_with : FeedAnswer → ℕ
taken_with answer = (fed_values_of answer).taken

pub returns-in_ok-print_frame-in-Ok-Frame : goal.returns-in_ok-print_frame-in-Ok-Frame
returns-in_ok-print_frame-in-Ok-Frame g c =
    let report = feed_reports _ _ _ c.feed-fed.result _ c.feed-fed.ensures in
    let answered : taken_of c.feed-fed.result.answer ≡ taken_with c.in-Ok-Frame.field-0 = ap taken_of c.in-Ok-Frame.is in
    let given : taken_with c.in-Ok-Frame.field-0 ≡ c.in-Ok-Frame.taken = ap taken_with (rw c.in-Ok-Frame.is at c.in-Ok-Frame.field-0-is) in
    omega (arith, answered, given, report.most, taken_is_inside (state_of c.args.self.now.reader) c.args.chunk.now)
