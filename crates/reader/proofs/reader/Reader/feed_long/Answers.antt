-- `reader::reader::Reader::feed_long` meets its contract: the places of the held bytes are scanned with the chunk's front behind them, and then the chunk.
-- Assumes nothing.
use Prim.Native.Nat.{ℕ, ◌+◌, ◌-◌, min, zero-le}
use native.Mathlib.Nat.{le_refl}
use native.Mathlib.Omega.{arith}
use mathlib.Core.List.{List}
use mathlib.Core.Path.{◌≡◌, sym, ap, ◌∙◌, subst}
use borrow.Author.Rules.{rules}
use lib.ListN.{take, drop}
use Rattle.frame.specs.Framing.{judge, judged_at}
use Rattle.reader.specs.Reader.{judged_to}
use Rattle.reader.specs.Scan.{passed, Stop, stop_of, stop_buffer, Scanned, scanned}
use Rattle.reader.specs.Answer.{scan_whole}
use Rattle.reader.specs.Feeding.{Leaves}
use Rattle.reader.proofs.JudgedCalls.{long_stopped, long_chunk}
use Rattle.reader.proofs.Joining.{long_facts}
use Rattle.reader.proofs.Readers.{answerable, long_leaves, long_passed, leaves_same, leaves_total, passed_end}
use Rattle.reader.proofs.reader.Reader.feed_long.Goals as goal

pub overflow_sub-settled : goal.overflow_sub-settled
overflow_sub-settled c =
    (long_facts c.args.self.now c.args.chunk.now _ _ c.requires.sound (search rules) c.join-joined.ensures.bytes c.find_more-found.ensures.result_value).far

pub feed_chunk-requires : goal.feed_chunk-requires
feed_chunk-requires c =
    let h = long_facts c.args.self.now c.args.chunk.now _ _ c.requires.sound (search rules) c.join-joined.ensures.bytes c.find_more-found.ensures.result_value in
    record {
      short = c.requires.short;
      reached = omega (arith, h.there, h.size);
      near = omega (arith, h.there, h.size);
      small = h.held.there;
      few = omega (arith, h.few, c.find_more-found.ensures.judged_value);
      room = omega (arith, c.requires.room, c.find_more-found.auto.buf);
    }

pub returns-in-Passed : goal.returns-in-Passed
returns-in-Passed c =
    let r = c.args.self.now in
    let f = r.format in
    let chunk = c.args.chunk.now in
    let held = take r.count r.held in
    let w = take c.join-joined.result.size c.join-joined.result.bytes in
    let h = long_facts r chunk _ _ c.requires.sound (search rules) c.join-joined.ensures.bytes c.find_more-found.ensures.result_value in
    let passes = ap (stop_of f (drop c.find_more-found.result.place w)) c.in-Passed.is in
    let same = c.find_more-found.ensures.buf_after ∙ ap (λ (t : Stop). stop_buffer t c.args.buf.now) passes in
    let behind = judged_to f (judge f) chunk in
    leaves_total f _ _ _ c.args.buf.now _ _ _
    (ap (λ (n : ℕ). n + behind) (c.find_more-found.ensures.judged_value ∙ ap (λ (n : ℕ). n - min r.judged (judged_at f w)) h.count)
    ∙ long_chunk f held chunk w r.count r.judged h.held.size c.join-joined.ensures.bytes h.held.known (ap (λ (x : Scanned). x.stop) (sym h.scan) ∙ passes))
    (leaves_same f _ _ _ c.args.buf.now _ _ _
    (long_passed f held chunk w r.count h.held.size c.join-joined.ensures.bytes (scanned f w c.find_more-found.result) h.scan passes)
    (subst
    (λ (b : List ℕ). Leaves f (scan_whole f 0 r.count (c.find_more-found.result.reach - r.count) chunk) (c.find_more-found.result.judged + behind) b
    c.feed_chunk.result c.feed_chunk.new.self c.feed_chunk.new.buf)
    same c.feed_chunk.ensures))

pub answer-requires : goal.answer-requires
answer-requires c =
    let r = c.args.self.now in
    let w = take c.join-joined.result.size c.join-joined.result.bytes in
    let h = long_facts r c.args.chunk.now _ _ c.requires.sound (search rules) c.join-joined.ensures.bytes c.find_more-found.ensures.result_value in
    answerable r.format w r.count r.count (scanned r.format w c.find_more-found.result) _ (omega (arith, h.size)) (omega (arith, h.size)) h.held.fits h.scan
    (le_refl r.count) zero-le

pub returns : goal.returns
returns c =
    let r = c.args.self.now in
    let f = r.format in
    let chunk = c.args.chunk.now in
    let held = take r.count r.held in
    let w = take c.join-joined.result.size c.join-joined.result.bytes in
    let h = long_facts r chunk _ _ c.requires.sound (search rules) c.join-joined.ensures.bytes c.find_more-found.ensures.result_value in
    let stops : (scanned f w c.find_more-found.result).stop ≡ passed → ⊥ = λ q. c.in_default.not-Passed (passed_end f _ c.find_more-found.result.end q) in
    leaves_total f _ _ _ c.args.buf.now _ _ _
    (c.find_more-found.ensures.judged_value
    ∙ ap (λ (n : ℕ). n - min r.judged (judged_at f w)) h.count
    ∙ long_stopped f held chunk w r.count r.judged h.held.size c.join-joined.ensures.bytes (λ q. stops (ap (λ (y : Scanned). y.stop) h.scan ∙ q)))
    (long_leaves f held chunk w r.count h.held.size c.join-joined.ensures.bytes (scanned f w c.find_more-found.result) h.scan c.find_more-found.result.judged
    c.answer.result c.args.buf.now _ _ _ stops c.answer.ensures c.find_more-found.ensures.buf_after c.keep.ensures)
