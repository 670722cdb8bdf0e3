-- `reader::reader::Reader::feed_short` meets its contract: the held bytes are scanned with the chunk behind them.
-- Assumes nothing.
use Prim.Native.Nat.{ℕ, ◌+◌, ◌-◌, min, zero-le}
use native.Mathlib.Nat.{le_refl}
use native.Mathlib.Omega.{arith}
use mathlib.Core.List.{◌++◌}
use mathlib.Core.Path.{◌≡◌, sym, ap, ◌∙◌}
use borrow.Author.Rules.{rules}
use lib.ListN.{length, take}
use Rattle.frame.specs.Framing.{judge, judged_at}
use Rattle.reader.specs.Scan.{scan_judged, scanned}
use Rattle.reader.proofs.Counting.{count_whole}
use Rattle.reader.proofs.JudgedCalls.{short_judged}
use Rattle.reader.proofs.Joining.{held_facts, short_facts}
use Rattle.reader.proofs.Readers.{answerable, appended, short_leaves, leaves_total}
use Rattle.reader.proofs.reader.Reader.feed_short.Goals as goal

pub answer-kept-requires : goal.answer-kept-requires
answer-kept-requires c =
    let r = c.args.self.now in
    let size = r.count + length c.args.chunk.now in
    let w = take size c.put_behind.new.held in
    let array : length r.held ≡ 517 = search rules in
    let is : w ≡ take r.count r.held ++ c.args.chunk.now =
    ap (take size) c.put_behind.ensures ∙ appended r.held c.args.chunk.now r.count (omega (arith, array, (held_facts r c.requires.ready.sound array).there)) in
    let h = short_facts r c.args.chunk.now w _ c.requires.ready.sound array is c.find_more-found.ensures.result_value in
    answerable r.format w size r.count (scanned r.format w c.find_more-found.result) _ (omega (arith, h.size)) (omega (arith, h.size)) h.held.fits h.scan
    (le_refl r.count) zero-le

pub returns : goal.returns
returns c =
    let r = c.args.self.now in
    let f = r.format in
    let chunk = c.args.chunk.now in
    let held = take r.count r.held in
    let size = r.count + length chunk in
    let w = take size c.put_behind.new.held in
    let array : length r.held ≡ 517 = search rules in
    let is : w ≡ held ++ chunk =
    ap (take size) c.put_behind.ensures ∙ appended r.held chunk r.count (omega (arith, array, (held_facts r c.requires.ready.sound array).there)) in
    let h = short_facts r chunk w _ c.requires.ready.sound array is c.find_more-found.ensures.result_value in
    leaves_total f _ _ _ c.args.buf.now _ _ _
    (c.find_more-found.ensures.judged_value
    ∙ ap (λ (n : ℕ). n - min r.judged (judged_at f w))
    (h.count ∙ ap (λ (n : ℕ). scan_judged f (judge f) n w) (sym h.size) ∙ sym (count_whole f (judge f) w))
    ∙ short_judged f held chunk w r.judged is)
    (short_leaves f held chunk c.put_behind.new.held r.count (scanned f w c.find_more-found.result) _ c.answer-kept.result c.args.buf.now _ _ _
    h.held.size is h.scan c.answer-kept.ensures c.find_more-found.ensures.buf_after c.shift.ensures)
