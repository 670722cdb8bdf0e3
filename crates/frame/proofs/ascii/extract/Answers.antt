-- `frame::ascii::extract` meets its contract: a frame's payload can be taken out, and no other verdict changes the buffer.
-- Assumes nothing.
use Rattle.std.proofs.Common.{◌≡◌, ℕ, List, sym, ap, ◌∙◌, arith}
use Rattle.frame.specs.Checks.{Verdict, payload_in}
use Rattle.frame.specs.Framing.{judge, in_front}
use Rattle.frame.specs.Judged.{verdict_of}
use Rattle.frame.specs.declared.framing.Format.TheVariants.{Ascii}
use Rattle.frame.specs.declared.framing.Judged.TheVariants.{Frame}
use Rattle.frame.proofs.Framings.{payload_named}
use Rattle.frame.proofs.Copying.{stays}
use Rattle.frame.proofs.ascii.extract.Goals as goal

pub extract_short-requires-clause-short : goal.extract_short-requires-clause-short
extract_short-requires-clause-short c = c.is_short.ensures c.if-is_short.true c.args.ending

pub unpack-requires-clause-len_in_bounds : goal.unpack-requires-clause-len_in_bounds
unpack-requires-clause-len_in_bounds c =
    let named : judge (Ascii c.args.ending) c.args.s.now ≡ verdict_of (Ascii c.args.ending) c.args.s.now (Frame c.in-Frame.used c.in-Frame.len) = (rw c.new-line.ensures at c.judge-verdict.ensures) ∙ ap (verdict_of (Ascii c.args.ending) c.args.s.now) c.in-Frame.is in
    let h = payload_named (Ascii c.args.ending) c.args.s.now c.in-Frame.used c.in-Frame.len (named) in h.there

pub unpack-requires-clause-len_in_bounds_2 : goal.unpack-requires-clause-len_in_bounds_2
unpack-requires-clause-len_in_bounds_2 c =
    let named : judge (Ascii c.args.ending) c.args.s.now ≡ verdict_of (Ascii c.args.ending) c.args.s.now (Frame c.in-Frame.used c.in-Frame.len) = (rw c.new-line.ensures at c.judge-verdict.ensures) ∙ ap (verdict_of (Ascii c.args.ending) c.args.s.now) c.in-Frame.is in
    let h = payload_named (Ascii c.args.ending) c.args.s.now c.in-Frame.used c.in-Frame.len (named) in omega (arith, h.most)

pub returns-in-Frame-clause-s_value : goal.returns-in-Frame-clause-s_value
returns-in-Frame-clause-s_value c =
    let named : judge (Ascii c.args.ending) c.args.s.now ≡ verdict_of (Ascii c.args.ending) c.args.s.now (Frame c.in-Frame.used c.in-Frame.len) = (rw c.new-line.ensures at c.judge-verdict.ensures) ∙ ap (verdict_of (Ascii c.args.ending) c.args.s.now) c.in-Frame.is in
    let h = payload_named (Ascii c.args.ending) c.args.s.now c.in-Frame.used c.in-Frame.len (named) in named

pub returns-in-Frame-clause-buf_after : goal.returns-in-Frame-clause-buf_after
returns-in-Frame-clause-buf_after c =
    let named : judge (Ascii c.args.ending) c.args.s.now ≡ verdict_of (Ascii c.args.ending) c.args.s.now (Frame c.in-Frame.used c.in-Frame.len) = (rw c.new-line.ensures at c.judge-verdict.ensures) ∙ ap (verdict_of (Ascii c.args.ending) c.args.s.now) c.in-Frame.is in
    let h = payload_named (Ascii c.args.ending) c.args.s.now c.in-Frame.used c.in-Frame.len (named) in c.unpack.ensures.value
    ∙ ap (λ (p : List ℕ). in_front p c.args.buf.now) h.taken
    ∙ sym (ap (λ (w : Verdict). in_front (payload_in w) c.args.buf.now) (named))

pub returns-in_default-clause-s_value : goal.returns-in_default-clause-s_value
returns-in_default-clause-s_value c = (rw c.new-line.ensures at c.judge-verdict.ensures)

pub returns-in_default-clause-buf_after : goal.returns-in_default-clause-buf_after
returns-in_default-clause-buf_after c =
    sym (ap (λ (v : Verdict). in_front (payload_in v) c.args.buf.now) (rw c.new-line.ensures at c.judge-verdict.ensures)
    ∙ stays (Ascii c.args.ending) c.args.s.now c.args.buf.now c.judge-verdict.result
    c.in_default.not-Frame)
