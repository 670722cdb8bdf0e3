-- `frame::framing::extract` meets its contract: a short buffer is refused, and each framing is one case.
-- Assumes nothing.
use Rattle.std.proofs.Common.{length, refl, le-leb}
use borrow.Author.Tests.{lt-leb}
use Rattle.frame.proofs.framing.extract.Goals as goal

pub returns-then-buf-lt256-clause-s_value : goal.returns-then-buf-lt256-clause-s_value
returns-then-buf-lt256-clause-s_value c =
    rw c.failed.ensures
    (rw (lt-leb 256 (length c.args.buf.now) c.if-buf-lt256.true) refl)

pub returns-then-buf-lt256-clause-buf_after : goal.returns-then-buf-lt256-clause-buf_after
returns-then-buf-lt256-clause-buf_after c = rw (lt-leb 256 (length c.args.buf.now) c.if-buf-lt256.true) refl

pub returns-in-Binary : goal.returns-in-Binary
returns-in-Binary c =
    let e = c.extract.ensures in
    rw (le-leb 256 (length c.args.buf.now) c.if-buf-lt256.false, c.in-Binary.is)
    (record { s_value = e.s_value; buf_after = e.buf_after; room_value = λ h. e.s_value; room_buf_after = λ h. e.buf_after })

pub returns-in-Ascii : goal.returns-in-Ascii
returns-in-Ascii c =
    let e = c.extract-in-Ascii.ensures in
    rw (le-leb 256 (length c.args.buf.now) c.if-buf-lt256.false, c.in-Ascii.is)
    (record { s_value = e.s_value; buf_after = e.buf_after; room_value = λ h. e.s_value; room_buf_after = λ h. e.buf_after })
