-- `reader::scan::find` meets its contract: a frame that was found is taken out at its place.
-- Assumes nothing.
use Prim.Native.Nat.{ℕ}
use native.Mathlib.Omega.{arith}
use mathlib.Core.List.{List}
use mathlib.Core.Path.{◌≡◌, refl, sym, ap, ◌∙◌}
use lib.ListN.{drop}
use Rattle.frame.specs.Judged.{payload_at, unpacked}
use Rattle.reader.specs.Scan.{stop_of, scanned, stop_buffer}
use Rattle.reader.specs.declared.scan.ScanEnd.{ScanEnd}
use Rattle.reader.specs.declared.scan.ScanEnd.TheVariants.{Frame, Undecided, Passed}
use Rattle.frame.specs.declared.framing.Format.{Format}
use Rattle.frame.proofs.Framings.{unpacked_frame}
use Rattle.frame.proofs.Lists.{take_rest}
use Rattle.reader.proofs.Scanning.{AtFrame, scan_found_from}
use Rattle.reader.proofs.scan.find.Goals as goal

-- Where it stopped at no frame, the buffer is as it came.
no-frame : (f : Format) (s buf : List ℕ) (e : ScanEnd) → ((used len : ℕ) → e ≡ Frame used len → ⊥) → stop_buffer (stop_of f s e) buf ≡ buf
no-frame f s buf (Frame used len) h = absurd (h used len refl)
no-frame f s buf Undecided h = refl
no-frame f s buf Passed h = refl

pub slice_bounds-unpack-count : goal.slice_bounds-unpack-count
slice_bounds-unpack-count c =
    let at-frame : (let a = c.args in AtFrame a.format a.s.now a.places.stop c.scan-found.result.place c.scan-found.result.reach c.in-Frame.used (payload_at a.format (drop c.scan-found.result.place a.s.now) c.in-Frame.len)) = let a = c.args in
    let pre = c.requires.scannable in
    scan_found_from a.places.ended a.format a.s.now a.places.stop a.places.from a.places.reach pre.inside pre.reached pre.onward
    (scanned a.format a.s.now c.scan-found.result)
    c.scan-found.ensures.result_value _ _ (ap (stop_of a.format (drop c.scan-found.result.place a.s.now)) c.in-Frame.is) in
    omega (arith, (at-frame).before)

pub slice_bounds-unpack-start : goal.slice_bounds-unpack-start
slice_bounds-unpack-start c =
    let at-frame : (let a = c.args in AtFrame a.format a.s.now a.places.stop c.scan-found.result.place c.scan-found.result.reach c.in-Frame.used (payload_at a.format (drop c.scan-found.result.place a.s.now) c.in-Frame.len)) = let a = c.args in
    let pre = c.requires.scannable in
    scan_found_from a.places.ended a.format a.s.now a.places.stop a.places.from a.places.reach pre.inside pre.reached pre.onward
    (scanned a.format a.s.now c.scan-found.result)
    c.scan-found.ensures.result_value _ _ (ap (stop_of a.format (drop c.scan-found.result.place a.s.now)) c.in-Frame.is) in
    omega (arith, (at-frame).before)

pub returns-in-Frame-clause-buf_after : goal.returns-in-Frame-clause-buf_after
returns-in-Frame-clause-buf_after c =
    let at-frame : (let a = c.args in AtFrame a.format a.s.now a.places.stop c.scan-found.result.place c.scan-found.result.reach c.in-Frame.used (payload_at a.format (drop c.scan-found.result.place a.s.now) c.in-Frame.len)) = let a = c.args in
    let pre = c.requires.scannable in
    scan_found_from a.places.ended a.format a.s.now a.places.stop a.places.from a.places.reach pre.inside pre.reached pre.onward
    (scanned a.format a.s.now c.scan-found.result)
    c.scan-found.ensures.result_value _ _ (ap (stop_of a.format (drop c.scan-found.result.place a.s.now)) c.in-Frame.is) in
    let at = drop c.scan-found.result.place c.args.s.now in c.unpack.ensures.buf_after
    ∙ ap (λ (l : List ℕ). unpacked c.args.format l c.in-Frame.len c.args.buf.now) (take_rest c.args.s.now c.scan-found.result.place)
    ∙ unpacked_frame c.args.format at c.in-Frame.used c.in-Frame.len c.args.buf.now (at-frame).is_frame c.requires.in_bounds
    ∙ sym (ap (λ (e : ScanEnd). stop_buffer (stop_of c.args.format at e) c.args.buf.now) c.in-Frame.is)
