-- `reader::reader::quiet_held` meets its contract: the scan of the bytes that end the segment gives what the quiet call gives.
-- Assumes nothing.
use Prim.Native.Nat.{ℕ, ◌+◌, ◌-◌}
use native.Mathlib.Omega.{arith}
use mathlib.Core.Bool.{Bool, false}
use mathlib.Core.List.{List, [], ◌∷◌}
use mathlib.Core.Logic.{⊎_elim}
use mathlib.Core.Path.{◌≡◌, sym, ap, ap₂, ◌∙◌, subst}
use lib.ListN.{length, drop}
use Rattle.frame.specs.Framing.{is_open}
use Rattle.frame.specs.Judged.{payload_at}
use Rattle.frame.specs.Rule.{output}
use Rattle.reader.specs.Reader.{holding, called, quiet_held, Holds, frame_values, no_frame_values, quiet_values_of}
use Rattle.reader.specs.Scan.{Stop, scanned, stop_of, stop_buffer}
use Rattle.reader.specs.declared.scan.ScanEnd.TheVariants.{Passed}
use Rattle.frame.proofs.Lists.{take_rest}
use Rattle.frame.proofs.Framings.{some_used, payload_there, limit_most}
use Rattle.frame.proofs.Optional.{open_at}
use Rattle.reader.proofs.ScanCalls.{scan_quiet_found, scan_quiet_passed}
use Rattle.reader.proofs.Readers.{quiet_right}
use Rattle.reader.proofs.Joining.{quiet_facts}
use Rattle.reader.proofs.reader.quiet_held.Goals as goal

pub overflow_add-next : goal.overflow_add-next
overflow_add-next c =
    let e = c.find_more-found.ensures in
    let h = quiet_facts c.args.format c.args.s.now c.args.known _ _ e.result_value e.judged_value in
    let there = (h.frame _ _ (ap (stop_of c.args.format (drop c.find_more-found.result.place c.args.s.now)) c.in-Frame.is)).1 in
    omega (arith, there, c.requires.s_len_bound, limit_most c.args.format)

pub slice_bounds-hold-count : goal.slice_bounds-hold-count
slice_bounds-hold-count c =
    let e = c.find_more-found.ensures in
    let h = quiet_facts c.args.format c.args.s.now c.args.known _ _ e.result_value e.judged_value in
    (h.frame _ _ (ap (stop_of c.args.format (drop c.find_more-found.result.place c.args.s.now)) c.in-Frame.is)).1

pub slice_bounds-hold-start : goal.slice_bounds-hold-start
slice_bounds-hold-start c =
    let e = c.find_more-found.ensures in
    let h = quiet_facts c.args.format c.args.s.now c.args.known _ _ e.result_value e.judged_value in
    (h.frame _ _ (ap (stop_of c.args.format (drop c.find_more-found.result.place c.args.s.now)) c.in-Frame.is)).1

pub overflow_sub-began : goal.overflow_sub-began
overflow_sub-began c =
    let e = c.find_more-found.ensures in
    let h = quiet_facts c.args.format c.args.s.now c.args.known _ _ e.result_value e.judged_value in
    omega (arith, (h.frame _ _ (ap (stop_of c.args.format (drop c.find_more-found.result.place c.args.s.now)) c.in-Frame.is)).1)

pub returns-in-Frame : goal.returns-in-Frame
returns-in-Frame c =
    let f = c.args.format in
    let s = c.args.s.now in
    let place = c.find_more-found.result.place in
    let used = c.in-Frame.used in
    let e = c.find_more-found.ensures in
    let h = quiet_facts f s c.args.known _ _ e.result_value e.judged_value in
    let at = drop place s in
    let p = payload_at f at c.in-Frame.len in
    let next = drop (place + used) s in
    let stops = ap (stop_of f at) c.in-Frame.is in
    let there = (h.frame used p stops).0 in
    let t = payload_there f at used c.in-Frame.len there.is_frame in
    quiet_right f (quiet_held f s) (called 0 (output (p ∷ []) place) (length s - place) next (is_open f used at)) _ c.args.buf.now _ _
    (scan_quiet_found f s (scanned f s c.find_more-found.result) used p h.scan stops)
    (record {
      values = ap₂ (λ (j n : ℕ). frame_values 0 place j n (length s - place)) h.counts (sym t.1);
      state = subst (λ (q : Bool). Holds (holding f next q 0) c.hold-reader.result)
          (c.may_follow.ensures ∙ open_at f used (some_used f at _ _ there.is_frame) place s)
          (subst (λ (l : List ℕ). Holds (holding f l c.may_follow.result 0) c.hold-reader.result) (take_rest s (place + used)) c.hold-reader.ensures);
      buffer = e.buf_after ∙ ap (λ (x : Stop). stop_buffer x c.args.buf.now) stops;
    })

pub returns-in-Undecided : goal.returns-in-Undecided
returns-in-Undecided c =
    let f = c.args.format in
    let s = c.args.s.now in
    let place = c.find_more-found.result.place in
    let e = c.find_more-found.ensures in
    let h = quiet_facts f s c.args.known _ _ e.result_value e.judged_value in
    let at = drop place s in
    let passes : c.find_more-found.result.end ≡ Passed = ⊎_elim (λ u. absurd (h.decided (ap (stop_of f at) u))) (λ p. p) c.in-Undecided.is in
    let stops = ap (stop_of f at) passes in
    quiet_right f (quiet_held f s) (called 0 (output [] place) 0 [] false) _ c.args.buf.now _ _
    (scan_quiet_passed f s (scanned f s c.find_more-found.result) h.scan stops)
    (record {
      values = ap quiet_values_of c.emptied.ensures.answer_value ∙ ap (no_frame_values 0 place) h.counts;
      state = c.emptied.ensures.reader_value;
      buffer = e.buf_after ∙ ap (λ (x : Stop). stop_buffer x c.args.buf.now) stops;
    })
