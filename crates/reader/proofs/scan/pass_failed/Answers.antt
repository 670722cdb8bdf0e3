-- `reader::scan::pass_failed` meets its contract: a failed start passes over its own place and those of bytes that start no frame.
-- Assumes nothing.
use Prim.Native.Nat.{ℕ, ◌+◌, ◌-◌, min}
use native.Mathlib.Omega.{arith}
use mathlib.Core.Path.{◌≡◌, sym, ap, ap₂, ◌∙◌, subst}
use Rattle.reader.specs.Scan.{passed_by, step_to, PassesOver}
use Rattle.reader.proofs.Passing.{start_failed}
use Rattle.reader.proofs.scan.pass_failed.Goals as goal

pub passed_by-requires : goal.passed_by-requires
passed_by-requires c =
    let r = c.requires in (start_failed c.args.format c.args.s.now c.args.place c.args.stop c.args.judged r.stop_in_bounds r.place_lt_stop r.started r.failed).some

pub overflow_add-place : goal.overflow_add-place
overflow_add-place c =
    let r = c.requires in
    let h = start_failed c.args.format c.args.s.now c.args.place c.args.stop c.args.judged r.stop_in_bounds r.place_lt_stop r.started r.failed in
    omega (arith, h.by, h.there, c.passed_by.ensures, r.s_len_bound)

pub overflow_add-result : goal.overflow_add-result
overflow_add-result c =
    let r = c.requires in
    let h = start_failed c.args.format c.args.s.now c.args.place c.args.stop c.args.judged r.stop_in_bounds r.place_lt_stop r.started r.failed in
    omega (arith, h.there, r.s_len_bound)

pub failed_bytes-requires-clause-judged_bound : goal.failed_bytes-requires-clause-judged_bound
failed_bytes-requires-clause-judged_bound c =
    let r = c.requires in
    let h = start_failed c.args.format c.args.s.now c.args.place c.args.stop c.args.judged r.stop_in_bounds r.place_lt_stop r.started r.failed in
    omega (arith, h.there, r.s_len_bound)

pub failed_bytes-requires-clause-le_places : goal.failed_bytes-requires-clause-le_places
failed_bytes-requires-clause-le_places c =
    let r = c.requires in
    let h = start_failed c.args.format c.args.s.now c.args.place c.args.stop c.args.judged r.stop_in_bounds r.place_lt_stop r.started r.failed in
    omega (arith, h.onward, c.min-next.ensures, c.passed_by.ensures)

pub returns-clause-in_bounds : goal.returns-clause-in_bounds
returns-clause-in_bounds c =
    let r = c.requires in
    (start_failed c.args.format c.args.s.now c.args.place c.args.stop c.args.judged r.stop_in_bounds r.place_lt_stop r.started r.failed).there

pub returns-clause-passes : goal.returns-clause-passes
returns-clause-passes c =
    let r = c.requires in
    let h = start_failed c.args.format c.args.s.now c.args.place c.args.stop c.args.judged r.stop_in_bounds r.place_lt_stop r.started r.failed in
    let next : c.min-next.result ≡ min (c.args.place + passed_by c.args.format c.args.judged) c.args.stop =
    c.min-next.ensures ∙ ap (λ (n : ℕ). min (c.args.place + n) c.args.stop) c.passed_by.ensures in
    let bytes = c.failed_bytes.ensures ∙ ap (λ (n : ℕ). c.args.judged + (n - c.args.place - 1)) next in
    λ ended.
    subst (PassesOver ended c.args.format c.args.s.now c.args.place c.args.stop)
    (ap₂ (λ (n k : ℕ). step_to n (c.args.place + c.args.judged) k) (sym next) (sym bytes))
    (h.passes ended)
