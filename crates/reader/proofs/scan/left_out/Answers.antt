-- `reader::scan::left_out` meets its contract: a scan that stopped at the first place counted the bytes judged there, and a scan of that place alone does.
-- Assumes nothing.
use Prim.Native.Nat.{◌≤◌}
use native.Mathlib.Omega.{arith}
use mathlib.Core.Logic.{⊎_elim}
use mathlib.Core.Path.{◌≡◌, sym, ap, ◌∙◌}
use lib.ListN.{length, take}
use Rattle.frame.specs.Framing.{judge, judged_at}
use Rattle.reader.specs.Scan.{judging, Scanned, scan_from, scan_judged, stop_buffer}
use Rattle.frame.proofs.Numbers.{le_or_lt}
use Rattle.reader.proofs.Counting.{judged_at_some, count_one, count_stays, known_front, front_stops}
use Rattle.reader.proofs.scan.left_out.Goals as goal

pub returns-then-found-eq0-clause-value : goal.returns-then-found-eq0-clause-value
returns-then-found-eq0-clause-value c =
    let judgement = judging c.requires.ends c.args.format in
    let first : (scan_from judgement c.requires.places 0 c.requires.reached c.args.s.now).place ≡ 0 =
    sym (ap (λ (x : Scanned). x.place) c.requires.scans) ∙ c.if-found-eq0.true
    in
    let stays : 1 ≤ c.requires.places → scan_judged c.args.format judgement c.requires.places c.args.s.now ≡ judged_at c.args.format c.args.s.now =
    λ l. count_stays judgement c.requires.reached c.args.s.now c.args.format c.requires.places l first
    in ⊎_elim (λ l. omega (arith, c.min.ensures, c.requires.few)) (λ l. omega (arith, c.min.ensures, c.requires.counts, stays l)) (le_or_lt c.requires.places 0)

pub returns-then-known-le1-clause-value : goal.returns-then-known-le1-clause-value
returns-then-known-le1-clause-value c =
    ⊎_elim (λ l. omega arith) (λ l. omega (arith, c.requires.few, c.requires.inside, judged_at_some c.args.format c.args.s.now (omega (arith, c.requires.few, c.requires.inside))))
    (le_or_lt c.args.known 0)

pub returns-clause-value : goal.returns-clause-value
returns-clause-value c =
    let known-there : c.args.known ≤ length c.args.s.now = omega (arith, c.requires.few, c.requires.inside) in
    let judgement = judging c.requires.ends c.args.format in
    let front = take c.args.known c.args.s.now in
    let later : (scan_from judgement c.requires.places 0 c.requires.reached c.args.s.now).place ≡ 0 → ⊥ =
    λ e. c.if-found-eq0.false (ap (λ (y : Scanned). y.place) c.requires.scans ∙ e)
    in c.find.ensures.judged_value ∙ count_one c.args.format (judge c.args.format) front ∙ known_front c.args.format c.args.known c.args.s.now (known-there)

pub returns-clause-buf_unchanged : goal.returns-clause-buf_unchanged
returns-clause-buf_unchanged c =
    let known-there : c.args.known ≤ length c.args.s.now = omega (arith, c.requires.few, c.requires.inside) in
    let judgement = judging c.requires.ends c.args.format in
    let front = take c.args.known c.args.s.now in
    let later : (scan_from judgement c.requires.places 0 c.requires.reached c.args.s.now).place ≡ 0 → ⊥ =
    λ e. c.if-found-eq0.false (ap (λ (y : Scanned). y.place) c.requires.scans ∙ e)
    in c.find.ensures.buf_after
    ∙ ap (λ (y : Scanned). stop_buffer y.stop c.args.buf.now) c.find.ensures.result_value
    ∙ front_stops c.requires.ends c.args.format c.args.known c.args.s.now c.args.buf.now c.requires.places c.requires.reached later
