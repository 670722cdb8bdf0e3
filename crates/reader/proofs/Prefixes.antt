-- Laws of the checks over the front of a list: how many bytes a decision needs.
-- Assumes nothing.
use Prim.Native.Nat.{ℕ, zero, suc, ◌≤◌, ◌<◌, zero-le}
use native.Mathlib.Nat.{not-suc-le-zero, le_trans}
use native.Mathlib.Omega.{arith}
use mathlib.Core.Path.{◌≡◌, refl, sym, ap, ◌∙◌}
use mathlib.Core.List.{List, [], ◌∷◌}
use mathlib.Core.Bool.{cond}
use lib.Dec.{eqb}
use lib.ListN.{length, take}
use Rattle.frame.specs.Checks.{Checks, next, fails, whole, byte, Verdict, cut, refused, frame, behind, run}
use Rattle.frame.specs.Binary.{binary}
use Rattle.frame.specs.Ascii.{ascii, colon}
use Rattle.frame.specs.Framing.{checks, judge, limit}
use Rattle.reader.specs.Scan.{judged_bytes}
use Rattle.frame.specs.Further.{Decided, Sized}
use Rattle.frame.specs.declared.framing.Format.{Format}
use Rattle.frame.specs.declared.framing.Format.TheVariants.{Binary, Ascii}
use Rattle.frame.proofs.Trees.{decided_behind, Bounded, bounded}
use Rattle.frame.proofs.Shapes.{cut_behind}
use Rattle.frame.proofs.Framings.{within_limit}

-- A decision behind one byte was judged from one byte more.
judged_behind_lem : (v : Verdict) → Decided v → judged_bytes (behind 1 v) ≡ suc (judged_bytes v)
judged_behind_lem cut d = absurd d
judged_behind_lem (refused judged n) d = omega arith
judged_behind_lem (frame used p) d = omega arith

-- Bytes behind one byte that were judged were judged from one byte fewer.
judged_fewer : (k : ℕ) (v : Verdict) → suc k < judged_bytes (behind 1 v) → k < judged_bytes v
judged_fewer k cut h = absurd (not-suc-le-zero h)
judged_fewer k (refused judged n) h = omega arith
judged_fewer k (frame used p) h = omega arith

-- The bytes that were judged are enough for the decision.
pub enough : (t : Checks) (s : List ℕ) (k : ℕ) → Decided (run t s) → judged_bytes (run t s) ≤ k → run t (take k s) ≡ run t s
enough (fails n) s k d h = refl
enough (whole p) s k d h = refl
enough (next t) [] k d h = absurd d
enough (next t) (b ∷ s) zero d h = absurd (not-suc-le-zero (rw (judged_behind_lem (run (t b) s) (decided_behind 1 (run (t b) s) d)) at h))
enough (next t) (b ∷ s) (suc k) d h =
    let e : Decided (run (t b) s) = decided_behind 1 (run (t b) s) d in
    ap (behind 1) (enough (t b) s k e (omega (arith, judged_behind_lem (run (t b) s) e)))

-- Fewer bytes are undecided.
pub too_few : (t : Checks) (s : List ℕ) (k : ℕ) → k < judged_bytes (run t s) → run t (take k s) ≡ cut
too_few (fails n) s k h = absurd (not-suc-le-zero h)
too_few (whole p) s k h = absurd (not-suc-le-zero h)
too_few (next t) [] k h = absurd (not-suc-le-zero h)
too_few (next t) (b ∷ s) zero h = refl
too_few (next t) (b ∷ s) (suc k) h = ap (behind 1) (too_few (t b) s k (judged_fewer k (run (t b) s) h))

-- The front of undecided bytes is undecided.
pub front_undecided : (t : Checks) (s : List ℕ) (k : ℕ) → run t s ≡ cut → run t (take k s) ≡ cut
front_undecided (fails n) s k e = e
front_undecided (whole p) s k e = e
front_undecided (next t) [] zero e = refl
front_undecided (next t) [] (suc k) e = refl
front_undecided (next t) (b ∷ s) zero e = refl
front_undecided (next t) (b ∷ s) (suc k) e = ap (behind 1) (front_undecided (t b) s k (cut_behind 1 (run (t b) s) e))

-- The bytes that were judged are no more than n, and among m.
judged_bounded : (n m : ℕ) (v : Verdict) → Bounded n m v → (judged_bytes v ≤ n) × (judged_bytes v ≤ m)
judged_bounded n m cut h = (zero-le, zero-le)
judged_bounded n m (refused judged k) h = h
judged_bounded n m (frame used p) h = h

-- Checks that begin with a byte need at least one.
byte_judged : (c n : ℕ) (t : Checks) (s : List ℕ) → Decided (run (byte c n t) s) → 1 ≤ judged_bytes (run (byte c n t) s)
unfolding byte
byte_judged c n t [] d = absurd d
byte_judged c n t (b ∷ s) d =
    let v : Verdict = run (cond (eqb b c) t (fails n)) s in omega (arith, judged_behind_lem v (decided_behind 1 v d))

module _ (f : Format) (s : List ℕ) where
  -- The bytes that were judged are no more than the limit, and among those that are there.
  pub judged_most_lem : judged_bytes (judge f s) ≤ limit f
  judged_most_lem = (judged_bounded (limit f) (length s) (judge f s) (bounded (limit f) (checks f) s (within_limit f))).0

  pub judged_there : judged_bytes (judge f s) ≤ length s
  judged_there = (judged_bounded (limit f) (length s) (judge f s) (bounded (limit f) (checks f) s (within_limit f))).1

-- A decision needs at least one byte.
pub judged_some : (f : Format) (s : List ℕ) → Decided (judge f s) → 1 ≤ judged_bytes (judge f s)
unfolding binary ascii
judged_some (Binary footer) s d = byte_judged 0xA5 1 _ s d
judged_some (Ascii ending) s d = byte_judged colon 1 _ s d

-- A failed start was judged from as many bytes as a frame may use.
pub refused_sized : (f : Format) (s : List ℕ) (judged n : ℕ) → judge f s ≡ refused judged n → Sized f s judged
refused_sized f s judged n q =
    record { some = rw q at (judged_some f s (rw q tt)); most = rw q at (judged_most_lem f s); there = rw q at (judged_there f s) }

-- As many bytes as the longest frame has are enough for whatever is decided.
pub limit_enough : (f : Format) (s : List ℕ) (k : ℕ) → limit f ≤ k → judge f (take k s) ≡ judge f s
limit_enough f s k l = by_verdict (judge f s) refl
  where
    by_verdict : (v : Verdict) → judge f s ≡ v → judge f (take k s) ≡ judge f s
    by_verdict cut q = front_undecided (checks f) s k q ∙ sym q
    by_verdict (refused judged n) q = enough (checks f) s k (rw q tt) (le_trans (judged_most_lem f s) l)
    by_verdict (frame used p) q = enough (checks f) s k (rw q tt) (le_trans (judged_most_lem f s) l)
