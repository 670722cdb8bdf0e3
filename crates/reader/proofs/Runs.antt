-- Laws of runs of bytes that pass a test.
-- Assumes nothing.
use Prim.Native.Nat.{ℕ, zero, suc, ◌+◌, ◌-◌, ◌≤◌, ◌<◌}
use native.Mathlib.Nat.{not-suc-le-zero}
use native.Mathlib.Omega.{arith}
use mathlib.Core.Path.{◌≡◌, refl, ap, ◌∙◌}
use mathlib.Core.List.{List, [], ◌∷◌}
use mathlib.Core.Bool.{Bool, true, false, cond}
use lib.ListN.{length, get_or, take, drop, length-take, length-drop}
use lib.Seq.{take-take, get_or-drop}
use Rattle.std.specs.List.{prefix_len}
use Rattle.octets.proofs.Prefix.{prefix_most}
use Rattle.frame.specs.DigitRuns.{all_pass}
use Rattle.frame.proofs.Numbers.{and_true, both_true}
use Rattle.reader.specs.Scan.{Skips}

-- The bytes of a run pass.
run_passes : (test : ℕ → Bool) (n : ℕ) (s : List ℕ) → n ≤ prefix_len test s → all_pass test (take n s) ≡ true
run_passes test zero s h = refl
run_passes test (suc n) [] h = absurd (not-suc-le-zero h)
run_passes test (suc n) (c ∷ s) h = by (test c) refl h (run_passes test n s)
  where
    by :
        (q : Bool) → test c ≡ q → suc n ≤ cond q (1 + prefix_len test s) 0 → (n ≤ prefix_len test s → all_pass test (take n s) ≡ true) →
        all_pass test (take (suc n) (c ∷ s)) ≡ true
    by true e l k = and_true (test c) (all_pass test (take n s)) e (k (omega arith))
    by false e l k = absurd (not-suc-le-zero l)

-- Bytes of a run from one place to another are skipped.
pub run_skips :
    (test : ℕ → Bool) (s : List ℕ) (from stop n : ℕ) → from ≤ stop → stop ≤ length s → n ≤ prefix_len test (take (stop - from) (drop from s)) →
    Skips test s from stop (from + n)
run_skips test s from stop n l m e =
    let t : List ℕ = take (stop - from) (drop from s) in
    let few : n ≤ stop - from = omega (arith, prefix_most test t, length-take (stop - from) (drop from s), length-drop from s) in
    let size : from + n - from ≡ n = omega arith in
    record {
      onward = omega arith;
      inside = omega arith;
      others = rw size (rw (take-take n (stop - from) (drop from s) few) at (run_passes test n t e));
    }

-- One element more that passes.
pass_more : (test : ℕ → Bool) (n : ℕ) (s : List ℕ) → all_pass test (take n s) ≡ true → test (get_or s n 0) ≡ true → all_pass test (take (suc n) s) ≡ true
pass_more test n [] h e = refl
pass_more test zero (c ∷ s) h e = and_true (test c) true e refl
pass_more test (suc n) (c ∷ s) h e =
    let both = both_true (test c) (all_pass test (take n s)) h in
    and_true (test c) (all_pass test (take (suc n) s)) both.0 (pass_more test n s both.1 e)

-- So is one byte more that passes.
pub skips_one :
    (test : ℕ → Bool) (s : List ℕ) (from stop at : ℕ) → Skips test s from stop at → at < stop → test (get_or s at 0) ≡ true →
    Skips test s from stop (at + 1)
skips_one test s from stop at h l e =
    let size : at + 1 - from ≡ suc (at - from) = omega (arith, h.onward) in
    let there : from + (at - from) ≡ at = omega (arith, h.onward) in
    record {
      onward = omega (arith, h.onward);
      inside = omega arith;
      others =
          rw size
          (pass_more test (at - from) (drop from s) h.others (ap (λ (k : ℕ). test k) (get_or-drop from s (at - from) 0 ∙ ap (λ (k : ℕ). get_or s k 0) there) ∙ e));
    }
