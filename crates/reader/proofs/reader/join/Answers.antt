-- `reader::reader::join` meets its contract: the held bytes were copied to the front of the array, and the chunk's front behind them.
-- Assumes nothing.
use Prim.Native.Nat.{ℕ, ◌+◌, ◌-◌, ◌≤◌, min}
use native.Mathlib.Nat.{le_refl}
use native.Mathlib.Omega.{arith}
use mathlib.Core.Path.{◌≡◌, refl, sym, ap, ap₂, ◌∙◌}
use mathlib.Core.List.{List, ◌++◌}
use lib.ListN.{length, take, replicate, length-append, length-replicate}
use lib.Seq.{paste, take-paste, take-length, length-take-le, length-paste}
use Rattle.frame.specs.Framing.{limit}
use Rattle.reader.specs.Feeding.{joined}
use Rattle.frame.proofs.Copying.{copied, copied_at}
use Rattle.frame.proofs.Lists.{front_of_paste, take_least}
use Rattle.frame.proofs.Framings.{limit_most}
use Rattle.reader.proofs.reader.join.Goals as goal

-- Two copies in a row: h to the front of z, and s behind it.
copies : (z h s : List ℕ) (k n : ℕ) → length h ≡ k → length s ≡ n → k + n ≤ length z
    → take (k + n) (paste (paste z 0 h (length h)) k s (length s)) ≡ h ++ s
copies z h s k n e f m =
    let d : List ℕ = paste z 0 h (length h) in
    let long : length d ≡ length z = length-paste z 0 h (length h) (omega arith) (le_refl (length h)) in
    ap (λ (i : ℕ). take (k + n) (paste d k s i)) f
    ∙ take-paste d k s n (omega arith) (omega arith)
    ∙ ap₂ (λ (x y : List ℕ). x ++ y)
    (ap (λ (i : ℕ). take i d) (sym e) ∙ front_of_paste z h)
    (ap (λ (i : ℕ). take i s) (sym f) ∙ take-length s)

pub returns : goal.returns
returns c =
    let zeros : length c.copy.new.to ≡ 1034 = c.copy.auto.to ∙ length-replicate {A = ℕ} 1034 0 in
    let least : c.min-more.result ≡ min (length c.args.chunk.now) (limit c.args.format) = c.min-more.ensures ∙ ap (min (length c.args.chunk.now)) c.limit_of.ensures in
    let front : List ℕ = take c.min-more.result c.args.chunk.now in
    let long : length front ≡ c.min-more.result = length-take-le c.min-more.result c.args.chunk.now (omega arith) in
    let same : c.args.held.now ++ front ≡ joined c.args.format c.args.held.now c.args.chunk.now =
    ap (λ (l : List ℕ). c.args.held.now ++ l) (ap (λ (i : ℕ). take i c.args.chunk.now) least ∙ take_least c.args.chunk.now (limit c.args.format))
    in
    record {
      size = omega (arith, long, length-append c.args.held.now front, ap length same);
      bytes = ap (take (length c.args.held.now + c.min-more.result)) (copied_at c.copy.new.to front _ (length c.args.held.now) (1034 - length c.args.held.now) (omega (arith, zeros))
          c.copy-2.ensures.bytes
          ∙ ap (λ (d : List ℕ). paste d (length c.args.held.now) front (length front)) (copied _ c.args.held.now _ c.copy.ensures.bytes))
          ∙ copies (replicate 1034 0) c.args.held.now front (length c.args.held.now) c.min-more.result refl long (omega (arith, limit_most c.args.format, length-replicate {A = ℕ} 1034 0)) ∙ same;
    }
