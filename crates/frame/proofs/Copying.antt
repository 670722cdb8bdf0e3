-- Laws of copies: what `octets::copy` leaves in the slice that it fills, in the words of `paste`, and of what a verdict leaves in the buffer.
-- Assumes nothing.
use Rattle.std.proofs.Common.{◌≡◌, ℕ, ◌+◌, ◌-◌, ◌≤◌, List, [], ◌++◌, length, take, drop, sym, refl, ap, ◌∙◌, ap₂, append_assoc, append-nil, zero-add, arith, length-drop, drop-drop, le-leb}
use borrow.Rule.Slice.PartMut.{put_mid}
use lib.Seq.{paste, drop-length}
use Rattle.frame.specs.Checks.{Verdict, payload_in}
use Rattle.frame.specs.Framing.{in_front}
use Rattle.frame.specs.Judged.{verdict_of, with_room}
use Rattle.frame.specs.declared.framing.Format.{Format}
use Rattle.frame.specs.declared.framing.Judged.{Judged}
use Rattle.frame.specs.declared.framing.Judged.TheVariants.{Undecided, Failed, Frame}
use Rattle.frame.proofs.Lists.{take_rest}

-- A copy to the front of a slice.
pub copied : (d s x : List ℕ) → x ≡ take (length s) s ++ drop (length s) d → x ≡ paste d 0 s (length s)
copied d s x e = e ∙ ap (λ (n : ℕ). take (length s) s ++ drop n d) (sym (zero-add (length s)))

-- A copy to a slice from an index on: the part from there on is filled from its front, and put back.
pub copied_at :
    (d s x : List ℕ) (at k : ℕ) → k ≡ length d - at → x ≡ take (length s) s ++ drop (length s) (take k (drop at d)) →
    put_mid at k d x ≡ paste d at s (length s)
copied_at d s x at k e h =
    let part : take k (drop at d) ≡ drop at d = ap (λ (n : ℕ). take n (drop at d)) e ∙ take_rest d at in
    let size : k ≡ length (drop at d) = omega (arith, length-drop at d) in
    let none : drop k (drop at d) ≡ [] = ap (λ (n : ℕ). drop n (drop at d)) size ∙ drop-length (drop at d) in
    let filled : x ≡ take (length s) s ++ drop (at + length s) d =
    h ∙ ap (λ (l : List ℕ). take (length s) s ++ drop (length s) l) part ∙ ap (λ (l : List ℕ). take (length s) s ++ l) (drop-drop (length s) at d)
    in
    ap₂ (λ (y z : List ℕ). take at d ++ (y ++ z)) filled none
    ∙ ap (λ (l : List ℕ). take at d ++ l) (append-nil (take (length s) s ++ drop (at + length s) d))
    ∙ sym (append_assoc (take at d) (take (length s) s) (drop (at + length s) d))

-- The buffer stays where the verdict is no frame.
pub stays : (f : Format) (s buf : List ℕ) (v : Judged) → ((used len : ℕ) → v ≡ Frame used len → ⊥) → in_front (payload_in (verdict_of f s v)) buf ≡ buf
stays f s buf Undecided h = refl
stays f s buf (Failed r judged) h = refl
stays f s buf (Frame used len) h = absurd (h used len refl)

-- A buffer with room for the longest payload is not refused.
pub with_room_lem : (v : Verdict) (buf : List ℕ) → 256 ≤ length buf → with_room buf v ≡ v
with_room_lem v buf h = rw (le-leb 256 (length buf) h)
