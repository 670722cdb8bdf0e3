-- Laws on writing messages.
-- Assumes nothing.
use Rattle.std.specs.Prelude.{Result, Ok, Err, MatchResult, IsErrAnd, ◌≢◌, ◌⊎◌}
use mathlib.Core.Logic.{inl, inr}
use Prim.Native.Nat.{ℕ, ◌≤◌}
use native.Mathlib.Omega.{arith}
use mathlib.Core.Path.{◌≡◌, refl, sym, ap}
use mathlib.Core.List.{List}
use mathlib.Core.Bool.{Bool, true, false, cond, ◌&&◌}
use lib.Dec.{leb}
use lib.ListN.{length}
use Rattle.frame.specs.Framing.{layout}
use Rattle.frame.specs.Refusal.{number_of as frame_number}
use Rattle.frame.specs.Single.{Writing, length_writing, no_writing, Writes as FrameWrites}
use Rattle.frame.specs.declared.framing.Framing.{Framing}
use Rattle.frame.specs.declared.refusal.Refusal.{Refusal as FrameRefusal}
use Rattle.frame.specs.declared.refusal.Refusal.TheVariants.{Start, Cut, Length as FrameLength, Checksum, Footer, Character}
use Rattle.frame.specs.declared.refusal.Refusal.TheVariants.{Buffer as FrameBuffer, Payload as FramePayload, Chunk, State}
use Rattle.message.specs.Address.{is_plain, plain_refusal}
use Rattle.message.specs.Refusal.{number_of}
use Rattle.message.specs.Write.{Writes}
use Rattle.message.specs.declared.refusal.Refusal.{Refusal}
use Rattle.message.specs.declared.refusal.Refusal.TheVariants.{Buffer, Payload}

-- A refusal of a frame is 14 or has another number, which is not 0.
frame_numbered : (e : FrameRefusal) → (e ≡ FramePayload) ⊎ ((1 ≤ frame_number e) × (frame_number e ≢ 14))
frame_numbered FramePayload = inl refl
frame_numbered Start = inr (omega arith, λ h. omega arith)
frame_numbered Cut = inr (omega arith, λ h. omega arith)
frame_numbered FrameLength = inr (omega arith, λ h. omega arith)
frame_numbered Checksum = inr (omega arith, λ h. omega arith)
frame_numbered Footer = inr (omega arith, λ h. omega arith)
frame_numbered Character = inr (omega arith, λ h. omega arith)
frame_numbered FrameBuffer = inr (omega arith, λ h. omega arith)
frame_numbered Chunk = inr (omega arith, λ h. omega arith)
frame_numbered State = inr (omega arith, λ h. omega arith)

-- A refusal of a write that is not 14 is 13.
only_buffer : (w l : Bool) (n len : ℕ) → no_writing n ≡ cond w (cond l (length_writing len) (no_writing 13)) (no_writing 14)
    → 1 ≤ n → (n ≡ 14 → ⊥) → n ≡ 13
only_buffer true true n len e h k = let zero : n ≡ 0 = ap (λ (x : Writing). x.number) e in omega arith
only_buffer true false n len e h k = ap (λ (x : Writing). x.number) e
only_buffer false l n len e h k = absurd (k (ap (λ (x : Writing). x.number) e))

-- The answer of the frame's write, as this crate's: the length, or a refusal that 14 stands for where it is 14, and else 13.
pub writes_sent : (f : Framing) (p buf : List ℕ) (answer : Result ℕ FrameRefusal) (mine : Result ℕ Refusal) (after : List ℕ) (Q : FrameRefusal → Refusal → Type 0)
    → ((e : FrameRefusal) (r : Refusal) → Q e r → (e ≡ FramePayload → r ≡ Payload) × (e ≢ FramePayload → r ≡ Buffer))
    → MatchResult answer (λ n. mine ≡ Ok n) (λ e. IsErrAnd mine (Q e)) → FrameWrites f p buf answer after → Writes f 0 p buf mine after
writes_sent f p buf (Ok n) (Ok k) after Q q is h = let same : k ≡ n = cc in record { answers = rw same h.answers; leaves = h.leaves }
writes_sent f p buf (Ok n) (Err r) after Q q is h = cc
writes_sent f p buf (Err e) (Ok k) after Q q is h = absurd is
writes_sent f p buf (Err e) (Err r) after Q q is h = record { answers = rw (same (frame_numbered e)) h.answers; leaves = h.leaves }
  where
    same : (e ≡ FramePayload) ⊎ ((1 ≤ frame_number e) × (frame_number e ≢ 14)) → number_of r ≡ frame_number e
    same (inl payload) = rw ((q e r is).0 payload, payload)
    same (inr (some, other)) =
        rw ((q e r is).1 (λ payload. other (ap frame_number payload)))
        (sym (only_buffer (leb 1 (length p) && leb (length p) 256) (leb (length (layout f p)) (length buf)) (frame_number e) (length (layout f p)) h.answers some other))

-- A message that needs a plain address and has one is written as its payload is.
pub plain_written : {f : Framing} (a : ℕ) {p buf : List ℕ} → is_plain a ≡ true → {r : Result ℕ Refusal} {after : List ℕ} → Writes f 0 p buf r after
    → Writes f (plain_refusal a) p buf r after
plain_written a plain w = rw plain w
