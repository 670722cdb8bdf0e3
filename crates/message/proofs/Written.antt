-- What stands in the buffer where a write answers with a length, and when it does so.
-- Assumes nothing.
use Rattle.std.specs.Prelude.{Ok}
use Prim.Native.Nat.{ℕ, ◌≤◌}
use mathlib.Core.Bool.{and-eq-true_iff}
use mathlib.Core.Path.{◌≡◌, refl, sym, ap, ◌∙◌}
use mathlib.Core.List.{List}
use mathlib.Core.Bool.{Bool, true, false, cond, true≢false}
use native.Mathlib.Omega.{arith}
use lib.Dec.{leb, eqb}
use lib.ListN.{length, take, drop}
use lib.Seq.{take_at}
use borrow.Author.Tests.{leb-true, le-leb, eqb-true, eq-eqb}
use Rattle.frame.specs.Framing.{layout, in_front}
use Rattle.frame.specs.Single.{Writing, length_writing, no_writing, writable}
use Rattle.frame.specs.declared.framing.Framing.{Framing}
use Rattle.message.specs.Write.{Writes}

-- A write that answers with a length was not refused.
went_on : (t : Bool) (n : ℕ) {x : Writing} {len : ℕ} → (t ≡ false → n ≡ 0 → ⊥) → length_writing len ≡ cond t x (no_writing n) →
    (t ≡ true) × (length_writing len ≡ x)
went_on true n numbered e = (refl, e)
went_on false n numbered e = absurd (numbered refl (sym (ap (λ (w : Writing). w.number) e)))

-- Where a write answers with a length, the message is not refused, the payload is not too long, and the frame stands in the front.
pub record Wrote (f : Framing) (refusal : ℕ) (p : List ℕ) (len : ℕ) (after : List ℕ) : Type 0 where
  pub allowed : refusal ≡ 0
  pub most : length p ≤ 256
  pub count : len ≡ length (layout f p)
  pub front : take len after ≡ layout f p

pub wrote : (f : Framing) (refusal : ℕ) (p buf : List ℕ) (len : ℕ) (after : List ℕ) → Writes f refusal p buf (Ok len) after →
    Wrote f refusal p len after
wrote f refusal p buf len after h =
    let out : List ℕ = layout f p in
    let none = went_on (eqb refusal 0) refusal (λ other e. true≢false (sym (eq-eqb refusal 0 e) ∙ other)) h.answers in
    let fits = went_on (writable p) 14 (λ t e. omega arith) none.1 in
    let room = went_on (leb (length out) (length buf)) 13 (λ t e. omega arith) fits.1 in
    let both = (and-eq-true_iff (leb 1 (length p)) (leb (length p) 256)).0 fits.0 in
    let put : after ≡ in_front out buf = h.leaves ∙ rw (none.0, fits.0, room.0) in
    let count : len ≡ length out = ap (λ (w : Writing). w.len) room.1 in
    record {
      allowed = eqb-true refusal 0 none.0;
      most = leb-true (length p) 256 both.1;
      count = count;
      front = ap (take len) put ∙ take_at out (drop (length out) buf) len (sym count);
    }

-- Where all its tests hold, a write answers with the frame's length.
pub wrote_back : (f : Framing) (refusal : ℕ) (p buf : List ℕ) → refusal ≡ 0 → 1 ≤ length p → length p ≤ 256 → length (layout f p) ≤ length buf →
    Writes f refusal p buf (Ok (length (layout f p))) (in_front (layout f p) buf)
wrote_back f refusal p buf none some most room =
    let allowed = eq-eqb refusal 0 none in
    let least = le-leb 1 (length p) some in
    let short = le-leb (length p) 256 most in
    let fits = le-leb (length (layout f p)) (length buf) room in
    record { answers = rw (allowed, least, short, fits); leaves = rw (allowed, least, short, fits) }
