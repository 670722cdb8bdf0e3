use Rattle.std.proofs.Common.{◌*◌, ◌≡◌, ℕ, ◌+◌, ◌∙◌, List, [], ◌∷◌, ◌++◌, length, take, drop, refl, ap, ap₂, subst, sym, append_assoc, append-nil, arith, length-append, length-drop}
use Rattle.std.proofs.Math.Seq.{paste, take-length, drop-drop, take-append_seam, drop-append_seam}
use lib.ListN.{length-take}
use Rattle.std.proofs.lemmas.List.{take-append-drop}
use native.Mathlib.Nat.{zero-add}
use Rattle.frame.specs.Hex.{hex}
use Rattle.listing.specs.Line.{data_field}
use Rattle.std.specs.Borrow.{MutBor}
use Rattle.frame.specs.Framing.{in_front}
use Rattle.listing.specs.declared.text.Listing.{Listing}
use Rattle.listing.specs.Parts.{HasRoom, Writes, Adds, Starts, PartlyWritten}

-- Text in two parts.
pub writes_both : {g u v : Listing} {a b : List ℕ} → Writes g a u → Writes u b v → Writes g (a ++ b) v
writes_both {g} {u} {v} {a} {b} p q =
    let rest : drop (u.lines.len + length b) u.out.now ≡ drop (g.lines.len + length (a ++ b)) g.out.now =
    sym (drop-drop (length b) u.lines.len u.out.now)
    ∙ ap (drop (length b)) p.rest
    ∙ drop-drop (length b) (g.lines.len + length a) g.out.now
    ∙ ap (λ (n : ℕ). drop n g.out.now) (omega (arith, length-append a b)) in
    record {
      same_reference = cc;
      size = cc;
      len = omega (arith, p.len, q.len, length-append a b);
      text = q.text ∙ ap (λ (l : List ℕ). l ++ b) p.text ∙ append_assoc (take g.lines.len g.out.now) a b;
      rest = q.rest ∙ rest;
    }

pub puts_both : {g u v : Listing} {a b : List ℕ} → Adds g a 0 0 u → Adds u b 0 0 v → Adds g (a ++ b) 0 0 v
puts_both p q = record { text = writes_both p.text q.text; noise = omega (arith, p.noise, q.noise); judged = omega (arith, p.judged, q.judged) }

-- Text that is copied behind what is written.
pub puts_copy :
    {g g' : Listing} {s : List ℕ} → HasRoom g s → g'.out.ghost_name ≡ g.out.ghost_name →
    g'.out.now ≡ take g.lines.len g.out.now ++ s ++ drop (g.lines.len + length s) g.out.now → g'.lines.len ≡ g.lines.len + length s →
    g'.lines.noise ≡ g.lines.noise + 0 → g'.lines.judged ≡ g.lines.judged + 0 → Adds g s 0 0 g'
puts_copy {g} {g'} {s} h same bytes len n j =
    let front : List ℕ = take g.lines.len g.out.now ++ s in
    let rest : List ℕ = drop (g.lines.len + length s) g.out.now in
    let at : g'.lines.len ≡ length front = simp (length-append, length-take) (omega (arith, len)) in
    record {
      text = record {
        same_reference = same;
        size = ap length bytes ∙ simp (length-append, length-take, length-drop) (omega arith);
        len = len;
        text = rw (at, bytes) (take-append_seam front rest);
        rest = rw (at, bytes) (drop-append_seam front rest);
      };
      noise = n;
      judged = j;
    }

-- Nothing is written yet.
pub writes_none : (g : Listing) → Writes g [] g
writes_none g = record {
  same_reference = refl;
  size = refl;
  len = omega arith;
  text = sym (append-nil (take g.lines.len g.out.now));
  rest = ap (λ (n : ℕ). drop n g.out.now) (omega arith);
}

-- Text that begins at a buffer's front is in its front.
pub starts_front : {out : MutBor (List ℕ)} {g g' : Listing} {s : List ℕ} → Starts out g → Writes g s g' →
    (g'.lines.len ≡ length s) × (g'.out.now ≡ in_front s out.now)
starts_front {out} {g} {g'} {s} b p =
    let front : take g'.lines.len g'.out.now ≡ s = p.text ∙ rw b.len in
    let rest : drop g'.lines.len g'.out.now ≡ drop (length s) out.now = p.rest ∙ rw (b.len, b.bytes, zero-add (length s)) in
    (omega (arith, b.len, p.len), sym (take-append-drop g'.lines.len g'.out.now) ∙ ap₂ ◌++◌ front rest)

-- Nothing of a text is written yet.
pub partly_none : (g : Listing) {whole rest : List ℕ} → rest ≡ whole → PartlyWritten g whole rest g
partly_none g e = record { done = []; writes = writes_none g; all = e }

-- One part more is written.
pub partly_next : {g u v : Listing} {whole part rest : List ℕ} → PartlyWritten g whole (part ++ rest) u → Writes u part v → PartlyWritten g whole rest v
partly_next {part = part} {rest} p q =
    record { done = p.done ++ part; writes = writes_both p.writes q; all = append_assoc p.done part rest ∙ p.all }

-- The last part is.
pub partly_last : {g u v : Listing} {whole part : List ℕ} → PartlyWritten g whole part u → Writes u part v → Writes g whole v
partly_last {g} {v = v} p q = subst (λ (s : List ℕ). Writes g s v) p.all (writes_both p.writes q)

-- There is room for what is left, and for the next part of it.
pub partly_room : {g u : Listing} {whole : List ℕ} (rest : List ℕ) → HasRoom g whole → PartlyWritten g whole rest u → HasRoom u rest
partly_room rest h p = omega (arith, p.writes.len, p.writes.size, simp length-append at (ap length p.all))

pub part_room : {g u : Listing} {whole : List ℕ} (part rest : List ℕ) → HasRoom g whole → PartlyWritten g whole (part ++ rest) u → HasRoom u part
part_room part rest h p = omega (arith, p.writes.len, p.writes.size, simp length-append at (ap length p.all))

-- Each byte has two digits.
pub length_hex : (s : List ℕ) → length (hex s) ≡ 2 * length s
length_hex [] = refl
length_hex (b ∷ s) = omega (arith, length_hex s)

-- Digits that are put into a buffer at a place.
pub paste_hex : (d : List ℕ) (at : ℕ) (s : List ℕ) → paste d at (hex s) (2 * length s) ≡ take at d ++ hex s ++ drop (at + length (hex s)) d
paste_hex d at s = rw (← length_hex s, take-length (hex s))

-- Where there are no data, ` -` is their field.
pub puts_none : {g g' : Listing} (s : List ℕ) → length s ≡ 0 → Adds g (0x20 ∷ 0x2D ∷ []) 0 0 g' → Adds g (data_field s) 0 0 g'
puts_none [] e h = h
puts_none (b ∷ s) e h = absurd (omega (arith, e))
