-- `frame::binary::pack` meets its contract: what is written grows from the front, by the start bytes, the length, the payload, its checksum and the
-- footer, and is then the published layout.
-- Assumes nothing.
use Rattle.std.proofs.Common.{◌≡◌, ℕ, ◌+◌, ◌/◌, ◌%◌, ◌<◌, ◌≤◌, List, [], ◌∷◌, ◌++◌, length, drop, set, get_or, sym, refl, ap, ◌∙◌, ap₂, append_assoc, arith}
use lib.Seq.{paste}
use Rattle.frame.specs.Binary.{xor_of, binary_front, binary_ending}
use Rattle.frame.specs.Framing.{in_front, layout}
use Rattle.frame.specs.declared.framing.Framing.TheVariants.{Binary}
use Rattle.frame.proofs.Copying.{copied_at}
use Rattle.frame.proofs.Lists.{wrote_two, wrote_many}
use Rattle.frame.proofs.Framings.{length_layout}
use Rattle.frame.proofs.binary.pack.Goals as goal

-- What is written before the payload: the start bytes and the length.
abbrev head : ℕ → List ℕ
head n = 0xA5 ∷ 0x5A ∷ n / 256 ∷ n % 256 ∷ []

-- The payload and the stores behind it in a row.
stores : (p d : List ℕ) (end : ℕ) → 4 + length p ≡ end → end + 1 < length d → length p ≤ 256
    → set (set (paste (head (0x8000 + length p) ++ drop 4 d) 4 p (length p)) end (xor_of p)) (end + 1) 0x04
    ≡ in_front (layout Binary p) d
unfolding binary_front
stores p d end e h m =
    let n : ℕ = 0x8000 + length p in
    let w : List ℕ = head n in
    let all : end + 2 ≡ length (layout Binary p) = omega (arith, length_layout Binary p) in
    ap (λ (l : List ℕ). set (set l end (xor_of p)) (end + 1) 0x04) (wrote_many w p d 4 refl (omega arith))
    ∙ ap (λ (k : ℕ). set (set ((w ++ p) ++ drop k d) end (xor_of p)) (end + 1) 0x04) e
    ∙ wrote_two (w ++ p) d (xor_of p) 0x04 end (omega arith) h
    ∙ ap (λ (q : List ℕ). (w ++ q) ++ drop (end + 2) d) (sym (append_assoc p (xor_of p ∷ []) binary_ending))
    ∙ ap (λ (k : ℕ). layout Binary p ++ drop k d) all

pub returns : goal.returns
returns c =
    let p = c.args.p.now in
    let d = c.args.buf.now in
    let n = 0x8000 + length p in
    let end = 4 + length p in
    let high : get_or c.to_be_bytes-word.result 0 0 ≡ n / 256 = ap (λ (w : List ℕ). get_or w 0 0) c.to_be_bytes-word.ensures ∙ omega arith in
    let low : get_or c.to_be_bytes-word.result 1 0 ≡ n % 256 = ap (λ (w : List ℕ). get_or w 1 0) c.to_be_bytes-word.ensures in
    let begun : c.copy.new.to ≡ head n ++ drop 4 d = c.copy.ensures.bytes ∙ ap₂ (λ (x y : ℕ). 0xA5 ∷ 0x5A ∷ x ∷ y ∷ drop 4 d) high low in
    ap₂ (λ (l : List ℕ) (x : ℕ). set (set l end x) (end + 1) 0x04)
    (copied_at c.copy.new.to p _ 4 _ refl c.copy-2.ensures.bytes ∙ ap (λ (l : List ℕ). paste l 4 p (length p)) begun) c.xor_of.ensures
    ∙ stores p d end refl (omega arith) (omega arith)
