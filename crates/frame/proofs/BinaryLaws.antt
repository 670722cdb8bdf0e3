-- Laws of binary framing: its layout and its checks belong together, and how long a frame can be.
-- Assumes nothing.
use Rattle.std.proofs.Common.{◌≡◌, ℕ, suc, ◌+◌, ◌-◌, ◌*◌, ◌/◌, ◌%◌, ◌<◌, ◌≤◌, true, leb, List, [], ◌∷◌, ◌++◌, length, take, sym, ap, ◌∙◌, subst, ap₂, append_assoc, add-zero, div-add-mod', arith, length-append, le-leb, leb-true}
use native.Mathlib.Nat.{add-sub_cancel_left}
use lib.Arith.{digits_div, digits_mod}
use Rattle.frame.specs.Checks.{Checks, whole, byte, test, word, frame, behind, run, last_byte}
use Rattle.frame.specs.Framing.{layout}
use Rattle.frame.specs.Binary.{xor_of, binary_front, binary_ending, footer_byte, behind_checksum, length_word, body, binary}
use Rattle.frame.specs.Elements.{Bytes}
use Rattle.frame.specs.declared.framing.Framing.TheVariants.{Binary as BinaryFraming}
use Rattle.frame.specs.declared.framing.Footer.{Footer}
use Rattle.frame.specs.declared.framing.Footer.TheVariants.{Optional, Required}
use Rattle.frame.specs.Claims.{Payload}
use Rattle.frame.proofs.Numbers.{both_true, and_true}
use Rattle.frame.proofs.Lists.{bytes_left}
use Rattle.frame.proofs.Trees.{behind_behind, Within, within_byte, within_word, within_test, within_bytes, within_more, within_whole, run_byte, run_bytes, pass_test, Behind, took_byte, took_word, took_test, took_bytes, took_both, Keeps, took_whole, keeps_byte, used_last}

-- A length word is 0x8000 plus 1 to 256.
pub length_word_lem : (w : ℕ) → length_word w ≡ true → (0x8001 ≤ w) × (w ≤ 0x8100)
length_word_lem w e = let h = both_true (leb 0x8001 w) (leb w 0x8100) e in (leb-true 0x8001 w h.0, leb-true w 0x8100 h.1)

pub is_length_word : (w : ℕ) → 0x8001 ≤ w → w ≤ 0x8100 → length_word w ≡ true
is_length_word w l m = and_true (leb 0x8001 w) (leb w 0x8100) (le-leb 0x8001 w l) (le-leb w 0x8100 m)

-- Behind the header and the length word w, the checks of a body of that length are left.
abbrev pub after_word : (List ℕ → Checks) → ℕ → Checks
after_word end w = test (length_word w) 3 (body end (w - 0x8000))

pub length_binary_front : (p : List ℕ) → length (binary_front p) ≡ length p + 5
unfolding binary_front
length_binary_front p = simp length-append (omega arith)

-- A 16-bit number as two bytes.
abbrev big_endian : ℕ → List ℕ
big_endian n = n / 256 ∷ n % 256 ∷ []

-- A word below 0x10000 is the two bytes it was made of.
big_endian_lem : (high low n : ℕ) → low < 256 → 0x8000 + n ≡ high * 256 + low → big_endian (0x8000 + n) ≡ high ∷ low ∷ []
big_endian_lem high low n l e = ap big_endian e ∙ ap₂ (λ (a b : ℕ). a ∷ b ∷ []) (digits_div high l) (digits_mod high l)

-- A frame of s with the payload p, whatever the numbers: the header, a length word, the payload and its checksum; the ending is left.
pub record BinaryFront (end : List ℕ → Checks) (s : List ℕ) (used : ℕ) (p : List ℕ) : Type 0 where
  pub high : ℕ
  pub low : ℕ
  pub word : high * 256 + low ≡ 0x8000 + length p
  pub some : 1 ≤ length p
  pub most : length p ≤ 256
  pub ends : Behind (end p) (0xA5 ∷ 0x5A ∷ high ∷ low ∷ (p ++ (xor_of p ∷ []))) s used p

-- Whatever the ending.
module _ (end : List ℕ → Checks) where
  -- Four bytes, at most 257 of payload and checksum, and those of the ending are taken.
  pub binary_within : (n : ℕ) → ((p : List ℕ) → Within n (end p)) → Within (suc (suc (suc (suc (257 + n))))) (binary end)
  unfolding binary body
  binary_within n e =
      within_byte (suc (suc (suc (257 + n)))) 0xA5 1 (byte 0x5A 1 (word (after_word end)))
      (within_byte (suc (suc (257 + n))) 0x5A 1 (word (after_word end))
      (within_word (257 + n) (after_word end)
      (λ w. within_test (257 + n) 3 (length_word w) (body end (w - 0x8000))
      (λ l. within_more (w - 0x8000 + suc n) (257 + n) (body end (w - 0x8000)) (let h = length_word_lem w l in omega arith)
      (within_bytes (suc n) (w - 0x8000) (λ p. byte (xor_of p) 4 (end p)) (λ p. within_byte n (xor_of p) 4 (end p) (e p)))))))

  -- Behind the length, the payload and its checksum leave the ending.
  run_body : (p more : List ℕ) → run (body end (length p)) (p ++ (xor_of p ∷ more)) ≡ behind (length p + 1) (run (end p) more)
  unfolding body
  run_body p more =
      run_bytes p (xor_of p ∷ more) (λ q. byte (xor_of q) 4 (end q))
      ∙ ap (behind (length p)) (run_byte (xor_of p) 4 (end p) more)
      ∙ behind_behind (length p) 1 (run (end p) more)

  run_header : (high low : ℕ) (s : List ℕ) → run (binary end) (0xA5 ∷ 0x5A ∷ high ∷ low ∷ s) ≡ behind 4 (run (after_word end (high * 256 + low)) s)
  unfolding binary word
  run_header high low s =
      run_byte 0xA5 1 (byte 0x5A 1 (word (after_word end))) (0x5A ∷ high ∷ low ∷ s)
      ∙ ap (behind 1) (run_byte 0x5A 1 (word (after_word end)) (high ∷ low ∷ s))
      ∙ behind_behind 1 1 (behind 1 (behind 1 (run (after_word end (high * 256 + low)) s)))
      ∙ ap (behind 2) (behind_behind 1 1 (run (after_word end (high * 256 + low)) s))
      ∙ behind_behind 2 2 (run (after_word end (high * 256 + low)) s)

  -- A length word leaves the checks of a body.
  after_word_lem : (n : ℕ) → 1 ≤ n → n ≤ 256 → after_word end (0x8000 + n) ≡ body end n
  after_word_lem n l m =
      pass_test (length_word (0x8000 + n)) 3 (body end (0x8000 + n - 0x8000)) (is_length_word (0x8000 + n) (omega arith) (omega arith))
      ∙ ap (body end) (add-sub_cancel_left 0x8000 n)

  -- The front of a frame leaves the ending.
  pub binary_front_reads : (p more : List ℕ) → Payload p
      → run (binary end) (binary_front p ++ more) ≡ behind (length (binary_front p)) (run (end p) more)
  unfolding binary_front
  binary_front_reads p more h =
      ap (λ (r : List ℕ). run (binary end) (0xA5 ∷ 0x5A ∷ (0x8000 + length p) / 256 ∷ (0x8000 + length p) % 256 ∷ r))
      (append_assoc p (xor_of p ∷ []) more)
      ∙ run_header ((0x8000 + length p) / 256) ((0x8000 + length p) % 256) (p ++ (xor_of p ∷ more))
      ∙ ap (λ (t : Checks). behind 4 (run t (p ++ (xor_of p ∷ more))))
      (ap (after_word end) (div-add-mod' (0x8000 + length p) 256) ∙ after_word_lem (length p) h.some h.most)
      ∙ ap (behind 4) (run_body p more)
      ∙ behind_behind 4 (length p + 1) (run (end p) more)
      ∙ ap (λ (k : ℕ). behind k (run (end p) more)) (omega (arith, length_binary_front p))

  -- What the checks of a body accept: a payload and its checksum; the ending is left.
  took_body : (n : ℕ) (s p : List ℕ) (used : ℕ) → run (body end n) s ≡ frame used p
      → (q : List ℕ) × (length q ≡ n) × Behind (end q) (q ++ (xor_of q ∷ [])) s used p
  unfolding body
  took_body n s p used e =
      let h = took_bytes n (λ q. byte (xor_of q) 4 (end q)) s p used e in
      let k = took_byte (xor_of h.0) 4 (end h.0) h.2.rest p h.2.left h.2.goes in
      (h.0, h.1, took_both (end h.0) (byte (xor_of h.0) 4 (end h.0)) h.0 (xor_of h.0 ∷ []) s p used h.2 k)

  module _ (keeps : Keeps end) where
    -- The payload of a frame is the one that stands behind the length.
    fronted : (s p q : List ℕ) (used high low : ℕ) → length_word (high * 256 + low) ≡ true → length q ≡ high * 256 + low - 0x8000
        → Behind (end q) (0xA5 ∷ 0x5A ∷ high ∷ low ∷ (q ++ (xor_of q ∷ []))) s used p → BinaryFront end s used p
    fronted s p q used high low w size h =
        let same : q ≡ p = keeps q h.rest p h.left h.goes in
        let long : length p ≡ high * 256 + low - 0x8000 = ap length (sym same) ∙ size in
        let r = length_word_lem (high * 256 + low) w in
        record {
          high = high;
          low = low;
          word = omega (arith, r.0);
          some = omega (arith, r.0);
          most = omega (arith, r.1);
          ends = subst (λ (x : List ℕ). Behind (end x) (0xA5 ∷ 0x5A ∷ high ∷ low ∷ (x ++ (xor_of x ∷ []))) s used p) same h;
        }

    -- What the checks accept, whatever the numbers.
    pub took_binary : (s p : List ℕ) (used : ℕ) → run (binary end) s ≡ frame used p → BinaryFront end s used p
    unfolding binary
    took_binary s p used e =
        let h = took_byte 0xA5 1 (byte 0x5A 1 (word (after_word end))) s p used e in
        let k = took_byte 0x5A 1 (word (after_word end)) h.rest p h.left h.goes in
        let (high, low, w) = took_word (after_word end) k.rest p k.left k.goes in
        let t = took_test (length_word (high * 256 + low)) 3 (body end (high * 256 + low - 0x8000)) w.rest p w.left w.goes in
        let (q, size, d) = took_body (high * 256 + low - 0x8000) w.rest p w.left t.1 in
        fronted s p q used high low t.0 size
        (took_both (end q) (byte 0x5A 1 (word (after_word end))) (0xA5 ∷ []) (0x5A ∷ high ∷ low ∷ (q ++ (xor_of q ∷ []))) s p used h
        (took_both (end q) (word (after_word end)) (0x5A ∷ []) (high ∷ low ∷ (q ++ (xor_of q ∷ []))) h.rest p h.left k
        (took_both (end q) (after_word end (high * 256 + low)) (high ∷ low ∷ []) (q ++ (xor_of q ∷ [])) k.rest p k.left w d)))

    -- Of bytes, what the checks accept begins with the front of its payload.
    pub binary_is_layout : (s p : List ℕ) (used : ℕ) → Bytes s → run (binary end) s ≡ frame used p
        → Behind (end p) (binary_front p) s used p × Payload p
    unfolding binary_front
    binary_is_layout s p used b e =
        let h = took_binary s p used e in
        let q : List ℕ = p ++ (xor_of p ∷ []) in
        let all : Bytes (0xA5 ∷ 0x5A ∷ h.high ∷ h.low ∷ (q ++ h.ends.rest)) = subst Bytes h.ends.split b in
        let number : big_endian (0x8000 + length p) ≡ h.high ∷ h.low ∷ [] =
        big_endian_lem h.high h.low (length p) all.1.1.1.0 (sym h.word)
        in (
          subst (λ (n : List ℕ). Behind (end p) (0xA5 ∷ 0x5A ∷ (n ++ q)) s used p) (sym number) h.ends,
          record {
            bytes = bytes_left p (xor_of p ∷ []) (bytes_left q h.ends.rest all.1.1.1.1);
            some = h.some;
            most = h.most;
          },
        )

-- An ending takes one byte at most.
pub ending_within : (footer : Footer) (p : List ℕ) → Within 1 (behind_checksum footer p)
unfolding last_byte
ending_within Optional p = within_whole 1 p
ending_within Required p = within_byte 0 footer_byte 5 (whole p) (within_whole 0 p)

-- It hands on the payload.
pub ending_keeps : (footer : Footer) → Keeps (behind_checksum footer)
unfolding last_byte
ending_keeps Optional q s p used e = (took_whole q s p used e).1
ending_keeps Required q s p used e = keeps_byte footer_byte 5 q s p used e

-- The front of a frame is a frame where the footer is optional.
pub optional_front : (p more : List ℕ) → Payload p → run (binary whole) (binary_front p ++ more) ≡ frame (length (binary_front p)) p
optional_front p more h = binary_front_reads whole p more h ∙ ap (λ (k : ℕ). frame k p) (add-zero (length (binary_front p)))

-- Where it is required, the layout is.
pub required_layout : (p more : List ℕ) → Payload p → run (binary (last_byte footer_byte)) (layout BinaryFraming p ++ more) ≡ frame (length (layout BinaryFraming p)) p
unfolding last_byte
required_layout p more h =
    ap (run (binary (last_byte footer_byte))) (append_assoc (binary_front p) binary_ending more)
    ∙ binary_front_reads (last_byte footer_byte) p (footer_byte ∷ more) h
    ∙ ap (behind (length (binary_front p))) (run_byte footer_byte 5 (whole p) more)
    ∙ ap (λ (k : ℕ). frame k p) (sym (length-append (binary_front p) binary_ending))

-- Of bytes, what is judged a frame where the footer is optional is the front of its payload.
pub optional_is_layout : (s p : List ℕ) (used : ℕ) → Bytes s → run (binary whole) s ≡ frame used p
    → (rest : List ℕ) × (s ≡ binary_front p ++ rest) × (used ≡ length (binary_front p)) × Payload p
optional_is_layout s p used b e =
    let (h, payload) = binary_is_layout whole (ending_keeps Optional) s p used b e in
    let w = took_whole p h.rest p h.left h.goes in
    (h.rest, h.split, omega (arith, h.count, w.0), payload)

-- Where it is required, it is the layout.
pub required_is_layout : (s p : List ℕ) (used : ℕ) → Bytes s → run (binary (last_byte footer_byte)) s ≡ frame used p
    → (take used s ≡ layout BinaryFraming p) × (used ≡ length (layout BinaryFraming p)) × Payload p
unfolding last_byte
required_is_layout s p used b e =
    let (h, payload) = binary_is_layout (last_byte footer_byte) (ending_keeps Required) s p used b e in
    let l = used_last footer_byte 5 p (binary_front p) s used h in
    (l.0, l.1, payload)

-- How many bytes of a frame with a payload of n bytes are judged: all but a footer that is optional.
abbrev pub binary_judged : Footer → ℕ → ℕ
binary_judged Optional n = n + 5
binary_judged Required n = n + 6

pub binary_used : (footer : Footer) (s p : List ℕ) (used : ℕ) → run (binary (behind_checksum footer)) s ≡ frame used p → used ≡ binary_judged footer (length p)
unfolding last_byte
binary_used Optional s p used e =
    let h = took_binary whole (ending_keeps Optional) s p used e in
    let w = took_whole p h.ends.rest p h.ends.left h.ends.goes in
    h.ends.count ∙ simp length-append (omega (arith, w.0))
binary_used Required s p used e =
    let h = took_binary (last_byte footer_byte) (ending_keeps Required) s p used e in
    let l = used_last footer_byte 5 p _ s used h.ends in
    l.1 ∙ simp length-append (omega arith)
