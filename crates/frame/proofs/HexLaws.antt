-- Laws on what digits and bytes stand for, and on the bytes that are computed of characters.
-- Assumes nothing.
use Rattle.std.proofs.Common.{◌≡◌, ℕ, zero, suc, ◌+◌, ◌-◌, ◌*◌, ◌/◌, ◌%◌, ◌<◌, ◌≤◌, Bool, true, ◌&&◌, eqb, List, [], ◌∷◌, ◌++◌, length, get_or, take, drop, set, sym, refl, ap, ◌∙◌, ap₂, append_assoc, append-nil, add-zero, div-add-mod', mul-suc, add-one, arith, length-append, length-drop, take-append-drop, drop_of_length-le, length-take, length-take-le, get_or-drop, take_all, take-suc, take-take, drop-drop, take_at, eqb-true}
use native.Mathlib.Numerals.{add-two}
use lib.Bits.{bit_and}
use Rattle.frame.proofs.Numbers.{both_true, below_at}
use lib.Arith.{digits_div, digits_mod}
use lib.Seq.{paste, drop-nil, take-nil, take-length}
use Rattle.std.specs.List.{sum_by}
use Rattle.std.proofs.lemmas.List.Sums.{sum_by-cons}
use Rattle.std.specs.Simd.{first_chunks}
use Rattle.octets.proofs.Prefix.{chunk_at}
use Rattle.frame.specs.Digit.{is_digit, digit_value, digit_of}
use Rattle.frame.specs.Hex.{hex, sum_of}
use Rattle.frame.specs.Elements.{Bytes}
use Rattle.frame.specs.DigitRuns.{Digits}
use Rattle.frame.specs.Judged.{decoded, byte_of, unhexed}
use Rattle.frame.proofs.Lists.{drop_next, drop_take, wrote_two, wrote_part, paste_front}
use Rattle.frame.proofs.DigitLaws.{digit_small, digit_halves, digit_of_is, digit_of_value, value_digit}

-- Of two characters one byte is computed.
pub unhexed_next : (s : List ℕ) (i : ℕ) → i + 1 < length s
    → unhexed (drop i s) ≡ byte_of (get_or s i 0) (get_or s (i + 1) 0) ∷ unhexed (drop (i + 2) s)
unhexed_next s i h =
    let two : i + 2 ≡ i + 1 + 1 = omega arith in rw (drop_next s i (omega arith), drop_next s (i + 1) h, two)

-- Of fewer than two characters none is.
pub unhexed_short : (s : List ℕ) → length s ≤ 1 → unhexed s ≡ []
unhexed_short [] h = refl
unhexed_short (a ∷ []) h = refl
unhexed_short (a ∷ b ∷ s) h = absurd (omega arith)

-- Of the characters behind the first 2 i, the bytes behind the first i are.
pub unhexed_drop : (i : ℕ) (s : List ℕ) → unhexed (drop (2 * i) s) ≡ drop i (unhexed s)
unhexed_drop zero s = refl
unhexed_drop (suc i) [] = rw drop-nil
unhexed_drop (suc i) (a ∷ []) = rw (mul-suc, add-two)
unhexed_drop (suc i) (a ∷ b ∷ s) = rw (mul-suc, add-two) (unhexed_drop i s)

-- The byte at i, of its two characters.
pub unhexed_at : (s : List ℕ) (i : ℕ) → 2 * i + 1 < length s → get_or (unhexed s) i 0 ≡ byte_of (get_or s (2 * i) 0) (get_or s (2 * i + 1) 0)
unhexed_at s i h =
    ap (λ (k : ℕ). get_or (unhexed s) k 0) (sym (add-zero i)) ∙ sym (get_or-drop i (unhexed s) 0 0)
    ∙ ap (λ (l : List ℕ). get_or l 0 0) (sym (unhexed_drop i s) ∙ unhexed_next s (2 * i) h)

-- The byte at i, of the pair there.
pub unhexed_pair : (s d : List ℕ) (i : ℕ) → i < length s / 2
    → byte_of (get_or (get_or (first_chunks 2 (length s / 2) s) i d) 0 0) (get_or (get_or (first_chunks 2 (length s / 2) s) i d) 1 0) ≡ get_or (unhexed s) i 0
unhexed_pair s d i h =
    let pair : get_or (first_chunks 2 (length s / 2) s) i d ≡ take 2 (drop (2 * i) s) = chunk_at 2 (length s / 2) i s d h in
    rw (pair, drop_next s (2 * i) (omega arith), drop_next s (2 * i + 1) (omega arith)) (sym (unhexed_at s i (omega arith)))

-- The sum of numbers, in the library's word.
pub sum_is : (s : List ℕ) → sum_by (λ (b : ℕ). b) s ≡ sum_of s
sum_is [] = refl
sum_is (b ∷ s) = rw sum_by-cons (ap (λ (n : ℕ). b + n) (sum_is s))

-- There are half as many bytes as characters.
pub length_unhexed : (s : List ℕ) → length (unhexed s) ≡ length s / 2
length_unhexed [] = refl
length_unhexed (a ∷ []) = refl
length_unhexed (a ∷ b ∷ s) = omega (arith, length_unhexed s)

pub length_decoded : (s : List ℕ) → length (decoded s) ≡ length s / 2
length_decoded [] = refl
length_decoded (a ∷ []) = refl
length_decoded (a ∷ b ∷ s) = omega (arith, length_decoded s)

-- Of a block of 32 characters 16 bytes are computed.
pub length_block : (s : List ℕ) (at : ℕ) → at + 32 ≤ length s → length (unhexed (take 32 (drop at s))) ≡ 16
length_block s at h = length_unhexed (take 32 (drop at s)) ∙ simp (length-take, length-drop) (omega arith)

-- The halves of a byte, the upper one in the low byte of a number.
abbrev halves : ℕ → ℕ
halves b = b / 16 + b % 16 * 256

-- Their digits, each in its byte of a number.
abbrev both_digits : ℕ → ℕ
both_digits b = halves b + 0x3030 + bit_and ((halves b + 0x0606) / 16) 0x0101 * 7

-- They are the digits of the byte, by trying all bytes.
pub both_digits_lem : (b : ℕ) → b < 256 → (both_digits b % 256 ≡ digit_of (b / 16)) × (both_digits b / 256 ≡ digit_of (b % 16))
unfolding digit_of
both_digits_lem b h =
    let upper : ℕ → Bool = λ k. eqb (both_digits k % 256) (digit_of (k / 16)) in
    let lower : ℕ → Bool = λ k. eqb (both_digits k / 256) (digit_of (k % 16)) in
    let e = both_true (upper b) (lower b) (below_at (λ k. upper k && lower k) 256 refl b h) in
    (eqb-true (both_digits b % 256) (digit_of (b / 16)) e.0, eqb-true (both_digits b / 256) (digit_of (b % 16)) e.1)

-- There are twice as many characters as bytes.
pub length_hex : (s : List ℕ) → length (hex s) ≡ 2 * length s
length_hex [] = refl
length_hex (b ∷ s) = omega (arith, length_hex s)

-- The characters of two lists of bytes in a row.
pub hex_append : (s t : List ℕ) → hex (s ++ t) ≡ hex s ++ hex t
hex_append [] t = refl
hex_append (b ∷ s) t = rw (hex_append s t)

-- d with the digits of the first i bytes of s from `at` on.
abbrev pub hexed : List ℕ → ℕ → List ℕ → ℕ → List ℕ
hexed d at s i = (take at d ++ hex (take i s)) ++ drop (at + 2 * i) d

-- One more byte's digits.
pub hexed_next : (d s : List ℕ) (at i : ℕ) → i < length s → at + 2 * length s ≤ length d
    → set (set (hexed d at s i) (at + 2 * i) (digit_of (get_or s i 0 / 16))) (at + 2 * i + 1) (digit_of (get_or s i 0 % 16)) ≡ hexed d at s (i + 1)
hexed_next d s at i h k =
    let w : List ℕ = take at d ++ hex (take i s) in
    let b : ℕ = get_or s i 0 in
    let long : length w ≡ at + 2 * i = simp (length-append, length_hex, length-take) (omega arith) in
    let two : at + 2 * suc i ≡ at + 2 * i + 2 = omega arith in
    rw (add-one i, two, take-suc s i 0 h, hex_append, ← append_assoc) (wrote_two w d (digit_of (b / 16)) (digit_of (b % 16)) (at + 2 * i) long (omega arith))

-- The digits of all bytes.
pub hexed_all : (d s : List ℕ) (at : ℕ) → hexed d at s (length s) ≡ paste d at (hex s) (2 * length s)
hexed_all d s at = rw (take-length, take_all (2 * length s) (hex s) (omega (arith, length_hex s)))

-- The characters of bytes are digits.
pub hex_digits_lem : (s : List ℕ) → Bytes s → Digits (hex s)
hex_digits_lem [] h = tt
hex_digits_lem (b ∷ s) h = (digit_of_is (b / 16) (omega arith), (digit_of_is (b % 16) (omega arith), hex_digits_lem s h.1))

-- The characters of bytes stand for those bytes.
pub decoded_hex : (s : List ℕ) → Bytes s → decoded (hex s) ≡ s
decoded_hex [] h = refl
decoded_hex (b ∷ s) h =
    rw (digit_of_value (b / 16) (omega arith), digit_of_value (b % 16) (omega arith), div-add-mod' b 16, decoded_hex s h.1)

-- Behind 2 i characters stand the bytes behind i bytes.
pub decoded_drop : (i : ℕ) (s : List ℕ) → decoded (drop (2 * i) s) ≡ drop i (decoded s)
decoded_drop zero s = refl
decoded_drop (suc i) [] = rw drop-nil
decoded_drop (suc i) (a ∷ []) = rw (mul-suc, add-two)
decoded_drop (suc i) (a ∷ b ∷ s) = rw (mul-suc, add-two) (decoded_drop i s)

-- An even count of digits is the characters of the bytes that they stand for.
pub hex_decoded : (s : List ℕ) → Digits s → length s % 2 ≡ 0 → hex (decoded s) ≡ s
hex_decoded [] h e = refl
hex_decoded (a ∷ []) h e = absurd (omega arith)
hex_decoded (a ∷ b ∷ s) h e =
    rw (
      digits_div (digit_value a) (digit_small b),
      digits_mod (digit_value a) (digit_small b),
      value_digit a h.0,
      value_digit b h.1.0,
      hex_decoded s h.1.1 (omega arith),
    )

-- Of two digits, the byte that is computed is the one that they stand for.
pub byte_digits : (a b : ℕ) → is_digit a ≡ true → is_digit b ≡ true → byte_of a b ≡ digit_value a * 16 + digit_value b
byte_digits a b h k = rw (digit_halves a h, digit_halves b k) (omega (arith, digit_small a, digit_small b))

-- Of digits, the bytes that are computed are those that they stand for.
pub unhexed_digits : (s : List ℕ) → Digits s → unhexed s ≡ decoded s
unhexed_digits [] h = refl
unhexed_digits (a ∷ []) h = refl
unhexed_digits (a ∷ b ∷ s) h = ap₂ ◌∷◌ (byte_digits a b h.0 h.1.0) (unhexed_digits s h.1.1)

-- What is computed of characters, and what they stand for, are bytes.
pub unhexed_bytes : (s : List ℕ) → Bytes (unhexed s)
unhexed_bytes [] = tt
unhexed_bytes (a ∷ []) = tt
unhexed_bytes (a ∷ b ∷ s) = (omega arith, unhexed_bytes s)

pub decoded_bytes : (s : List ℕ) → Bytes (decoded s)
decoded_bytes [] = tt
decoded_bytes (a ∷ []) = tt
decoded_bytes (a ∷ b ∷ s) = (omega (arith, digit_small a, digit_small b), decoded_bytes s)

-- Of the first 2 i characters, the first i bytes are computed, and they stand for the first i.
pub unhexed_take : (i : ℕ) (s : List ℕ) → unhexed (take (2 * i) s) ≡ take i (unhexed s)
unhexed_take zero s = refl
unhexed_take (suc i) [] = rw take-nil
unhexed_take (suc i) (a ∷ []) = rw (mul-suc, add-two, take-nil)
unhexed_take (suc i) (a ∷ b ∷ s) = rw (mul-suc 2 i, add-two, unhexed_take i s)

pub decoded_take : (i : ℕ) (s : List ℕ) → decoded (take (2 * i) s) ≡ take i (decoded s)
decoded_take zero s = refl
decoded_take (suc i) [] = rw take-nil
decoded_take (suc i) (a ∷ []) = rw (mul-suc, add-two, take-nil)
decoded_take (suc i) (a ∷ b ∷ s) = rw (mul-suc 2 i, add-two, decoded_take i s)

-- A block's bytes are 16 of all bytes.
unhexed_block : (k : ℕ) (s : List ℕ) → unhexed (take 32 (drop (2 * k) s)) ≡ take 16 (drop k (unhexed s))
unhexed_block k s = unhexed_take 16 (drop (2 * k) s) ∙ ap (take 16) (unhexed_drop k s)

-- A block of characters among the first m, by its place.
pub front_block :
    (m k : ℕ) (s d : List ℕ) → m ≤ length s → let t = take m s in k < length t / 32 →
    get_or (first_chunks 32 (length t / 32) t) k d ≡ take 32 (drop (2 * (16 * k)) s)
front_block m k s d h l =
    let size : length (take m s) ≡ m = length-take-le m s h in
    let place : 32 * k ≡ 2 * (16 * k) = omega arith in
    chunk_at 32 (length (take m s) / 32) k (take m s) d l
    ∙ ap (take 32) (drop_take (32 * k) m s)
    ∙ take-take 32 (m - 32 * k) (drop (32 * k) s) (omega arith)
    ∙ ap (λ (j : ℕ). take 32 (drop j s)) place

-- A copy of a block of bytes, where d begins with the bytes before i.
pub block_over :
    (s d b : List ℕ) (k i : ℕ) → b ≡ unhexed (take 32 (drop (2 * k) s)) → k ≤ i → i ≤ k + 16 → k + 16 ≤ length s / 2 →
    paste (take i (unhexed s) ++ drop i d) k b (length b) ≡ take (k + 16) (unhexed s) ++ drop (k + 16) d
block_over s d b k i e h l m =
    let same : b ≡ take 16 (drop k (unhexed s)) = e ∙ unhexed_block k s in
    let size : length b ≡ 16 = ap length e ∙ length_block s (2 * k) (omega arith) in
    rw (size, same) (wrote_part (unhexed s) d k 16 i h l (omega (arith, length_unhexed s)))

-- The sum of two lists in a row.
pub sum_append : (s t : List ℕ) → sum_of (s ++ t) ≡ sum_of s + sum_of t
sum_append [] t = omega arith
sum_append (a ∷ s) t = omega (arith, sum_append s t)

-- A sum is that of a front and that of the rest.
pub sum_split : (k : ℕ) (s : List ℕ) → sum_of (take k s) + sum_of (drop k s) ≡ sum_of s
sum_split k s = sym (sum_append (take k s) (drop k s)) ∙ ap sum_of (take-append-drop k s)

-- Two blocks of 16 that are put into an array of 32 are all of it.
pub two_blocks :
    (z a b : List ℕ) → length z ≡ 32 → length a ≡ 16 → length b ≡ 16 → paste (paste z 0 a (length a)) 16 b (length b) ≡ a ++ b
two_blocks z a b lz la lb =
    let first : paste z 0 a (length a) ≡ a ++ drop 16 z = paste_front z a ∙ ap (λ (k : ℕ). a ++ drop k z) la in
    let long : length (a ++ drop 16 z) ≤ 32 = omega (arith, length-append a (drop 16 z), length-drop 16 z) in
    ap (λ (d : List ℕ). paste d 16 b (length b)) first
    ∙ ap₂ (λ (x y : List ℕ). (x ++ y) ++ drop (16 + length b) (a ++ drop 16 z)) (take_at a (drop 16 z) 16 la) (take-length b)
    ∙ ap (λ (k : ℕ). (a ++ b) ++ drop (16 + k) (a ++ drop 16 z)) lb
    ∙ ap (λ (r : List ℕ). (a ++ b) ++ r) (drop_of_length-le (a ++ drop 16 z) long)
    ∙ append-nil (a ++ b)

-- The sum of bytes is at most 255 for each.
pub sum_most : (s : List ℕ) → Bytes s → sum_of s ≤ 255 * length s
sum_most [] h = omega arith
sum_most (a ∷ s) h = omega (arith, h.0, sum_most s h.1)

-- So the sum of what is computed of characters is at most 255 for each.
pub sum_unhexed : (s : List ℕ) → sum_of (unhexed s) ≤ 255 * length s
sum_unhexed s = omega (arith, sum_most (unhexed s) (unhexed_bytes s), length_unhexed s)

-- The sum of the bytes from a pair on is that of the byte there and those behind it.
pub sum_pair : (s d : List ℕ) (i : ℕ) → i < length s / 2
    → byte_of (get_or (get_or (first_chunks 2 (length s / 2) s) i d) 0 0) (get_or (get_or (first_chunks 2 (length s / 2) s) i d) 1 0)
    + sum_of (unhexed (drop (2 * (i + 1)) s)) ≡ sum_of (unhexed (drop (2 * i) s))
sum_pair s d i h =
    let there : i < length (unhexed s) = omega (arith, length_unhexed s) in
    rw (unhexed_pair s d i h, unhexed_drop, unhexed_drop, drop_next (unhexed s) i there)

-- The sum of the bytes from i on is that of a block and that of those behind it, and the block's is at most 255 for each byte.
pub sum_block : (s : List ℕ) (i : ℕ) → i + 32 ≤ length s
    → (sum_of (unhexed (take 32 (drop i s))) + sum_of (unhexed (drop (i + 32) s)) ≡ sum_of (unhexed (drop i s))) × (sum_of (unhexed (take 32 (drop i s))) ≤ 4080)
sum_block s i h =
    let d : List ℕ = unhexed (drop i s) in
    let rest : unhexed (drop (i + 32) s) ≡ drop 16 d = ap unhexed (sym (drop-drop 32 i s)) ∙ unhexed_drop 16 (drop i s) in (
      ap₂ (λ (x y : List ℕ). sum_of x + sum_of y) (unhexed_take 16 (drop i s)) rest ∙ sym (sum_append (take 16 d) (drop 16 d)) ∙ ap sum_of (take-append-drop 16 d),
      omega (arith, sum_most (unhexed (take 32 (drop i s))) (unhexed_bytes (take 32 (drop i s))), length_block s i h),
    )

-- Behind whole blocks of 16 bytes fewer than 16 are left: they are the last ones of the last 16. An odd character at the end stands for none.
pub behind_blocks :
    (s : List ℕ) (from : ℕ) → let n = length s / 2 in from ≤ length s → length s < from + 32 → from % 32 ≡ 0 → 32 ≤ length s →
    take (n % 16) (drop (16 - n % 16) (unhexed (take 32 (drop (2 * (n - 16)) s)))) ≡ unhexed (drop from s)
behind_blocks s from h l e m =
    let n : ℕ = length s / 2 in
    let k : ℕ = n % 16 in
    let u : List ℕ = unhexed s in
    let there : n - 16 + (16 - k) ≡ n - k = omega arith in
    let start : from ≡ 2 * (n - k) = omega arith in
    let block : unhexed (take 32 (drop (2 * (n - 16)) s)) ≡ drop (n - 16) u =
    unhexed_block (n - 16) s ∙ take_all 16 (drop (n - 16) u) (simp length-drop (omega (arith, length_unhexed s)))
    in
    ap (λ (b : List ℕ). take k (drop (16 - k) b)) block
    ∙ ap (take k) (drop-drop (16 - k) (n - 16) u ∙ ap (λ (j : ℕ). drop j u) there)
    ∙ take_all k (drop (n - k) u) (simp length-drop (omega (arith, length_unhexed s)))
    ∙ sym (ap (λ (j : ℕ). unhexed (drop j s)) start ∙ unhexed_drop (n - k) s)
