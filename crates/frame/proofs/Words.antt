-- Laws on eight characters in one number, each in its own byte, and on the count of digits among them.
-- Assumes nothing.
use Rattle.std.proofs.Common.{◌≡◌, ℕ, zero, suc, ◌+◌, ◌*◌, ◌/◌, ◌%◌, ◌<◌, ◌≤◌, min, Bool, true, false, cond, eqb, List, [], ◌∷◌, length, get_or, take, drop, sym, refl, ap, ◌∙◌, ap₂, zero-add, arith, take_all, eqb-true}
use lib.Bits.{bit_and, bit_or, bit_xor, and_block, or_block, xor_block, and_lt, or_lt, xor_lt, and_le_r}
use Rattle.std.specs.Int.{from_le_bytes, w64}
use lib.Count.{count_trailing_zeros, under}
use Rattle.frame.specs.Digit.{is_digit}
use Rattle.frame.specs.Elements.{Bytes}
use Rattle.frame.specs.DigitRuns.{digit_run, little_endian}
use Rattle.frame.proofs.Lists.{drop_next, take_least}
use Rattle.frame.proofs.Numbers.{below_at}

-- The count up to n looks at the first n characters only.
run_front : (n : ℕ) (s : List ℕ) → digit_run n (take n s) ≡ digit_run n s
run_front zero s = refl
run_front (suc n) [] = refl
run_front (suc n) (c ∷ s) = ap (λ (k : ℕ). cond (is_digit c) (suc k) 0) (run_front n s)

-- So the list may be cut to n characters first.
pub run_cut : (n : ℕ) (s : List ℕ) → digit_run n (take (min (length s) n) s) ≡ digit_run n s
run_cut n s = ap (digit_run n) (take_least s n) ∙ run_front n s

-- The characters from a place on: the one there is the lowest byte.
little_endian_next :
    (n i j : ℕ) (s : List ℕ) → i + 1 ≡ j → i < length s → little_endian (take (suc n) (drop i s)) ≡ get_or s i 0 + 256 * little_endian (take n (drop j s))
little_endian_next n i j s e h = rw (drop_next s i h, e)

-- The library's word for the number of eight bytes.
pub word_little_endian : (s : List ℕ) → length s ≡ 8 → from_le_bytes w64 s ≡ little_endian s
word_little_endian s h =
    omega (
      arith,
      little_endian_next 7 0 1 s refl (omega arith),
      little_endian_next 6 1 2 s refl (omega arith),
      little_endian_next 5 2 3 s refl (omega arith),
      little_endian_next 4 3 4 s refl (omega arith),
      little_endian_next 3 4 5 s refl (omega arith),
      little_endian_next 2 5 6 s refl (omega arith),
      little_endian_next 1 6 7 s refl (omega arith),
      little_endian_next 0 7 8 s refl (omega arith),
      ap little_endian (take_all 8 s (omega arith)),
    )

-- Where each element is a byte, all are.
pub bytes_by : (s : List ℕ) → ((i : ℕ) → get_or s i 0 < 256) → Bytes s
bytes_by [] h = tt
bytes_by (b ∷ s) h = (h 0, bytes_by s (λ i. h (suc i)))

-- n bytes m, as one number.
abbrev repeated : ℕ → ℕ → ℕ
repeated m zero = 0
repeated m (suc n) = m + 256 * repeated m n

-- f of each character, in the character's byte.
abbrev lanes : (ℕ → ℕ) → List ℕ → ℕ
lanes f [] = 0
lanes f (c ∷ s) = f c + 256 * lanes f s

-- w holds f of each character of s in the character's byte, and f keeps to a byte.
record Lanes (s : List ℕ) (f : ℕ → ℕ) (w : ℕ) : Type 0 where
  is : w ≡ lanes f s
  small : (c : ℕ) → c < 256 → f c < 256

-- The lowest byte written first or last.
low_last : (r a : ℕ) → r + 256 * a ≡ a * 256 + r
low_last r a = omega arith

-- An operation that works on each byte apart.
module _ (op : ℕ → ℕ → ℕ) (none : op 0 0 ≡ 0)
    (block : (a b r t : ℕ) → r < 256 → t < 256 → op (a * 256 + r) (b * 256 + t) ≡ op a b * 256 + op r t)
    (bound : (a b : ℕ) → a < 256 → b < 256 → op a b < 256) where
  op_lanes : (f g : ℕ → ℕ) → ((c : ℕ) → c < 256 → f c < 256) → ((c : ℕ) → c < 256 → g c < 256) → (s : List ℕ) → Bytes s
      → op (lanes f s) (lanes g s) ≡ lanes (λ (c : ℕ). op (f c) (g c)) s
  op_lanes f g hf hg [] h = none
  op_lanes f g hf hg (c ∷ s) h =
      ap₂ op (low_last (f c) (lanes f s)) (low_last (g c) (lanes g s))
      ∙ block (lanes f s) (lanes g s) (f c) (g c) (hf c h.0) (hg c h.0)
      ∙ sym (low_last (op (f c) (g c)) (op (lanes f s) (lanes g s)))
      ∙ ap (λ (n : ℕ). op (f c) (g c) + 256 * n) (op_lanes f g hf hg s h.1)

  both : {s : List ℕ} {f g : ℕ → ℕ} {w v : ℕ} → Bytes s → Lanes s f w → Lanes s g v → Lanes s (λ (c : ℕ). op (f c) (g c)) (op w v)
  both {s} {f} {g} {w} {v} h k l =
      record { is = ap₂ op k.is l.is ∙ op_lanes f g k.small l.small s h; small = λ c b. bound (f c) (g c) (k.small c b) (l.small c b) }

-- `and`, `or` and `xor` of two numbers are those of each byte.
and_lanes : {s : List ℕ} {f g : ℕ → ℕ} {w v : ℕ} → Bytes s → Lanes s f w → Lanes s g v → Lanes s (λ (c : ℕ). bit_and (f c) (g c)) (bit_and w v)
and_lanes = both bit_and refl (and_block 8) (and_lt 8)

or_lanes : {s : List ℕ} {f g : ℕ → ℕ} {w v : ℕ} → Bytes s → Lanes s f w → Lanes s g v → Lanes s (λ (c : ℕ). bit_or (f c) (g c)) (bit_or w v)
or_lanes = both bit_or refl (or_block 8) (or_lt 8)

xor_lanes : {s : List ℕ} {f g : ℕ → ℕ} {w v : ℕ} → Bytes s → Lanes s f w → Lanes s g v → Lanes s (λ (c : ℕ). bit_xor (f c) (g c)) (bit_xor w v)
xor_lanes = both bit_xor refl (xor_block 8) (xor_lt 8)

-- The characters themselves.
self_lanes : (s : List ℕ) → Lanes s (λ (c : ℕ). c) (little_endian s)
self_lanes s = record { is = same s; small = λ c h. h }
  where
    same : (t : List ℕ) → little_endian t ≡ lanes (λ (c : ℕ). c) t
    same [] = refl
    same (c ∷ t) = ap (λ (n : ℕ). c + 256 * n) (same t)

-- The same byte in each place.
mask_lanes : (s : List ℕ) (m : ℕ) → m < 256 → Lanes s (λ (c : ℕ). m) (repeated m (length s))
mask_lanes s m h = record { is = same s; small = λ c k. h }
  where
    same : (t : List ℕ) → repeated m (length t) ≡ lanes (λ (c : ℕ). m) t
    same [] = refl
    same (c ∷ t) = ap (λ (n : ℕ). m + 256 * n) (same t)

-- The same byte added in each place, where no sum leaves its byte.
add_lanes : {s : List ℕ} {f : ℕ → ℕ} {w : ℕ} (m : ℕ) → ((c : ℕ) → f c + m < 256) → Lanes s f w → Lanes s (λ (c : ℕ). f c + m) (w + repeated m (length s))
add_lanes {s} {f} {w} m small h = record { is = ap (λ (n : ℕ). n + repeated m (length s)) h.is ∙ sums s; small = λ c k. small c }
  where
    sums : (t : List ℕ) → lanes f t + repeated m (length t) ≡ lanes (λ (c : ℕ). f c + m) t
    sums [] = refl
    sums (c ∷ t) = omega (arith, sums t)

-- Functions that are equal on bytes give the same number.
lanes_same : (f g : ℕ → ℕ) → ((c : ℕ) → c < 256 → f c ≡ g c) → (s : List ℕ) → Bytes s → lanes f s ≡ lanes g s
lanes_same f g e [] h = refl
lanes_same f g e (c ∷ s) h = ap₂ (λ (a n : ℕ). a + 256 * n) (e c h.0) (lanes_same f g e s h.1)

-- What the program computes of the characters v, where `mask m` is m in each byte.
abbrev others : (ℕ → ℕ) → ℕ → ℕ
others mask v =
    let w : ℕ = bit_xor v (mask 0x30) in
    let low : ℕ = bit_and w (mask 0x7F) in
    let ranges : ℕ = bit_xor (bit_xor (low + mask 0x76) (low + mask 0x0F)) (low + mask 0x09) in
    bit_and (bit_or ranges w) (mask 0x80)

-- The same of one character.
abbrev other : ℕ → ℕ
other = others (λ (m : ℕ). m)

-- The program computes that of each character, in the character's byte.
others_lanes : (s : List ℕ) → Bytes s → Lanes s other (others (λ (m : ℕ). repeated m (length s)) (little_endian s))
others_lanes s h =
    let mask : ℕ → ℕ = λ m. repeated m (length s) in
    let w = xor_lanes h (self_lanes s) (mask_lanes s 0x30 (omega arith)) in
    let low = and_lanes h w (mask_lanes s 0x7F (omega arith)) in
    let sum : (m : ℕ) → m ≤ 0x80 → Lanes s (λ (c : ℕ). bit_and (bit_xor c 0x30) 0x7F + m) (bit_and (bit_xor (little_endian s) (mask 0x30)) (mask 0x7F) + mask m) =
    λ m l. add_lanes m (λ c. omega (arith, and_le_r (bit_xor c 0x30) 0x7F)) low
    in
    let ranges = xor_lanes h (xor_lanes h (sum 0x76 (omega arith)) (sum 0x0F (omega arith))) (sum 0x09 (omega arith)) in
    and_lanes h (or_lanes h ranges w) (mask_lanes s 0x80 (omega arith))

-- A character's byte afterwards: 0 for a digit, else the top bit.
abbrev mark : ℕ → ℕ
mark c = cond (is_digit c) 0 0x80

-- The program's result for one character, at all 256.
other_mark : (c : ℕ) → c < 256 → other c ≡ mark c
unfolding is_digit
other_mark c h = eqb-true (other c) (mark c) (below_at (λ (k : ℕ). eqb (other k) (mark k)) 256 refl c h)

-- The zeros below the lowest set bit of an even number are one more than those of its half.
zeros_even : (k n m : ℕ) → n ≡ 2 * m → count_trailing_zeros (suc k) n ≡ suc (count_trailing_zeros k m)
unfolding count_trailing_zeros
zeros_even k n m e =
    let even : n % 2 ≡ 0 = omega arith in
    let half : n / 2 ≡ m = omega arith in
    ap₂ (λ (d t : ℕ). under d (count_trailing_zeros k t)) even half

-- An odd number has none.
zeros_odd : (k n : ℕ) → n % 2 ≡ 1 → count_trailing_zeros (suc k) n ≡ 0
unfolding count_trailing_zeros
zeros_odd k n e = ap (λ (d : ℕ). under d (count_trailing_zeros k (n / 2))) e

-- The bits of one byte more.
abbrev byte_more : ℕ → ℕ
byte_more k = suc (suc (suc (suc (suc (suc (suc (suc k)))))))

-- The bits of n bytes.
abbrev bits : ℕ → ℕ
bits zero = zero
bits (suc n) = byte_more (bits n)

-- Below a byte 0 there are 8 more.
zeros_byte : (k p : ℕ) → count_trailing_zeros (byte_more k) (256 * p) ≡ byte_more (count_trailing_zeros k p)
zeros_byte k p =
    zeros_even _ (256 * p) (128 * p) (omega arith) ∙ ap suc (zeros_even _ (128 * p) (64 * p) (omega arith)
    ∙ ap suc (zeros_even _ (64 * p) (32 * p) (omega arith) ∙ ap suc (zeros_even _ (32 * p) (16 * p) (omega arith)
    ∙ ap suc (zeros_even _ (16 * p) (8 * p) (omega arith) ∙ ap suc (zeros_even _ (8 * p) (4 * p) (omega arith)
    ∙ ap suc (zeros_even _ (4 * p) (2 * p) (omega arith) ∙ ap suc (zeros_even k (2 * p) p refl)))))))

-- Below the top bit of the lowest byte there are 7.
zeros_top : (k p : ℕ) → count_trailing_zeros (byte_more k) (128 + 256 * p) ≡ 7
zeros_top k p =
    zeros_even _ (128 + 256 * p) (64 + 128 * p) (omega arith) ∙ ap suc (zeros_even _ (64 + 128 * p) (32 + 64 * p) (omega arith)
    ∙ ap suc (zeros_even _ (32 + 64 * p) (16 + 32 * p) (omega arith) ∙ ap suc (zeros_even _ (16 + 32 * p) (8 + 16 * p) (omega arith)
    ∙ ap suc (zeros_even _ (8 + 16 * p) (4 + 8 * p) (omega arith) ∙ ap suc (zeros_even _ (4 + 8 * p) (2 + 4 * p) (omega arith)
    ∙ ap suc (zeros_even _ (2 + 4 * p) (1 + 2 * p) (omega arith) ∙ ap suc (zeros_odd k (1 + 2 * p) (omega arith))))))))

-- The bytes 0 at the low end are the digits at the front.
zeros_run : (s : List ℕ) → count_trailing_zeros (bits (length s)) (lanes mark s) / 8 ≡ digit_run (length s) s
unfolding count_trailing_zeros
zeros_run [] = refl
zeros_run (c ∷ s) = by_digit (is_digit c) (zeros_run s)
  where
    by_digit : (q : Bool) → count_trailing_zeros (bits (length s)) (lanes mark s) / 8 ≡ digit_run (length s) s
        → count_trailing_zeros (bits (suc (length s))) (cond q 0 0x80 + 256 * lanes mark s) / 8 ≡ cond q (suc (digit_run (length s) s)) 0
    by_digit true e = rw (zero-add, zeros_byte (bits (length s)) (lanes mark s)) (omega (arith, e))
    by_digit false e = rw (zeros_top (bits (length s)) (lanes mark s))

-- What the program computes of n characters is the count of the digits at their front.
others_run : (n : ℕ) (s : List ℕ) → Bytes s → length s ≡ n → count_trailing_zeros (bits n) (others (λ (m : ℕ). repeated m n) (little_endian s)) / 8 ≡ digit_run n s
others_run n s h e =
    rw (← e) (ap (λ (w : ℕ). count_trailing_zeros (bits (length s)) w / 8) ((others_lanes s h).is ∙ lanes_same other mark other_mark s h) ∙ zeros_run s)

-- What the program computes of the 8 characters from `at` on.
pub word_digits : (s : List ℕ) (w : ℕ) → length s ≡ 8 → Bytes s → w ≡ little_endian s
    → count_trailing_zeros 64 (others (λ (m : ℕ). repeated m 8) w) / 8 ≡ digit_run 8 s
word_digits s w h b e =
    ap (λ (v : ℕ). count_trailing_zeros 64 (others (λ (m : ℕ). repeated m 8) v) / 8) e ∙ others_run 8 s b h
