-- Laws on the XOR of bytes, one by one and as the bytes of words.
-- Assumes nothing.
use Rattle.std.proofs.Common.{◌≡◌, ℕ, zero, suc, ◌+◌, ◌*◌, ◌/◌, ◌%◌, ◌^◌, ◌<◌, ◌≤◌, Bool, true, eqb, List, [], ◌∷◌, ◌++◌, length, get_or, take, drop, sym, refl, ap, ◌∙◌, ap₂, mul_comm, suc-add, pow-suc, zero-add, div-one, arith, take-append-drop, take-add, eqb-true}
use native.Mathlib.Nat.{div-div-eq-div-mul}
use lib.Arith.{bin_ind}
use lib.Bits.{bit_xor, differ, xor_step, xor_comm, xor_shr, xor_mod, xor_zero_r}
use Rattle.std.specs.List.{fold}
use Rattle.frame.specs.Binary.{xor_from, xor_of}
use Rattle.frame.specs.DigitRuns.{little_endian, bytes_xor}
use Rattle.frame.proofs.Lists.{drop_next}
use Rattle.frame.proofs.Numbers.{below, below_at}

-- Of single bits, it does not matter which two are taken first: all are tried.
bits_assoc : (x y z : ℕ) → x < 2 → y < 2 → z < 2 → differ (bit_xor x y) z ≡ differ x (bit_xor y z)
bits_assoc x y z h k l =
    let same : ℕ → ℕ → ℕ → Bool = λ a b c. eqb (differ (bit_xor a b) c) (differ a (bit_xor b c)) in
    let first : below (λ b. below (same x b) 2) 2 ≡ true = below_at (λ a. below (λ b. below (same a b) 2) 2) 2 refl x h in
    eqb-true _ _ (below_at (same x y) 2 (below_at (λ b. below (same x b) 2) 2 first y k) z l)

-- So of numbers, bit by bit.
xor_assoc : (a b c : ℕ) → bit_xor (bit_xor a b) c ≡ bit_xor a (bit_xor b c)
xor_assoc a =
    bin_ind (λ (n : ℕ). (b c : ℕ) → bit_xor (bit_xor n b) c ≡ bit_xor n (bit_xor b c)) (λ b c. refl)
    (λ n rest b c.
    xor_step (bit_xor n b) c
    ∙ ap₂ (λ (x y : ℕ). bit_xor x (c / 2) * 2 + differ y (c % 2)) (xor_shr n b 1) (xor_mod n b 1)
    ∙ ap₂ (λ (x y : ℕ). x * 2 + y) (rest (b / 2) (c / 2)) (bits_assoc (n % 2) (b % 2) (c % 2) (omega arith) (omega arith) (omega arith))
    ∙ ap₂ (λ (x y : ℕ). bit_xor (n / 2) x * 2 + differ (n % 2) y) (sym (xor_shr b c 1)) (sym (xor_mod b c 1))
    ∙ sym (xor_step n (bit_xor b c)))
    a

-- Of four numbers, the two in the middle may change places.
xor_middle : (a b c d : ℕ) → bit_xor (bit_xor a b) (bit_xor c d) ≡ bit_xor (bit_xor a c) (bit_xor b d)
xor_middle a b c d =
    xor_assoc a b (bit_xor c d)
    ∙ ap (bit_xor a) (sym (xor_assoc b c d) ∙ ap (λ (x : ℕ). bit_xor x d) (xor_comm b c) ∙ xor_assoc c b d)
    ∙ sym (xor_assoc a c (bit_xor b d))

-- A number that the XOR begins with may be left to the end.
xor_from_lem : (a b : ℕ) (s : List ℕ) → xor_from (bit_xor a b) s ≡ bit_xor a (xor_from b s)
xor_from_lem a b [] = refl
xor_from_lem a b (c ∷ s) = ap (λ (x : ℕ). xor_from x s) (xor_assoc a b c) ∙ xor_from_lem a (bit_xor b c) s

-- So the XOR of a and the bytes is that of a and their XOR.
xor_of_from : (a : ℕ) (s : List ℕ) → xor_from a s ≡ bit_xor a (xor_of s)
xor_of_from a s = ap (λ (x : ℕ). xor_from x s) (sym (xor_zero_r a)) ∙ xor_from_lem a 0 s

-- Of two lists in a row, the XOR of the first is carried over the second.
xor_append : (a : ℕ) (s t : List ℕ) → xor_from a (s ++ t) ≡ xor_from (xor_from a s) t
xor_append a [] t = refl
xor_append a (b ∷ s) t = xor_append (bit_xor a b) s t

-- The XOR of the first k bytes, carried over those that are left, is that of all.
pub xor_front : (s : List ℕ) (k : ℕ) → xor_from (xor_of (take k s)) (drop k s) ≡ xor_of s
xor_front s k = sym (xor_append 0 (take k s) (drop k s)) ∙ ap xor_of (take-append-drop k s)

-- The XOR of the bytes of two numbers' XOR is that of both numbers' bytes.
bytes_xor_lem : (n a b : ℕ) → bytes_xor n (bit_xor a b) ≡ bit_xor (bytes_xor n a) (bytes_xor n b)
bytes_xor_lem zero a b = refl
bytes_xor_lem (suc n) a b =
    ap₂ (λ (x y : ℕ). bit_xor x (bytes_xor n y)) (xor_mod a b 8) (xor_shr a b 8)
    ∙ ap (bit_xor (bit_xor (a % 256) (b % 256))) (bytes_xor_lem n (a / 256) (b / 256))
    ∙ xor_middle (a % 256) (b % 256) (bytes_xor n (a / 256)) (bytes_xor n (b / 256))

-- The n bytes from `at` on have the XOR of the bytes of the number that they stand for.
bytes_little_endian :
    (n at : ℕ) (s : List ℕ) → ((i : ℕ) → get_or s i 0 < 256) → at + n ≤ length s → bytes_xor n (little_endian (take n (drop at s))) ≡ xor_of (take n (drop at s))
bytes_little_endian zero at s small h = refl
bytes_little_endian (suc n) at s small h =
    let t : List ℕ = take n (drop (at + 1) s) in
    let b : ℕ = get_or s at 0 in
    let low : (b + 256 * little_endian t) % 256 ≡ b = omega (arith, small at) in
    let high : (b + 256 * little_endian t) / 256 ≡ little_endian t = omega (arith, small at) in
    rw (drop_next s at (omega arith))
    (ap₂ (λ (x y : ℕ). bit_xor x (bytes_xor n y)) low high
    ∙ ap (bit_xor b) (bytes_little_endian n (at + 1) s small (omega arith))
    ∙ sym (xor_of_from b t))

-- One word more of an XOR.
pub xor_word : (s : List ℕ) (i sum w : ℕ) → ((k : ℕ) → get_or s k 0 < 256) → 8 * i + 8 ≤ length s → w ≡ little_endian (take 8 (drop (8 * i) s))
    → bytes_xor 8 sum ≡ xor_of (take (8 * i) s) → bytes_xor 8 (bit_xor sum w) ≡ xor_of (take (8 * (i + 1)) s)
xor_word s i sum w small h is e =
    let front : List ℕ = take (8 * i) s in
    let next : List ℕ = take 8 (drop (8 * i) s) in
    let size : 8 * i + 8 ≡ 8 * (i + 1) = omega arith in
    bytes_xor_lem 8 sum w
    ∙ ap₂ bit_xor e (ap (bytes_xor 8) is ∙ bytes_little_endian 8 (8 * i) s small h)
    ∙ sym (xor_of_from (xor_of front) next)
    ∙ sym (xor_append 0 front next)
    ∙ ap xor_of (sym (take-add (8 * i) 8 s))
    ∙ ap (λ (k : ℕ). xor_of (take k s)) size

-- The XOR of the lowest m bytes and of the n above them.
bytes_above : (m n w : ℕ) → bytes_xor (m + n) w ≡ bit_xor (bytes_xor m w) (bytes_xor n (w / 256 ^ m))
bytes_above zero n w = rw (zero-add, div-one)
bytes_above (suc m) n w =
    let power : 256 * 256 ^ m ≡ 256 ^ suc m = mul_comm 256 (256 ^ m) ∙ sym (pow-suc 256 m) in
    rw suc-add
    (ap (bit_xor (w % 256))
    (bytes_above m n (w / 256)
    ∙ ap (λ (v : ℕ). bit_xor (bytes_xor m (w / 256)) (bytes_xor n v)) (div-div-eq-div-mul w 256 (256 ^ m) ∙ ap (λ (k : ℕ). w / k) power))
    ∙ sym (xor_assoc (w % 256) (bytes_xor m (w / 256)) (bytes_xor n (w / 256 ^ suc m))))

-- The XOR of twice as many bytes is that of the two halves laid over each other.
bytes_half : (n w : ℕ) → bytes_xor (n + n) w ≡ bytes_xor n (bit_xor w (w / 256 ^ n))
bytes_half n w = bytes_above n n w ∙ sym (bytes_xor_lem n w (w / 256 ^ n))

-- A word's bytes, halved three times.
pub xor_folded : (w : ℕ) → let half = bit_xor w (w / 0x100000000) in let quarter = bit_xor half (half / 0x10000) in
    bit_xor quarter (quarter / 0x100) % 256 ≡ bytes_xor 8 w
xor_folded w =
    let half : ℕ = bit_xor w (w / 0x100000000) in
    let quarter : ℕ = bit_xor half (half / 0x10000) in
    sym (bytes_half 4 w ∙ bytes_half 2 half ∙ bytes_half 1 quarter ∙ xor_zero_r (bit_xor quarter (quarter / 0x100) % 256))

-- The XOR in the library's word.
pub xor_fold : (a : ℕ) (s : List ℕ) → fold (λ (x b : ℕ). bit_xor x b) a s ≡ xor_from a s
xor_fold a [] = refl
xor_fold a (b ∷ s) = xor_fold (bit_xor a b) s
