-- Laws on numbers in decimal.
-- Assumes nothing.
use Prim.Native.Nat.{ℕ, zero, suc, ◌+◌, ◌-◌, ◌/◌, ◌%◌, ◌^◌, ◌≤◌, ◌<◌, zero-le}
use native.Mathlib.Nat.{not-suc-le-zero, pow-suc}
use native.Mathlib.Omega.{arith}
use mathlib.Core.Path.{◌≡◌, sym, ◌∙◌}
use mathlib.Core.List.{List, [], ◌∷◌, ◌++◌}
use mathlib.Core.Bool.{Bool, true, false, cond}
use borrow.Author.Tests.{lt-ltb, le-ltb, le-leb}
use lib.Dec.{ltb}
use lib.ListN.{length, length-append}
use Rattle.io.specs.Digits.{last_digits, hex_digit_ascii, IsDigitCount}
use Rattle.std.specs.Prelude.{Ok}
use Rattle.std.specs.Borrow.{MutBor}
use Rattle.listing.specs.Line.{digits_of, decimal, noise_line}
use Rattle.listing.specs.Listing.{ListsTotal}
use Rattle.listing.specs.Parts.{Starts, Writes}
use Rattle.listing.specs.declared.text.Listing.{Listing}
use Rattle.listing.proofs.Texts.{starts_front}

-- A digit is the character of its value.
glyph_is : (n : ℕ) → hex_digit_ascii (n % 10) ≡ 0x30 + n % 10
glyph_is n = rw (lt-ltb (n % 10) 10 (omega arith))

-- A power of ten is not 0.
power_some : (k : ℕ) → 1 ≤ 10 ^ k
power_some zero = omega arith
power_some (suc k) = omega (arith, pow-suc 10 k, power_some k)

-- The digits of a number, as many as it takes, are its digits with no zero in front.
digits_are : (k places n : ℕ) → IsDigitCount 10 1 n k → n < 10 ^ suc places → last_digits 10 k n ≡ digits_of (suc places) n
digits_are zero places n f l = absurd (not-suc-le-zero f.0)
digits_are (suc zero) places n f l = rw (glyph_is n, lt-ltb n 10 f.1)
digits_are (suc (suc k)) zero n f l =
    let less : suc (suc k) - 1 ≡ suc k = omega arith in
    let many : 10 ^ suc k ≤ n = rw less at (f.2 (omega arith)) in
    absurd (omega (arith, pow-suc 10 k, power_some k))
digits_are (suc (suc k)) (suc places) n f l =
    let less : suc (suc k) - 1 ≡ suc k = omega arith in
    let fewer : suc k - 1 ≡ k = omega arith in
    let many : 10 ^ suc k ≤ n = rw less at (f.2 (omega arith)) in
    let ten : 10 ≤ n = omega (arith, pow-suc 10 k, power_some k) in
    let rest : IsDigitCount 10 1 (n / 10) (suc k) =
    (omega arith, omega (arith, pow-suc 10 (suc k), f.1), λ _. rw fewer (omega (arith, pow-suc 10 k))) in
    let small : n / 10 < 10 ^ suc places = omega (arith, pow-suc 10 (suc places)) in
    rw (glyph_is n, le-ltb n 10 ten, digits_are (suc k) places (n / 10) rest small)

pub decimal_is : (k n : ℕ) → IsDigitCount 10 1 n k → n < 10 ^ 20 → last_digits 10 k n ≡ decimal n
unfolding decimal
decimal_is k n f l = digits_are k 19 n f l

-- A number has no more digits than places.
digits_few : (places n : ℕ) → length (digits_of places n) ≤ places
digits_few zero n = zero-le
digits_few (suc places) n = few (ltb n 10) (digits_few places (n / 10))
  where
    few : (small : Bool) → length (digits_of places (n / 10)) ≤ places →
        length (cond small [] (digits_of places (n / 10)) ++ ((0x30 + n % 10) ∷ [])) ≤ suc places
    few true h = omega arith
    few false h = simp length-append (omega arith)

pub decimal_few : (n : ℕ) → length (decimal n) ≤ 20
unfolding decimal
decimal_few n = digits_few 20 n

-- 27 bytes are enough for the line of the noise total.
pub noise_room : (n : ℕ) → length (noise_line n) ≤ 27
unfolding noise_line
noise_room n = simp length-append (omega (arith, decimal_few n))

-- The total is listed where its line is written at the front of a buffer with room.
pub total_lists :
    {n len : ℕ} {out : MutBor (List ℕ)} {g g' : Listing} {out' : List ℕ} → Starts out g → Writes g (noise_line n) g' → 27 ≤ length out.now →
    (out.ghost_name ≡ g'.out.ghost_name → out' ≡ g'.out.now) → len ≡ g'.lines.len → ListsTotal n out.now (Ok len) out'
total_lists {out = out} b p h e l =
    let front = starts_front b p in
    let room = le-leb 27 (length out.now) h in
    record { answers = rw (room, l, front.0); leaves = rw room (e (sym (p.same_reference ∙ b.same_reference)) ∙ front.1) }
