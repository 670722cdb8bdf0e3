-- Laws on digits: their values, and their count at the front of a list.
-- Assumes nothing.
use Rattle.std.proofs.Common.{◌≡◌, ℕ, zero, suc, ◌+◌, ◌-◌, ◌*◌, ◌/◌, ◌%◌, ◌<◌, ◌≤◌, min, Bool, true, false, cond, ◌&&◌, ◌||◌, ltb, leb, List, [], ◌∷◌, length, get_or, take, drop, refl, arith, ltb-false, ltb-true, le-leb, leb-true}
use mathlib.Core.Bool.{and-false, false≢true}
use borrow.Author.Tests.{lt-leb}
use Rattle.std.specs.List.{prefix_len}
use Rattle.frame.specs.Digit.{within, is_digit, digit_value, digit_of}
use Rattle.frame.specs.DigitRuns.{digit_run, Digits}
use Rattle.frame.proofs.Numbers.{both_true}

-- A character above a range is not in it.
pub above_range : (a b c : ℕ) → b < c → within a b c ≡ false
above_range a b c h = rw (lt-leb c b h, and-false)

-- A character between the ends of a range is in it.
pub in_range : (a b c : ℕ) → a ≤ c → c ≤ b → within a b c ≡ true
in_range a b c h k = rw (le-leb a c h, le-leb c b k)

-- A character in a range is at most the range's end.
pub range_end : (a b c : ℕ) → within a b c ≡ true → c ≤ b
range_end a b c e = leb-true c b (last (leb a c) (leb c b) e)
  where
    last : (x y : Bool) → (x && y) ≡ true → y ≡ true
    last true y h = h
    last false y h = absurd (false≢true h)

-- A character in a range is at least the range's start.
pub range_start : (a b c : ℕ) → within a b c ≡ true → a ≤ c
range_start a b c e = leb-true a c (both_true (leb a c) (leb c b) e).0

-- So are those from an index on, and those before one.
pub digits_drop : (i : ℕ) (s : List ℕ) → Digits s → Digits (drop i s)
digits_drop zero s d = d
digits_drop (suc i) [] d = tt
digits_drop (suc i) (c ∷ s) d = digits_drop i s d.1

pub digits_take : (n : ℕ) (s : List ℕ) → Digits s → Digits (take n s)
digits_take zero s d = tt
digits_take (suc n) [] d = tt
digits_take (suc n) (c ∷ s) d = (d.0, digits_take n s d.1)

-- The value of a digit is below 16.
pub digit_small : (c : ℕ) → digit_value c < 16
unfolding digit_value
digit_small c = by_range (within 0x30 0x39 c) (within 0x41 0x46 c) (range_end 0x30 0x39 c) (range_end 0x41 0x46 c)
  where
    by_range : (n l : Bool) → (n ≡ true → c ≤ 0x39) → (l ≡ true → c ≤ 0x46) → cond n (c - 0x30) (cond l (c - 0x37) 0) < 16
    by_range true l f g = omega (arith, f refl)
    by_range false true f g = omega (arith, g refl)
    by_range false false f g = omega arith

-- The value of a digit is its lower half, and nine more for a letter.
pub digit_halves : (c : ℕ) → is_digit c ≡ true → c % 16 + 9 * (c / 64) ≡ digit_value c
unfolding is_digit digit_value
digit_halves c =
    by_range (within 0x30 0x39 c) (within 0x41 0x46 c) (λ e. (range_start 0x30 0x39 c e, range_end 0x30 0x39 c e))
    (λ e. (range_start 0x41 0x46 c e, range_end 0x41 0x46 c e))
  where
    by_range : (n l : Bool) → (n ≡ true → (0x30 ≤ c) × (c ≤ 0x39)) → (l ≡ true → (0x41 ≤ c) × (c ≤ 0x46)) → (n || l) ≡ true
        → c % 16 + 9 * (c / 64) ≡ cond n (c - 0x30) (cond l (c - 0x37) 0)
    by_range true l f g e = omega (arith, f refl)
    by_range false true f g e = omega (arith, g refl)
    by_range false false f g e = absurd (false≢true e)

-- What holds of the characters from 0 on for a value below 10, and of those from A on for one from 10 to 15, holds of its digit.
digit_cases : (P : ℕ → Type 0) (v : ℕ) → (v < 10 → P (0x30 + v)) → (10 ≤ v → P (0x37 + v)) → P (digit_of v)
unfolding digit_of
digit_cases P v low high = by_size (ltb v 10) (ltb-true v 10) (ltb-false v 10)
  where
    by_size : (b : Bool) → (b ≡ true → v < 10) → (b ≡ false → 10 ≤ v) → P (cond b (0x30 + v) (0x37 + v))
    by_size true f g = low (f refl)
    by_size false f g = high (g refl)

-- The digit that stands for a value is a digit.
pub digit_of_is : (v : ℕ) → v < 16 → is_digit (digit_of v) ≡ true
unfolding is_digit
digit_of_is v h =
    digit_cases (λ (c : ℕ). is_digit c ≡ true) v (λ l. rw (in_range 0x30 0x39 (0x30 + v) (omega arith) (omega arith)))
    (λ l. rw (above_range 0x30 0x39 (0x37 + v) (omega arith), in_range 0x41 0x46 (0x37 + v) (omega arith) (omega arith)))

-- The digit that stands for a value has that value.
pub digit_of_value : (v : ℕ) → v < 16 → digit_value (digit_of v) ≡ v
unfolding digit_value
digit_of_value v h =
    digit_cases (λ (c : ℕ). digit_value c ≡ v) v (λ l. rw (in_range 0x30 0x39 (0x30 + v) (omega arith) (omega arith)) (omega arith))
    (λ l. rw (above_range 0x30 0x39 (0x37 + v) (omega arith), in_range 0x41 0x46 (0x37 + v) (omega arith) (omega arith)) (omega arith))

-- r digits stand at the front of s; behind them, unless r is the most that are counted, no further one.
pub record Counted (most : ℕ) (s : List ℕ) (r : ℕ) : Type 0 where
  pub digits : Digits (take r s)
  pub room : r ≤ most
  pub there : r ≤ length s
  pub stops : r < most → r < length s → is_digit (get_or s r 0) ≡ false

-- What the count of digits says of a list.
pub counted : (most : ℕ) (s : List ℕ) → Counted most s (digit_run most s)
counted zero s = record { digits = tt; room = omega arith; there = omega arith; stops = λ h k. absurd (omega arith) }
counted (suc most) [] = record { digits = tt; room = omega arith; there = omega arith; stops = λ h k. absurd (omega arith) }
counted (suc most) (c ∷ s) = by_digit (is_digit c) refl (counted most s)
  where
    by_digit : (q : Bool) → is_digit c ≡ q → Counted most s (digit_run most s) → Counted (suc most) (c ∷ s) (cond q (suc (digit_run most s)) 0)
    by_digit true e h =
        record {
          digits = (e, h.digits);
          room = omega (arith, h.room);
          there = omega (arith, h.there);
          stops = λ j k. h.stops (omega arith) (omega arith);
        }
    by_digit false e h = record { digits = tt; room = omega arith; there = omega arith; stops = λ j k. e }

-- A digit is the one that stands for its value.
pub value_digit : (c : ℕ) → is_digit c ≡ true → digit_of (digit_value c) ≡ c
unfolding is_digit digit_value
value_digit c =
    by_range (within 0x30 0x39 c) (within 0x41 0x46 c) (λ e. (range_start 0x30 0x39 c e, range_end 0x30 0x39 c e))
    (λ e. (range_start 0x41 0x46 c e, range_end 0x41 0x46 c e))
  where
    same : (v : ℕ) → (v < 10 → 0x30 + v ≡ c) → (10 ≤ v → 0x37 + v ≡ c) → digit_of v ≡ c
    same v = digit_cases (λ (d : ℕ). d ≡ c) v

    by_range : (n l : Bool) → (n ≡ true → (0x30 ≤ c) × (c ≤ 0x39)) → (l ≡ true → (0x41 ≤ c) × (c ≤ 0x46)) → (n || l) ≡ true
        → digit_of (cond n (c - 0x30) (cond l (c - 0x37) 0)) ≡ c
    by_range true l f g e = same (c - 0x30) (λ h. omega (arith, f refl)) (λ h. omega (arith, f refl))
    by_range false true f g e = same (c - 0x37) (λ h. omega (arith, g refl)) (λ h. omega (arith, g refl))
    by_range false false f g e = absurd (false≢true e)

-- The count of digits, as the count of characters at the front that pass the test.
pub run_prefix : (most : ℕ) (s : List ℕ) → digit_run most s ≡ min most (prefix_len is_digit s)
run_prefix zero s = omega arith
run_prefix (suc most) [] = omega arith
run_prefix (suc most) (c ∷ s) = by_digit (is_digit c) (run_prefix most s)
  where
    by_digit : (q : Bool) → digit_run most s ≡ min most (prefix_len is_digit s)
        → cond q (suc (digit_run most s)) 0 ≡ min (suc most) (cond q (1 + prefix_len is_digit s) 0)
    by_digit true e = omega arith
    by_digit false e = omega arith
