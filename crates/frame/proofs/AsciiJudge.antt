-- The checks of ASCII framing at each way out of `ascii::judge` and `ascii::judge_digits`.
-- Assumes nothing.
use Rattle.std.proofs.Common.{◌≡◌, ℕ, suc, ◌+◌, ◌-◌, ◌*◌, ◌/◌, ◌%◌, ◌<◌, ◌≤◌, Bool, true, false, eqb, leb, ◌⊎◌, List, map, length, get_or, take, drop, sym, refl, ap, ◌∙◌, ap₂, inl, inr, ⊎_elim, arith, length-drop, take-append-drop, length-take-le, get_or-drop, take_all, take-take, drop-drop, ne_eqb, eqb-true}
use mathlib.Core.List.{drop_last}
use borrow.Author.Tests.{lt-leb, eqb-false}
use lib.ListN.{length-map}
use lib.Seq.{split_at}
use Rattle.frame.specs.Checks.{Checks, fails, Verdict, cut, refused, frame, behind, run}
use Rattle.frame.specs.Digit.{digit_value}
use Rattle.frame.specs.Hex.{sum_of}
use Rattle.frame.specs.Ascii.{colon, hex_digits, digit_count, after_digits, ascii, ends_digits, behind_digits, line_ending}
use Rattle.frame.specs.DigitRuns.{digit_run}
use Rattle.frame.specs.Judged.{decoded, unhexed}
use Rattle.frame.specs.declared.framing.Ending.{Ending}
use Rattle.frame.proofs.Numbers.{and_fails}
use Rattle.frame.proofs.Lists.{drop_last_take}
use Rattle.frame.proofs.Trees.{behind_behind, pass_byte, fail_byte, cut_byte, frame_behind, refused≢frame, Keeps}
use Rattle.frame.proofs.DigitLaws.{Counted, counted}
use Rattle.frame.proofs.HexLaws.{unhexed_digits, length_decoded, decoded_take}
use Rattle.frame.proofs.AsciiLaws.{is_digit_count, digits_end, digits_cut, digits_many, after_count, after_sum, after_end}
use Rattle.frame.proofs.AsciiLaws.{ending_character, ending_judges}

module _ (room : ℕ) (t : List ℕ → ℕ → Checks) (s : List ℕ) (r : ℕ) (h : Counted (suc room) s r) where
  -- r digits are taken.
  front : length (take r s) ≡ r
  front = length-take-le r s h.there

  -- More digits than there is room for.
  pub counted_many : room < r → run (hex_digits room t) s ≡ refused (suc room) 3
  counted_many l =
      ap (run (hex_digits room t)) (sym (take-append-drop r s))
      ∙ digits_many room t (take r s) (drop r s) h.digits (omega (arith, front))

  -- Nothing stands behind the digits.
  pub counted_cut : r ≤ room → length s ≤ r → run (hex_digits room t) s ≡ cut
  counted_cut l m =
      ap (run (hex_digits room t)) (sym (take_all r s m)) ∙ digits_cut room t (take r s) h.digits (omega (arith, front))

  -- A character stands behind the digits.
  pub counted_end : r ≤ room → r < length s
      → run (hex_digits room t) s ≡ behind (suc r) (run (t (map digit_value (take r s)) (get_or s r 0)) (drop (suc r) s))
  counted_end l m =
      ap (run (hex_digits room t)) (split_at s r 0 m)
      ∙ digits_end room t (take r s) (drop (suc r) s) (get_or s r 0) h.digits (omega (arith, front)) (h.stops (omega arith) m)
      ∙ ap (λ (k : ℕ). behind (suc k) (run (t (map digit_value (take r s)) (get_or s r 0)) (drop (suc r) s))) front

-- The payload is what the characters but the last two stand for.
payload_is : (s : List ℕ) (count : ℕ) → count ≤ length s → drop_last (decoded (take count s)) ≡ decoded (take (2 * (count / 2 - 1)) s)
payload_is s count h =
    drop_last_take (decoded (take count s))
    ∙ ap (λ (k : ℕ). take (k - 1) (decoded (take count s)))
    (length_decoded (take count s) ∙ ap (λ (k : ℕ). k / 2) (length-take-le count s h))
    ∙ sym (decoded_take (count / 2 - 1) (take count s))
    ∙ ap decoded (take-take (2 * (count / 2 - 1)) count s (omega arith))

-- A count below four or an odd one does not pass.
no_digit_count : (n : ℕ) → (n < 4) ⊎ (n % 2 ≡ 0 → ⊥) → digit_count n ≡ false
no_digit_count n h = and_fails (leb 4 n) (eqb (n % 2) 0) (⊎_elim (λ l. inl (lt-leb 4 n l)) (λ o. inr (ne_eqb (n % 2) 0 o)) h)

-- What stands behind a colon at the front of s, whatever the ending.
abbrev line : (List ℕ → ℕ → Checks) → List ℕ → Verdict
line end s = behind 1 (run (hex_digits 514 end) (drop 1 s))

-- The values of the digits behind the colon.
abbrev values : List ℕ → ℕ → List ℕ
values s count = map digit_value (take count (drop 1 s))

module _ (s : List ℕ) (count : ℕ) (e : count ≡ digit_run 515 (drop 1 s)) where
  -- The count of the digits behind the colon.
  line_counted : Counted 515 (drop 1 s) count
  line_counted = rw e (counted 515 (drop 1 s))

  -- So what is computed of them is what they stand for.
  pub line_unhexed : unhexed (take count (drop 1 s)) ≡ decoded (take count (drop 1 s))
  line_unhexed = unhexed_digits (take count (drop 1 s)) line_counted.digits

  module _ (end : List ℕ → ℕ → Checks) where
    -- More than 514 digits.
    pub line_many : 514 < count → line end s ≡ refused 516 3
    line_many h = ap (behind 1) (counted_many 514 end (drop 1 s) count line_counted h)

    -- Nothing stands behind the digits.
    pub line_short : count ≤ 514 → length s ≤ 1 + count → line end s ≡ cut
    line_short m h = ap (behind 1) (counted_cut 514 end (drop 1 s) count line_counted m (simp length-drop (omega arith)))

-- At most 514 digits stand behind the colon, and a character behind them.
pub record Stopped (s : List ℕ) (count : ℕ) : Type 0 where
  pub count_is : count ≡ digit_run 515 (drop 1 s)
  pub room : count ≤ 514
  pub there : 1 + count < length s

module _ {s : List ℕ} {count : ℕ} (h : Stopped s count) where
  -- There are as many digits as were counted.
  line_digits : count ≤ length (drop 1 s)
  line_digits = (line_counted s count h.count_is).there

  -- There are as many values as digits.
  line_values : length (values s count) ≡ count
  line_values = length-map (take count (drop 1 s)) digit_value ∙ length-take-le count (drop 1 s) line_digits

  -- Of the ending, t is left at the character behind the digits.
  line_passed : (end : List ℕ → ℕ → Checks) (t : Checks) → end (values s count) (get_or s (1 + count) 0) ≡ t
      → line end s ≡ behind (1 + suc count) (run t (drop (1 + count + 1) s))
  line_passed end t is =
      let ds : List ℕ = values s count in
      let next : 1 + suc count ≡ 1 + count + 1 = omega arith in
      ap (behind 1)
      (counted_end 514 end (drop 1 s) count (line_counted s count h.count_is) h.room
      (simp length-drop (omega (arith, h.there))))
      ∙ behind_behind 1 (suc count) (run (end ds (get_or (drop 1 s) count 0)) (drop (suc count) (drop 1 s)))
      ∙ ap₂ (λ (u : Checks) (r : List ℕ). behind (1 + suc count) (run u r)) (ap (end ds) (get_or-drop 1 s count 0) ∙ is)
      (drop-drop (suc count) 1 s ∙ ap (λ (k : ℕ). drop k s) next)

  -- The character behind the digits fails.
  line_fails : (end : List ℕ → ℕ → Checks) (n : ℕ) → end (values s count) (get_or s (1 + count) 0) ≡ fails n
      → line end s ≡ refused (1 + count + 1) n
  line_fails end n is = let size : 1 + suc count + 0 ≡ 1 + count + 1 = omega arith in line_passed end (fails n) is ∙ ap (λ (k : ℕ). refused k n) size

-- An ending that goes on, at the character behind the digits, by judging them; `rest` is left for their payload.
abbrev pub JudgesAt : (List ℕ → ℕ → Checks) → (List ℕ → Checks) → List ℕ → ℕ → Type 0
JudgesAt end rest s count = end (values s count) (get_or s (1 + count) 0) ≡ after_digits (values s count) rest

-- Too few digits, or an odd count.
pub line_count : (end : List ℕ → ℕ → Checks) (rest : List ℕ → Checks) {s : List ℕ} {count : ℕ} → Stopped s count
    → JudgesAt end rest s count → (count < 4) ⊎ (count % 2 ≡ 0 → ⊥) → line end s ≡ refused (1 + count + 1) 3
line_count end rest {s} {count} h r f =
    line_fails h end 3 (r ∙ after_count (values s count) rest (ap digit_count (line_values h) ∙ no_digit_count count f))

-- An even count of digits, at least four; n is the sum of the bytes that they stand for.
pub record Summed (s : List ℕ) (count n : ℕ) : Type 0 where
  pub stopped : Stopped s count
  pub enough : 4 ≤ count
  pub even : count % 2 ≡ 0
  pub sum_is : n ≡ sum_of (decoded (take count (drop 1 s)))

module _ {s : List ℕ} {count n : ℕ} (h : Summed s count n) where
  -- The sum modulo 256.
  line_sum : n % 256 ≡ sum_of (decoded (take count (drop 1 s))) % 256
  line_sum = ap (λ (k : ℕ). k % 256) h.sum_is

  -- The count passes.
  line_enough : digit_count (length (values s count)) ≡ true
  line_enough = ap digit_count (line_values h.stopped) ∙ is_digit_count count h.enough h.even

  module _ (end : List ℕ → ℕ → Checks) (rest : List ℕ → Checks) (r : JudgesAt end rest s count) where
    -- A sum that is not 0 modulo 256.
    pub line_checksum : (n % 256 ≡ 0 → ⊥) → line end s ≡ refused (1 + count + 1) 4
    line_checksum f = line_fails h.stopped end 4 (r ∙ after_sum (values s count) rest line_enough (λ z. f (line_sum ∙ z)))

    -- The checks of the payload are left.
    pub line_ends : n % 256 ≡ 0
        → line end s ≡ behind (1 + suc count) (run (rest (decoded (take (2 * (count / 2 - 1)) (drop 1 s)))) (drop (1 + count + 1) s))
    line_ends z =
        line_passed h.stopped end (rest (decoded (take (2 * (count / 2 - 1)) (drop 1 s))))
        (r
        ∙ after_end (values s count) rest line_enough (sym line_sum ∙ z)
        ∙ ap rest (payload_is (drop 1 s) count (line_digits h.stopped)))

    -- Where a frame stands there, its payload is what the digits but the last two stand for.
    pub line_payload : Keeps rest → (used : ℕ) (p : List ℕ) → line end s ≡ frame used p → p ≡ decoded (take (2 * (count / 2 - 1)) (drop 1 s))
    line_payload keeps used p e = by_sum (eqb (n % 256) 0) refl
      where
        by_sum : (q : Bool) → eqb (n % 256) 0 ≡ q → p ≡ decoded (take (2 * (count / 2 - 1)) (drop 1 s))
        by_sum true q =
            let g = frame_behind (1 + suc count) _ used p (sym (line_ends (eqb-true (n % 256) 0 q)) ∙ e) in
            sym (keeps (decoded (take (2 * (count / 2 - 1)) (drop 1 s))) (drop (1 + count + 1) s) p g.0 g.1)
        by_sum false q =
            absurd (refused≢frame (1 + count + 1) 4 used p (sym (line_checksum (eqb-false (n % 256) 0 q)) ∙ e))

-- A character stands behind the digits that does not end them.
pub line_character : (ending : Ending) {s : List ℕ} {count : ℕ} → Stopped s count → ends_digits ending (get_or s (1 + count) 0) ≡ false
    → line (line_ending ending) s ≡ refused (1 + count + 1) 6
line_character ending {s} {count} h e = line_fails h (line_ending ending) 6 (ending_character ending (values s count) (get_or s (1 + count) 0) e)

-- One that ends them.
pub line_judges : (ending : Ending) (s : List ℕ) (count : ℕ) → ends_digits ending (get_or s (1 + count) 0) ≡ true
    → JudgesAt (line_ending ending) (behind_digits ending) s count
line_judges ending s count e = ending_judges ending (values s count) (get_or s (1 + count) 0) e

-- The colon, whatever the ending.
module _ (end : List ℕ → ℕ → Checks) (s : List ℕ) where
  -- Nothing is there.
  pub judge_empty : length s ≡ 0 → run (ascii end) s ≡ cut
  unfolding ascii
  judge_empty h = cut_byte colon 1 (hex_digits 514 end) s 0 (omega arith)

  -- Another character than a colon.
  pub judge_start : 0 < length s → (get_or s 0 0 ≡ colon → ⊥) → run (ascii end) s ≡ refused 1 1
  unfolding ascii
  judge_start h e = fail_byte colon 1 (hex_digits 514 end) s 0 h e

  -- Behind the colon, the line is left.
  pub judge_line : 0 < length s → get_or s 0 0 ≡ colon → run (ascii end) s ≡ line end s
  unfolding ascii
  judge_line h e = pass_byte colon 1 (hex_digits 514 end) s 0 h e
