-- Laws of a short frame's bytes, which are computed as the first 16 and the last 16.
-- Assumes nothing.
use Rattle.std.proofs.Common.{◌≡◌, ℕ, ◌+◌, ◌-◌, ◌*◌, ◌/◌, ◌%◌, ◌≤◌, List, ◌++◌, length, take, drop, sym, ap, ◌∙◌, ap₂, arith, length-append, length-drop, length-take-le, take_all, take-take, drop-drop, take_at, drop_at}
use lib.Seq.{paste}
use Rattle.frame.specs.Hex.{sum_of}
use Rattle.frame.specs.Framing.{in_front}
use Rattle.frame.specs.Judged.{decoded, unhexed}
use Rattle.frame.specs.DigitRuns.{digit_run}
use Rattle.frame.specs.Parts.{Short}
use Rattle.frame.specs.declared.framing.Ending.{Ending}
use Rattle.frame.proofs.Lists.{wrote_part}
use Rattle.frame.proofs.AsciiJudge.{Summed, line_unhexed}
use Rattle.frame.proofs.HexLaws.{length_unhexed, unhexed_take, unhexed_drop, decoded_take, sum_split}

-- An even count of characters from 34 to 64, and the bytes of their first 32 and their last 32.
module _ (ds : List ℕ) (count : ℕ) (l : length ds ≡ count) (e : count % 2 ≡ 0) (h : 34 ≤ count) (m : count ≤ 64) (two : List ℕ)
    (is : two ≡ unhexed (take 32 ds) ++ unhexed (take 32 (drop (count - 32) ds))) where
  -- As many bytes as half the characters.
  size : length (unhexed ds) ≡ count / 2
  size = length_unhexed ds ∙ ap (λ (k : ℕ). k / 2) l

  -- They are the first 16 bytes and the last 16.
  parts : two ≡ take 16 (unhexed ds) ++ drop (count / 2 - 16) (unhexed ds)
  parts =
      let at : count - 32 ≡ 2 * (count / 2 - 16) = omega arith in
      is
      ∙ ap₂ (λ (x y : List ℕ). x ++ y) (unhexed_take 16 ds)
      (ap (λ (k : ℕ). unhexed (take 32 (drop k ds))) at
      ∙ unhexed_take 16 (drop (2 * (count / 2 - 16)) ds)
      ∙ ap (take 16) (unhexed_drop (count / 2 - 16) ds)
      ∙ take_all 16 (drop (count / 2 - 16) (unhexed ds)) (omega (arith, length-drop (count / 2 - 16) (unhexed ds), size)))

  front_long : length (take 16 (unhexed ds)) ≡ 16
  front_long = length-take-le 16 (unhexed ds) (omega (arith, size))

  two_long : length two ≡ 32
  two_long =
      ap length parts ∙ length-append (take 16 (unhexed ds)) (drop (count / 2 - 16) (unhexed ds))
      ∙ omega (arith, front_long, length-drop (count / 2 - 16) (unhexed ds), size)

  two_front : take 16 two ≡ take 16 (unhexed ds)
  two_front = ap (take 16) parts ∙ take_at (take 16 (unhexed ds)) (drop (count / 2 - 16) (unhexed ds)) 16 front_long

  two_last : drop 16 two ≡ drop (count / 2 - 16) (unhexed ds)
  two_last = ap (drop 16) parts ∙ drop_at (take 16 (unhexed ds)) (drop (count / 2 - 16) (unhexed ds)) 16 front_long

  -- The bytes behind the first 16 are the last of the last 16.
  two_rest : drop (48 - count / 2) two ≡ drop 16 (unhexed ds)
  two_rest =
      let at : 48 - count / 2 ≡ 16 + (32 - count / 2) = omega arith in
      let there : count / 2 - 16 + (32 - count / 2) ≡ 16 = omega arith in
      ap (λ (k : ℕ). drop k two) at
      ∙ sym (drop-drop (32 - count / 2) 16 two)
      ∙ ap (drop (32 - count / 2)) two_last
      ∙ drop-drop (32 - count / 2) (count / 2 - 16) (unhexed ds)
      ∙ ap (λ (k : ℕ). drop k (unhexed ds)) there

  -- Their sum is that of all bytes.
  two_sum : sum_of (take 16 two) + sum_of (drop (48 - count / 2) two) ≡ sum_of (unhexed ds)
  two_sum = ap₂ (λ (x y : List ℕ). sum_of x + sum_of y) two_front two_rest ∙ sum_split 16 (unhexed ds)

  -- Put into a buffer, without the very last, they are all bytes but that.
  two_put :
      (buf : List ℕ) →
      paste (paste buf 0 (take 16 two) 16) (count / 2 - 16) (take 15 (drop 16 two)) 15
      ≡ take (count / 2 - 1) (unhexed ds) ++ drop (count / 2 - 1) buf
  two_put buf =
      let end : count / 2 - 16 + 15 ≡ count / 2 - 1 = omega arith in
      ap₂ (λ (x y : List ℕ). paste (paste buf 0 x 16) (count / 2 - 16) (take 15 y) 15) two_front two_last
      ∙ ap (λ (d : List ℕ). paste d (count / 2 - 16) (take 15 (drop (count / 2 - 16) (unhexed ds))) 15)
      (wrote_part (unhexed ds) buf 0 16 0 (omega arith) (omega arith) (omega (arith, size)))
      ∙ wrote_part (unhexed ds) buf (count / 2 - 16) 15 16 (omega arith) (omega arith) (omega (arith, size))
      ∙ ap (λ (k : ℕ). take k (unhexed ds) ++ drop k buf) end

-- The same of a short frame, whose characters are digits.
module _ (ending : Ending) (s : List ℕ) (count : ℕ) (r : count ≡ digit_run 515 (drop 1 s)) (h : Short ending s count) (two : List ℕ)
    (is : two ≡ unhexed (take 32 (take count (drop 1 s))) ++ unhexed (take 32 (drop (count - 32) (take count (drop 1 s))))) where
  digits_long : length (take count (drop 1 s)) ≡ count
  digits_long = length-take-le count (drop 1 s) (omega (arith, length-drop 1 s, h.inside))

  pub short_long : length two ≡ 32
  short_long = two_long (take count (drop 1 s)) count digits_long h.even h.least h.most two is

  pub short_sum : sum_of (take 16 two) + sum_of (drop (48 - count / 2) two) ≡ sum_of (decoded (take count (drop 1 s)))
  short_sum =
      two_sum (take count (drop 1 s)) count digits_long h.even h.least h.most two is ∙ ap sum_of (line_unhexed s count r)

  pub short_put :
      (buf p : List ℕ) → p ≡ decoded (take (2 * (count / 2 - 1)) (drop 1 s)) →
      paste (paste buf 0 (take 16 two) 16) (count / 2 - 16) (take 15 (drop 16 two)) 15 ≡ in_front p buf
  short_put buf p e =
      let ds : List ℕ = take count (drop 1 s) in
      let even = h.even in
      let same : p ≡ take (count / 2 - 1) (unhexed ds) =
      e ∙ ap decoded (sym (take-take (2 * (count / 2 - 1)) count (drop 1 s) (omega arith))) ∙ decoded_take (count / 2 - 1) ds
      ∙ ap (take (count / 2 - 1)) (sym (line_unhexed s count r))
      in
      let long : length p ≡ count / 2 - 1 =
      ap length same ∙ length-take-le (count / 2 - 1) (unhexed ds) (omega (arith, length_unhexed ds, digits_long))
      in
      two_put ds count digits_long h.even h.least h.most two is buf ∙ sym (ap₂ (λ (x : List ℕ) (k : ℕ). x ++ drop k buf) same long)

-- A short frame's sum is made.
pub short_summed :
    (ending : Ending) (s : List ℕ) (count total : ℕ) → count ≡ digit_run 515 (drop 1 s) → Short ending s count →
    total ≡ sum_of (decoded (take count (drop 1 s))) →
    Summed s count total
short_summed ending s count total r h e =
    record {
      stopped = record { count_is = r; room = omega (arith, h.most); there = h.inside };
      enough = omega (arith, h.least);
      even = h.even;
      sum_is = e;
    }
