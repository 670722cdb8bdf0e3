-- How many bytes the rule judges at most, and how near bad segments come to that.
-- Assumes nothing.
use Prim.Native.Nat.{ℕ, zero, suc, pred, ◌+◌, ◌-◌, ◌*◌, ◌≤◌, zero-le}
use native.Mathlib.Nat.{le_of_suc-le-suc, not-suc-le-zero, mul-suc, zero-add}
use native.Mathlib.Omega.{arith}
use mathlib.Core.Bool.{Bool, true, false, cond, not}
use mathlib.Core.List.{List, [], ◌∷◌, ◌++◌, map}
use mathlib.Core.Path.{◌≡◌, refl, sym, ap, ap₂, ◌∙◌, subst}
use borrow.Author.Tests.{eqb-true, eqb-false, ne_eqb}
use lib.Dec.{eqb}
use lib.ListN.{length, take, replicate, length-append, length-drop}
use Rattle.frame.specs.Checks.{Checks, byte, test, word, bytes, Verdict, cut, refused, frame, run, last_byte}
use Rattle.frame.specs.Binary.{body, binary}
use Rattle.frame.specs.Hex.{sum_of}
use Rattle.frame.specs.Ascii.{ascii, colon, hex_digits, line_ending}
use Rattle.frame.specs.Framing.{judge, judged_as, judged_at, read, behind_optional}
use Rattle.frame.specs.Rule.{places, rule_judged}
use Rattle.frame.specs.DigitRuns.{all_pass}
use Rattle.reader.specs.Scan.{other}
use Rattle.reader.specs.Counts.{most_judged, CallsBound}
use Rattle.reader.specs.Further.{StateBound, RuleBound}
use Rattle.reader.specs.CountExamples.{ColonsCount, nested_starts, NestedStartsCount}
use Rattle.frame.specs.Steps.{pass_after}
use Rattle.frame.specs.declared.framing.Footer.{Footer}
use Rattle.frame.specs.declared.framing.Footer.TheVariants.{Optional, Required}
use Rattle.frame.specs.declared.framing.Ending.{Ending}
use Rattle.frame.specs.declared.framing.Ending.TheVariants.{CrLf, Any}
use Rattle.frame.specs.declared.framing.Format.{Format}
use Rattle.frame.specs.declared.framing.Format.TheVariants.{Binary, Ascii}
use Rattle.frame.proofs.Numbers.{both_true}
use Rattle.frame.proofs.Trees.{pass_byte}
use Rattle.reader.proofs.Prefixes.{refused_sized}
use Rattle.frame.proofs.Optional.{behind_frame, read_judged, read_sized}
use Rattle.frame.proofs.Shapes.{NoFrame, bars_line, cut_behind, judge_stands}
use Rattle.reader.proofs.Skipping.{start_fails, colon_fails, barred_cut, doubled_fails}
use Rattle.reader.proofs.Counting.{judged_at_most}
use Rattle.reader.proofs.RuleCounts.{counted_failed}
use Rattle.reader.proofs.CallCounts.{calls_count}

-- The bytes judged at the places of s behind those that are passed over.
abbrev judged_behind : Format → ℕ → List ℕ → ℕ
judged_behind f pass s = sum_of (map (judged_at f) (places f pass s))

-- Where no place has more than so many, the bytes judged are at most so many for each byte.
most_behind : (f : Format) (most : ℕ) → ((t : List ℕ) → judged_at f t ≤ most) → (pass : ℕ) (s : List ℕ) → judged_behind f pass s ≤ most * length s
unfolding places
most_behind f most h pass [] = zero-le
most_behind f most h zero (b ∷ s) =
    rw (mul-suc most (length s)) (omega (arith, h (b ∷ s), most_behind f most h (pass_after (read f (b ∷ s))) s))
most_behind f most h (suc pass) (b ∷ s) = rw (mul-suc most (length s)) (omega (arith, most_behind f most h pass s))

-- How many bytes at the front of s are no colon.
abbrev plain : List ℕ → ℕ
plain [] = 0
plain (b ∷ s) = cond (other colon b) (suc (plain s)) 0

plain_take : (n : ℕ) (s : List ℕ) → n ≤ length s → all_pass (other colon) (take n s) ≡ true → n ≤ plain s
plain_take zero s l e = zero-le
plain_take (suc n) [] l e = absurd (not-suc-le-zero l)
plain_take (suc n) (b ∷ s) l e =
    let both = both_true (other colon b) (all_pass (other colon) (take n s)) e in
    rw both.0 (omega (arith, plain_take n s (le_of_suc-le-suc l) both.1))

plain_all : (s : List ℕ) → all_pass (other colon) s ≡ true → length s ≤ plain s
plain_all [] e = zero-le
plain_all (b ∷ s) e =
    let both = both_true (other colon b) (all_pass (other colon) s) e in rw both.0 (omega (arith, plain_all s both.1))

-- Where no byte is to be passed over, those at the front that are no colon count one less each.
abbrev spared : ℕ → List ℕ → ℕ
spared zero s = plain s
spared (suc pass) s = 0

-- A colon alone is undecided.
last_colon : (ending : Ending) → rule_judged (Ascii ending) (colon ∷ []) ≡ 1
unfolding places ascii byte hex_digits
last_colon CrLf = refl
last_colon Any = refl

module _ (ending : Ending) where
  abbrev f : Format
  f = Ascii ending

  -- One place: a byte that is no colon, or a colon by what is judged there.
  other_at :
      (b : ℕ) (s : List ℕ) → (b ≡ colon → ⊥) → judged_behind f 0 s + plain s ≤ 2 * length s →
      judged_behind f 0 (b ∷ s) + spared 0 (b ∷ s) ≤ 2 * length (b ∷ s)
  other_at b s n h =
      let fails : judge f (b ∷ s) ≡ refused 1 1 = start_fails f (b ∷ s) 0 (omega arith) n in
      let here : judged_at f (b ∷ s) ≡ 1 = ap (λ (v : Verdict). judged_as v (b ∷ s)) fails in
      let lead : plain (b ∷ s) ≡ suc (plain s) = ap (λ (q : Bool). cond (not q) (suc (plain s)) 0) (ne_eqb b colon n) in
      omega (arith, counted_failed f b s (subst NoFrame (sym fails) tt), here, lead, h)

  colon_at :
      (b : ℕ) (s : List ℕ) (v : Verdict) → b ≡ colon → judge f (b ∷ s) ≡ v →
      ((pass : ℕ) → pass ≤ length s → judged_behind f pass s + 2 * pass + spared pass s ≤ 2 * length s) →
      judged_behind f 0 (b ∷ s) ≤ 2 * length (b ∷ s)
  unfolding ascii places
  colon_at b s cut is e h =
      let line : Checks = hex_digits 514 (line_ending ending) in
      let undecided : run line s ≡ cut = cut_behind 1 (run line s) (sym (pass_byte colon 1 line (b ∷ s) 0 (omega arith) is) ∙ e) in
      let here : judged_at f (b ∷ s) ≡ length (b ∷ s) = ap (λ (v : Verdict). judged_as v (b ∷ s)) e in
      omega (arith, counted_failed f b s (subst NoFrame (sym e) tt), here, plain_all s (barred_cut colon line s (bars_line ending) undecided), h 0 zero-le)
  colon_at b s (refused judged n) is e h =
      let k = colon_fails ending (b ∷ s) 0 judged n (omega arith) is e in
      let here : judged_at f (b ∷ s) ≡ judged = ap (λ (v : Verdict). judged_as v (b ∷ s)) e in
      let there : judged - 2 ≤ length s = omega (arith, (refused_sized f (b ∷ s) judged n e).there) in
      omega (arith, counted_failed f b s (subst NoFrame (sym e) tt), here, plain_take (judged - 2) s there k.1, h 0 zero-le, k.0)
  colon_at b s (frame used p) is e h =
      let n : ℕ = used + behind_frame f (b ∷ s) used in
      let reads : read f (b ∷ s) ≡ frame n p = read_judged f (b ∷ s) used p e in
      let size = read_sized f (b ∷ s) p n reads in
      let all : judged_behind f 0 (b ∷ s) ≡ used + judged_behind f (pred n) s =
      ap₂ (λ (v w : Verdict). judged_as v (b ∷ s) + judged_behind f (pass_after w) s) e reads in
      omega (arith, all, h (pred n) (omega (arith, size.some, size.there)), size.some)

  -- One place, whatever its byte.
  bound_at :
      (b : ℕ) (s : List ℕ) (q : Bool) → eqb b colon ≡ q →
      ((pass : ℕ) → pass ≤ length s → judged_behind f pass s + 2 * pass + spared pass s ≤ 2 * length s) →
      judged_behind f 0 (b ∷ s) + 2 * 0 + plain (b ∷ s) ≤ 2 * length (b ∷ s)
  bound_at b s true e h =
      let none : plain (b ∷ s) ≡ 0 = ap (λ (q : Bool). cond (not q) (suc (plain s)) 0) e in
      omega (arith, none, colon_at b s (judge f (b ∷ s)) (eqb-true b colon e) refl h)
  bound_at b s false e h = omega (arith, other_at b s (eqb-false b colon e) (omega (arith, h 0 zero-le)))

  -- All places.
  bound : (pass : ℕ) (s : List ℕ) → pass ≤ length s → judged_behind f pass s + 2 * pass + spared pass s ≤ 2 * length s
  unfolding places
  bound zero [] l = zero-le
  bound (suc pass) [] l = absurd (not-suc-le-zero l)
  bound (suc pass) (b ∷ s) l = omega (arith, bound pass s (le_of_suc-le-suc l))
  bound zero (b ∷ s) l = bound_at b s (eqb b colon) refl (λ pass k. bound pass s k)

  -- In ASCII framing the bytes judged are at most two for each byte.
  ascii_bound : (s : List ℕ) → rule_judged f s ≤ 2 * length s
  ascii_bound s = omega (arith, bound 0 s zero-le)

  -- A line of colons comes within one of that.
  pub colons_count : ColonsCount ending
  colons_count zero = last_colon ending
  colons_count (suc n) =
      let s : List ℕ = replicate (suc n) colon in
      let fails : judge f (colon ∷ s) ≡ refused 2 6 = doubled_fails f (colon ∷ s) 0 (omega arith) refl refl in
      let here : judged_at f (colon ∷ s) ≡ 2 = ap (λ (v : Verdict). judged_as v (colon ∷ s)) fails in
      omega (arith, counted_failed f colon s (subst NoFrame (sym fails) tt), here, colons_count n)

-- Of 66 starts the first fails at its checksum, of 65 none does.
late_fails : (footer : Footer) → judge (Binary footer) (nested_starts 66) ≡ refused 261 4
unfolding binary byte word test bytes body last_byte
late_fails Optional = refl
late_fails Required = refl

last_starts : (footer : Footer) → rule_judged (Binary footer) (nested_starts 65) ≡ 8775
unfolding places binary byte word test bytes body last_byte
last_starts Optional = refl
last_starts Required = refl

module _ (footer : Footer) where
  abbrev g : Format
  g = Binary footer

  -- More starts behind others.
  starts_append : (n m : ℕ) → nested_starts (n + m) ≡ nested_starts n ++ nested_starts m
  starts_append zero m = ap nested_starts (zero-add m)
  starts_append (suc n) m =
      let next : suc n + m ≡ suc (n + m) = omega arith in
      ap nested_starts next ∙ ap (λ (s : List ℕ). 0xA5 ∷ 0x5A ∷ 0x81 ∷ 0x00 ∷ s) (starts_append n m)

  -- A start with 65 behind it fails at its checksum.
  nested_fails : (n : ℕ) → judge g (nested_starts (66 + n)) ≡ refused 261 4
  nested_fails n = ap (judge g) (starts_append 66 n) ∙ judge_stands g (nested_starts 66) (nested_starts n) (refused 261 4) tt (late_fails footer)

  -- Bytes that start no frame count one.
  one_other : (b : ℕ) (s : List ℕ) → (b ≡ 0xA5 → ⊥) → rule_judged g (b ∷ s) ≡ 1 + rule_judged g s
  one_other b s n =
      let fails : judge g (b ∷ s) ≡ refused 1 1 = start_fails g (b ∷ s) 0 (omega arith) n in
      counted_failed g b s (subst NoFrame (sym fails) tt) ∙ ap (λ (v : Verdict). judged_as v (b ∷ s) + rule_judged g s) fails

  -- Nested starts have 66 judged bytes for a byte, but for the last 65.
  pub nested_starts_count : NestedStartsCount footer
  nested_starts_count zero = last_starts footer
  nested_starts_count (suc n) =
      let s : List ℕ = nested_starts (n + 65) in
      let size : 66 + n ≡ suc (n + 65) = omega arith in
      let fails : judge g (0xA5 ∷ 0x5A ∷ 0x81 ∷ 0x00 ∷ s) ≡ refused 261 4 = ap (λ (k : ℕ). judge g (nested_starts k)) (sym size) ∙ nested_fails n in
      let first : rule_judged g (0xA5 ∷ 0x5A ∷ 0x81 ∷ 0x00 ∷ s) ≡ 261 + rule_judged g (0x5A ∷ 0x81 ∷ 0x00 ∷ s) =
      counted_failed g 0xA5 (0x5A ∷ 0x81 ∷ 0x00 ∷ s) (subst NoFrame (sym fails) tt)
      ∙ ap (λ (v : Verdict). judged_as v (0xA5 ∷ 0x5A ∷ 0x81 ∷ 0x00 ∷ s) + rule_judged g (0x5A ∷ 0x81 ∷ 0x00 ∷ s)) fails in
      let next : suc n + 65 ≡ suc (n + 65) = omega arith in
      ap (λ (k : ℕ). rule_judged g (nested_starts k)) next
      ∙ omega (
        arith,
        first,
        one_other 0x5A (0x81 ∷ 0x00 ∷ s) (λ z. omega arith),
        one_other 0x81 (0x00 ∷ s) (λ z. omega arith),
        one_other 0x00 s (λ z. omega arith),
        nested_starts_count n,
      )

-- In either framing they are no more than the bound.
pub rule_bound : (f : Format) → RuleBound f
rule_bound (Binary footer) s = most_behind (Binary footer) 262 (judged_at_most (Binary footer)) 0 s
rule_bound (Ascii ending) s = ascii_bound ending s

-- So is what any list of calls reports.
pub calls_bound : (f : Format) → CallsBound f
calls_bound f segment out calls = rw (calls_count f segment out calls) (rule_bound f segment)

-- Of fewer bytes the bound is no larger.
most_fewer : (f : Format) (a b : ℕ) → a ≤ b → most_judged f * a ≤ most_judged f * b
most_fewer (Binary footer) a b l = omega arith
most_fewer (Ascii ending) a b l = omega arith

-- And what the rule judges from any state on.
pub state_bound : StateBound
state_bound s todo =
    let f : Format = s.format in
    let bytes : List ℕ = s.held ++ todo in
    let rest : List ℕ = behind_optional f s.follows bytes in
    let few : length rest ≤ length s.held + length todo = rw length-drop (omega (arith, length-append s.held todo)) in
    omega (arith, rule_bound f rest, most_fewer f (length rest) (length s.held + length todo) few)
