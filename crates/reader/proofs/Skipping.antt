-- Laws of skipping: bytes that start no frame, and starts that another follows, are passed as the scan would pass them one by one.
-- Assumes nothing.
use Prim.Native.Nat.{ℕ, zero, suc, ◌+◌, ◌-◌, ◌≤◌, ◌<◌, max, min}
use native.Mathlib.Nat.{add-zero, sub_self, le_refl}
use native.Mathlib.Numerals.{add-one}
use native.Mathlib.Omega.{arith}
use mathlib.Core.Path.{◌≡◌, refl, sym, ap, ◌∙◌, subst}
use mathlib.Core.List.{List, [], ◌∷◌}
use mathlib.Core.Logic.{◌⊎◌, inl, inr}
use mathlib.Core.Bool.{Bool, true, cond, not}
use borrow.Author.Tests.{eq-eqb, ne_eqb, eqb-true, eqb-false, not-true}
use lib.Dec.{eqb}
use lib.ListN.{length, get_or, take, drop}
use lib.Seq.{take-take}
use Rattle.frame.specs.Checks.{Checks, next, fails, whole, test, Verdict, cut, refused, frame, behind, run}
use Rattle.frame.specs.Binary.{binary}
use Rattle.frame.specs.Digit.{is_digit, digit_value}
use Rattle.frame.specs.Ascii.{ascii, colon, hex_digits, line_ending}
use Rattle.frame.specs.Framing.{judge}
use Rattle.frame.specs.DigitRuns.{all_pass}
use Rattle.reader.specs.Scan.{start_of, passed_by, judging, scan_from, other, same, Skips}
use Rattle.frame.specs.declared.framing.Ending.{Ending}
use Rattle.frame.specs.declared.framing.Ending.TheVariants.{CrLf, Any}
use Rattle.frame.specs.declared.framing.Format.{Format}
use Rattle.frame.specs.declared.framing.Format.TheVariants.{Binary, Ascii}
use Rattle.frame.proofs.Numbers.{le_or_lt, both_true, and_true}
use Rattle.frame.proofs.Lists.{drop_next}
use Rattle.frame.proofs.Trees.{pass_byte, fail_byte, cut≢refused, cut≢frame, refused≢frame}
use Rattle.frame.proofs.Shapes.{Fails, Bars, bars_line, cut_behind}
use Rattle.reader.proofs.Prefixes.{refused_sized}
use Rattle.reader.proofs.Scanning.{step_refused}

-- What holds of every element holds of every one in front.
all_pass_take : (test : ℕ → Bool) (n : ℕ) (s : List ℕ) → all_pass test s ≡ true → all_pass test (take n s) ≡ true
all_pass_take test zero s h = refl
all_pass_take test (suc n) [] h = refl
all_pass_take test (suc n) (c ∷ s) h =
    let both = both_true (test c) (all_pass test s) h in
    and_true (test c) (all_pass test (take n s)) both.0 (all_pass_take test n s both.1)

-- A byte that is not b is another.
pub other_byte : (b c : ℕ) → (c ≡ b → ⊥) → other b c ≡ true
other_byte b c e = ap not (ne_eqb c b e)

module _ (test : ℕ → Bool) (s : List ℕ) (from stop : ℕ) where
  -- Nothing is skipped yet.
  pub skips_none : from ≤ stop → Skips test s from stop from
  skips_none h = record { onward = le_refl from; inside = h; others = rw sub_self }

-- A byte that starts no frame fails as the first.
pub start_fails : (f : Format) (s : List ℕ) (place : ℕ) → place < length s → (get_or s place 0 ≡ start_of f → ⊥) → judge f (drop place s) ≡ refused 1 1
unfolding binary ascii
start_fails (Binary footer) s place l e = fail_byte 0xA5 1 _ s place l e
start_fails (Ascii ending) s place l e = fail_byte colon 1 (hex_digits 514 (line_ending ending)) s place l e

-- What is refused behind one byte is refused with one byte judged fewer.
refused_left : (v : Verdict) (judged n : ℕ) → behind 1 v ≡ refused judged n → (left : ℕ) × (judged ≡ 1 + left) × (v ≡ refused left n)
refused_left cut judged n e = absurd (cut≢refused judged n e)
refused_left (refused i m) judged n e = (i, cc, cc)
refused_left (frame used p) judged n e = absurd (refused≢frame judged n (1 + used) p (sym e))

-- Where the tree has failed, no byte is judged.
fails_judged : (t : Checks) (s : List ℕ) (judged n : ℕ) → Fails t → run t s ≡ refused judged n → judged ≡ 0
fails_judged (next t) s judged n h e = absurd h
fails_judged (fails k) s judged n h e = cc
fails_judged (whole p) s judged n h e = absurd h

-- Nor are bytes undecided.
fails_decides : (t : Checks) (s : List ℕ) → Fails t → run t s ≡ cut → ⊥
fails_decides (next t) s h e = h
fails_decides (fails k) s h e = cut≢refused 0 k (sym e)
fails_decides (whole p) s h e = h

-- Before the bytes of a refusal goes one that is no c, unless it is the last judged.
barred_next :
    (c b : ℕ) (s : List ℕ) (left : ℕ) → (b ≡ c → left ≡ 0) → all_pass (other c) (take (left - 1) s) ≡ true →
    all_pass (other c) (take left (b ∷ s)) ≡ true
barred_next c b s zero h rest = refl
barred_next c b s (suc left) h rest =
    let back : suc left - 1 ≡ left = omega arith in
    and_true (other c b) (all_pass (other c) (take left s)) (other_byte c b (λ same. absurd (omega (arith, h same)))) (rw back at rest)

-- Where a tree fails at the byte c wherever it takes one, no byte of a refusal but the last judged is c.
barred : (c : ℕ) (t : Checks) (s : List ℕ) (judged n : ℕ) → Bars c t → run t s ≡ refused judged n → all_pass (other c) (take (judged - 1) s) ≡ true
barred c (fails k) s judged n h e = let none : judged ≡ 0 = cc in rw none
barred c (whole p) s judged n h e = absurd (refused≢frame judged n 0 p (sym e))
barred c (next t) [] judged n h e = absurd (cut≢refused judged n e)
barred c (next t) (b ∷ s) judged n h e =
    let v = refused_left (run (t b) s) judged n e in
    let size : judged - 1 ≡ v.0 = omega (arith, v.1) in
    let last : b ≡ c → v.0 ≡ 0 = λ same. fails_judged (t b) s v.0 n (rw same h.0) v.2 in
    rw size (barred_next c b s v.0 last (barred c (t b) s v.0 n (h.1 b) v.2))

-- And where the bytes are undecided, none is.
pub barred_cut : (c : ℕ) (t : Checks) (s : List ℕ) → Bars c t → run t s ≡ cut → all_pass (other c) s ≡ true
barred_cut c (fails k) s h e = absurd (cut≢refused 0 k (sym e))
barred_cut c (whole p) s h e = absurd (cut≢frame 0 p (sym e))
barred_cut c (next t) [] h e = refl
barred_cut c (next t) (b ∷ s) h e =
    let rest : run (t b) s ≡ cut = cut_behind 1 (run (t b) s) e in
    let no : b ≡ c → ⊥ = λ same. fails_decides (t b) s (subst (λ (x : ℕ). Fails (t x)) (sym same) h.0) rest in
    and_true (other c b) (all_pass (other c) s) (other_byte c b no) (barred_cut c (t b) s (h.1 b) rest)

-- A tree that takes a byte is refused at one byte at least.
next_judged : (t : ℕ → Checks) (s : List ℕ) (judged n : ℕ) → run (next t) s ≡ refused judged n → 1 ≤ judged
next_judged t [] judged n e = absurd (cut≢refused judged n e)
next_judged t (b ∷ s) judged n e = omega (arith, (refused_left (run (t b) s) judged n e).1)

-- Digits are refused at one byte at least.
digits_judged : (room : ℕ) (t : List ℕ → ℕ → Checks) (s : List ℕ) (judged n : ℕ) → run (hex_digits room t) s ≡ refused judged n → 1 ≤ judged
unfolding hex_digits
digits_judged zero t s judged n e = next_judged (λ c. cond (is_digit c) (fails 3) (t [] c)) s judged n e
digits_judged (suc room) t s judged n e =
    next_judged (λ c. cond (is_digit c) (hex_digits room (λ ds x. t (digit_value c ∷ ds) x)) (t [] c)) s judged n e

-- A colon that starts no frame fails behind it, and no byte between it and the failing one is a colon.
pub colon_fails :
    (ending : Ending) (s : List ℕ) (place judged n : ℕ) → place < length s → get_or s place 0 ≡ colon →
    judge (Ascii ending) (drop place s) ≡ refused judged n →
    (2 ≤ judged) × (all_pass (other colon) (take (judged - 2) (drop (place + 1) s)) ≡ true)
unfolding ascii
colon_fails ending s place judged n l is q =
    let rest : List ℕ = drop (suc place) s in
    let line : Checks = hex_digits 514 (line_ending ending) in
    let v = refused_left (run line rest) judged n (sym (pass_byte colon 1 line s place l is) ∙ q) in
    let size : judged - 2 ≡ v.0 - 1 = omega (arith, v.1) in (
      omega (arith, v.1, digits_judged 514 (line_ending ending) rest v.0 n v.2),
      rw (size, add-one) (barred colon line rest v.0 n (bars_line ending) v.2),
    )

-- The places that a failed start passes over are its own and those of bytes that start no frame.
pub fails_over :
    (f : Format) (s : List ℕ) (stop place judged n : ℕ) → stop ≤ length s → place < stop → get_or s place 0 ≡ start_of f →
    judge f (drop place s) ≡ refused judged n →
    Skips (other (start_of f)) s (place + 1) stop (min (place + passed_by f judged) stop) × (passed_by f judged ≤ judged)
fails_over (Binary footer) s stop place judged n m l is q =
    let to : min (place + 1) stop ≡ place + 1 = omega arith in
    (rw to (skips_none (other 0xA5) s (place + 1) stop (omega arith)), (refused_sized (Binary footer) (drop place s) judged n q).some)
fails_over (Ascii ending) s stop place judged n m l is q =
    let h = colon_fails ending s place judged n (omega arith) is q in
    let to : ℕ = min (place + (judged - 1)) stop in
    let least : to - (place + 1) ≤ judged - 2 = omega arith in (
      record {
        onward = omega (arith, h.0);
        inside = omega arith;
        others =
            rw (take-take (to - (place + 1)) (judged - 2) (drop (place + 1) s) least) at
            (all_pass_take (other colon) (to - (place + 1)) (take (judged - 2) (drop (place + 1) s)) h.1);
      },
      omega arith,
    )

-- A colon behind another fails.
colon_doubled : (ending : Ending) (s : List ℕ) → run (hex_digits 514 (line_ending ending)) (colon ∷ s) ≡ refused 1 6
unfolding hex_digits line_ending is_digit test
colon_doubled CrLf s = refl
colon_doubled Any s = refl

-- The refusal of a start that another start follows, which fails there.
abbrev pub doubled_number : Format → ℕ
doubled_number (Binary footer) = 1
doubled_number (Ascii ending) = 6

-- A start that another start follows fails at that.
pub doubled_fails :
    (f : Format) (s : List ℕ) (place : ℕ) → place + 1 < length s → get_or s place 0 ≡ start_of f → get_or s (place + 1) 0 ≡ start_of f →
    judge f (drop place s) ≡ refused 2 (doubled_number f)
unfolding binary ascii
doubled_fails (Binary footer) s place l e d =
    let second : get_or s (suc place) 0 ≡ 0xA5 = ap (λ (k : ℕ). get_or s k 0) (sym (add-one place)) ∙ d in
    pass_byte 0xA5 1 _ s place (omega arith) e
    ∙ ap (behind 1) (fail_byte 0x5A 1 _ s (suc place) (omega arith) (λ z. let no : ◌≡◌ {A = ℕ} 0xA5 0x5A = sym second ∙ z in omega arith))
doubled_fails (Ascii ending) s place l e d =
    let second : get_or s (suc place) 0 ≡ colon = ap (λ (k : ℕ). get_or s k 0) (sym (add-one place)) ∙ d in
    pass_byte colon 1 (hex_digits 514 (line_ending ending)) s place (omega arith) e
    ∙ ap (λ (r : List ℕ). behind 1 (run (hex_digits 514 (line_ending ending)) r))
    (drop_next s (suc place) (omega arith) ∙ ap (λ (c : ℕ). c ∷ drop (suc place + 1) s) second)
    ∙ ap (behind 1) (colon_doubled ending (drop (suc place + 1) s))

-- Starts of frames stand in a row, from one place to another.
pub record Starts (f : Format) (s : List ℕ) (stop place to : ℕ) : Type 0 where
  pub onward : place < to
  pub inside : to ≤ stop
  pub there : to < length s
  pub first : get_or s place 0 ≡ start_of f
  pub rest : all_pass (same (start_of f)) (take (to - place) (drop (place + 1) s)) ≡ true

-- They do from a doubled one to the last that was skipped behind it.
pub starts_run :
    (f : Format) (s : List ℕ) (stop from to : ℕ) → stop ≤ length s → from < stop → get_or s from 0 ≡ start_of f →
    (from + 1 < length s) × (get_or s (from + 1) 0 ≡ start_of f) → Skips (same (start_of f)) s (from + 1) stop to →
    Starts f s stop from (max (to - 1) (from + 1))
starts_run f s stop from to m l is d h =
    record { onward = omega arith; inside = omega (arith, h.inside); there = omega (arith, h.inside); first = is; rest = by_end (le_or_lt to (from + 1)) }
  where
    by_end : (to ≤ from + 1) ⊎ (from + 1 < to) → all_pass (same (start_of f)) (take (max (to - 1) (from + 1) - from) (drop (from + 1) s)) ≡ true
    by_end (inl k) =
        let one : max (to - 1) (from + 1) - from ≡ 1 = omega arith in
        rw (one, drop_next s (from + 1) d.0, eq-eqb (get_or s (from + 1) 0) (start_of f) d.1)
    by_end (inr k) = let size : max (to - 1) (from + 1) - from ≡ to - (from + 1) = omega arith in rw size h.others

module _ (f : Format) (s : List ℕ) (stop place to : ℕ) (h : Starts f s stop place to) where
  -- The second is one, and so are those behind it.
  starts_both : (get_or s (place + 1) 0 ≡ start_of f) × (all_pass (same (start_of f)) (take (to - (place + 1)) (drop (place + 1 + 1) s)) ≡ true)
  starts_both =
      let size : to - place ≡ suc (to - (place + 1)) = omega (arith, h.onward) in
      let rest = all_pass (same (start_of f)) (take (to - (place + 1)) (drop (place + 1 + 1) s)) in
      let split = rw (size, drop_next s (place + 1) (omega (arith, h.onward, h.there))) at h.rest in
      let both = both_true (same (start_of f) (get_or s (place + 1) 0)) rest split in
      (eqb-true (get_or s (place + 1) 0) (start_of f) both.0, both.1)

  -- The first fails.
  pub starts_fails : judge f (drop place s) ≡ refused 2 (doubled_number f)
  starts_fails = doubled_fails f s place (omega (arith, h.onward, h.there)) h.first starts_both.0

  -- The others stand in a row too.
  pub starts_next : place + 1 < to → Starts f s stop (place + 1) to
  starts_next l = record { onward = l; inside = h.inside; there = h.there; first = starts_both.0; rest = starts_both.1 }

module _ (e : Bool) (f : Format) (s : List ℕ) (stop to : ℕ) where
  -- The scan from a place so far before the last of them goes on at that.
  scan_left :
      (left place far : ℕ) → to ≡ place + suc left → Starts f s stop place to →
      scan_from (judging e f) (stop - place) place far (drop place s) ≡ scan_from (judging e f) (stop - to) to (max far (to + 1)) (drop to s)
  scan_left zero place far d h =
      let next : place + 1 ≡ to = omega arith in
      let far-is : place + 2 ≡ to + 1 = omega arith in
      step_refused e f stop place far s (omega (arith, h.inside)) 2 _ (starts_fails f s stop place to h) ∙ rw (next, far-is)
  scan_left (suc left) place far d h =
      let far-is : max (max far (place + 2)) (to + 1) ≡ max far (to + 1) = omega arith in
      step_refused e f stop place far s (omega (arith, h.inside)) 2 _ (starts_fails f s stop place to h)
      ∙ scan_left left (place + 1) (max far (place + 2)) (omega arith) (starts_next f s stop place to h (omega arith))
      ∙ rw far-is

  -- So does the scan from the first.
  pub scan_starts :
      (place far : ℕ) → Starts f s stop place to →
      scan_from (judging e f) (stop - place) place far (drop place s) ≡ scan_from (judging e f) (stop - to) to (max far (to + 1)) (drop to s)
  scan_starts place far h = scan_left (to - place - 1) place far (omega (arith, h.onward)) h

module _ (e : Bool) (f : Format) (s : List ℕ) (stop : ℕ) (m : stop ≤ length s) where
  -- One byte that starts no frame is passed.
  pass_one :
      (place far : ℕ) → place < stop → (get_or s place 0 ≡ start_of f → ⊥) →
      scan_from (judging e f) (stop - place) place far (drop place s)
      ≡ scan_from (judging e f) (stop - (place + 1)) (place + 1) (max far (place + 1)) (drop (place + 1) s)
  pass_one place far l n = step_refused e f stop place far s l 1 1 (start_fails f s place (omega arith) n)

  -- So are several behind it.
  pass_many :
      (left place far : ℕ) → place + left ≤ stop → place ≤ far → all_pass (other (start_of f)) (take left (drop place s)) ≡ true →
      scan_from (judging e f) (stop - place) place far (drop place s)
      ≡ scan_from (judging e f) (stop - (place + left)) (place + left) (max far (place + left)) (drop (place + left) s)
  pass_many zero place far l k h = let same : max far (place + 0) ≡ far = omega arith in rw (same, add-zero)
  pass_many (suc left) place far l k h =
      let both = both_true (other (start_of f) (get_or s place 0)) (all_pass (other (start_of f)) (take left (drop (place + 1) s)))
      (rw (drop_next s place (omega arith)) at h) in
      let next : place + 1 + left ≡ place + suc left = omega arith in
      let far-is : max (max far (place + 1)) (place + suc left) ≡ max far (place + suc left) = omega arith in
      pass_one place far (omega arith) (eqb-false (get_or s place 0) (start_of f) (not-true (eqb (get_or s place 0) (start_of f)) both.0))
      ∙ pass_many left (place + 1) (max far (place + 1)) (omega arith) (omega arith) both.1
      ∙ rw (next, far-is)

  -- The scan from a byte that starts no frame goes on where the bytes behind it were skipped to.
  pub scan_skips :
      (place far to : ℕ) → place < stop → (get_or s place 0 ≡ start_of f → ⊥) → Skips (other (start_of f)) s (place + 1) stop to →
      scan_from (judging e f) (stop - place) place far (drop place s) ≡ scan_from (judging e f) (stop - to) to (max far to) (drop to s)
  scan_skips place far to l n h =
      let there : place + 1 + (to - (place + 1)) ≡ to = omega (arith, h.onward) in
      let far-is : max (max far (place + 1)) to ≡ max far to = omega (arith, h.onward) in
      pass_one place far l n
      ∙ pass_many (to - (place + 1)) (place + 1) (max far (place + 1)) (omega (arith, h.inside)) (omega arith) h.others
      ∙ rw (there, far-is)

  -- The scan from a failed start goes on behind the places that it passes over.
  pub scan_fails :
      (place far judged n : ℕ) → place < stop → get_or s place 0 ≡ start_of f → judge f (drop place s) ≡ refused judged n →
      let to = min (place + passed_by f judged) stop in
      scan_from (judging e f) (stop - place) place far (drop place s) ≡ scan_from (judging e f) (stop - to) to (max far (place + judged)) (drop to s)
  scan_fails place far judged n l is q =
      let h = fails_over f s stop place judged n m l is q in
      let to : ℕ = min (place + passed_by f judged) stop in
      let there : place + 1 + (to - (place + 1)) ≡ to = omega (arith, h.0.onward) in
      let far-is : max (max far (place + judged)) to ≡ max far (place + judged) = omega (arith, h.1) in
      step_refused e f stop place far s l judged n q
      ∙ pass_many (to - (place + 1)) (place + 1) (max far (place + judged)) (omega (arith, h.0.onward)) (omega (arith, h.0.onward, h.1)) h.0.others
      ∙ rw (there, far-is)
