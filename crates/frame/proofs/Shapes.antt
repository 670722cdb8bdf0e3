-- What frames look like: what they begin with, and what no undecided start goes on over.
-- Assumes nothing.
use Rattle.std.proofs.Common.{◌≡◌, ℕ, zero, suc, ◌+◌, ◌%◌, Bool, true, false, cond, eqb, List, [], ◌∷◌, ◌++◌, length, sym, refl, ap, ◌∙◌, subst}
use mathlib.Core.List.{drop_last}
use Rattle.frame.specs.Checks.{Checks, next, fails, whole, byte, test, Verdict, cut, refused, frame, behind, run, last_byte}
use Rattle.frame.specs.Binary.{binary, behind_checksum}
use Rattle.frame.specs.Digit.{is_digit, digit_value}
use Rattle.frame.specs.Hex.{pairs, sum_of}
use Rattle.frame.specs.Ascii.{colon, line_feed, hex_digits, digit_count, after_digits, ascii, ends_digits, behind_digits, line_ending}
use Rattle.frame.specs.Framing.{checks, judge}
use Rattle.frame.specs.Further.{Decided}
use Rattle.frame.specs.declared.framing.Footer.{Footer}
use Rattle.frame.specs.declared.framing.Ending.{Ending}
use Rattle.frame.specs.declared.framing.Ending.TheVariants.{CrLf, Any}
use Rattle.frame.specs.declared.framing.Format.{Format}
use Rattle.frame.specs.declared.framing.Format.TheVariants.{Binary, Ascii}
use Rattle.frame.proofs.Trees.{stands, took_byte, cut≢frame, cut≢refused}

-- No frame stands there.
abbrev pub NoFrame : Verdict → Type 0
NoFrame cut = Unit {0}
NoFrame (refused judged n) = Unit {0}
NoFrame (frame used p) = ⊥

-- A decision stands when more bytes follow.
pub judge_stands : (f : Format) (s more : List ℕ) (v : Verdict) → Decided v → judge f s ≡ v → judge f (s ++ more) ≡ v
judge_stands f s more v d e = stands (checks f) s more (subst Decided (sym e) d) ∙ e

-- What holds of a tree whichever way a test goes.
by_cond : (P : Checks → Type 0) (q : Bool) (t u : Checks) → (q ≡ true → P t) → P u → P (cond q t u)
by_cond P true t u ht hu = ht refl
by_cond P false t u ht hu = hu

-- The bytes are refused.
abbrev pub IsRefused : Verdict → Type 0
IsRefused cut = ⊥
IsRefused (refused judged n) = Unit {0}
IsRefused (frame used p) = ⊥

-- What is refused is no frame.
pub refused_no_frame : (v : Verdict) → IsRefused v → NoFrame v
refused_no_frame cut h = tt
refused_no_frame (refused judged n) h = tt
refused_no_frame (frame used p) h = h

-- It is refused behind other bytes too.
refused_behind : (k : ℕ) (v : Verdict) → IsRefused v → IsRefused (behind k v)
refused_behind k cut h = h
refused_behind k (refused judged n) h = tt
refused_behind k (frame used p) h = h

-- What is undecided behind other bytes is undecided.
pub cut_behind : (k : ℕ) (v : Verdict) → behind k v ≡ cut → v ≡ cut
cut_behind k cut e = refl
cut_behind k (refused judged n) e = absurd (cut≢refused (k + judged) n (sym e))
cut_behind k (frame used p) e = absurd (cut≢frame (k + used) p (sym e))

-- The tree has failed.
abbrev pub Fails : Checks → Type 0
Fails (next t) = ⊥
Fails (fails n) = Unit {0}
Fails (whole p) = ⊥

-- Wherever the tree takes a byte, it fails at the byte c.
abbrev pub Bars : ℕ → Checks → Type 0
Bars c (next t) = Fails (t c) × ((b : ℕ) → Bars c (t b))
Bars c (fails n) = Unit {0}
Bars c (whole p) = Unit {0}

-- Then any bytes are refused.
fails_refuse : (t : Checks) (s : List ℕ) → Fails t → IsRefused (run t s)
fails_refuse (next t) s h = absurd h
fails_refuse (fails n) s h = tt
fails_refuse (whole p) s h = absurd h

-- Undecided bytes with that byte behind them are refused.
bars_stop : (c : ℕ) (t : Checks) (s more : List ℕ) → Bars c t → run t s ≡ cut → IsRefused (run t (s ++ (c ∷ more)))
bars_stop c (next t) [] more h e = refused_behind 1 (run (t c) more) (fails_refuse (t c) more h.0)
bars_stop c (next t) (b ∷ s) more h e =
    refused_behind 1 (run (t b) (s ++ (c ∷ more))) (bars_stop c (t b) s more (h.1 b) (cut_behind 1 (run (t b) s) e))
bars_stop c (fails n) s more h e = tt
bars_stop c (whole p) s more h e = absurd (cut≢frame 0 p (sym e))

-- A test before it does not change that.
bars_test : (c : ℕ) (q : Bool) (n : ℕ) (t : Checks) → Bars c t → Bars c (test q n t)
unfolding test
bars_test c q n t h = by_cond (Bars c) q t (fails n) (λ _. h) tt

-- A colon does not end the checks behind the digits.
bars_after : (ds : List ℕ) (rest : List ℕ → Checks) → ((p : List ℕ) → Bars colon (rest p)) → Bars colon (after_digits ds rest)
unfolding after_digits
bars_after ds rest h =
    bars_test colon (digit_count (length ds)) 3 _ (bars_test colon (eqb (sum_of (pairs ds) % 256) 0) 4 _ (h (drop_last (pairs ds))))

-- It is no part of an ending.
bars_behind : (ending : Ending) (p : List ℕ) → Bars colon (behind_digits ending p)
unfolding last_byte byte
bars_behind CrLf p = (tt, λ b. by_cond (Bars colon) (eqb b line_feed) (whole p) (fails 5) (λ _. tt) tt)
bars_behind Any p = tt

bars_ending : (ending : Ending) (ds : List ℕ) (c : ℕ) → Bars colon (line_ending ending ds c)
unfolding line_ending
bars_ending ending ds c = bars_test colon (ends_digits ending c) 6 _ (bars_after ds (behind_digits ending) (bars_behind ending))

-- It fails there.
colon_fails : (ending : Ending) (ds : List ℕ) → Fails (line_ending ending ds colon)
unfolding line_ending test
colon_fails CrLf ds = tt
colon_fails Any ds = tt

-- Digits before it do not change that.
bars_digits :
    (room : ℕ) (t : List ℕ → ℕ → Checks) → ((ds : List ℕ) → Fails (t ds colon)) → ((ds : List ℕ) (c : ℕ) → Bars colon (t ds c)) →
    Bars colon (hex_digits room t)
unfolding hex_digits is_digit
bars_digits zero t h k = (h [], λ b. by_cond (Bars colon) (is_digit b) (fails 3) (t [] b) (λ _. tt) (k [] b))
bars_digits (suc room) t h k =
    let more : (b : ℕ) → Bars colon (hex_digits room (λ ds e. t (digit_value b ∷ ds) e)) =
    λ b. bars_digits room (λ ds e. t (digit_value b ∷ ds) e) (λ ds. h (digit_value b ∷ ds)) (λ ds e. k (digit_value b ∷ ds) e) in
    (h [], λ b. by_cond (Bars colon) (is_digit b) (hex_digits room (λ ds e. t (digit_value b ∷ ds) e)) (t [] b) (λ _. more b) (k [] b))

-- Whatever the ending of an ASCII frame.
module _ (end : List ℕ → ℕ → Checks) where
  -- Where the checks behind the first colon fail at any other, no undecided start goes on over a colon.
  ascii_stops : Bars colon (hex_digits 514 end) → (b : ℕ) (s more : List ℕ) → run (ascii end) (b ∷ s) ≡ cut
      → IsRefused (run (ascii end) ((b ∷ s) ++ (colon ∷ more)))
  unfolding ascii byte
  ascii_stops bars b s more e =
      let t : Checks = cond (eqb b colon) (hex_digits 514 end) (fails 1) in
      let h : Bars colon t = by_cond (Bars colon) (eqb b colon) (hex_digits 514 end) (fails 1) (λ _. bars) tt in
      refused_behind 1 (run t (s ++ (colon ∷ more))) (bars_stop colon t s more h (cut_behind 1 (run t s) e))

  -- It begins with a colon.
  ascii_first : (s p : List ℕ) (used : ℕ) → run (ascii end) s ≡ frame used p → (rest : List ℕ) × (s ≡ colon ∷ rest)
  unfolding ascii
  ascii_first s p used e = let h = took_byte colon 1 _ s p used e in (h.rest, h.split)

-- A binary frame begins with A5 5A, whatever its ending.
binary_first : (end : List ℕ → Checks) (s p : List ℕ) (used : ℕ) → run (binary end) s ≡ frame used p
    → (rest : List ℕ) × (s ≡ 0xA5 ∷ 0x5A ∷ rest)
unfolding binary
binary_first end s p used e =
    let h = took_byte 0xA5 1 _ s p used e in
    let k = took_byte 0x5A 1 _ h.rest p h.left h.goes in
    (k.rest, h.split ∙ ap (λ (l : List ℕ). 0xA5 ∷ l) k.split)

-- Behind an ASCII frame's first colon the checks fail at any other.
pub bars_line : (ending : Ending) → Bars colon (hex_digits 514 (line_ending ending))
bars_line ending = bars_digits 514 (line_ending ending) (colon_fails ending) (bars_ending ending)

-- No undecided start of an ASCII frame goes on over a colon.
pub colon_stops :
    (ending : Ending) (b : ℕ) (s more : List ℕ) → judge (Ascii ending) (b ∷ s) ≡ cut → IsRefused (judge (Ascii ending) ((b ∷ s) ++ (colon ∷ more)))
colon_stops ending = ascii_stops (line_ending ending) (bars_line ending)

-- What each framing begins with.
pub colon_first : (ending : Ending) (s p : List ℕ) (used : ℕ) → judge (Ascii ending) s ≡ frame used p → (rest : List ℕ) × (s ≡ colon ∷ rest)
colon_first ending = ascii_first (line_ending ending)

pub pair_first : (footer : Footer) (s p : List ℕ) (used : ℕ) → judge (Binary footer) s ≡ frame used p → (rest : List ℕ) × (s ≡ 0xA5 ∷ 0x5A ∷ rest)
pair_first footer = binary_first (behind_checksum footer)
