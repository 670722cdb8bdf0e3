-- The examples of damage, computed.
-- Assumes nothing.
use Prim.Native.Nat.{ℕ, zero, suc, ◌+◌, ◌<◌}
use native.Mathlib.Nat.{zero-add, add-zero, suc-add, add-suc, le_of_suc-le-suc, not-suc-le-zero}
use native.Mathlib.Omega.{arith}
use mathlib.Core.Path.{◌≡◌, refl, sym, ap, ap₂, ◌∙◌}
use mathlib.Core.List.Memᴰ
use mathlib.Core.List.{List, [], ◌∷◌, ◌++◌, Memᴰ, flatten}
use mathlib.Core.Bool.{Bool, true, false, not, ◌&&◌, ◌||◌, and-eq-true_iff, false≢true}
use mathlib.Core.Logic.{⊎_elim}
use borrow.Author.Tests.{eq-eqb, eqb-true}
use lib.Dec.{eqb}
use lib.ListN.{length, get_or, take, drop, replicate}
use Rattle.frame.specs.Checks.{frame, byte, test, word, bytes, last_byte}
use Rattle.frame.specs.Binary.{binary, body}
use Rattle.frame.specs.Digit.{is_digit, digit_value}
use Rattle.frame.specs.Ascii.{hex_digits, line_ending, after_digits, ascii}
use Rattle.frame.specs.Framing.{read}
use Rattle.frame.specs.Rule.{join, places, out_from, Found, rule}
use Rattle.frame.specs.Elements.{All}
use Rattle.reader.specs.Recovery.{Good, Stretch, none, another, starts, PairsBegin}
use Rattle.reader.specs.RecoveryExamples.{response, blank, success, overlapped, LostAndBack}
use Rattle.reader.specs.RecoveryExamples.{holds_start, completes, unguarded, short_start, lost_frame, ProvisoNeeded}
use Rattle.reader.specs.RecoveryExamples.{bare, mixed, MixedFooters, FooterRequired, ascii_frame, four, AsciiBack}
use Rattle.reader.specs.RecoveryExamples.{ended_by_cr, ended_by_lf, MixedLines, StrictLines, LfJudges}
use Rattle.frame.specs.declared.framing.Footer.{Footer}
use Rattle.frame.specs.declared.framing.Footer.TheVariants.{Optional, Required}
use Rattle.frame.specs.declared.framing.Ending.{Ending}
use Rattle.frame.specs.declared.framing.Ending.TheVariants.{CrLf, Any}
use Rattle.frame.specs.declared.framing.Format.{Format}
use Rattle.frame.specs.declared.framing.Format.TheVariants.{Binary, Ascii}
use Rattle.frame.proofs.Trees.{cut≢frame}

-- The proviso as a computed test: wherever the pair stands in s, whose first byte is at `place`, that place is one of ss.
abbrev among : ℕ → List ℕ → Bool
among n [] = false
among n (k ∷ ks) = eqb n k || among n ks

abbrev pairs_among : ℕ → List ℕ → List ℕ → Bool
pairs_among place [] ss = true
pairs_among place (a ∷ []) ss = true
pairs_among place (a ∷ b ∷ s) ss = (not (eqb a 0xA5 && eqb b 0x5A) || among place ss) && pairs_among (suc place) (b ∷ s) ss

among_at :
    (n k : ℕ) (ks : List ℕ) (q : Bool) → eqb n k ≡ q → (q || among n ks) ≡ true → (among n ks ≡ true → Memᴰ n ks) →
    Memᴰ n (k ∷ ks)
among_at n k ks true e t later = Memᴰ.head (eqb-true n k e)
among_at n k ks false e t later = Memᴰ.tail (later t)

-- A number that the test finds is in the list.
among_mem : (n : ℕ) (ks : List ℕ) → among n ks ≡ true → Memᴰ n ks
among_mem n [] t = absurd (false≢true t)
among_mem n (k ∷ ks) t = among_at n k ks (eqb n k) refl t (λ u. among_mem n ks u)

-- The test shows the proviso.
pairs_sound :
    (place : ℕ) (s ss : List ℕ) → pairs_among place s ss ≡ true → (i : ℕ) → suc i < length s → get_or s i 0 ≡ 0xA5 → get_or s (suc i) 0 ≡ 0x5A →
    Memᴰ (place + i) ss
pairs_sound place [] ss t i l x y = absurd (not-suc-le-zero l)
pairs_sound place (a ∷ []) ss t i l x y = absurd (not-suc-le-zero (le_of_suc-le-suc l))
pairs_sound place (a ∷ b ∷ s) ss t zero l x y =
    let here = ((and-eq-true_iff (not (eqb a 0xA5 && eqb b 0x5A) || among place ss) (pairs_among (suc place) (b ∷ s) ss)).0 t).0 in
    Memᴰ.cast
    (add-zero place)
    (among_mem place ss (ap₂ (λ (p q : Bool). not (p && q) || among place ss) (sym (eq-eqb a 0xA5 x)) (sym (eq-eqb b 0x5A y)) ∙ here))
pairs_sound place (a ∷ b ∷ s) ss t (suc i) l x y =
    let later = ((and-eq-true_iff (not (eqb a 0xA5 && eqb b 0x5A) || among place ss) (pairs_among (suc place) (b ∷ s) ss)).0 t).1 in
    Memᴰ.cast (add-suc place i ∙ sym (suc-add place i)) (pairs_sound (suc place) (b ∷ s) ss later i (le_of_suc-le-suc l) x y)

-- Copies of a good frame, and a stretch behind them.
copies : {f : Format} {g : List ℕ} {gs : List (List ℕ)} (n : ℕ) → Good f g → Stretch f gs → Stretch f (replicate n g ++ gs)
copies zero good st = st
copies (suc n) good st = another good (copies n good st)

-- What is read as a frame to its last byte under each choice of the footer is a good frame under either.
both_good :
    (g p : List ℕ) → read (Binary Optional) g ≡ frame (length g) p → read (Binary Required) g ≡ frame (length g) p →
    (m : Footer) → Good (Binary m) g
both_good g p o r Optional = record { payload = p; reads = o }
both_good g p o r Required = record { payload = p; reads = r }

-- The test on all of a stretch shows the proviso on it.
pairs_begin : (gs : List (List ℕ)) → pairs_among 0 (flatten gs) (starts 0 gs) ≡ true → PairsBegin gs
pairs_begin gs t i l x y = Memᴰ.cast (sym (zero-add i)) (pairs_sound 0 (flatten gs) (starts 0 gs) t i l x y)

-- The response is a good frame.
response_good : (m : Footer) → Good (Binary m) response
unfolding binary body last_byte byte test word bytes
response_good = both_good response success refl refl

-- The frames that the stray start overlaps are good, and those behind them.
overlapped_good : (m : Footer) → Stretch (Binary m) overlapped
unfolding binary body last_byte byte test word bytes
overlapped_good m =
    copies 22 (response_good m)
    (another (both_good (blank 11) (replicate 11 0) refl refl m)
    (another (both_good (blank 15) (replicate 15 0) refl refl m) (another (response_good m) (another (response_good m) none))))

-- A stray start loses good frames, and later ones come back.
pub lost_and_back : (m : Footer) → LostAndBack m
unfolding rule places out_from join binary body last_byte byte test word bytes flatten
lost_and_back Optional = record { good = overlapped_good Optional; pairs = pairs_begin overlapped refl; frames = refl }
lost_and_back Required = record { good = overlapped_good Required; pairs = pairs_begin overlapped refl; frames = refl }

-- A frame is not among frames at other places.
elsewhere : (x : Found) (xs : List Found) → All (λ y. x.place ≡ y.place → ⊥) xs → Memᴰ x xs → ⊥
elsewhere x [] h m = Memᴰ.not-nil m
elsewhere x (y ∷ ys) h m =
    ⊎_elim
    (λ (e : x ≡ y). h.0 (ap (λ (z : Found). z.place) e))
    (λ (k : Memᴰ x ys). elsewhere x ys h.1 k)
    (Memᴰ.cases_cons m)

-- The frames without the proviso are good.
unguarded_good : (m : Footer) → Stretch (Binary m) unguarded
unfolding binary body last_byte byte test word bytes
unguarded_good m =
    another (both_good holds_start (take 256 (drop 4 holds_start)) refl refl m)
    (another (both_good completes lost_frame.payload refl refl m) (another (response_good m) none))

-- Without the proviso a good frame far into the stretch is lost.
pub proviso_needed : (m : Footer) → ProvisoNeeded m
unfolding rule places out_from join binary body last_byte byte test word bytes flatten
proviso_needed Optional =
    record {
      good = unguarded_good Optional;
      there = Memᴰ.tail (Memᴰ.head refl);
      late = omega arith;
      frames = refl;
      lost = elsewhere lost_frame (rule (Binary Optional) (short_start ++ flatten unguarded)).frames (omega arith, (omega arith, (omega arith, tt)));
    }
proviso_needed Required =
    record {
      good = unguarded_good Required;
      there = Memᴰ.tail (Memᴰ.head refl);
      late = omega arith;
      frames = refl;
      lost = elsewhere lost_frame (rule (Binary Required) (short_start ++ flatten unguarded)).frames (omega arith, (omega arith, (omega arith, tt)));
    }

-- Good frames with the footer and without it, mixed.
pub mixed_footers : MixedFooters
unfolding rule places out_from join binary body last_byte byte test word bytes flatten
mixed_footers =
    let without : Good (Binary Optional) (bare response) = record { payload = success; reads = refl } in
    record {
      good =
          another (response_good Optional)
          (another without
          (another (record { payload = replicate 1 0; reads = refl })
          (another (record { payload = replicate 5 0; reads = refl }) (another without (another (response_good Optional) none)))));
      pairs = pairs_begin mixed refl;
      kept = refl;
      lost = refl;
    }

-- Where the footer is required, a frame without it is no good frame.
pub footer_required : FooterRequired
unfolding rule places out_from join binary body last_byte byte test word bytes flatten
footer_required =
    record {
      not_good = λ good. cut≢frame 9 good.payload good.reads;
      alone = refl;
      before = refl;
      frames = refl;
    }

pub ascii_back : (ending : Ending) → AsciiBack ending
unfolding rule places out_from join ascii hex_digits is_digit digit_value line_ending last_byte after_digits byte test
ascii_back CrLf = record { good = another (record { payload = four; reads = refl }) none; frames = refl }
ascii_back Any = record { good = another (record { payload = four; reads = refl }) none; frames = refl }

-- Good frames under any ending, mixed.
pub mixed_lines_back : MixedLines
unfolding rule places out_from join ascii hex_digits is_digit digit_value line_ending last_byte after_digits byte test flatten
mixed_lines_back =
    let cr : Good (Ascii Any) ended_by_cr = record { payload = four; reads = refl } in
    let lf : Good (Ascii Any) ended_by_lf = record { payload = four; reads = refl } in
    let both : Good (Ascii Any) ascii_frame = record { payload = four; reads = refl } in
    record {
      good = another cr (another both (another lf (another lf (another cr (another both none)))));
      kept = refl;
      doubled_lf = refl;
      second_lf = refl;
      doubled_cr = refl;
    }

-- Under the strict ending they are refused.
pub strict_lines : StrictLines
unfolding rule places out_from join ascii hex_digits is_digit digit_value line_ending last_byte after_digits byte test
strict_lines = record { alone = refl; before = refl; at_lf = refl; frames = refl }

-- LF gives 3 and 4 as CR does.
pub lf_judges : LfJudges
unfolding ascii hex_digits is_digit digit_value line_ending after_digits byte test
lf_judges = record { odd = refl; few = refl; odd_at_cr = refl; sum = refl; sum_at_cr = refl; other = refl }
