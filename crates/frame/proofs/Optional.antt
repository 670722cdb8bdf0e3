-- Laws of the optional byte: what is read is what is judged, with the optional byte that follows; and the layouts that are read.
-- Assumes nothing.
use Rattle.std.proofs.Common.{◌≡◌, ℕ, zero, suc, ◌+◌, ◌-◌, ◌*◌, ◌%◌, ◌≤◌, Bool, true, false, cond, eqb, ◌⊎◌, List, [], ◌∷◌, ◌++◌, length, get_or, take, drop, sym, refl, ap, ◌∙◌, subst, ap₂, inl, inr, ⊎_elim, true≢false, append_assoc, append-nil, suc-le-suc, zero-le, le_refl, add-zero, arith, length-append, length-drop, get_or-drop, get_or-take, take_at, drop_at, eqb-true}
use mathlib.Core.List.Memᴰ
use mathlib.Core.List.{Memᴰ}
use mathlib.Core.Bool.{false≢true}
use lib.Seq.{get_or-append_seam, take-append_seam, drop-append_seam, drop-append-le}
use Rattle.frame.specs.Checks.{Checks, next, fails, whole, byte, test, word, bytes, Verdict, cut, refused, frame, behind, run}
use Rattle.frame.specs.Binary.{xor_of, binary_front, binary_ending, length_word, body, binary, footer_byte}
use Rattle.frame.specs.Digit.{is_digit, digit_value}
use Rattle.frame.specs.Hex.{pairs, sum_of}
use Rattle.frame.specs.Ascii.{colon, carriage_return, line_feed, ascii_front, ascii_ending, hex_digits, digit_count, after_digits, ascii, ends_digits, line_ending}
use Rattle.frame.specs.Framing.{judge, read, with_optional, may_follow, is_optional, is_open, absorbed, front, layout, framing_of, limit}
use Rattle.frame.specs.Claims.{Payload, endings, EndingsRead, NeverFive, FrontAndEnding, FrameIsFrontAndEnding}
use Rattle.frame.specs.Further.{Sized, ReadIsSized, LayoutReads}
use Rattle.frame.specs.declared.framing.Framing.TheVariants.{Binary as BinaryFraming, Ascii as AsciiFraming}
use Rattle.frame.specs.declared.framing.Footer.TheVariants.{Optional, Required}
use Rattle.frame.specs.declared.framing.Ending.TheVariants.{CrLf, Any}
use Rattle.frame.specs.declared.framing.Format.{Format}
use Rattle.frame.specs.declared.framing.Format.TheVariants.{Binary, Ascii}
use Rattle.frame.proofs.Trees.{cut≢frame, cut≢refused, refused≢frame}
use Rattle.frame.proofs.BinaryLaws.{optional_front, required_layout, optional_is_layout, required_is_layout}
use Rattle.frame.proofs.AsciiLaws.{ascii_layout_reads, ascii_is_layout, any_ends, any_front, any_is_front}
use Rattle.frame.proofs.Shapes.{NoFrame, judge_stands}
use Rattle.frame.proofs.Framings.{frame_sized, some_used, used_is, payload_size}

-- At most one byte is absorbed, and no more than there are.
one_or_none : (q : Bool) → cond q 1 0 ≤ 1
one_or_none true = suc-le-suc zero-le
one_or_none false = zero-le

pub absorbed_one : (m : Format) (follows : Bool) (s : List ℕ) → absorbed m follows s ≤ 1
absorbed_one m false s = zero-le
absorbed_one m true [] = zero-le
absorbed_one m true (b ∷ s) = one_or_none (is_optional m b)

pub absorbed_there : (m : Format) (follows : Bool) (s : List ℕ) → absorbed m follows s ≤ length s
absorbed_there m false s = zero-le
absorbed_there m true [] = zero-le
absorbed_there m true (b ∷ s) = omega (arith, one_or_none (is_optional m b))

-- Of no bytes none is.
pub absorbed_nil : (m : Format) (follows : Bool) → absorbed m follows [] ≡ 0
absorbed_nil m false = refl
absorbed_nil m true = refl

-- What is behind the first byte is of no account.
pub absorbed_front : (m : Format) (follows : Bool) (b : ℕ) (s more : List ℕ) → absorbed m follows (b ∷ s) ≡ absorbed m follows (b ∷ more)
absorbed_front m false b s more = refl
absorbed_front m true b s more = refl

-- Nor is what follows, where it does not begin with an optional byte.
absorbed_same : (m : Format) (follows : Bool) (s more : List ℕ) → absorbed m follows more ≡ 0 → absorbed m follows (s ++ more) ≡ absorbed m follows s
absorbed_same m follows [] more plain = plain ∙ sym (absorbed_nil m follows)
absorbed_same m follows (b ∷ s) more plain = absorbed_front m follows b (s ++ more) s

-- Whether an optional byte may follow a frame goes by the frame's own bytes.
module _ (m : Format) (used : ℕ) (some : 1 ≤ used) where
  pub open_take : (far : ℕ) (s : List ℕ) → used ≤ far → is_open m used (take far s) ≡ is_open m used s
  open_take far s l = ap (may_follow m) (get_or-take far s (used - 1) 0 (omega arith))

  pub open_append : (s more : List ℕ) → used ≤ length s → is_open m used (s ++ more) ≡ is_open m used s
  open_append s more l = sym (open_take (length s) (s ++ more) l) ∙ ap (is_open m used) (take-append_seam s more)

  -- By the frame's last byte among those that hold the frame at a place.
  pub open_at : (place : ℕ) (s : List ℕ) → may_follow m (get_or s (place + used - 1) 0) ≡ is_open m used (drop place s)
  open_at place s =
      let last : place + used - 1 ≡ place + (used - 1) = omega arith in
      ap (λ (k : ℕ). may_follow m (get_or s k 0)) last ∙ ap (may_follow m) (sym (get_or-drop place s (used - 1) 0))

-- How many bytes behind a frame of so many judged ones belong to it.
abbrev pub behind_frame : Format → List ℕ → ℕ → ℕ
behind_frame m s used = absorbed m (is_open m used s) (drop used s)

module _ (m : Format) (s : List ℕ) where
  -- A frame that is judged is read with the optional byte.
  pub read_judged : (used : ℕ) (p : List ℕ) → judge m s ≡ frame used p → read m s ≡ frame (used + behind_frame m s used) p
  read_judged used p e = ap (with_optional m s) e

  -- No other verdict is changed.
  pub read_cut : judge m s ≡ cut → read m s ≡ cut
  read_cut e = ap (with_optional m s) e

  pub read_refused : (judged n : ℕ) → judge m s ≡ refused judged n → read m s ≡ refused judged n
  read_refused judged n e = ap (with_optional m s) e

  -- What a verdict with the optional byte says of the verdict without.
  frame_from : (v : Verdict) (used : ℕ) (p : List ℕ) → with_optional m s v ≡ frame used p
      → (judged : ℕ) × (v ≡ frame judged p) × (used ≡ judged + behind_frame m s judged)
  frame_from cut used p e = absurd (cut≢frame used p e)
  frame_from (refused judged n) used p e = absurd (refused≢frame judged n used p e)
  frame_from (frame judged q) used p e =
      let a : judged + behind_frame m s judged ≡ used = cc in
      let b : q ≡ p = cc in
      (judged, ap (frame judged) b, sym a)

  -- A frame that is read was judged.
  pub read_frame : (used : ℕ) (p : List ℕ) → read m s ≡ frame used p
      → (judged : ℕ) × (judge m s ≡ frame judged p) × (used ≡ judged + behind_frame m s judged)
  read_frame used p e = frame_from (judge m s) used p e

  no_frame_with : (v : Verdict) → NoFrame v → NoFrame (with_optional m s v)
  no_frame_with cut h = tt
  no_frame_with (refused judged n) h = tt
  no_frame_with (frame used p) h = h

  -- Where no frame is judged none is read.
  pub no_frame_read : NoFrame (judge m s) → NoFrame (read m s)
  no_frame_read h = no_frame_with (judge m s) h

-- A frame is read the same where what follows does not begin with an optional byte.
pub read_stands :
    (m : Format) (s more : List ℕ) (used : ℕ) (p : List ℕ) → judge m s ≡ frame used p → absorbed m (is_open m used s) more ≡ 0 →
    read m (s ++ more) ≡ read m s
read_stands m s more used p e plain =
    let h : Sized m s used = frame_sized m s p used e in
    let alike : behind_frame m (s ++ more) used ≡ behind_frame m s used =
    ap₂ (absorbed m) (open_append m used h.some s more h.there) (drop-append-le used s more h.there)
    ∙ absorbed_same m (is_open m used s) (drop used s) more plain in
    read_judged m (s ++ more) used p (judge_stands m s more (frame used p) tt e)
    ∙ ap (λ (k : ℕ). frame (used + k) p) alike
    ∙ sym (read_judged m s used p e)

-- The count of a frame that is read two ways.
frame_size : {a b : ℕ} {p : List ℕ} → frame a p ≡ frame b p → a ≡ b
frame_size e = cc

-- What is read where the bytes t are judged a frame, and `rest` stands behind them.
read_front :
    (m : Format) (t rest p : List ℕ) → judge m (t ++ rest) ≡ frame (length t) p →
    read m (t ++ rest) ≡ frame (length t + absorbed m (is_open m (length t) t) rest) p
read_front m t rest p e =
    read_judged m (t ++ rest) (length t) p e
    ∙ ap₂ (λ (q : Bool) (u : List ℕ). frame (length t + absorbed m q u) p)
    (open_append m (length t) (some_used m (t ++ rest) p (length t) e) t rest (le_refl (length t)))
    (drop-append_seam t rest)

-- A format without an optional byte reads what it judges.
as_judged : (m : Format) (s : List ℕ) → ((last : ℕ) → may_follow m last ≡ false) → (v : Verdict) → with_optional m s v ≡ v
as_judged m s e cut = refl
as_judged m s e (refused judged n) = refl
as_judged m s e (frame used p) =
    ap (λ (q : Bool). frame (used + absorbed m q (drop used s)) p) (e (get_or s (used - 1) 0)) ∙ ap (λ (k : ℕ). frame k p) (add-zero used)

pub read_is_judge : (m : Format) (s : List ℕ) → ((last : ℕ) → may_follow m last ≡ false) → read m s ≡ judge m s
read_is_judge m s e = as_judged m s e (judge m s)

-- A frame that is read uses at most as many bytes as the longest has.
read_most : (m : Format) (s p : List ℕ) (judged : ℕ) → judge m s ≡ frame judged p → judged + behind_frame m s judged ≤ limit m
read_most (Binary Optional) s p judged e =
    omega (arith, used_is (Binary Optional) s p judged e, (payload_size (Binary Optional) s p judged e).1, absorbed_one (Binary Optional) true (drop judged s))
read_most (Binary Required) s p judged e = omega (arith, (frame_sized (Binary Required) s p judged e).most)
read_most (Ascii CrLf) s p judged e = omega (arith, (frame_sized (Ascii CrLf) s p judged e).most)
read_most (Ascii Any) s p judged e =
    omega (
      arith,
      used_is (Ascii Any) s p judged e,
      (payload_size (Ascii Any) s p judged e).1,
      absorbed_one (Ascii Any) (is_open (Ascii Any) judged s) (drop judged s),
    )

pub read_sized : (m : Format) → ReadIsSized m
read_sized m s p used e =
    let (judged, is, size) = read_frame m s used p e in
    let h : Sized m s judged = frame_sized m s p judged is in
    let more : behind_frame m s judged ≤ length s - judged =
    subst (λ (k : ℕ). behind_frame m s judged ≤ k) (length-drop judged s) (absorbed_there m (is_open m judged s) (drop judged s)) in
    record {
      some = omega (arith, h.some);
      most = subst (λ (k : ℕ). k ≤ limit m) (sym size) (read_most m s p judged is);
      there = omega (arith, h.there);
    }

-- Where the footer is optional, the front is read with a footer that follows.
front_reads :
    (p more : List ℕ) → Payload p → read (Binary Optional) (binary_front p ++ more) ≡ frame (length (binary_front p) + absorbed (Binary Optional) true more) p
front_reads p more h = read_front (Binary Optional) (binary_front p) more p (optional_front p more h)

-- Under any ending, a front and a character that ends its digits.
abbrev closed : List ℕ → ℕ → List ℕ
closed p c = ascii_front p ++ (c ∷ [])

length_closed : (p : List ℕ) (c : ℕ) → length (closed p c) ≡ length (ascii_front p) + 1
length_closed p c = length-append (ascii_front p) (c ∷ [])

-- An LF may follow where the character is CR.
closed_open : (p : List ℕ) (c : ℕ) → is_open (Ascii Any) (length (closed p c)) (closed p c) ≡ eqb c carriage_return
closed_open p c =
    let last : length (closed p c) - 1 ≡ length (ascii_front p) = omega (arith, length_closed p c) in
    ap (λ (k : ℕ). eqb (get_or (closed p c) k 0) carriage_return) last ∙ ap (λ (x : ℕ). eqb x carriage_return) (get_or-append_seam (ascii_front p) c [] 0)

-- They are read with an LF that follows a CR.
closed_reads :
    (p more : List ℕ) (c : ℕ) → Payload p → ends_digits Any c ≡ true →
    read (Ascii Any) (closed p c ++ more) ≡ frame (length (closed p c) + absorbed (Ascii Any) (eqb c carriage_return) more) p
closed_reads p more c h e =
    let split : closed p c ++ more ≡ ascii_front p ++ (c ∷ more) = append_assoc (ascii_front p) (c ∷ []) more in
    read_front (Ascii Any) (closed p c) more p
    (ap (judge (Ascii Any)) split ∙ any_front p more c h e ∙ ap (λ (k : ℕ). frame k p) (sym (length_closed p c)))
    ∙ ap (λ (q : Bool). frame (length (closed p c) + absorbed (Ascii Any) q more) p) (closed_open p c)

-- What the layout gives is read as that frame, whatever follows.
pub layout_reads : (m : Format) → LayoutReads m
layout_reads (Binary Optional) p more h =
    ap (read (Binary Optional)) (append_assoc (binary_front p) binary_ending more)
    ∙ front_reads p (footer_byte ∷ more) h
    ∙ ap (λ (k : ℕ). frame k p) (sym (length-append (binary_front p) binary_ending))
layout_reads (Binary Required) p more h =
    read_is_judge (Binary Required) (layout BinaryFraming p ++ more) (λ _. refl) ∙ required_layout p more h
layout_reads (Ascii CrLf) p more h = read_is_judge (Ascii CrLf) (layout AsciiFraming p ++ more) (λ _. refl) ∙ ascii_layout_reads p more h
layout_reads (Ascii Any) p more h =
    let split : layout AsciiFraming p ++ more ≡ closed p carriage_return ++ (line_feed ∷ more) =
    append_assoc (ascii_front p) ascii_ending more ∙ sym (append_assoc (ascii_front p) (carriage_return ∷ []) (line_feed ∷ more)) in
    ap (read (Ascii Any)) split
    ∙ closed_reads p (line_feed ∷ more) carriage_return h refl
    ∙ ap (λ (k : ℕ). frame k p) (omega (arith, length_closed p carriage_return, length-append (ascii_front p) ascii_ending))

-- The first byte of `more`, if there is one, does not make this ending a longer one of the format.
abbrev Longest : Format → List ℕ → List ℕ → Type 0
Longest m ending more = (b : ℕ) (rest : List ℕ) → more ≡ b ∷ rest → Memᴰ (ending ++ (b ∷ [])) (endings m) → ⊥

-- Then none is absorbed behind it.
not_longer :
    (m : Format) (b : ℕ) → ((x : ℕ) → is_optional m x ≡ true → x ≡ b) → (short more : List ℕ) → Memᴰ (short ++ (b ∷ [])) (endings m) →
    Longest m short more → absorbed m true more ≡ 0
not_longer m b is short [] longer l = refl
not_longer m b is short (x ∷ more) longer l = by (is_optional m x) refl
  where
    by : (q : Bool) → is_optional m x ≡ q → absorbed m true (x ∷ more) ≡ 0
    by true q = absurd (l x more refl (subst (λ (y : ℕ). Memᴰ (short ++ (y ∷ [])) (endings m)) (sym (is x q)) longer))
    by false q = ap (λ (y : Bool). cond y 1 0) q

-- What holds of each element of a list holds of any.
module _ (P : List ℕ → Type 0) {x y : List ℕ} where
  of_one : Memᴰ x (y ∷ []) → P y → P x
  of_one h p = ⊎_elim (λ e. subst P (sym e) p) (λ k. absurd (Memᴰ.not-nil k)) (Memᴰ.cases_cons h)

  of_more : {l : List (List ℕ)} → Memᴰ x (y ∷ l) → P y → (Memᴰ x l → P x) → P x
  of_more h p k = ⊎_elim (λ e. subst P (sym e) p) k (Memᴰ.cases_cons h)

-- A frame with this ending is read, where what follows does not make it longer.
abbrev EndedReads : Format → List ℕ → List ℕ → List ℕ → Type 0
EndedReads m p more e =
    Longest m e more → let whole : List ℕ = front (framing_of m) p ++ e in read m (whole ++ more) ≡ frame (length whole) p

-- The front alone.
front_ends : (p more : List ℕ) → Payload p → EndedReads (Binary Optional) p more []
front_ends p more h l =
    let all : binary_front p ++ [] ≡ binary_front p = append-nil (binary_front p) in
    ap (λ (t : List ℕ). read (Binary Optional) (t ++ more)) all
    ∙ front_reads p more h
    ∙ ap (λ (k : ℕ). frame (length (binary_front p) + k) p)
    (not_longer (Binary Optional) footer_byte (λ x q. eqb-true x footer_byte q) [] more (Memᴰ.head refl) l)
    ∙ ap (λ (k : ℕ). frame k p) (add-zero (length (binary_front p)) ∙ ap length (sym all))

-- CR alone, and LF alone.
cr_ends : (p more : List ℕ) → Payload p → EndedReads (Ascii Any) p more (carriage_return ∷ [])
cr_ends p more h l =
    closed_reads p more carriage_return h refl
    ∙ ap (λ (k : ℕ). frame (length (closed p carriage_return) + k) p)
    (not_longer (Ascii Any) line_feed (λ x q. eqb-true x line_feed q) (carriage_return ∷ []) more (Memᴰ.head refl) l)
    ∙ ap (λ (k : ℕ). frame k p) (add-zero (length (closed p carriage_return)))

lf_ends : (p more : List ℕ) → Payload p → EndedReads (Ascii Any) p more (line_feed ∷ [])
lf_ends p more h l = closed_reads p more line_feed h refl ∙ ap (λ (k : ℕ). frame k p) (add-zero (length (closed p line_feed)))

-- A frame with any of its endings.
pub endings_read : (m : Format) → EndingsRead m
endings_read (Binary Optional) p e more h k =
    of_more (EndedReads (Binary Optional) p more) k (λ _. layout_reads (Binary Optional) p more h)
    (λ l. of_one (EndedReads (Binary Optional) p more) l (front_ends p more h))
endings_read (Binary Required) p e more h k = of_one (EndedReads (Binary Required) p more) k (λ _. layout_reads (Binary Required) p more h)
endings_read (Ascii CrLf) p e more h k = of_one (EndedReads (Ascii CrLf) p more) k (λ _. layout_reads (Ascii CrLf) p more h)
endings_read (Ascii Any) p e more h k =
    of_more (EndedReads (Ascii Any) p more) k (λ _. layout_reads (Ascii Any) p more h)
    (λ l. of_more (EndedReads (Ascii Any) p more) l (cr_ends p more h) (λ j. of_one (EndedReads (Ascii Any) p more) j (lf_ends p more h)))

-- The front and an ending stand in front of s.
layout_with :
    (m : Format) (s p ending more : List ℕ) (used : ℕ) → Payload p → Memᴰ ending (endings m) →
    s ≡ (front (framing_of m) p ++ ending) ++ more → used ≡ length (front (framing_of m) p ++ ending) → FrontAndEnding m s used p
layout_with m s p ending more used payload ends e size =
    record {
      ending = ending;
      ends = ends;
      bytes = ap (take used) e ∙ take_at (front (framing_of m) p ++ ending) more used (sym size);
      count = size;
      payload = payload;
    }

-- Behind the front and the ending `short`, where an optional byte makes it longer, stands what may be that byte.
module _ (m : Format) (b : ℕ) (is : (x : ℕ) → is_optional m x ≡ true → x ≡ b) (s p short : List ℕ) (used : ℕ) (h : Payload p)
    (ends : Memᴰ short (endings m)) where
  layout_open :
      (q : Bool) (rest : List ℕ) → (q ≡ true → Memᴰ (short ++ (b ∷ [])) (endings m)) → s ≡ (front (framing_of m) p ++ short) ++ rest →
      used ≡ length (front (framing_of m) p ++ short) + absorbed m q rest → FrontAndEnding m s used p
  layout_open false rest longer e size = layout_with m s p short rest used h ends e (size ∙ add-zero (length (front (framing_of m) p ++ short)))
  layout_open true [] longer e size = layout_with m s p short [] used h ends e (size ∙ add-zero (length (front (framing_of m) p ++ short)))
  layout_open true (x ∷ rest) longer e size = by (is_optional m x) refl
    where
      all : List ℕ
      all = front (framing_of m) p ++ short

      long : front (framing_of m) p ++ (short ++ (b ∷ [])) ≡ all ++ (b ∷ [])
      long = sym (append_assoc (front (framing_of m) p) short (b ∷ []))

      by : (q : Bool) → is_optional m x ≡ q → FrontAndEnding m s used p
      by true q =
          layout_with m s p (short ++ (b ∷ [])) rest used h (longer refl)
          (e
          ∙ ap (λ (y : ℕ). all ++ (y ∷ rest)) (is x q)
          ∙ sym (append_assoc all (b ∷ []) rest)
          ∙ ap (λ (t : List ℕ). t ++ rest) (sym long))
          (size ∙ ap (λ (y : Bool). length all + cond y 1 0) q ∙ sym (length-append all (b ∷ [])) ∙ ap length (sym long))
      by false q =
          layout_with m s p short (x ∷ rest) used h ends e
          (size ∙ ap (λ (y : Bool). length all + cond y 1 0) q ∙ add-zero (length all))

-- Under any ending, an LF makes the ending CR longer, and no other.
closed_layout :
    (s p rest : List ℕ) (used c : ℕ) → Payload p → (c ≡ carriage_return) ⊎ (c ≡ line_feed) → s ≡ closed p c ++ rest →
    used ≡ length (closed p c) + absorbed (Ascii Any) (eqb c carriage_return) rest → FrontAndEnding (Ascii Any) s used p
closed_layout s p rest used c h (inl k) e size =
    layout_open (Ascii Any) line_feed (λ x q. eqb-true x line_feed q) s p (carriage_return ∷ []) used h (Memᴰ.tail (Memᴰ.head refl)) true rest
    (λ _. Memᴰ.head refl)
    (e ∙ ap (λ (x : ℕ). closed p x ++ rest) k)
    (size ∙ ap (λ (x : ℕ). length (closed p x) + absorbed (Ascii Any) (eqb x carriage_return) rest) k)
closed_layout s p rest used c h (inr k) e size =
    layout_open (Ascii Any) line_feed (λ x q. eqb-true x line_feed q) s p (line_feed ∷ []) used h
    (Memᴰ.tail (Memᴰ.tail (Memᴰ.head refl))) false rest
    (λ z. absurd (false≢true z))
    (e ∙ ap (λ (x : ℕ). closed p x ++ rest) k)
    (size ∙ ap (λ (x : ℕ). length (closed p x) + absorbed (Ascii Any) (eqb x carriage_return) rest) k)

-- Of bytes, what is read as a frame is the layout of its payload, with an ending.
pub frame_is_front_and_ending : (m : Format) → FrameIsFrontAndEnding m
frame_is_front_and_ending (Binary Optional) s p used b e =
    let (judged, is, size) = read_frame (Binary Optional) s used p e in
    let (rest, split, count, payload) = optional_is_layout s p judged b is in
    let behind : drop judged s ≡ rest = ap (drop judged) split ∙ drop_at (binary_front p) rest judged (sym count) in
    let all : binary_front p ++ [] ≡ binary_front p = append-nil (binary_front p) in
    layout_open (Binary Optional) footer_byte (λ x q. eqb-true x footer_byte q) s p [] used payload (Memᴰ.tail (Memᴰ.head refl)) true rest
    (λ _. Memᴰ.head refl)
    (split ∙ ap (λ (t : List ℕ). t ++ rest) (sym all))
    (size ∙ (λ i. count i + absorbed (Binary Optional) true (behind i)) ∙ ap (λ (t : List ℕ). length t + absorbed (Binary Optional) true rest) (sym all))
frame_is_front_and_ending (Binary Required) s p used b e =
    let (bytes, count, payload) = required_is_layout s p used b (sym (read_is_judge (Binary Required) s (λ _. refl)) ∙ e) in
    record { ending = binary_ending; ends = Memᴰ.head refl; bytes = bytes; count = count; payload = payload }
frame_is_front_and_ending (Ascii CrLf) s p used b e =
    let (bytes, count, payload) = ascii_is_layout s p used (sym (read_is_judge (Ascii CrLf) s (λ _. refl)) ∙ e) in
    record { ending = ascii_ending; ends = Memᴰ.head refl; bytes = bytes; count = count; payload = payload }
frame_is_front_and_ending (Ascii Any) s p used b e =
    let (judged, is, size) = read_frame (Ascii Any) s used p e in
    let (c, rest, ends, split, count, payload) = any_is_front s p judged is in
    let long : judged ≡ length (closed p c) = count ∙ sym (length_closed p c) in
    let reads : read (Ascii Any) s ≡ frame (length (closed p c) + absorbed (Ascii Any) (eqb c carriage_return) rest) p =
    ap (read (Ascii Any)) split ∙ closed_reads p rest c payload ends in
    closed_layout s p rest used c payload (any_ends c ends) split (frame_size (sym e ∙ reads))

-- No check of the tree fails with this number.
abbrev Never : ℕ → Checks → Type 0
Never n (fails k) = k ≡ n → ⊥
Never n (whole p) = Unit {0}
Never n (next t) = (b : ℕ) → Never n (t b)

never_behind : (n k : ℕ) (v : Verdict) → ((judged : ℕ) → v ≡ refused judged n → ⊥) → (judged : ℕ) → behind k v ≡ refused judged n → ⊥
never_behind n k cut h judged e = h judged e
never_behind n k (refused i m) h judged e =
    let same : m ≡ n = cc in h i (ap (refused i) same)
never_behind n k (frame used p) h judged e = refused≢frame judged n (k + used) p (sym e)

-- So no bytes are refused with it.
never_run : (n : ℕ) (t : Checks) (s : List ℕ) → Never n t → (judged : ℕ) → run t s ≡ refused judged n → ⊥
never_run n (fails k) s h judged e = let same : k ≡ n = cc in h same
never_run n (whole p) s h judged e = refused≢frame judged n 0 p (sym e)
never_run n (next t) [] h judged e = cut≢refused judged n e
never_run n (next t) (b ∷ s) h judged e = never_behind n 1 (run (t b) s) (never_run n (t b) s (h b)) judged e

never_cond : (n k : ℕ) (q : Bool) (t : Checks) → Never n t → (k ≡ n → ⊥) → Never n (cond q t (fails k))
never_cond n k true t h l = h
never_cond n k false t h l = l

never_either : (q : Bool) (t u : Checks) → Never 5 t → Never 5 u → Never 5 (cond q t u)
never_either true t u h k = h
never_either false t u h k = k

never_bytes : (n k : ℕ) (t : List ℕ → Checks) → ((p : List ℕ) → Never n (t p)) → Never n (bytes k t)
unfolding bytes
never_bytes n zero t h = h []
never_bytes n (suc k) t h = λ b. never_bytes n k (λ p. t (b ∷ p)) (λ p. h (b ∷ p))

-- The checks of a frame whose footer is optional fail with 1, 3 and 4 alone.
never_five : Never 5 (binary whole)
unfolding binary body byte test word
never_five =
    λ a. never_cond 5 1 (eqb a 0xA5) _
    (λ b. never_cond 5 1 (eqb b 0x5A) _
    (λ high low. never_cond 5 3 (length_word (high * 256 + low)) _
    (never_bytes 5 (high * 256 + low - 0x8000) _ (λ p x. never_cond 5 4 (eqb x (xor_of p)) (whole p) tt (λ e. omega arith)))
    (λ e. omega arith)) (λ e. omega arith)) (λ e. omega arith)

-- Digits fail with 3 alone.
never_digits :
    (room : ℕ) (t : List ℕ → ℕ → Checks) → ((ds : List ℕ) (c : ℕ) → Never 5 (t ds c)) → Never 5 (hex_digits room t)
unfolding hex_digits
never_digits zero t h = λ c. never_either (is_digit c) (fails 3) (t [] c) (λ e. omega arith) (h [] c)
never_digits (suc room) t h =
    λ c. never_either (is_digit c) (hex_digits room (λ ds e. t (digit_value c ∷ ds) e)) (t [] c)
    (never_digits room (λ ds e. t (digit_value c ∷ ds) e) (λ ds e. h (digit_value c ∷ ds) e))
    (h [] c)

-- The checks of a frame under any ending fail with 1, 3, 4 and 6 alone.
never_five_any : Never 5 (ascii (line_ending Any))
unfolding ascii line_ending after_digits byte test
never_five_any =
    λ a. never_cond 5 1 (eqb a colon) _
    (never_digits 514 (line_ending Any) (λ ds c. never_cond 5 6 (ends_digits Any c) _
    (never_cond 5 3 (digit_count (length ds)) _ (never_cond 5 4 (eqb (sum_of (pairs ds) % 256) 0) _ tt (λ e. omega arith)) (λ e. omega arith))
    (λ e. omega arith)))
    (λ e. omega arith)

refused_from_lem : (m : Format) (s : List ℕ) (v : Verdict) (judged n : ℕ) → with_optional m s v ≡ refused judged n → v ≡ refused judged n
refused_from_lem m s cut judged n e = e
refused_from_lem m s (refused i k) judged n e = e
refused_from_lem m s (frame used p) judged n e = absurd (refused≢frame judged n (used + behind_frame m s used) p (sym e))

-- Where the footer is optional, and under any ending, 5 is never given.
pub five_never : (m : Format) → NeverFive m
five_never (Binary Optional) b o s judged e =
    never_run 5 (binary whole) s never_five judged (refused_from_lem (Binary Optional) s (judge (Binary Optional) s) judged 5 e)
five_never (Binary Required) b o s judged e = absurd (true≢false (sym o))
five_never (Ascii CrLf) b o s judged e = absurd (true≢false (sym o))
five_never (Ascii Any) b o s judged e =
    never_run 5 (ascii (line_ending Any)) s never_five_any judged (refused_from_lem (Ascii Any) s (judge (Ascii Any) s) judged 5 e)
