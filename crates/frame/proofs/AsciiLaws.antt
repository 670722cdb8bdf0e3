-- Laws of ASCII framing: its layout and its checks belong together, and how long a frame can be.
-- Assumes nothing.
use Rattle.std.proofs.Common.{◌≡◌, ℕ, zero, suc, ◌+◌, ◌-◌, ◌*◌, ◌/◌, ◌%◌, ◌<◌, ◌≤◌, Bool, true, false, cond, ◌||◌, eqb, leb, ◌⊎◌, List, [], ◌∷◌, ◌++◌, map, length, get_or, take, drop, sym, refl, ap, ◌∙◌, subst, inl, inr, ⊎_elim, append_assoc, suc-le-suc, zero-le, le_of_suc-le-suc, not-suc-le-zero, add-zero, suc-add, zero-add, one-add, arith, length-append, take_at, eq-eqb, ne_eqb, eqb-true, le-leb, leb-true}
use mathlib.Core.List.{drop_last}
use lib.ListN.{length-map}
use Rattle.frame.specs.Checks.{Checks, fails, whole, Verdict, cut, refused, frame, behind, run, last_byte}
use Rattle.frame.specs.Framing.{layout}
use Rattle.frame.specs.Digit.{is_digit, digit_value}
use Rattle.frame.specs.Hex.{hex, pairs, sum_of}
use Rattle.frame.specs.Ascii.{colon, carriage_return, line_feed, checksum_of, ascii_front, ascii_ending}
use Rattle.frame.specs.Ascii.{hex_digits, digit_count, after_digits, ascii, ends_digits, behind_digits, line_ending}
use Rattle.frame.specs.Elements.{Bytes}
use Rattle.frame.specs.declared.framing.Framing.TheVariants.{Ascii as AsciiFraming}
use Rattle.frame.specs.declared.framing.Ending.{Ending}
use Rattle.frame.specs.declared.framing.Ending.TheVariants.{CrLf, Any}
use Rattle.frame.specs.Claims.{Payload}
use Rattle.frame.specs.DigitRuns.{Digits}
use Rattle.frame.specs.Judged.{decoded}
use Rattle.frame.proofs.Numbers.{both_true, and_true}
use Rattle.frame.proofs.Lists.{bytes_left, bytes_right, bytes_append, drop_last_snoc, drop_last_of}
use Rattle.frame.proofs.Trees.{behind_behind, Within, within_byte, within_test, within_more, within_whole, run_byte, pass_test}
use Rattle.frame.proofs.Trees.{fail_test, Behind, took_next, took_byte, took_test, took_both, took_whole, refused≢frame, Keeps, keeps_byte, used_last}
use Rattle.frame.proofs.HexLaws.{hex_digits_lem, decoded_hex, hex_decoded, decoded_bytes, length_decoded, length_hex, hex_append, sum_append}

-- The front of a frame, as it is written.
pub ascii_front_is : (p : List ℕ) → ascii_front p ≡ (colon ∷ hex p) ++ hex (checksum_of p ∷ [])
unfolding ascii_front
ascii_front_is p = rw hex_append

-- It has two characters for each byte of the payload, and three more.
pub length_ascii_front : (p : List ℕ) → length (ascii_front p) ≡ 2 * length p + 3
length_ascii_front p = rw ascii_front_is (simp (length-append, length_hex) (omega arith))

-- The sum of payload and checksum is 0 modulo 256.
pub checksum_sum : (p : List ℕ) → sum_of (p ++ (checksum_of p ∷ [])) % 256 ≡ 0
checksum_sum p = rw sum_append (omega arith)

-- No other byte brings that sum to 0 modulo 256.
pub checksum_only : (p : List ℕ) (b : ℕ) → b < 256 → sum_of (p ++ (b ∷ [])) % 256 ≡ 0 → b ≡ checksum_of p
checksum_only p b h e = let z : (sum_of p + sum_of (b ∷ [])) % 256 ≡ 0 = rw sum_append at e in omega arith

-- As many digits as a payload and its checksum have are at least four, and an even count.
pub digit_count_lem : (n : ℕ) → digit_count n ≡ true → (4 ≤ n) × (n % 2 ≡ 0)
digit_count_lem n e = let h = both_true (leb 4 n) (eqb (n % 2) 0) e in (leb-true 4 n h.0, eqb-true (n % 2) 0 h.1)

-- An even count from four on passes.
pub is_digit_count : (n : ℕ) → 4 ≤ n → n % 2 ≡ 0 → digit_count n ≡ true
is_digit_count n l e = and_true (leb 4 n) (eqb (n % 2) 0) (le-leb 4 n l) (eq-eqb (n % 2) 0 e)

-- Either way takes at most n bytes.
within_either : (n : ℕ) (q : Bool) (t u : Checks) → Within n t → Within n u → Within n (cond q t u)
within_either n true t u v w = v
within_either n false t u v w = w

-- Up to `room` digits and one more character are taken before t.
pub within_digits : (n room : ℕ) (t : List ℕ → ℕ → Checks) → ((ds : List ℕ) (c : ℕ) → Within n (t ds c))
    → Within (suc (room + n)) (hex_digits room t)
unfolding hex_digits
within_digits n zero t w = rw zero-add (λ c. within_either n (is_digit c) (fails 3) (t [] c) tt (w [] c))
within_digits n (suc room) t w =
    λ c. within_either (suc room + n) (is_digit c) (hex_digits room (λ ds e. t (digit_value c ∷ ds) e)) (t [] c)
    (rw suc-add (within_digits n room (λ ds e. t (digit_value c ∷ ds) e) (λ ds e. w (digit_value c ∷ ds) e)))
    (within_more n (suc room + n) (t [] c) (omega arith) (w [] c))

-- Digits, as many as there is room for, are taken with a character behind them that is none.
pub digits_end : (room : ℕ) (t : List ℕ → ℕ → Checks) (ds s : List ℕ) (c : ℕ) → Digits ds → length ds ≤ room → is_digit c ≡ false
    → run (hex_digits room t) (ds ++ (c ∷ s)) ≡ behind (suc (length ds)) (run (t (map digit_value ds) c) s)
unfolding hex_digits
digits_end zero t [] s c d h e = rw e
digits_end (suc room) t [] s c d h e = rw e
digits_end zero t (a ∷ ds) s c d h e = absurd (not-suc-le-zero h)
digits_end (suc room) t (a ∷ ds) s c d h e =
    let v : Verdict = run (t (digit_value a ∷ map digit_value ds) c) s in
    rw d.0 (ap (behind 1) (digits_end room (λ es x. t (digit_value a ∷ es) x) ds s c d.1 (le_of_suc-le-suc h) e)
    ∙ behind_behind 1 (suc (length ds)) v ∙ ap (λ (k : ℕ). behind k v) (one-add (suc (length ds))))

-- Nothing stands behind them: cut.
pub digits_cut : (room : ℕ) (t : List ℕ → ℕ → Checks) (ds : List ℕ) → Digits ds → length ds ≤ room → run (hex_digits room t) ds ≡ cut
unfolding hex_digits
digits_cut zero t [] d h = refl
digits_cut (suc room) t [] d h = refl
digits_cut zero t (a ∷ ds) d h = absurd (not-suc-le-zero h)
digits_cut (suc room) t (a ∷ ds) d h =
    rw d.0 (ap (behind 1) (digits_cut room (λ es x. t (digit_value a ∷ es) x) ds d.1 (le_of_suc-le-suc h)))

-- One digit more than there is room for is refusal 3.
pub digits_many : (room : ℕ) (t : List ℕ → ℕ → Checks) (ds s : List ℕ) → Digits ds → room < length ds
    → run (hex_digits room t) (ds ++ s) ≡ refused (suc room) 3
unfolding hex_digits
digits_many room t [] s d h = absurd (not-suc-le-zero h)
digits_many zero t (a ∷ ds) s d h = rw d.0
digits_many (suc room) t (a ∷ ds) s d h =
    rw d.0 (ap (behind 1) (digits_many room (λ es x. t (digit_value a ∷ es) x) ds s d.1 (le_of_suc-le-suc h))
    ∙ ap (λ (k : ℕ). refused k 3) (one-add (suc room)))

-- The checks behind digits of the values ds, whatever is left for the payload.
module _ (ds : List ℕ) (rest : List ℕ → Checks) where
  -- Another count than that of a payload and its checksum is refusal 3.
  pub after_count : digit_count (length ds) ≡ false → after_digits ds rest ≡ fails 3
  unfolding after_digits
  after_count n = fail_test _ 3 _ n

  module _ (n : digit_count (length ds) ≡ true) where
    -- A sum that is not 0 modulo 256 is refusal 4.
    pub after_sum : (sum_of (pairs ds) % 256 ≡ 0 → ⊥) → after_digits ds rest ≡ fails 4
    unfolding after_digits
    after_sum z = pass_test _ 3 _ n ∙ fail_test _ 4 _ (ne_eqb (sum_of (pairs ds) % 256) 0 z)

    -- Else what is left for the payload.
    pub after_end : sum_of (pairs ds) % 256 ≡ 0 → after_digits ds rest ≡ rest (drop_last (pairs ds))
    unfolding after_digits
    after_end z = pass_test _ 3 _ n ∙ pass_test _ 4 _ (eq-eqb (sum_of (pairs ds) % 256) 0 z)

  -- They take no more bytes than what is left.
  after_within : (n : ℕ) → ((p : List ℕ) → Within n (rest p)) → Within n (after_digits ds rest)
  unfolding after_digits
  after_within n w = within_test n 3 _ _ (λ _. within_test n 4 _ _ (λ _. w (drop_last (pairs ds))))

-- The values of the digits of a frame with the payload p.
abbrev pub digits_of : List ℕ → List ℕ
digits_of p = map digit_value (hex (p ++ (checksum_of p ∷ [])))

-- The bytes of a payload and its checksum.
summed_bytes : (p : List ℕ) → Payload p → Bytes (p ++ (checksum_of p ∷ []))
summed_bytes p h = bytes_append p (checksum_of p ∷ []) h.bytes (omega arith, tt)

-- They have two digits each.
summed_size : (p : List ℕ) → length (hex (p ++ (checksum_of p ∷ []))) ≡ 2 * length p + 2
summed_size p = simp (length_hex, length-append) (omega arith)

-- The digits of a payload and its checksum pass.
pub after_payload : (p : List ℕ) (rest : List ℕ → Checks) → Payload p → after_digits (digits_of p) rest ≡ rest p
after_payload p rest h =
    let q : List ℕ = p ++ (checksum_of p ∷ []) in
    let same : decoded (hex q) ≡ q = decoded_hex q (summed_bytes p h) in
    let long : length (digits_of p) ≡ 2 * length p + 2 = length-map (hex q) digit_value ∙ summed_size p in
    let count : digit_count (length (digits_of p)) ≡ true = is_digit_count (length (digits_of p)) (omega (arith, h.some)) (omega arith) in
    after_end (digits_of p) rest count (rw same (checksum_sum p)) ∙ ap rest (ap drop_last same ∙ drop_last_of p (checksum_of p))

-- Up to `room` digits ds of s and a character c behind them were taken.
abbrev pub TookDigits : ℕ → (List ℕ → ℕ → Checks) → List ℕ → ℕ → List ℕ → Type 0
TookDigits room t s used p =
    (ds : List ℕ) × (c : ℕ) × Digits ds × (length ds ≤ room) × Behind (t (map digit_value ds) c) (ds ++ (c ∷ [])) s used p

-- What a frame's bytes must be where the tree begins by taking digits.
pub took_digits : (room : ℕ) (t : List ℕ → ℕ → Checks) (s p : List ℕ) (used : ℕ) → run (hex_digits room t) s ≡ frame used p
    → TookDigits room t s used p
unfolding hex_digits
took_digits zero t s p used e =
    let h = took_next (λ c. cond (is_digit c) (fails 3) (t [] c)) s p used e in
    last (is_digit h.0) h.0 h.1
  where
    last : (q : Bool) (c : ℕ) → Behind (cond q (fails 3) (t [] c)) (c ∷ []) s used p → TookDigits 0 t s used p
    last true c k = absurd (refused≢frame 0 3 k.left p k.goes)
    last false c k = ([], c, tt, zero-le, k)
took_digits (suc room) t s p used e =
    let h = took_next (λ c. cond (is_digit c) (hex_digits room (λ ds x. t (digit_value c ∷ ds) x)) (t [] c)) s p used e in
    by_digit (is_digit h.0) h.0 refl h.1 (λ r u. took_digits room (λ ds x. t (digit_value h.0 ∷ ds) x) r p u)
  where
    by_digit : (q : Bool) (c : ℕ) → is_digit c ≡ q
        → Behind (cond q (hex_digits room (λ ds x. t (digit_value c ∷ ds) x)) (t [] c)) (c ∷ []) s used p
        → ((r : List ℕ) (u : ℕ) → run (hex_digits room (λ ds x. t (digit_value c ∷ ds) x)) r ≡ frame u p
        → TookDigits room (λ ds x. t (digit_value c ∷ ds) x) r u p)
        → TookDigits (suc room) t s used p
    by_digit true c e k rest =
        let (ds, x, d, m, b) = rest k.rest k.left k.goes in
        (c ∷ ds, x, (e, d), suc-le-suc m, took_both _ _ (c ∷ []) (ds ++ (x ∷ [])) s p used k b)
    by_digit false c e k rest = ([], c, tt, zero-le, k)

-- Digits of these values have a right count and sum, and stand for the payload p.
abbrev pub StandFor : List ℕ → List ℕ → Type 0
StandFor ds p = (digit_count (length ds) ≡ true) × (sum_of (pairs ds) % 256 ≡ 0) × (drop_last (pairs ds) ≡ p)

-- What a frame's bytes must be behind digits of the values ds: those stand for its payload.
took_after : (ds : List ℕ) (rest : List ℕ → Checks) → Keeps rest → (s p : List ℕ) (used : ℕ)
    → run (after_digits ds rest) s ≡ frame used p → StandFor ds p
unfolding after_digits
took_after ds rest keeps s p used e =
    let n = took_test (digit_count (length ds)) 3 _ s p used e in
    let z = took_test (eqb (sum_of (pairs ds) % 256) 0) 4 _ s p used n.1 in
    (n.0, eqb-true (sum_of (pairs ds) % 256) 0 z.0, keeps (drop_last (pairs ds)) s p used z.1)

-- An ending takes only digits that stand for the payload that it hands on.
abbrev pub KeepsDigits : (List ℕ → ℕ → Checks) → Type 0
KeepsDigits end = (ds : List ℕ) (c : ℕ) (s p : List ℕ) (used : ℕ) → run (end ds c) s ≡ frame used p → StandFor ds p

-- Digits of a right count and sum are the characters of a payload and its checksum.
digits_layout : (ds p : List ℕ) → Digits ds → 4 ≤ length ds → length ds % 2 ≡ 0 → length ds ≤ 514 → sum_of (decoded ds) % 256 ≡ 0
    → drop_last (decoded ds) ≡ p → (ds ≡ hex (p ++ (checksum_of p ∷ []))) × Payload p
digits_layout ds p d l n m z e =
    let q : List ℕ = decoded ds in
    let last : ℕ = get_or q (length q - 1) 0 in
    let split : q ≡ p ++ (last ∷ []) = drop_last_snoc q (omega (arith, length_decoded ds)) ∙ ap (λ (r : List ℕ). r ++ (last ∷ [])) e in
    let b : Bytes (p ++ (last ∷ [])) = subst Bytes split (decoded_bytes ds) in
    let check : last ≡ checksum_of p = checksum_only p last (bytes_right p (last ∷ []) b).0 (rw split at z) in
    let size : length p + 1 ≡ length ds / 2 = sym (length-append p (last ∷ [])) ∙ ap length (sym split) ∙ length_decoded ds in (
      sym (hex_decoded ds d n) ∙ ap hex (split ∙ ap (λ (x : ℕ). p ++ (x ∷ [])) check),
      record { bytes = bytes_left p (last ∷ []) b; some = omega arith; most = omega arith },
    )

-- A frame of s with the payload p begins with the front of p; the ending is left, from the character `char` on.
pub record AsciiFront (end : List ℕ → ℕ → Checks) (s : List ℕ) (used : ℕ) (p : List ℕ) : Type 0 where
  pub char : ℕ
  pub payload : Payload p
  pub ends : Behind (end (digits_of p) char) (ascii_front p ++ (char ∷ [])) s used p

-- Whatever the ending.
module _ (end : List ℕ → ℕ → Checks) where
  -- The colon, at most 514 digits, a character and those of the ending behind it are taken.
  pub ascii_within : (n : ℕ) → ((ds : List ℕ) (c : ℕ) → Within n (end ds c)) → Within (suc (suc (514 + n))) (ascii end)
  unfolding ascii
  ascii_within n w = within_byte (suc (514 + n)) colon 1 (hex_digits 514 end) (within_digits n 514 end w)

  -- The front of a frame and a character that is no digit leave the ending.
  pub ascii_front_reads : (p more : List ℕ) (c : ℕ) → Payload p → is_digit c ≡ false
      → run (ascii end) (ascii_front p ++ (c ∷ more)) ≡ behind (length (ascii_front p) + 1) (run (end (digits_of p) c) more)
  unfolding ascii ascii_front
  ascii_front_reads p more c h e =
      let q : List ℕ = p ++ (checksum_of p ∷ []) in
      let v : Verdict = run (end (digits_of p) c) more in
      run_byte colon 1 (hex_digits 514 end) (hex q ++ (c ∷ more))
      ∙ ap (behind 1) (digits_end 514 end (hex q) more c (hex_digits_lem q (summed_bytes p h)) (omega (arith, summed_size p, h.most)) e)
      ∙ behind_behind 1 (suc (length (hex q))) v
      ∙ ap (λ (k : ℕ). behind k v) (omega arith)

  -- What the checks accept begins with the front of its payload.
  pub took_ascii : KeepsDigits end → (s p : List ℕ) (used : ℕ) → run (ascii end) s ≡ frame used p → AsciiFront end s used p
  unfolding ascii ascii_front
  took_ascii keeps s p used e =
      let h = took_byte colon 1 (hex_digits 514 end) s p used e in
      let (ds, c, d, m, k) = took_digits 514 end h.rest p h.left h.goes in
      let (q, z, l) = keeps (map digit_value ds) c k.rest p k.left k.goes in
      let n : (4 ≤ length ds) × (length ds % 2 ≡ 0) = rw length-map at (digit_count_lem (length (map digit_value ds)) q) in
      let w = digits_layout ds p d n.0 n.1 m z l in
      record {
        char = c;
        payload = w.1;
        ends =
            subst (λ (x : List ℕ). Behind (end (map digit_value x) c) (colon ∷ (x ++ (c ∷ []))) s used p) w.0
            (took_both (end (map digit_value ds) c) _ (colon ∷ []) (ds ++ (c ∷ [])) s p used h k);
      }

  -- The characters of a frame's payload.
  pub front_payload : (s p : List ℕ) (used : ℕ) → AsciiFront end s used p → take (2 * length p) (drop 1 s) ≡ hex p
  front_payload s p used h =
      let check : List ℕ = hex (checksum_of p ∷ []) in
      let line : s ≡ (((colon ∷ hex p) ++ check) ++ (h.char ∷ [])) ++ h.ends.rest =
      h.ends.split ∙ ap (λ (q : List ℕ). (q ++ (h.char ∷ [])) ++ h.ends.rest) (ascii_front_is p)
      in
      ap (λ (l : List ℕ). take (2 * length p) (drop 1 l)) line
      ∙ ap (take (2 * length p)) (simp append_assoc)
      ∙ take_at (hex p) (check ++ ((h.char ∷ []) ++ h.ends.rest)) (2 * length p) (length_hex p)

-- The ending at the character c.
module _ (ending : Ending) (ds : List ℕ) (c : ℕ) where
  -- Where it does not end digits it is refusal 6.
  pub ending_character : ends_digits ending c ≡ false → line_ending ending ds c ≡ fails 6
  unfolding line_ending
  ending_character e = fail_test _ 6 _ e

  -- Where it does, they are judged.
  pub ending_judges : ends_digits ending c ≡ true → line_ending ending ds c ≡ after_digits ds (behind_digits ending)
  unfolding line_ending
  ending_judges e = pass_test _ 6 _ e

  -- Where it takes a frame, the character ends digits.
  took_ending : (s p : List ℕ) (used : ℕ) → run (line_ending ending ds c) s ≡ frame used p
      → (ends_digits ending c ≡ true) × (run (after_digits ds (behind_digits ending)) s ≡ frame used p)
  unfolding line_ending
  took_ending s p used e = took_test (ends_digits ending c) 6 _ s p used e

-- What stands behind that character takes one byte at most.
behind_within : (ending : Ending) (p : List ℕ) → Within 1 (behind_digits ending p)
unfolding last_byte
behind_within CrLf p = within_byte 0 line_feed 5 (whole p) (within_whole 0 p)
behind_within Any p = within_whole 1 p

pub line_within : (ending : Ending) (ds : List ℕ) (c : ℕ) → Within 1 (line_ending ending ds c)
unfolding line_ending
line_within ending ds c = within_test 1 6 _ _ (λ _. after_within ds (behind_digits ending) 1 (behind_within ending))

-- It hands on the payload.
pub behind_keeps : (ending : Ending) → Keeps (behind_digits ending)
unfolding last_byte
behind_keeps CrLf q s p used e = keeps_byte line_feed 5 q s p used e
behind_keeps Any q s p used e = (took_whole q s p used e).1

pub line_keeps : (ending : Ending) → KeepsDigits (line_ending ending)
line_keeps ending ds c s p used e = took_after ds (behind_digits ending) (behind_keeps ending) s p used (took_ending ending ds c s p used e).1

-- Under any ending, CR and LF end digits, and no other character does.
pub any_ends : (c : ℕ) → ends_digits Any c ≡ true → (c ≡ carriage_return) ⊎ (c ≡ line_feed)
any_ends c e = by (eqb c carriage_return) refl
  where
    by : (q : Bool) → eqb c carriage_return ≡ q → (c ≡ carriage_return) ⊎ (c ≡ line_feed)
    by true q = inl (eqb-true c carriage_return q)
    by false q = inr (eqb-true c line_feed (sym (ap (λ (x : Bool). x || eqb c line_feed) q) ∙ e))

-- They are no digits.
no_digit : (c : ℕ) → ends_digits Any c ≡ true → is_digit c ≡ false
unfolding is_digit
no_digit c e = ⊎_elim (λ (h : c ≡ carriage_return). ap is_digit h) (λ (h : c ≡ line_feed). ap is_digit h) (any_ends c e)

-- A frame is what stands behind its front, where this has passed the checks up to the digits' end.
took_line : (ending : Ending) (s p : List ℕ) (used : ℕ) → run (ascii (line_ending ending)) s ≡ frame used p
    → (c : ℕ) × (ends_digits ending c ≡ true) × Behind (behind_digits ending p) (ascii_front p ++ (c ∷ [])) s used p × Payload p
took_line ending s p used e =
    let h = took_ascii (line_ending ending) (line_keeps ending) s p used e in
    let (ends, goes) = took_ending ending (digits_of p) h.char h.ends.rest p h.ends.left h.ends.goes in (
      h.char,
      ends,
      record {
        rest = h.ends.rest;
        left = h.ends.left;
        split = h.ends.split;
        count = h.ends.count;
        goes = ap (λ (t : Checks). run t h.ends.rest) (sym (after_payload p (behind_digits ending) h.payload)) ∙ goes;
      },
      h.payload,
    )

-- What the layout gives is read as that frame.
pub ascii_layout_reads : (p more : List ℕ) → Payload p
    → run (ascii (line_ending CrLf)) (layout AsciiFraming p ++ more) ≡ frame (length (layout AsciiFraming p)) p
unfolding is_digit last_byte
ascii_layout_reads p more h =
    let n : ℕ = length (ascii_front p) in
    ap (run (ascii (line_ending CrLf))) (append_assoc (ascii_front p) ascii_ending more)
    ∙ ascii_front_reads (line_ending CrLf) p (line_feed ∷ more) carriage_return h refl
    ∙ ap (λ (t : Checks). behind (n + 1) (run t (line_feed ∷ more))) (ending_judges CrLf (digits_of p) carriage_return refl ∙ after_payload p (last_byte line_feed) h)
    ∙ ap (behind (n + 1)) (run_byte line_feed 5 (whole p) more)
    ∙ ap (λ (k : ℕ). frame k p) (omega (arith, length-append (ascii_front p) ascii_ending))

-- What is judged a frame is the layout of its payload.
pub ascii_is_layout : (s p : List ℕ) (used : ℕ) → run (ascii (line_ending CrLf)) s ≡ frame used p
    → (take used s ≡ layout AsciiFraming p) × (used ≡ length (layout AsciiFraming p)) × Payload p
unfolding last_byte
ascii_is_layout s p used e =
    let (c, ends, h, payload) = took_line CrLf s p used e in
    let l = used_last line_feed 5 p (ascii_front p ++ (c ∷ [])) s used h in
    let same : (ascii_front p ++ (c ∷ [])) ++ (line_feed ∷ []) ≡ layout AsciiFraming p =
    append_assoc (ascii_front p) (c ∷ []) (line_feed ∷ [])
    ∙ ap (λ (x : ℕ). ascii_front p ++ (x ∷ line_feed ∷ [])) (eqb-true c carriage_return ends)
    in
    (l.0 ∙ same, l.1 ∙ ap length same, payload)

-- Under any ending, the front and a character that ends digits are read as that frame.
pub any_front : (p more : List ℕ) (c : ℕ) → Payload p → ends_digits Any c ≡ true
    → run (ascii (line_ending Any)) (ascii_front p ++ (c ∷ more)) ≡ frame (length (ascii_front p) + 1) p
any_front p more c h e =
    let n : ℕ = length (ascii_front p) in
    ascii_front_reads (line_ending Any) p more c h (no_digit c e)
    ∙ ap (λ (t : Checks). behind (n + 1) (run t more)) (ending_judges Any (digits_of p) c e ∙ after_payload p whole h)
    ∙ ap (λ (k : ℕ). frame k p) (add-zero (n + 1))

-- What is judged a frame is the front of its payload and such a character.
pub any_is_front : (s p : List ℕ) (used : ℕ) → run (ascii (line_ending Any)) s ≡ frame used p
    → (c : ℕ) × (rest : List ℕ) × (ends_digits Any c ≡ true) × (s ≡ (ascii_front p ++ (c ∷ [])) ++ rest) × (used ≡ length (ascii_front p) + 1) × Payload p
any_is_front s p used e =
    let (c, ends, h, payload) = took_line Any s p used e in
    let w = took_whole p h.rest p h.left h.goes in
    (c, h.rest, ends, h.split, h.count ∙ simp length-append (omega (arith, w.0)), payload)
