-- The checks of binary framing at each way out of `binary::judge` and `binary::judge_body`.
-- Assumes nothing.
use Rattle.std.proofs.Common.{◌≡◌, ℕ, suc, ◌+◌, ◌-◌, ◌*◌, ◌<◌, ◌≤◌, false, leb, ◌⊎◌, List, length, get_or, take, drop, sym, ap, ◌∙◌, inl, inr, ⊎_elim, add_assoc, arith, length-drop, drop-drop}
use borrow.Author.Tests.{lt-leb}
use Rattle.frame.specs.Checks.{Checks, byte, word, Verdict, cut, refused, behind, run}
use Rattle.frame.specs.Binary.{xor_of, length_word, body, binary}
use Rattle.frame.proofs.Numbers.{le_or_lt, and_fails}
use Rattle.frame.proofs.Trees.{behind_behind, pass_byte, fail_byte, cut_byte, pass_word, cut_word, pass_test, fail_test, pass_bytes, cut_bytes}
use Rattle.frame.proofs.BinaryLaws.{after_word, is_length_word}

-- What stands behind the header and the length n, whatever the ending.
abbrev behind_length : (List ℕ → Checks) → List ℕ → ℕ → Verdict
behind_length end s n = behind 4 (run (body end n) (drop 4 s))

module _ (end : List ℕ → Checks) (s : List ℕ) (n : ℕ) where
  -- The payload is there.
  body_run : 4 + n ≤ length s →
      run (body end n) (drop 4 s) ≡ behind n (run (byte (xor_of (take n (drop 4 s))) 4 (end (take n (drop 4 s)))) (drop (4 + n) s))
  unfolding body
  body_run h =
      pass_bytes n (λ p. byte (xor_of p) 4 (end p)) (drop 4 s) (simp length-drop (omega arith))
      ∙ ap (λ (r : List ℕ). behind n (run (byte (xor_of (take n (drop 4 s))) 4 (end (take n (drop 4 s)))) r)) (drop-drop n 4 s)

  pub body_short : 4 ≤ length s → length s ≤ 4 + n → behind_length end s n ≡ cut
  unfolding body
  body_short m h =
      ⊎_elim
      (λ (l : 4 + n ≤ length s).
      ap (behind 4)
      (body_run l ∙ ap (behind n) (cut_byte (xor_of (take n (drop 4 s))) 4 (end (take n (drop 4 s))) s (4 + n) h)))
      (λ (l : length s < 4 + n). ap (behind 4) (cut_bytes n (λ p. byte (xor_of p) 4 (end p)) (drop 4 s) (simp length-drop (omega arith))))
      (le_or_lt (4 + n) (length s))

  pub body_checksum : 4 + n < length s → (get_or s (4 + n) 0 ≡ xor_of (take n (drop 4 s)) → ⊥) → behind_length end s n ≡ refused (4 + n + 1) 4
  body_checksum h e =
      ap (behind 4)
      (body_run (omega arith) ∙ ap (behind n) (fail_byte (xor_of (take n (drop 4 s))) 4 (end (take n (drop 4 s))) s (4 + n) h e))
      ∙ ap (λ (k : ℕ). refused k 4) (sym (add_assoc 4 n 1))

  -- The checksum is right: the ending is left.
  pub body_passed : 4 + n < length s → get_or s (4 + n) 0 ≡ xor_of (take n (drop 4 s)) →
      behind_length end s n ≡ behind 4 (behind n (behind 1 (run (end (take n (drop 4 s))) (drop (suc (4 + n)) s))))
  body_passed h e =
      ap (behind 4)
      (body_run (omega arith) ∙ ap (behind n) (pass_byte (xor_of (take n (drop 4 s))) 4 (end (take n (drop 4 s))) s (4 + n) h e))

-- A word outside 0x8001 to 0x8100 is no length.
no_length_word : (w : ℕ) → (w < 0x8001) ⊎ (0x8100 < w) → length_word w ≡ false
no_length_word w h = and_fails (leb 0x8001 w) (leb w 0x8100) (⊎_elim (λ l. inl (lt-leb 0x8001 w l)) (λ m. inr (lt-leb w 0x8100 m)) h)

-- The checks that are left behind the first start byte.
abbrev after_first : (List ℕ → Checks) → Checks
after_first end = byte 0x5A 1 (word (after_word end))

-- The start bytes and the length, whatever the ending.
module _ (end : List ℕ → Checks) (s : List ℕ) where
  pub judge_empty : length s ≡ 0 → run (binary end) s ≡ cut
  unfolding binary
  judge_empty h = cut_byte 0xA5 1 (after_first end) s 0 (omega arith)

  pub judge_first : 0 < length s → (get_or s 0 0 ≡ 0xA5 → ⊥) → run (binary end) s ≡ refused 1 1
  unfolding binary
  judge_first h e = fail_byte 0xA5 1 (after_first end) s 0 h e

  module _ (a : get_or s 0 0 ≡ 0xA5) where
    first_passed : 0 < length s → run (binary end) s ≡ behind 1 (run (after_first end) (drop 1 s))
    unfolding binary
    first_passed h = pass_byte 0xA5 1 (after_first end) s 0 h a

    pub judge_one : length s ≡ 1 → run (binary end) s ≡ cut
    judge_one h = first_passed (omega arith) ∙ ap (behind 1) (cut_byte 0x5A 1 (word (after_word end)) s 1 (omega arith))

    pub judge_second : 1 < length s → (get_or s 1 0 ≡ 0x5A → ⊥) → run (binary end) s ≡ refused 2 1
    judge_second h e = first_passed (omega arith) ∙ ap (behind 1) (fail_byte 0x5A 1 (word (after_word end)) s 1 h e)

    module _ (b : get_or s 1 0 ≡ 0x5A) where
      second_passed : 1 < length s → run (binary end) s ≡ behind 1 (behind 1 (run (word (after_word end)) (drop 2 s)))
      second_passed h = first_passed (omega arith) ∙ ap (behind 1) (pass_byte 0x5A 1 (word (after_word end)) s 1 h b)

      pub judge_short : 1 < length s → length s < 4 → run (binary end) s ≡ cut
      judge_short h l = second_passed h ∙ ap (λ (v : Verdict). behind 1 (behind 1 v)) (cut_word (after_word end) s 2 (omega arith))

      word_passed : 4 ≤ length s → run (binary end) s ≡ behind 4 (run (after_word end (get_or s 2 0 * 256 + get_or s 3 0)) (drop 4 s))
      word_passed h =
          second_passed (omega arith)
          ∙ behind_behind 1 1 (run (word (after_word end)) (drop 2 s))
          ∙ ap (behind 2) (pass_word (after_word end) s 2 (omega arith))
          ∙ behind_behind 2 2 (run (after_word end (get_or s 2 0 * 256 + get_or s 3 0)) (drop 4 s))

      module _ (w : ℕ) (is : w ≡ get_or s 2 0 * 256 + get_or s 3 0) (h : 4 ≤ length s) where
        pub judge_length : (w < 0x8001) ⊎ (0x8100 < w) → run (binary end) s ≡ refused 4 3
        judge_length l =
            word_passed h
            ∙ ap (λ (k : ℕ). behind 4 (run (after_word end k) (drop 4 s))) (sym is)
            ∙ ap (λ (t : Checks). behind 4 (run t (drop 4 s))) (fail_test (length_word w) 3 (body end (w - 0x8000)) (no_length_word w l))

        pub judge_rest : 0x8001 ≤ w → w ≤ 0x8100 → run (binary end) s ≡ behind 4 (run (body end (w - 0x8000)) (drop 4 s))
        judge_rest l m =
            word_passed h
            ∙ ap (λ (k : ℕ). behind 4 (run (after_word end k) (drop 4 s))) (sym is)
            ∙ ap (λ (t : Checks). behind 4 (run t (drop 4 s))) (pass_test (length_word w) 3 (body end (w - 0x8000)) (is_length_word w l m))
