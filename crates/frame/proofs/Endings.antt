-- The ending of a frame at each way out of `framing::judge_ending`, where nothing is left, and what is left to them in each framing.
-- Assumes nothing.
use Rattle.std.proofs.Common.{◌≡◌, ℕ, suc, ◌+◌, ◌-◌, ◌*◌, ◌/◌, ◌%◌, ◌<◌, ◌≤◌, Bool, true, false, eqb, List, length, get_or, take, drop, sym, ap, ◌∙◌, add-zero, add-one, arith, eqb-true}
use borrow.Author.Tests.{eqb-false}
use Rattle.frame.specs.Checks.{Checks, whole, last_byte, test, Verdict, cut, refused, frame, behind, run}
use Rattle.frame.specs.Binary.{xor_of, body}
use Rattle.frame.specs.Ascii.{hex_digits, behind_digits, line_ending}
use Rattle.frame.specs.Parts.{end_checks}
use Rattle.frame.specs.Judged.{decoded}
use Rattle.frame.specs.declared.framing.Ending.{Ending}
use Rattle.frame.proofs.Trees.{behind_behind, pass_byte, fail_byte, cut_byte}
use Rattle.frame.proofs.BinaryJudge.{body_checksum, body_passed}
use Rattle.frame.proofs.AsciiJudge.{JudgesAt, Summed, line_checksum, line_ends}

-- What the checks of the ending decide, where the checksum is complete with the byte at `end`.
module _ (rest : List ℕ → Checks) (p s : List ℕ) (end : ℕ) where
  abbrev pub ending_at : Bool → Verdict
  ending_at right = behind (end + 1) (run (end_checks right rest p) (drop (end + 1) s))

  pub ending_wrong : ending_at false ≡ refused (end + 1) 4
  unfolding test
  ending_wrong = ap (λ (k : ℕ). refused k 4) (add-zero (end + 1))

-- Where nothing is left.
pub ending_complete : (p s : List ℕ) (end : ℕ) → ending_at whole p s end true ≡ frame (end + 1) p
unfolding test
ending_complete p s end = ap (λ (k : ℕ). frame k p) (add-zero (end + 1))

-- Where one byte is left.
module _ (last : ℕ) (p s : List ℕ) (end : ℕ) where
  pub ending_cut : length s ≤ end + 1 → ending_at (last_byte last) p s end true ≡ cut
  unfolding test last_byte
  ending_cut l = ap (behind (end + 1)) (cut_byte last 5 (whole p) s (end + 1) l)

  pub ending_other : end + 1 < length s → (get_or s (end + 1) 0 ≡ last → ⊥) → ending_at (last_byte last) p s end true ≡ refused (end + 2) 5
  unfolding test last_byte
  ending_other l f =
      let size : end + 1 + 1 ≡ end + 2 = omega arith in
      ap (behind (end + 1)) (fail_byte last 5 (whole p) s (end + 1) l f) ∙ ap (λ (k : ℕ). refused k 5) size

  pub ending_frame : end + 1 < length s → get_or s (end + 1) 0 ≡ last → ending_at (last_byte last) p s end true ≡ frame (end + 2) p
  unfolding test last_byte
  ending_frame l f =
      let size : end + 1 + 1 ≡ end + 2 = omega arith in
      ap (behind (end + 1)) (pass_byte last 5 (whole p) s (end + 1) l f) ∙ ap (λ (k : ℕ). frame k p) size

-- Binary framing, whatever is left behind the checksum: behind the payload of n bytes.
pub body_ending :
    (rest : List ℕ → Checks) (s : List ℕ) (n : ℕ) → 4 + n < length s → (right : Bool) → eqb (xor_of (take n (drop 4 s))) (get_or s (4 + n) 0) ≡ right →
    behind 4 (run (body rest n) (drop 4 s)) ≡ ending_at rest (take n (drop 4 s)) s (4 + n) right
unfolding test
body_ending rest s n h true q =
    let v : Verdict = run (rest (take n (drop 4 s))) (drop (suc (4 + n)) s) in
    body_passed rest s n h (sym (eqb-true _ _ q))
    ∙ behind_behind 4 n (behind 1 v)
    ∙ behind_behind (4 + n) 1 v
    ∙ ap (λ (k : ℕ). behind (4 + n + 1) (run (rest (take n (drop 4 s))) (drop k s))) (sym (add-one (4 + n)))
body_ending rest s n h false q =
    body_checksum rest s n h (λ e. eqb-false _ _ q (sym e)) ∙ sym (ending_wrong rest (take n (drop 4 s)) s (4 + n))

-- ASCII framing: behind the character that ends the digits, where n is the sum of the bytes that they stand for.
pub line_ending_lem :
    (ending : Ending) {s : List ℕ} {count n : ℕ} → Summed s count n → JudgesAt (line_ending ending) (behind_digits ending) s count →
    (right : Bool) → eqb (n % 256) 0 ≡ right →
    behind 1 (run (hex_digits 514 (line_ending ending)) (drop 1 s))
    ≡ ending_at (behind_digits ending) (decoded (take (2 * (count / 2 - 1)) (drop 1 s))) s (1 + count) right
unfolding test
line_ending_lem ending {s} {count} h r true q =
    let size : 1 + suc count ≡ 1 + count + 1 = omega arith in
    line_ends h (line_ending ending) (behind_digits ending) r (eqb-true _ _ q)
    ∙ ap (λ (k : ℕ). behind k (run (behind_digits ending (decoded (take (2 * (count / 2 - 1)) (drop 1 s)))) (drop (1 + count + 1) s))) size
line_ending_lem ending {s} {count} h r false q =
    line_checksum h (line_ending ending) (behind_digits ending) r (eqb-false _ _ q)
    ∙ sym (ending_wrong (behind_digits ending) (decoded (take (2 * (count / 2 - 1)) (drop 1 s))) s (1 + count))
