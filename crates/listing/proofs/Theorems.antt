-- The claims of specs/, each proved. A crate above this one names this module alone.
-- Assumes nothing.
use Prim.Native.Nat.{ℕ, ◌≤◌}
use native.Mathlib.Omega.{arith}
use mathlib.Core.Path.{◌≡◌, refl, ap, ◌∙◌}
use mathlib.Core.List.{List, []}
use mathlib.Core.Bool.{Bool, true, false, cond}
use borrow.Author.Tests.{eqb-true, leb-true}
use lib.Dec.{leb, eqb}
use lib.ListN.{length, length-append, length-drop}
use Rattle.frame.specs.Digit.{is_digit, digit_value, digit_of}
use Rattle.frame.specs.Ascii.{hex_digits, line_ending, after_digits, ascii}
use Rattle.frame.specs.Checks.{byte, test, word, bytes, last_byte}
use Rattle.frame.specs.Binary.{binary, body}
use Rattle.frame.specs.Framing.{in_front}
use Rattle.frame.specs.Rule.{Output, join, places, out_from, rule}
use Rattle.reader.specs.Reader.{state_of, sound}
use Rattle.frame.specs.Single.{Writing, length_writing, no_writing, writing_of}
use Rattle.reader.specs.Drain.{drain, rule_after}
use Rattle.reader.specs.declared.reader.Reader.{Reader}
use Rattle.settings.specs.List.{width_of, list_from, is_list}
use Rattle.message.specs.Address.{is_plain}
use Rattle.message.specs.FromModule.{read_from_module, from_itself, response_meaning, ack_meaning, information_meaning, settings_meaning, control_meaning}
use Rattle.message.specs.FromModule.{sender_meaning, reception_meaning, status_meaning, standard_meaning, remote_meaning}
use Rattle.listing.specs.Line.{lines_of, noise_line, decimal, line_of, simple_line, response_line}
use Rattle.listing.specs.Line.{reception_line, standard_line, remote_line, settings_line, refusal_line}
use Rattle.listing.specs.Listing.{ListValues, values_of, Lists, chunk_refusal, end_refusal}
use Rattle.listing.specs.Claims.{RunIsListing, RunExists, RunCounts, ChunkStaysSound, ChunkIsSmall, QuietIsSmall, TotalIsSmall, AnyCutIsListed}
use Rattle.listing.specs.Examples.{ExampleIsListed, FooterlessIsListed, KindsAreListed}
use Rattle.listing.specs.declared.list.Listed.{Listed}
use Rattle.listing.proofs.Decimals.{noise_room}
use Rattle.listing.proofs.Chunks.{sound_count, drain_is_small, quiet_room, call_passed}
use Rattle.listing.proofs.Runs as runs

pub any_cut_is_listed : AnyCutIsListed
any_cut_is_listed = runs.any_cut_is_listed

pub run_is_listing : RunIsListing
run_is_listing = runs.run_is_listing

pub run_exists : RunExists
run_exists = runs.run_exists

pub run_counts : RunCounts
run_counts = runs.run_counts

pub chunk_stays_sound : ChunkStaysSound
chunk_stays_sound = runs.chunk_stays_sound

module _ {number : ℕ} (o : Output (List ℕ)) {judged : ℕ} {Next : Reader → Type 0} {r : Reader} (out : List ℕ) (a : Listed) {out' : List ℕ}
    (p : Lists number o judged Next r out a out') where
  -- What is listed has room, and little noise.
  abbrev Small : ℕ → Type 0
  Small most = (length (lines_of o.frames) ≤ length out) × (o.noise ≤ most)

  -- The text is within the buffer, which keeps its length; the noise is that of the output, or 0.
  small : (none : Bool) → eqb number 0 ≡ none → (most : ℕ) → (number ≡ 0 → Small most) →
      ((values_of a.answer).len ≤ length out) × (length out' ≡ length out) × ((values_of a.answer).noise ≤ most)
  small false e most h =
      let v = p.refuses e in (
        omega (arith, ap (λ (x : ListValues). x.len) v.0),
        ap length v.2,
        omega (arith, ap (λ (x : ListValues). x.noise) v.0),
      )
  small true e most h =
      let v = p.answers e in
      let k = h (eqb-true number 0 e) in (
        omega (arith, ap (λ (x : ListValues). x.len) v.0),
        ap length v.2 ∙ simp (length-append, length-drop) (omega arith),
        omega (arith, ap (λ (x : ListValues). x.noise) v.0),
      )

pub chunk_is_small : ChunkIsSmall
chunk_is_small r chunk out a out' p =
    small (drain (state_of r) chunk).out out a p (eqb (chunk_refusal r (length out) (length chunk)) 0) refl 66053 few
  where
    few : chunk_refusal r (length out) (length chunk) ≡ 0 →
        (length (lines_of (drain (state_of r) chunk).out.frames) ≤ length out) × ((drain (state_of r) chunk).out.noise ≤ 66053)
    few e =
        let q = call_passed (sound r) 198159 (length out) (length chunk) e in
        let size = drain_is_small r chunk (sound_count r q.0) q.2 in
        (omega (arith, size.0), size.1)

pub quiet_is_small : QuietIsSmall
quiet_is_small r out a out' p = small (rule_after (state_of r) []) out a p (eqb (end_refusal r (length out)) 0) refl 517 few
  where
    few : end_refusal r (length out) ≡ 0 →
        (length (lines_of (rule_after (state_of r) []).frames) ≤ length out) × ((rule_after (state_of r) []).noise ≤ 517)
    few e =
        let q = call_passed (sound r) 1551 (length out) 0 e in
        let h = quiet_room r out (sound_count r q.0) q.1 in
        (h.0, h.1)

pub total_is_small : TotalIsSmall
total_is_small noise out a out' p = by (leb 27 (length out)) refl p.answers p.leaves
  where
    by :
        (q : Bool) → leb 27 (length out) ≡ q →
        writing_of a ≡ cond q (length_writing (length (noise_line noise))) (no_writing 13) →
        out' ≡ cond q (in_front (noise_line noise) out) out → ((writing_of a).len ≤ length out) × (length out' ≡ length out)
    by true h e l =
        let room = noise_room noise in
        let least = leb-true 27 (length out) h in
        (omega (arith, ap (λ (w : Writing). w.len) e), ap length l ∙ simp (length-append, length-drop) (omega arith))
    by false h e l = (omega (arith, ap (λ (w : Writing). w.len) e), ap length l)

pub kinds_are_listed : KindsAreListed
unfolding digit_of is_plain width_of list_from is_list read_from_module from_itself response_meaning ack_meaning information_meaning settings_meaning control_meaning sender_meaning reception_meaning status_meaning standard_meaning remote_meaning simple_line reception_line response_line standard_line remote_line settings_line refusal_line decimal line_of
kinds_are_listed = refl

pub example_is_listed : ExampleIsListed
unfolding byte test is_digit digit_value digit_of hex_digits last_byte line_ending after_digits ascii join rule places out_from is_plain read_from_module from_itself response_meaning sender_meaning simple_line response_line decimal line_of noise_line
example_is_listed = refl

pub footerless_is_listed : FooterlessIsListed
unfolding byte test word bytes digit_of binary body join rule places out_from is_plain read_from_module sender_meaning simple_line decimal line_of noise_line
footerless_is_listed = refl
