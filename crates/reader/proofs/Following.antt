-- Laws of the calls behind a mark as the code makes them: an optional byte is passed over, and the rest is a call without one.
-- Assumes nothing.
use Prim.Native.Nat.{ℕ, zero, suc, ◌+◌, ◌-◌, ◌≤◌, ◌<◌}
use native.Mathlib.Nat.{zero-add, not-suc-le-zero}
use native.Mathlib.Omega.{arith}
use mathlib.Core.Bool.{Bool, true, false}
use mathlib.Core.List.{List, [], ◌∷◌}
use mathlib.Core.Path.{◌≡◌, refl, sym, ap, ap₂, ◌∙◌, subst}
use lib.ListN.{length, take, drop}
use lib.Seq.{drop-drop}
use Rattle.frame.specs.Framing.{judge, absorbed, behind_optional}
use Rattle.reader.specs.Reader.{State, holding, state_of, Called, called, line_on, took_first, line_behind, judged_to, line_judged, Values, no_frame_values, fed_values_of}
use Rattle.reader.specs.Answer.{TookFirst, scan_whole, values_at}
use Rattle.reader.specs.Feeding.{Leaves, LeavesLine, LeavesHeld, past, line_over}
use Rattle.frame.specs.declared.framing.Format.{Format}
use Rattle.reader.specs.declared.reader.Reader.{Reader}
use Rattle.reader.specs.declared.answer.FeedAnswer.{FeedAnswer}
use Rattle.reader.specs.declared.answer.FeedAnswer.TheVariants.{NeedsMore}
use Rattle.frame.proofs.Lists.{drop_take}
use Rattle.frame.proofs.Optional.{absorbed_one, absorbed_front}
use Rattle.reader.proofs.Promises.{called_taken}
use Rattle.reader.proofs.Settling.{on_taken}
use Rattle.reader.proofs.ScanCalls.{scan_chunk}
use Rattle.reader.proofs.JudgedCalls.{held_behind, next_behind}

-- None taken first is the call itself.
none_first : (c : Called) → took_first 0 c ≡ c
none_first c = ap (λ (n : ℕ). called n c.out c.began c.held c.follows) (zero-add c.taken)

-- With held bytes an optional one in front is dropped.
pub behind_held :
    (f : Format) (follows : Bool) (h chunk : List ℕ) → 1 ≤ length h → line_behind f follows h chunk ≡ line_on f (behind_optional f follows h) chunk
behind_held f follows [] chunk l = absurd (not-suc-le-zero l)
behind_held f follows (b ∷ h) chunk l = refl

-- An answer's bytes taken are those of its call, and no more than the chunk has.
pub few_taken :
    (f : Format) (h chunk : List ℕ) (total : ℕ) (answer : FeedAnswer) → fed_values_of answer ≡ values_at (line_on f h chunk) total → length chunk ≤ 65536 →
    (fed_values_of answer).taken ≤ 65536
few_taken f h chunk total answer e l =
    let c : Called = line_on f h chunk in
    omega (arith, ap (λ (v : Values). v.taken) e ∙ called_taken c total c.out.frames, on_taken f h chunk)

-- Of no bytes none is judged.
pub none_judged : (f : Format) (follows : Bool) (judged : ℕ) → line_judged (holding f [] follows judged) [] ≡ 0
unfolding judged_to
none_judged f true judged = omega arith
none_judged f false judged = omega arith

-- A reader that holds nothing.
module _ (r : Reader) (n : r.count ≡ 0) (j : r.judged ≡ 0) (chunk buf : List ℕ) where
  none_held : state_of r ≡ holding r.format [] r.follows 0
  none_held i = holding r.format (take (n i) r.held) r.follows (j i)

  -- With an empty chunk the mark stays.
  pub next_empty : length chunk ≡ 0 → LeavesLine (state_of r) chunk buf (NeedsMore 0 0 0) r buf
  next_empty e =
      subst (λ (s : State). LeavesLine s chunk buf (NeedsMore 0 0 0) r buf) (sym none_held) (by chunk e)
    where
      by : (t : List ℕ) → length t ≡ 0 → LeavesLine (holding r.format [] r.follows 0) t buf (NeedsMore 0 0 0) r buf
      by [] l =
          record {
            values = ap (no_frame_values 0 0) (sym (none_judged r.format r.follows 0));
            next = record { state = none_held; count = n };
            buffer = refl;
          }
      by (b ∷ t) l = absurd (let z : ⊥ = omega arith in z)

  -- Otherwise an optional byte in front of it is taken first, and the rest is fed.
  pub next_leaves :
      (rest : List ℕ) (k : ℕ) (a a' : FeedAnswer) (r' : Reader) (buf' : List ℕ) → 0 < length chunk →
      k ≡ absorbed r.format r.follows chunk → rest ≡ drop k chunk →
      Leaves r.format (scan_whole r.format 0 0 0 rest) (0 + judged_to r.format (judge r.format) rest) buf a r' buf' → TookFirst k a a' →
      LeavesLine (state_of r) chunk buf a' r' buf'
  next_leaves rest k a a' r' buf' l e q h took =
      subst (λ (s : State). LeavesLine s chunk buf a' r' buf') (sym none_held)
      (subst (λ (m : ℕ). Leaves r.format (line_behind r.format r.follows [] chunk) m buf a' r' buf')
      (next_behind r.format r.follows chunk rest k e q)
      (by chunk l e q))
    where
      by :
          (w : List ℕ) → 0 < length w → k ≡ absorbed r.format r.follows w → rest ≡ drop k w →
          Leaves r.format (line_behind r.format r.follows [] w) (0 + judged_to r.format (judge r.format) rest) buf a' r' buf'
      by [] l e q = absurd (not-suc-le-zero l)
      by (b ∷ w) l e q =
          let f : Format = r.format in
          let c : Called = line_on f [] rest in
          let total : ℕ = 0 + judged_to f (judge f) rest in
          let fed : Leaves f c total buf a r' buf' = subst (λ (x : Called). Leaves f x total buf a r' buf') (scan_chunk f rest) h in
          let same : took_first k c ≡ line_behind f r.follows [] (b ∷ w) =
          ap (λ (s : List ℕ). took_first k (line_on f [] s)) q ∙ ap (λ (i : ℕ). took_first i (line_on f [] (drop i (b ∷ w)))) e in
          subst
          (λ (x : Called). Leaves f x total buf a' r' buf')
          same
          (record { values = took c total fed.values; next = fed.next; buffer = fed.buffer })

-- No more bytes are taken of a chunk than it has.
pub chunk_taken :
    (f : Format) (chunk : List ℕ) (total : ℕ) (answer : FeedAnswer) → fed_values_of answer ≡ values_at (scan_whole f 0 0 0 chunk) total →
    length chunk ≤ 65536 → (fed_values_of answer).taken ≤ 65536
chunk_taken f chunk total answer e l = few_taken f [] chunk total answer (e ∙ ap (λ (c : Called). values_at c total) (scan_chunk f chunk)) l

-- Behind an optional byte that was dropped, the line call goes on as in the state before.
pub past_leaves :
    (s : State) (chunk buf : List ℕ) (a : FeedAnswer) (r : Reader) (buf' : List ℕ) → 1 ≤ length s.held → LeavesHeld (past s) chunk buf a r buf' →
    LeavesLine s chunk buf a r buf'
past_leaves s chunk buf a r buf' l h =
    let n : ℕ = absorbed s.format s.follows s.held in
    subst (λ (c : Called). Leaves s.format c (line_judged s chunk) buf a r buf') (sym (behind_held s.format s.follows s.held chunk l))
    (subst (λ (m : ℕ). Leaves s.format (line_on s.format (drop n s.held) chunk) m buf a r buf')
    (held_behind s.format s.follows s.held (drop n s.held) chunk s.judged n l refl refl)
    h)

-- A call over w, the first `count` bytes of which are held: an optional byte in front of w is passed over, and taken where it was not held.
pub split_line :
    (f : Format) (follows : Bool) (w : List ℕ) (count n : ℕ) → 0 < length w → n ≡ absorbed f follows w →
    line_behind f follows (take count w) (drop count w) ≡ took_first (n - count) (line_over f (count - n) (drop n w))
split_line f follows [] count n l e = absurd (not-suc-le-zero l)
split_line f follows (b ∷ w) zero n l e =
    let all : n - 0 ≡ n = omega arith in
    let none : 0 - n ≡ 0 = omega arith in
    ap (λ (i : ℕ). took_first i (line_on f [] (drop i (b ∷ w)))) (sym e)
    ∙ ap₂ (λ (i k : ℕ). took_first i (line_over f k (drop n (b ∷ w)))) (sym all) (sym none)
split_line f follows (b ∷ w) (suc count) n l e =
    let one : n ≤ 1 = subst (λ (i : ℕ). i ≤ 1) (sym e) (absorbed_one f follows (b ∷ w)) in
    let none : n - suc count ≡ 0 = omega arith in
    let all : n + (suc count - n) ≡ suc count = omega arith in
    let c : Called = line_over f (suc count - n) (drop n (b ∷ w)) in
    ap (λ (i : ℕ). line_on f (drop i (b ∷ take count w)) (drop count w)) (absorbed_front f follows b (take count w) w ∙ sym e)
    ∙ ap₂ (line_on f) (drop_take n (suc count) (b ∷ w)) (ap (λ (i : ℕ). drop i (b ∷ w)) (sym all) ∙ sym (drop-drop (suc count - n) n (b ∷ w)))
    ∙ sym (none_first c)
    ∙ ap (λ (i : ℕ). took_first i c) (sym none)
