-- Laws of the bytes that calls judge, as the code counts them: over whole slices, in two parts, and behind an optional byte.
-- Assumes nothing.
use Prim.Native.Nat.{ℕ, zero, suc, ◌+◌, ◌-◌, ◌≤◌, max, min, zero-le}
use native.Mathlib.Nat.{zero-add, not-suc-le-zero}
use native.Mathlib.Numerals.{one-add}
use native.Mathlib.Omega.{arith}
use mathlib.Core.Bool.{Bool, true, false, cond}
use mathlib.Core.List.{List, [], ◌∷◌, ◌++◌}
use mathlib.Core.Path.{◌≡◌, refl, sym, ap, ap₂, ◌∙◌, subst}
use borrow.Author.Tests.{eqb-true, ne_eqb}
use lib.Dec.{eqb}
use lib.ListN.{length, take, drop, length-append, take-append-drop}
use lib.Seq.{take_all, take-append-add, drop-append-le, drop-append_seam, drop-drop}
use Rattle.frame.specs.Checks.{Verdict, cut, refused, frame}
use Rattle.frame.specs.Framing.{judge, judged_as, judged_at, absorbed, limit}
use Rattle.reader.specs.Reader.{holding, ended, if_fails, judged_to, left_out, count_from, line_judged, quiet_judged}
use Rattle.reader.specs.Scan.{judging, judged_bytes, passed, Scanned, scan_as, scan_from, scan_judged}
use Rattle.reader.specs.Feeding.{joined, judged_in}
use Rattle.frame.specs.declared.framing.Format.{Format}
use Rattle.frame.proofs.Lists.{drop_take}
use Rattle.frame.proofs.Framings.{undecided_short}
use Rattle.reader.proofs.Prefixes.{limit_enough}
use Rattle.frame.proofs.Optional.{absorbed_there, absorbed_front}
use Rattle.reader.proofs.ScanCalls.{scan_front}
use Rattle.reader.proofs.Counting.{count_whole}

-- What is judged at a place is judged in any front that holds the longest frame.
front_at : (f : Format) (k : ℕ) (s : List ℕ) (v : Verdict) → judge f s ≡ v → limit f ≤ k → judged_as v (take k s) ≡ judged_as v s
front_at f k s cut e l = ap length (take_all k s (omega (arith, undecided_short f s e)))
front_at f k s (refused judged n) e l = refl
front_at f k s (frame used p) e l = refl

pub judged_front : (f : Format) (k : ℕ) (s : List ℕ) → limit f ≤ k → judged_at f (take k s) ≡ judged_at f s
judged_front f k s l = ap (λ (v : Verdict). judged_as v (take k s)) (limit_enough f s k l) ∙ front_at f k s (judge f s) refl l

-- So are the bytes judged at each of n places.
pub count_front : (f : Format) (n k : ℕ) (s : List ℕ) → n + limit f ≤ k → scan_judged f (judge f) n (take k s) ≡ scan_judged f (judge f) n s
unfolding scan_judged
count_front f zero k s l = refl
count_front f (suc n) k s l =
    ap₂ (λ (i : ℕ) (v : Verdict). i + if_fails v (scan_judged f (judge f) n (drop 1 (take k s)))) (judged_front f k s (omega arith))
    (limit_enough f s k (omega arith))
    ∙ ap (λ (i : ℕ). judged_at f s + if_fails (judge f s) i)
    (ap (scan_judged f (judge f) n) (drop_take 1 k s) ∙ count_front f n (k - 1) (drop 1 s) (omega arith))

-- A place that is passed fails, and then those behind it are passed too.
passed_fails :
    (v : Verdict) (place reach : ℕ) (later : Scanned) → (scan_as v place reach later).stop ≡ passed → (later.stop ≡ passed) × ((n : ℕ) → if_fails v n ≡ n)
passed_fails cut place reach later e = let z : ◌≡◌ {A = ℕ} 1 2 = cc in absurd (let y : ⊥ = omega arith in y)
passed_fails (refused judged k) place reach later e = (e, λ n. refl)
passed_fails (frame used p) place reach later e = let z : ◌≡◌ {A = ℕ} 0 2 = cc in absurd (let y : ⊥ = omega arith in y)

-- Where n places all fail, what is judged at those behind them is counted behind them.
pub count_passed :
    (f : Format) (n m place reach : ℕ) (s : List ℕ) → (scan_from (judge f) n place reach s).stop ≡ passed →
    scan_judged f (judge f) (n + m) s ≡ scan_judged f (judge f) n s + scan_judged f (judge f) m (drop n s)
unfolding scan_from scan_judged
count_passed f zero m place reach s e = ap (λ (n : ℕ). scan_judged f (judge f) n s) (zero-add m) ∙ sym (zero-add (scan_judged f (judge f) m s))
count_passed f (suc n) m place reach s e =
    let far : ℕ = max reach (place + judged_bytes (judge f s)) in
    let h = passed_fails (judge f s) place reach (scan_from (judge f) n (suc place) far (drop 1 s)) e in
    let all : ℕ = scan_judged f (judge f) (n + m) (drop 1 s) in
    let front : ℕ = scan_judged f (judge f) n (drop 1 s) in
    let size : suc n + m ≡ suc (n + m) = omega arith in
    let rest : drop n (drop 1 s) ≡ drop (suc n) s = drop-drop n 1 s ∙ ap (λ (k : ℕ). drop k s) (one-add n) in
    ap (λ (k : ℕ). scan_judged f (judge f) k s) size
    ∙ omega (arith, h.1 all, h.1 front, count_passed f n m (suc place) far (drop 1 s) h.0 ∙ ap (λ (t : List ℕ). front + scan_judged f (judge f) m t) rest)

-- Where one does not, nothing behind it is counted.
stops_at :
    (v : Verdict) (place reach n m : ℕ) (later : Scanned) → ((scan_as v place reach later).stop ≡ passed → ⊥) → ((later.stop ≡ passed → ⊥) → n ≡ m) →
    if_fails v n ≡ if_fails v m
stops_at cut place reach n m later e k = refl
stops_at (refused judged i) place reach n m later e k = k e
stops_at (frame used p) place reach n m later e k = refl

pub count_stopped :
    (f : Format) (n m place reach : ℕ) (s : List ℕ) → ((scan_from (judge f) n place reach s).stop ≡ passed → ⊥) →
    scan_judged f (judge f) (n + m) s ≡ scan_judged f (judge f) n s
unfolding scan_from scan_judged
count_stopped f zero m place reach s e = absurd (e refl)
count_stopped f (suc n) m place reach s e =
    let far : ℕ = max reach (place + judged_bytes (judge f s)) in
    let size : suc n + m ≡ suc (n + m) = omega arith in
    ap (λ (k : ℕ). scan_judged f (judge f) k s) size
    ∙ ap (λ (k : ℕ). judged_at f s + k)
    (stops_at (judge f s) place reach _ _ (scan_from (judge f) n (suc place) far (drop 1 s)) e (λ k. count_stopped f n m (suc place) far (drop 1 s) k))

-- As many as were judged at the first place are counted there.
pub first_counted :
    (f : Format) (judgement : List ℕ → Verdict) (n judged : ℕ) (s : List ℕ) → judged ≤ n → min judged (judged_at f s) ≤ scan_judged f judgement n s
unfolding scan_judged
first_counted f judgement zero judged s l = omega arith
first_counted f judgement (suc n) judged s l = omega arith

-- Held bytes and a chunk in one slice.
pub short_judged :
    (f : Format) (h chunk w : List ℕ) (judged : ℕ) → w ≡ h ++ chunk →
    judged_to f (judge f) w - min judged (judged_at f w) ≡ line_judged (holding f h false judged) chunk
short_judged f h chunk w judged e = ap (λ (s : List ℕ). judged_to f (judge f) s - min judged (judged_at f s)) e

-- The places of held bytes were scanned, with the front of the chunk behind them.
module _ (f : Format) (h chunk w : List ℕ) (count judged : ℕ) (n : length h ≡ count) (j : w ≡ joined f h chunk) where
  -- What is judged at them is judged so in the whole chunk.
  long_front : scan_judged f (judge f) count w ≡ scan_judged f (judge f) count (h ++ chunk)
  long_front =
      ap (scan_judged f (judge f) count) (j ∙ sym (take-append-add h chunk (limit f)))
      ∙ count_front f count (length h + limit f) (h ++ chunk) (omega arith)

  long_first : judged_at f w ≡ judged_at f (h ++ chunk)
  long_first =
      ap (judged_at f) (j ∙ sym (take-append-add h chunk (limit f))) ∙ judged_front f (length h + limit f) (h ++ chunk) (omega arith)

  -- All bytes of both.
  long_whole : judged_to f (judge f) (h ++ chunk) ≡ scan_judged f (judge f) (count + length chunk) (h ++ chunk)
  long_whole =
      count_whole f (judge f) (h ++ chunk)
      ∙ ap (λ (k : ℕ). scan_judged f (judge f) k (h ++ chunk)) (length-append h chunk ∙ ap (λ (k : ℕ). k + length chunk) n)

  -- One of them does not fail.
  pub long_stopped :
      ((scan_from (judge f) count 0 count w).stop ≡ passed → ⊥) →
      scan_judged f (judge f) count w - min judged (judged_at f w) ≡ line_judged (holding f h false judged) chunk
  long_stopped e =
      let same : scan_from (judge f) count 0 count w ≡ scan_from (judge f) count 0 count (h ++ chunk) =
      ap (scan_from (judge f) count 0 count) (j ∙ sym (take-append-add h chunk (limit f)))
      ∙ scan_front f count 0 count (length h + limit f) (h ++ chunk) (omega arith) in
      let all : scan_judged f (judge f) count w ≡ judged_to f (judge f) (h ++ chunk) =
      long_front
      ∙ sym (count_stopped f count (length chunk) 0 count (h ++ chunk) (λ z. e (ap (λ (x : Scanned). x.stop) same ∙ z)))
      ∙ sym long_whole in
      ap₂ (λ (a b : ℕ). a - min judged b) all long_first

  -- All of them fail, and the chunk is scanned behind them.
  pub long_chunk :
      judged ≤ count → (scan_from (judge f) count 0 count w).stop ≡ passed →
      scan_judged f (judge f) count w - min judged (judged_at f w) + judged_to f (judge f) chunk ≡ line_judged (holding f h false judged) chunk
  long_chunk l e =
      let same : scan_from (judge f) count 0 count w ≡ scan_from (judge f) count 0 count (h ++ chunk) =
      ap (scan_from (judge f) count 0 count) (j ∙ sym (take-append-add h chunk (limit f)))
      ∙ scan_front f count 0 count (length h + limit f) (h ++ chunk) (omega arith) in
      let rest : drop count (h ++ chunk) ≡ chunk = ap (λ (k : ℕ). drop k (h ++ chunk)) (sym n) ∙ drop-append_seam h chunk in
      let all : judged_to f (judge f) (h ++ chunk) ≡ scan_judged f (judge f) count w + judged_to f (judge f) chunk =
      long_whole
      ∙ count_passed f count (length chunk) 0 count (h ++ chunk) (ap (λ (x : Scanned). x.stop) (sym same) ∙ e)
      ∙ ap₂ ◌+◌ (sym long_front) (ap (scan_judged f (judge f) (length chunk)) rest ∙ sym (count_whole f (judge f) chunk)) in
      let few : min judged (judged_at f w) ≤ scan_judged f (judge f) count w = first_counted f (judge f) count judged w l in
      let out : min judged (judged_at f w) ≡ min judged (judged_at f (h ++ chunk)) = ap (min judged) long_first in
      omega (arith, all, few, out)

-- Where an optional byte was absorbed none were judged behind it; where none was, no more than there are.
pub behind_few : (n judged most : ℕ) → (n ≡ 0 → judged ≤ most) → cond (eqb n 0) judged 0 ≤ most
behind_few n judged most l = by (eqb n 0) refl
  where
    by : (q : Bool) → eqb n 0 ≡ q → cond q judged 0 ≤ most
    by true e = l (eqb-true n 0 e)
    by false e = zero-le

-- Behind an optional byte that was absorbed, or was not.
pub count_behind :
    (f : Format) (follows : Bool) (bytes : List ℕ) (judged n : ℕ) (count : List ℕ → ℕ) → n ≡ absorbed f follows bytes →
    count_from (holding f [] false (cond (eqb n 0) judged 0)) count (drop n bytes) ≡ count_from (holding f [] follows judged) count bytes
count_behind f follows bytes judged n count e = by n ∙ ap (λ (k : ℕ). count (drop k bytes) - left_out f k judged (drop k bytes)) e
  where
    by : (k : ℕ) → count (drop k bytes) - min (cond (eqb k 0) judged 0) (judged_at f (drop k bytes)) ≡ count (drop k bytes) - left_out f k judged (drop k bytes)
    by zero = refl
    by (suc k) =
        let some : suc k ≡ 0 → ⊥ = λ z. omega arith in
        let none : cond (eqb (suc k) 0) judged 0 ≡ 0 = ap (λ (q : Bool). cond q judged 0) (ne_eqb (suc k) 0 some) in omega arith

-- So it is for a line call that holds bytes,
pub held_behind :
    (f : Format) (follows : Bool) (h h' chunk : List ℕ) (judged n : ℕ) → 1 ≤ length h → n ≡ absorbed f follows h → h' ≡ drop n h →
    line_judged (holding f h' false (cond (eqb n 0) judged 0)) chunk ≡ line_judged (holding f h follows judged) chunk
held_behind f follows [] h' chunk judged n l e q = absurd (not-suc-le-zero l)
held_behind f follows (b ∷ h) h' chunk judged n l e q =
    let there : n ≤ length (b ∷ h) = subst (λ (k : ℕ). k ≤ length (b ∷ h)) (sym e) (absorbed_there f follows (b ∷ h)) in
    ap (count_from (holding f [] false (cond (eqb n 0) judged 0)) (judged_to f (judge f)))
    (ap (λ (t : List ℕ). t ++ chunk) q ∙ sym (drop-append-le n (b ∷ h) chunk there))
    ∙ count_behind f follows ((b ∷ h) ++ chunk) judged n (judged_to f (judge f)) (e ∙ absorbed_front f follows b h (h ++ chunk))

-- for one that holds none,
pub next_behind :
    (f : Format) (follows : Bool) (chunk rest : List ℕ) (n : ℕ) → n ≡ absorbed f follows chunk → rest ≡ drop n chunk →
    0 + judged_to f (judge f) rest ≡ line_judged (holding f [] follows 0) chunk
next_behind f follows chunk rest n e q =
    zero-add (judged_to f (judge f) rest)
    ∙ ap (judged_to f (judge f)) q
    ∙ by n
    ∙ ap (λ (k : ℕ). judged_to f (judge f) (drop k chunk) - left_out f k 0 (drop k chunk)) e
  where
    by : (k : ℕ) → judged_to f (judge f) (drop k chunk) ≡ judged_to f (judge f) (drop k chunk) - left_out f k 0 (drop k chunk)
    by zero = omega arith
    by (suc k) = omega arith

-- for a view,
pub view_behind :
    (f : Format) (follows : Bool) (w : List ℕ) (count left judged n : ℕ) → n ≡ absorbed f follows w →
    judged_in f follows count judged w ≡ judged_in f false left (cond (eqb n 0) judged 0) (drop n w)
view_behind f follows w count left judged n e =
    ap (count_from (holding f [] follows judged) (judged_to f (judge f))) (take-append-drop count w)
    ∙ sym (count_behind f follows w judged n (judged_to f (judge f)) e)
    ∙ ap (count_from (holding f [] false (cond (eqb n 0) judged 0)) (judged_to f (judge f))) (sym (take-append-drop left (drop n w)))

-- and at a quiet.
pub quiet_behind :
    (f : Format) (follows : Bool) (h h' : List ℕ) (judged n : ℕ) → n ≡ absorbed f follows h → h' ≡ drop n h →
    quiet_judged (holding f h' false (cond (eqb n 0) judged 0)) ≡ quiet_judged (holding f h follows judged)
quiet_behind f follows h h' judged n e q =
    ap (count_from (holding f [] false (cond (eqb n 0) judged 0)) (judged_to f (λ x. ended (judge f x)))) q
    ∙ count_behind f follows h judged n (judged_to f (λ x. ended (judge f x))) e

-- The bytes that end a segment were scanned.
pub quiet_scanned :
    (f : Format) (s : List ℕ) (judged : ℕ) →
    scan_judged f (judging true f) (length s) s - min judged (judged_at f s) ≡ quiet_judged (holding f s false judged)
quiet_scanned f s judged = ap (λ (k : ℕ). k - min judged (judged_at f s)) (sym (count_whole f (judging true f) s))
