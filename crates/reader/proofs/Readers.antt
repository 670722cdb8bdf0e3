-- The answers of the line reader's calls at each of their ways out.
-- Assumes nothing.
use Prim.Native.Nat.{ℕ, ◌+◌, ◌-◌, ◌≤◌}
use native.Mathlib.Nat.{le_refl, sub-zero}
use native.Mathlib.Omega.{arith}
use mathlib.Core.Path.{◌≡◌, refl, sym, ap, ap₂, ◌∙◌, subst}
use mathlib.Core.List.{List, ◌++◌}
use mathlib.Core.Bool.{Bool, false}
use lib.ListN.{length, take, drop, length-append}
use lib.Seq.{paste, take-length, take-paste, take_at, drop_at}
use Rattle.frame.specs.Framing.{is_open, limit}
use Rattle.frame.specs.Judged.{payload_at}
use Rattle.reader.specs.Reader.{holding, Called, line_on, judged_held, frame_values, fed_values_of, buffer_at}
use Rattle.reader.specs.Scan.{Stop, found, undecided, passed, stop_of, judging, Scanned, scanned_to, scan_from, stop_buffer}
use Rattle.reader.specs.View.{part}
use Rattle.reader.specs.Answer.{before_scan, called_as, called_by, scan_whole, kept_as, kept_end, Usable, Answerable, Keeps}
use Rattle.reader.specs.Feeding.{joined, Stores, Leaves, KeepsCall, QuietAnswered}
use Rattle.frame.specs.declared.framing.Format.{Format}
use Rattle.reader.specs.declared.reader.Reader.{Reader}
use Rattle.reader.specs.declared.answer.FeedAnswer.{FeedAnswer}
use Rattle.reader.specs.declared.reader.Quieted.{Quieted}
use Rattle.reader.specs.declared.answer.Before.{Before}
use Rattle.reader.specs.declared.answer.Kept.{Kept}
use Rattle.reader.specs.declared.answer.FeedAnswer.TheVariants.{Frame as FeedFrame, NeedsMore}
use Rattle.reader.specs.declared.scan.ScanEnd.{ScanEnd}
use Rattle.reader.specs.declared.scan.ScanEnd.TheVariants.{Frame, Undecided, Passed}
use Rattle.frame.proofs.Lists.{take_rest}
use Rattle.frame.proofs.Framings.{limit_most}
use Rattle.reader.proofs.Parts.{part_front}
use Rattle.reader.proofs.Scanning.{Ends, scan_facts}
use Rattle.reader.proofs.ScanCalls.{scan_held, then_chunk, scan_line, scan_whole_lem, scan_line_lem}

module _ (f : Format) (w : List ℕ) (before : Before) (place reach : ℕ) (end : ScanEnd) (total : ℕ) where
  -- What is kept of a scan that stopped so.
  abbrev Right : ScanEnd → Kept → Type 0
  Right x k = Keeps f before w (scanned_to place reach (stop_of f (drop place w) x)) total k

  -- It stopped at a frame.
  pub kept_frame :
      (used len : ℕ) (follows : Bool) → follows ≡ is_open f used (drop place w) → end ≡ Frame used len → length (payload_at f (drop place w) len) ≡ len →
      place + used ≤ reach → reach ≤ length w → reach ≤ place + 517 →
      Right end (kept_as (FeedFrame (reach - before.base) (before.noise + place) total len (reach - place)) (place + used) reach follows)
  kept_frame used len follows u e l h k m =
      subst
      (λ (x : ScanEnd). Right x (kept_as (FeedFrame (reach - before.base) (before.noise + place) total len (reach - place)) (place + used) reach follows))
      (sym e)
      (record {
        values = ap (λ (n : ℕ). frame_values (reach - before.base) (before.noise + place) total n (reach - place)) (sym l);
        held = refl;
        follows = u;
        inside = h;
        there = k;
        most = omega arith;
        ends = refl;
      })

  -- More bytes are needed, and those of w from `from` on are held.
  abbrev more_needed : ℕ → Kept
  more_needed from = kept_as (NeedsMore before.size (before.noise + place) total) from (length w) false

  kept_more : (x : ScanEnd) (from : ℕ) (k : Kept) → end ≡ x → k ≡ more_needed from → Right x (more_needed from) → Right end k
  kept_more x from k e is h = subst (Right end) (sym is) (subst (λ (y : ScanEnd). Right y (more_needed from)) (sym e) h)

  -- It stopped at undecided bytes.
  pub kept_undecided : (k : Kept) → end ≡ Undecided → k ≡ more_needed place → place ≤ length w → length w ≤ place + 517 → Right end k
  kept_undecided k e is h m =
      kept_more Undecided place k e is
      (record {
        values = refl;
        held = take_rest w place;
        follows = refl;
        inside = h;
        there = omega arith;
        most = m;
        ends = refl;
      })

-- The buffer that a scan leaves is that of the call.
pub call_buffer :
    (f : Format) (stop : Stop) (before : Before) (w : List ℕ) (place reach : ℕ) (buf : List ℕ) →
    stop_buffer stop buf ≡ buffer_at (called_as f stop before w place reach).out.frames buf
call_buffer f (found used p) before w place reach buf = refl
call_buffer f undecided before w place reach buf = refl
call_buffer f passed before w place reach buf = refl

module _ (f : Format) (before : Before) (w : List ℕ) (x : Scanned) (total : ℕ) (k : Kept) (h : Keeps f before w x total k) (buf buf' : List ℕ)
    (b : buf' ≡ stop_buffer x.stop buf) where
  -- The kept part, put into the front of an array, with the buffer that the scan has left.
  pub stored_leaves : (a : FeedAnswer) (r : Reader) → Stores f (part k.from k.end w) k a r → Leaves f (called_by f before w x) total buf a r buf'
  stored_leaves a r s =
      let c : Called = called_by f before w x in
      let count : r.count ≡ length c.held = s.count ∙ ap length h.held in
      let judged : r.judged ≡ judged_held c.out.frames c.held = s.judged c total h.values count in
      record {
        values = ap fed_values_of s.answer ∙ h.values;
        next =
            record { state = λ i. holding (s.format i) ((s.bytes ∙ h.held) i) ((s.follows ∙ h.follows) i) (judged i); count = count };
        buffer = b ∙ call_buffer f x.stop before w x.place x.reach buf;
      }

-- What leaves one call leaves an equal one.
pub leaves_same :
    (f : Format) (c d : Called) (total : ℕ) (buf : List ℕ) (a : FeedAnswer) (r : Reader) (buf' : List ℕ) → c ≡ d → Leaves f c total buf a r buf' →
    Leaves f d total buf a r buf'
leaves_same f c d total buf a r buf' e h = subst (λ (x : Called). Leaves f x total buf a r buf') e h

-- Nor does it matter how the judged bytes are counted.
pub leaves_total :
    (f : Format) (c : Called) (total total' : ℕ) (buf : List ℕ) (a : FeedAnswer) (r : Reader) (buf' : List ℕ) → total ≡ total' →
    Leaves f c total buf a r buf' → Leaves f c total' buf a r buf'
leaves_total f c total total' buf a r buf' e h = subst (λ (n : ℕ). Leaves f c n buf a r buf') e h

pub keeps_total :
    (c : Called) (total total' count : ℕ) (w : List ℕ) (k : Kept) (buf buf' : List ℕ) → total ≡ total' → KeepsCall c total count w k buf buf' →
    KeepsCall c total' count w k buf buf'
keeps_total c total total' count w k buf buf' e h = subst (λ (n : ℕ). KeepsCall c n count w k buf buf') e h

-- Of a slice whose first `base` bytes were held, the kept part ends with the bytes that were taken.
kept_taken :
    (f : Format) (stop : Stop) (base : ℕ) (w : List ℕ) (place reach : ℕ) → base ≤ reach → base ≤ length w →
    kept_end stop w reach ≡ base + (called_as f stop (before_scan base 0 (length w - base)) w place reach).taken
kept_taken f (found used p) base w place reach h l = omega arith
kept_taken f undecided base w place reach h l = omega arith
kept_taken f passed base w place reach h l = omega arith

-- A whole slice was scanned: what a view's call keeps.
pub view_keeps :
    (f : Format) (w : List ℕ) (count : ℕ) (x : Scanned) (total : ℕ) (k : Kept) (buf buf' : List ℕ) → count ≤ length w → count ≤ x.reach →
    x ≡ scan_from (judging false f) (length w) 0 count w → Keeps f (before_scan count 0 (length w - count)) w x total k →
    buf' ≡ stop_buffer x.stop buf → KeepsCall (line_on f (take count w) (drop count w)) total count w k buf buf'
view_keeps f w count x total k buf buf' l r is h b =
    let before : Before = before_scan count 0 (length w - count) in
    let same : called_by f before w x ≡ line_on f (take count w) (drop count w) =
    ap (called_by f before w) is ∙ scan_whole_lem f count w l in
    subst
    (λ (c : Called). KeepsCall c total count w k buf buf')
    same
    (record {
      values = h.values;
      held = h.held;
      inside = h.inside;
      there = h.there;
      follows = h.follows;
      ends = h.ends ∙ kept_taken f x.stop count w x.place x.reach r l;
      buffer = b ∙ call_buffer f x.stop before w x.place x.reach buf;
    })

-- An answer can be made of a scan's result.
usable :
    (stop : Stop) (f : Format) (w : List ℕ) (n place reach : ℕ) → reach ≤ place + 517 → Ends false f w n place reach stop →
    Usable stop f w place reach × (place ≤ n)
usable (found used p) f w n place reach h e = ((e.is_frame, e.inside, h), omega (arith, e.before))
usable undecided f w n place reach h e = (e.is_cut, omega (arith, e.before))
usable passed f w n place reach h e = (tt, omega (arith, e))

pub answerable :
    (f : Format) (w : List ℕ) (n reach : ℕ) (x : Scanned) (before : Before) → n ≤ length w → reach ≤ length w → reach ≤ limit f →
    x ≡ scan_from (judging false f) n 0 reach w → before.base ≤ reach → before.noise ≤ 517 → Answerable f w x before
answerable f w n reach x before l k m is b s =
    let h = scan_facts false f w n reach l k x is in
    let u = usable x.stop f w n x.place x.reach (omega (arith, h.near, limit_most f)) h.ends in
    record {
      usable = u.0;
      inside = omega (arith, u.1);
      from = omega (arith, h.far);
      there = h.there;
      small = s;
    }

-- The held bytes' places all fail: the chunk's follow.
held_passed :
    (f : Format) (held chunk : List ℕ) (x : Scanned) → x ≡ scan_held f held chunk → x.stop ≡ passed →
    scan_whole f 0 (length held) (x.reach - length held) chunk ≡ line_on f held chunk
unfolding scan_line
held_passed f held chunk x is e =
    ap (λ (s : Stop). then_chunk s f held chunk x.place x.reach) (sym e)
    ∙ ap (λ (y : Scanned). then_chunk y.stop f held chunk y.place y.reach) is
    ∙ scan_line_lem f held chunk

-- One of them does not.
then_held : (s : Stop) (f : Format) (held chunk : List ℕ) (place reach : ℕ) → (s ≡ passed → ⊥) →
    called_as f s (before_scan (length held) 0 (length chunk)) (joined f held chunk) place reach ≡ then_chunk s f held chunk place reach
then_held (found used p) f held chunk place reach n = refl
then_held undecided f held chunk place reach n = refl
then_held passed f held chunk place reach n = absurd (n refl)

held_found :
    (f : Format) (held chunk : List ℕ) (x : Scanned) → x ≡ scan_held f held chunk → (x.stop ≡ passed → ⊥) →
    called_by f (before_scan (length held) 0 (length chunk)) (joined f held chunk) x ≡ line_on f held chunk
unfolding scan_line
held_found f held chunk x is n =
    then_held x.stop f held chunk x.place x.reach n
    ∙ ap (λ (y : Scanned). then_chunk y.stop f held chunk y.place y.reach) is
    ∙ scan_line_lem f held chunk

-- A chunk that was put behind held bytes.
pub appended :
    (d chunk : List ℕ) (count : ℕ) → count ≤ length d →
    take (count + length chunk) (paste d count chunk (length chunk)) ≡ take count d ++ chunk
appended d chunk count h =
    take-paste d count chunk (length chunk) h (le_refl (length chunk)) ∙ ap (λ (s : List ℕ). take count d ++ s) (take-length chunk)

-- A scan from the first place on is one of all places.
pub from_first :
    (ended : Bool) (f : Format) (n reach : ℕ) (w : List ℕ) (x : Scanned) → x ≡ scan_from (judging ended f) (n - 0) 0 reach w →
    x ≡ scan_from (judging ended f) n 0 reach w
from_first ended f n reach w x is = is ∙ ap (λ (k : ℕ). scan_from (judging ended f) k 0 reach w) (sub-zero n)

-- What is left of a chunk where nothing is held.
pub chunk_leaves :
    (f : Format) (chunk : List ℕ) (noise reach : ℕ) (x : Scanned) (total : ℕ) (k : Kept) (buf buf' : List ℕ) (a : FeedAnswer) (r : Reader) →
    x ≡ scan_from (judging false f) (length chunk) 0 reach chunk → Keeps f (before_scan 0 noise (length chunk)) chunk x total k →
    buf' ≡ stop_buffer x.stop buf → Stores f (part k.from k.end chunk) k a r → Leaves f (scan_whole f 0 noise reach chunk) total buf a r buf'
chunk_leaves f chunk noise reach x total k buf buf' a r is h b s =
    leaves_same f _ _ total buf a r buf'
    (ap₂ (λ (n : ℕ) (y : Scanned). called_by f (before_scan 0 noise n) chunk y) (sym (sub-zero (length chunk))) is)
    (stored_leaves f (before_scan 0 noise (length chunk)) chunk x total k h buf buf' b a r s)

-- What is left of held bytes with a chunk behind them in one array, all of which were scanned.
pub short_leaves :
    (f : Format) (h chunk array : List ℕ) (count : ℕ) (x : Scanned) (total : ℕ) (k : Kept) (buf buf' : List ℕ) (a : FeedAnswer) (r : Reader) →
    length h ≡ count →
    let w : List ℕ = take (count + length chunk) array in
    w ≡ h ++ chunk → x ≡ scan_from (judging false f) (count + length chunk) 0 count w →
    Keeps f (before_scan count 0 (length chunk)) w x total k → buf' ≡ stop_buffer x.stop buf →
    Stores f (part k.from k.end array) k a r → Leaves f (line_on f h chunk) total buf a r buf'
short_leaves f h chunk array count x total k buf buf' a r n e is keeps b s =
    let w : List ℕ = take (count + length chunk) array in
    let long : length w ≡ count + length chunk = omega (arith, ap length e ∙ length-append h chunk) in
    let rest : length chunk ≡ length w - count = omega arith in
    let within : count ≤ length w = omega arith in
    let same : called_by f (before_scan count 0 (length chunk)) w x ≡ line_on f h chunk =
    ap₂ (λ (n : ℕ) (y : Scanned). called_by f (before_scan count 0 n) w y) rest (is ∙ ap (λ (n : ℕ). scan_from (judging false f) n 0 count w) (sym long))
    ∙ scan_whole_lem f count w within
    ∙ ap₂ (λ (a c : List ℕ). line_on f a c) (ap (take count) e ∙ take_at h chunk count n) (ap (drop count) e ∙ drop_at h chunk count n) in
    leaves_same f _ _ total buf a r buf' same
    (stored_leaves f (before_scan count 0 (length chunk)) w x total k keeps buf buf' b a r
    (subst (λ (l : List ℕ). Stores f l k a r) (sym (part_front k.from k.end (count + length chunk) array (rw long at keeps.there))) s))

-- Held bytes were joined with a chunk's front, and the places of the held ones were scanned.
module _ (f : Format) (h chunk w : List ℕ) (count : ℕ) (n : length h ≡ count) (j : w ≡ joined f h chunk) (x : Scanned)
    (is : x ≡ scan_from (judging false f) count 0 count w) where
  scan_is : x ≡ scan_held f h chunk
  scan_is = is ∙ ap₂ (λ (m : ℕ) (s : List ℕ). scan_from (judging false f) m 0 m s) (sym n) j

  -- One of them does not fail.
  pub long_leaves :
      (total : ℕ) (k : Kept) (buf buf' : List ℕ) (a : FeedAnswer) (r : Reader) → (x.stop ≡ passed → ⊥) →
      Keeps f (before_scan count 0 (length chunk)) w x total k → buf' ≡ stop_buffer x.stop buf → Stores f (part k.from k.end w) k a r →
      Leaves f (line_on f h chunk) total buf a r buf'
  long_leaves total k buf buf' a r p keeps b s =
      leaves_same f _ _ total buf a r buf'
      (ap₂ (λ (m : ℕ) (l : List ℕ). called_by f (before_scan m 0 (length chunk)) l x) (sym n) j ∙ held_found f h chunk x scan_is p)
      (stored_leaves f (before_scan count 0 (length chunk)) w x total k keeps buf buf' b a r s)

  -- All of them fail.
  pub long_passed : x.stop ≡ passed → scan_whole f 0 count (x.reach - count) chunk ≡ line_on f h chunk
  long_passed p = ap (λ (m : ℕ). scan_whole f 0 m (x.reach - m) chunk) (sym n) ∙ held_passed f h chunk x scan_is p

-- A scan that passed says so.
pub passed_end : (f : Format) (s : List ℕ) (end : ScanEnd) → stop_of f s end ≡ passed → end ≡ Passed
passed_end f s (Frame used len) e = cc
passed_end f s Undecided e = cc
passed_end f s Passed e = refl

-- A quiet's answer is right where the call gives that.
pub quiet_right :
    (m : Format) (c d : Called) (total : ℕ) (buf : List ℕ) (q : Quieted) (buf' : List ℕ) → c ≡ d → QuietAnswered m d total buf q buf' →
    QuietAnswered m c total buf q buf'
quiet_right m c d total buf q buf' e h = subst (λ (x : Called). QuietAnswered m x total buf q buf') (sym e) h
