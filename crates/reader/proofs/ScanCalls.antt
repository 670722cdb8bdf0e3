-- What the line and quiet calls give is what the scan gives.
-- Assumes nothing.
use Prim.Native.Nat.{ℕ, zero, suc, ◌+◌, ◌-◌, ◌≤◌, ◌<◌, min, max, zero-le}
use native.Mathlib.Nat.{add-zero, zero-add, add_assoc, sub-zero, sub_self, le_refl, le-max_right}
use native.Mathlib.Omega.{arith}
use mathlib.Core.Path.{◌≡◌, refl, sym, ap, ◌∙◌}
use mathlib.Core.List.{List, [], ◌∷◌, ◌++◌}
use mathlib.Core.Bool.{true, false}
use lib.ListN.{length, take, drop, length-append, length-take, length-drop, drop_of_length-le}
use lib.Seq.{take-append-add, take-append_seam, drop-append_seam, take-take, take_all, drop-drop, drop-length}
use Rattle.frame.specs.Checks.{Verdict, cut, refused, frame}
use Rattle.frame.specs.Framing.{judge, is_open, limit}
use Rattle.frame.specs.Rule.{output, join}
use Rattle.reader.specs.Reader.{settle_as, settle, Called, called, stopped, line_from, line_on, took_first, quiet_held}
use Rattle.reader.specs.Scan.{judging, judged_bytes, Stop, found, undecided, passed, Scanned, scan_as, scan_from}
use Rattle.reader.specs.View.{part}
use Rattle.reader.specs.Answer.{before_scan, called_as, scan_whole}
use Rattle.reader.specs.Feeding.{joined}
use Rattle.frame.specs.Further.{Sized}
use Rattle.frame.specs.declared.framing.Format.{Format}
use Rattle.frame.proofs.Lists.{drop_next, drop_take}
use Rattle.frame.proofs.Framings.{frame_sized, undecided_short}
use Rattle.frame.proofs.Optional.{open_take}
use Rattle.reader.proofs.Prefixes.{refused_sized, limit_enough}
use Rattle.reader.proofs.Taking.{noisier, line_at, line_cut, line_decided, line_found, line_failed}
use Rattle.reader.proofs.Scanning.{AtFrame, AtUndecided, ScanFacts, scan_facts, scan_passed}
use Rattle.reader.proofs.Scanning.{step_refused, step_frame, step_undecided, step_ended, step_end}

-- What a quiet call gives where the scan of s stopped so at a place.
abbrev quiet_by : Format → List ℕ → Stop → ℕ → Called
quiet_by f s (found used p) place = called 0 (output (p ∷ []) place) (length s - place) (drop (place + used) s) (is_open f used (drop place s))
quiet_by f s undecided place = called 0 (output [] place) 0 (drop place s) false
quiet_by f s passed place = called 0 (output [] place) 0 [] false

-- One step of settling at a place of s.
settle_next :
    (f : Format) (judgement : List ℕ → Verdict) (s : List ℕ) (place : ℕ) → place < length s →
    settle f judgement (drop place s) ≡ settle_as f (judgement (drop place s)) (drop place s) (settle f judgement (drop (place + 1) s))
unfolding settle
settle_next f judgement s place l = rw (drop_next s place l)

module _ (f : Format) (s : List ℕ) where
  -- A quiet at a place of this verdict.
  quiet_at :
      (place reach : ℕ) (v : Verdict) → place < length s → judge f (drop place s) ≡ v →
      ((far : ℕ) →
      let x : Scanned = scan_from (judging true f) (length s - (place + 1)) (place + 1) far (drop (place + 1) s) in
      noisier (place + 1) (stopped (settle f (judging true f) (drop (place + 1) s))) ≡ quiet_by f s x.stop x.place) →
      let x : Scanned = scan_from (judging true f) (length s - place) place reach (drop place s) in
      noisier place (stopped (settle f (judging true f) (drop place s))) ≡ quiet_by f s x.stop x.place
  unfolding join
  quiet_at place reach cut l q later =
      rw (settle_next f (judging true f) s place l, q, step_ended f (length s) place reach s l q, ← add_assoc) (later (max reach place))
  quiet_at place reach (refused judged n) l q later =
      rw (settle_next f (judging true f) s place l, q, step_refused true f (length s) place reach s l judged n q, ← add_assoc)
      (later (max reach (place + judged)))
  quiet_at place reach (frame used p) l q later =
      rw (settle_next f (judging true f) s place l, q, step_frame true f (length s) place reach s l used p q, add-zero, drop-drop, length-drop)

  -- A quiet from a place on.
  quiet_from :
      (left place reach : ℕ) → length s ≡ place + left →
      let x : Scanned = scan_from (judging true f) (length s - place) place reach (drop place s) in
      noisier place (stopped (settle f (judging true f) (drop place s))) ≡ quiet_by f s x.stop x.place
  unfolding settle
  quiet_from zero place reach d =
      rw (step_end (judging true f) (length s) place reach s (omega arith), drop_of_length-le s {i = place} (omega arith), add-zero)
  quiet_from (suc left) place reach d =
      quiet_at place reach (judge f (drop place s)) (omega arith) refl (λ far. quiet_from left (place + 1) far (omega arith))

  -- A quiet call gives what the scan of the held bytes gives.
  quiet_scan : (x : Scanned) → x ≡ scan_from (judging true f) (length s) 0 0 s → quiet_held f s ≡ quiet_by f s x.stop x.place
  unfolding quiet_held
  quiet_scan x is = rw is (rw (sub-zero, zero-add) at (quiet_from (length s) 0 0 (sym (zero-add (length s)))))

  -- By the reason for which it stopped: at a frame, or behind the last place.
  pub scan_quiet_found :
      (x : Scanned) (used : ℕ) (p : List ℕ) → x ≡ scan_from (judging true f) (length s) 0 0 s → x.stop ≡ found used p →
      quiet_held f s ≡ called 0 (output (p ∷ []) x.place) (length s - x.place) (drop (x.place + used) s) (is_open f used (drop x.place s))
  scan_quiet_found x used p is q = rw q at (quiet_scan x is)

  pub scan_quiet_passed :
      (x : Scanned) → x ≡ scan_from (judging true f) (length s) 0 0 s → x.stop ≡ passed →
      quiet_held f s ≡ called 0 (output [] x.place) 0 [] false
  scan_quiet_passed x is q = rw q at (quiet_scan x is)

-- The bytes taken up to a decision, counted from the place at which it is made, or from the first byte on.
count_far :
    (base place reach judged : ℕ) → place ≤ reach → base ≤ reach →
    reach - base + (max (reach - place) judged - (reach - place)) ≡ max reach (place + judged) - base
count_far base place reach judged l b = omega arith

-- How far behind a place the bytes reach that were taken for a decision there.
back_far : (place reach judged : ℕ) → place ≤ reach → max (reach - place) judged ≡ max reach (place + judged) - place
back_far place reach judged l = omega arith

-- The rest of a call at a place of w, where bytes up to `reach` are taken and `base` were held at first.
abbrev call_from : Format → List ℕ → ℕ → ℕ → ℕ → Called
call_from f w base place reach = noisier place (took_first (reach - base) (line_at f (drop place w) (reach - place)))

-- The call where the scan stopped so; behind the last place it goes on.
abbrev call_at : Format → List ℕ → ℕ → ℕ → Stop → ℕ → ℕ → Called
call_at f w base size (found used p) place reach = called_as f (found used p) (before_scan base 0 size) w place reach
call_at f w base size undecided place reach = called_as f undecided (before_scan base 0 size) w place reach
call_at f w base size passed place reach = call_from f w base place reach

-- The scan x goes on with the call at a place.
record GoesOn (f : Format) (w : List ℕ) (base size place reach : ℕ) (x : Scanned) : Type 0 where
  same : call_from f w base place reach ≡ call_at f w base size x.stop x.place x.reach
  behind : x.place ≤ x.reach

module _ (f : Format) (w : List ℕ) (base place reach : ℕ) (l : place ≤ reach) (b : base ≤ reach) (k : reach ≤ length w) where
  -- The bytes held at the place are there.
  held_there : reach - place ≤ length (drop place w)
  held_there = omega (arith, length-drop place w)

  -- At undecided bytes.
  call_undecided :
      (size : ℕ) → base + size ≡ length w → judge f (drop place w) ≡ cut →
      call_from f w base place reach ≡ called_as f undecided (before_scan base 0 size) w place reach
  call_undecided size all q =
      let s : List ℕ = drop place w in
      let count : reach - base + (length s - (reach - place)) ≡ size = omega (arith, length-drop place w) in
      let noise : place + 0 ≡ 0 + place = omega arith in
      ap (λ (c : Called). noisier place (took_first (reach - base) c)) (line_cut f s (reach - place) held_there q)
      ∙ (λ i. called (count i) (output [] (noise i)) 0 s false)

  -- At a frame.
  call_frame :
      (size used : ℕ) (p : List ℕ) → judge f (drop place w) ≡ frame used p →
      call_from f w base place reach ≡ called_as f (found used p) (before_scan base 0 size) w place (max reach (place + used))
  call_frame size used p q =
      let s : List ℕ = drop place w in
      let m : ℕ = reach - place in
      let far : ℕ = max reach (place + used) in
      let left : max m used - used ≡ far - (place + used) = omega arith in
      let noise : place + 0 ≡ 0 + place = omega arith in
      let count : reach - base + (max m used - m) ≡ far - base = count_far base place reach used l b in
      let held : take (max m used - used) (drop used s) ≡ part (place + used) far w = rw (left, drop-drop) in
      let began : max m used ≡ far - place = back_far place reach used l in
      ap (λ (c : Called). noisier place (took_first (reach - base) c)) (line_found f s m used p held_there q)
      ∙ (λ i. called (count i) (output (p ∷ []) (noise i)) (began i) (held i) (is_open f used s))

  -- At a failed start.
  call_refused :
      (judged n : ℕ) → judge f (drop place w) ≡ refused judged n →
      call_from f w base place reach ≡ call_from f w base (place + 1) (max reach (place + judged))
  call_refused judged n q =
      let s : List ℕ = drop place w in
      let m : ℕ = reach - place in
      let far : ℕ = max reach (place + judged) in
      let some : 1 ≤ judged = (refused_sized f s judged n q).some in
      let c : Called = line_at f (drop (place + 1) w) (far - (place + 1)) in
      let left : max m judged - 1 ≡ far - (place + 1) = omega arith in
      let count : reach - base + (max m judged - m + c.taken) ≡ far - base + c.taken =
      sym (add_assoc (reach - base) (max m judged - m) c.taken) ∙ ap (λ (k : ℕ). k + c.taken) (count_far base place reach judged l b)
      in
      let noise : place + (1 + c.out.noise) ≡ place + 1 + c.out.noise = omega arith in
      let first : line_at f s m ≡ took_first (max m judged - m) (noisier 1 c) =
      rw q at (line_decided f s m held_there)
      ∙ ap (took_first (max m judged - m)) (line_failed f s (max m judged) judged n q (le-max_right m judged) ∙ rw (left, drop-drop 1 place w))
      in
      ap (λ (c : Called). noisier place (took_first (reach - base) c)) first
      ∙ (λ i. called (count i) (output c.out.frames (noise i)) c.began c.held c.follows)

module _ (f : Format) (w : List ℕ) (base size n : ℕ) (all : base + size ≡ length w) where
  -- The scan at a place of this verdict goes on with the call.
  goes_on_at :
      (place reach : ℕ) (v : Verdict) → judge f (drop place w) ≡ v → place < n → place ≤ reach → base ≤ reach → reach ≤ length w →
      ((far : ℕ) → place + 1 ≤ far → base ≤ far → far ≤ length w →
      GoesOn f w base size (place + 1) far (scan_from (judge f) (n - (place + 1)) (place + 1) far (drop (place + 1) w))) →
      GoesOn f w base size place reach (scan_from (judge f) (n - place) place reach (drop place w))
  goes_on_at place reach cut q h l b k later =
      rw (step_undecided f n place reach w h q) (record { same = call_undecided f w base place reach l b k size all q; behind = l })
  goes_on_at place reach (refused judged m) q h l b k later =
      let far : ℕ = max reach (place + judged) in
      let sized : Sized f (drop place w) judged = refused_sized f (drop place w) judged m q in
      let rest = later far (omega arith) (omega arith) (omega (arith, length-drop place w)) in
      rw (step_refused false f n place reach w h judged m q)
      (record { same = call_refused f w base place reach l b k judged m q ∙ rest.same; behind = rest.behind })
  goes_on_at place reach (frame used p) q h l b k later =
      rw (step_frame false f n place reach w h used p q)
      (record { same = call_frame f w base place reach l b k size used p q; behind = omega arith })

  -- So does the scan from a place on.
  goes_on_from :
      (left place reach : ℕ) → n ≡ place + left → place ≤ reach → base ≤ reach → reach ≤ length w →
      GoesOn f w base size place reach (scan_from (judge f) (n - place) place reach (drop place w))
  goes_on_from zero place reach d l b k =
      rw (step_end (judge f) n place reach w (omega arith)) (record { same = refl; behind = l })
  goes_on_from (suc left) place reach d l b k =
      goes_on_at place reach (judge f (drop place w)) refl (omega arith) l b k
      (λ far l b k. goes_on_from left (place + 1) far (omega arith) l b k)

  -- So does the whole scan.
  goes_on : (reach : ℕ) → base ≤ reach → reach ≤ length w → GoesOn f w base size 0 reach (scan_from (judge f) n 0 reach w)
  goes_on reach b k = rw sub-zero at (goes_on_from n 0 reach (sym (zero-add n)) zero-le b k)

-- Behind the last byte of w nothing is left.
call_over :
    (f : Format) (w : List ℕ) (base place reach : ℕ) → place ≡ length w → reach ≡ length w →
    call_from f w base place reach ≡ called (length w - base) (output [] place) 0 [] false
unfolding line_on line_from settle
call_over f w base place reach a b = rw (a, b, drop-length, sub_self, add-zero, add-zero)

-- The line call over all of w, of which the first bytes are taken, behind other noise, is what the scan of w gives.
whole_line :
    (f : Format) (base noise reach : ℕ) (w : List ℕ) → base ≤ reach → reach ≤ length w →
    scan_whole f base noise reach w ≡ noisier noise (took_first (reach - base) (line_at f w reach))
whole_line f base noise reach w b l = by_stop x.stop refl ∙ ap (noisier noise) (sym rest.same ∙ rw (sub-zero, zero-add))
  where
    x : Scanned
    x = scan_from (judge f) (length w) 0 reach w

    rest : GoesOn f w base (length w - base) 0 reach x
    rest = goes_on f w base (length w - base) (length w) (omega arith) reach b l

    by_stop :
        (v : Stop) → x.stop ≡ v →
        called_as f v (before_scan base noise (length w - base)) w x.place x.reach
        ≡ noisier noise (call_at f w base (length w - base) v x.place x.reach)
    by_stop (found used p) q = rw zero-add
    by_stop undecided q = rw zero-add
    by_stop passed q =
        let size = scan_facts false f w (length w) reach (le_refl (length w)) l x refl in
        let last : x.place ≡ length w = scan_passed false f w (length w) reach (le_refl (length w)) l x refl q in
        ap (noisier noise) (sym (call_over f w base x.place x.reach last (omega (arith, size.there, rest.behind))))

-- So it is where the first bytes of w are held and the others are the chunk.
pub scan_whole_lem : (f : Format) (count : ℕ) (w : List ℕ) → count ≤ length w → scan_whole f count 0 count w ≡ line_at f w count
scan_whole_lem f count w l = whole_line f count 0 count w (le_refl count) l ∙ rw (sub_self, zero-add, zero-add)

-- And where nothing is held.
pub scan_chunk : (f : Format) (chunk : List ℕ) → scan_whole f 0 0 0 chunk ≡ line_on f [] chunk
scan_chunk f chunk = scan_whole_lem f 0 chunk zero-le

-- The front of a list that holds the longest frame at each of n places is scanned as the whole list is.
pub scan_front :
    (f : Format) (n place reach k : ℕ) (s : List ℕ) → n + limit f ≤ k →
    scan_from (judge f) n place reach (take k s) ≡ scan_from (judge f) n place reach s
unfolding scan_from
scan_front f zero place reach k s l = refl
scan_front f (suc n) place reach k s l =
    let far : ℕ = max reach (place + judged_bytes (judge f s)) in
    rw (limit_enough f s k (omega arith), drop_take 1 k s)
    (ap (scan_as (judge f s) place reach) (scan_front f n (suc place) far (k - 1) (drop 1 s) (omega arith)))

-- The scan of the places among the held bytes.
abbrev pub scan_held : Format → List ℕ → List ℕ → Scanned
scan_held f held chunk = scan_from (judge f) (length held) 0 (length held) (joined f held chunk)

-- The places among the held bytes first; where all fail, the chunk's.
abbrev pub then_chunk : Stop → Format → List ℕ → List ℕ → ℕ → ℕ → Called
then_chunk passed f held chunk place reach = scan_whole f 0 (length held) (reach - length held) chunk
then_chunk undecided f held chunk place reach =
    called_as f undecided (before_scan (length held) 0 (length chunk)) (joined f held chunk) place reach
then_chunk (found used p) f held chunk place reach =
    called_as f (found used p) (before_scan (length held) 0 (length chunk)) (joined f held chunk) place reach

-- Both.
unfoldable pub scan_line : Format → List ℕ → List ℕ → Called
scan_line f held chunk =
    then_chunk (scan_held f held chunk).stop f held chunk (scan_held f held chunk).place (scan_held f held chunk).reach

module _ (f : Format) (held chunk : List ℕ) where
  -- The joined bytes are the front of all bytes.
  joined_front : joined f held chunk ≡ take (length held + limit f) (held ++ chunk)
  joined_front = sym (take-append-add held chunk (limit f))

  joined_size : length (joined f held chunk) ≡ length held + min (limit f) (length chunk)
  joined_size = rw (length-append, length-take)

  -- The scan of the places among the held bytes is the same over all bytes.
  held_scan : scan_held f held chunk ≡ scan_from (judge f) (length held) 0 (length held) (held ++ chunk)
  held_scan = rw joined_front (scan_front f (length held) 0 (length held) (length held + limit f) (held ++ chunk) (le_refl _))

  -- Where it stopped, the call is the same over all bytes.
  held_stop :
      (x : Scanned) (v : Stop) → ScanFacts false f (joined f held chunk) (length held) (length held) x → x.stop ≡ v →
      then_chunk v f held chunk x.place x.reach ≡ call_at f (held ++ chunk) (length held) (length chunk) v x.place x.reach
  held_stop x (found used p) facts q =
      let w : List ℕ = held ++ chunk in
      let next : ℕ = x.place + used in
      let size = joined_size in
      let same : part next x.reach (joined f held chunk) ≡ part next x.reach w =
      rw (joined_front, drop_take)
      (take-take (x.reach - next) (length held + limit f - next) (drop next w) (omega (arith, facts.there)))
      in
      let at : AtFrame f (joined f held chunk) (length held) x.place x.reach used p = rw q at facts.ends in
      let sized = frame_sized f (drop x.place (joined f held chunk)) p used at.is_frame in
      let marks : is_open f used (drop x.place (joined f held chunk)) ≡ is_open f used (drop x.place w) =
      rw (joined_front, drop_take)
      (open_take f used sized.some (length held + limit f - x.place) (drop x.place w) (omega (arith, sized.most, at.before)))
      in
      λ i. called (x.reach - length held) (output (p ∷ []) (0 + x.place)) (x.reach - x.place) (same i) (marks i)
  held_stop x undecided facts q =
      let at : AtUndecided false f (joined f held chunk) (length held) x.place = rw q at facts.ends in
      let short = undecided_short f (drop x.place (joined f held chunk)) at.is_cut in
      let size = joined_size in
      let whole : take (limit f) chunk ≡ chunk =
      take_all (limit f) chunk (omega (arith, at.before, length-drop x.place (joined f held chunk))) in
      rw whole
  held_stop x passed facts q =
      let last : x.place ≡ length held = rw q at facts.ends in
      let size = joined_size in
      rw (last, drop-append_seam)
      (whole_line f 0 (length held) (x.reach - length held) chunk zero-le (omega (arith, facts.there)) ∙ rw sub-zero)

  -- What the line call gives is what the scan gives.
  pub scan_line_lem : scan_line f held chunk ≡ line_on f held chunk
  unfolding scan_line
  scan_line_lem =
      let w : List ℕ = held ++ chunk in
      let x : Scanned = scan_held f held chunk in
      let size = joined_size in
      let all : length held + length chunk ≡ length w = sym (length-append held chunk) in
      let inside : length held ≤ length w = omega arith in
      let facts = scan_facts false f (joined f held chunk) (length held) (length held) (omega arith) (omega arith) x refl in
      let rest : GoesOn f w (length held) (length chunk) 0 (length held) x =
      rw held_scan (goes_on f w (length held) (length chunk) (length held) all (length held) (le_refl (length held)) inside) in
      held_stop x x.stop facts refl
      ∙ sym rest.same
      ∙ simp (sub_self, sub-zero, zero-add, take-append_seam, drop-append_seam)
