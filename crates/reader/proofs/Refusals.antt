-- No call in a list from a new reader refuses the state that it gets: a sound state stays sound.
-- Assumes nothing.
use Prim.Native.Nat.{ℕ, ◌≤◌, zero-le}
use native.Mathlib.Nat.{le_refl, le_trans}
use native.Mathlib.Omega.{arith}
use mathlib.Core.Path.{◌≡◌, refl, sym, ap, ◌∙◌, subst}
use mathlib.Core.List.{List, [], ◌∷◌}
use mathlib.Core.Bool.{Bool, true, false, cond, true≢false}
use borrow.Author.Tests.{le-leb, leb-true}
use lib.Dec.{leb, eqb}
use lib.ListN.{length, length-take}
use Rattle.frame.specs.Framing.{limit}
use Rattle.frame.specs.Rule.{Output}
use Rattle.reader.specs.Reader.{State, Called, line, quiet, line_judged, quiet_judged, judged_held, state_of, new_reader, Holds, sound, Values, feed_values_of, call_refusal}
use Rattle.reader.specs.Reader.{quiet_values_of, quiet_refusal, feed_refusal, Promise, AfterQuiet}
use Rattle.frame.specs.Elements.{All}
use Rattle.reader.specs.Calls.{Answered, Phase, Calls, fed, taken, quieted, emptied, feed_refused, quiet_refused, done, Reply, replies_of}
use Rattle.reader.specs.Driving.{StateNeverRefused}
use Rattle.reader.specs.Further.{FeedStaysSound, QuietStaysSound}
use Rattle.frame.specs.declared.framing.Format.{Format}
use Rattle.frame.specs.declared.framing.Format.TheVariants.{Binary, Ascii}
use Rattle.reader.specs.declared.reader.Reader.{Reader}
use Rattle.frame.proofs.Numbers.{both_true, and_true}
use Rattle.reader.proofs.Settling.{line_size, quiet_size}
use Rattle.reader.proofs.Promises.{refusing}

-- A state that no call refuses.
abbrev pub StateFits : Reader → Type 0
StateFits r = sound r ≡ true

-- Its held bytes are no more than a frame can have, and no more of them were judged.
pub fits_count : (r : Reader) → StateFits r → (r.count ≤ limit r.format) × (r.judged ≤ r.count)
fits_count r l =
    let both = both_true (leb r.count (limit r.format)) (leb r.judged r.count) l in
    (leb-true r.count (limit r.format) both.0, leb-true r.judged r.count both.1)

pub fits_held : (r : Reader) → StateFits r → length (state_of r).held ≤ limit r.format
fits_held r l = rw length-take (omega (arith, (fits_count r l).0))

-- No more of the held bytes were judged after a call.
pub judged_few : (fs : List (List ℕ)) (h : List ℕ) → judged_held fs h ≤ length h
judged_few [] h = le_refl (length h)
judged_few (p ∷ ps) h = zero-le

-- The format is this one, and the state fits.
abbrev InLimit : Format → Reader → Type 0
InLimit f r = (r.format ≡ f) × StateFits r

-- A reader with a state that holds no more than a frame can have, and no more judged bytes, fits.
pub holds_fits :
    {s : State} {r : Reader} → Holds s r → length s.held ≤ limit s.format → s.judged ≤ length s.held → StateFits r
holds_fits {s} {r} k l j =
    let format : r.format ≡ s.format = ap (λ (x : State). x.format) k.state in
    let judged : r.judged ≡ s.judged = ap (λ (x : State). x.judged) k.state in
    and_true (leb r.count (limit r.format)) (leb r.judged r.count)
    (le-leb r.count (limit r.format) (rw (format, k.count) l))
    (le-leb r.judged r.count (rw (judged, k.count) j))

holds_in_limit :
    {s : State} {r : Reader} → Holds s r → length s.held ≤ limit s.format → s.judged ≤ length s.held → InLimit s.format r
holds_in_limit k l j = (ap (λ (x : State). x.format) k.state, holds_fits k l j)

-- Such a state is not refused.
other_refusal : (a b : Bool) → ◌≡◌ {A = ℕ} (cond a (cond b 0 15) 13) 16 → ⊥
other_refusal true true e = omega arith
other_refusal true false e = omega arith
other_refusal false b e = omega arith

-- A line call does not refuse it.
feed_other : (r : Reader) (room size : ℕ) → StateFits r → feed_refusal r room size ≡ 16 → ⊥
feed_other r room size l e =
    other_refusal (leb 256 room) (leb size 65536)
    (sym
    (ap
    (λ (t : Bool). call_refusal t 256 room size)
    l)
    ∙ e)

-- Nor does a quiet call.
quiet_other : (r : Reader) (room : ℕ) → StateFits r → quiet_refusal r room ≡ 16 → ⊥
quiet_other r room l e =
    other_refusal (leb 256 room) true
    (sym (ap (λ (t : Bool). call_refusal t 256 room 0) l) ∙ e)

-- A refused call leaves the state as it was; any other leaves one that follows.
stays :
    {A : Type 0} {number : ℕ} {refusal answer v : A} {Next : Reader → Type 0} {filled buf buf' : List ℕ} {r r' : Reader} →
    Promise number refusal answer Next filled r buf v r' buf' → StateFits r → (Next r' → InLimit r.format r') → InLimit r.format r'
stays {number = number} {r = r} {r' = r'} p l next = by_refusal (eqb number 0) refl
  where
    by_refusal : (q : Bool) → eqb number 0 ≡ q → InLimit r.format r'
    by_refusal true e = next (p.answers e).1
    by_refusal false e = subst (InLimit r.format) (sym (p.refuses e).1) (refl, l)

-- A new reader fits.
pub new_fits : (m : Format) → StateFits (new_reader m)
new_fits (Binary footer) = refl
new_fits (Ascii ending) = refl

-- The state after a quiet call is within the limit, where its held bytes are.
after_in_limit :
    (m : Format) (c : Called) (fs : List (List ℕ)) (r : Reader) → AfterQuiet m c fs r → length c.held ≤ limit m → InLimit m r
after_in_limit m c [] r h l = subst (InLimit m) (sym h) (refl, new_fits m)
after_in_limit m c (p ∷ ps) r h l = holds_in_limit h l zero-le

-- A line call leaves a sound state, whatever sound state it gets.
pub feed_stays_sound : FeedStaysSound
feed_stays_sound r chunk buf a buf' p l =
    let c : Called = line (state_of r) chunk in
    stays p l (λ k. holds_in_limit k (line_size (state_of r) chunk (fits_held r l)) (judged_few c.out.frames c.held))

-- So does a quiet call.
pub quiet_stays_sound : QuietStaysSound
quiet_stays_sound r buf a buf' p l =
    let c : Called = quiet (state_of r) in
    stays p l (λ k. after_in_limit r.format c c.out.frames a.reader k (le_trans (quiet_size (state_of r)) (fits_held r l)))

-- What is answered is not refused.
not_refused : (v : Values) → Answered v → v.number ≡ 16 → ⊥
not_refused v a e = true≢false (sym a ∙ ap (λ (n : ℕ). eqb n 0) e)

-- Whatever the calls, from a state that fits on.
never :
    {phase : Phase} {r : Reader} {todo : List ℕ} {out : Output (List ℕ)} (calls : Calls phase r todo out) → StateFits r →
    All (λ (a : Reply). a.values.number ≡ 16 → ⊥) (replies_of calls)
never (fed {r} chunk more buf buf' a p n e later) l = (not_refused (feed_values_of a.answer) n, never later (feed_stays_sound r chunk buf a buf' p l).1)
never (taken later) l = never later l
never (quieted {r} buf buf' a p n later) l = (not_refused (quiet_values_of a.answer) n.answered, never later (quiet_stays_sound r buf a buf' p l).1)
never (emptied {r} buf buf' a p n later) l = (not_refused (quiet_values_of a.answer) n.answered, never later (quiet_stays_sound r buf a buf' p l).1)
never (feed_refused {r = r} chunk buf buf' a p n later) l =
    let h = refusing (line (state_of r) chunk) (line_judged (state_of r) chunk) p n in
    let number : (feed_values_of a.answer).number ≡ feed_refusal r (length buf) (length chunk) = ap (λ (v : Values). v.number) h.0 in
    (λ e. feed_other r (length buf) (length chunk) l (sym number ∙ e), never later (subst StateFits (sym h.1) l))
never (quiet_refused {r = r} buf buf' a p n later) l =
    let h = refusing (quiet (state_of r)) (quiet_judged (state_of r)) p n in
    let number : (quiet_values_of a.answer).number ≡ quiet_refusal r (length buf) = ap (λ (v : Values). v.number) h.0 in
    (λ e. quiet_other r (length buf) l (sym number ∙ e), never later (subst StateFits (sym h.1) l))
never done l = tt

-- 16 is no refusal of a list of calls from a new reader.
pub state_never_refused : (f : Format) → StateNeverRefused f
state_never_refused f segment out calls = never calls (new_fits f)
