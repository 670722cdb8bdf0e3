-- Laws of views: a view's call is the line call of the reader that the view stands for.
-- Assumes nothing.
use Prim.Native.Nat.{ℕ, ◌+◌, ◌-◌, ◌≤◌, ◌<◌, max}
use native.Mathlib.Omega.{arith}
use mathlib.Core.Path.{◌≡◌, refl, sym, ap, ap₂, ◌∙◌, subst}
use mathlib.Core.List.{List, []}
use mathlib.Core.Bool.{Bool, true, false, cond, ◌&&◌, false≢true}
use borrow.Author.Tests.{le-leb, leb-true, eqb-true}
use lib.Dec.{leb, eqb}
use lib.ListN.{length, take, drop, length-drop}
use lib.Seq.{drop-length, drop-drop}
use Rattle.frame.specs.Framing.{limit, absorbed}
use Rattle.frame.specs.Rule.{nothing}
use Rattle.reader.specs.Reader.{State, holding, Called, called, took_first, line_behind, line, line_judged, after, state_of, Holds, refusal_values}
use Rattle.reader.specs.Reader.{call_refusal, buffer_at, sound, feed_refusal, feed_values_of, Feeds}
use Rattle.reader.specs.View.{inside, part, viewed, view_call, view_judged, NextView, view_refusal, Views, Stands}
use Rattle.reader.specs.Draining.{ViewReports}
use Rattle.reader.specs.Answer.{TookFirst, HeldSo, values_at}
use Rattle.reader.specs.Feeding.{line_over, judged_in, KeepsCall, past_optional}
use Rattle.reader.specs.Views.{ViewIsFeed, ViewStaysInside}
use Rattle.frame.specs.declared.framing.Format.{Format}
use Rattle.reader.specs.declared.reader.Reader.{Reader}
use Rattle.reader.specs.declared.answer.Kept.{Kept}
use Rattle.reader.specs.declared.answer.FeedAnswer.{FeedAnswer}
use Rattle.reader.specs.declared.answer.FeedAnswer.TheVariants.{NeedsMore}
use Rattle.std.proofs.Common.{Ok}
use Rattle.reader.specs.declared.view.View.{View}
use Rattle.reader.specs.declared.view.Viewed.{Viewed}
use Rattle.reader.proofs.Parts.{part_size, part_rest}
use Rattle.reader.proofs.Settling.{line_one, line_taken, line_size}
use Rattle.reader.proofs.Promises.{refuses, answers, numbered, answered, refusing, says}
use Rattle.frame.proofs.Optional.{absorbed_one, absorbed_there}
use Rattle.reader.proofs.Refusals.{judged_few, holds_fits}
use Rattle.reader.proofs.JudgedCalls.{behind_few, view_behind}
use Rattle.reader.proofs.Following.{none_judged, split_line}

-- What the answer of a view's call says.
pub view_reports : ViewReports
view_reports v chunk buf a buf' p = says (view_call v chunk) (view_judged v chunk) p (line_one (viewed v chunk) (drop v.end chunk))

-- Both of two tests hold.
both : (a b : Bool) → a && b ≡ true → (a ≡ true) × (b ≡ true)
both true b e = (refl, e)
both false b e = absurd (false≢true e)

-- What it is for a view to lie in a chunk of this size.
pub record Inside (v : View) (size : ℕ) : Type 0 where
  pub onward : v.from ≤ v.end
  pub there : v.end ≤ size
  pub fits : v.end - v.from ≤ limit v.format
  pub few : v.judged ≤ v.end - v.from

pub is_inside : (v : View) (size : ℕ) → inside v size ≡ true → Inside v size
is_inside v size e =
    let count : ℕ = v.end - v.from in
    let h = both (leb v.from v.end) (leb v.end size && (leb count (limit v.format) && leb v.judged count)) e in
    let k = both (leb v.end size) (leb count (limit v.format) && leb v.judged count) h.1 in
    let l = both (leb count (limit v.format)) (leb v.judged count) k.1 in
    record { onward = leb-true _ _ h.0; there = leb-true _ _ k.0; fits = leb-true _ _ l.0; few = leb-true _ _ l.1 }

pub inside_is : (v : View) (size : ℕ) → Inside v size → inside v size ≡ true
inside_is v size h =
    simp (
      le-leb v.from v.end h.onward,
      le-leb v.end size h.there,
      le-leb (v.end - v.from) (limit v.format) h.fits,
      le-leb v.judged (v.end - v.from) h.few,
    )

-- The part of a view has as many bytes as it says.
pub part_length : (v : View) (chunk : List ℕ) → Inside v (length chunk) → length (part v.from v.end chunk) ≡ v.end - v.from
part_length v chunk h = part_size v.from v.end chunk h.onward h.there

-- The reader of a view that lies in the chunk.
stands_state : (v : View) (chunk : List ℕ) (r : Reader) → inside v (length chunk) ≡ true → Stands v chunk r → Holds (viewed v chunk) r
stands_state v chunk r e h = subst (λ (q : Bool). Holds (cond q (viewed v chunk) (holding v.format [] false 0)) r) e h

-- The view that follows a call lies in the chunk.
next_inside :
    (v : View) (chunk : List ℕ) (v' : View) → Inside v (length chunk) → NextView v chunk (view_call v chunk) v' → Inside v' (length chunk)
next_inside v chunk v' h k =
    let c : Called = view_call v chunk in
    let taken : c.taken ≤ length (drop v.end chunk) = line_taken (viewed v chunk) (drop v.end chunk) in
    let format : v'.format ≡ v.format = ap (λ (s : State). s.format) k.state in
    let few : length c.held ≤ limit v.format =
    line_size (viewed v chunk) (drop v.end chunk) (rw (part_length v chunk h) h.fits) in
    record {
      onward = omega (arith, k.from);
      there = omega (arith, k.end, length-drop v.end chunk, h.there);
      fits = rw format (omega (arith, k.from));
      few = rw (ap (λ (s : State). s.judged) k.state) (omega (arith, judged_few c.out.frames c.held, k.from));
    }

pub view_stays_inside : ViewStaysInside
view_stays_inside v chunk buf a buf' p e = by_refusal (eqb (view_refusal v (length buf) (length chunk)) 0) refl
  where
    by_refusal : (q : Bool) → eqb (view_refusal v (length buf) (length chunk)) 0 ≡ q → inside a.view (length chunk) ≡ true
    by_refusal true z = inside_is a.view (length chunk) (next_inside v chunk a.view (is_inside v (length chunk) e) (p.answers z).1)
    by_refusal false z = ap (λ (x : View). inside x (length chunk)) (p.refuses z).1 ∙ e

-- A view's call and the reader's call with the chunk have the same refusal.
same_refusal :
    (v : View) (chunk : List ℕ) (room : ℕ) (r : Reader) → inside v (length chunk) ≡ true → Holds (viewed v chunk) r →
    view_refusal v room (length chunk) ≡ feed_refusal r room (length chunk)
same_refusal v chunk room r e h =
    let k = is_inside v (length chunk) e in
    let format : r.format ≡ v.format = ap (λ (s : State). s.format) h.state in
    let size : length (part v.from v.end chunk) ≡ v.end - v.from = part_length v chunk k in
    ap (λ (q : Bool). call_refusal q 256 room (length chunk)) (e ∙ sym (holds_fits h (rw size k.fits) (rw size k.few)))

-- Where a chunk is not refused, no shorter one is.
shorter : (q : Bool) (room size less : ℕ) → less ≤ size → call_refusal q 256 room size ≡ 0 → call_refusal q 256 room less ≡ 0
shorter q room size less l = by q (leb 256 room) (leb size 65536) refl
  where
    by :
        (q s t : Bool) → leb size 65536 ≡ t → ◌≡◌ {A = ℕ} (cond q (cond s (cond t 0 15) 13) 16) 0 →
        ◌≡◌ {A = ℕ} (cond q (cond s (cond (leb less 65536) 0 15) 13) 16) 0
    by true true true h e = rw (le-leb less 65536 (omega (arith, leb-true size 65536 h)))
    by true true false h e = absurd (omega arith)
    by true false t h e = absurd (omega arith)
    by false s t h e = absurd (omega arith)

-- A view's call is the reader's.
pub view_is_feed : ViewIsFeed
view_is_feed v chunk buf a buf' r p e h =
    let k : Holds (viewed v chunk) r = stands_state v chunk r e h in
    let c : Called = view_call v chunk in
    let rest : List ℕ = drop v.end chunk in
    let number : view_refusal v (length buf) (length chunk) ≡ feed_refusal r (length buf) (length chunk) = same_refusal v chunk (length buf) r e k in
    let same : c ≡ line (state_of r) rest = ap (λ (s : State). line s rest) (sym k.state) in
    record {
      answered = λ z r' h'.
          let g = answered c (view_judged v chunk) p z in
          let f = g.1 in
          let k' : Holds (viewed a.view chunk) r' =
          stands_state a.view chunk r'
          (inside_is a.view (length chunk) (next_inside v chunk a.view (is_inside v (length chunk) e) f)) h' in
          answers
          (shorter (sound r) (length buf) (length chunk) (length rest) (rw length-drop (omega arith))
          (sym number ∙ eqb-true (view_refusal v (length buf) (length chunk)) 0 (numbered c (view_judged v chunk) p true z)))
          (g.0 ∙ ap₂ values_at same (ap (λ (s : State). line_judged s rest) (sym k.state)))
          (subst (λ (s : State). Holds s r') (f.state ∙ ap₂ after (sym k.state) same) k')
          (g.2 ∙ ap (λ (x : Called). buffer_at x.out.frames buf) same);
      refused = λ z.
          let g = refusing c (view_judged v chunk) p z in
          subst
          (λ (b : List ℕ). Feeds r chunk buf (record { reader = r; answer = a.answer }) b)
          (sym g.2)
          (refuses (ap (λ (n : ℕ). eqb n 0) (sym number) ∙ numbered c (view_judged v chunk) p false z) (g.0 ∙ ap refusal_values number));
    }

module _ (v : View) (room size : ℕ) where
  -- The refusals of a view's call, in their order.
  view_accepted : inside v size ≡ true → 256 ≤ room → size ≤ 65536 → view_refusal v room size ≡ 0
  view_accepted e h k = ap (λ (q : Bool). call_refusal q 256 room size) e ∙ simp (le-leb 256 room h, le-leb size 65536 k)

-- A call with no byte held or offered, where the view is at the chunk's end.
pub waiting_views :
    (v : View) (chunk buf : List ℕ) (a : Viewed) → Inside v (length chunk) → v.from ≡ length chunk → 256 ≤ length buf → length chunk ≤ 65536 →
    a.view ≡ v → a.answer ≡ Ok (NeedsMore 0 0 0) → Views v chunk buf a buf
waiting_views v chunk buf a h last room few same is =
    let f : Format = v.format in
    let end : v.end ≡ length chunk = omega (arith, h.onward, h.there) in
    let none : v.end - v.from ≡ 0 = omega arith in
    let held : part v.from v.end chunk ≡ [] = ap (λ (n : ℕ). take n (drop v.from chunk)) none in
    let rest : drop v.end chunk ≡ [] = ap (λ (n : ℕ). drop n chunk) end ∙ drop-length chunk in
    let c : Called = called 0 nothing 0 [] v.follows in
    let call : view_call v chunk ≡ c = ap₂ (line_behind f v.follows) held rest in
    let judged : view_judged v chunk ≡ 0 =
    ap₂ (λ (x y : List ℕ). line_judged (holding f x v.follows v.judged) y) held rest ∙ none_judged f v.follows v.judged in
    let known : v.judged ≡ 0 = omega (arith, h.few) in
    let next : NextView v chunk c v = record {
      end = omega arith;
      from = omega arith;
      state = λ i. holding f (held i) v.follows (known i);
    } in
    answers
    (view_accepted v (length buf) (length chunk) (inside_is v (length chunk) h) room few)
    (ap feed_values_of is ∙ ap₂ values_at (sym call) (sym judged))
    (subst (λ (x : View). NextView v chunk (view_call v chunk) x) (sym same) (subst (λ (x : Called). NextView v chunk x v) (sym call) next))
    (ap (λ (x : Called). buffer_at x.out.frames buf) (sym call))

-- What the view behind an optional byte is to a view that has a byte held or offered: it lies in the chunk, at most one byte further, and the view's call is
-- the call without the mark from there, before which that byte is taken where it was not held.
pub record Past (v : View) (chunk : List ℕ) (at : View) : Type 0 where
  pub format : at.format ≡ v.format
  pub inside : Inside at (length chunk)
  pub onward : v.end ≤ at.end
  pub one : at.end ≤ v.end + 1
  pub call : view_call v chunk ≡ took_first (at.end - v.end) (line_over at.format (at.end - at.from) (drop at.from chunk))
  pub judged : view_judged v chunk ≡ judged_in at.format false (at.end - at.from) at.judged (drop at.from chunk)

-- How many bytes are taken and how many stay held, where n are passed over from the front of those from `from` up to `end`.
module _ (from end n : ℕ) (l : from ≤ end) where
  first_past : n - (end - from) ≡ max end (from + n) - end
  first_past = omega arith

  left_past : end - from - n ≡ max end (from + n) - (from + n)
  left_past = omega arith

-- The view behind an optional byte lies in the chunk.
past_inside : (v : View) (chunk : List ℕ) → Inside v (length chunk) → Inside (past_optional v chunk) (length chunk)
past_inside v chunk h =
    let n : ℕ = absorbed v.format v.follows (drop v.from chunk) in
    let left : v.end - v.from - n ≡ max v.end (v.from + n) - (v.from + n) = left_past v.from v.end n h.onward in
    record {
      onward = omega arith;
      there = omega (arith, h.onward, h.there, absorbed_there v.format v.follows (drop v.from chunk), length-drop v.from chunk);
      fits = subst (λ (k : ℕ). k ≤ limit v.format) left (omega (arith, h.fits));
      few = subst (λ (k : ℕ). cond (eqb n 0) v.judged 0 ≤ k) left (behind_few n v.judged (v.end - v.from - n) (λ z. omega (arith, h.few)));
    }

-- The view that the definition gives is so.
pub past_optional_lem : (v : View) (chunk : List ℕ) → Inside v (length chunk) → v.from < length chunk → Past v chunk (past_optional v chunk)
past_optional_lem v chunk h some =
    let f : Format = v.format in
    let w : List ℕ = drop v.from chunk in
    let n : ℕ = absorbed f v.follows w in
    let count : ℕ = v.end - v.from in
    let next : ℕ = v.from + n in
    let end : ℕ = max v.end next in
    let is : v.from + count ≡ v.end = omega (arith, h.onward) in
    let rest : drop count w ≡ drop v.end chunk = drop-drop count v.from chunk ∙ ap (λ (k : ℕ). drop k chunk) is in
    let behind : drop n w ≡ drop next chunk = drop-drop n v.from chunk in
    record {
      format = refl;
      inside = past_inside v chunk h;
      onward = omega arith;
      one = omega (arith, h.onward, absorbed_one f v.follows w);
      call = ap (line_behind f v.follows (take count w)) (sym rest)
          ∙ split_line f v.follows w count n (omega (arith, length-drop v.from chunk)) refl
          ∙ (λ i. took_first (first_past v.from v.end n h.onward i) (line_over f (left_past v.from v.end n h.onward i) (behind i)));
      judged = ap (line_judged (viewed v chunk)) (sym rest)
          ∙ view_behind f v.follows w count (end - next) v.judged n refl
          ∙ ap (judged_in f false (end - next) (cond (eqb n 0) v.judged 0)) behind;
    }

-- A call that is not refused: the part that is kept of the chunk behind an optional byte is the view that follows.
pub kept_views :
    (v : View) (chunk rest buf buf' : List ℕ) (at : View) (k : Kept) (answer : FeedAnswer) (judged : ℕ) →
    Inside v (length chunk) → Past v chunk at → 256 ≤ length buf → length chunk ≤ 65536 → rest ≡ drop at.from chunk →
    let count : ℕ = at.end - at.from in
    KeepsCall (line_over at.format count rest) (judged_in at.format false count at.judged rest) count rest k buf buf' →
    HeldSo k.answer (k.end - k.from) judged → TookFirst (at.end - v.end) k.answer answer →
    Views v chunk buf
    (record {
      view = record { format = at.format; from = at.from + k.from; end = at.from + k.end; follows = k.follows; judged = judged };
      answer = Ok answer;
    })
    buf'
kept_views v chunk rest buf buf' at k answer judged h p room few r fed so took =
    let w : List ℕ = drop at.from chunk in
    let count : ℕ = at.end - at.from in
    let c : Called = line_over at.format count w in
    let total : ℕ = judged_in at.format false count at.judged w in
    let x : Called = took_first (at.end - v.end) c in
    let kept : KeepsCall c total count w k buf buf' =
    subst (λ (s : List ℕ). KeepsCall (line_over at.format count s) (judged_in at.format false count at.judged s) count s k buf buf') r fed in
    let size : length c.held ≡ k.end - k.from = ap length (sym kept.held) ∙ part_size k.from k.end w kept.inside kept.there in
    let is = so c total kept.values (sym size) in
    let v' : View = record { format = at.format; from = at.from + k.from; end = at.from + k.end; follows = k.follows; judged = judged } in
    let next : NextView v chunk x v' = record {
      end = omega (arith, kept.ends, p.onward, p.inside.onward);
      from = omega (arith, kept.inside);
      state = λ i.
          holding (p.format i) ((sym (part_rest at.from k.from k.end chunk) ∙ kept.held) i) (kept.follows i) (is i);
    } in
    answers
    (view_accepted v (length buf) (length chunk) (inside_is v (length chunk) h) room few)
    (took c total kept.values ∙ ap₂ values_at (sym p.call) (sym p.judged))
    (subst (λ (y : Called). NextView v chunk y v') (sym p.call) next)
    (kept.buffer ∙ ap (λ (y : Called). buffer_at y.out.frames buf) (sym p.call))
