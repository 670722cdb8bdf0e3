-- Laws of one call: what it adds to a listing, and where the loop that makes it stands then.
-- Assumes nothing.
use Prim.Native.Nat.{ℕ, ◌+◌, ◌-◌, ◌≤◌, ◌<◌}
use native.Mathlib.Omega.{arith}
use mathlib.Core.List.{List, []}
use mathlib.Core.Path.{◌≡◌, refl, ap, ◌∙◌, subst}
use lib.ListN.{length, take, drop, length-drop}
use Rattle.std.specs.Prelude.{Ok, Err}
use Rattle.frame.specs.declared.refusal.Refusal.{Refusal}
use Rattle.frame.specs.Rule.{Output, join}
use Rattle.reader.specs.Reader.{State, state_of, line, quiet, line_judged, quiet_judged, after, Holds, AfterQuiet, new_reader, sound, Feeds, Quiets}
use Rattle.reader.specs.Feeding.{Admitted}
use Rattle.reader.specs.View.{viewed, view_call, view_judged, NextView, Views, Stands}
use Rattle.reader.specs.Drain.{Drained, drain, rule_after, judged_after, drain_judged}
use Rattle.reader.specs.declared.reader.Reader.{Reader}
use Rattle.reader.specs.declared.reader.Fed.{Fed}
use Rattle.reader.specs.declared.reader.Quieted.{Quieted}
use Rattle.reader.specs.declared.view.View.{View}
use Rattle.reader.specs.declared.view.Viewed.{Viewed}
use Rattle.reader.specs.declared.answer.FeedAnswer.{FeedAnswer}
use Rattle.reader.specs.declared.answer.FeedAnswer.TheVariants.{Frame as FeedFrame, NeedsMore}
use Rattle.reader.specs.declared.answer.QuietAnswer.{QuietAnswer}
use Rattle.reader.specs.declared.answer.QuietAnswer.TheVariants.{Frame as QuietFrame, Empty}
use Rattle.reader.proofs.Theorems.{feed_reports, quiet_reports, view_reports, feed_stays_sound, quiet_stays_sound, view_stays_inside, taken_is_inside}
use Rattle.std.specs.Borrow.{MutBor}
use Rattle.listing.specs.Line.{line_of}
use Rattle.listing.specs.Parts.{Starts, CanCount, CanAdd, Adds, ListsRest, CanView, view_drain, ViewGoesOn, CanFeed, HeldGoesOn, PartlyDrained, CanQuiet, QuietListed, QuietGoesOn}
use Rattle.listing.specs.declared.text.Listing.{Listing}
use Rattle.listing.proofs.Fits.{rest_is}
use Rattle.listing.proofs.Chunks.{one, none, FeedSays, SaysFrame, SaysNone, QuietSays, feed_says, quiet_says, view_free, feed_free, quiet_free}
use Rattle.listing.proofs.Chunks.{partly_drained, frame_can, frame_step, frame_less, none_can, none_lists, all_judged, inside_known}
use Rattle.listing.proofs.Chunks.{view_next, view_left, view_holds, feed_next, feed_left, moved, view_at, none_viewed, none_inside, held_few, partly_drained_room, partly_drained_lists}
use Rattle.listing.proofs.Chunks.{sound_count, sound_known, chunk_room, chunk_judged, quiet_room}
use Rattle.listing.proofs.Chunks.{progress, progress_room, progress_frame, progress_end, progress_noise, quiet_next, quiet_next_judged, quiet_end, quiet_end_judged}

-- The calls of a view.
pub view_starts : (v : View) (chunk : List ℕ) (g : Listing) → CanView v chunk g → ViewGoesOn v chunk g v g
view_starts v chunk g can =
    record {
      within = can.within;
      format = refl;
      drained = partly_drained (viewed v chunk) (drop v.end chunk) g (inside_known v chunk can.within);
    }

module _ {v₀ : View} {chunk : List ℕ} {g₀ : Listing} (can : CanView v₀ chunk g₀) {v : View} {g : Listing} (on : ViewGoesOn v₀ chunk g₀ v g)
    {buf : List ℕ} (full : length buf ≡ 256) (a : Viewed) {buf' : List ℕ} (h : Views v chunk buf a buf') where
  view_says : FeedSays (view_call v chunk) (view_judged v chunk) buf' a.answer × NextView v chunk (view_call v chunk) a.view
  view_says = feed_says (view_call v chunk) (view_free v chunk buf on.within full can.small) a.answer (view_reports v chunk buf a buf' h)

  -- It is not refused.
  pub view_never : {e : Refusal} → a.answer ≡ Err e → ⊥
  view_never was = subst (FeedSays (view_call v chunk) (view_judged v chunk) buf') was view_says.0

  module _ {x : FeedAnswer} (was : a.answer ≡ Ok x) {taken noise n len began : ℕ} (is : x ≡ FeedFrame taken noise n len began) where
    view_frame : SaysFrame (view_call v chunk) (view_judged v chunk) buf' taken noise n len
    view_frame = subst (FeedSays (view_call v chunk) (view_judged v chunk) buf') (was ∙ ap Ok is) view_says.0

    pub view_inside : len ≤ length buf'
    view_inside = view_frame.inside

    pub view_can_add : CanAdd g (line_of (take len buf')) noise n
    view_can_add = frame_can on.drained can.fits _ noise view_frame.out n view_frame.judges can.count

    pub view_less :
        length (drain (viewed a.view chunk) (drop a.view.end chunk)).out.frames < length (drain (viewed v chunk) (drop v.end chunk)).out.frames
    view_less =
        let less = frame_less on.drained can.fits _ noise view_frame.out n view_frame.judges in
        omega (arith, less, ap (λ (d : Drained). length d.out.frames) (view_left v chunk a.view view_says.1))

    pub view_adds : {g' : Listing} → Adds g (line_of (take len buf')) noise n g' → ViewGoesOn v₀ chunk g₀ a.view g'
    view_adds q =
        record {
          within = view_stays_inside v chunk buf a buf' h on.within;
          format = ap (λ (s : State). s.format) view_says.1.state ∙ on.format;
          drained = view_next v chunk a.view view_says.1 (frame_step on.drained can.fits _ noise view_frame.out n view_frame.judges q);
        }

  module _ {x : FeedAnswer} (was : a.answer ≡ Ok x) {taken noise n : ℕ} (is : x ≡ NeedsMore taken noise n) where
    view_none : SaysNone (view_call v chunk) (view_judged v chunk) noise n
    view_none = subst (FeedSays (view_call v chunk) (view_judged v chunk) buf') (was ∙ ap Ok is) view_says.0

    pub view_can_count : CanCount g noise n
    view_can_count = none_can on.drained can.fits noise view_none.out n view_none.judges can.count

    pub view_lists : {r : Reader} {g' : Listing} → Stands a.view chunk r → Adds g [] noise n g' →
        let s : State = viewed v₀ chunk in
        ListsRest s (view_drain v₀ chunk) (g₀.lines.judged + drain_judged s (drop v₀.end chunk)) g₀ r g'
    view_lists {r} t q =
        none_lists on.drained can.fits noise view_none.out n view_none.judges (viewed v₀ chunk) r on.format
        (view_holds v chunk a.view r view_says.1 (view_stays_inside v chunk buf a buf' h on.within) t)
        (all_judged (viewed v₀ chunk) (drop v₀.end chunk) g₀.lines.judged (inside_known v₀ chunk can.within))
        q

-- The calls of a reader.
pub held_starts : (r : Reader) (chunk : List ℕ) (g : Listing) → CanFeed r chunk g → HeldGoesOn r chunk g r 0 g
held_starts r chunk g can =
    record { inside = omega arith; within = can.within; format = refl; drained = partly_drained (state_of r) chunk g can.known }

module _ {r₀ : Reader} {chunk : List ℕ} {g₀ : Listing} (can : CanFeed r₀ chunk g₀) {r : Reader} {done : ℕ} {g : Listing}
    (on : HeldGoesOn r₀ chunk g₀ r done g) {buf : List ℕ} (full : length buf ≡ 256) (a : Fed) {buf' : List ℕ}
    (h : Feeds r (take (length chunk - done) (drop done chunk)) buf a buf') where
  feeds : Feeds r (drop done chunk) buf a buf'
  feeds = subst (λ (l : List ℕ). Feeds r l buf a buf') (rest_is chunk done on.inside) h

  held_says : FeedSays (line (state_of r) (drop done chunk)) (line_judged (state_of r) (drop done chunk)) buf' a.answer × Holds (after (state_of r) (line (state_of r) (drop done chunk))) a.reader
  held_says =
      feed_says (line (state_of r) (drop done chunk)) (feed_free r (drop done chunk) buf on.within full (omega (arith, length-drop done chunk, can.small))) a.answer
      (feed_reports r (drop done chunk) buf a buf' feeds)

  module _ {x : FeedAnswer} (was : a.answer ≡ Ok x) {taken noise n len began : ℕ} (is : x ≡ FeedFrame taken noise n len began) where
    held_frame : SaysFrame (line (state_of r) (drop done chunk)) (line_judged (state_of r) (drop done chunk)) buf' taken noise n len
    held_frame = subst (FeedSays (line (state_of r) (drop done chunk)) (line_judged (state_of r) (drop done chunk)) buf') (was ∙ ap Ok is) held_says.0

    pub held_inside : len ≤ length buf'
    held_inside = held_frame.inside

    pub held_can_add : CanAdd g (line_of (take len buf')) noise n
    held_can_add = frame_can on.drained can.fits _ noise held_frame.out n held_frame.judges can.count

    pub held_taken : done + taken ≤ length chunk
    held_taken = omega (arith, held_frame.taken_is, taken_is_inside (state_of r) (drop done chunk), length-drop done chunk, on.inside)

    pub held_less :
        length (drain (state_of a.reader) (drop (done + taken) chunk)).out.frames < length (drain (state_of r) (drop done chunk)).out.frames
    held_less =
        let less = frame_less on.drained can.fits _ noise held_frame.out n held_frame.judges in
        omega (arith, less, ap (λ (d : Drained). length d.out.frames) (feed_left r chunk done taken a.reader held_says.1 held_frame.taken_is))

    pub held_adds : {g' : Listing} → Adds g (line_of (take len buf')) noise n g' → HeldGoesOn r₀ chunk g₀ a.reader (done + taken) g'
    held_adds q =
        let kept = feed_stays_sound r (drop done chunk) buf a buf' feeds on.within in
        record {
          inside = held_taken;
          within = kept.1;
          format = kept.0 ∙ on.format;
          drained =
              feed_next r chunk done taken a.reader held_says.1 held_frame.taken_is
              (frame_step on.drained can.fits _ noise held_frame.out n held_frame.judges q);
        }

  module _ {x : FeedAnswer} (was : a.answer ≡ Ok x) {taken noise n : ℕ} (is : x ≡ NeedsMore taken noise n) where
    held_none : SaysNone (line (state_of r) (drop done chunk)) (line_judged (state_of r) (drop done chunk)) noise n
    held_none = subst (FeedSays (line (state_of r) (drop done chunk)) (line_judged (state_of r) (drop done chunk)) buf') (was ∙ ap Ok is) held_says.0

    pub held_can_count : CanCount g noise n
    held_can_count = none_can on.drained can.fits noise held_none.out n held_none.judges can.count

    pub held_lists : {g' : Listing} → Adds g [] noise n g' →
        let s : State = state_of r₀ in ListsRest s (drain s chunk) (g₀.lines.judged + drain_judged s chunk) g₀ a.reader g'
    held_lists q =
        none_lists on.drained can.fits noise held_none.out n held_none.judges (state_of r₀) a.reader on.format held_says.1
        (all_judged (state_of r₀) chunk g₀.lines.judged can.known) q

-- Where nothing is held any more, a view goes on with the rest of the chunk, and what it lists is all.
module _ {r₀ : Reader} {chunk : List ℕ} {g₀ : Listing} (can : CanFeed r₀ chunk g₀) {r : Reader} {done : ℕ} {g : Listing}
    (on : HeldGoesOn r₀ chunk g₀ r done g) (none : r.count ≤ 0) where
  held_drained :
      PartlyDrained (drain (state_of r₀) chunk) (g₀.lines.judged + judged_after (state_of r₀) chunk) (viewed (view_at r done) chunk) (drop done chunk) g₀ g
  held_drained =
      let held = held_few r in
      moved (none_viewed r chunk done (omega arith) (omega (arith, on.drained.known))) refl on.drained

  pub held_view : CanView (view_at r done) chunk g
  held_view =
      record {
        within = none_inside r chunk done on.inside;
        small = can.small;
        fits = partly_drained_room held_drained can.fits;
        count = omega (arith, held_drained.counts, can.count);
      }

  pub held_all : (r' : Reader) {g' : Listing} →
      let v : State = viewed (view_at r done) chunk in
      let s : State = state_of r₀ in
      ListsRest v (drain v (drop done chunk)) (g.lines.judged + drain_judged v (drop done chunk)) g r' g' →
      ListsRest s (drain s chunk) (g₀.lines.judged + drain_judged s chunk) g₀ r' g'
  held_all r' h = partly_drained_lists (state_of r₀) r' held_drained on.format (all_judged (state_of r₀) chunk g₀.lines.judged can.known) h

-- A listing that begins can take the lines of a quiet that is not refused.
pub can_quiet : {r : Reader} {out : MutBor (List ℕ)} {g : Listing} → Starts out g → Admitted (sound r) 1551 (length out.now) 0 → CanQuiet r g
can_quiet {r} {out} {g} b ok =
    let l = sound_count r ok.sound in
    let q = quiet_room r out.now l ok.room in
    record {
      within = ok.sound;
      room = omega (arith, b.len, b.size, q.0);
      few = omega (arith, b.noise, q.1);
      count = omega (arith, b.judged, chunk_judged r [] l (omega arith));
    }

-- So can one the lines of a chunk.
pub can_chunk : {r : Reader} {chunk : List ℕ} {out : MutBor (List ℕ)} {g : Listing} → length r.held ≡ 517 → Starts out g →
    Admitted (sound r) 198159 (length out.now) (length chunk) → CanFeed r chunk g
can_chunk {r} {chunk} {out} {g} long b ok =
    let l = sound_count r ok.sound in
    record {
      within = ok.sound;
      known = sound_known r long ok.sound;
      small = ok.short;
      fits = chunk_room r chunk out g b l ok.short ok.room;
      count = omega (arith, b.judged, chunk_judged r chunk l ok.short);
    }

-- The calls of a quiet.
pub quiet_starts : (r : Reader) (g : Listing) → CanQuiet r g → QuietGoesOn r g r g
quiet_starts r g can =
    record { within = can.within; format = refl; progress = progress (rule_after (state_of r) []) g; counts = refl }

module _ {r₀ : Reader} {g₀ : Listing} {r : Reader} {g : Listing} (on : QuietGoesOn r₀ g₀ r g) {buf : List ℕ} (full : length buf ≡ 256)
    (a : Quieted) {buf' : List ℕ} (h : Quiets r buf a buf') where
  quiet_said : QuietSays (quiet (state_of r)) (quiet_judged (state_of r)) buf' a.answer × AfterQuiet r.format (quiet (state_of r)) (quiet (state_of r)).out.frames a.reader
  quiet_said = quiet_says (quiet (state_of r)) (quiet_free r buf on.within full) a.answer (quiet_reports r buf a buf' h)

  module _ {x : QuietAnswer} (was : a.answer ≡ Ok x) {noise n len began : ℕ} (is : x ≡ QuietFrame noise n len began) where
    quiet_frame : (len ≤ length buf') × ((quiet (state_of r)).out ≡ one (take len buf') noise) × (n ≡ quiet_judged (state_of r))
    quiet_frame = subst (QuietSays (quiet (state_of r)) (quiet_judged (state_of r)) buf') (was ∙ ap Ok is) quiet_said.0

    quiet_left : rule_after (state_of r) [] ≡ join (one (take len buf') noise) (rule_after (state_of a.reader) [])
    quiet_left = quiet_next r a.reader quiet_said.1 (take len buf') noise quiet_frame.1

    quiet_more : judged_after (state_of r) [] ≡ quiet_judged (state_of r) + judged_after (state_of a.reader) []
    quiet_more = quiet_next_judged r a.reader quiet_said.1 (take len buf') noise quiet_frame.1

    pub quiet_inside : len ≤ length buf'
    quiet_inside = quiet_frame.0

    pub quiet_can_add : CanQuiet r₀ g₀ → CanAdd g (line_of (take len buf')) noise n
    unfolding join
    quiet_can_add can =
        let l : noise ≤ (rule_after (state_of r) []).noise = omega (arith, ap (λ (o : Output (List ℕ)). o.noise) quiet_left) in
        record {
          room = progress_room on.progress can.room (take len buf') noise _ quiet_left;
          counts = record {
            noise = omega (arith, progress_noise on.progress noise l, can.few);
            judged = omega (arith, on.counts, quiet_frame.2, quiet_more, can.count);
          };
        }

    pub quiet_less : length (rule_after (state_of a.reader) []).frames < length (rule_after (state_of r) []).frames
    unfolding join
    quiet_less = omega (arith, ap (λ (o : Output (List ℕ)). length o.frames) quiet_left)

    pub quiet_adds : {g' : Listing} → Adds g (line_of (take len buf')) noise n g' → QuietGoesOn r₀ g₀ a.reader g'
    quiet_adds q =
        let kept = quiet_stays_sound r buf a buf' h on.within in
        record {
          within = kept.1;
          format = kept.0 ∙ on.format;
          progress = progress_frame on.progress (take len buf') noise _ quiet_left q;
          counts = omega (arith, on.counts, q.judged, quiet_frame.2, quiet_more);
        }

  module _ {x : QuietAnswer} (was : a.answer ≡ Ok x) {noise n : ℕ} (is : x ≡ Empty noise n) where
    quiet_none : SaysNone (quiet (state_of r)) (quiet_judged (state_of r)) noise n
    quiet_none = subst (QuietSays (quiet (state_of r)) (quiet_judged (state_of r)) buf') (was ∙ ap Ok is) quiet_said.0

    quiet_over : (rule_after (state_of r) [] ≡ none noise) × (a.reader ≡ new_reader r.format)
    quiet_over = quiet_end r a.reader quiet_said.1 noise quiet_none.out

    quiet_all : judged_after (state_of r) [] ≡ quiet_judged (state_of r)
    quiet_all = quiet_end_judged (state_of r) noise quiet_none.out

    pub quiet_can_count : CanQuiet r₀ g₀ → CanCount g noise n
    quiet_can_count can =
        let l : noise ≤ (rule_after (state_of r) []).noise = omega (arith, ap (λ (o : Output (List ℕ)). o.noise) quiet_over.0) in
        record {
          noise = omega (arith, progress_noise on.progress noise l, can.few);
          judged = omega (arith, on.counts, quiet_none.judges, quiet_all, can.count);
        }

    pub quiet_lists : {g' : Listing} → Adds g [] noise n g' → QuietListed r₀ g₀ a.reader g'
    quiet_lists q =
        let all = progress_end on.progress noise quiet_over.0 q in
        record {
          text = all.0;
          noise = all.1;
          judges = omega (arith, on.counts, q.judged, quiet_none.judges, quiet_all);
          state = quiet_over.1 ∙ ap new_reader on.format;
        }
