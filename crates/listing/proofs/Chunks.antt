-- Laws of the calls over one chunk, and of one quiet: what they list together.
-- Assumes nothing.
use Prim.Native.Nat.{ℕ, ◌+◌, ◌-◌, ◌*◌, ◌≤◌, ◌<◌, zero-le}
use native.Mathlib.Nat.{add-zero, le_refl, sub_self}
use native.Mathlib.Omega.{arith}
use mathlib.Core.Path.{◌≡◌, refl, sym, ap, ap₂, ◌∙◌, subst, subst₂}
use mathlib.Core.List.{List, [], ◌∷◌, ◌++◌, append-nil}
use mathlib.Core.Bool.{Bool, true, false, cond, ◌&&◌, true≢false}
use borrow.Author.Tests.{le-leb, leb-true}
use lib.Dec.{leb, eqb}
use lib.ListN.{length, take, drop, length-take, length-drop}
use lib.Seq.{drop-length, drop-drop}
use Rattle.frame.specs.Framing.{limit, absorbed, in_front, behind_optional}
use Rattle.frame.specs.Rule.{Output, output, nothing, join, places, out_from, rule}
use Rattle.reader.specs.Reader.{State, holding, Called, line, quiet, line_judged, quiet_judged, judged_held, after, state_of, Holds, new_reader}
use Rattle.reader.specs.Reader.{Values, feed_refusal, quiet_refusal, sound, AfterQuiet}
use Rattle.reader.specs.View.{inside, viewed, view_call, NextView, view_refusal, Stands}
use Rattle.reader.specs.Draining.{Reports, size_of}
use Rattle.frame.specs.declared.framing.Format.{Format}
use Rattle.frame.specs.declared.framing.Format.TheVariants.{Binary, Ascii}
use Rattle.reader.specs.declared.reader.Reader.{Reader}
use Rattle.reader.specs.declared.view.View.{View}
use Rattle.frame.specs.Refusal.{number_of}
use Rattle.reader.specs.Counts.{most_judged}
use Rattle.reader.specs.Drain.{Drained, drained, before, drain, after_drain, rule_after, judged_after, drain_judged}
use Rattle.frame.specs.declared.refusal.Refusal.{Refusal}
use Rattle.frame.specs.declared.refusal.Refusal.TheVariants.{Start, Cut, Length, Checksum, Footer, Character, Buffer, Payload, Chunk, State as BadState}
use Rattle.reader.proofs.Theorems.{line_drains, needs_more_is_drained, needs_more_is_true, quiet_follows_rule, empty_is_drained}
use Rattle.reader.proofs.Theorems.{drain_is_sized, rule_is_sized, line_counts_lem, quiet_counts_lem, drain_counts, state_bound}
use Rattle.listing.specs.Line.{line_of, lines_of}
use Rattle.listing.specs.Listing.{text_values, values_of, Lists, chunk_refusal, end_refusal}
use Rattle.std.specs.Prelude.{Result, Ok, Err}
use Rattle.std.specs.Borrow.{MutBor}
use Rattle.reader.specs.Reader.{feed_values_of, quiet_values_of, call_refusal}
use Rattle.reader.specs.declared.answer.FeedAnswer.{FeedAnswer}
use Rattle.reader.specs.declared.answer.FeedAnswer.TheVariants.{Frame as FeedFrame, NeedsMore}
use Rattle.reader.specs.declared.answer.QuietAnswer.{QuietAnswer}
use Rattle.reader.specs.declared.answer.QuietAnswer.TheVariants.{Frame as QuietFrame, Empty}
use Rattle.listing.specs.Parts.{HasRoom, Writes, PartlyWritten, Starts, CanCount, CanAdd, Adds, Progress, PartlyDrained, Room, ListsRest, judged_most}
use Rattle.listing.specs.declared.text.Listing.{Listing}
use Rattle.listing.specs.declared.text.Lines.{Lines}
use Rattle.listing.specs.declared.list.Listed.{Listed}
use Rattle.listing.proofs.Texts.{partly_none, partly_next, partly_last, partly_room, part_room, starts_front}
use Rattle.listing.proofs.Fits.{lines_short}

-- A frame, after noise.
abbrev pub one : List ℕ → ℕ → Output (List ℕ)
one p n = output (p ∷ []) n

-- Nothing but noise.
abbrev pub none : ℕ → Output (List ℕ)
none n = output [] n

-- All is left.
pub progress : (whole : Output (List ℕ)) (g : Listing) → Progress whole whole g g
progress whole g = record { text = partly_none g refl; noises = refl }

module _ {whole left : Output (List ℕ)} {g₀ g : Listing} (p : Progress whole left g₀ g) where
  -- A frame's line is to be written next.
  text_next : (s : List ℕ) (n : ℕ) (later : Output (List ℕ)) → left ≡ join (one s n) later →
      PartlyWritten g₀ (lines_of whole.frames) (line_of s ++ lines_of later.frames) g
  unfolding join
  text_next s n later e = rw e at p.text

  -- There is room for it.
  pub progress_room : HasRoom g₀ (lines_of whole.frames) → (s : List ℕ) (n : ℕ) (later : Output (List ℕ)) → left ≡ join (one s n) later → HasRoom g (line_of s)
  progress_room room s n later e = part_room (line_of s) (lines_of later.frames) room (text_next s n later e)

  -- It is written.
  pub progress_frame :
      (s : List ℕ) (n : ℕ) (later : Output (List ℕ)) {j : ℕ} {g' : Listing} → left ≡ join (one s n) later → Adds g (line_of s) n j g' →
      Progress whole later g₀ g'
  unfolding join
  progress_frame s n later e q =
      record {
        text = partly_next (text_next s n later e) q.text;
        noises = omega (arith, p.noises, q.noise, ap (λ (o : Output (List ℕ)). o.noise) e);
      }

  -- Noise is all that was left.
  pub progress_end : (n : ℕ) {j : ℕ} {g' : Listing} → left ≡ none n → Adds g [] n j g' →
      Writes g₀ (lines_of whole.frames) g' × (g'.lines.noise ≡ g₀.lines.noise + whole.noise)
  progress_end n {g' = g'} e q = (
    partly_last (rw e at p.text) q.text,
    omega (arith, p.noises, q.noise, ap (λ (o : Output (List ℕ)). o.noise) e),
  )

  -- The noise so far is no more than all of it.
  pub progress_noise : (n : ℕ) → n ≤ left.noise → g.lines.noise + n ≤ g₀.lines.noise + whole.noise
  progress_noise n l = omega (arith, p.noises)

-- What is listed fits its buffer.
pub room_for : (m : Format) (o : Output (List ℕ)) (size most room : ℕ) → size_of m o ≤ size → size ≤ most → 3 * most ≤ room →
    length (lines_of o.frames) ≤ room
room_for m o size most room s l h = omega (arith, lines_short m o.frames)

-- No frame is longer than 517 bytes.
pub limit_most : (m : Format) → limit m ≤ 517
limit_most (Binary footer) = omega arith
limit_most (Ascii ending) = omega arith

-- Two tests hold where both do, and so does each.
and_true : (a b : Bool) → a ≡ true → b ≡ true → (a && b) ≡ true
and_true a b e f = ap₂ ◌&&◌ e f

both_true : (a b : Bool) → (a && b) ≡ true → (a ≡ true) × (b ≡ true)
both_true true b e = (refl, e)
both_true false b e = absurd (true≢false (sym e))

-- A reader whose state is sound holds no more bytes than a frame can have, and no more of them were judged.
sound_both : (r : Reader) → sound r ≡ true → (r.count ≤ limit r.format) × (r.judged ≤ r.count)
sound_both r e =
    let both = both_true (leb r.count (limit r.format)) (leb r.judged r.count) e in
    (leb-true r.count (limit r.format) both.0, leb-true r.judged r.count both.1)

pub sound_count : (r : Reader) → sound r ≡ true → r.count ≤ limit r.format
sound_count r e = (sound_both r e).0

-- So of no more bytes than it holds it is said that they were judged.
pub sound_known : (r : Reader) → length r.held ≡ 517 → sound r ≡ true → r.judged ≤ length (state_of r).held
sound_known r long e = rw length-take (omega (arith, sound_both r e, limit_most r.format))

-- A reader within both bounds is sound.
pub is_sound : (r : Reader) → r.count ≤ limit r.format → r.judged ≤ r.count → sound r ≡ true
is_sound r l m =
    and_true (leb r.count (limit r.format)) (leb r.judged r.count) (le-leb r.count (limit r.format) l) (le-leb r.judged r.count m)

-- A state holds no more bytes than its reader counts.
pub held_few : (r : Reader) → length (state_of r).held ≤ r.count
held_few r = omega (arith, length-take r.count r.held)

-- What a chunk gives has few bytes of text, and little noise.
pub drain_is_small : (r : Reader) (chunk : List ℕ) → r.count ≤ limit r.format → length chunk ≤ 65536 →
    (length (lines_of (drain (state_of r) chunk).out.frames) ≤ 198159) × ((drain (state_of r) chunk).out.noise ≤ 66053)
drain_is_small r chunk l m =
    let size = drain_is_sized (state_of r) chunk in
    let few : length (state_of r).held + length chunk ≤ 66053 = omega (arith, held_few r, limit_most r.format) in (
      room_for r.format (drain (state_of r) chunk).out (length (state_of r).held + length chunk) 66053 198159 (omega arith) few (omega arith),
      omega arith,
    )

-- So there is room for it.
pub chunk_room : (r : Reader) (chunk : List ℕ) (out : MutBor (List ℕ)) (g : Listing) → Starts out g → r.count ≤ limit r.format → length chunk ≤ 65536 →
    198159 ≤ length out.now → Room (drain (state_of r) chunk) g
chunk_room r chunk out g b l m h =
    let size = drain_is_small r chunk l m in
    record { room = omega (arith, b.len, b.size, size.0); few = omega (arith, b.noise, size.1) }

-- So has what the rule gives at a quiet.
pub quiet_room : (r : Reader) (out : List ℕ) → r.count ≤ limit r.format → 1551 ≤ length out →
    (length (lines_of (rule_after (state_of r) []).frames) ≤ length out) × ((rule_after (state_of r) []).noise ≤ 517)
quiet_room r out l h =
    let held : List ℕ = (state_of r).held ++ [] in
    let rest : List ℕ = behind_optional r.format r.follows held in
    let size = rule_is_sized r.format rest in
    let all : length held ≤ 517 = rw append-nil (omega (arith, held_few r, limit_most r.format)) in
    let few : length rest ≤ 517 = omega (arith, length-drop (absorbed r.format r.follows held) held) in
    (room_for r.format (rule_after (state_of r) []) (length rest) 517 (length out) size few h, omega arith)

-- The larger bound is binary framing's.
most_judged_lem : (m : Format) (n : ℕ) → most_judged m * n ≤ 262 * n
most_judged_lem (Binary footer) n = omega arith
most_judged_lem (Ascii ending) n = omega arith

-- Few bytes are judged over a chunk, and over none at a quiet.
pub chunk_judged : (r : Reader) (chunk : List ℕ) → r.count ≤ limit r.format → length chunk ≤ 65536 → judged_after (state_of r) chunk ≤ judged_most
chunk_judged r chunk l m =
    let few : length (state_of r).held + length chunk ≤ 66053 = omega (arith, held_few r, limit_most r.format) in
    omega (arith, state_bound (state_of r) chunk, most_judged_lem r.format (length (state_of r).held + length chunk))

-- The first call is still to come.
pub partly_drained : (s : State) (chunk : List ℕ) (g : Listing) → s.judged ≤ length s.held →
    PartlyDrained (drain s chunk) (g.lines.judged + judged_after s chunk) s chunk g g
partly_drained s chunk g known =
    record { same = refl; mark = refl; progress = progress (drain s chunk).out g; counts = refl; known = known }

-- States with equal parts.
state_is : {m m' : Format} {h h' : List ℕ} {q q' : Bool} → m ≡ m' → h ≡ h' → q ≡ q' → holding m h q (length h) ≡ holding m' h' q' (length h')
state_is em eh eq = λ i. holding (em i) (eh i) (eq i) (length (eh i))

-- A line call counts the first part of what is judged from its state on.
call_counts :
    (s : State) (rest : List ℕ) → s.judged ≤ length s.held →
    judged_after s rest ≡ line_judged s rest + judged_after (after s (line s rest)) (drop (line s rest).taken rest)
call_counts s rest known =
    let c : Called = line s rest in
    ap (judged_after s) (sym (append-nil rest))
    ∙ line_counts_lem s rest [] known
    ∙ ap (λ (t : List ℕ). line_judged s rest + judged_after (after s c) (drop c.taken t)) (append-nil rest)

-- Where n and what is judged of the bytes that stay are all that is judged from a state on, behind `before`, n is what the calls over the chunk judge.
pub all_judged :
    (s : State) (chunk : List ℕ) (before : ℕ) → s.judged ≤ length s.held → (n : ℕ) →
    n + judged_after (after_drain s (drain s chunk)) [] ≡ before + judged_after s chunk → n ≡ before + drain_judged s chunk
all_judged s chunk before known n k =
    let all : judged_after s chunk ≡ drain_judged s chunk + judged_after (after_drain s (drain s chunk)) [] =
    ap (judged_after s) (sym (append-nil chunk)) ∙ drain_counts s chunk [] known in
    omega (arith, all)

-- Behind a frame no held byte was judged.
none_judged : (s : State) (c : Called) (p : List ℕ) → c.out.frames ≡ p ∷ [] → (after s c).judged ≡ 0
none_judged s c p e = ap (λ (fs : List (List ℕ)). judged_held fs c.held) e

module _ {whole : Drained} {total : ℕ} {s : State} {rest : List ℕ} {g₀ g : Listing}
    (d : PartlyDrained whole total s rest g₀ g) (fits : Room whole g₀) where
  -- What is left begins with what the call gives.
  left_is : (o : Output (List ℕ)) → (line s rest).out ≡ o →
      (drain s rest).out ≡ join o (drain (after s (line s rest)) (drop (line s rest).taken rest)).out
  left_is o e =
      ap (λ (st : Drained). st.out) (line_drains s rest)
      ∙ ap (λ (x : Output (List ℕ)). join x (drain (after s (line s rest)) (drop (line s rest).taken rest)).out) e

  -- A frame came out: its line can be added to the listing, and behind it the calls go on.
  module _ (p : List ℕ) (more : ℕ) (e : (line s rest).out ≡ one p more) (n : ℕ) (j : n ≡ line_judged s rest) where
    pub frame_can : total ≤ judged_most → CanAdd g (line_of p) more n
    unfolding join
    frame_can h =
        let l : more ≤ (drain s rest).out.noise = omega (arith, ap (λ (o : Output (List ℕ)). o.noise) (left_is (one p more) e)) in
        record {
          room = progress_room d.progress fits.room p more _ (left_is (one p more) e);
          counts = record {
            noise = omega (arith, progress_noise d.progress more l, fits.few);
            judged = omega (arith, d.counts, call_counts s rest d.known);
          };
        }

    pub frame_step : {g' : Listing} → Adds g (line_of p) more n g' →
        PartlyDrained whole total (after s (line s rest)) (drop (line s rest).taken rest) g₀ g'
    frame_step q =
        record {
          same = sym (ap (λ (st : Drained). st.held) (line_drains s rest)) ∙ d.same;
          mark = sym (ap (λ (st : Drained). st.follows) (line_drains s rest)) ∙ d.mark;
          progress = progress_frame d.progress p more _ (left_is (one p more) e) q;
          counts = omega (arith, d.counts, q.judged, call_counts s rest d.known);
          known = omega (arith, none_judged s (line s rest) p (ap (λ (o : Output (List ℕ)). o.frames) e));
        }

    -- Fewer frames are left.
    pub frame_less :
        length (drain (after s (line s rest)) (drop (line s rest).taken rest)).out.frames < length (drain s rest).out.frames
    unfolding join
    frame_less = omega (arith, ap (λ (o : Output (List ℕ)). length o.frames) (left_is (one p more) e))

  -- None did: all is drained.
  module _ (more : ℕ) (e : (line s rest).out ≡ none more) (n : ℕ) (j : n ≡ line_judged s rest) where
    none_frames : (line s rest).out.frames ≡ []
    none_frames = ap (λ (o : Output (List ℕ)). o.frames) e

    none_rest : drop (line s rest).taken rest ≡ []
    none_rest = ap (λ (n : ℕ). drop n rest) (needs_more_is_true s rest none_frames).0 ∙ drop-length rest

    all_drained : drain s rest ≡ drained (none more) (line s rest).held (line s rest).follows
    unfolding join
    all_drained =
        let c : Called = line s rest in
        line_drains s rest
        ∙ ap₂ before e (ap (drain (after s c)) none_rest ∙ needs_more_is_drained s rest none_frames)
        ∙ (λ i. drained (output [] (add-zero more i)) c.held c.follows)

    pub none_can : total ≤ judged_most → CanCount g more n
    none_can h =
        let l : more ≤ (drain s rest).out.noise = omega (arith, ap (λ (st : Drained). st.out.noise) all_drained) in
        record {
          noise = omega (arith, progress_noise d.progress more l, fits.few);
          judged = omega (arith, d.counts, call_counts s rest d.known);
        }

    -- All is listed.
    pub none_lists :
        (s₀ : State) (r : Reader) {most : ℕ} {g' : Listing} → s.format ≡ s₀.format → Holds (after s (line s rest)) r →
        ((x : ℕ) → x + judged_after (after_drain s₀ whole) [] ≡ total → x ≡ most) → Adds g [] more n g' → ListsRest s₀ whole most g₀ r g'
    none_lists s₀ r {g' = g'} ef h most q =
        let all = progress_end d.progress more (ap (λ (st : Drained). st.out) all_drained) q in
        let left : (line s rest).held ≡ whole.held = sym (ap (λ (st : Drained). st.held) all_drained) ∙ d.same in
        let mark : (line s rest).follows ≡ whole.follows = sym (ap (λ (st : Drained). st.follows) all_drained) ∙ d.mark in
        let next : after s (line s rest) ≡ after_drain s₀ whole =
        ap (λ (fs : List (List ℕ)). holding s.format (line s rest).held (line s rest).follows (judged_held fs (line s rest).held)) none_frames
        ∙ state_is ef left mark in
        record {
          text = all.0;
          noise = all.1;
          judges = most g'.lines.judged (omega (arith, d.counts, q.judged, call_counts s rest d.known, ap₂ judged_after next none_rest));
          state = subst (λ (x : State). Holds x r) next h;
        }

-- No refusal has the number 0.
number_some : (r : Refusal) → eqb (number_of r) 0 ≡ true → ⊥
number_some Start e = true≢false (sym e)
number_some Cut e = true≢false (sym e)
number_some Length e = true≢false (sym e)
number_some Checksum e = true≢false (sym e)
number_some Footer e = true≢false (sym e)
number_some Character e = true≢false (sym e)
number_some Buffer e = true≢false (sym e)
number_some Payload e = true≢false (sym e)
number_some Chunk e = true≢false (sym e)
number_some BadState e = true≢false (sym e)

-- What an answer says of a call that was not refused, which gives c and judges so many bytes: a frame, whose payload is in the buffer's front, or none.
pub record SaysFrame (c : Called) (judged : ℕ) (buf : List ℕ) (taken noise n len : ℕ) : Type 0 where
  pub inside : len ≤ length buf
  pub out : c.out ≡ one (take len buf) noise
  pub taken_is : taken ≡ c.taken
  pub judges : n ≡ judged

pub record SaysNone (c : Called) (judged noise n : ℕ) : Type 0 where
  pub out : c.out ≡ none noise
  pub judges : n ≡ judged

abbrev pub FeedSays : Called → ℕ → List ℕ → Result FeedAnswer Refusal → Type 0
FeedSays c judged buf (Ok (FeedFrame taken noise n len began)) = SaysFrame c judged buf taken noise n len
FeedSays c judged buf (Ok (NeedsMore taken noise n)) = SaysNone c judged noise n
FeedSays c judged buf (Err r) = ⊥

abbrev pub QuietSays : Called → ℕ → List ℕ → Result QuietAnswer Refusal → Type 0
QuietSays c judged buf (Ok (QuietFrame noise n len began)) = (len ≤ length buf) × (c.out ≡ one (take len buf) noise) × (n ≡ judged)
QuietSays c judged buf (Ok (Empty noise n)) = SaysNone c judged noise n
QuietSays c judged buf (Err r) = ⊥

module _ {S : Type 0} {number : ℕ} (c : Called) {judged : ℕ} {Next : S → Type 0} {s : S} {buf : List ℕ} {s' : S} {buf' : List ℕ} (z : number ≡ 0) where
  none_refused : {v : Values} (r : Refusal) → v.number ≡ number_of r → Reports number c judged Next s buf v s' buf' → ⊥
  none_refused {v} r e h = by (eqb v.number 0) refl
    where
      by : (q : Bool) → eqb v.number 0 ≡ q → ⊥
      by true t = number_some r (ap (λ (n : ℕ). eqb n 0) (sym e) ∙ t)
      by false t = true≢false (ap (λ (n : ℕ). eqb n 0) (sym z) ∙ (h.refused t).0)

  pub feed_says : (a : Result FeedAnswer Refusal) → Reports number c judged Next s buf (feed_values_of a) s' buf' → FeedSays c judged buf' a × Next s'
  feed_says (Ok (FeedFrame taken noise n len began)) h =
      let k = h.answered refl in
      (record { inside = h.inside; out = sym k.1; taken_is = k.2; judges = h.counted refl }, k.3)
  feed_says (Ok (NeedsMore taken noise n)) h = let k = h.answered refl in (record { out = sym k.1; judges = h.counted refl }, k.3)
  feed_says (Err r) h = absurd (none_refused r refl h)

  pub quiet_says : (a : Result QuietAnswer Refusal) → Reports number c judged Next s buf (quiet_values_of a) s' buf' → QuietSays c judged buf' a × Next s'
  quiet_says (Ok (QuietFrame noise n len began)) h = let k = h.answered refl in ((h.inside, sym k.1, h.counted refl), k.3)
  quiet_says (Ok (Empty noise n)) h = let k = h.answered refl in (record { out = sym k.1; judges = h.counted refl }, k.3)
  quiet_says (Err r) h = absurd (none_refused r refl h)

-- A view's call over a chunk that is not too long is not refused.
pub view_free : (v : View) (chunk buf : List ℕ) → inside v (length chunk) ≡ true → length buf ≡ 256 → length chunk ≤ 65536 →
    view_refusal v (length buf) (length chunk) ≡ 0
view_free v chunk buf e full small = rw (e, full, le-leb (length chunk) 65536 small)

-- A view that is inside its chunk says of no more bytes than it has that they were judged.
pub inside_known : (v : View) (chunk : List ℕ) → inside v (length chunk) ≡ true → (viewed v chunk).judged ≤ length (viewed v chunk).held
inside_known v chunk e =
    let count : ℕ = v.end - v.from in
    let a = both_true (leb v.from v.end) (leb v.end (length chunk) && (leb count (limit v.format) && leb v.judged count)) e in
    let b = both_true (leb v.end (length chunk)) (leb count (limit v.format) && leb v.judged count) a.1 in
    let c = both_true (leb count (limit v.format)) (leb v.judged count) b.1 in
    rw (length-take, length-drop)
    (omega (arith, leb-true v.from v.end a.0, leb-true v.end (length chunk) b.0, leb-true v.judged count c.1))

-- Calls that go on from an equal state with an equal rest.
pub moved : {whole : Drained} {total : ℕ} {s s' : State} {t t' : List ℕ} {g₀ g : Listing} → s' ≡ s → t' ≡ t →
    PartlyDrained whole total s t g₀ g → PartlyDrained whole total s' t' g₀ g
moved {whole} {total} {g₀ = g₀} {g} e f m =
    subst₂ (λ (s : State) (t : List ℕ). PartlyDrained whole total s t g₀ g) (sym e) (sym f) m

-- The bytes after those that a view's call took.
view_rest : (v : View) (chunk : List ℕ) (v' : View) → NextView v chunk (view_call v chunk) v' →
    drop v'.end chunk ≡ drop (view_call v chunk).taken (drop v.end chunk)
view_rest v chunk v' f = ap (λ (n : ℕ). drop n chunk) f.end ∙ sym (drop-drop (view_call v chunk).taken v.end chunk)

-- The view that follows goes on with the chunk's rest.
pub view_next :
    {whole : Drained} {total : ℕ} {g₀ g : Listing} (v : View) (chunk : List ℕ) (v' : View) →
    NextView v chunk (view_call v chunk) v' →
    let c : Called = view_call v chunk in
    PartlyDrained whole total (after (viewed v chunk) c) (drop c.taken (drop v.end chunk)) g₀ g →
    PartlyDrained whole total (viewed v' chunk) (drop v'.end chunk) g₀ g
view_next v chunk v' f m = moved f.state (view_rest v chunk v' f) m

-- What is left after it is the same.
pub view_left : (v : View) (chunk : List ℕ) (v' : View) → NextView v chunk (view_call v chunk) v' →
    drain (viewed v' chunk) (drop v'.end chunk) ≡ drain (after (viewed v chunk) (view_call v chunk)) (drop (view_call v chunk).taken (drop v.end chunk))
view_left v chunk v' f = ap₂ drain f.state (view_rest v chunk v' f)

-- The reader that stands for it has the state that follows.
pub view_holds : (v : View) (chunk : List ℕ) (v' : View) (r : Reader) → NextView v chunk (view_call v chunk) v' → inside v' (length chunk) ≡ true →
    Stands v' chunk r → Holds (after (viewed v chunk) (view_call v chunk)) r
view_holds v chunk v' r f e h =
    subst (λ (s : State). Holds s r) f.state (subst (λ (q : Bool). Holds (cond q (viewed v' chunk) (holding v'.format [] false 0)) r) e h)

-- Neither is a line call, or a quiet call.
pub feed_free : (r : Reader) (rest buf : List ℕ) → sound r ≡ true → length buf ≡ 256 → length rest ≤ 65536 →
    feed_refusal r (length buf) (length rest) ≡ 0
feed_free r rest buf e full small = rw (e, full, le-leb (length rest) 65536 small)

pub quiet_free : (r : Reader) (buf : List ℕ) → sound r ≡ true → length buf ≡ 256 → quiet_refusal r (length buf) ≡ 0
quiet_free r buf e full = rw (e, full)

-- The reader that follows a line call goes on with the chunk's rest.
module _ (r : Reader) (chunk : List ℕ) (done taken : ℕ) (r' : Reader) (h : Holds (after (state_of r) (line (state_of r) (drop done chunk))) r')
    (e : taken ≡ (line (state_of r) (drop done chunk)).taken) where
  feed_rest : drop (done + taken) chunk ≡ drop (line (state_of r) (drop done chunk)).taken (drop done chunk)
  feed_rest = ap (λ (n : ℕ). drop (done + n) chunk) e ∙ sym (drop-drop (line (state_of r) (drop done chunk)).taken done chunk)

  pub feed_next :
      {whole : Drained} {total : ℕ} {g₀ g : Listing} →
      let c : Called = line (state_of r) (drop done chunk) in
      PartlyDrained whole total (after (state_of r) c) (drop c.taken (drop done chunk)) g₀ g →
      PartlyDrained whole total (state_of r') (drop (done + taken) chunk) g₀ g
  feed_next m = moved h.state feed_rest m

  pub feed_left :
      drain (state_of r') (drop (done + taken) chunk)
      ≡ drain (after (state_of r) (line (state_of r) (drop done chunk))) (drop (line (state_of r) (drop done chunk)).taken (drop done chunk))
  feed_left = ap₂ drain h.state feed_rest

-- Where nothing is held and nothing comes, the rule gives nothing.
nothing_after : (m : Format) (follows : Bool) → rule_after (holding m [] follows 0) [] ≡ nothing
unfolding rule places out_from
nothing_after m false = refl
nothing_after m true = refl

-- It judges nothing either.
nothing_judged : (m : Format) (follows : Bool) → judged_after (holding m [] follows 0) [] ≡ 0
unfolding places
nothing_judged m false = omega arith
nothing_judged m true = omega arith

-- A quiet call with a frame gives the first part of what the rule gives, and judges the first part of what it judges; an empty one gives all.
module _ (r : Reader) (r' : Reader) (h : AfterQuiet r.format (quiet (state_of r)) (quiet (state_of r)).out.frames r') where
  -- With a frame, the reader that follows has the state after the call.
  quiet_held_lem : (p : List ℕ) (more : ℕ) → (quiet (state_of r)).out ≡ one p more → Holds (after (state_of r) (quiet (state_of r))) r'
  quiet_held_lem p more e =
      let c : Called = quiet (state_of r) in
      let frames : c.out.frames ≡ p ∷ [] = ap (λ (o : Output (List ℕ)). o.frames) e in
      subst (λ (s : State). Holds s r') (ap (λ (fs : List (List ℕ)). holding r.format c.held c.follows (judged_held fs c.held)) (sym frames))
      (subst (λ (fs : List (List ℕ)). AfterQuiet r.format c fs r') frames h)

  -- It gives the rest.
  pub quiet_next : (p : List ℕ) (more : ℕ) → (quiet (state_of r)).out ≡ one p more → rule_after (state_of r) [] ≡ join (one p more) (rule_after (state_of r') [])
  quiet_next p more e =
      quiet_follows_rule (state_of r) ∙ ap₂ join e (ap (λ (s : State). rule_after s []) (sym (quiet_held_lem p more e).state))

  -- It judges the rest.
  pub quiet_next_judged :
      (p : List ℕ) (more : ℕ) → (quiet (state_of r)).out ≡ one p more →
      judged_after (state_of r) [] ≡ quiet_judged (state_of r) + judged_after (state_of r') []
  quiet_next_judged p more e =
      quiet_counts_lem (state_of r) ∙ ap (λ (s : State). quiet_judged (state_of r) + judged_after s []) (sym (quiet_held_lem p more e).state)

  pub quiet_end : (more : ℕ) → (quiet (state_of r)).out ≡ none more → (rule_after (state_of r) [] ≡ none more) × (r' ≡ new_reader r.format)
  unfolding join
  quiet_end more e =
      let c : Called = quiet (state_of r) in
      let frames : c.out.frames ≡ [] = ap (λ (o : Output (List ℕ)). o.frames) e in (
        quiet_follows_rule (state_of r)
            ∙ ap₂ join e (ap (λ (l : List ℕ). rule_after (holding r.format l c.follows 0) []) (empty_is_drained (state_of r) frames)
            ∙ nothing_after r.format c.follows)
            ∙ (λ i. output [] (add-zero more i)),
        subst (λ (fs : List (List ℕ)). AfterQuiet r.format c fs r') frames h,
      )

-- An empty quiet call judges all that is left.
pub quiet_end_judged : (s : State) (more : ℕ) → (quiet s).out ≡ none more → judged_after s [] ≡ quiet_judged s
quiet_end_judged s more e =
    let c : Called = quiet s in
    let frames : c.out.frames ≡ [] = ap (λ (o : Output (List ℕ)). o.frames) e in
    let rest : judged_after (after s c) [] ≡ 0 =
    ap₂ (λ (fs : List (List ℕ)) (h : List ℕ). judged_after (holding s.format h c.follows (judged_held fs h)) []) frames (empty_is_drained s frames)
    ∙ nothing_judged s.format c.follows in
    omega (arith, quiet_counts_lem s)

-- A call that is not refused has passed each test.
pub call_passed : (ok : Bool) (least room size : ℕ) → call_refusal ok least room size ≡ 0 → (ok ≡ true) × (least ≤ room) × (size ≤ 65536)
call_passed ok least room size = by ok (leb least room) (leb size 65536) refl refl
  where
    by : (q t u : Bool) → leb least room ≡ t → leb size 65536 ≡ u → ◌≡◌ {A = ℕ} (cond q (cond t (cond u 0 15) 13) 16) 0 →
        (q ≡ true) × (least ≤ room) × (size ≤ 65536)
    by true true true h k e = (refl, leb-true least room h, leb-true size 65536 k)
    by true true false h k e = absurd (omega arith)
    by true false u h k e = absurd (omega arith)
    by false t u h k e = absurd (omega arith)

-- One that passes them all is not refused.
pub chunk_free : (r : Reader) (room size : ℕ) → sound r ≡ true → 198159 ≤ room → size ≤ 65536 → chunk_refusal r room size ≡ 0
chunk_free r room size e h k = rw (e, le-leb 198159 room h, le-leb size 65536 k)

pub end_free : (r : Reader) (room : ℕ) → sound r ≡ true → 1551 ≤ room → end_refusal r room ≡ 0
end_free r room e h = rw (e, le-leb 1551 room h)

-- A call that is not refused.
pub answered_lists :
    {number : ℕ} (o : Output (List ℕ)) {judged : ℕ} {Next : Reader → Type 0} (r : Reader) (out : List ℕ) (a : Listed) {out' : List ℕ} → number ≡ 0 →
    values_of a.answer ≡ text_values (length (lines_of o.frames)) o.noise judged → Next a.reader → out' ≡ in_front (lines_of o.frames) out →
    Lists number o judged Next r out a out'
answered_lists o r out a z values next left =
    record { refuses = λ t. absurd (true≢false (ap (λ (n : ℕ). eqb n 0) (sym z) ∙ t)); answers = λ t. (values, next, left) }

-- What is listed from the front of a buffer on is what the call promises.
pub front_lists :
    {number judged : ℕ} {Next : Reader → Type 0} (o : Output (List ℕ)) (a : Listed) {r : Reader} {out : MutBor (List ℕ)} {g₀ g : Listing} {l : Lines} {out' : List ℕ} →
    Starts out g₀ → number ≡ 0 → Writes g₀ (lines_of o.frames) g → g.lines.noise ≡ g₀.lines.noise + o.noise → g.lines.judged ≡ judged → Next a.reader →
    a.answer ≡ Ok l → l ≡ g.lines → (out.ghost_name ≡ g.out.ghost_name → out' ≡ g.out.now) →
    Lists number o judged Next r out.now a out'
front_lists {judged = judged} o a {r} {out} {g₀} {g} {l} b z w n j next ea el e =
    let front = starts_front b w in
    let len : l.len ≡ length (lines_of o.frames) = ap (λ (x : Lines). x.len) el ∙ front.0 in
    let noise : l.noise ≡ o.noise = omega (arith, b.noise, ap (λ (x : Lines). x.noise) el) in
    let judges : l.judged ≡ judged = ap (λ (x : Lines). x.judged) el ∙ j in
    answered_lists o r out.now a z (ap values_of ea ∙ (λ i. text_values (len i) (noise i) (judges i))) next
    (e (sym (w.same_reference ∙ b.same_reference)) ∙ front.1)

-- Where some of the calls are made, all that is left has room.
pub partly_drained_room : {whole : Drained} {total : ℕ} {s : State} {rest : List ℕ} {g₀ g : Listing} →
    PartlyDrained whole total s rest g₀ g → Room whole g₀ → Room (drain s rest) g
partly_drained_room d fits =
    record { room = partly_room _ fits.room d.progress.text; few = omega (arith, d.progress.noises, fits.few) }

-- What is left is listed, and so all is.
pub partly_drained_lists :
    {whole : Drained} {total : ℕ} {s : State} {rest : List ℕ} {g₀ g g' : Listing} {most : ℕ} (s₀ : State) (r : Reader) →
    PartlyDrained whole total s rest g₀ g → s.format ≡ s₀.format →
    ((x : ℕ) → x + judged_after (after_drain s₀ whole) [] ≡ total → x ≡ most) →
    ListsRest s (drain s rest) (g.lines.judged + drain_judged s rest) g r g' → ListsRest s₀ whole most g₀ r g'
partly_drained_lists {whole} {total} {s} {rest} {g₀} {g} {g'} {most} s₀ r d ef counted h =
    let next : after_drain s (drain s rest) ≡ after_drain s₀ whole = state_is ef d.same d.mark in
    let later : judged_after s rest ≡ drain_judged s rest + judged_after (after_drain s₀ whole) [] =
    ap (judged_after s) (sym (append-nil rest)) ∙ drain_counts s rest [] d.known ∙ ap (λ (x : State). drain_judged s rest + judged_after x []) next in
    record {
      text = partly_last d.progress.text h.text;
      noise = omega (arith, h.noise, d.progress.noises);
      judges = h.judges ∙ counted (g.lines.judged + drain_judged s rest) (omega (arith, d.counts, later));
      state = subst (λ (x : State). Holds x r) next h.state;
    }

-- A reader that holds nothing, of which nothing was judged, is a view of no bytes, with its mark.
abbrev pub view_at : Reader → ℕ → View
view_at r done = record { format = r.format; from = done; end = done; follows = r.follows; judged = 0 }

pub none_viewed : (r : Reader) (chunk : List ℕ) (done : ℕ) → r.count ≡ 0 → r.judged ≡ 0 → viewed (view_at r done) chunk ≡ state_of r
none_viewed r chunk done e j =
    ap₂ (λ (l : List ℕ) (n : ℕ). holding r.format l r.follows n)
    (ap (λ (n : ℕ). take n (drop done chunk)) (sub_self done) ∙ sym (ap (λ (n : ℕ). take n r.held) e))
    (sym j)

-- It is inside the chunk.
pub none_inside : (r : Reader) (chunk : List ℕ) (done : ℕ) → done ≤ length chunk → inside (view_at r done) (length chunk) ≡ true
none_inside r chunk done l =
    simp (le-leb done done (le_refl done), le-leb done (length chunk) l, sub_self done, le-leb 0 (limit r.format) zero-le)
