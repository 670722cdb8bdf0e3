-- Laws of runs: what the calls over a segment's chunks print together, and that such calls exist for every cut.
-- Assumes nothing.
use Prim.Native.Nat.{ℕ, zero, suc, ◌+◌, ◌-◌, ◌≤◌, ◌<◌, zero-le}
use native.Mathlib.Nat.{zero-add, le_refl, not-suc-le-zero, le_of_suc-le-suc}
use native.Mathlib.Omega.{arith}
use mathlib.Core.Logic.{◌⊎◌, ⊎_elim}
use mathlib.Core.Path.{◌≡◌, refl, sym, ap, ap₂, ◌∙◌, subst}
use mathlib.Core.List.{List, [], ◌∷◌, ◌++◌, append_assoc, flatten}
use mathlib.Core.Bool.{Bool, true, false, true≢false}
use borrow.Author.Tests.{le-leb}
use lib.Dec.{leb, eqb}
use lib.ListN.{length, take, drop, replicate, length-append, length-replicate}
use lib.Seq.{take-append_seam, drop-length}
use Rattle.frame.specs.Checks.{cut}
use Rattle.frame.specs.Framing.{judge, limit, in_front}
use Rattle.frame.specs.Rule.{Output, join}
use Rattle.reader.specs.Reader.{State, holding, Called, line, after, state_of, Holds, new_reader, sound}
use Rattle.frame.specs.Single.{Writing, writing_of}
use Rattle.reader.specs.Drain.{Drained, drain, after_drain, rule_after, judged_after, drain_judged}
use Rattle.frame.specs.Elements.{All}
use Rattle.frame.specs.declared.framing.Format.{Format}
use Rattle.reader.specs.declared.reader.Reader.{Reader}
use Rattle.std.specs.Prelude.{Ok}
use Rattle.reader.proofs.Theorems.{line_drains, needs_more_is_drained, needs_more_is_true, drain_follows_rule, drain_counts}
use Rattle.frame.proofs.Theorems.{undecided_is_short}
use Rattle.listing.specs.Line.{lines_of, noise_line, line_of}
use Rattle.listing.specs.Listing.{ListValues, values_of, Lists, ListsChunk, ListsQuiet, chunk_refusal}
use Rattle.listing.specs.Claims.{given, NotRefused, Totals, Run, chunk_listed, quiet_listed, HasRun, AnyCutIsListed, RunIsListing, RunExists}
use Rattle.listing.specs.Claims.{judged_by_run, RunCounts, ChunkStaysSound, printed}
use Rattle.listing.specs.declared.list.Listed.{Listed}
use Rattle.listing.proofs.Chunks.{answered_lists, chunk_free, end_free, is_sound}

-- What the chunks and the quiet give is what the rule gives over all.
given_is : (s : State) (chunks : List (List ℕ)) → given s chunks ≡ rule_after s (flatten chunks)
unfolding flatten
given_is s [] = refl
given_is s (chunk ∷ chunks) =
    let d : Drained = drain s chunk in
    ap (join d.out) (given_is (after_drain s d) chunks) ∙ sym (drain_follows_rule s chunk (flatten chunks))

pub any_cut_is_listed : AnyCutIsListed
any_cut_is_listed m chunks = ap printed (given_is (holding m [] false 0) chunks)

-- What an answer says: its text, its noise, the bytes judged, and the state that follows.
abbrev Says : Output (List ℕ) → ℕ → (Reader → Type 0) → Listed → List ℕ → Type 0
Says o judged Next a out' =
    let v : ListValues = values_of a.answer in
    (take v.len out' ≡ lines_of o.frames) × (v.noise ≡ o.noise) × Next a.reader × (v.judged ≡ judged)

-- A call that is not refused keeps the promise of an answer.
kept :
    {number : ℕ} (o : Output (List ℕ)) {judged : ℕ} {Next : Reader → Type 0} {r : Reader} {out : List ℕ} (a : Listed) {out' : List ℕ} →
    Lists number o judged Next r out a out' → NotRefused (values_of a.answer) → Says o judged Next a out'
kept {number} o {judged} {Next} {r} {out} a {out'} p h = by (eqb number 0) refl
  where
    by : (q : Bool) → eqb number 0 ≡ q → Says o judged Next a out'
    by true e =
        let v = p.answers e in (
          rw (ap (λ (x : ListValues). x.len) v.0, v.2) (take-append_seam (lines_of o.frames) (drop (length (lines_of o.frames)) out)),
          ap (λ (x : ListValues). x.noise) v.0,
          v.1,
          ap (λ (x : ListValues). x.judged) v.0,
        )
    by false e =
        let v = p.refuses e in
        absurd (true≢false (sym h ∙ ap (λ (x : ListValues). eqb x.number 0) v.0 ∙ e))

-- What joined outputs print is what each prints.
lines_join : (ps qs : List (List ℕ)) → lines_of (ps ++ qs) ≡ lines_of ps ++ lines_of qs
lines_join [] qs = refl
lines_join (p ∷ ps) qs = ap (λ (l : List ℕ). line_of p ++ l) (lines_join ps qs) ∙ sym (append_assoc (line_of p) (lines_of ps) (lines_of qs))

-- The last call prints the line of the noise.
total_is : {noise : ℕ} {shown : List ℕ} → Totals noise shown → shown ≡ noise_line noise
total_is {noise} {shown} t = sym t.shows ∙ by (leb 27 (length t.out)) refl
  where
    by : (q : Bool) → leb 27 (length t.out) ≡ q → take (writing_of t.answer).len t.out' ≡ noise_line noise
    by true e =
        let len : (writing_of t.answer).len ≡ length (noise_line noise) = ap (λ (w : Writing). w.len) (rw e at t.lists.answers) in
        let left : t.out' ≡ in_front (noise_line noise) t.out = rw e at t.lists.leaves in
        rw (len, left) (take-append_seam (noise_line noise) (drop (length (noise_line noise)) t.out))
    by false e =
        let h : (writing_of t.answer).number ≡ 13 = ap (λ (w : Writing). w.number) (rw e at t.lists.answers) in
        absurd (let z : ⊥ = omega (arith, t.answered) in z)

-- What a run prints from a state and a count of noise on: what its chunks and the quiet give, and the line of all the noise.
abbrev shown_from : State → ℕ → List (List ℕ) → List ℕ
shown_from s noise chunks = lines_of (given s chunks).frames ++ noise_line (noise + (given s chunks).noise)

-- It prints that.
run_is : {r : Reader} {noise : ℕ} {chunks : List (List ℕ)} {shown : List ℕ} → Run r noise chunks shown → shown ≡ shown_from (state_of r) noise chunks
unfolding join
run_is (chunk_listed {r} {noise} {chunks} {shown} chunk out out' a p h later) =
    let d : Drained = drain (state_of r) chunk in
    let g : Output (List ℕ) = given (after_drain (state_of r) d) chunks in
    let k = kept d.out a p h in
    let n : (noise + (values_of a.answer).noise) + g.noise ≡ noise + (d.out.noise + g.noise) = omega (arith, k.1) in
    let rest : shown ≡ lines_of g.frames ++ noise_line (noise + (d.out.noise + g.noise)) =
    run_is later
    ∙ ap (λ (s : State). shown_from s (noise + (values_of a.answer).noise) chunks) k.2.state
    ∙ ap (λ (m : ℕ). lines_of g.frames ++ noise_line m) n in
    ap₂ ◌++◌ k.0 rest
    ∙ sym (append_assoc (lines_of d.out.frames) (lines_of g.frames) (noise_line (noise + (d.out.noise + g.noise))))
    ∙ ap (λ (l : List ℕ). l ++ noise_line (noise + (d.out.noise + g.noise))) (sym (lines_join d.out.frames g.frames))
run_is (quiet_listed {r} {noise} out out' a p h t) =
    let k = kept (rule_after (state_of r) []) a p h in
    ap₂ ◌++◌ k.0 (total_is t ∙ ap (λ (n : ℕ). noise_line (noise + n)) k.1)

pub run_is_listing : RunIsListing
run_is_listing m chunks shown run =
    let g : Output (List ℕ) = given (holding m [] false 0) chunks in
    run_is run
    ∙ ap (λ (n : ℕ). lines_of g.frames ++ noise_line n) (zero-add g.noise)
    ∙ any_cut_is_listed m chunks

-- A state says of no more bytes than it holds that they were judged.
abbrev Known : Reader → Type 0
Known r = r.judged ≤ length (state_of r).held

-- A run judges what the rule does of the bytes held and those of its chunks.
run_judges :
    {r : Reader} {noise : ℕ} {chunks : List (List ℕ)} {shown : List ℕ} (run : Run r noise chunks shown) → Known r →
    judged_by_run run ≡ judged_after (state_of r) (flatten chunks)
unfolding flatten
run_judges (chunk_listed {r} {noise} {chunks} {shown} chunk out out' a p h later) l =
    let d : Drained = drain (state_of r) chunk in
    let k = kept d.out a p h in
    let known : Known a.reader = subst (λ (s : State). s.judged ≤ length s.held) (sym k.2.state) (le_refl (length d.held)) in
    ap₂ ◌+◌ k.3 (run_judges later known ∙ ap (λ (s : State). judged_after s (flatten chunks)) k.2.state)
    ∙ sym (drain_counts (state_of r) chunk (flatten chunks) l)
run_judges (quiet_listed {r} out out' a p h t) l = (kept (rule_after (state_of r) []) a p h).3

pub run_counts : RunCounts
run_counts m chunks shown run = run_judges run zero-le ∙ omega arith

-- What a line call leaves of its bytes is drained where no frame came out; otherwise fewer frames are left.
abbrev Left : Format → List ℕ → Type 0
Left m rest = (rest ≡ []) ⊎ (judge m rest ≡ cut)

left_by : (n : ℕ) (s : State) (chunk : List ℕ) → length (drain s chunk).out.frames ≤ n → (fs : List (List ℕ)) → (line s chunk).out.frames ≡ fs →
    ((s' : State) (t : List ℕ) → s'.format ≡ s.format → length (drain s' t).out.frames < n → Left s.format (drain s' t).held) →
    Left s.format (drain s chunk).held
unfolding join
left_by n s chunk l [] e more =
    let c : Called = line s chunk in
    let t = needs_more_is_true s chunk e in
    let over : drop c.taken chunk ≡ [] = ap (λ (k : ℕ). drop k chunk) t.0 ∙ drop-length chunk in
    let rest : (drain s chunk).held ≡ c.held =
    ap (λ (st : Drained). st.held) (line_drains s chunk)
    ∙ ap (λ (x : List ℕ). (drain (after s c) x).held) over
    ∙ ap (λ (st : Drained). st.held) (needs_more_is_drained s chunk e) in
    subst (Left s.format) (sym rest) t.1
left_by n s chunk l (p ∷ ps) e more =
    let c : Called = line s chunk in
    let later : Drained = drain (after s c) (drop c.taken chunk) in
    let count : length (drain s chunk).out.frames ≡ length c.out.frames + length later.out.frames =
    ap (λ (st : Drained). length st.out.frames) (line_drains s chunk) ∙ length-append c.out.frames later.out.frames in
    let some : length c.out.frames ≡ suc (length ps) = ap length e in
    subst (Left s.format) (sym (ap (λ (st : Drained). st.held) (line_drains s chunk)))
    (more (after s c) (drop c.taken chunk) refl (omega arith))

-- Bytes that are left are undecided, or none.
left : (n : ℕ) (s : State) (chunk : List ℕ) → length (drain s chunk).out.frames ≤ n → Left s.format (drain s chunk).held
left zero s chunk l = left_by zero s chunk l (line s chunk).out.frames refl (λ s' t e h. absurd (not-suc-le-zero h))
left (suc n) s chunk l =
    left_by (suc n) s chunk l (line s chunk).out.frames refl
    (λ s' t e h. subst (λ (m : Format). Left m (drain s' t).held) e (left n s' t (le_of_suc-le-suc h)))

-- They are within the limit.
left_short : (s : State) (chunk : List ℕ) → length (drain s chunk).held ≤ limit s.format
left_short s chunk =
    ⊎_elim
    (λ (h : (drain s chunk).held ≡ []). rw h zero-le)
    (λ (h : judge s.format (drain s chunk).held ≡ cut). omega (arith, undecided_is_short s.format (drain s chunk).held h))
    (left (length (drain s chunk).out.frames) s chunk (le_refl _))

pub chunk_stays_sound : ChunkStaysSound
chunk_stays_sound r chunk out a out' p l = by (eqb (chunk_refusal r (length out) (length chunk)) 0) refl
  where
    by : (q : Bool) → eqb (chunk_refusal r (length out) (length chunk)) 0 ≡ q → (a.reader.format ≡ r.format) × (sound a.reader ≡ true)
    by true e =
        let h = (p.answers e).1 in
        let format : a.reader.format ≡ r.format = ap (λ (s : State). s.format) h.state in
        let few : a.reader.count ≤ limit r.format = omega (arith, h.count, left_short (state_of r) chunk) in
        (format, is_sound a.reader (rw format few) (omega (arith, h.count, ap (λ (s : State). s.judged) h.state)))
    by false e = let h = (p.refuses e).1 in (ap (λ (x : Reader). x.format) h, ap sound h ∙ l)

-- A reader with this state.
abbrev reader_of : State → Reader
reader_of s =
    record {
      format = s.format;
      held = s.held ++ replicate (517 - length s.held) 0;
      count = length s.held;
      follows = s.follows;
      judged = s.judged;
    }

reader_holds : (s : State) → Holds s (reader_of s)
reader_holds s =
    record {
      state = ap (λ (l : List ℕ). holding s.format l s.follows s.judged) (take-append_seam s.held (replicate (517 - length s.held) 0));
      count = refl;
    }

-- A buffer of this length.
buffer : ℕ → List ℕ
buffer n = replicate n 0

buffer_room : (n : ℕ) → n ≤ length (buffer n)
unfolding buffer
buffer_room n = rw length-replicate (le_refl n)

-- The answer of a call that lists o and judges so many bytes.
abbrev lines_answer : Output (List ℕ) → ℕ → Reader → Listed
lines_answer o judged r = record { reader = r; answer = Ok (record { len = length (lines_of o.frames); noise = o.noise; judged = judged }) }

-- From a sound state a chunk can be listed, and a quiet: there are answers that keep the promises.
module _ (r : Reader) (l : sound r ≡ true) where
  abbrev chunk_buffer : List ℕ
  chunk_buffer = buffer 198159

  abbrev after_chunk : List ℕ → Listed
  after_chunk chunk =
      let d : Drained = drain (state_of r) chunk in lines_answer d.out (drain_judged (state_of r) chunk) (reader_of (after_drain (state_of r) d))

  chunk_listed_lem : (chunk : List ℕ) → length chunk ≤ 65536 →
      ListsChunk r chunk chunk_buffer (after_chunk chunk) (in_front (lines_of (drain (state_of r) chunk).out.frames) chunk_buffer)
  chunk_listed_lem chunk short =
      let d : Drained = drain (state_of r) chunk in
      answered_lists d.out r chunk_buffer (after_chunk chunk) (chunk_free r (length chunk_buffer) (length chunk) l (buffer_room 198159) short) refl
      (reader_holds (after_drain (state_of r) d)) refl

  abbrev after_quiet : Listed
  after_quiet = lines_answer (rule_after (state_of r) []) (judged_after (state_of r) []) (new_reader r.format)

  quiet_listed_lem : ListsQuiet r (buffer 1551) after_quiet (in_front (lines_of (rule_after (state_of r) []).frames) (buffer 1551))
  quiet_listed_lem =
      answered_lists (rule_after (state_of r) []) r (buffer 1551) after_quiet (end_free r (length (buffer 1551)) l (buffer_room 1551)) refl refl refl

-- The total can be listed.
total_listed : (noise : ℕ) → Totals noise (noise_line noise)
total_listed noise =
    let room : leb 27 (length (buffer 27)) ≡ true = le-leb 27 (length (buffer 27)) (buffer_room 27) in
    record {
      out = buffer 27;
      out' = in_front (noise_line noise) (buffer 27);
      answer = Ok (length (noise_line noise));
      lists = record { answers = rw room; leaves = rw room };
      answered = refl;
      shows = take-append_seam (noise_line noise) (drop (length (noise_line noise)) (buffer 27));
    }

-- A run from any sound state on.
has_run : (r : Reader) (noise : ℕ) (chunks : List (List ℕ)) → sound r ≡ true → All (λ chunk. length chunk ≤ 65536) chunks → HasRun r noise chunks
has_run r noise [] l short =
    let o : Output (List ℕ) = rule_after (state_of r) [] in
    record { shown = _; run = quiet_listed (buffer 1551) _ (after_quiet r l) (quiet_listed_lem r l) refl (total_listed (noise + o.noise)) }
has_run r noise (chunk ∷ chunks) l short =
    let a : Listed = after_chunk r l chunk in
    let p = chunk_listed_lem r l chunk short.0 in
    let later : HasRun a.reader (noise + (values_of a.answer).noise) chunks =
    has_run a.reader (noise + (values_of a.answer).noise) chunks (chunk_stays_sound r chunk (chunk_buffer r l) a _ p l).1 short.1 in
    record { shown = _; run = chunk_listed chunk (chunk_buffer r l) _ a p refl later.run }

pub run_exists : RunExists
run_exists m chunks short = has_run (new_reader m) 0 chunks (is_sound (new_reader m) zero-le zero-le) short
