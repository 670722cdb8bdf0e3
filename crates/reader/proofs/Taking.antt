-- How a line call takes bytes, by what the checks say of all bytes that it may take.
-- Assumes nothing.
use Prim.Native.Nat.{ℕ, zero, suc, ◌+◌, ◌-◌, ◌≤◌, ◌<◌, max, zero-le}
use native.Mathlib.Nat.{add-zero, zero-add, add_assoc, not-suc-le-zero, le_refl, le_trans, le_of_suc-le-suc}
use native.Mathlib.Numerals.{one-add}
use native.Mathlib.Omega.{arith}
use mathlib.Core.Path.{◌≡◌, refl, sym, ap, ap₂, ◌∙◌, subst}
use mathlib.Core.List.{List, [], ◌∷◌, ◌++◌, append-nil}
use mathlib.Core.Bool.{Bool, true, false, cond}
use lib.ListN.{length, get_or, take, drop, length-append, length-drop, take-append-drop}
use lib.Seq.{drop-append-le, drop-cons, drop-length, drop-drop, length-take-le, take-suc, take-length, take-append_seam, drop-append_seam}
use Rattle.frame.specs.Checks.{Verdict, cut, refused, frame}
use Rattle.frame.specs.Framing.{checks, judge, is_optional, is_open, absorbed}
use Rattle.frame.specs.Rule.{output, nothing, join}
use Rattle.reader.specs.Reader.{Called, called, settle_as, settle, stopped, one_more, if_frame, line_from, line_on}
use Rattle.reader.specs.Reader.{took_first, line_behind, quiet_held, holding, ended, judged_to, left_out, count_from}
use Rattle.reader.specs.Claims.{TakenIsNeeded, AsOffered, HeldThenChunk}
use Rattle.reader.specs.Scan.{judged_bytes}
use Rattle.reader.specs.Further.{SameButMark, MarkMeansNothing}
use Rattle.frame.specs.Steps.{noise_byte, handed}
use Rattle.frame.specs.declared.framing.Format.{Format}
use Rattle.frame.proofs.Lists.{drop_take}
use Rattle.frame.proofs.Framings.{frame_sized, some_used}
use Rattle.frame.proofs.Optional.{open_take, absorbed_one, absorbed_there, absorbed_front}
use Rattle.frame.proofs.Rules.{join_nothing}
use Rattle.reader.proofs.Prefixes.{enough, too_few, front_undecided, judged_there, refused_sized}

-- A call with k bytes of noise more.
abbrev pub noisier : ℕ → Called → Called
noisier k c = called c.taken (output c.out.frames (k + c.out.noise)) c.began c.held c.follows

-- Noise that came out before a byte was taken does not change the call.
noise_more :
    (st : Called) (c : Called) (fs : List (List ℕ)) →
    let st' : Called = called 0 (join noise_byte st.out) st.began st.held st.follows in
    if_frame fs (stopped st') (one_more st'.out c) ≡ noisier 1 (if_frame fs (stopped st) (one_more st.out c))
unfolding join
noise_more st c [] = rw add_assoc
noise_more st c (p ∷ ps) = refl

module _ (f : Format) where
  -- Undecided bytes stay as they are.
  settle_cut : (h : List ℕ) → judge f h ≡ cut → settle f (judge f) h ≡ called 0 nothing 0 h false
  unfolding settle
  settle_cut [] q = refl
  settle_cut (b ∷ h) q = rw q

  -- A frame is handed out.
  settle_frame :
      (h p : List ℕ) (used : ℕ) → judge f h ≡ frame used p → settle f (judge f) h ≡ called 0 (handed p) (length h) (drop used h) (is_open f used h)
  unfolding settle
  settle_frame [] p used q = let size = frame_sized f [] p used q in absurd (not-suc-le-zero (le_trans size.some size.there))
  settle_frame (b ∷ h) p used q = rw q

  -- Behind undecided bytes a further byte is taken.
  line_more : (h : List ℕ) (b : ℕ) (chunk : List ℕ) → judge f h ≡ cut → line_on f h (b ∷ chunk) ≡ took_first 1 (line_on f (h ++ (b ∷ [])) chunk)
  unfolding line_on line_from
  line_more h b chunk q =
      let c : Called = line_on f (h ++ (b ∷ [])) chunk in
      rw (settle_cut h q, one-add) (λ i. called (suc c.taken) (join_nothing c.out i) c.began c.held c.follows)

  -- A call stops at a frame.
  line_frame :
      (h p chunk : List ℕ) (used : ℕ) → judge f h ≡ frame used p →
      line_on f h chunk ≡ called 0 (handed p) (length h) (drop used h) (is_open f used h)
  unfolding line_on line_from
  line_frame h p [] used q = rw (settle_frame h p used q)
  line_frame h p (b ∷ chunk) used q = rw (settle_frame h p used q)

  -- Nor does it change a call over a whole chunk.
  noise_first :
      (st : Called) (chunk : List ℕ) →
      line_from f (called 0 (join noise_byte st.out) st.began st.held st.follows) chunk ≡ noisier 1 (line_from f st chunk)
  unfolding line_from join
  noise_first st [] = refl
  noise_first st (b ∷ chunk) = noise_more st (line_from f (settle f (judge f) (st.held ++ (b ∷ []))) chunk) st.out.frames

  -- A failed start is one byte of noise.
  line_refused :
      (b : ℕ) (h chunk : List ℕ) (judged n : ℕ) → judge f (b ∷ h) ≡ refused judged n → line_on f (b ∷ h) chunk ≡ noisier 1 (line_on f h chunk)
  unfolding line_on settle
  line_refused b h chunk judged n q = rw q (noise_first (settle f (judge f) h) chunk)

  -- The line call where the first m bytes of s are held and the others are the chunk.
  abbrev pub line_at : List ℕ → ℕ → Called
  line_at s m = line_on f (take m s) (drop m s)

  module _ (s : List ℕ) where
    -- While its front is undecided, bytes are taken.
    advance :
        (d m : ℕ) → m + d ≤ length s → ((i : ℕ) → m ≤ i → i < m + d → judge f (take i s) ≡ cut) → line_at s m ≡ took_first d (line_at s (m + d))
    advance zero m l q = rw (add-zero, zero-add)
    advance (suc d) m l q =
        let c : Called = line_at s (m + suc d) in
        let next : m + suc d ≡ suc m + d = omega arith in
        let one : line_at s m ≡ took_first 1 (line_at s (suc m)) =
        rw (drop-cons s m 0 (omega arith), take-suc s m 0 (omega arith))
        (line_more (take m s) (get_or s m 0) (drop (suc m) s) (q m (le_refl m) (omega arith)))
        in
        let rest : line_at s (suc m) ≡ took_first d (line_at s (m + suc d)) =
        rw next (advance d (suc m) (omega arith) (λ i a b. q i (omega arith) (omega arith))) in
        let count : 1 + (d + c.taken) ≡ suc d + c.taken = omega arith in
        one ∙ ap (took_first 1) rest ∙ (λ i. called (count i) c.out c.began c.held c.follows)

    -- Undecided bytes are all taken.
    pub line_cut : (m : ℕ) → m ≤ length s → judge f s ≡ cut → line_at s m ≡ called (length s - m) nothing 0 s false
    unfolding line_on line_from
    line_cut m l q =
        let all : m + (length s - m) ≡ length s = omega arith in
        advance (length s - m) m (omega arith) (λ i a b. front_undecided (checks f) s i q)
        ∙ rw (all, take-length, drop-length, settle_cut s q, add-zero)

    -- Bytes are taken up to a decision, where the first m are not enough for it.
    pub line_decided :
        (m : ℕ) → m ≤ length s →
        let far : ℕ = max m (judged_bytes (judge f s)) in
        line_at s m ≡ took_first (far - m) (line_at s far)
    line_decided m l =
        let far : ℕ = max m (judged_bytes (judge f s)) in
        let all : m + (far - m) ≡ far = omega arith in
        let inside : m + (far - m) ≤ length s = omega (arith, judged_there f s) in
        rw all at (advance (far - m) m inside (λ i a b. too_few (checks f) s i (omega arith)))

    -- A frame.
    pub line_found :
        (m used : ℕ) (p : List ℕ) → m ≤ length s → judge f s ≡ frame used p →
        line_at s m ≡ called (max m used - m) (handed p) (max m used) (take (max m used - used) (drop used s)) (is_open f used s)
    line_found m used p l q =
        let far : ℕ = max m used in
        let there : judge f (take far s) ≡ frame used p = enough (checks f) s far (rw q tt) (rw q (omega arith)) ∙ q in
        let marks : is_open f used (take far s) ≡ is_open f used s = open_take f used (some_used f s p used q) far s (omega arith) in
        let size : length (take far s) ≡ far = length-take-le far s (omega (arith, (frame_sized f s p used q).there)) in
        rw q at (line_decided m l) ∙ rw (line_frame (take far s) p (drop far s) used there, add-zero, drop_take, marks, size)

  -- A failed start with the bytes judged for it held.
  pub line_failed :
      (s : List ℕ) (m judged n : ℕ) → judge f s ≡ refused judged n → judged ≤ m → line_at s m ≡ noisier 1 (line_at (drop 1 s) (m - 1))
  line_failed s zero judged n q l = absurd (not-suc-le-zero (le_trans (refused_sized f s judged n q).some l))
  line_failed [] (suc m) judged n q l =
      let size = refused_sized f [] judged n q in absurd (not-suc-le-zero (le_trans size.some size.there))
  line_failed (b ∷ s) (suc m) judged n q l =
      let there : judge f (take (suc m) (b ∷ s)) ≡ refused judged n = enough (checks f) (b ∷ s) (suc m) (rw q tt) (rw q l) ∙ q in
      let less : suc m - 1 ≡ m = omega arith in
      rw less (line_refused b (take m s) (drop m s) judged n there)

  -- What a call over s hands out and leaves, where the first m bytes of s are held: what all of s gives when it is judged at once.
  abbrev pub Whole : List ℕ → ℕ → Called → Type 0
  Whole s m st =
      ((line_at s m).out ≡ st.out) × ((line_at s m).held ++ drop (line_at s m).taken (drop m s) ≡ st.held) × ((line_at s m).follows ≡ st.follows)
      × (m + (line_at s m).taken + st.began ≡ length s + (line_at s m).began)

  -- Undecided bytes.
  whole_cut : (s : List ℕ) (m : ℕ) → m ≤ length s → judge f s ≡ cut → Whole s m (called 0 nothing 0 s false)
  whole_cut s m l q =
      let all : m + (length s - m) ≡ length s = omega arith in
      rw (line_cut s m l q) (refl, rw (drop-drop, all, drop-length) (append-nil s), refl, omega arith)

  -- A frame.
  whole_frame :
      (s : List ℕ) (m used : ℕ) (p : List ℕ) → m ≤ length s → judge f s ≡ frame used p →
      Whole s m (called 0 (handed p) (length s) (drop used s) (is_open f used s))
  whole_frame s m used p l q =
      let far : ℕ = max m used in
      let there : m + (far - m) ≡ used + (far - used) = omega arith in
      rw (line_found s m used p l q) (refl, rw (drop-drop, there) (rw drop-drop at (take-append-drop (far - used) (drop used s))), refl, omega arith)

  -- A failed start, and what the bytes behind it give.
  whole_refused :
      (b m : ℕ) (s : List ℕ) (judged n : ℕ) (later : Called) → judge f (b ∷ s) ≡ refused judged n → m ≤ length (b ∷ s) →
      ((k : ℕ) → k ≤ length s → Whole s k later) → Whole (b ∷ s) m (called 0 (join noise_byte later.out) later.began later.held later.follows)
  unfolding join
  whole_refused b m s judged n later q l w =
      let far : ℕ = max m judged in
      let size = refused_sized f (b ∷ s) judged n q in
      let k : ℕ = far - 1 in
      let c : Called = line_at s k in
      let step : line_at (b ∷ s) m ≡ took_first (far - m) (noisier 1 c) =
      rw q at (line_decided (b ∷ s) m l) ∙ ap (took_first (far - m)) (line_failed (b ∷ s) far judged n q (omega arith)) in
      let rest = w k (omega (arith, size.there)) in
      let place : m + (far - m + c.taken) ≡ suc (k + c.taken) = omega (arith, size.some) in
      rw step (
        ap (join noise_byte) rest.0,
        rw (drop-drop, place) (ap (λ (t : List ℕ). c.held ++ t) (sym (drop-drop c.taken k s)) ∙ rest.1),
        rest.2,
        omega (arith, rest.3, place),
      )

  -- One place.
  whole_at :
      (b m : ℕ) (s : List ℕ) (v : Verdict) → judge f (b ∷ s) ≡ v → m ≤ length (b ∷ s) →
      ((k : ℕ) → k ≤ length s → Whole s k (settle f (judge f) s)) → Whole (b ∷ s) m (settle_as f v (b ∷ s) (settle f (judge f) s))
  whole_at b m s cut q l later = whole_cut (b ∷ s) m l q
  whole_at b m s (refused judged n) q l later = whole_refused b m s judged n (settle f (judge f) s) q l later
  whole_at b m s (frame used p) q l later = whole_frame (b ∷ s) m used p l q

  -- All places.
  pub whole : (s : List ℕ) (m : ℕ) → m ≤ length s → Whole s m (settle f (judge f) s)
  unfolding line_on line_from settle
  whole [] zero l = (refl, refl, refl, refl)
  whole [] (suc m) l = absurd (not-suc-le-zero l)
  whole (b ∷ s) m l = whole_at b m s (judge f (b ∷ s)) refl l (whole s)

-- The held bytes count as if the chunk began with them, where no optional byte is to come.
on_held_then_chunk :
    (f : Format) (held chunk : List ℕ) →
    let c : Called = line_on f held chunk in
    let all : Called = line_on f [] (held ++ chunk) in AsOffered (length held) c chunk all (held ++ chunk)
on_held_then_chunk f held chunk =
    let s : List ℕ = held ++ chunk in
    let here : Whole f s (length held) (settle f (judge f) s) = whole f s (length held) (rw length-append (omega arith)) in
    let front : Whole f s 0 (settle f (judge f) s) = whole f s 0 zero-le in
    let split = rw (take-append_seam held chunk, drop-append_seam held chunk) at here in
    record {
      out = split.0 ∙ sym front.0;
      rest = split.1 ∙ sym front.1;
      follows = split.2 ∙ sym front.2;
      index = omega (arith, split.3, front.3);
    }

-- And behind a mark.
then_chunk_lem :
    (f : Format) (follows : Bool) (held chunk : List ℕ) →
    let c : Called = line_behind f follows held chunk in
    let all : Called = line_behind f follows [] (held ++ chunk) in AsOffered (length held) c chunk all (held ++ chunk)
then_chunk_lem f follows [] chunk = record { out = refl; rest = refl; follows = refl; index = omega arith }
then_chunk_lem f follows (b ∷ h) chunk =
    let n : ℕ = absorbed f follows (b ∷ h) in
    let c : Called = line_on f (drop n (b ∷ h)) chunk in
    let all : Called = line_on f [] (drop n (b ∷ h) ++ chunk) in
    let same : n ≡ absorbed f follows ((b ∷ h) ++ chunk) = absorbed_front f follows b h (h ++ chunk) in
    let split : drop n ((b ∷ h) ++ chunk) ≡ drop n (b ∷ h) ++ chunk = drop-append-le n (b ∷ h) chunk (absorbed_there f follows (b ∷ h)) in
    let whole : Called = took_first n (line_on f [] (drop n ((b ∷ h) ++ chunk))) in
    let is : whole ≡ line_behind f follows [] ((b ∷ h) ++ chunk) = ap (λ (k : ℕ). took_first k (line_on f [] (drop k ((b ∷ h) ++ chunk)))) same in
    let k = on_held_then_chunk f (drop n (b ∷ h)) chunk in
    subst
    (λ (x : Called). AsOffered (length (b ∷ h)) c chunk x ((b ∷ h) ++ chunk))
    is
    (rw split (record {
      out = k.out;
      rest = k.rest ∙ ap (λ (t : List ℕ). all.held ++ t) (ap (drop all.taken) (sym split) ∙ drop-drop all.taken n ((b ∷ h) ++ chunk));
      follows = k.follows;
      index = omega (arith, k.index, length-drop n (b ∷ h), absorbed_there f follows (b ∷ h));
    }))

pub held_then_chunk : HeldThenChunk
held_then_chunk s chunk = then_chunk_lem s.format s.follows s.held chunk

-- Where no byte is optional, none is absorbed.
none_follows : (m : Format) (s : List ℕ) → ((b : ℕ) → is_optional m b ≡ false) → absorbed m true s ≡ 0
none_follows m [] e = refl
none_follows m (b ∷ s) e = ap (λ (q : Bool). cond q 1 0) (e b)

same_calls : {a b : Called} → a ≡ b → SameButMark a b
same_calls e =
    record {
      taken = ap (λ (c : Called). c.taken) e;
      out = ap (λ (c : Called). c.out) e;
      began = ap (λ (c : Called). c.began) e;
      held = ap (λ (c : Called). c.held) e;
    }

-- So a line call is the same with the mark and without.
same_line :
    (m : Format) (h chunk : List ℕ) → ((b : ℕ) → is_optional m b ≡ false) → SameButMark (line_behind m true h chunk) (line_behind m false h chunk)
same_line m [] [] e = record { taken = refl; out = refl; began = refl; held = refl }
same_line m [] (b ∷ chunk) e = same_calls (ap (λ (n : ℕ). took_first n (line_on m [] (drop n (b ∷ chunk)))) (none_follows m (b ∷ chunk) e))
same_line m (b ∷ h) chunk e = same_calls (ap (λ (n : ℕ). line_on m (drop n (b ∷ h)) chunk) (none_follows m (b ∷ h) e))

-- And it judges as many bytes.
same_count :
    (m : Format) (bytes : List ℕ) (judged : ℕ) → ((b : ℕ) → is_optional m b ≡ false) → (count : List ℕ → ℕ) →
    count_from (holding m [] true judged) count bytes ≡ count_from (holding m [] false judged) count bytes
same_count m bytes judged e count =
    ap (λ (n : ℕ). count (drop n bytes) - left_out m n judged (drop n bytes)) (none_follows m bytes e)

pub mark_means_nothing : (m : Format) → MarkMeansNothing m
mark_means_nothing m e h judged chunk =
    record {
      at_line = same_line m h chunk e;
      line_counts = same_count m (h ++ chunk) judged e (judged_to m (judge m));
      at_quiet = ap (λ (n : ℕ). quiet_held m (drop n h)) (none_follows m h e);
      quiet_counts = same_count m h judged e (judged_to m (λ x. ended (judge m x)));
    }

-- A call begun with st that took more than n bytes hands out no frame of the first n.
needed_step :
    (st : Called) (c front : Called) (n : ℕ) (fs : List (List ℕ)) → st.out.frames ≡ fs → (n < c.taken → front.out.frames ≡ []) →
    suc n < (if_frame fs (stopped st) (one_more st.out c)).taken → (if_frame fs (stopped st) (one_more st.out front)).out.frames ≡ []
unfolding join
needed_step st c front n [] e later h =
    ap₂ (λ (x y : List (List ℕ)). x ++ y) e (later (omega arith))
needed_step st c front n (p ∷ ps) e later h = absurd (not-suc-le-zero h)

needed_first : (st : Called) (c : Called) (fs : List (List ℕ)) → 0 < (if_frame fs (stopped st) (one_more st.out c)).taken → fs ≡ []
needed_first st c [] h = refl
needed_first st c (p ∷ ps) h = absurd (not-suc-le-zero h)

needed_from : (f : Format) (st : Called) (chunk : List ℕ) (n : ℕ) → n < (line_from f st chunk).taken → (line_from f st (take n chunk)).out.frames ≡ []
unfolding line_from
needed_from f st [] n h = absurd (not-suc-le-zero h)
needed_from f st (b ∷ chunk) zero h =
    needed_first st (line_from f (settle f (judge f) (st.held ++ (b ∷ []))) chunk) st.out.frames h
needed_from f st (b ∷ chunk) (suc n) h =
    let st' : Called = settle f (judge f) (st.held ++ (b ∷ [])) in
    needed_step st (line_from f st' chunk) (line_from f st' (take n chunk)) n st.out.frames refl (needed_from f st' chunk n) h

-- A call where no optional byte is to come takes no byte that it can do without.
on_needed : (f : Format) (held chunk : List ℕ) (n : ℕ) → n < (line_on f held chunk).taken → (line_on f held (take n chunk)).out.frames ≡ []
unfolding line_on
on_needed f held chunk n h = needed_from f (settle f (judge f) held) chunk n h

-- Where k bytes were taken first, one or none.
first_needed :
    (f : Format) (b k n : ℕ) (chunk : List ℕ) → k ≤ 1 → suc n < k + (line_on f [] (drop k (b ∷ chunk))).taken →
    (line_on f [] (drop k (b ∷ take n chunk))).out.frames ≡ []
first_needed f b zero n chunk l h = on_needed f [] (b ∷ chunk) (suc n) (omega arith)
first_needed f b (suc zero) n chunk l h = on_needed f [] chunk n (omega arith)
first_needed f b (suc (suc k)) n chunk l h = absurd (not-suc-le-zero (le_of_suc-le-suc l))

-- A line call takes no byte that it can do without.
needed :
    (f : Format) (follows : Bool) (held chunk : List ℕ) (n : ℕ) → n < (line_behind f follows held chunk).taken →
    (line_behind f follows held (take n chunk)).out.frames ≡ []
needed f follows [] [] n h = absurd (not-suc-le-zero h)
needed f follows [] (b ∷ chunk) zero h = refl
needed f follows [] (b ∷ chunk) (suc n) h =
    let k : ℕ = absorbed f follows (b ∷ chunk) in
    ap (λ (i : ℕ). (line_on f [] (drop i (b ∷ take n chunk))).out.frames) (absorbed_front f follows b (take n chunk) chunk)
    ∙ first_needed f b k n chunk (absorbed_one f follows (b ∷ chunk)) h
needed f follows (b ∷ h) chunk n l = on_needed f (drop (absorbed f follows (b ∷ h)) (b ∷ h)) chunk n l

pub taken_is_needed : TakenIsNeeded
taken_is_needed s chunk n h = needed s.format s.follows s.held chunk n h
