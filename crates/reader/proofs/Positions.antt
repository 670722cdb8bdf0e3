-- Where frames began, call by call: each call says of its frame what the rule gives from its state on, and later calls say the rest.
-- Assumes nothing.
use Prim.Native.Nat.{ℕ, zero, suc, pred, ◌+◌, ◌-◌, ◌≤◌, max, zero-le}
use native.Mathlib.Nat.{add_assoc, le_trans, not-suc-le-zero}
use native.Mathlib.Omega.{arith}
use mathlib.Core.Bool.{Bool, false}
use mathlib.Core.List.{List, [], ◌∷◌, ◌++◌, map, append_assoc, append-nil}
use mathlib.Core.Path.{◌≡◌, refl, sym, ap, ap₂, ◌∙◌, subst}
use lib.ListN.{length, take, drop, length-append, length-drop, take-append-drop}
use lib.Seq.{length-take-le, take-append_seam, drop-append-le, drop-append_seam, drop-append-add, drop-drop}
use Rattle.frame.specs.Checks.{Verdict, cut, refused, frame}
use Rattle.frame.specs.Framing.{judge, judged_as, judged_at, read, is_open, absorbed, behind_optional}
use Rattle.frame.specs.Rule.{nothing, join, on_by, places}
use Rattle.reader.specs.Reader.{Called, called, settle_as, settle, line_from, line_on, took_first, line_behind, ended, quiet_held}
use Rattle.reader.specs.Positions.{Position, position, position_at, positions_from}
use Rattle.frame.specs.Steps.{pass_after, noise_byte, handed}
use Rattle.frame.specs.declared.framing.Format.{Format}
use Rattle.frame.proofs.Framings.{frame_sized}
use Rattle.reader.proofs.Prefixes.{refused_sized}
use Rattle.frame.proofs.Optional.{behind_frame, read_judged, no_frame_read, open_append, absorbed_there, absorbed_front}
use Rattle.frame.proofs.Shapes.{NoFrame, judge_stands}
use Rattle.reader.proofs.Taking.{noisier, line_at, line_cut, line_decided, line_found, line_failed}
use Rattle.reader.proofs.RuleCounts.{places_pass, cut_judged}
use Rattle.reader.proofs.Counting.{judged_at_there}

module _ (f : Format) where
  -- What the rule gives of s from the index `place` on, where bytes were judged up to `reach` before.
  abbrev pub positions_in : ℕ → ℕ → List ℕ → List Position
  positions_in reach place s = positions_from f reach place (places f 0 s)

  -- The same behind an optional byte, where one may follow.
  abbrev pub positions_behind : Bool → ℕ → ℕ → List ℕ → List Position
  positions_behind follows reach place s = let n : ℕ = absorbed f follows s in positions_in reach (place + n) (drop n s)

  -- Where no frame stands, the rule goes on with the next byte.
  positions_failed :
      (reach place b : ℕ) (s : List ℕ) → NoFrame (judge f (b ∷ s)) →
      positions_in reach place (b ∷ s) ≡ positions_in (max reach (place + judged_at f (b ∷ s))) (place + 1) s
  unfolding places positions_from
  positions_failed reach place b s h = by_verdict (read f (b ∷ s)) (no_frame_read f (b ∷ s) h)
    where
      far : ℕ
      far = max reach (place + judged_at f (b ∷ s))

      by_verdict :
          (v : Verdict) → NoFrame v →
          position_at v place far ++ positions_from f far (place + on_by v) (places f (pass_after v) s) ≡ positions_from f far (place + 1) (places f 0 s)
      by_verdict cut h = refl
      by_verdict (refused judged n) h = refl
      by_verdict (frame used p) h = absurd h

  -- A frame is counted back from the furthest byte judged, and the rule goes on behind it and an optional byte.
  positions_frame :
      (reach place used : ℕ) (p s : List ℕ) → judge f s ≡ frame used p →
      let far : ℕ = max reach (place + used) in
      positions_in reach place s ≡ position p far (far - place) ∷ positions_behind (is_open f used s) far (place + used) (drop used s)
  unfolding places positions_from
  positions_frame reach place used p [] e = absurd (not-suc-le-zero (le_trans (frame_sized f [] p used e).some (frame_sized f [] p used e).there))
  positions_frame reach place zero p (b ∷ s) e = absurd (not-suc-le-zero (frame_sized f (b ∷ s) p zero e).some)
  positions_frame reach place (suc used) p (b ∷ s) e =
      let far : ℕ = max reach (place + suc used) in
      let n : ℕ = behind_frame f (b ∷ s) (suc used) in
      let pass : pred (suc used + n) ≡ used + n = omega arith in
      ap₂
      (λ (v w : Verdict).
      position_at w place (max reach (place + judged_as v (b ∷ s)))
      ++ positions_from f (max reach (place + judged_as v (b ∷ s))) (place + on_by w) (places f (pass_after w) s))
      e
      (read_judged f (b ∷ s) (suc used) p e)
      ∙ ap₂ (λ (k : ℕ) (l : List (List ℕ)). position p far (far - place) ∷ positions_from f far k l)
      (sym (add_assoc place (suc used) n))
      (ap (λ (k : ℕ). places f k s) pass ∙ places_pass f (used + n) s ∙ ap (places f 0) (sym (drop-drop n used s)))

  -- It does not matter how far bytes were judged before, where they are judged further at the first place.
  positions_reach :
      (reach reach' place : ℕ) (s : List ℕ) → reach ≤ reach' → (1 ≤ length s → reach' ≤ place + judged_at f s) →
      positions_in reach place s ≡ positions_in reach' place s
  unfolding places positions_from
  positions_reach reach reach' place [] l k = refl
  positions_reach reach reach' place (b ∷ s) l k =
      let most : reach' ≤ place + judged_at f (b ∷ s) = k (omega arith) in
      let same : max reach (place + judged_at f (b ∷ s)) ≡ max reach' (place + judged_at f (b ∷ s)) = omega arith in
      ap (λ (far : ℕ). position_at (read f (b ∷ s)) place far ++ positions_from f far (place + on_by (read f (b ∷ s))) (places f (pass_after (read f (b ∷ s))) s)) same

  -- A call over s, whose first byte has the index `place` and whose first m bytes were held, leads what the rule gives of s and the bytes behind it: it says so
  -- of its frame, and the rule gives the rest from what it holds on.
  record Leads (s : List ℕ) (m : ℕ) (more : List ℕ) (place : ℕ) (c : Called) : Type 0 where
    few : length c.held ≤ m + c.taken
    same :
        let from : ℕ = place + (m + c.taken) in
        positions_in (place + m) place (s ++ more)
        ≡ map (λ p. position p from c.began) c.out.frames
        ++ positions_behind c.follows from (from - length c.held) (c.held ++ drop (m + c.taken) (s ++ more))

  -- Undecided bytes.
  leads_cut :
      (s : List ℕ) (m : ℕ) (more : List ℕ) (place : ℕ) → m ≤ length s → judge f s ≡ cut → Leads s m more place (called (length s - m) nothing 0 s false)
  leads_cut s m more place l q =
      let all : m + (length s - m) ≡ length s = omega arith in
      let reach : place + length s ≡ place + (m + (length s - m)) = omega arith in
      let here : place ≡ place + (m + (length s - m)) - length s + 0 = omega arith in
      let bytes : s ++ more ≡ s ++ drop (m + (length s - m)) (s ++ more) =
      ap (λ (t : List ℕ). s ++ t) (sym (ap (λ (k : ℕ). drop k (s ++ more)) all ∙ drop-append_seam s more)) in
      record {
        few = omega arith;
        same =
            positions_reach (place + m) (place + length s) place (s ++ more) (omega arith) (λ some. omega (arith, cut_judged f s more q))
            ∙ (λ i. positions_in (reach i) (here i) (bytes i));
      }

  -- A frame.
  leads_frame :
      (s : List ℕ) (m : ℕ) (more : List ℕ) (place used : ℕ) (p : List ℕ) → m ≤ length s → judge f s ≡ frame used p →
      Leads s m more place (called (max m used - m) (handed p) (max m used) (take (max m used - used) (drop used s)) (is_open f used s))
  leads_frame s m more place used p l q =
      let far : ℕ = max m used in
      let size = frame_sized f s p used q in
      let held : List ℕ = take (far - used) (drop used s) in
      let count : length held ≡ far - used = length-take-le (far - used) (drop used s) (omega (arith, length-drop used s, size.there)) in
      let all : m + (far - m) ≡ far = omega arith in
      let from : max (place + m) (place + used) ≡ place + (m + (far - m)) = omega arith in
      let began : max (place + m) (place + used) - place ≡ far = omega arith in
      let next : place + used ≡ place + (m + (far - m)) - length held = omega (arith, count) in
      let left : used + (far - used) ≡ far = omega arith in
      let bytes : drop used (s ++ more) ≡ held ++ drop (m + (far - m)) (s ++ more) =
      drop-append-le used s more size.there
      ∙ ap (λ (t : List ℕ). t ++ more) (sym (take-append-drop (far - used) (drop used s)))
      ∙ append_assoc held (drop (far - used) (drop used s)) more
      ∙ ap (λ (t : List ℕ). held ++ (t ++ more)) (drop-drop (far - used) used s ∙ ap (λ (k : ℕ). drop k s) (left ∙ sym all))
      ∙ ap (λ (t : List ℕ). held ++ t) (sym (drop-append-le (m + (far - m)) s more (omega (arith, all, size.there)))) in
      let marks : is_open f used (s ++ more) ≡ is_open f used s = open_append f used size.some s more size.there in
      record {
        few = omega (arith, count);
        same =
            positions_frame (place + m) place used p (s ++ more) (judge_stands f s more (frame used p) tt q)
            ∙ (λ i. position p (from i) (began i) ∷ positions_behind (marks i) (from i) (next i) (bytes i));
      }

  -- A failed start, and the call over the bytes behind it.
  leads_refused :
      (b : ℕ) (s : List ℕ) (m : ℕ) (more : List ℕ) (place judged n : ℕ) (c : Called) → judge f (b ∷ s) ≡ refused judged n →
      let far : ℕ = max m judged in
      Leads s (far - 1) more (place + 1) c → Leads (b ∷ s) m more place (took_first (far - m) (noisier 1 c))
  leads_refused b s m more place judged n c q h =
      let far : ℕ = max m judged in
      let some : 1 ≤ judged = (refused_sized f (b ∷ s) judged n q).some in
      let stands : judge f ((b ∷ s) ++ more) ≡ refused judged n = judge_stands f (b ∷ s) more (refused judged n) tt q in
      let reach : max (place + m) (place + judged_at f ((b ∷ s) ++ more)) ≡ place + 1 + (far - 1) =
      ap (λ (v : Verdict). max (place + m) (place + judged_as v ((b ∷ s) ++ more))) stands ∙ omega arith in
      let next : suc (far - 1 + c.taken) ≡ m + (far - m + c.taken) = omega arith in
      let from : place + 1 + (far - 1 + c.taken) ≡ place + (m + (far - m + c.taken)) = omega arith in
      record {
        few = omega (arith, h.few);
        same =
            positions_failed (place + m) place b (s ++ more) (subst NoFrame (sym stands) tt)
            ∙ ap (λ (k : ℕ). positions_in k (place + 1) (s ++ more)) reach
            ∙ h.same
            ∙ (λ i.
            map (λ p. position p (from i) c.began) c.out.frames
            ++ positions_behind c.follows (from i) (from i - length c.held) (c.held ++ drop (next i) ((b ∷ s) ++ more)));
      }

  -- One place.
  leads_at :
      (b m : ℕ) (s more : List ℕ) (place : ℕ) (v : Verdict) → judge f (b ∷ s) ≡ v → m ≤ length (b ∷ s) →
      ((k place : ℕ) → k ≤ length s → Leads s k more place (line_at f s k)) → Leads (b ∷ s) m more place (line_at f (b ∷ s) m)
  leads_at b m s more place cut q l later =
      subst (Leads (b ∷ s) m more place) (sym (line_cut f (b ∷ s) m l q)) (leads_cut (b ∷ s) m more place l q)
  leads_at b m s more place (refused judged n) q l later =
      let far : ℕ = max m judged in
      let size = refused_sized f (b ∷ s) judged n q in
      let step : line_at f (b ∷ s) m ≡ took_first (far - m) (noisier 1 (line_at f s (far - 1))) =
      rw q at (line_decided f (b ∷ s) m l) ∙ ap (took_first (far - m)) (line_failed f (b ∷ s) far judged n q (omega arith)) in
      subst (Leads (b ∷ s) m more place) (sym step)
      (leads_refused b s m more place judged n (line_at f s (far - 1)) q (later (far - 1) (place + 1) (omega (arith, size.there))))
  leads_at b m s more place (frame used p) q l later =
      subst (Leads (b ∷ s) m more place) (sym (line_found f (b ∷ s) m used p l q)) (leads_frame (b ∷ s) m more place used p l q)

  -- All places.
  leads : (s : List ℕ) (m : ℕ) (more : List ℕ) (place : ℕ) → m ≤ length s → Leads s m more place (line_at f s m)
  unfolding line_on line_from settle
  leads [] zero more place l =
      let reach : place + 0 ≡ place + (0 + 0) = omega arith in
      let here : place ≡ place + (0 + 0) - 0 + 0 = omega arith in
      record { few = zero-le; same = λ i. positions_in (reach i) (here i) more }
  leads [] (suc m) more place l = absurd (not-suc-le-zero l)
  leads (b ∷ s) m more place l = leads_at b m s more place (judge f (b ∷ s)) refl l (λ k at h. leads s k more at h)

  -- A line call where no optional byte is to come, whose first held byte has the index `place`.
  on_leads :
      (h chunk more : List ℕ) (place : ℕ) →
      let c : Called = line_on f h chunk in
      let from : ℕ = place + (length h + c.taken) in
      (length c.held ≤ length h + c.taken)
      × (positions_in (place + length h) place (h ++ (chunk ++ more))
      ≡ map (λ p. position p from c.began) c.out.frames
      ++ positions_behind c.follows from (from - length c.held) (c.held ++ drop c.taken (chunk ++ more)))
  on_leads h chunk more place =
      let c : Called = line_on f h chunk in
      let from : ℕ = place + (length h + c.taken) in
      let k = rw (take-append_seam h chunk, drop-append_seam h chunk) at (leads (h ++ chunk) (length h) more place (rw length-append (omega arith))) in
      let rest : drop (length h + c.taken) ((h ++ chunk) ++ more) ≡ drop c.taken (chunk ++ more) =
      ap (drop (length h + c.taken)) (append_assoc h chunk more) ∙ drop-append-add h (chunk ++ more) c.taken in (
        k.few,
        ap (positions_in (place + length h) place) (sym (append_assoc h chunk more))
            ∙ k.same
            ∙ ap (λ (t : List ℕ). map (λ p. position p from c.began) c.out.frames
            ++ positions_behind c.follows from (from - length c.held) (c.held ++ t)) rest,
      )

  -- A call c with the bytes todo before it leads what the rule gives behind a mark, where `count` bytes were held, the first at the index `place`.
  pub record LeadsBehind (count : ℕ) (todo : List ℕ) (place : ℕ) (c : Called) (given : List Position) : Type 0 where
    pub few : length c.held ≤ count + c.taken
    pub same :
        let from : ℕ = place + count + c.taken in
        given
        ≡ map (λ p. position p from c.began) c.out.frames
        ++ positions_behind c.follows from (from - length c.held) (c.held ++ drop c.taken todo)

  -- A line call, by the mark.
  pub line_leads :
      (follows : Bool) (h chunk more : List ℕ) (place : ℕ) →
      LeadsBehind (length h) (chunk ++ more) place (line_behind f follows h chunk) (positions_behind follows (place + length h) place (h ++ (chunk ++ more)))
  line_leads follows [] [] more place =
      let reach : place + 0 ≡ place + 0 + 0 = omega arith in
      let here : place ≡ place + 0 + 0 - 0 = omega arith in
      record { few = zero-le; same = λ i. positions_behind follows (reach i) (here i) more }
  line_leads follows [] (b ∷ chunk) more place =
      let n : ℕ = absorbed f follows (b ∷ chunk) in
      let c : Called = line_on f [] (drop n (b ∷ chunk)) in
      let there : n ≤ length (b ∷ chunk) = absorbed_there f follows (b ∷ chunk) in
      let k = on_leads [] (drop n (b ∷ chunk)) more (place + n) in
      let split : drop n ((b ∷ chunk) ++ more) ≡ drop n (b ∷ chunk) ++ more = drop-append-le n (b ∷ chunk) more there in
      let rest : drop c.taken (drop n (b ∷ chunk) ++ more) ≡ drop (n + c.taken) ((b ∷ chunk) ++ more) =
      ap (drop c.taken) (sym split) ∙ drop-drop c.taken n ((b ∷ chunk) ++ more) in
      let from : place + n + (0 + c.taken) ≡ place + 0 + (n + c.taken) = omega arith in
      record {
        few = omega (arith, k.0);
        same =
            ap (λ (i : ℕ). positions_in (place + 0) (place + i) (drop i ((b ∷ chunk) ++ more))) (absorbed_front f follows b (chunk ++ more) chunk)
            ∙ ap (positions_in (place + 0) (place + n)) split
            ∙ positions_reach (place + 0) (place + n + 0) (place + n) (drop n (b ∷ chunk) ++ more) (omega arith) (λ some. omega arith)
            ∙ k.1
            ∙ (λ i.
            map (λ p. position p (from i) c.began) c.out.frames
            ++ positions_behind c.follows (from i) (from i - length c.held) (c.held ++ rest i));
      }
  line_leads follows (b ∷ h) chunk more place =
      let n : ℕ = absorbed f follows (b ∷ h) in
      let c : Called = line_on f (drop n (b ∷ h)) chunk in
      let there : n ≤ length (b ∷ h) = absorbed_there f follows (b ∷ h) in
      let count : length (drop n (b ∷ h)) ≡ length (b ∷ h) - n = length-drop n (b ∷ h) in
      let k = on_leads (drop n (b ∷ h)) chunk more (place + n) in
      let reach : place + length (b ∷ h) ≡ place + n + length (drop n (b ∷ h)) = omega (arith, count, there) in
      let from : place + n + (length (drop n (b ∷ h)) + c.taken) ≡ place + length (b ∷ h) + c.taken = omega (arith, count, there) in
      record {
        few = omega (arith, k.0, count);
        same =
            ap (λ (i : ℕ). positions_in (place + length (b ∷ h)) (place + i) (drop i ((b ∷ h) ++ (chunk ++ more)))) (absorbed_front f follows b (h ++ (chunk ++ more)) h)
            ∙ ap₂ (λ (r : ℕ) (t : List ℕ). positions_in r (place + n) t) reach (drop-append-le n (b ∷ h) (chunk ++ more) there)
            ∙ k.1
            ∙ (λ i.
            map (λ p. position p (from i) c.began) c.out.frames
            ++ positions_behind c.follows (from i) (from i - length c.held) (c.held ++ drop c.taken (chunk ++ more)));
      }

  -- Settled bytes that end a segment, the first of which has the index `place`: all of them were taken.
  record LeadsEnded (h : List ℕ) (place : ℕ) (st : Called) : Type 0 where
    few : length st.held ≤ length h
    same :
        let from : ℕ = place + length h in
        positions_in from place h
        ≡ map (λ p. position p from st.began) st.out.frames
        ++ positions_behind st.follows from (from - length st.held) (st.held ++ [])

  -- Where no frame stands, the bytes behind the first are settled.
  ended_failed :
      (b : ℕ) (h : List ℕ) (place : ℕ) (later : Called) → NoFrame (judge f (b ∷ h)) → LeadsEnded h (place + 1) later →
      LeadsEnded (b ∷ h) place (called 0 (join noise_byte later.out) later.began later.held later.follows)
  unfolding join
  ended_failed b h place later none k =
      let reach : max (place + length (b ∷ h)) (place + judged_at f (b ∷ h)) ≡ place + 1 + length h = omega (arith, judged_at_there f (b ∷ h)) in
      let from : place + 1 + length h ≡ place + length (b ∷ h) = omega arith in
      record {
        few = omega (arith, k.few);
        same =
            positions_failed (place + length (b ∷ h)) place b h none
            ∙ ap (λ (r : ℕ). positions_in r (place + 1) h) reach
            ∙ k.same
            ∙ (λ i.
            map (λ p. position p (from i) later.began) later.out.frames
            ++ positions_behind later.follows (from i) (from i - length later.held) (later.held ++ []));
      }

  -- One place.
  ended_at :
      (b : ℕ) (h : List ℕ) (place : ℕ) (later : Called) (v : Verdict) → judge f (b ∷ h) ≡ v → LeadsEnded h (place + 1) later →
      LeadsEnded (b ∷ h) place (settle_as f (ended v) (b ∷ h) later)
  ended_at b h place later cut q k = ended_failed b h place later (subst NoFrame (sym q) tt) k
  ended_at b h place later (refused judged n) q k = ended_failed b h place later (subst NoFrame (sym q) tt) k
  ended_at b h place later (frame used p) q k =
      let s : List ℕ = b ∷ h in
      let size = frame_sized f s p used q in
      let from : max (place + length s) (place + used) ≡ place + length s = omega (arith, size.there) in
      let began : max (place + length s) (place + used) - place ≡ length s = omega (arith, size.there) in
      let next : place + used ≡ place + length s - length (drop used s) = omega (arith, length-drop used s, size.there) in
      record {
        few = omega (arith, length-drop used s);
        same =
            positions_frame (place + length s) place used p s q
            ∙ (λ i. position p (from i) (began i) ∷ positions_behind (is_open f used s) (from i) (next i) (sym (append-nil (drop used s)) i));
      }

  -- All places.
  ended_leads : (h : List ℕ) (place : ℕ) → LeadsEnded h place (settle f (λ x. ended (judge f x)) h)
  unfolding settle
  ended_leads [] place =
      let here : place ≡ place + 0 - 0 + 0 = omega arith in
      record { few = zero-le; same = λ i. positions_in (place + 0) (here i) [] }
  ended_leads (b ∷ h) place = ended_at b h place (settle f (λ x. ended (judge f x)) h) (judge f (b ∷ h)) refl (ended_leads h (place + 1))

  -- A quiet call, by the mark.
  pub quiet_leads :
      (follows : Bool) (h : List ℕ) (place : ℕ) →
      LeadsBehind (length h) [] place (quiet_held f (behind_optional f follows h)) (positions_behind follows (place + length h) place (h ++ []))
  unfolding quiet_held
  quiet_leads follows h place =
      let n : ℕ = absorbed f follows h in
      let st : Called = settle f (λ x. ended (judge f x)) (drop n h) in
      let there : n ≤ length h = absorbed_there f follows h in
      let count : length (drop n h) ≡ length h - n = length-drop n h in
      let k = ended_leads (drop n h) (place + n) in
      let reach : place + length h ≡ place + n + length (drop n h) = omega (arith, count, there) in
      let from : place + n + length (drop n h) ≡ place + length h + 0 = omega (arith, count, there) in
      record {
        few = omega (arith, k.few, count);
        same =
            ap (λ (t : List ℕ). positions_behind follows (place + length h) place t) (append-nil h)
            ∙ ap (λ (r : ℕ). positions_in r (place + n) (drop n h)) reach
            ∙ k.same
            ∙ (λ i.
            map (λ p. position p (from i) st.began) st.out.frames
            ++ positions_behind st.follows (from i) (from i - length st.held) (st.held ++ []));
      }
