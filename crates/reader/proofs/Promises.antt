-- Laws of the promises of calls: what an answer's values say of the call that they came from.
-- Assumes nothing.
use Prim.Native.Nat.{ℕ, ◌≤◌}
use native.Mathlib.Nat.{le_of_suc-le-suc, not-suc-le-zero}
use native.Mathlib.Omega.{arith}
use mathlib.Core.Path.{◌≡◌, refl, sym, ap, ◌∙◌}
use mathlib.Core.List.{List, [], ◌∷◌}
use mathlib.Core.Bool.{Bool, true, false, true≢false}
use borrow.Author.Tests.{eqb-true}
use lib.Dec.{eqb}
use lib.ListN.{length, drop, length-append}
use lib.Seq.{take-append_seam}
use Rattle.frame.specs.Rule.{output}
use Rattle.reader.specs.Reader.{Called, Values, refusal_values, called_values, buffer_at, Promise, Gives}
use Rattle.reader.specs.Calls.{Refused, Answered, out_of}
use Rattle.reader.specs.Draining.{Reports}
use Rattle.reader.specs.Answer.{values_at}

module _ {A S : Type 0} {refusal answer : A} {Next : S → Type 0} {filled : List ℕ} {s : S} {buf : List ℕ} where
  -- A refused call: the number, with the state and the buffer as they were.
  pub refuses : {number : ℕ} {v : A} → eqb number 0 ≡ false → v ≡ refusal → Promise number refusal answer Next filled s buf v s buf
  refuses z e = record { refuses = λ _. (e, refl, refl); answers = λ t. absurd (true≢false (sym t ∙ z)) }

  -- A call that is not refused.
  pub answers :
      {number : ℕ} {v : A} {s' : S} {buf' : List ℕ} → number ≡ 0 → v ≡ answer → Next s' → buf' ≡ filled →
      Promise number refusal answer Next filled s buf v s' buf'
  answers z e k b =
      record { refuses = λ t. absurd (true≢false (ap (λ (n : ℕ). eqb n 0) (sym z) ∙ t)); answers = λ _. (e, k, b) }

-- A call that is not refused has the number 0.
called_number : (c : Called) (j : ℕ) (fs : List (List ℕ)) → (called_values c j fs).number ≡ 0
called_number c j [] = refl
called_number c j (p ∷ ps) = refl

-- The answer says how many bytes the call took, and how many it judged.
pub called_taken : (c : Called) (j : ℕ) (fs : List (List ℕ)) → (called_values c j fs).taken ≡ c.taken
called_taken c j [] = refl
called_taken c j (p ∷ ps) = refl

called_judged : (c : Called) (j : ℕ) (fs : List (List ℕ)) → (called_values c j fs).judged ≡ j
called_judged c j [] = refl
called_judged c j (p ∷ ps) = refl

-- No payload came out of a call whose answer is no frame.
pub no_frames : (c : Called) (j : ℕ) (fs : List (List ℕ)) → (called_values c j fs).is_frame ≡ false → fs ≡ []
no_frames c j [] e = refl
no_frames c j (p ∷ ps) e = absurd (true≢false e)

-- A call's answer hands out what came out of the call: the buffer's front is the payload.
called_out :
    (c : Called) (j : ℕ) (fs : List (List ℕ)) (buf : List ℕ) → length fs ≤ 1 →
    out_of (called_values c j fs) (buffer_at fs buf) ≡ output fs c.out.noise
called_out c j [] buf l = refl
called_out c j (p ∷ []) buf l = λ i. output (take-append_seam p (drop (length p) buf) i ∷ []) c.out.noise
called_out c j (p ∷ q ∷ ps) buf l = absurd (not-suc-le-zero (le_of_suc-le-suc l))

-- A payload that came out is in the buffer's front.
len_of :
    (c : Called) (j : ℕ) (fs : List (List ℕ)) (buf buf' : List ℕ) (v : Values) → v ≡ called_values c j fs → buf' ≡ buffer_at fs buf →
    v.len ≤ length buf'
len_of c j [] buf buf' v e l = omega (arith, ap (λ (x : Values). x.len) e)
len_of c j (p ∷ ps) buf buf' v e l = omega (arith, ap (λ (x : Values). x.len) e, simp length-append at (ap length l))

module _
    (c : Called) (j : ℕ) {S : Type 0} {number : ℕ} {Next : S → Type 0} {s : S} {buf : List ℕ} {v : Values} {s' : S} {buf' : List ℕ}
    (p : Gives number c j Next s buf v s' buf')
  where
    same_number : (q : Bool) → eqb number 0 ≡ q → eqb v.number 0 ≡ q
    same_number true e =
        ap (λ (x : Values). eqb x.number 0) (p.answers e).0 ∙ ap (λ (n : ℕ). eqb n 0) (called_number c j c.out.frames)
    same_number false e = ap (λ (x : Values). eqb x.number 0) (p.refuses e).0 ∙ e

    -- The number of a call is 0 just where that of its answer is.
    pub numbered : (q : Bool) → eqb v.number 0 ≡ q → eqb number 0 ≡ q
    numbered q z = sym (same_number (eqb number 0) refl) ∙ z

    -- A call whose answer has the number 0 kept the promise of one that is not refused, any other that of a refusal.
    pub answered : Answered v → (v ≡ values_at c j) × Next s' × (buf' ≡ buffer_at c.out.frames buf)
    answered z = p.answers (numbered true z)

    pub refusing : Refused v → (v ≡ refusal_values number) × (s' ≡ s) × (buf' ≡ buf)
    refusing z = p.refuses (numbered false z)

    len_by : (none : Bool) → eqb number 0 ≡ none → v.len ≤ length buf'
    len_by false e = omega (arith, ap (λ (x : Values). x.len) (p.refuses e).0)
    len_by true e = len_of c j c.out.frames buf buf' v (p.answers e).0 (p.answers e).2

    taken_by : (none : Bool) → eqb number 0 ≡ none → v.taken ≤ c.taken
    taken_by false e = omega (arith, ap (λ (x : Values). x.taken) (p.refuses e).0)
    taken_by true e = omega (arith, ap (λ (x : Values). x.taken) (p.answers e).0 ∙ called_taken c j c.out.frames)

    -- What an answered call hands out is what came out of it.
    pub hands_out : length c.out.frames ≤ 1 → Answered v → out_of v buf' ≡ c.out
    hands_out l z = let h = answered z in rw (h.0, h.2) (called_out c j c.out.frames buf l)

    -- It says how many bytes were taken.
    pub takes : Answered v → v.taken ≡ c.taken
    takes z = ap (λ (x : Values). x.taken) (answered z).0 ∙ called_taken c j c.out.frames

    -- And how many were judged.
    pub counts : Answered v → v.judged ≡ j
    counts z = ap (λ (x : Values). x.judged) (answered z).0 ∙ called_judged c j c.out.frames

    -- Without a frame, no payload came out.
    pub none_out : Answered v → v.is_frame ≡ false → c.out.frames ≡ []
    none_out z e = no_frames c j c.out.frames (ap (λ (x : Values). x.is_frame) (sym (answered z).0) ∙ e)

    -- All that an answer says.
    pub says : length c.out.frames ≤ 1 → Reports number c j Next s buf v s' buf'
    says l =
        record {
          inside = len_by (eqb number 0) refl;
          most = taken_by (eqb number 0) refl;
          answered = λ z. (eqb-true number 0 (numbered true z), hands_out l z, takes z, (answered z).1);
          counted = counts;
          refused = λ z. let h = refusing z in (numbered false z, ap (λ (x : Values). x.number) h.0, h.1, h.2);
        }
