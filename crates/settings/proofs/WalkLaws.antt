-- Laws of a walk over a list, one for each way out of a turn.
-- Assumes nothing.
use mathlib.Core.Path.{◌≡◌, refl, sym, ◌∙◌}
use mathlib.Core.Bool.{true, not, and-eq-true_iff}
use mathlib.Core.List.{List, [], ◌∷◌}
use Prim.Native.Nat.{ℕ, zero, suc, ◌+◌, ◌-◌, ◌<◌, ◌≤◌}
use native.Mathlib.Omega.{arith}
use native.Mathlib.Nat.{add-zero}
use lib.Dec.{eqb}
use Rattle.std.proofs.Common.{Ok, Some, None, slice_get}
use Rattle.std.proofs.lemmas.Bool.{cases_lt}
use Rattle.std.proofs.Math.Logic.{◌⊎◌, inl, inr}
use lib.ListN.{length, get_or, drop, length-drop, drop_of_length-le}
use lib.Seq.{drop-cons, drop-drop}
use Rattle.settings.specs.List.{width_of, among, list_from, is_list}
use Rattle.settings.specs.Walk.{settings_from, settings_of, nth, nothing, finding, finding_of}
use Rattle.settings.specs.declared.walk.Setting.{Setting}

-- Data that are not cut, and what is behind them.
data_whole : (w : ℕ) (seen s : List ℕ) → list_from w seen s ≡ true → (w ≤ length s) × (list_from 0 seen (drop w s) ≡ true)
unfolding list_from
data_whole zero seen s e = (omega arith, e)
data_whole (suc w) seen [] e = absurd (cc)
data_whole (suc w) seen (b ∷ s) e = let h = data_whole w seen s e in (omega arith, h.1)

-- Bytes that are passed over.
pub passed_over : (w at : ℕ) (s : List ℕ) → settings_from w at s ≡ settings_from 0 (at + w) (drop w s)
unfolding settings_from
passed_over zero at s = rw add-zero
passed_over (suc w) at [] = refl
passed_over (suc w) at (b ∷ s) =
    let same : at + 1 + w ≡ at + suc w = omega arith in
    passed_over w (at + 1) s ∙ rw same

-- The rest of a list, whatever identifiers came before it.
abbrev Whole : List ℕ → Type 0
Whole s = (seen : List ℕ) × (list_from 0 seen s ≡ true)

next_whole : (id : ℕ) (s : List ℕ) → Whole (id ∷ s) → (width_of id ≤ length s) × Whole (drop (width_of id) s)
unfolding list_from
next_whole id s (seen, e) =
    let known = (and-eq-true_iff (not (eqb (width_of id) 0)) _).0 e in
    let new = (and-eq-true_iff (not (among seen id)) _).0 known.1 in
    let h = data_whole (width_of id) (id ∷ seen) s new.1 in
    (h.0, (id ∷ seen, h.1))

-- A walk over s that looks for the setting with an index stands at `at`, an identifier or the end, behind the settings that it passed.
pub record Walking (s : List ℕ) (index at passed : ℕ) : Type 0 where
  pub inside : at ≤ length s
  pub whole : Whole (drop at s)
  pub same : (left : ℕ) → passed + left ≡ index → finding s index ≡ nth (settings_from 0 at (drop at s)) left

-- A list is walked from its start.
pub start : (s : List ℕ) (index : ℕ) → is_list s ≡ true → Walking s index 0 0
unfolding is_list settings_of
start s index e = record { inside = omega arith; whole = ([], e); same = λ left p. let same : left ≡ index = omega arith in rw (e, same) }

-- Where an identifier or the end stands at `at`: none at the end; else the setting there, and those behind its data.
pub ended : (s : List ℕ) (at : ℕ) → length s ≤ at → settings_from 0 at (drop at s) ≡ []
unfolding settings_from
ended s at h = rw (drop_of_length-le s h)

behind : (s : List ℕ) (at w : ℕ) → drop w (drop (suc at) s) ≡ drop (at + 1 + w) s
behind s at w =
    let sum : suc at + w ≡ at + 1 + w = omega arith in
    drop-drop w (suc at) s ∙ rw sum

pub split :
    (s : List ℕ) (at : ℕ) → at < length s
    → settings_from 0 at (drop at s)
    ≡ record { identifier = get_or s at 0; start = at + 1; len = width_of (get_or s at 0) }
    ∷ settings_from 0 (at + 1 + width_of (get_or s at 0)) (drop (at + 1 + width_of (get_or s at 0)) s)
unfolding settings_from
split s at h = rw (drop-cons s at 0 h, passed_over (width_of (get_or s at 0)) (at + 1) (drop (suc at) s), behind s at (width_of (get_or s at 0)))

-- Where no setting is left, none is found; at the index, the first of those left.
pub none_is : (s : List ℕ) (index at passed : ℕ) → Walking s index at passed → passed ≤ index → None ≡ slice_get (settings_from 0 at (drop at s)) 0
    → nothing 0 ≡ finding s index
none_is s index at passed walking below e =
    let sum : passed + (index - passed) ≡ index = omega arith in
    none _ (index - passed) e ∙ sym (walking.same (index - passed) sum)
  where
    none : (xs : List Setting) (left : ℕ) → None ≡ slice_get xs 0 → nothing 0 ≡ nth xs left
    none [] left e = refl
    none (x ∷ xs) left e = cc

pub first_is : (s : List ℕ) (index at : ℕ) → Walking s index at index → finding_of (Ok (slice_get (settings_from 0 at (drop at s)) 0)) ≡ finding s index
first_is s index at walking = first _ ∙ sym (walking.same 0 (omega arith))
  where
    first : (xs : List Setting) → finding_of (Ok (slice_get xs 0)) ≡ nth xs 0
    first [] = refl
    first (x ∷ xs) = refl

later : (xs : List Setting) (x : Setting) (ys : List Setting) (left : ℕ) → xs ≡ x ∷ ys → nth xs (suc left) ≡ nth ys left
later xs x ys left e = rw e

-- A walk with a setting to pass goes on behind that setting's data.
pub onward :
    (s : List ℕ) (index at passed : ℕ) (x : Setting) → Walking s index at passed → Some x ≡ slice_get (settings_from 0 at (drop at s)) 0
    → Walking s index (x.start + x.len) (passed + 1)
onward s index at passed x walking e = here (cases_lt at (length s))
  where
    here : (at < length s) ⊎ (length s ≤ at) → Walking s index (x.start + x.len) (passed + 1)
    here (inr h) = let no = rw (ended s at h) at e in cc
    here (inl h) =
        let width = width_of (get_or s at 0) in
        let known : Some x ≡ Some (record { identifier = get_or s at 0; start = at + 1; len = width }) = rw (split s at h) at e in
        let is : x ≡ record { identifier = get_or s at 0; start = at + 1; len = width } = cc in
        let rest = next_whole (get_or s at 0) (drop (suc at) s) (rw (drop-cons s at 0 h) at walking.whole) in
        rw is
        (record {
          inside = omega (arith, rest.0, length-drop (suc at) s);
          whole = rw (behind s at width) at rest.1;
          same = λ left p. walking.same (suc left) (omega arith) ∙ later _ _ _ left (split s at h);
        })
