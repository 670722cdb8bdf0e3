-- A list is identifiers with their data, joined one after another, and its walk gives them back.
-- Assumes nothing.
use Prim.Native.Nat.{ℕ, zero, suc, ◌+◌}
use native.Mathlib.Omega.{arith}
use mathlib.Core.Path.{◌≡◌, refl, sym, ap, ◌∙◌}
use mathlib.Core.Bool.{Bool, true, false, not, and-eq-true_iff}
use mathlib.Core.List.{List, [], ◌∷◌, ◌++◌}
use lib.Dec.{eqb}
use lib.ListN.{length, drop, length-drop, length-append}
use lib.Seq.{take-append_seam, drop-append_seam, drop-drop}
use borrow.Author.Tests.{eq-eqb, ne_eqb, eqb-false, not-true}
use Rattle.settings.specs.List.{width_of, among, list_from, is_list}
use Rattle.settings.specs.Walk.{settings_from, settings_of}
use Rattle.settings.specs.Claims.{joined, Known, Distinct, identifiers, Inside, laid, values}
use Rattle.settings.proofs.WalkLaws.{passed_over}

-- No identifier is one of those seen, or stands twice.
abbrev Fresh : List ℕ → List ℕ → Type 0
Fresh seen [] = Unit {0}
Fresh seen (id ∷ ids) = (among seen id ≡ false) × Fresh (id ∷ seen) ids

not_both : (b : Bool) → b ≡ true → b ≡ false → ⊥
not_both b t f = cc

apart : (seen ids : List ℕ) (x : ℕ) → Fresh seen ids → among seen x ≡ true → among ids x ≡ false
apart seen [] x fresh e = refl
apart seen (id ∷ ids) x fresh e =
    let other : eqb x id ≡ false = ne_eqb x id (λ same. not_both (among seen id) (rw same at e) fresh.0) in
    rw other (apart (id ∷ seen) ids x fresh.1 (rw other e))

distinct : (seen ids : List ℕ) → Fresh seen ids → Distinct ids
distinct seen [] fresh = tt
distinct seen (id ∷ ids) fresh = (apart (id ∷ seen) ids id fresh.1 (rw (eq-eqb id id refl)), distinct (id ∷ seen) ids fresh.1)

none_seen : (seen ids : List ℕ) → Distinct ids → ((x : ℕ) → among ids x ≡ true → among seen x ≡ false) → Fresh seen ids
none_seen seen [] d h = tt
none_seen seen (id ∷ ids) d h = (h id (rw (eq-eqb id id refl)), none_seen (id ∷ seen) ids d.1 later)
  where
    later : (x : ℕ) → among ids x ≡ true → among (id ∷ seen) x ≡ false
    later x e =
        let other : eqb x id ≡ false = ne_eqb x id (λ same. not_both (among ids id) (rw same at e) d.0) in
        rw other (h x (rw other e))

-- Identifiers with data are a list.
data_over : (d s seen : List ℕ) → list_from (length d) seen (d ++ s) ≡ list_from 0 seen s
unfolding list_from
data_over [] s seen = refl
data_over (b ∷ d) s seen = data_over d s seen

listed : (seen : List ℕ) (vs : List (ℕ × List ℕ)) → Known vs → Fresh seen (identifiers vs) → list_from 0 seen (joined vs) ≡ true
unfolding list_from
listed seen [] known fresh = refl
listed seen (v ∷ vs) known fresh =
    rw (ne_eqb _ _ known.0, fresh.0, ← known.1, data_over v.1 (joined vs) (v.0 ∷ seen))
    (listed (v.0 ∷ seen) vs known.2 fresh.1)

pub is_one_lem : (vs : List (ℕ × List ℕ)) → Known vs → Distinct (identifiers vs) → is_list (joined vs) ≡ true
unfolding is_list
is_one_lem vs known d = listed [] vs known (none_seen [] (identifiers vs) d (λ x e. refl))

-- And a list is made of such: here the rest of one, which begins with w bytes of data.
record Made (w : ℕ) (seen s : List ℕ) : Type 0 where
  first : List ℕ
  vs : List (ℕ × List ℕ)
  size : length first ≡ w
  known : Known vs
  fresh : Fresh seen (identifiers vs)
  whole : s ≡ first ++ joined vs

made : (w : ℕ) (seen s : List ℕ) → list_from w seen s ≡ true → Made w seen s
unfolding list_from
made zero seen [] e = record { first = []; vs = []; size = refl; known = tt; fresh = tt; whole = refl }
made zero seen (id ∷ s) e =
    let known = (and-eq-true_iff (not (eqb (width_of id) 0)) _).0 e in
    let new = (and-eq-true_iff (not (among seen id)) _).0 known.1 in
    let m = made (width_of id) (id ∷ seen) s new.1 in
    record {
      first = [];
      vs = (id, m.first) ∷ m.vs;
      size = refl;
      known = (eqb-false _ _ (not-true _ known.0), m.size, m.known);
      fresh = (not-true _ new.0, m.fresh);
      whole = ap (λ l. id ∷ l) m.whole;
    }
made (suc w) seen [] e = absurd (not_both false e refl)
made (suc w) seen (b ∷ s) e =
    let m = made w seen s e in
    record {
      first = b ∷ m.first;
      vs = m.vs;
      size = ap suc m.size;
      known = m.known;
      fresh = m.fresh;
      whole = ap (λ l. b ∷ l) m.whole;
    }

empty : (s : List ℕ) → length s ≡ 0 → s ≡ []
empty [] e = refl
empty (b ∷ s) e = absurd (omega arith)

pub of_list : (s : List ℕ) → is_list s ≡ true → (vs : List (ℕ × List ℕ)) × Known vs × Distinct (identifiers vs) × (s ≡ joined vs)
unfolding is_list
of_list s e =
    let m = made 0 [] s e in
    (m.vs, m.known, distinct [] (identifiers m.vs) m.fresh, m.whole ∙ rw (empty m.first m.size))

-- Their settings lie where they were joined.
settings_laid : (at : ℕ) (vs : List (ℕ × List ℕ)) → Known vs → settings_from 0 at (joined vs) ≡ laid at vs
unfolding settings_from
settings_laid at [] known = refl
settings_laid at (v ∷ vs) known =
    rw (
      ← known.1,
      passed_over (length v.1) (at + 1) (v.1 ++ joined vs),
      drop-append_seam v.1 (joined vs),
      settings_laid (at + 1 + length v.1) vs known.2,
    )

module _ (s : List ℕ) where
  drop_next : (at : ℕ) (b : ℕ) (t : List ℕ) → drop at s ≡ b ∷ t → drop (at + 1) s ≡ t
  drop_next at b t e = sym (drop-drop 1 at s) ∙ ap (λ l. drop 1 l) e

  behind : (at : ℕ) (d t : List ℕ) → drop at s ≡ d ++ t → drop (at + length d) s ≡ t
  behind at d t e = sym (drop-drop (length d) at s) ∙ rw e (drop-append_seam d t)

  laid_inside : (at : ℕ) (vs : List (ℕ × List ℕ)) → drop at s ≡ joined vs → Inside s (laid at vs)
  laid_inside at [] e = tt
  laid_inside at (v ∷ vs) e = (
    omega (arith, length-drop at s, ap length e, length-append v.1 (joined vs)),
    laid_inside (at + 1 + length v.1) vs (behind (at + 1) v.1 (joined vs) (drop_next at v.0 _ e)),
  )

  laid_values : (at : ℕ) (vs : List (ℕ × List ℕ)) → drop at s ≡ joined vs → values s (laid at vs) ≡ vs
  laid_values at [] e = refl
  laid_values at (v ∷ vs) e =
      let next : drop (at + 1) s ≡ v.1 ++ joined vs = drop_next at v.0 _ e in
      rw (next, take-append_seam v.1 (joined vs), laid_values (at + 1 + length v.1) vs (behind (at + 1) v.1 (joined vs) next))

pub inside : (vs : List (ℕ × List ℕ)) → Known vs → Inside (joined vs) (settings_of (joined vs))
unfolding settings_of
inside vs known = rw (settings_laid 0 vs known) (laid_inside (joined vs) 0 vs refl)

pub back : (vs : List (ℕ × List ℕ)) → Known vs → values (joined vs) (settings_of (joined vs)) ≡ vs
unfolding settings_of
back vs known = rw (settings_laid 0 vs known) (laid_values (joined vs) 0 vs refl)

pub places : (vs : List (ℕ × List ℕ)) → Known vs → settings_of (joined vs) ≡ laid 0 (values (joined vs) (settings_of (joined vs)))
unfolding settings_of
places vs known = rw (back vs known) (settings_laid 0 vs known)
