-- Laws of `marked_from`: data that are cut and data that are whole; and that marks say the same as a list of identifiers.
-- Assumes nothing.
use mathlib.Core.Path.{◌≡◌, refl, ◌∙◌}
use mathlib.Core.Bool.{Bool, true, false, not, ◌&&◌, ◌||◌}
use mathlib.Core.List.{List, [], ◌∷◌}
use Prim.Native.Nat.{ℕ, zero, suc, ◌-◌, ◌<◌, ◌≤◌}
use native.Mathlib.Omega.{arith}
use native.Mathlib.Nat.{le_of_suc-le-suc, not-suc-le-zero}
use lib.Dec.{eqb}
use lib.ListN.{length, get_or, set, take, drop, replicate, length-drop, length-set, get_or-replicate}
use lib.Seq.{take_all, get_or-set_same, get_or-set_other}
use borrow.Author.Tests.{eqb-true, eqb-false}
use Rattle.settings.specs.List.{width_of, among, list_from, is_list}
use Rattle.settings.specs.Parts.{place_of, marked_from}
use Rattle.settings.proofs.Table.{place_below, same_place}

module _ (marks : List Bool) where
  all_of : (s : List ℕ) (k : ℕ) → take (length s - k) (drop k s) ≡ drop k s
  all_of s k = take_all (length s - k) (drop k s) (simp length-drop (omega arith))

  -- Data cut at the end.
  pub cut : (w : ℕ) (s : List ℕ) → length s < w → false ≡ marked_from w marks s
  unfolding marked_from
  cut zero s h = absurd (not-suc-le-zero h)
  cut (suc w) [] h = refl
  cut (suc w) (b ∷ s) h = cut w s (le_of_suc-le-suc h)

  passed : (w : ℕ) (s : List ℕ) → w ≤ length s → marked_from 0 marks (drop w s) ≡ marked_from w marks s
  unfolding marked_from
  passed zero s h = refl
  passed (suc w) [] h = absurd (not-suc-le-zero h)
  passed (suc w) (b ∷ s) h = passed w s (le_of_suc-le-suc h)

  -- Whole data: what follows them decides.
  pub past : (w : ℕ) (s : List ℕ) → w ≤ length s → marked_from 0 marks (take (length s - w) (drop w s)) ≡ marked_from w marks s
  past w s h = rw (all_of s w) (passed w s h)

-- Marks and the identifiers seen agree: for a known identifier, the mark at its place says whether it is one of them.
record Agree (marks : List Bool) (seen : List ℕ) : Type 0 where
  size : length marks ≡ 15
  same : (id : ℕ) → (width_of id ≡ 0 → ⊥) → get_or marks (place_of id) false ≡ among seen id

none : Agree (replicate 15 false) []
none = record { size = refl; same = λ id h. get_or-replicate 15 (place_of id) false false (place_below id) }

one_more_lem : (marks : List Bool) (seen : List ℕ) (id : ℕ) → (width_of id ≡ 0 → ⊥) → Agree marks seen → Agree (set marks (place_of id) true) (id ∷ seen)
one_more_lem marks seen id known agree =
    record { size = simp length-set agree.size; same = λ k h. here k h (eqb k id) refl }
  where
    inside : place_of id < length marks
    inside = omega (arith, place_below id, agree.size)

    here :
        (k : ℕ) → (width_of k ≡ 0 → ⊥) → (b : Bool) → eqb k id ≡ b
        → get_or (set marks (place_of id) true) (place_of k) false ≡ b || among seen k
    here k h true e = rw (eqb-true k id e) (get_or-set_same marks (place_of id) true false inside)
    here k h false e =
        get_or-set_other marks (place_of id) (place_of k) true false (λ p. eqb-false k id e (same_place k id h known p)) ∙ agree.same k h

next : (u m a x y : Bool) → (u ≡ false → m ≡ a) → (u ≡ false → x ≡ y) → not u && (not a && x) ≡ not u && (not m && y)
next true m a x y e f = refl
next false m a x y e f = rw (e refl, f refl)

marked : (w : ℕ) (marks : List Bool) (seen s : List ℕ) → Agree marks seen → list_from w seen s ≡ marked_from w marks s
unfolding list_from marked_from
marked zero marks seen [] agree = refl
marked zero marks seen (id ∷ s) agree =
    next (eqb (width_of id) 0) (get_or marks (place_of id) false) (among seen id) _ _
    (λ e. agree.same id (eqb-false _ _ e))
    (λ e. marked (width_of id) (set marks (place_of id) true) (id ∷ seen) s (one_more_lem marks seen id (eqb-false _ _ e) agree))
marked (suc w) marks seen [] agree = refl
marked (suc w) marks seen (b ∷ s) agree = marked w marks seen s agree

-- The bytes are a list by the identifiers seen just where they are one by marks.
pub marked_is_list : (s : List ℕ) → is_list s ≡ marked_from 0 (replicate 15 false) s
unfolding is_list
marked_is_list s = marked 0 (replicate 15 false) [] s none
