-- The widths of identifiers in the code's table, and their places in it: each a test that is computed at all of them.
-- Assumes nothing.
use Prim.Native.Nat.{ℕ, zero, suc, ◌<◌}
use native.Mathlib.Nat.{le_of_suc-le-suc, not-suc-le-zero}
use native.Mathlib.Omega.{arith}
use mathlib.Core.Path.{◌≡◌, refl, sym, ap, ◌∙◌}
use mathlib.Core.Bool.{Bool, true, false, cond, ◌&&◌, and-eq-true_iff}
use mathlib.Core.List.{List, [], ◌∷◌}
use lib.Dec.{eqb, ltb}
use lib.ListN.{get_or}
use borrow.Author.Tests.{eqb-true, ltb-true}
use Rattle.settings.specs.List.{widths, width_in, width_of}
use Rattle.settings.specs.Parts.{place_of}

-- A test at each number below n, and what it says of one of them.
abbrev below : (ℕ → Bool) → ℕ → Bool
below f zero = true
below f (suc n) = f 0 && below (λ k. f (suc k)) n

at_each : (f : ℕ → Bool) (n : ℕ) → below f n ≡ true → (k : ℕ) → k < n → f k ≡ true
at_each f zero e k h = absurd (not-suc-le-zero h)
at_each f (suc n) e zero h = ((and-eq-true_iff (f 0) _).0 e).0
at_each f (suc n) e (suc k) h = at_each (λ k. f (suc k)) n ((and-eq-true_iff (f 0) _).0 e).1 k (le_of_suc-le-suc h)

-- A test at each identifier of a table, and what it says of one that has a width in it.
abbrev every : (ℕ → Bool) → List (ℕ × ℕ) → Bool
every f [] = true
every f (w ∷ ws) = f w.0 && every f ws

at_known : (f : ℕ → Bool) (ws : List (ℕ × ℕ)) → every f ws ≡ true → (id : ℕ) → (width_in ws id ≡ 0 → ⊥) → f id ≡ true
at_known f [] e id h = absurd (h refl)
at_known f (w ∷ ws) e id h = here (eqb id w.0) refl (at_known f ws ((and-eq-true_iff (f w.0) _).0 e).1 id)
  where
    here : (b : Bool) → eqb id w.0 ≡ b → ((width_in ws id ≡ 0 → ⊥) → f id ≡ true) → f id ≡ true
    here true t later = ap f (eqb-true id w.0 t) ∙ ((and-eq-true_iff (f w.0) _).0 e).0
    here false t later = later (λ z. h (rw t z))

-- The code's table: it has the width of each byte at its place.
abbrev table : List ℕ
table = 4 ∷ 4 ∷ 2 ∷ 1 ∷ 1 ∷ 1 ∷ 1 ∷ 4 ∷ 1 ∷ 1 ∷ 16 ∷ 0 ∷ 2 ∷ 1 ∷ 0 ∷ []

pub width_at : (id : ℕ) → id < 256 → get_or table (place_of id) 0 ≡ width_of id
unfolding place_of width_of
width_at id h = eqb-true _ _ (at_each (λ k. eqb (get_or table (place_of k) 0) (width_of k)) 256 refl id h)

-- The known identifier that has a place: so they have different places.
abbrev id_at : ℕ → ℕ
id_at place = cond (eqb place 13) 0xFF place

id_at_lem : (id : ℕ) → (width_of id ≡ 0 → ⊥) → id_at (place_of id) ≡ id
unfolding place_of width_of
id_at_lem id h = eqb-true _ _ (at_known (λ k. eqb (id_at (place_of k)) k) widths refl id h)

pub same_place : (a b : ℕ) → (width_of a ≡ 0 → ⊥) → (width_of b ≡ 0 → ⊥) → place_of a ≡ place_of b → a ≡ b
same_place a b ha hb e = sym (id_at_lem a ha) ∙ ap id_at e ∙ id_at_lem b hb

-- A place is one of the table.
pub place_below : (id : ℕ) → place_of id < 15
unfolding place_of
place_below id = here (ltb id 13) (eqb id 0xFF) refl
  where
    here : (b c : Bool) → ltb id 13 ≡ b → cond b id (cond c 13 14) < 15
    here true c t = omega (arith, ltb-true)
    here false true t = omega arith
    here false false t = omega arith
