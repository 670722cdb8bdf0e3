-- Laws on lists of groups of bytes, of which some are empty, and on the option string that they make.
-- Assumes nothing.
use Prim.Native.Nat.{ℕ, zero, suc}
use mathlib.Core.Path.{◌≡◌, refl, ap, ◌∙◌}
use mathlib.Core.List.{List, [], ◌∷◌, ◌++◌, cons≢nil}
use mathlib.Core.List.Permᴰ.{cons}
use mathlib.Core.List.Permᴰ.{nil}
use mathlib.Core.List.Permᴰ.{swap}
use mathlib.Core.List.{Permᴰ as Permutation}
use mathlib.Core.List.Permᴰ
use mathlib.Core.List.Permᴰ.{trans}
use native.Mathlib.Omega.{arith}
use lib.ListN.{length, get_or, set, length-append}
use Rattle.message.specs.Options.{option_string}

-- The groups that are not empty, and those that are.
abbrev pub full : List (List ℕ) → List (List ℕ)
full [] = []
full ([] ∷ gs) = full gs
full ((b ∷ g) ∷ gs) = (b ∷ g) ∷ full gs

abbrev pub empty : List (List ℕ) → List (List ℕ)
empty [] = []
empty ([] ∷ gs) = [] ∷ empty gs
empty ((b ∷ g) ∷ gs) = empty gs

-- They are all groups.
sorted : (gs : List (List ℕ)) → Permutation (full gs ++ empty gs) gs
sorted [] = nil
sorted ([] ∷ gs) = trans (Permᴰ.middle [] (full gs) (empty gs)) (cons refl (sorted gs))
sorted ((b ∷ g) ∷ gs) = cons refl (sorted gs)

-- And so the full groups in another order, and the empty ones behind them, are all groups in another order.
pub completed : {gs hs : List (List ℕ)} → Permutation gs (full hs) → Permutation (gs ++ empty hs) hs
completed {hs = hs} d = trans (Permᴰ.append_right (empty hs) d) (sorted hs)

-- Empty groups add nothing to a string.
just_ended : (hs : List (List ℕ)) → option_string (empty hs) ≡ 0xFF ∷ []
just_ended [] = refl
just_ended ([] ∷ hs) = just_ended hs
just_ended ((b ∷ h) ∷ hs) = just_ended hs

pub with_empty : (gs hs : List (List ℕ)) → option_string (gs ++ empty hs) ≡ option_string gs
with_empty [] hs = just_ended hs
with_empty (g ∷ gs) hs = ap (λ l. g ++ l) (with_empty gs hs)

-- Bytes in place of the empty group at a place are one full group more.
pub filled : (gs : List (List ℕ)) (i b : ℕ) (g : List ℕ) → get_or gs i (0 ∷ []) ≡ [] →
    Permutation ((b ∷ g) ∷ full gs) (full (set gs i (b ∷ g)))
filled [] i b g e = absurd (cons≢nil e)
filled ([] ∷ gs) zero b g e = Permᴰ.refl ((b ∷ g) ∷ full gs)
filled ((a ∷ h) ∷ gs) zero b g e = absurd (cons≢nil e)
filled ([] ∷ gs) (suc i) b g e = filled gs i b g e
filled ((a ∷ h) ∷ gs) (suc i) b g e = trans (swap refl refl) (cons refl (filled gs i b g e))

-- A group in front of others, where it is one full group more than those behind them.
pub one_more_lem : (g : List ℕ) (gs : List (List ℕ)) {hs hs' all : List (List ℕ)} → Permutation (g ∷ hs) hs' → Permutation (gs ++ hs') all →
    Permutation (g ∷ (gs ++ hs)) all
one_more_lem g gs {hs} d r = trans (Permᴰ.symm (Permᴰ.middle g gs hs)) (trans (Permᴰ.append_left gs d) r)

-- The order of groups does not change the length of their string.
pub as_long : {gs hs : List (List ℕ)} → Permutation gs hs → length (option_string gs) ≡ length (option_string hs)
as_long nil = refl
as_long (cons e d) = simp length-append (omega (arith, ap length e, as_long d))
as_long (swap e f) = simp length-append (omega (arith, ap length e, ap length f))
as_long (trans d c) = as_long d ∙ as_long c
