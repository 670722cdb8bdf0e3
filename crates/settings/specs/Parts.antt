-- What the functions behind the public calls answer.
use Rattle.std.specs.Prelude.{ℕ, zero, suc, Bool, true, false, cond, not, ◌&&◌, List, [], ◌∷◌, eqb, ltb, get_or, set}
use Rattle.settings.specs.List.{width_of}

-- The place of an identifier in the code's table of widths: 00 to 0C, the unknown 0B too, stand at their own number, FF behind them, and all others share
-- the last place.
unfoldable pub place_of : ℕ → ℕ
place_of id = cond (ltb id 13) id (cond (eqb id 0xFF) 13 14)

-- `list_from` with a mark at the place of each identifier that was seen before.
unfoldable pub marked_from : ℕ → List Bool → List ℕ → Bool
marked_from zero marks [] = true
marked_from zero marks (id ∷ s) =
    not (eqb (width_of id) 0) && (not (get_or marks (place_of id) false) && marked_from (width_of id) (set marks (place_of id) true) s)
marked_from (suc w) marks [] = false
marked_from (suc w) marks (b ∷ s) = marked_from w marks s
