-- A settings list. Document 02, CR 1: "In a list an identifier must be followed by its data, and data by an identifier or the end." Sheet 000 has the
-- identifiers and what their data are.
use Rattle.std.specs.Prelude.{ℕ, zero, suc, Bool, true, false, cond, not, ◌&&◌, ◌||◌, List, [], ◌∷◌, eqb}

-- Each identifier with the width of its data in bytes: four for a uint32, two for a uint16, one for a uint8, 16 for the key 0A.
abbrev pub widths : List (ℕ × ℕ)
widths =
    (0x00, 4)
    ∷ (0x01, 4)
    ∷ (0x02, 2)
    ∷ (0x03, 1)
    ∷ (0x04, 1)
    ∷ (0x05, 1)
    ∷ (0x06, 1)
    ∷ (0x07, 4)
    ∷ (0x08, 1)
    ∷ (0x09, 1)
    ∷ (0x0A, 16)
    ∷ (0x0C, 2)
    ∷ (0xFF, 1)
    ∷ []

-- The width that stands beside an identifier; 0 where it stands nowhere.
abbrev pub width_in : List (ℕ × ℕ) → ℕ → ℕ
width_in [] id = 0
width_in (w ∷ ws) id = cond (eqb id w.0) w.1 (width_in ws id)

-- The width of the data of an identifier; 0 where it is unknown.
unfoldable pub width_of : ℕ → ℕ
width_of id = width_in widths id

-- The identifier is one of these.
abbrev pub among : List ℕ → ℕ → Bool
among [] id = false
among (x ∷ xs) id = eqb id x || among xs id

-- The rest of a list, where w more bytes of data are expected and then an identifier or the end. An identifier is known, and is none of those seen before.
unfoldable pub list_from : ℕ → List ℕ → List ℕ → Bool
list_from zero seen [] = true
list_from zero seen (id ∷ s) = not (eqb (width_of id) 0) && (not (among seen id) && list_from (width_of id) (id ∷ seen) s)
list_from (suc w) seen [] = false
list_from (suc w) seen (b ∷ s) = list_from w seen s

-- The bytes are a settings list; otherwise an identifier is unknown, repeated or cut (17).
unfoldable pub is_list : List ℕ → Bool
is_list s = list_from 0 [] s
