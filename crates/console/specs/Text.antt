-- Words and numbers of a line.
use Rattle.std.specs.Prelude.{ℕ, ◌+◌, ◌-◌, ◌*◌, Bool, cond, ◌&&◌, List, [], ◌∷◌, leb, ltb, ◌==◌, drop}
use Rattle.std.specs.List.{position_or_len}

-- The place of the first such byte of a text, or the text's length where there is none.
abbrev pub index_of : ℕ → List ℕ → ℕ
index_of b s = position_or_len (λ (c : ℕ). c == b) s

-- The bytes behind the first space, or none where there is none.
abbrev pub behind_space : List ℕ → List ℕ
behind_space s = drop (index_of 0x20 s + 1) s

-- c is a decimal digit.
abbrev pub is_decimal : ℕ → Bool
is_decimal c = leb 0x30 c && leb c 0x39

-- A number with one more decimal digit behind its last, or as it is where it has six.
abbrev pub with_digit : ℕ → ℕ → ℕ
with_digit v c = cond (ltb v 100000) (10 * v + (c - 0x30)) v

-- The number v continued by the decimal digits at the front of a text.
abbrev pub number_from : ℕ → List ℕ → ℕ
number_from v [] = v
number_from v (c ∷ s) = cond (is_decimal c) (number_from (with_digit v c) s) v
