-- Lists of each identifier, and bytes of each kind that are no list: one table, and one statement that is computed.
use Rattle.std.specs.Prelude.{ℕ, zero, suc, ◌+◌, ◌-◌, ◌≡◌, length, replicate}
use mathlib.Core.List.{List, [], ◌∷◌, ◌++◌, map, flatten}
use Rattle.settings.specs.Walk.{Finding, found, nothing, finding}

-- What looks at n indexes give, the first of them i.
abbrev looks : List ℕ → ℕ → ℕ → List Finding
looks s i zero = []
looks s i (suc n) = finding s i ∷ looks s (i + 1) n

-- A row: bytes, and what looks at indexes from 0 on give.
pub record Row : Type 0 where
  pub bytes : List ℕ
  pub says : List Finding

abbrev row : List ℕ → List Finding → Row
row bytes says = record { bytes = bytes; says = says }

-- A setting is found.
abbrev has : ℕ → ℕ → ℕ → Finding
has id start len = found (record { identifier = id; start = start; len = len })

-- The bytes are no list: 17 at each index.
abbrev no : List ℕ → Row
no bytes = row bytes (nothing 17 ∷ nothing 17 ∷ [])

-- An identifier whose data have w bytes: a list of it alone; its data one byte short; and one byte long, where the byte too many, which is no identifier,
-- is taken for one.
abbrev known : ℕ → ℕ → List Row
known id w =
    row (id ∷ replicate w 0x55) (has id 1 w ∷ nothing 0 ∷ [])
    ∷ no (id ∷ replicate (w - 1) 0x55)
    ∷ no (id ∷ replicate (w + 1) 0x55)
    ∷ []

-- An unknown one, with data of each width.
abbrev unknown : ℕ → List Row
unknown id = map (λ w. no (id ∷ replicate w 0x55)) (0 ∷ 1 ∷ 2 ∷ 4 ∷ 16 ∷ [])

abbrev pub identifier_rows : List Row
identifier_rows =
    flatten
    (known 0x00 4
    ∷ known 0x01 4
    ∷ known 0x02 2
    ∷ known 0x03 1
    ∷ known 0x04 1
    ∷ known 0x05 1
    ∷ known 0x06 1
    ∷ known 0x07 4
    ∷ known 0x08 1
    ∷ known 0x09 1
    ∷ known 0x0A 16
    ∷ unknown 0x0B
    ∷ known 0x0C 2
    ∷ unknown 0x0D
    ∷ unknown 0xFE
    ∷ known 0xFF 1
    ∷ [])

-- The empty list; three settings in descending order, and the index past the last; three with equal data; two settings, where the second is the bytes that
-- are too many for the first; a repeated identifier, behind its data and further on; an identifier without data at the end; FF alone, and FF with its byte.
abbrev pub list_rows : List Row
list_rows =
    row [] (nothing 0 ∷ [])
    ∷ row (0x0C ∷ 0x0D ∷ 0x0A ∷ 0x07 ∷ 0x00 ∷ 0x00 ∷ 0x25 ∷ 0x80 ∷ 0x03 ∷ 0x01 ∷ []) (has 0x0C 1 2 ∷ has 0x07 4 4 ∷ has 0x03 9 1 ∷ nothing 0 ∷ [])
    ∷ row (0x03 ∷ 0x01 ∷ 0x04 ∷ 0x01 ∷ 0x05 ∷ 0x01 ∷ []) (has 0x03 1 1 ∷ has 0x04 3 1 ∷ has 0x05 5 1 ∷ nothing 0 ∷ [])
    ∷ row (0x03 ∷ 0x01 ∷ 0xFF ∷ 0x00 ∷ []) (has 0x03 1 1 ∷ has 0xFF 3 1 ∷ nothing 0 ∷ [])
    ∷ no (0x03 ∷ 0x01 ∷ 0x03 ∷ 0x01 ∷ [])
    ∷ no (0xFF ∷ 0x00 ∷ 0x03 ∷ 0x01 ∷ 0xFF ∷ 0x00 ∷ [])
    ∷ no (0x03 ∷ 0x01 ∷ 0x04 ∷ [])
    ∷ no (0xFF ∷ [])
    ∷ row (0xFF ∷ 0x00 ∷ []) (has 0xFF 1 1 ∷ nothing 0 ∷ [])
    ∷ []

-- Each row is answered as it says.
abbrev pub Examples : Type 0
Examples =
    let all : List Row = identifier_rows ++ list_rows in
    map (λ (r : Row). looks r.bytes 0 (length r.says)) all ≡ map (λ (r : Row). r.says) all
