-- Addresses. Document 01, "Payloads".
use Rattle.std.specs.Prelude.{ℕ, Bool, cond, ◌&&◌, ◌||◌, leb, eqb}

-- A plain address: 0 (the parent), 1 to 100, 120.
unfoldable pub is_plain : ℕ → Bool
is_plain a = leb a 100 || eqb a 120

-- An extended address: 0 to 0xFFFF or 0x80000000 to 0xFFFFFFFE.
unfoldable pub is_extended : ℕ → Bool
is_extended w = leb w 0xFFFF || (leb 0x80000000 w && leb w 0xFFFFFFFE)

-- Why a message with this address is not written, where a plain one is needed: 8; 0 where it is plain.
abbrev pub plain_refusal : ℕ → ℕ
plain_refusal a = cond (is_plain a) 0 8
