-- What reading a payload gives, in either direction. Document 01, "Payloads" and "Refusal numbers"; document 02, CR 1.
use Rattle.std.specs.Prelude.{ℕ, List, cond, ◌&&◌, leb, eqb, length}
use Rattle.message.specs.Number.{byte_at}
use Rattle.message.specs.Address.{is_plain}

-- A refusal with its number; a message that carries data, which are the payload's bytes from a place on; or one that carries none.
pub data Meaning (A B : Type 0) : Type 0 where
  refused : ℕ → Meaning A B
  carrying : A → ℕ → Meaning A B
  bare : B → Meaning A B

-- Reading by the first byte: fewer than 2 or over 256 bytes 7; DB stands for the module itself; any other byte is an address.
module _ {A B : Type 0} where
  abbrev pub by_address : (List ℕ → Meaning A B) → (List ℕ → Meaning A B) → List ℕ → Meaning A B
  by_address itself addressed p =
      cond (leb 2 (length p) && leb (length p) 256) (cond (eqb (byte_at p 0) 0xDB) (itself p) (addressed p)) (refused 7)

  -- The address must be a plain one (8).
  abbrev pub by_plain : (List ℕ → Meaning A B) → List ℕ → Meaning A B
  by_plain plainly p = cond (is_plain (byte_at p 0)) (plainly p) (refused 8)
