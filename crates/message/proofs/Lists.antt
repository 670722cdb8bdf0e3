-- Laws on lists of bytes, and on a payload taken apart byte by byte.
-- Assumes nothing.
use Prim.Native.Nat.{ℕ, zero, suc, ◌+◌, ◌*◌, ◌≤◌, ◌<◌}
use mathlib.Core.Path.{◌≡◌, refl, ap, ◌∙◌}
use mathlib.Core.List.{List, [], ◌∷◌, ◌++◌}
use native.Mathlib.Nat.{zero-add, add-zero}
use native.Mathlib.Omega.{arith}
use lib.ListN.{length, drop, drop_of_length-le}
use lib.Seq.{drop-cons}
use Rattle.frame.specs.Elements.{Bytes}
use Rattle.message.specs.Number.{byte_at, word_at, long_at, bytes2, bytes4}
use Rattle.std.proofs.lemmas.Nat.{be_bytes_2, be_bytes_4}

-- Every place of a list of bytes has a byte.
pub byte_at_lem : (p : List ℕ) → Bytes p → (i : ℕ) → byte_at p i < 256
byte_at_lem [] h i = omega arith
byte_at_lem (b ∷ p) h zero = h.0
byte_at_lem (b ∷ p) h (suc i) = byte_at_lem p h.1 i

-- The number of bytes gives them back.
pub word_bytes_lem : (a b : ℕ) → a < 256 → b < 256 → bytes2 (a * 256 + b) ≡ a ∷ b ∷ []
word_bytes_lem a b ha hb = be_bytes_2 (a ∷ b ∷ []) (a * 256 + b) refl (byte_at_lem (a ∷ b ∷ []) (ha, (hb, tt))) refl

long_bytes : (a b c d : ℕ) → a < 256 → b < 256 → c < 256 → d < 256
    → bytes4 (a * 16777216 + b * 65536 + c * 256 + d) ≡ a ∷ b ∷ c ∷ d ∷ []
long_bytes a b c d ha hb hc hd =
    be_bytes_4 (a ∷ b ∷ c ∷ d ∷ []) (a * 16777216 + b * 65536 + c * 256 + d) refl (byte_at_lem (a ∷ b ∷ c ∷ d ∷ []) (ha, (hb, (hc, (hd, tt))))) refl

-- A part of a list of bytes is one.
pub bytes_drop : (n : ℕ) (p : List ℕ) → Bytes p → Bytes (drop n p)
bytes_drop zero p h = h
bytes_drop (suc n) [] h = h
bytes_drop (suc n) (b ∷ p) h = bytes_drop n p h.1

pub bytes_front : (s t : List ℕ) → Bytes (s ++ t) → Bytes s
bytes_front [] t h = tt
bytes_front (b ∷ s) t h = (h.0, bytes_front s t h.1)

-- The n bytes from a place on.
abbrev pub places : List ℕ → ℕ → ℕ → List ℕ
places p i zero = []
places p i (suc n) = byte_at p i ∷ places p (suc i) n

-- A list from a place on is its next n bytes and what is behind them.
listed : (p : List ℕ) (i n : ℕ) → i + n ≤ length p → drop i p ≡ places p i n ++ drop (i + n) p
listed p i zero h = rw add-zero
listed p i (suc n) h =
    let same : i + suc n ≡ suc i + n = omega arith in
    drop-cons p i 0 (omega arith) ∙ ap (λ l. byte_at p i ∷ l) (listed p (suc i) n (omega arith) ∙ rw same)

-- And so the whole of a list with at least, or just, n bytes.
pub at_least : (p : List ℕ) (n : ℕ) → n ≤ length p → p ≡ places p 0 n ++ drop n p
at_least p n h = listed p 0 n (omega arith) ∙ rw zero-add

pub just : (p : List ℕ) (n : ℕ) → length p ≡ n → p ≡ places p 0 n ++ []
just p n h = at_least p n (omega arith) ∙ ap (λ l. places p 0 n ++ l) (drop_of_length-le p {i = n} (omega arith))

-- The fields of a payload p, each in front of equal lists.
module _ (p : List ℕ) (h : Bytes p) (i : ℕ) {s t : List ℕ} where
  pub byte_next : s ≡ t → byte_at p i ∷ s ≡ byte_at p i ∷ t
  byte_next e = ap (λ l. byte_at p i ∷ l) e

  pub fixed_next : {b : ℕ} → byte_at p i ≡ b → s ≡ t → byte_at p i ∷ s ≡ b ∷ t
  fixed_next f e = cc

  pub word_next : s ≡ t → byte_at p i ∷ byte_at p (i + 1) ∷ s ≡ bytes2 (word_at p i) ++ t
  word_next e = cc (word_bytes_lem (byte_at p i) (byte_at p (i + 1)) (byte_at_lem p h i) (byte_at_lem p h (i + 1)))

  pub long_next : s ≡ t → byte_at p i ∷ byte_at p (i + 1) ∷ byte_at p (i + 2) ∷ byte_at p (i + 3) ∷ s ≡ bytes4 (long_at p i) ++ t
  long_next e =
      cc
      (long_bytes (byte_at p i) (byte_at p (i + 1)) (byte_at p (i + 2)) (byte_at p (i + 3))
      (byte_at_lem p h i) (byte_at_lem p h (i + 1)) (byte_at_lem p h (i + 2)) (byte_at_lem p h (i + 3)))

  pub zeros_next : long_at p i ≡ 0 → s ≡ t → byte_at p i ∷ byte_at p (i + 1) ∷ byte_at p (i + 2) ∷ byte_at p (i + 3) ∷ s ≡ 0 ∷ 0 ∷ 0 ∷ 0 ∷ t
  zeros_next z e =
      let first : byte_at p i ≡ 0 = omega arith in
      let second : byte_at p (i + 1) ≡ 0 = omega arith in
      let third : byte_at p (i + 2) ≡ 0 = omega arith in
      let fourth : byte_at p (i + 3) ≡ 0 = omega arith in
      cc
