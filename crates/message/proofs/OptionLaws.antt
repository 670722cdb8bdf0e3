-- Laws on the bytes of options, and on what an option string says, option by option.
-- Assumes nothing.
use Prim.Native.Nat.{ℕ, ◌+◌, ◌≤◌, ◌<◌}
use native.Mathlib.Omega.{arith}
use mathlib.Core.Path.{◌≡◌, refl}
use mathlib.Core.List.{List, [], ◌∷◌, ◌++◌, append_assoc}
use mathlib.Core.Bool.{true}
use borrow.Author.Tests.{ne_eqb}
use lib.ListN.{length, get_or, drop, length-drop, drop_of_length-le}
use Rattle.std.proofs.lemmas.List.{drop_more}
use Rattle.message.specs.declared.options.Options.{Options}
use Rattle.message.specs.Options.{Expected, option, first_of, bad, has_option, options_from}
use Rattle.message.specs.Options.{flag_bytes, retry_bytes, word_bytes, option_bytes}

-- The options one behind another, and FF, behind a list.
pub options_behind : (p : List ℕ) (o : Options)
    → ((((((((p ++ flag_bytes 0x01 o.mac_ack) ++ retry_bytes o.retries) ++ word_bytes 0x03 o.lower_delay) ++ word_bytes 0x04 o.upper_delay)
    ++ word_bytes 0x05 o.interval) ++ flag_bytes 0x06 o.parallel) ++ flag_bytes 0x07 o.no_response) ++ flag_bytes 0x08 o.sleep) ++ (0xFF ∷ [])
    ≡ p ++ option_bytes o
unfolding option_bytes
options_behind p o = simp append_assoc

-- What is left of a list begins with the element there.
pub drop_one : (s : List ℕ) (i : ℕ) → i < length s → drop i s ≡ get_or s i 0 ∷ drop (i + 1) s
drop_one s i h = drop_more s i 0 h

-- Nothing left is bad.
pub nothing_left : (e : Expected) (o : Options) (at : ℕ) (s : List ℕ) (i : ℕ) → length s ≤ i → options_from e o at (drop i s) ≡ bad
unfolding options_from
nothing_left e o at s i h = rw (drop_of_length-le s h)

-- One byte left of two is bad.
pub one_left : (id : ℕ) (o : Options) (at : ℕ) (s : List ℕ) (i : ℕ) → length s ≤ i + 1 → options_from (first_of id) o at (drop i s) ≡ bad
unfolding options_from
one_left id o at s i h = one (drop i s) (omega (arith, length-drop i s))
  where
    one : (l : List ℕ) → length l ≤ 1 → options_from (first_of id) o at l ≡ bad
    one [] h = refl
    one (b ∷ []) h = refl
    one (b ∷ d ∷ l) h = absurd (omega arith)

-- An option that is given already is bad.
pub given_already : (o : Options) (at : ℕ) (s : List ℕ) (i b : ℕ) → i < length s → b ≡ get_or s i 0 → (b ≡ 0xFF → ⊥) → has_option o b ≡ true
    → options_from option o at (drop i s) ≡ bad
unfolding options_from
given_already o at s i b h e n g = rw (drop_one s i h, ← e, ne_eqb b 0xFF n, g)
