-- Laws of parts of lists: from one index up to another.
-- Assumes nothing.
use Prim.Native.Nat.{ℕ, ◌+◌, ◌-◌, ◌≤◌, ◌<◌}
use native.Mathlib.Numerals.{add-one}
use native.Mathlib.Omega.{arith}
use mathlib.Core.Path.{◌≡◌}
use mathlib.Core.List.{List, [], ◌∷◌}
use lib.ListN.{length, get_or, take, drop, set, length-take, length-drop}
use lib.Seq.{paste, set_split, append_snoc, take-take, drop-drop}
use Rattle.reader.specs.View.{part}
use Rattle.frame.proofs.Lists.{drop_take}

-- A store of the only element of a list is a copy of that list.
pub pasted_one : (d s : List ℕ) (at : ℕ) → length s ≡ 1 → at < length d → set d at (get_or s 0 0) ≡ paste d at s (length s)
pasted_one d [] at e h = absurd (omega arith)
pasted_one d (a ∷ []) at e h = rw (add-one, append_snoc) (set_split d at a h)
pasted_one d (a ∷ b ∷ s) at e h = absurd (omega arith)

-- A part inside a list has as many bytes as its ends say.
pub part_size : (from end : ℕ) (s : List ℕ) → from ≤ end → end ≤ length s → length (part from end s) ≡ end - from
part_size from end s h l = simp (length-take, length-drop) (omega arith)

-- A part of a list's rest is a part of the list.
pub part_rest : (k from end : ℕ) (s : List ℕ) → part from end (drop k s) ≡ part (k + from) (k + end) s
part_rest k from end s =
    let size : k + end - (k + from) ≡ end - from = omega arith in
    rw (drop-drop from k s, size)

-- A part of a list's front is a part of the list.
pub part_front : (from end n : ℕ) (s : List ℕ) → end ≤ n → part from end (take n s) ≡ part from end s
part_front from end n s l = rw drop_take (take-take (end - from) (n - from) (drop from s) (omega arith))
