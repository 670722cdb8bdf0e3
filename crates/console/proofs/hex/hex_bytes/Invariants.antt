-- The first n bytes of the pairs are copied to the front, and the others are those of the pairs that are left.
use Rattle.std.proofs.Common.{◌≡◌, ◌≤◌, length, drop}
use Rattle.std.proofs.Math.Seq.{paste}
use Rattle.console.specs.Hex.{pair_bytes}
use Rattle.console.proofs.hex.hex_bytes.Given as goal

abbrev pub invariant-loop-n : goal.invariant-loop-n
invariant-loop-n l =
    (l.n ≤ length (pair_bytes l.pairs)) × (drop l.n (pair_bytes l.pairs) ≡ pair_bytes l.left) × (l.bytes ≡ paste l.initial.bytes 0 (pair_bytes l.pairs) l.n)
