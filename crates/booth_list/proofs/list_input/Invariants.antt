-- `booth_list::list_input` is safe and ends. The invariant: the buffers keep their lengths, and each read that was made added at most 66,053 bytes of noise.
-- Assumes nothing.
use Rattle.std.proofs.Common.{◌≡◌, ◌*◌, ◌≤◌, length}
use Rattle.booth_list.proofs.list_input.Given as goal

abbrev pub invariant-loop : goal.invariant-loop
invariant-loop g l = (length l.chunk ≡ 65536) × (length l.out ≡ 198159) × (l.noise ≤ l.counter * 66053)
