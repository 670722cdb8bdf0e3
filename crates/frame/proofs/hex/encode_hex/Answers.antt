-- `frame::hex::encode_hex` meets its contract: where the digits have room, `encode` puts them to the front.
-- Assumes nothing.
use Rattle.std.proofs.Common.{◌≡◌, ◌∙◌, ◌/◌, ◌<◌, ◌≤◌, List, ℕ, false, true, length, nat_le, refl, sym, ap, arith, le-leb}
use Rattle.std.proofs.lemmas.Bool.{lt-leb}
use Rattle.std.proofs.Math.Seq.{paste}
use Rattle.frame.specs.Hex.{hex}
use Rattle.frame.proofs.HexLaws.{length_hex}
use Rattle.frame.proofs.Lists.{paste_front}
use Rattle.frame.proofs.hex.encode_hex.Goals as goal

no_room : (s d : List ℕ) → length d / 2 < length s → nat_le (length (hex s)) (length d) ≡ false
no_room s d h = lt-leb (length (hex s)) (length d) (omega (arith, length_hex s, h))

room : (s d : List ℕ) → length s ≤ length d / 2 → nat_le (length (hex s)) (length d) ≡ true
room s d h = le-leb (length (hex s)) (length d) (omega (arith, length_hex s, h))

pub returns-then-dst-src-clause-value : goal.returns-then-dst-src-clause-value
returns-then-dst-src-clause-value c = sym (no_room c.args.src.now c.args.dst.now c.if-dst-src.true)

pub returns-then-dst-src-clause-dst_after : goal.returns-then-dst-src-clause-dst_after
returns-then-dst-src-clause-dst_after c = rw (no_room c.args.src.now c.args.dst.now c.if-dst-src.true) refl

pub returns : goal.returns
returns c =
    let front = c.encode.ensures ∙ ap (paste c.args.dst.now 0 (hex c.args.src.now)) (sym (length_hex c.args.src.now)) ∙ paste_front c.args.dst.now (hex c.args.src.now) in
    record {
      value = sym (room c.args.src.now c.args.dst.now c.if-dst-src.false);
      dst_after = rw (room c.args.src.now c.args.dst.now c.if-dst-src.false) front;
    }
