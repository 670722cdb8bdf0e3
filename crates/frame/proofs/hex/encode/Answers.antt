-- `frame::hex::encode` meets its contract: dst has the digits of the bytes before the one at i, and is else as it came.
-- Assumes nothing.
use Rattle.std.proofs.Common.{◌≡◌, length, refl, arith}
use lib.Seq.{paste-zero}
use Rattle.frame.specs.Hex.{hex}
use Rattle.frame.proofs.HexLaws.{hexed_next, hexed_all}
use Rattle.frame.proofs.hex.encode.Goals as goal

pub loop-i-init : goal.loop-i-init
loop-i-init c = (refl, paste-zero c.args.dst.now c.args.at (hex c.args.src.now))

pub loop-i-preserved : goal.loop-i-preserved
loop-i-preserved c = (omega arith, cc (hexed_next c.args.dst.now c.args.src.now c.args.at c.loop-i.i (omega arith) (omega arith)))

pub returns : goal.returns
returns c =
    let all : c.loop-i.i ≡ length c.args.src.now = omega arith in
    cc (hexed_all c.args.dst.now c.args.src.now c.args.at)
