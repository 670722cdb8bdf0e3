-- `octets::runs::all_pass` meets its contract: at each byte the tests so far say whether all bytes before it pass.
-- Assumes nothing.
use Rattle.std.proofs.Common.{◌≡◌, arith}
use Rattle.octets.proofs.Prefix.{upto_next, upto_end}
use Rattle.octets.proofs.runs.all_pass.Goals as goal

pub loop-b-preserved : goal.loop-b-preserved
loop-b-preserved g c = λ p t. upto_next p _ _ _ _ (omega arith) (t _ _ (omega arith) c.passes-all.ensures) (c.loop-b.invariant p t)

pub returns : goal.returns
returns g c = λ p t.
    let all : c.loop-b.b-index ≡ 16 = omega arith in
    upto_end p c.args.block.now 16 c.loop-b.all c.told-block (rw all at (c.loop-b.invariant p t))
