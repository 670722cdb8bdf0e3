-- `octets::runs::run_len` meets its contract: all bytes before one pass, and where that one does not, the count ends there.
-- Assumes nothing.
use Rattle.std.proofs.Common.{sym, ◌∙◌, arith}
use Rattle.octets.proofs.Prefix.{prefix_goes, prefix_ends, prefix_most}
use Rattle.octets.proofs.runs.run_len.Goals as goal

pub returns-then-not-passes-clause-value : goal.returns-then-not-passes-clause-value
returns-then-not-passes-clause-value g c = λ p t.
    omega (arith, c.loop-i.invariant p t, prefix_ends p c.args.s.now c.loop-i.i (omega arith) (sym (t _ _ (omega arith) c.passes.ensures) ∙ c.if-not-passes.true))

pub loop-i-preserved : goal.loop-i-preserved
loop-i-preserved g c = λ p t.
    prefix_goes p c.args.s.now c.loop-i.i (omega arith) (c.loop-i.invariant p t) (sym (t _ _ (omega arith) c.passes.ensures) ∙ c.if-not-passes.false)

pub returns-clause-value : goal.returns-clause-value
returns-clause-value g c = λ p t. omega (arith, c.loop-i.invariant p t, prefix_most p c.args.s.now)
