-- `message::options::read_options` meets its contract: an option that is given already is refused.
-- Assumes nothing.
use Rattle.std.proofs.Common.{sym, ◌∙◌, rules}
use Rattle.message.proofs.OptionLaws.{given_already}
use Rattle.message.proofs.options.+read_options.Goals as goal

pub returns-then-has : goal.returns-then-has
returns-then-has t c =
    sym (given_already c.args.options c.args.at c.args.s.now c.args.at c.in_ok-id.field-0.now (search rules) (search rules) c.if-id.false (sym c.has.ensures ∙ c.if-has.true))
