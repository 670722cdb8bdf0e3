-- `message::from_module::write_reception` meets its contract: the parts in a row are the layout before the data.
-- Assumes nothing.
use Rattle.std.proofs.Common.{◌≡◌, sym, ◌∙◌, length, ◌++◌, arith}
use Rattle.std.proofs.lemmas.Grind.{common_steps}
use Rattle.message.specs.FromModule.{reception_layout}
use Rattle.message.proofs.WriteLaws.{plain_written}
use Rattle.message.proofs.from_module.write_reception.Goals as goal

pub returns : goal.returns
returns c =
    let counted : c.in_ok-len.len ≡ length c.args.«data».now = grind (arith, common_steps) in
    let whole : c.put_word.new.self ++ c.args.«data».now ≡ reception_layout c.args.message c.args.«data».now =
    rw (
      c.put_word.ensures.bytes,
      c.put-2.ensures.bytes,
      c.put_long-2.ensures.bytes,
      c.put_long.ensures.bytes,
      c.put.ensures.bytes,
      c.new-payload.ensures,
      counted,
    )
    in
    plain_written _ (sym c.is_plain.ensures ∙ c.in_ok-ensure.ensures.ok) (rw whole at c.send_with.ensures)
