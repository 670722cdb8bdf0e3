-- `message::options::put_options` meets its contract: the options in a row, and FF behind them, are the option string.
-- Assumes nothing.
use Rattle.message.proofs.OptionLaws.{options_behind}
use Rattle.message.proofs.options.put_options.Goals as goal

pub returns : goal.returns
returns c =
    rw (
      c.put.ensures.bytes,
      c.put_flag-4.ensures.bytes,
      c.put_flag-3.ensures.bytes,
      c.put_flag-2.ensures.bytes,
      c.put_word-3.ensures.bytes,
      c.put_word-2.ensures.bytes,
      c.put_word.ensures.bytes,
      c.put_retries.ensures.bytes,
      c.put_flag.ensures.bytes,
    )
    (options_behind c.args.payload.now c.args.options)
