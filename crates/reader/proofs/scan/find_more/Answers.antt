-- `reader::scan::find_more` meets its contract: what was judged before is left out of what the scan counted.
-- Assumes nothing.
use native.Mathlib.Omega.{arith}
use Rattle.reader.proofs.Passing.{over_most, first_over}
use Rattle.reader.proofs.scan.find_more.Goals as goal

pub counted-requires-clause-more_bound : goal.counted-requires-clause-more_bound
counted-requires-clause-more_bound c =
    omega (arith, c.find-found.ensures.judged_value, over_most c.args.format c.args.places c.args.s.now c.requires.scannable)

pub counted-requires-clause-known_bound : goal.counted-requires-clause-known_bound
counted-requires-clause-known_bound c =
    omega (
      arith,
      c.find-found.ensures.judged_value,
      c.left_out-known.ensures.value,
      first_over c.args.format c.args.places c.args.s.now c.requires.from_first c.args.known c.requires.known_bound,
    )
