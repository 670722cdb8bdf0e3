-- `frame::hex::byte_sum` meets its contract, in the library's word for the sum.
-- Assumes nothing.
use Rattle.std.proofs.Common.{◌≡◌, ◌∙◌, rules, ℕ}
use Rattle.std.specs.List.{sum_by}
use Rattle.frame.proofs.HexLaws.{sum_is}
use Rattle.frame.proofs.hex.byte_sum.Goals as goal

pub returns : goal.returns
returns c =
    let sum : c.sum.result ≡ sum_by (λ (b : ℕ). b) c.args.s.now = search rules in
    sum ∙ sum_is c.args.s.now
