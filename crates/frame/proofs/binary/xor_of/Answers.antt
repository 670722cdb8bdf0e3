-- `frame::binary::xor_of` meets its contract: the XOR of the words, carried over the bytes that are left, is that of all.
-- Assumes nothing.
use Rattle.std.proofs.Common.{◌≡◌, ℕ, ◌*◌, ◌/◌, length, ap₂, ◌∙◌, rules, arith}
use Rattle.std.specs.List.{fold}
use lib.Bits.{bit_xor}
use Rattle.frame.specs.Binary.{xor_from}
use Rattle.frame.proofs.XorLaws.{xor_front, xor_fold}
use Rattle.frame.proofs.binary.xor_of.Goals as goal

pub returns : goal.returns
returns c =
    let s = c.args.s.now in
    let whole : length s / 8 * 8 ≡ 8 * (length s / 8) = omega arith in
    let is : c.fold.result ≡ fold (λ (x b : ℕ). bit_xor x b) c.folded.result c.as_chunks.result.1.now = search rules in
    is
    ∙ xor_fold c.folded.result c.as_chunks.result.1.now
    ∙ ap₂ xor_from (c.folded.ensures ∙ c.xor_words.ensures) (rw whole at c.as_chunks.ensures.back)
    ∙ xor_front s (8 * (length s / 8))
