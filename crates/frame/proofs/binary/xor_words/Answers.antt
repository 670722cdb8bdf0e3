-- `frame::binary::xor_words` meets its contract: at each turn the bytes of the word so far have the XOR of the first words' bytes.
-- Assumes nothing.
use Rattle.std.proofs.Common.{◌≡◌, ℕ, ◌*◌, ◌/◌, ◌<◌, [], length, take, drop, ap, ◌∙◌, arith, length-drop, length-take-le}
use Rattle.std.specs.Int.{from_le_bytes, w64}
use Rattle.octets.proofs.Prefix.{chunk_at}
use Rattle.frame.specs.Binary.{xor_of}
use Rattle.frame.specs.DigitRuns.{little_endian}
use Rattle.frame.proofs.Words.{word_little_endian}
use Rattle.frame.proofs.XorLaws.{xor_word}
use Rattle.frame.proofs.binary.xor_words.Goals as goal

pub loop-word-preserved : goal.loop-word-preserved
loop-word-preserved c =
    let s = c.args.s.now in
    let i = c.loop-word.word-index in
    let there : i < length s / 8 = omega (arith, c.as_chunks.ensures.front_len) in
    let is : c.from_le_bytes-sum.result ≡ little_endian (take 8 (drop (8 * i) s)) =
    (rw c.as_chunks.ensures.front at c.from_le_bytes-sum.ensures)
    ∙ ap (from_le_bytes w64) (chunk_at 8 (length s / 8) i s [] there)
    ∙ word_little_endian (take 8 (drop (8 * i) s)) (length-take-le 8 (drop (8 * i) s) (simp length-drop (omega arith)))
    in
    xor_word s i c.loop-word.sum c.from_le_bytes-sum.result (λ k. omega (arith, c.type_inv.s k)) (omega arith) is c.loop-word.invariant

pub returns : goal.returns
returns c =
    let all : c.loop-word.word-index ≡ length c.args.s.now / 8 = omega (arith, c.as_chunks.ensures.front_len) in
    c.loop-word.invariant ∙ ap (λ (n : ℕ). xor_of (take (8 * n) c.args.s.now)) all
