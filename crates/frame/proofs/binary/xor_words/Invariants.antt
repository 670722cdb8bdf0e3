use Rattle.std.proofs.Common.{◌≡◌, ◌*◌, take}
use Rattle.frame.specs.Binary.{xor_of}
use Rattle.frame.specs.DigitRuns.{bytes_xor}
use Rattle.frame.proofs.binary.xor_words.Given as goal

abbrev pub invariant-loop-word : goal.invariant-loop-word
invariant-loop-word l = bytes_xor 8 l.sum ≡ xor_of (take (8 * l.word-index) l.s)
