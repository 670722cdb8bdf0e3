-- The examples of judged bytes, computed.
-- Assumes nothing.
use mathlib.Core.Path.{refl}
use Rattle.frame.specs.Checks.{byte, test, word, bytes, last_byte}
use Rattle.frame.specs.Binary.{binary, body}
use Rattle.frame.specs.Digit.{is_digit, digit_value}
use Rattle.frame.specs.Ascii.{hex_digits, line_ending, after_digits, ascii}
use Rattle.frame.specs.Rule.{join, places}
use Rattle.reader.specs.Reader.{settle, line_from, line_on, judged_to}
use Rattle.reader.specs.CountExamples.{Unfinished, OptionalNotJudged, HandMadeCounts}

pub unfinished : Unfinished
unfolding places judged_to line_on line_from settle join binary body last_byte byte test word bytes
unfinished = record { all = refl; at_line = refl; at_quiet = refl; further = refl; held = refl }

pub optional_not_judged : OptionalNotJudged
unfolding places judged_to binary body last_byte ascii hex_digits is_digit digit_value line_ending after_digits byte test word bytes
optional_not_judged = record { footer = refl; required = refl; lf = refl; cr_lf = refl; taken = refl; noise = refl }

pub hand_made_counts : HandMadeCounts
unfolding judged_to binary body last_byte ascii hex_digits is_digit digit_value line_ending after_digits byte test word bytes
hand_made_counts = record { all = refl; part = refl; few = refl; absorbed = refl; lf = refl }
