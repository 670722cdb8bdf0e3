-- The examples of the mark, computed.
-- Assumes nothing.
use mathlib.Core.Path.{refl}
use Rattle.frame.specs.Checks.{byte, test, word, bytes, last_byte}
use Rattle.frame.specs.Binary.{binary, body}
use Rattle.frame.specs.Digit.{is_digit, digit_value}
use Rattle.frame.specs.Ascii.{hex_digits, line_ending, after_digits, ascii}
use Rattle.frame.specs.Rule.{join, places, out_from, rule}
use Rattle.reader.specs.Reader.{settle, line_from, line_on, quiet_held}
use Rattle.reader.specs.MarkExamples.{NextCallTakesIt, OtherFormats, HeldBehindTheFrame, BeganEarlier, QuietEndsIt, AnyEnding}

pub next_call_takes_it : NextCallTakesIt
unfolding line_on line_from settle join binary body last_byte byte test word bytes
next_call_takes_it =
    record { stops = refl; cut = refl; stays = refl; taken = refl; once = refl; other = refl; behind = refl }

pub other_formats : OtherFormats
unfolding line_on line_from settle join binary body last_byte ascii hex_digits is_digit digit_value line_ending after_digits byte test word bytes
other_formats = record { required = refl; ascii = refl; stays = refl; unset = refl; unset_ascii = refl }

pub held_behind_the_frame : HeldBehindTheFrame
unfolding line_on line_from settle quiet_held join rule places out_from binary body last_byte byte test word bytes
held_behind_the_frame = record { first = refl; next = refl; at_quiet = refl; all = refl }

pub began_earlier : BeganEarlier
unfolding line_on line_from settle join binary body byte test word bytes
began_earlier = record { cut = refl; held = refl }

pub quiet_ends_it : QuietEndsIt
unfolding line_on line_from settle quiet_held join binary body last_byte byte test word bytes
quiet_ends_it = record { waits = refl; found = refl; dropped = refl; none = refl; after = refl }

pub any_ending_lem : AnyEnding
unfolding line_on line_from settle quiet_held join ascii hex_digits is_digit digit_value line_ending after_digits byte test
any_ending_lem =
    record {
      at_cr = refl;
      cut = refl;
      stays = refl;
      taken = refl;
      once = refl;
      other = refl;
      at_lf = refl;
      behind_lf = refl;
      held = refl;
      at_quiet = refl;
      none = refl;
      behind_quiet = refl;
    }
