-- The table of specs/Examples.antt holds, by computation.
-- Assumes nothing.
use mathlib.Core.Path.{refl}
use Rattle.frame.specs.Checks.{byte, test, word, bytes, last_byte}
use Rattle.frame.specs.Binary.{binary_front, body, binary}
use Rattle.frame.specs.Digit.{is_digit, digit_value}
use Rattle.frame.specs.Ascii.{ascii_front, hex_digits, line_ending, after_digits, ascii}
use Rattle.frame.specs.Rule.{join}
use Rattle.reader.specs.Reader.{settle, line_from, line_on, quiet_held}
use Rattle.message.specs.Address.{is_plain, is_extended}
use Rattle.message.specs.Options.{has_option, give_flag, word_or, is_retry, is_option, expected_after, given_after, options_from, option_bytes}
use Rattle.settings.specs.List.{is_list, list_from, width_of}
use Rattle.message.specs.Setup.{command_of}
use Rattle.message.specs.ToModule.{read_to_module, to_itself, to_address, to_plain_address, to_extended_address, request_at, output_change_at}
use Rattle.message.specs.FromModule.{read_from_module, from_itself, response_meaning, ack_meaning, information_meaning, settings_meaning, control_meaning}
use Rattle.message.specs.FromModule.{sender_meaning, reception_meaning, status_meaning, standard_meaning, remote_meaning}
use Rattle.message.specs.Examples.{Examples, ChannelsAreRead}

pub examples : Examples
unfolding byte test word bytes binary_front ascii_front last_byte body binary is_digit digit_value hex_digits line_ending after_digits ascii join settle line_from line_on quiet_held is_plain is_extended has_option give_flag word_or is_retry is_option expected_after given_after options_from option_bytes is_list list_from width_of command_of read_to_module to_itself to_address to_plain_address to_extended_address request_at output_change_at read_from_module from_itself sender_meaning response_meaning ack_meaning information_meaning settings_meaning control_meaning reception_meaning status_meaning standard_meaning remote_meaning
examples = refl

pub channels_are_read : ChannelsAreRead
channels_are_read = refl
