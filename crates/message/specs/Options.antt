-- The option string of an extended message to the module. Document 01, "Payloads": an option, its argument, then the rest of the string,
-- until FF. 01, 06, 07, 08 have no argument; 02 has one byte, 00 to 0F or 81 to 8F; 03, 04, 05 have two.
use Rattle.std.specs.Prelude.{ℕ, ◌+◌, ◌*◌, List, [], ◌∷◌, ◌++◌, Bool, true, false, cond, ◌&&◌, ◌||◌, leb, eqb, Option, Some, None, is_some}
use Rattle.message.specs.Number.{bytes2}
use Rattle.message.specs.declared.options.Options.{Options}

-- No option given.
abbrev pub no_options : Options
no_options =
    record {
      mac_ack = false;
      retries = None;
      lower_delay = None;
      upper_delay = None;
      interval = None;
      parallel = false;
      no_response = false;
      sleep = false;
    }

-- The option is given.
unfoldable pub has_option : Options → ℕ → Bool
has_option o id =
    cond (eqb id 0x01) o.mac_ack
    (cond (eqb id 0x02) (is_some o.retries)
    (cond (eqb id 0x03) (is_some o.lower_delay)
    (cond (eqb id 0x04) (is_some o.upper_delay)
    (cond (eqb id 0x05) (is_some o.interval)
    (cond (eqb id 0x06) o.parallel
    (cond (eqb id 0x07) o.no_response
    (cond (eqb id 0x08) o.sleep false)))))))

-- The options with one more: without an argument, with retries, with two bytes.
unfoldable pub give_flag : Options → ℕ → Options
give_flag o id =
    record {
      mac_ack = eqb id 0x01 || o.mac_ack;
      retries = o.retries;
      lower_delay = o.lower_delay;
      upper_delay = o.upper_delay;
      interval = o.interval;
      parallel = eqb id 0x06 || o.parallel;
      no_response = eqb id 0x07 || o.no_response;
      sleep = eqb id 0x08 || o.sleep;
    }

abbrev pub give_retries : Options → ℕ → Options
give_retries o b =
    record {
      mac_ack = o.mac_ack;
      retries = Some b;
      lower_delay = o.lower_delay;
      upper_delay = o.upper_delay;
      interval = o.interval;
      parallel = o.parallel;
      no_response = o.no_response;
      sleep = o.sleep;
    }

-- The argument of option own where option id is given with v.
unfoldable pub word_or : ℕ → ℕ → ℕ → Option ℕ → Option ℕ
word_or own id v was = cond (eqb own id) (Some v) was

abbrev pub give_word : Options → ℕ → ℕ → Options
give_word o id v =
    record {
      mac_ack = o.mac_ack;
      retries = o.retries;
      lower_delay = word_or 0x03 id v o.lower_delay;
      upper_delay = word_or 0x04 id v o.upper_delay;
      interval = word_or 0x05 id v o.interval;
      parallel = o.parallel;
      no_response = o.no_response;
      sleep = o.sleep;
    }

-- A retry byte: 00 to 0F or 81 to 8F.
unfoldable pub is_retry : ℕ → Bool
is_retry b = leb b 0x0F || (leb 0x81 b && leb b 0x8F)

-- What an option string is: bad (10), or options and the place behind its FF.
pub data Opted : Type 0 where
  bad : Opted
  opted : Options → ℕ → Opted

-- An option is one of 01 to 08.
unfoldable pub is_option : ℕ → Bool
is_option id = leb 0x01 id && leb id 0x08

-- What is expected next in an option string: an option, the retry byte of 02, or the first or the second byte of the argument of id.
pub data Expected : Type 0 where
  option retry_byte : Expected
  first_of : ℕ → Expected
  second_of : ℕ → ℕ → Expected

-- Behind the option id its argument is expected, or where it has none the next option.
unfoldable pub expected_after : ℕ → Expected
expected_after id = cond (eqb id 0x02) retry_byte (cond (leb 0x03 id && leb id 0x05) (first_of id) option)

-- An option without an argument is given at once; one with an argument when its argument is read.
unfoldable pub given_after : Options → ℕ → Options
given_after o id = cond (leb 0x02 id && leb id 0x05) o (give_flag o id)

-- The rest of an option string, which stands at `at`, where the options o are given already: FF ends it; a repeated or unknown option, a cut
-- argument, a wrong retry byte or no FF is bad.
unfoldable pub options_from : Expected → Options → ℕ → List ℕ → Opted
options_from e o at [] = bad
options_from option o at (id ∷ s) =
    let rest : Opted = options_from (expected_after id) (given_after o id) (at + 1) s in
    cond (eqb id 0xFF) (opted o (at + 1)) (cond (has_option o id) bad (cond (is_option id) rest bad))
options_from retry_byte o at (b ∷ s) = let rest : Opted = options_from option (give_retries o b) (at + 1) s in cond (is_retry b) rest bad
options_from (first_of id) o at (a ∷ s) = options_from (second_of id a) o (at + 1) s
options_from (second_of id a) o at (b ∷ s) = options_from option (give_word o id (a * 256 + b)) (at + 1) s

-- The bytes of an option with its argument; none where it is not given.
abbrev pub flag_bytes : ℕ → Bool → List ℕ
flag_bytes id true = id ∷ []
flag_bytes id false = []

abbrev pub retry_bytes : Option ℕ → List ℕ
retry_bytes None = []
retry_bytes (Some b) = 0x02 ∷ b ∷ []

abbrev pub word_bytes : ℕ → Option ℕ → List ℕ
word_bytes id None = []
word_bytes id (Some v) = id ∷ bytes2 v

-- The options in ascending order, each one's bytes a group; the group of an option that is not given is empty.
abbrev pub option_groups : Options → List (List ℕ)
option_groups o =
    flag_bytes 0x01 o.mac_ack
    ∷ retry_bytes o.retries
    ∷ word_bytes 0x03 o.lower_delay
    ∷ word_bytes 0x04 o.upper_delay
    ∷ word_bytes 0x05 o.interval
    ∷ flag_bytes 0x06 o.parallel
    ∷ flag_bytes 0x07 o.no_response
    ∷ flag_bytes 0x08 o.sleep
    ∷ []

-- The groups one behind another, then FF.
abbrev pub option_string : List (List ℕ) → List ℕ
option_string [] = 0xFF ∷ []
option_string (g ∷ gs) = g ++ option_string gs

-- The option string that is written: the options in ascending order.
unfoldable pub option_bytes : Options → List ℕ
option_bytes o = option_string (option_groups o)

-- The retry byte, where it is given, is one of those allowed (10).
abbrev pub retry_allowed : Option ℕ → Bool
retry_allowed None = true
retry_allowed (Some b) = is_retry b
