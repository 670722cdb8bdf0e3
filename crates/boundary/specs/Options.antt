-- The options of an extended message as numbers: for each whether it is given, and its argument. The argument of an option that is not given is 0 in
-- reading and is not looked at in writing.
use Rattle.std.specs.Prelude.{false, is_some, unwrap_or}
use Rattle.std.specs.Bool.{then_some}
use Rattle.message.specs.declared.options.Options.{Options}
use Rattle.boundary.specs.declared.options.OptionNumbers.{OptionNumbers}

-- No option given.
abbrev pub no_numbers : OptionNumbers
no_numbers =
    record {
      mac_ack = false;
      has_retries = false;
      retries = 0;
      has_lower_delay = false;
      lower_delay = 0;
      has_upper_delay = false;
      upper_delay = 0;
      has_interval = false;
      interval = 0;
      parallel = false;
      no_response = false;
      sleep = false;
    }

-- The numbers of options.
abbrev pub option_numbers : Options → OptionNumbers
option_numbers o =
    record {
      mac_ack = o.mac_ack;
      has_retries = is_some o.retries;
      retries = unwrap_or o.retries 0;
      has_lower_delay = is_some o.lower_delay;
      lower_delay = unwrap_or o.lower_delay 0;
      has_upper_delay = is_some o.upper_delay;
      upper_delay = unwrap_or o.upper_delay 0;
      has_interval = is_some o.interval;
      interval = unwrap_or o.interval 0;
      parallel = o.parallel;
      no_response = o.no_response;
      sleep = o.sleep;
    }

-- The options that numbers stand for.
abbrev pub options_in : OptionNumbers → Options
options_in n =
    record {
      mac_ack = n.mac_ack;
      retries = then_some n.has_retries n.retries;
      lower_delay = then_some n.has_lower_delay n.lower_delay;
      upper_delay = then_some n.has_upper_delay n.upper_delay;
      interval = then_some n.has_interval n.interval;
      parallel = n.parallel;
      no_response = n.no_response;
      sleep = n.sleep;
    }
