-- The statuses as numbers. A field that a status does not have is 0 in reading and is not looked at in writing.
use Rattle.std.specs.Prelude.{ℕ}
use Rattle.message.specs.declared.status.StandardStatus.{StandardStatus}
use Rattle.message.specs.declared.status.RemoteStatus.{RemoteStatus}
use Rattle.boundary.specs.declared.status.StatusNumbers.{StatusNumbers}

-- No status.
abbrev pub no_status : StatusNumbers
no_status =
    record {
      identifier = 0;
      serial = 0;
      destination = 0;
      time = 0;
      relays = 0;
      supply = 0;
      unused = 0;
      di = 0;
      di_changed = 0;
      ad1 = 0;
      ad2 = 0;
      ad3 = 0;
      ad4 = 0;
      correction = 0;
      signals = 0;
      mask = 0;
      interrupts = 0;
    }

-- The numbers of a status beside its sender and its LQI.
abbrev pub standard_part : StandardStatus → StatusNumbers
standard_part s =
    record no_status {
      identifier = s.identifier;
      serial = s.serial;
      destination = s.destination;
      time = s.time;
      relays = s.relays;
      supply = s.supply;
      unused = s.unused;
      di = s.di;
      di_changed = s.di_changed;
      ad1 = s.ad1;
      ad2 = s.ad2;
      ad3 = s.ad3;
      ad4 = s.ad4;
      correction = s.correction;
    }

abbrev pub remote_part : RemoteStatus → StatusNumbers
remote_part s =
    record no_status {
      serial = s.serial;
      destination = s.destination;
      time = s.time;
      relays = s.relays;
      unused = s.unused;
      signals = s.signals;
      mask = s.mask;
      interrupts = s.interrupts;
    }

-- The status that numbers stand for.
abbrev pub standard_in : ℕ → ℕ → StatusNumbers → StandardStatus
standard_in sender lqi n =
    record {
      sender = sender;
      identifier = n.identifier;
      lqi = lqi;
      serial = n.serial;
      destination = n.destination;
      time = n.time;
      relays = n.relays;
      supply = n.supply;
      unused = n.unused;
      di = n.di;
      di_changed = n.di_changed;
      ad1 = n.ad1;
      ad2 = n.ad2;
      ad3 = n.ad3;
      ad4 = n.ad4;
      correction = n.correction;
    }

abbrev pub remote_in : ℕ → ℕ → StatusNumbers → RemoteStatus
remote_in sender lqi n =
    record {
      sender = sender;
      lqi = lqi;
      serial = n.serial;
      destination = n.destination;
      time = n.time;
      relays = n.relays;
      signals = n.signals;
      mask = n.mask;
      interrupts = n.interrupts;
      unused = n.unused;
    }
