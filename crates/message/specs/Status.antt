-- The status messages. Document 01, "Payloads"; sheet 004's table decides the order of the channels.
use Rattle.std.specs.Prelude.{ℕ, ◌+◌, ◌*◌, ◌/◌, ◌%◌, List, [], ◌∷◌, ◌++◌}
use Rattle.message.specs.Number.{byte_at, word_at, long_at, bytes2, bytes4}
use Rattle.message.specs.declared.status.StandardStatus.{StandardStatus}
use Rattle.message.specs.declared.status.RemoteStatus.{RemoteStatus}
use Rattle.message.specs.declared.status.Channel.{Channel}
use Rattle.message.specs.declared.status.Channel.TheVariants.{One, Two, Three, Four}

-- Standard status (004), 23 bytes: sender, 81, identifier, 01, LQI, serial (4), destination, time (2), relays, supply (2), unused, DI, DI changed,
-- AD1 to AD4, correction.
abbrev pub standard_layout : StandardStatus → List ℕ
standard_layout m =
    m.sender ∷ 0x81 ∷ m.identifier ∷ 0x01 ∷ m.lqi
    ∷ (bytes4 m.serial
    ++ (m.destination ∷ (bytes2 m.time ++ (m.relays ∷ (bytes2 m.supply
    ++ (m.unused ∷ m.di ∷ m.di_changed ∷ m.ad1 ∷ m.ad2 ∷ m.ad3 ∷ m.ad4 ∷ m.correction ∷ []))))))

-- The status in a payload of 23 bytes.
abbrev pub standard_at : List ℕ → StandardStatus
standard_at p =
    record {
      sender = byte_at p 0;
      identifier = byte_at p 2;
      lqi = byte_at p 4;
      serial = long_at p 5;
      destination = byte_at p 9;
      time = word_at p 10;
      relays = byte_at p 12;
      supply = word_at p 13;
      unused = byte_at p 15;
      di = byte_at p 16;
      di_changed = byte_at p 17;
      ad1 = byte_at p 18;
      ad2 = byte_at p 19;
      ad3 = byte_at p 20;
      ad4 = byte_at p 21;
      correction = byte_at p 22;
    }

-- Remote status (003), 20 bytes: sender, 81, 0F, 01, LQI, serial (4), destination, time (2), relays, signals (2), mask (2), interrupt flags (2), unused.
abbrev pub remote_layout : RemoteStatus → List ℕ
remote_layout m =
    m.sender ∷ 0x81 ∷ 0x0F ∷ 0x01 ∷ m.lqi
    ∷ (bytes4 m.serial
    ++ (m.destination ∷ (bytes2 m.time ++ (m.relays ∷ (bytes2 m.signals ++ (bytes2 m.mask ++ (bytes2 m.interrupts ++ (m.unused ∷ []))))))))

-- The status in a payload of 20 bytes.
abbrev pub remote_at : List ℕ → RemoteStatus
remote_at p =
    record {
      sender = byte_at p 0;
      lqi = byte_at p 4;
      serial = long_at p 5;
      destination = byte_at p 9;
      time = word_at p 10;
      relays = byte_at p 12;
      signals = word_at p 13;
      mask = word_at p 15;
      interrupts = word_at p 17;
      unused = byte_at p 19;
    }

-- Channel k in mV is (AD * 4 + c) * 4, where c are the two correction bits from bit 2 (k - 1).
abbrev pub channel_from : ℕ → ℕ → ℕ
channel_from ad c = (ad * 4 + c) * 4

abbrev pub millivolts : StandardStatus → Channel → ℕ
millivolts m One = channel_from m.ad1 (m.correction % 4)
millivolts m Two = channel_from m.ad2 (m.correction / 4 % 4)
millivolts m Three = channel_from m.ad3 (m.correction / 16 % 4)
millivolts m Four = channel_from m.ad4 (m.correction / 64 % 4)
