-- The claims of specs/Claims.antt and specs/AnyOrder.antt and the table of specs/Examples.antt, proved; a crate above this one names this module alone.
-- Assumes nothing.
use Rattle.message.specs.Claims.{RoundTrip, CanWrite, MessageIsSized, DataIsInside, WhatIsReadIsWritten, ReadingIsExact}
use Rattle.message.specs.AnyOrder.{AnyOrderIsRead}
use Rattle.message.specs.Examples.{Examples, ChannelsAreRead}
use Rattle.message.proofs.MessageRoundTrip as message-round-trip
use Rattle.message.proofs.Exact as exact
use Rattle.message.proofs.AnyOrder as any_order
use Rattle.message.proofs.Examples as table

pub round_trip : RoundTrip
round_trip = message-round-trip.round_trip

pub can_write : CanWrite
can_write = message-round-trip.can_write

pub message_is_sized : MessageIsSized
message_is_sized = exact.message_is_sized

pub data_is_inside : DataIsInside
data_is_inside = exact.data_is_inside

pub what_is_read_is_written : WhatIsReadIsWritten
what_is_read_is_written = exact.what_is_read_is_written

pub reading_is_exact : ReadingIsExact
reading_is_exact = exact.reading_is_exact

pub any_order_is_read : AnyOrderIsRead
any_order_is_read = any_order.any_order_is_read

pub examples : Examples
examples = table.examples

pub channels_are_read : ChannelsAreRead
channels_are_read = table.channels_are_read
