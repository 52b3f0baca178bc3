-- The end inside an end of a domain on a board.
-- Source: docs/ARCHITECTURE.md, "Doorbells".
use Rattle.lane_end.specs.declared.any.AnySend.{AnySend}
use Rattle.lane_end.specs.declared.any.AnyRecv.{AnyRecv}
use Rattle.door_bell.specs.Inside.{send_inside, recv_inside}
use Rattle.station_ends.specs.declared.send.SendKind.{SendKind}
use Rattle.station_ends.specs.declared.send.SendKind.TheVariants as send
use Rattle.station_ends.specs.declared.recv.RecvKind.{RecvKind}
use Rattle.station_ends.specs.declared.recv.RecvKind.TheVariants as recv

abbrev pub sender_inside : SendKind → AnySend
sender_inside (send.Polled end) = end
sender_inside (send.Rung end) = send_inside end

abbrev pub receiver_inside : RecvKind → AnyRecv
receiver_inside (recv.Polled end) = end
receiver_inside (recv.Rung end) = recv_inside end
