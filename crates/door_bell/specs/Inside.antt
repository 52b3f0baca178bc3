-- The end inside an end with a bell, for crates above.
-- Source: docs/ARCHITECTURE.md, "Doorbells".
use Rattle.lane_end.specs.declared.send_end.SendEnd as send
use Rattle.lane_end.specs.declared.recv_end.RecvEnd as recv
use Rattle.door_bell.specs.declared.bell_send.BellSend.{BellSend}
use Rattle.door_bell.specs.declared.bell_recv.BellRecv.{BellRecv}

abbrev pub send_inside : {S : Type 0} {g : send.Ghosts S} → BellSend S g → S
send_inside end = end.inner

abbrev pub recv_inside : {R : Type 0} {g : recv.Ghosts R} → BellRecv R g → R
recv_inside end = end.inner
