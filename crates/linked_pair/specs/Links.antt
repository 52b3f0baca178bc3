-- A link in one memory, just made.
-- Source: docs/PROFILE.md, "Lanes". All buffers are free at the senders, and nothing has come at the receivers.
use Rattle.std.specs.Prelude.{ℕ}
use Rattle.lane_end.specs.PlainSender.{Sender}
use Rattle.lane_end.specs.PlainReceiver.{Receiver}
use Rattle.lane_end.specs.PlainLane.{new_receiver, new_sender}
use Rattle.domain_core.specs.Carrying.{PlainLink}
use Rattle.domain_core.specs.Opening.{IsOpenLink}

-- the link to a peer, of a size
abbrev pub new_link : ℕ → ℕ → PlainLink
new_link peer size = record { peer = peer; size = size; send = new_sender size; recv = new_receiver size }

-- a link with which a domain may be opened
abbrev pub IsOpen : PlainLink → Type 0
IsOpen l = IsOpenLink (λ (s : Sender). s.size) (λ (s : Sender). s.free) (λ (r : Receiver). r.size) (λ (r : Receiver). r.shown) (λ (r : Receiver). r.out) l
