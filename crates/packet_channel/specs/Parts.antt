-- Parts of the calls and of the letters, which serve the functions inside the crate.
-- Source: the tables of `board_model`, `ChannelEnds`.
use Rattle.std.specs.Prelude.{ℕ, Bool, false, not, ◌||◌, Result, Ok, Err, if◌then◌else◌}
use Rattle.mc_base.specs.Letter.{PlainLetter, accept, reject, recv_open, send_open, packet, scalar, send_close, recv_close}
use Rattle.mc_base.specs.declared.refusal.Refusal.{Refusal}
use Rattle.mc_base.specs.declared.refusal.Refusal.TheVariants.{NotConnected, ChanDirection}
use Rattle.mc_base.specs.declared.channel.Kind.{Kind}
use Rattle.mc_base.specs.declared.channel.Side.{Side}
use Rattle.mc_base.specs.declared.fate.Fate.{Fate}
use Rattle.mc_base.specs.declared.fate.Fate.TheVariants as fate
use Rattle.board_model.specs.State.{ChannelEnd}
use Rattle.board_model.specs.ChannelEnds.{is_connecting, is_closed, same_side, same_kind, sends_to, hears_from}

-- the first two words of every call
abbrev pub connected_as : Side → ChannelEnd → Result (Unit {0}) Refusal
connected_as side c = if is_connecting c.stage then Err NotConnected else (if same_side c.side side then Ok tt else Err ChanDirection)

-- a letter from this peer is to this end
abbrev pub is_for : ℕ → ChannelEnd → PlainLetter → Bool
is_for peer c (accept number) = sends_to peer number c
is_for peer c (reject number reason) = sends_to peer number c
is_for peer c (recv_open number) = sends_to peer number c
is_for peer c (recv_close number) = sends_to peer number c
is_for peer c (send_open number) = hears_from peer number c
is_for peer c (packet number content) = hears_from peer number c
is_for peer c (scalar number bits value) = hears_from peer number c
is_for peer c (send_close number) = hears_from peer number c
is_for peer c other = false

-- the word of an item to this end
abbrev pub fate_of_data : Kind → ChannelEnd → Fate
fate_of_data kind c = if not (same_kind c.kind kind) || c.far_closed then fate.State else (if is_closed c.stage then fate.Closed else fate.Queued)
