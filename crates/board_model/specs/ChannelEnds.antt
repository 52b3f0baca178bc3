-- One end of a channel: the words by which a call at it is refused, what a call makes of it, and what a letter does to it.
-- Source: docs/PROFILE.md, "Channels". Both tables are of one end alone. What a domain adds to them, its endpoints, buffers and
-- requests, is in Answer, CallChanges and TakenFrames.
use Rattle.std.specs.Prelude.{ℕ, Bool, true, false, not, ◌&&◌, ◌||◌, ◌==◌, List, [], ◌∷◌, find, Option, Some, None, if◌then◌else◌}
use Rattle.mc_base.specs.Letter.{PlainLetter, accept, reject, recv_open, send_open, packet, scalar, send_close, recv_close}
use Rattle.mc_base.specs.declared.channel.Kind.{Kind}
use Rattle.mc_base.specs.declared.channel.Kind.TheVariants as kind
use Rattle.mc_base.specs.declared.channel.Side.{Side}
use Rattle.mc_base.specs.declared.channel.Side.TheVariants.{Sender, Receiver}
use Rattle.mc_base.specs.declared.refusal.Refusal.{Refusal}
use Rattle.mc_base.specs.declared.refusal.Refusal.TheVariants.{NotConnected, ChanDirection, ChanType, ChanClosed, AlreadyOpen, NotOpen}
use Rattle.mc_base.specs.declared.fate.Fate.{Fate}
use Rattle.mc_base.specs.declared.fate.Fate.TheVariants as fate
use Rattle.board_model.specs.State.{Stage, connecting, connected, opened, closed, ChannelEnd}

-- ---- how an end begins

abbrev pub new_end : Side → Stage → Kind → ℕ → ℕ → ℕ → ℕ → ChannelEnd
new_end side stage kind owner number peer address = record { side = side; kind = kind; owner = owner; number = number; peer = peer; peer_address = address; stage = stage; far_open = false; far_closed = false }

-- the sender's, which waits for the answer to its Connect, and the receiver's, which accepted one
abbrev pub connecting_end : Kind → ℕ → ℕ → ℕ → ℕ → ChannelEnd
connecting_end = new_end Sender connecting

abbrev pub accepted_end : Kind → ℕ → ℕ → ℕ → ℕ → ChannelEnd
accepted_end = new_end Receiver connected

-- ---- what is asked of an end

abbrev pub is_connecting : Stage → Bool
is_connecting connecting = true
is_connecting other = false

abbrev pub is_opened : Stage → Bool
is_opened opened = true
is_opened other = false

abbrev pub is_closed : Stage → Bool
is_closed closed = true
is_closed other = false

abbrev pub same_side : Side → Side → Bool
same_side Sender Sender = true
same_side Receiver Receiver = true
same_side one other = false

abbrev pub same_kind : Kind → Kind → Bool
same_kind kind.Packet kind.Packet = true
same_kind kind.Scalar kind.Scalar = true
same_kind one other = false

-- ---- calls at an end

-- an open of this side and kind; a send and a receive of this kind, the receive with the length of the queue; a close of this side
pub data EndCall : Type 0 where
  opens : Side → Kind → EndCall
  sends : Kind → EndCall
  receives : Kind → ℕ → EndCall
  closes : Side → EndCall

abbrev pub side_of : EndCall → Side
side_of (opens side kind) = side
side_of (sends kind) = Sender
side_of (receives kind queued) = Receiver
side_of (closes side) = side

-- the end carries another kind than the call's. A close is of no kind
abbrev pub is_of_other_kind : EndCall → ChannelEnd → Bool
is_of_other_kind (opens side kind) c = not (same_kind c.kind kind)
is_of_other_kind (sends kind) c = not (same_kind c.kind kind)
is_of_other_kind (receives kind queued) c = not (same_kind c.kind kind)
is_of_other_kind (closes side) c = false

-- the channel is closed for the call
abbrev pub is_closed_for : EndCall → ChannelEnd → Bool
is_closed_for (opens Sender kind) c = is_closed c.stage || c.far_closed
is_closed_for (sends kind) c = is_closed c.stage || c.far_closed
is_closed_for (opens Receiver kind) c = is_closed c.stage
is_closed_for (closes side) c = is_closed c.stage
is_closed_for (receives kind queued) c = is_closed c.stage || (is_opened c.stage && (queued == 0 && c.far_closed))

-- it is not open for the call
abbrev pub is_shut_for : EndCall → ChannelEnd → Bool
is_shut_for (sends kind) c = not (is_opened c.stage) || not c.far_open
is_shut_for (receives kind queued) c = not (is_opened c.stage)
is_shut_for other c = false

-- the conditions of the words
abbrev pub end_refuses : EndCall → ChannelEnd → Refusal → Bool
end_refuses call c NotConnected = is_connecting c.stage
end_refuses call c ChanDirection = not (same_side c.side (side_of call))
end_refuses call c ChanType = is_of_other_kind call c
end_refuses call c ChanClosed = is_closed_for call c
end_refuses call c AlreadyOpen = is_opened c.stage
end_refuses call c NotOpen = is_shut_for call c
end_refuses call c other = false

-- the words of a call, in their order
abbrev pub end_words : EndCall → List Refusal
end_words (opens side kind) = NotConnected ∷ ChanDirection ∷ ChanType ∷ ChanClosed ∷ AlreadyOpen ∷ []
end_words (sends kind) = NotConnected ∷ ChanDirection ∷ ChanType ∷ ChanClosed ∷ NotOpen ∷ []
end_words (receives kind queued) = NotConnected ∷ ChanDirection ∷ ChanType ∷ ChanClosed ∷ NotOpen ∷ []
end_words (closes side) = NotConnected ∷ ChanDirection ∷ ChanClosed ∷ []

-- the first word that holds. An endpoint without a channel is not connected
abbrev pub end_refusal : EndCall → Option ChannelEnd → Option Refusal
end_refusal call None = Some NotConnected
end_refusal call (Some c) = find (end_refuses call c) (end_words call)

-- what a call makes of the end. The channel ends where both ends are closed
abbrev pub opened_end : ChannelEnd → ChannelEnd
opened_end c = record c { stage = opened }

abbrev pub closed_end : ChannelEnd → Option ChannelEnd
closed_end c = if c.far_closed then None else Some (record c { stage = closed })

-- ---- letters at an end

-- the sender's channel of this number, whose peer is this one; the receiver's channel that this domain owns and numbered so
abbrev pub sends_to : ℕ → ℕ → ChannelEnd → Bool
sends_to peer number c = same_side c.side Sender && (c.number == number && c.peer == peer)

abbrev pub hears_from : ℕ → ℕ → ChannelEnd → Bool
hears_from owner number c = same_side c.side Receiver && (c.number == number && c.owner == owner)

-- the far end closes
abbrev pub far_closed_end : ChannelEnd → Option ChannelEnd
far_closed_end c = if is_closed c.stage then None else Some (record c { far_closed = true })

-- a row: whether it applies, the frame's word, and the end after it, or none where the channel ends
pub record EndRow : Type 0 where
  pub applies : Bool
  pub word : Fate
  pub leaves : Option ChannelEnd

abbrev pub end_row : Bool → Fate → Option ChannelEnd → EndRow
end_row applies word leaves = record { applies = applies; word = word; leaves = leaves }

-- the row where none before it applies
abbrev pub left_row : Option ChannelEnd → EndRow
left_row c = end_row true fate.State c

-- a packet or a scalar on channel (owner, number). Where a receive waits, what is queued here is handed to it
abbrev pub data_rows : ℕ → ℕ → Kind → ChannelEnd → List EndRow
data_rows owner number kind c =
    end_row (hears_from owner number c && (same_kind c.kind kind && (not c.far_closed && is_closed c.stage))) fate.Closed (Some c)
    ∷ end_row (hears_from owner number c && (same_kind c.kind kind && not c.far_closed)) fate.Queued (Some c)
    ∷ []

-- the rows of a letter from this peer. A message and a Connect are for no end of a channel
abbrev pub end_rows : ℕ → ChannelEnd → PlainLetter → List EndRow
end_rows peer c (accept number) = end_row (sends_to peer number c && is_connecting c.stage) fate.Acted (Some (record c { stage = connected })) ∷ []
end_rows peer c (reject number reason) = end_row (sends_to peer number c && is_connecting c.stage) fate.Acted None ∷ []
end_rows peer c (recv_open number) = end_row (sends_to peer number c && (not c.far_open && not c.far_closed)) fate.Acted (Some (record c { far_open = true })) ∷ []
end_rows peer c (recv_close number) = end_row (sends_to peer number c && not c.far_closed) fate.Acted (far_closed_end c) ∷ []
end_rows peer c (send_open number) = end_row (hears_from peer number c && (not c.far_open && not c.far_closed)) fate.Acted (Some (record c { far_open = true })) ∷ []
end_rows peer c (packet number content) = data_rows peer number kind.Packet c
end_rows peer c (scalar number bits value) = data_rows peer number kind.Scalar c
end_rows peer c (send_close number) = end_row (hears_from peer number c && not c.far_closed) fate.Acted (far_closed_end c) ∷ []
end_rows peer c other = []

-- the first row that applies
abbrev pub first_end_row : List EndRow → EndRow → EndRow
first_end_row [] left = left
first_end_row (r ∷ rs) left = if r.applies then r else first_end_row rs left

-- the row of a letter at the channel of its destination, or at none
abbrev pub end_row_of : ℕ → Option ChannelEnd → PlainLetter → EndRow
end_row_of peer None l = left_row None
end_row_of peer (Some c) l = first_end_row (end_rows peer c l) (left_row (Some c))
