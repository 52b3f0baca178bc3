-- What a domain did at its ends towards a peer, and what it knows of the peer.
-- Source: docs/PROFILE.md, "Lanes" and "Serial run". Over a ring, what is on a lane is what its sender put beyond what its receiver
-- took, and what has yet to come back is what the receiver gave back beyond what the sender's looks showed.
use Rattle.std.specs.Prelude.{◌≡◌, ◌≢◌, ℕ, List, [], ◌∷◌, length, map, sum, ◌==◌, if◌then◌else◌}
use Rattle.lane_end.specs.Entries.{frames_in}
use Rattle.lane_end.specs.Halves.{IsRingSend, IsRingRecv}
use Rattle.lane_end.specs.RingSender.{RingSender, put_by, back_known}
use Rattle.lane_end.specs.RingReceiver.{RingReceiver, given_entries, come_known}
use Rattle.lane_end.specs.declared.any.AnySend.{AnySend}
use Rattle.lane_end.specs.declared.any.AnyRecv.{AnyRecv}
use Rattle.lane_end.specs.declared.any.AnySend.TheVariants as send
use Rattle.lane_end.specs.declared.any.AnyRecv.TheVariants as recv
use Rattle.domain_core.specs.declared.Ends.{Ends}
use Rattle.domain_core.specs.declared.Ends.TheVariants.{Own, Linked}
use Rattle.domain_core.specs.Carrying.{AnyLink}
use Rattle.domain_core.specs.DomainView.{DomainView}

abbrev pub RunEnds : Type 0
RunEnds = Ends AnySend AnyRecv

abbrev pub RunDomain : Type 0
RunDomain = DomainView RunEnds

-- the frames that an end put, how many buffers its looks showed to have come back, and how many it knows to have
pub record SentNear : Type 0 where
  pub put : List (List ℕ)
  pub back : ℕ
  pub known : ℕ

-- the frames that an end took, how many buffers it gave back, and how many frames it knows to have come
pub record GotNear : Type 0 where
  pub taken : List (List ℕ)
  pub given : ℕ
  pub known : ℕ

pub record Near : Type 0 where
  pub sent : SentNear
  pub got : GotNear

abbrev pub nothing_sent : SentNear
nothing_sent = record { put = []; back = 0; known = 0 }

abbrev pub nothing_got : GotNear
nothing_got = record { taken = []; given = 0; known = 0 }

abbrev pub nothing_near : Near
nothing_near = record { sent = nothing_sent; got = nothing_got }

abbrev pub sent_by : RingSender → SentNear
sent_by s = record { put = put_by s; back = sum s.half.looks; known = back_known s }

abbrev pub got_by : RingReceiver → GotNear
got_by r = record { taken = frames_in r.half.taken; given = length (given_entries r); known = come_known r }

-- all links of a board are over rings
abbrev pub sent_near : AnySend → SentNear
sent_near (send.Driver s) = sent_by s
sent_near (send.Device s) = sent_by s
sent_near (send.Plain s) = nothing_sent

abbrev pub got_near : AnyRecv → GotNear
got_near (recv.Driver r) = got_by r
got_near (recv.Device r) = got_by r
got_near (recv.Plain r) = nothing_got

abbrev pub frame_in : ℕ × List ℕ → List ℕ
frame_in f = f.1

-- what is taken from the own lane, or shown to have come back, is gone from it: so nothing counts but what is there
abbrev pub near_to : RunEnds → Near
near_to (Own l) = record { sent = record { put = map frame_in l.frames; back = 0; known = length l.back }; got = record { taken = []; given = length l.back; known = length l.frames } }
near_to (Linked l) = record { sent = sent_near l.send; got = got_near l.recv }

-- at the ends towards the peer of this number
abbrev pub near_among : List ℕ → List RunEnds → ℕ → Near
near_among [] ends n = nothing_near
near_among (p ∷ ps) [] n = nothing_near
near_among (p ∷ ps) (e ∷ ends) n = if p == n then near_to e else near_among ps ends n

abbrev pub peers_of : RunDomain → List ℕ
peers_of d = map (λ p. p.number) d.state.peers

abbrev pub near_of : RunDomain → ℕ → Near
near_of d n = near_among (peers_of d) d.ends n

-- a link to a peer, over rings
pub record IsLinkTo (p : ℕ) (l : AnyLink) : Type 0 where
  pub peer : l.peer ≡ p
  pub sends : IsRingSend l.send
  pub receives : IsRingRecv l.recv

-- the ends are those towards the peers: the own lane towards the domain itself, and links to the others
abbrev pub EndsMatch : ℕ → List ℕ → List RunEnds → Type 0
EndsMatch number [] [] = Unit {0}
EndsMatch number (p ∷ ps) (Own l ∷ ends) = (p ≡ number) × EndsMatch number ps ends
EndsMatch number (p ∷ ps) (Linked l ∷ ends) = (p ≢ number) × IsLinkTo p l × EndsMatch number ps ends
EndsMatch number ps ends = ⊥
