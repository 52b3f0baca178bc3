-- What is left of the links of domains that ran: for each end a half of its ring.
-- Source: docs/PROFILE.md, "Lanes" and "Runs".
use Rattle.std.specs.Prelude.{◌≡◌, ℕ, Bool, ◌&&◌, ◌==◌, List, [], ◌∷◌, ◌++◌, map, find, Option}
use Rattle.std.specs.List.{AllByRecursion}
use Rattle.lane_end.specs.Halves.{IsRingSend, IsRingRecv, SendLeaves, RecvLeaves}
use Rattle.domain_core.specs.Carrying.{AnyLink}
use Rattle.domain_core.specs.Opening.{links_in}
use Rattle.board_runner.specs.declared.ended.EndedLink.{EndedLink}
use Rattle.board_runner.specs.declared.station.Station.{Station}
use Rattle.board_runner.specs.declared.wires.Wire.{Wire}

-- both ends of the link are over rings
pub record IsOverRings (l : AnyLink) : Type 0 where
  pub sends : IsRingSend l.send
  pub receives : IsRingRecv l.recv

abbrev pub HasRings : Station → Type 0
HasRings st = AllByRecursion IsOverRings (links_in st.domain.ends)

-- ---- links that are ended

-- this is left of a domain's ends of a link
pub record WireEnds (w : Wire) (e : EndedLink) : Type 0 where
  pub owner : e.owner ≡ w.owner
  pub peer : e.peer ≡ w.link.peer
  pub send : SendLeaves w.link.send e.send
  pub recv : RecvLeaves w.link.recv e.recv

abbrev pub WiresEnd : List Wire → List EndedLink → Type 0
WiresEnd [] [] = Unit {0}
WiresEnd (w ∷ ws) (e ∷ es) = WireEnds w e × WiresEnd ws es
WiresEnd ws es = ⊥

-- the links of stations, with the numbers of their domains
abbrev pub wire_of : ℕ → AnyLink → Wire
wire_of owner l = record { owner = owner; link = l }

abbrev pub wires_in : Station → List Wire
wires_in st = map (wire_of st.domain_number) (links_in st.domain.ends)

abbrev pub wires_left : List Station → List Wire
wires_left [] = []
wires_left (st ∷ sts) = wires_in st ++ wires_left sts

-- after whatever links were ended before, those of one domain more are
abbrev pub EndMore : ℕ → List AnyLink → List EndedLink → List EndedLink → Type 0
EndMore owner ls old new = (ws : List Wire) → WiresEnd ws old → WiresEnd (ws ++ map (wire_of owner) ls) new

-- ---- what is left of a domain's ends of its link to a peer

abbrev pub is_ended_at : ℕ → ℕ → EndedLink → Bool
is_ended_at owner peer e = e.owner == owner && e.peer == peer

abbrev pub ended_at : List EndedLink → ℕ → ℕ → Option EndedLink
ended_at es owner peer = find (is_ended_at owner peer) es
