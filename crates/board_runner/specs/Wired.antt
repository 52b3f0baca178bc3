-- The links of a board over rings: which ends each domain has, by the lines of the links and their rings.
-- Source: docs/PROFILE.md, "Boards" and "Lanes": queue 1 leads from the driver of a link to its device, and queue 0 back.
use Rattle.std.specs.Prelude.{◌≡◌, ◌≤◌, ℕ, zero, suc, Bool, ◌&&◌, ◌==◌, List, [], ◌∷◌, ◌++◌, length, map, filter, find, Option, Some, option_map, option_to_list, vec_capacity, not}
use Rattle.std.specs.List.{AllByRecursion}
use Rattle.mc_base.specs.Limits.{buffer_size}
use Rattle.shared_words.specs.Shape.{IsRingSize}
use Rattle.shared_words.specs.Shown.{TableShown, size_of}
use Rattle.shared_words.specs.declared.view.Role.TheVariants as role
use Rattle.split_ring.specs.Ends.{new_end, AreHeld, IsSound}
use Rattle.lane_end.specs.AnyLane.{AreEndsOfOneRing}
use Rattle.lane_end.specs.Halves.{IsRingSend, IsRingRecv}
use Rattle.lane_end.specs.AnySender as sending
use Rattle.lane_end.specs.AnyReceiver as receiving
use Rattle.lane_end.specs.RingOpening.{new_buffers, queue1_sender, queue1_receiver, queue0_sender, queue0_receiver}
use Rattle.lane_end.specs.declared.any.AnySend.{AnySend}
use Rattle.lane_end.specs.declared.any.AnyRecv.{AnyRecv}
use Rattle.lane_end.specs.declared.any.AnySend.TheVariants as send
use Rattle.lane_end.specs.declared.any.AnyRecv.TheVariants as recv
use Rattle.board_model.specs.declared.scenario.DomainLine.{DomainLine}
use Rattle.board_model.specs.declared.scenario.LinkLine.{LinkLine}
use Rattle.board_model.specs.declared.scenario.Scenario.{Scenario}
use Rattle.board_model.specs.Scenario.{Neighbour, neighbour, neighbours}
use Rattle.domain_core.specs.Carrying.{AnyLink}
use Rattle.board_numbers.specs.Lanes.{size_between}
use Rattle.board_runner.specs.declared.rings.Halves.{Halves}
use Rattle.board_runner.specs.declared.rings.LinkHalves.{LinkHalves}
use Rattle.board_runner.specs.declared.rings.LinkRings.{LinkRings}
use Rattle.board_runner.specs.declared.wires.Wire.{Wire}
use Rattle.board_runner.specs.Near.{sent_near, got_near, nothing_sent, nothing_got}

-- ---- rings

-- a new ring of a queue and a size over buffers of 512 bytes, with its halves and its buffers
pub record IsNewRing (queue size : ℕ) (ring : TableShown) (h : Halves) : Type 0 where
  pub is_queue : ring.queue ≡ queue
  pub sized : size_of ring.ring ≡ size
  pub lawful : IsRingSize size
  pub width : ring.ring.width ≡ buffer_size
  pub driver : h.driver ≡ new_end ring.ring
  pub device : h.device ≡ new_end ring.ring
  pub driver_sound : IsSound role.Driver h.driver
  pub device_sound : IsSound role.Device h.device
  pub buffers : h.buffers.items ≡ new_buffers ring.ring
  pub room : size ≤ vec_capacity h.buffers
  pub held : AreHeld role.Driver h.driver h.buffers.items

-- the rings of a link
pub record HaveParts (size : ℕ) (on : LinkRings) (h : LinkHalves) : Type 0 where
  pub zero_new : IsNewRing 0 size on.queue0 h.queue0
  pub one_new : IsNewRing 1 size on.queue1 h.queue1

-- and of all links
abbrev pub AreRings : List LinkLine → List LinkRings → List LinkHalves → Type 0
AreRings [] [] [] = Unit {0}
AreRings (l ∷ ls) (on ∷ rings) (h ∷ hs) = HaveParts l.size on h × AreRings ls rings hs
AreRings ls rings hs = ⊥

-- ---- the ends of a link

abbrev pub driver_link : LinkLine → LinkRings → AnyLink
driver_link l on = record { peer = l.device; size = l.size; send = send.Driver (queue1_sender on.queue1.ring); recv = recv.Driver (queue0_receiver on.queue0.ring) }

abbrev pub device_link : LinkLine → LinkRings → AnyLink
device_link l on = record { peer = l.driver; size = l.size; send = send.Device (queue0_sender on.queue0.ring); recv = recv.Device (queue1_receiver on.queue1.ring) }

abbrev pub wires_for : List LinkLine → List LinkRings → List Wire
wires_for [] rings = []
wires_for (l ∷ ls) [] = []
wires_for (l ∷ ls) (on ∷ rings) = record { owner = l.driver; link = driver_link l on } ∷ (record { owner = l.device; link = device_link l on } ∷ wires_for ls rings)

-- whether these are a domain's ends of a link to a peer
abbrev pub leads_from : ℕ → ℕ → Wire → Bool
leads_from domain peer w = w.owner == domain && w.link.peer == peer

-- the ends that a domain has of its link to a peer
abbrev pub wire_at : List Wire → ℕ → ℕ → Option AnyLink
wire_at ws a b = option_map (λ w. w.link) (find (leads_from a b) ws)

-- those towards the peers below a number, which rise
abbrev pub links_wired : List Wire → ℕ → ℕ → List AnyLink
links_wired ws a zero = []
links_wired ws a (suc n) = links_wired ws a n ++ option_to_list (wire_at ws a n)

-- ---- a lane that is opened

-- of this size: nothing was done, all buffers are free, and the two ends are those of one ring
pub record IsNewLane (size : ℕ) (s : AnySend) (r : AnyRecv) : Type 0 where
  pub one : AreEndsOfOneRing s r
  pub sends : IsRingSend s
  pub receives : IsRingRecv r
  pub size_to : sending.size_of_any s ≡ size
  pub all_free : length (sending.free_of_any s) ≡ size
  pub size_from : receiving.size_of_any r ≡ size
  pub none_shown : receiving.shown_of_any r ≡ 0
  pub none_out : receiving.out_of_any r ≡ []
  pub sent : sent_near s ≡ nothing_sent
  pub got : got_near r ≡ nothing_got

-- with these ends of a domain's link to a peer the peer has those of new lanes
pub record IsWiredBack (ws : List Wire) (a b : ℕ) (there : AnyLink) : Type 0 where
  pub back : AnyLink
  pub is : wire_at ws b a ≡ Some back
  pub out : IsNewLane there.size there.send back.recv
  pub into : IsNewLane there.size back.send there.recv

-- the board's links are wired: each domain has the ends of its links, and those of both domains are those of new lanes
pub record IsWired (s : Scenario) (ws : List Wire) : Type 0 where
  pub sizes : (a b : ℕ) → option_map (λ l. l.size) (wire_at ws a b) ≡ size_between s a b
  pub lanes : (a b : ℕ) (there : AnyLink) → wire_at ws a b ≡ Some there → IsWiredBack ws a b there

-- ---- the links of a domain

-- its links are to its neighbours, in rising order, and open
pub record IsNewLink (l : AnyLink) : Type 0 where
  pub sends : IsRingSend l.send
  pub receives : IsRingRecv l.recv
  pub size_to : sending.size_of_any l.send ≡ l.size
  pub all_free : length (sending.free_of_any l.send) ≡ l.size
  pub size_from : receiving.size_of_any l.recv ≡ l.size
  pub none_shown : receiving.shown_of_any l.recv ≡ 0
  pub none_out : receiving.out_of_any l.recv ≡ []
  pub sent : sent_near l.send ≡ nothing_sent
  pub got : got_near l.recv ≡ nothing_got

abbrev pub is_other : ℕ → Neighbour → Bool
is_other domain n = not (n.number == domain)

abbrev pub link_neighbour : AnyLink → Neighbour
link_neighbour l = neighbour l.peer l.size

pub record AreLinksOn (s : Scenario) (d : DomainLine) (ls : List AnyLink) : Type 0 where
  pub to : map link_neighbour ls ≡ filter (is_other d.domain) (neighbours s d)
  pub new : AllByRecursion IsNewLink ls
