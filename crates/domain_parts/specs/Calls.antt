-- What every call of a domain does.
-- Source: docs/PROFILE.md, "Calls". One turn; then the frames that the call puts; the answer of the state after the turn; and the
-- effect of the call.
use Rattle.std.specs.Prelude.{◌≡◌, ◌≢◌, ◌≤◌, ℕ, List, ◌∷◌, ◌++◌, length, map, take, drop, Contains, IfSome, Option, None, Some, option_map, option_to_list, Result, Ok, Err, []}
use Rattle.mc_base.specs.Limits.{no_key}
use Rattle.mc_base.specs.declared.channel.Side.{Side}
use Rattle.mc_base.specs.declared.channel.Side.TheVariants.{Receiver, Sender}
use Rattle.mc_base.specs.declared.refusal.Refusal.{Refusal}
use Rattle.mc_base.specs.declared.refusal.Refusal.TheVariants.{BufInvalid}
use Rattle.mc_base.specs.declared.request.Done.{Done}
use Rattle.mc_base.specs.declared.request.Done.TheVariants as done
use Rattle.mc_base.specs.declared.request.Got.{Got}
use Rattle.mc_base.specs.declared.request.PacketId.{PacketId}
use Rattle.mc_base.specs.declared.request.RequestId.{RequestId}
use Rattle.board_model.specs.DomainCall.{DomainCall, release_of, test_of, wait_for, cancel_of}
use Rattle.board_model.specs.Journal.{Line, Visit, turned, noted_all, PlainResult, found_at, was_accepted, was_rejected, brought, ended_by, PlainAnswer, refuses, agrees, tells, gives, completes, connects}
use Rattle.board_model.specs.Labels.{packet_given}
use Rattle.board_model.specs.Lists.{without}
use Rattle.board_model.specs.State.{DomainState, LentPacket}
use Rattle.board_model.specs.Answer.{answer, first_complete, puts, refusal, unless_refused}
use Rattle.board_model.specs.CallChanges as changes
use Rattle.board_model.specs.Serial.{put_entry}
use Rattle.domain_parts.specs.DomainView.{DomainView}
use Rattle.domain_parts.specs.LaneMoves.{LaneMove}
use Rattle.domain_parts.specs.AllMoved.{AllMoved, call_moves}
use Rattle.domain_parts.specs.Turned.{Turns}

-- the place of the request that success ends
abbrev pub success_ends : DomainState → DomainCall → Option ℕ
success_ends s (test_of place) = place
success_ends s (wait_for places says_place) = first_complete s places
success_ends s (cancel_of place) = place
success_ends s other = None

-- the place of the packet that success releases
abbrev pub success_releases : DomainCall → Option ℕ
success_releases (release_of place) = place
success_releases other = None

-- that of the request that a call ends, and of the packet that it releases
abbrev pub place_ended : DomainState → ℕ → DomainCall → Option ℕ
place_ended s node call = unless_refused (refusal s node call) None (success_ends s call)

abbrev pub place_released : DomainState → ℕ → DomainCall → Option ℕ
place_released s node call = unless_refused (refusal s node call) None (success_releases call)

-- a key that no request has, and the serial of the next request
pub record IsFresh (ids : List RequestId) (s : DomainState) (id : RequestId) : Type 0 where
  pub differs : Contains (map (λ i. i.key) ids) id.key → ⊥
  pub is_key : id.key ≢ no_key
  pub serial : id.serial ≡ s.requests_given

-- A call after its turn. Its answer and its effect are those of the state; at the ends towards each peer it makes the moves of the
-- frames that it puts there, and then those of the buffers of the items that it gives back there
pub record Does {L : Type 0} (Moved : L → List LaneMove → L → Type 0) (node : ℕ) (call : DomainCall) (old new : DomainView L) (answered : PlainAnswer) (given : Option RequestId) : Type 0 where
  pub answer : answered ≡ answer old.state node call
  pub state : new.state ≡ changes.effect old.state node call
  pub numbered : new.numbered ≡ changes.effect old.numbered node call
  pub moved : AllMoved Moved old.ends (call_moves (puts old.state node call) (changes.returned old.numbered node call) (map (λ p. p.number) old.state.peers)) new.ends
  pub ids : new.ids ≡ without (place_ended old.state node call) old.ids ++ option_to_list given
  pub fresh : IfSome given (IsFresh old.ids old.state)
  -- the packet that it lends, which is the last of those that are lent
  pub lent : Option PacketId
  pub packets : new.packets ≡ without (place_released old.state node call) old.packets ++ option_to_list lent
  pub lends : option_map (λ i. i.serial) lent ≡ packet_given old.state node call

-- a call with its turn, and with the lines of both
pub record Calls {L : Type 0} (Moved : L → List LaneMove → L → Type 0) (node : ℕ) (call : DomainCall) (old new : DomainView L) (lines lines' : List Line) (answered : PlainAnswer) (given : Option RequestId) : Type 0 where
  pub visits : List Visit
  pub numbers : List (List ℕ)
  pub turned_to : DomainView L
  pub turns : Turns Moved visits numbers old turned_to
  pub does : Does Moved node call turned_to new answered given
  pub told : lines' ≡ noted_all lines (turned visits ∷ map put_entry (puts turned_to.state node call))

-- the answers of the calls, as plain answers
abbrev pub created : Result ℕ Refusal → PlainAnswer
created (Ok address) = tells address
created (Err word) = refuses word

-- how many messages were dropped
abbrev pub deleted : Result ℕ Refusal → PlainAnswer
deleted (Ok count) = tells count
deleted (Err word) = refuses word

abbrev pub sent : Result (Unit {0}) Refusal → PlainAnswer
sent (Ok done) = agrees
sent (Err word) = refuses word

-- a receive gave the first bytes of `out`
abbrev pub received : Result Got Refusal → List ℕ → PlainAnswer
received (Ok got) out = gives got.size (take got.given out)
received (Err word) out = refuses word

-- a request is told by its serial
abbrev pub requested : Result RequestId Refusal → PlainAnswer
requested (Ok id) = tells id.serial
requested (Err word) = refuses word

abbrev pub given : Result RequestId Refusal → Option RequestId
given (Ok id) = Some id
given (Err word) = None

-- a connect is told by the serial of its request and the number of its channel
abbrev pub connected : Result (RequestId × ℕ) Refusal → PlainAnswer
connected (Ok (id, number)) = connects id.serial number
connected (Err word) = refuses word

abbrev pub given_by : Result (RequestId × ℕ) Refusal → Option RequestId
given_by (Ok (id, number)) = Some id
given_by (Err word) = None

-- only at a receiver's end items are dropped
abbrev pub closed : Side → Result ℕ Refusal → PlainAnswer
closed Sender (Ok count) = agrees
closed Receiver (Ok count) = tells count
closed side (Err word) = refuses word

abbrev pub available : Result ℕ Refusal → PlainAnswer
available (Ok count) = tells count
available (Err word) = refuses word

-- all bytes of a lent packet
abbrev pub gives_whole : Option LentPacket → PlainAnswer
gives_whole None = refuses BufInvalid
gives_whole (Some p) = gives (length p.item.content) p.item.content

abbrev pub brings_whole : Option LentPacket → PlainResult
brings_whole None = ended_by BufInvalid
brings_whole (Some p) = brought (length p.item.content) p.item.content

-- what is lent with an id, after a call
abbrev pub Lending : Type 0
Lending = PacketId → Option LentPacket

-- a packet is told by its bytes
abbrev pub lent : Result PacketId Refusal → Lending → PlainAnswer
lent (Ok id) lends = gives_whole (lends id)
lent (Err word) lends = refuses word

-- how a request ended; of a message the first bytes of `out` were given
abbrev pub result_of_done : Done → List ℕ → Lending → PlainResult
result_of_done (done.Address address) out lends = found_at address
result_of_done done.Accepted out lends = was_accepted
result_of_done (done.Rejected reason) out lends = was_rejected reason
result_of_done (done.Message got) out lends = brought got.size (take got.given out)
result_of_done (done.Packet id) out lends = brings_whole (lends id)
result_of_done (done.Ended word) out lends = ended_by word

-- the first bytes of a message go to `out`; all else stays there
abbrev pub GivesTo : Done → List ℕ → List ℕ → Type 0
GivesTo (done.Message got) old new = (got.given ≤ length old) × (drop got.given new ≡ drop got.given old)
GivesTo other old new = new ≡ old

-- this packet is lent, the last of those that are; a request that ended without one lent none
abbrev pub LendsLast : List PacketId → List PacketId → Done → Type 0
LendsLast old new (done.Packet id) = new ≡ old ++ id ∷ []
LendsLast old new other = new ≡ old

abbrev pub IsLent : {L : Type 0} → DomainView L → DomainView L → PacketId → Type 0
IsLent old new id = new.packets ≡ old.packets ++ id ∷ []

abbrev pub LendsBy : {L : Type 0} → DomainView L → DomainView L → Done → Type 0
LendsBy old new how = LendsLast old.packets new.packets how

abbrev pub tested : Result Done Refusal → List ℕ → Lending → PlainAnswer
tested (Ok how) out lends = completes None (result_of_done how out lends)
tested (Err word) out lends = refuses word

abbrev pub cancelled : Result (Unit {0}) Refusal → PlainAnswer
cancelled (Ok done) = agrees
cancelled (Err word) = refuses word
