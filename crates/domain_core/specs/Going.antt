-- What a domain keeps through any of its calls.
-- Source: docs/PROFILE.md, "Lanes". Its number stays, and moves lead from its ends to those after the call; so the ends of a link
-- between two domains still fit together.
use Rattle.std.specs.Prelude.{◌≡◌, ℕ, Bool, List, Option}
use Rattle.mc_base.specs.declared.request.RequestId.{RequestId}
use Rattle.board_model.specs.DomainCall.{DomainCall}
use Rattle.board_model.specs.Journal.{Line, PlainAnswer}
use Rattle.lane_end.specs.PlainSender.{Sender, Sends}
use Rattle.lane_end.specs.PlainReceiver.{Receiver, Receives}
use Rattle.lane_end.specs.PlainLane.{AreOneLane}
use Rattle.lane_end.specs.AnySender.{AnySends}
use Rattle.lane_end.specs.AnyReceiver.{AnyReceives}
use Rattle.lane_end.specs.AnyLane.{AreEndsOfOneRing}
use Rattle.lane_end.specs.declared.any.AnySend.{AnySend}
use Rattle.lane_end.specs.declared.any.AnyRecv.{AnyRecv}
use Rattle.lane_end.specs.SendMoves.{SendMove}
use Rattle.lane_end.specs.ReceiveMoves.{ReceiveMove}
use Rattle.domain_parts.specs.declared.ends.Ends.{Ends}
use Rattle.domain_parts.specs.LaneMoves.{LaneMove}
use Rattle.domain_parts.specs.Ends.{EndsMoved}
use Rattle.domain_parts.specs.AllMoved.{AllMoved}
use Rattle.domain_parts.specs.DomainView.{DomainView}
use Rattle.domain_parts.specs.Calls.{Calls}
use Rattle.domain_parts.specs.Carrying.{AreLinked}
use Rattle.domain_parts.specs.Waiting.{Waits}

pub record Goes {L : Type 0} (Moved : L → List LaneMove → L → Type 0) (old new : DomainView L) : Type 0 where
  pub number : new.state.number ≡ old.state.number
  pub moves : List (List LaneMove)
  pub moved : AllMoved Moved old.ends moves new.ends

-- a domain over links, by the moves of their ends; and each call of it does so
abbrev pub LinkedDomain : Type 0 → Type 0 → Type 0
LinkedDomain S R = DomainView (Ends S R)

abbrev pub CallsGoBy : {S R : Type 0} → (S → List SendMove → S → Type 0) → (R → List ReceiveMove → R → Type 0) → Type 0
CallsGoBy {S} {R} Sent Received = (node : ℕ) (call : DomainCall) (old new : LinkedDomain S R) (lines lines' : List Line) (answered : PlainAnswer) (given : Option RequestId) → Calls (EndsMoved Sent Received) node call old new lines lines' answered given → Goes (EndsMoved Sent Received) old new

-- and each wait
abbrev pub WaitsGoBy : {S R : Type 0} → (S → List SendMove → S → Type 0) → (R → List ReceiveMove → R → Type 0) → Type 0
WaitsGoBy {S} {R} Sent Received = (number limit : ℕ) (ids : List RequestId) (says_place : Bool) (old new : LinkedDomain S R) (lines lines' : List Line) (answered : Option PlainAnswer) → Waits (EndsMoved Sent Received) number limit ids says_place old new lines lines' answered → Goes (EndsMoved Sent Received) old new

-- two domains that are linked stay so, whichever of them it is
abbrev pub AreLinkedBy : {S R : Type 0} → (S → R → Type 0) → LinkedDomain S R → LinkedDomain S R → Type 0
AreLinkedBy AreOne one two = AreLinked AreOne one.state.number two.state.number one.ends two.ends

abbrev pub StayLinkedBy : {S R : Type 0} → (S → List SendMove → S → Type 0) → (R → List ReceiveMove → R → Type 0) → (S → R → Type 0) → Type 0
StayLinkedBy {S} {R} Sent Received AreOne = (old new other : LinkedDomain S R) → Goes (EndsMoved Sent Received) old new → (AreLinkedBy AreOne old other → AreLinkedBy AreOne new other) × (AreLinkedBy AreOne other old → AreLinkedBy AreOne other new)

-- ---- over plain lanes

abbrev pub PlainDomain : Type 0
PlainDomain = LinkedDomain Sender Receiver

abbrev pub PlainGoes : PlainDomain → PlainDomain → Type 0
PlainGoes old new = Goes (EndsMoved Sends Receives) old new

abbrev pub AreLinkedDomains : PlainDomain → PlainDomain → Type 0
AreLinkedDomains one two = AreLinkedBy AreOneLane one two

-- ---- over rings

abbrev pub AnyDomain : Type 0
AnyDomain = LinkedDomain AnySend AnyRecv

abbrev pub AnyGoes : AnyDomain → AnyDomain → Type 0
AnyGoes old new = Goes (EndsMoved AnySends AnyReceives) old new

abbrev pub AreLinkedByRings : AnyDomain → AnyDomain → Type 0
AreLinkedByRings one two = AreLinkedBy AreEndsOfOneRing one two
