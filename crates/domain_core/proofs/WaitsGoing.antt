-- What a domain keeps through a wait: its number, and that moves lead from its ends to those after it.
use Rattle.std.proofs.Common.{◌≡◌, ℕ, Bool, List, [], ◌∷◌, ◌++◌, map, Option, Some, None, refl, sym, ap, ◌∙◌, subst}
use Rattle.mc_base.specs.declared.request.RequestId.{RequestId}
use Rattle.board_model.specs.DomainCall.{DomainCall}
use Rattle.board_model.specs.Journal.{Line, PlainAnswer, Visit}
use Rattle.board_model.specs.State.{DomainState}
use Rattle.board_model.proofs.WholeTurns.{turn_number}
use Rattle.lane_end.specs.SendMoves.{SendMove}
use Rattle.lane_end.specs.ReceiveMoves.{ReceiveMove}
use Rattle.lane_end.specs.MoveLaws.{Lead-append}
use Rattle.lane_end.specs.AnySender.{AnySends, AnySends-none, AnySends-both}
use Rattle.lane_end.specs.AnyReceiver.{AnyReceives, AnyReceives-none, AnyReceives-both}
use Rattle.lane_end.specs.PlainSender.{Sends, MaySend, sender_after}
use Rattle.lane_end.specs.PlainReceiver.{Receives, MayReceive, receiver_after}
use Rattle.domain_parts.specs.AllMoved.{AllMoved, turn_moves}
use Rattle.domain_parts.specs.Calls.{Does}
use Rattle.domain_parts.specs.DomainView.{DomainView}
use Rattle.domain_parts.specs.Ends.{EndsMoved, EndsMoved-both, EndsMoved-none}
use Rattle.domain_core.specs.Going.{Goes, LinkedDomain, WaitsGoBy}
use Rattle.domain_parts.specs.LaneMoves.{LaneMove}
use Rattle.domain_parts.specs.Turned.{Turns}
use Rattle.domain_parts.specs.Waiting.{EndsPolled, Polls, Waits}
use Rattle.domain_core.proofs.Going.{all-both, effect-number}

module _ {L : Type 0} (Moved : L → List LaneMove → L → Type 0) (none : (l : L) → Moved l [] l) (both : (a b c : L) (xs ys : List LaneMove) → Moved a xs b → Moved b ys c → Moved a (xs ++ ys) c) where
  none-moved : (ends : List L) → AllMoved Moved ends (map (λ e. []) ends) ends
  none-moved [] = tt
  none-moved (e ∷ es) = (none e, none-moved es)

  stays : (d : DomainView L) → Goes Moved d d
  stays d = record { number = refl; moves = map (λ e. []) d.ends; moved = none-moved d.ends }

  then : (a b c : DomainView L) → Goes Moved a b → Goes Moved b c → Goes Moved a c
  then a b c first next =
      let all = all-both Moved both a.ends b.ends c.ends first.moves next.moves first.moved next.moved in
      record { number = next.number ∙ first.number; moves = all.0; moved = all.1 }

  turn-goes : (visits : List Visit) (numbers : List (List ℕ)) (old new : DomainView L) → Turns Moved visits numbers old new → Goes Moved old new
  turn-goes visits numbers old new turn = record {
    number = ap (λ (s : DomainState). s.number) turn.state ∙ turn_number old.state visits;
    moves = turn_moves old.numbered visits numbers;
    moved = turn.moved;
  }

  does-go : (node : ℕ) (call : DomainCall) (old new : DomainView L) (answered : PlainAnswer) → Does Moved node call old new answered None → Goes Moved old new
  does-go node call old new answered does = record {
    number = ap (λ (s : DomainState). s.number) does.state ∙ effect-number old.state node call;
    moves = _;
    moved = does.moved;
  }

  polls-go : (ids : List RequestId) (turns : List (List Visit)) (old new : DomainView L) → Polls Moved ids turns old new → Goes Moved old new
  polls-go ids [] old new polls = subst (λ d. Goes Moved old d) (sym polls) (stays old)
  polls-go ids (visits ∷ turns) old new polls = then old polls.2 new (turn-goes visits polls.1 old polls.2 polls.3) (polls-go ids turns polls.2 new polls.4)

  ends-go : (limit made : ℕ) (ids : List RequestId) (says_place : Bool) (polled new : DomainView L) (answered : Option PlainAnswer) → EndsPolled Moved limit made ids says_place polled new answered → Goes Moved polled new
  ends-go limit made ids says_place polled new None ends = subst (λ d. Goes Moved polled d) (sym ends.2) (stays polled)
  ends-go limit made ids says_place polled new (Some a) ends = does-go 0 _ polled new a ends.0

  pub waits-go : (number limit : ℕ) (ids : List RequestId) (says_place : Bool) (old new : DomainView L) (lines lines' : List Line) (answered : Option PlainAnswer) → Waits Moved number limit ids says_place old new lines lines' answered → Goes Moved old new
  waits-go number limit ids says_place old new lines lines' answered w =
      then old w.polled_to new (polls-go ids w.turns old w.polled_to w.polls) (ends-go limit _ ids says_place w.polled_to new answered w.ends)

-- ---- ends of any kind

module _ {S R : Type 0} (Sent : S → List SendMove → S → Type 0) (Received : R → List ReceiveMove → R → Type 0) (sent-none : (e : S) → Sent e [] e) (received-none : (e : R) → Received e [] e)
    (sent-both : (a b c : S) (xs ys : List SendMove) → Sent a xs b → Sent b ys c → Sent a (xs ++ ys) c) (received-both : (a b c : R) (xs ys : List ReceiveMove) → Received a xs b → Received b ys c → Received a (xs ++ ys) c) where
  pub ends-wait : (number limit : ℕ) (ids : List RequestId) (says_place : Bool) (old new : LinkedDomain S R) (lines lines' : List Line) (answered : Option PlainAnswer) → Waits (EndsMoved Sent Received) number limit ids says_place old new lines lines' answered → Goes (EndsMoved Sent Received) old new
  ends-wait number limit ids says_place old new lines lines' answered w =
      waits-go (EndsMoved Sent Received) (λ e. EndsMoved-none Sent Received sent-none received-none e) (λ a b c xs ys first next. EndsMoved-both Sent Received sent-both received-both a b c xs ys first next) number limit ids says_place old new lines lines' answered w

-- ---- over plain lanes, and over rings

pub plain-waits-go : WaitsGoBy Sends Receives
plain-waits-go number limit ids says_place old new lines lines' answered w =
    ends-wait Sends Receives (λ e. refl) (λ e. refl) (λ x y z ms ns one two. Lead-append MaySend sender_after x y z ms ns one two) (λ x y z ms ns one two. Lead-append MayReceive receiver_after x y z ms ns one two) number limit ids says_place old new lines lines' answered w

pub any-waits-go : WaitsGoBy AnySends AnyReceives
any-waits-go number limit ids says_place old new lines lines' answered w = ends-wait AnySends AnyReceives AnySends-none AnyReceives-none AnySends-both AnyReceives-both number limit ids says_place old new lines lines' answered w
