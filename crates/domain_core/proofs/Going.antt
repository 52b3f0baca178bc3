-- What a domain keeps through any of its calls: its number, and that the ends of a link to another still fit together.
use Rattle.std.proofs.Common.{◌≡◌, ℕ, Bool, true, false, cond, List, [], ◌∷◌, ◌++◌, Option, Some, refl, sym, ap, ◌∙◌, subst}
use Rattle.std.specs.Prelude.{◌==◌}
use Rattle.mc_base.specs.declared.request.RequestId.{RequestId}
use Rattle.board_model.specs.DomainCall.{DomainCall}
use Rattle.board_model.specs.Journal.{Line, PlainAnswer}
use Rattle.board_model.specs.State.{DomainState}
use Rattle.board_model.specs.CallChanges.{call_changes, effect}
use Rattle.board_model.proofs.DeedJoins.{changes-keep}
use Rattle.board_model.proofs.WholeTurns.{turn_number}
use Rattle.lane_end.specs.SendMoves.{SendMove}
use Rattle.lane_end.specs.ReceiveMoves.{ReceiveMove}
use Rattle.lane_end.specs.MoveLaws.{Lead-append}
use Rattle.lane_end.specs.PlainLane.{AreOneLane}
use Rattle.lane_end.specs.AnySender.{AnySends, AnySends-none, AnySends-both}
use Rattle.lane_end.specs.AnyReceiver.{AnyReceives, AnyReceives-none, AnyReceives-both}
use Rattle.lane_end.specs.AnyLane.{AreEndsOfOneRing}
use Rattle.lane_end.proofs.AnyLaneLemmas.{ends-stay}
use Rattle.lane_end.specs.PlainSender.{Sends, MaySend, sender_after}
use Rattle.lane_end.specs.PlainReceiver.{Receives, MayReceive, receiver_after}
use Rattle.lane_end.proofs.LaneLemmas.{stay-one-lane}
use Rattle.domain_parts.specs.declared.ends.Ends.{Ends}
use Rattle.domain_parts.specs.declared.ends.Ends.TheVariants.{Own, Linked}
use Rattle.domain_parts.specs.LaneMoves.{LaneMove, sends, receives}
use Rattle.domain_parts.specs.LinkMoved.{LinkMoved}
use Rattle.domain_parts.specs.Ends.{EndsMoved, EndsMoved-both}
use Rattle.domain_parts.specs.AllMoved.{AllMoved}
use Rattle.domain_parts.specs.DomainView.{DomainView}
use Rattle.domain_parts.specs.Calls.{Calls}
use Rattle.domain_parts.specs.Carrying.{AreLinked, link_to}
use Rattle.domain_core.specs.Going.{CallsGoBy, StayLinkedBy, AreLinkedBy, Goes, LinkedDomain}
use Rattle.domain_parts.specs.declared.link.Link.{Link}

-- ---- the number

pub effect-number : (s : DomainState) (node : ℕ) (call : DomainCall) → (effect s node call).number ≡ s.number
effect-number s node call = changes-keep (λ t. t.number) (λ t c. refl) s (call_changes s node call)

-- ---- the moves of a turn and of a call, as one list at each ends

module _ {L : Type 0} (Moved : L → List LaneMove → L → Type 0) (both : (a b c : L) (xs ys : List LaneMove) → Moved a xs b → Moved b ys c → Moved a (xs ++ ys) c) where
  pub all-both : (es bs cs : List L) (ms ns : List (List LaneMove)) → AllMoved Moved es ms bs → AllMoved Moved bs ns cs → (os : List (List LaneMove)) × AllMoved Moved es os cs
  all-both [] [] [] [] [] first then = ([], tt)
  all-both (a ∷ es) (b ∷ bs) (c ∷ cs) (m ∷ ms) (n ∷ ns) first then =
      let rest = all-both es bs cs ms ns first.1 then.1 in
      ((m ++ n) ∷ rest.0, (both a b c m n first.0 then.0, rest.1))
  all-both [] [] (c ∷ cs) [] [] first then = absurd then
  all-both [] [] cs [] (n ∷ ns) first then = absurd then
  all-both [] (b ∷ bs) cs [] ns first then = absurd first
  all-both [] bs cs (m ∷ ms) ns first then = absurd first
  all-both (a ∷ es) bs cs [] ns first then = absurd first
  all-both (a ∷ es) [] cs (m ∷ ms) ns first then = absurd first
  all-both (a ∷ es) (b ∷ bs) cs (m ∷ ms) [] first then = absurd then
  all-both (a ∷ es) (b ∷ bs) [] (m ∷ ms) (n ∷ ns) first then = absurd then

  pub calls-go : (node : ℕ) (call : DomainCall) (old new : DomainView L) (lines lines' : List Line) (answered : PlainAnswer) (given : Option RequestId) → Calls Moved node call old new lines lines' answered given → Goes Moved old new
  calls-go node call old new lines lines' answered given calls =
      let all = all-both old.ends calls.turned_to.ends new.ends _ _ calls.turns.moved calls.does.moved in
      record {
        number = ap (λ (s : DomainState). s.number) calls.does.state ∙ effect-number calls.turned_to.state node call ∙ ap (λ (s : DomainState). s.number) calls.turns.state ∙ turn_number old.state calls.visits;
        moves = all.0;
        moved = all.1;
      }

-- ---- ends of any kind

module _ {S R : Type 0} (Sent : S → List SendMove → S → Type 0) (Received : R → List ReceiveMove → R → Type 0)
    (sent-both : (a b c : S) (xs ys : List SendMove) → Sent a xs b → Sent b ys c → Sent a (xs ++ ys) c) (received-both : (a b c : R) (xs ys : List ReceiveMove) → Received a xs b → Received b ys c → Received a (xs ++ ys) c) where
  pub ends-go : (node : ℕ) (call : DomainCall) (old new : DomainView (Ends S R)) (lines lines' : List Line) (answered : PlainAnswer) (given : Option RequestId) → Calls (EndsMoved Sent Received) node call old new lines lines' answered given → Goes (EndsMoved Sent Received) old new
  ends-go node call old new lines lines' answered given calls =
      calls-go (EndsMoved Sent Received) (λ a b c xs ys first then. EndsMoved-both Sent Received sent-both received-both a b c xs ys first then) node call old new lines lines' answered given calls

-- ---- links after moves

module _ {S R : Type 0} (Sent : S → List SendMove → S → Type 0) (Received : R → List ReceiveMove → R → Type 0) where
  abbrev Moved : Ends S R → List LaneMove → Ends S R → Type 0
  Moved a moves b = EndsMoved Sent Received a moves b

  -- the link to a peer after moves
  pub record HasMoved (a : Link S R) (o : Option (Link S R)) : Type 0 where
    pub link : Link S R
    pub is : o ≡ Some link
    pub moves : List LaneMove
    pub moved : LinkMoved Sent Received a moves link

  pub link-moved : (n : ℕ) (es fs : List (Ends S R)) (moves : List (List LaneMove)) (a : Link S R) → AllMoved Moved es moves fs → link_to n es ≡ Some a → HasMoved a (link_to n fs)
  link-moved n [] fs moves a moved has = absurd cc
  link-moved n (Own l ∷ es) (Own m ∷ fs) (ms ∷ moves) a moved has = link-moved n es fs moves a moved.1 has
  link-moved n (Linked l ∷ es) (Linked m ∷ fs) (ms ∷ moves) a moved has =
      elim (l.peer == n) as (λ b. (l.peer == n) ≡ b → cond b (Some l) (link_to n es) ≡ Some a → HasMoved a (link_to n (Linked m ∷ fs))) [
        | true ↦ λ is found.
            let same : l ≡ a = cc in
            let here : (m.peer == n) ≡ true = ap (λ k. k == n) moved.0.peer ∙ is in
            record {
              link = m;
              is = ap (λ (b : Bool). cond b (Some m) (link_to n fs)) here;
              moves = ms;
              moved = subst (λ (x : Link S R). LinkMoved Sent Received x ms m) same moved.0;
            }
        | false ↦ λ other found.
            let rest = link-moved n es fs moves a moved.1 found in
            let there : (m.peer == n) ≡ false = ap (λ k. k == n) moved.0.peer ∙ other in
            record {
              link = rest.link;
              is = ap (λ (b : Bool). cond b (Some m) (link_to n fs)) there ∙ rest.is;
              moves = rest.moves;
              moved = rest.moved;
            }
      ] refl has
  link-moved n (Own l ∷ es) (Linked m ∷ fs) (ms ∷ moves) a moved has = absurd moved.0
  link-moved n (Linked l ∷ es) (Own m ∷ fs) (ms ∷ moves) a moved has = absurd moved.0
  link-moved n (e ∷ es) fs [] a moved has = absurd moved
  link-moved n (e ∷ es) [] (ms ∷ moves) a moved has = absurd moved

  module _ (AreOne : S → R → Type 0) (stays : (a b : S) (c d : R) (xs : List SendMove) (ys : List ReceiveMove) → AreOne a c → Sent a xs b → Received c ys d → AreOne b d) (sent-none : (e : S) → Sent e [] e) (received-none : (e : R) → Received e [] e) where
    -- the ends of one of two domains that are linked move
    pub linked-moved : (one two : ℕ) (ones ones' twos : List (Ends S R)) (moves : List (List LaneMove)) → AllMoved Moved ones moves ones' → AreLinked AreOne one two ones twos → AreLinked AreOne one two ones' twos
    linked-moved one two ones ones' twos moves moved l =
        let mine = link-moved two ones ones' moves l.there moved l.one_has in
        record {
          there = mine.link;
          back = l.back;
          one_has = mine.is;
          two_has = l.two_has;
          joined = record {
            there = stays l.there.send mine.link.send l.back.recv l.back.recv (sends mine.moves) [] l.joined.there mine.moved.sent (received-none l.back.recv);
            back = stays l.back.send l.back.send l.there.recv mine.link.recv [] (receives mine.moves) l.joined.back (sent-none l.back.send) mine.moved.received;
          };
        }

    pub linked-other : (one two : ℕ) (ones twos : List (Ends S R)) → AreLinked AreOne one two ones twos → AreLinked AreOne two one twos ones
    linked-other one two ones twos l = record { there = l.back; back = l.there; one_has = l.two_has; two_has = l.one_has; joined = record { there = l.joined.back; back = l.joined.there } }

    stay-one : (old new other : LinkedDomain S R) → Goes Moved old new → AreLinkedBy AreOne old other → AreLinkedBy AreOne new other
    stay-one old new other goes l =
        subst (λ (n : ℕ). AreLinked AreOne n other.state.number new.ends other.ends) (sym goes.number) (linked-moved old.state.number other.state.number old.ends new.ends other.ends goes.moves goes.moved l)

    pub stay-linked : StayLinkedBy Sent Received AreOne
    stay-linked old new other goes = (λ l. stay-one old new other goes l, λ l. linked-other new.state.number other.state.number new.ends other.ends (stay-one old new other goes (linked-other other.state.number old.state.number other.ends old.ends l)))

-- ---- over plain lanes, and over rings

pub plain-calls-go : CallsGoBy Sends Receives
plain-calls-go node call old new lines lines' answered given calls =
    ends-go Sends Receives (λ x y z ms ns one two. Lead-append MaySend sender_after x y z ms ns one two) (λ x y z ms ns one two. Lead-append MayReceive receiver_after x y z ms ns one two) node call old new lines lines' answered given calls

pub any-calls-go : CallsGoBy AnySends AnyReceives
any-calls-go node call old new lines lines' answered given calls = ends-go AnySends AnyReceives AnySends-both AnyReceives-both node call old new lines lines' answered given calls

pub plain-stay : StayLinkedBy Sends Receives AreOneLane
plain-stay = stay-linked Sends Receives AreOneLane stay-one-lane (λ e. refl) (λ e. refl)

pub any-stay : StayLinkedBy AnySends AnyReceives AreEndsOfOneRing
any-stay = stay-linked AnySends AnyReceives AreEndsOfOneRing ends-stay AnySends-none AnyReceives-none
