-- Two domains that were opened over a link are linked, and stay so through each call.
use Rattle.std.proofs.Common.{◌≡◌, ◌∙◌, ℕ, Bool, List, [], ◌∷◌, Option, Some, None, cond, refl, sym, ap, subst, eq-eqb}
use Rattle.std.specs.Prelude.{nat_lt, find, ◌==◌}
use Rattle.std.proofs.lemmas.Bool.{cond_both}
use Rattle.std.proofs.lemmas.List.FromFn.{length-range_with_len}
use Rattle.mc_base.specs.declared.request.RequestId.{RequestId}
use Rattle.lane_end.specs.PlainSender.{Sender, Sends}
use Rattle.lane_end.specs.PlainReceiver.{Receiver, Receives}
use Rattle.lane_end.specs.PlainLane.{AreOneLane, new_receiver, new_sender}
use Rattle.lane_end.specs.Loop.{Loop, new_loop}
use Rattle.lane_end.specs.Numbers.{IsLaneSize}
use Rattle.lane_end.proofs.SoundLemmas.{new-one-lane}
use Rattle.board_model.specs.DomainCall.{DomainCall}
use Rattle.board_model.specs.Journal.{Line, PlainAnswer}
use Rattle.domain_core.specs.declared.Ends.TheVariants.{Own, Linked}
use Rattle.domain_core.specs.Ends.{EndsMoved}
use Rattle.domain_core.specs.Calls.{Calls}
use Rattle.domain_core.specs.Opening.{ends_opened, links_in}
use Rattle.domain_core.specs.Carrying.{PlainLink, link_to}
use Rattle.domain_core.specs.Going.{AreLinkedDomains, CallsGoBy, PlainDomain, StayLinkedBy, WaitsGoBy}
use Rattle.domain_core.specs.Waiting.{Waits}
use Rattle.linked_pair.specs.Links.{IsOpen, new_link}
use Rattle.linked_pair.specs.Pair.{IsOpened}
use Rattle.linked_pair.specs.declared.member.Member.{Member}

-- ---- new links

new-open : (peer size : ℕ) → IsLaneSize size → IsOpen (new_link peer size)
new-open peer size fits = record { size_to_is = refl; size_from_is = refl; fits = fits.1; all_free = length-range_with_len 0 size; none_shown = refl; none_out = refl }

pub ends-open : (peer size : ℕ) (s : Sender) (r : Receiver) → s ≡ new_sender size → r ≡ new_receiver size → IsLaneSize size → IsOpen (record { peer = peer; size = size; send = s; recv = r })
ends-open peer size s r s-is r-is fits = subst (λ (x : Sender). IsOpen (record { peer = peer; size = size; send = x; recv = r })) (sym s-is) (subst (λ (y : Receiver). IsOpen (record { peer = peer; size = size; send = new_sender size; recv = y })) (sym r-is) (new-open peer size fits))

-- ---- domains that were opened

opened_in : (number : ℕ) (own : Loop) (l : PlainLink) → links_in (ends_opened number own (l ∷ [])) ≡ l ∷ []
opened_in number own l = cond_both (nat_lt number l.peer) (Own own ∷ Linked l ∷ []) (Linked l ∷ Own own ∷ []) (λ es. links_in es ≡ l ∷ []) (λ before. refl) (λ behind. refl)

found : (m : Member) (peer size : ℕ) (d : PlainDomain) → IsOpened m peer size d → link_to peer d.ends ≡ Some (new_link peer size)
found m peer size d opened =
    let ls = ap (λ es. find (λ (l : PlainLink). l.peer == peer) (links_in es)) opened.ends ∙ ap (λ ls. find (λ (l : PlainLink). l.peer == peer) ls) (opened_in m.number (new_loop m.pool) (new_link peer size)) in
    ls ∙ ap (λ b. cond b (Some (new_link peer size)) None) (eq-eqb peer peer refl)

pub opened-of : (m : Member) (l : PlainLink) (peer size : ℕ) (d : PlainDomain) → l ≡ new_link peer size → ((n : ℕ) → l ≡ new_link l.peer n → IsOpened m l.peer n d) → IsOpened m peer size d
opened-of m l peer size d is opened = subst (λ (k : PlainLink). ((n : ℕ) → k ≡ new_link k.peer n → IsOpened m k.peer n d) → IsOpened m peer size d) (sym is) (λ each. each size refl) opened

pub opened-linked : (one two : Member) (size : ℕ) (d e : PlainDomain) → IsOpened one two.number size d → IsOpened two one.number size e → AreLinkedDomains d e
opened-linked one two size d e first second =
    let one-is : d.state.number ≡ one.number = ap (λ s. s.number) first.state in
    let two-is : e.state.number ≡ two.number = ap (λ s. s.number) second.state in
    rw (one-is, two-is) (record {
      there = new_link two.number size;
      back = new_link one.number size;
      one_has = found one two.number size d first;
      two_has = found two one.number size e second;
      joined = record { there = new-one-lane size; back = new-one-lane size };
    })

-- ---- calls

module _ (node : ℕ) (call : DomainCall) (old new other : PlainDomain) (lines lines' : List Line) (answered : PlainAnswer) (given : Option RequestId) (go : CallsGoBy Sends Receives) (stay : StayLinkedBy Sends Receives AreOneLane) (calls : Calls (EndsMoved Sends Receives) node call old new lines lines' answered given) where
  pub first-calls : AreLinkedDomains old other → AreLinkedDomains new other
  first-calls linked = (stay old new other (go node call old new lines lines' answered given calls)).0 linked

  pub second-calls : AreLinkedDomains other old → AreLinkedDomains other new
  second-calls linked = (stay old new other (go node call old new lines lines' answered given calls)).1 linked

module _ (number limit : ℕ) (ids : List RequestId) (says_place : Bool) (old new other : PlainDomain) (lines lines' : List Line) (answered : Option PlainAnswer) (go : WaitsGoBy Sends Receives) (stay : StayLinkedBy Sends Receives AreOneLane) (waits : Waits (EndsMoved Sends Receives) number limit ids says_place old new lines lines' answered) where
  pub first-waits : AreLinkedDomains old other → AreLinkedDomains new other
  first-waits linked = (stay old new other (go number limit ids says_place old new lines lines' answered waits)).0 linked

  pub second-waits : AreLinkedDomains other old → AreLinkedDomains other new
  second-waits linked = (stay old new other (go number limit ids says_place old new lines lines' answered waits)).1 linked
