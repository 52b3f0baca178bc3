-- A receive that answers takes a message, and returns its size and its first bytes; a send that answers `ok` has its message accepted.
use Rattle.std.proofs.Common.{◌≡◌, inl, ℕ, true, List, [], ◌∷◌, length, map, take, Option, Some, None, option_to_list, unwrap_or, refl, sym, ap, ◌∙◌, subst}
use Rattle.std.specs.Prelude.{◌==◌}
use Rattle.std.specs.List.{AllByRecursion, flat_map}
use Rattle.mc_base.specs.declared.name.Local.{Local}
use Rattle.mc_base.specs.declared.refusal.Refusal.{Refusal}
use Rattle.board_model.specs.Choice.{best, least}
use Rattle.board_model.specs.DomainCall.{DomainCall, receive_at, send_from}
use Rattle.board_model.specs.Journal.{PlainAnswer, agrees, gives}
use Rattle.board_model.specs.State.{DomainState, Item, Endpoint, live_at, queue_at, queue_in}
use Rattle.board_model.specs.Answer.{local, holds, words_of, refusal, success, answer_by, answer, given, address_of}
use Rattle.board_model.specs.CallChanges.{at_live, best_item}
use Rattle.board_model.specs.Deeds.{Deed, calls, MayDo, after_deed}
use Rattle.board_model.specs.Takings.{Taking, taking, is_message_taking, answered_by, completed_by, takings_by}
use Rattle.board_model.specs.MessageOrder.{Gives}
use Rattle.board_model.specs.Messages.{Message, accepted_by}
use Rattle.board_model.proofs.MessageLists.{best_is}
use Rattle.board_model.proofs.OrderItems.{found_all}
use Rattle.board_model.proofs.OrderLookups.{live_found, none_holds, live_here, free_here}
use Rattle.board_model.proofs.OrderSound.{Sound, IsMessage, Bound, sound_bound}
use Rattle.board_model.proofs.WholeHas.{Has}
use Rattle.call_logs.specs.LogMessages.{MessageSent, MessageReceived}
use Rattle.call_logs.specs.MessageDeeds.{sent_in, received_in}
use Rattle.call_logs.proofs.ListsHad.{has_left}

-- ---- received

-- a taking of a message of which this was returned
pub record IsTaken (m : MessageReceived) (t : Taking) : Type 0 where
  pub gives : Gives m.max t.item m.size m.bytes
  pub message : is_message_taking t ≡ true

module _ (s : DomainState) (sound : Sound s) (node port max size : ℕ) (bytes : List ℕ) where
  abbrev got : MessageReceived
  got = record { max = max; size = size; bytes = bytes }

  given_is : (x : Option Item) → gives size bytes ≡ given max x → (i : Item) × (x ≡ Some i) × Gives max i size bytes
  given_is None is = absurd cc
  given_is (Some i) is = (i, refl, record { whole = size_is is; first = bytes_are is })
    where
      size_is : gives size bytes ≡ gives (length i.content) (take max i.content) → size ≡ length i.content
      size_is e = cc

      bytes_are : gives size bytes ≡ gives (length i.content) (take max i.content) → bytes ≡ take max i.content
      bytes_are e = cc

  -- at an endpoint without a channel only messages are queued
  is_message : (at : Local) (e : Endpoint) (i : Item) → live_at s at ≡ Some e → e.channel ≡ None → best (λ x. x.priority) e.queue ≡ Some i → IsMessage i
  is_message at e i found free is =
      let all : AllByRecursion IsMessage e.queue = subst (Bound e.queue) free (sound_bound s sound _ e found) in
      found_all IsMessage (λ x. x.priority == least (λ y. y.priority) e.queue) e.queue i (sym (best_is (λ x. x.priority) e.queue) ∙ is) all

  receive_takes : gives size bytes ≡ answer s node (receive_at port max) → Has (IsTaken got) (takings_by s (calls node (receive_at port max) (gives size bytes)))
  receive_takes may = go (refusal s node (receive_at port max)) refl may
    where
      at : Local
      at = local node port

      go : (o : Option Refusal) → refusal s node (receive_at port max) ≡ o → gives size bytes ≡ answer_by o (success s node (receive_at port max)) → Has (IsTaken got) (takings_by s (calls node (receive_at port max) (gives size bytes)))
      go (Some w) refused is = absurd cc
      go None none is =
          let words = none_holds (holds s node (receive_at port max)) (words_of (receive_at port max)) none in
          let e = live_here s at words.0 in
          let i = given_is (best (λ x. x.priority) (queue_at s at)) is in
          let best_one : best (λ x. x.priority) e.0.queue ≡ Some i.0 = ap (λ o. best (λ x. x.priority) (queue_in o)) (sym e.1 ∙ sym (live_found s at)) ∙ i.1 in
          let answers : answered_by s (calls node (receive_at port max) (gives size bytes)) ≡ taking None e.0.address i.0 ∷ [] =
          ap (λ o. at_live o (λ f. map (taking None f.address) (option_to_list (best_item f)))) e.1 ∙ ap (λ x. map (taking None e.0.address) (option_to_list x)) best_one in
          has_left (IsTaken got) (answered_by s (calls node (receive_at port max) (gives size bytes))) (flat_map (completed_by s) (after_deed s (calls node (receive_at port max) (gives size bytes))).requests)
          (subst (Has (IsTaken got)) (sym answers) (inl (record { gives = i.2; message = is_message at e.0 i.0 e.1 (free_here s at e.0 e.1 words.1.0) best_one })))

abbrev Taken : DomainState → Deed → Type 0
Taken s d = AllByRecursion (λ m. Has (IsTaken m) (takings_by s d)) (received_in s d)

call_takes : (s : DomainState) (node : ℕ) (call : DomainCall) (a : PlainAnswer) → MayDo s (calls node call a) → Sound s → Taken s (calls node call a)
call_takes s node (receive_at port max) (gives size bytes) may sound = (receive_takes s sound node port max size bytes may, tt)
call_takes s node (receive_at port max) a may sound = tt
call_takes s node call a may sound = tt

pub received_are_taken : (s : DomainState) (d : Deed) → MayDo s d → Sound s → Taken s d
received_are_taken s (calls node call a) may sound = call_takes s node call a may sound
received_are_taken s d may sound = tt

-- ---- accepted

pub record IsSent (x : Message) (m : MessageSent) : Type 0 where
  pub reaches : m.to.domain ≡ x.receiver
  pub content : m.content ≡ x.content

abbrev Sent : ℕ → DomainState → Deed → Type 0
Sent d s e = AllByRecursion (λ x. Has (IsSent x) (sent_in s e)) (accepted_by d s e)

call_sends : (d : ℕ) (s : DomainState) (node : ℕ) (call : DomainCall) (a : PlainAnswer) → Sent d s (calls node call a)
call_sends d s node (send_from port to priority bytes) agrees = go (live_at s (local node port))
  where
    go : (o : Option Endpoint) → AllByRecursion (λ x. Has (IsSent x) (sent_in s (calls node (send_from port to priority bytes) agrees))) (at_live o (λ e.
        record { sender = d; source = e.address; receiver = to.domain; destination = unwrap_or (address_of s to) 0; priority = priority; content = bytes } ∷ []))
    go None = tt
    go (Some e) = (inl (record { reaches = refl; content = refl }), tt)
call_sends d s node (send_from port to priority bytes) a = tt
call_sends d s node call a = tt

pub accepted_are_sent : (d : ℕ) (s : DomainState) (e : Deed) → Sent d s e
accepted_are_sent d s (calls node call a) = call_sends d s node call a
accepted_are_sent d s e = tt
