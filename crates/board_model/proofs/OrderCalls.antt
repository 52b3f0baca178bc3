-- What any call does to the messages that are queued.
use Rattle.std.proofs.Common.{◌≡◌, ℕ, ◌≤◌, List, Option, Some, None, refl, sym, subst}
use Rattle.mc_base.specs.declared.refusal.Refusal.{Refusal}
use Rattle.board_model.specs.DomainCall.{DomainCall, create_at, delete_at, lookup_of, send_from, receive_at, request_at, available_at, connect_from, open_at, packet_from, lend_at, packet_request_at, release_of, scalar_from, scalar_at, close_at, test_of, wait_for, cancel_of, raw_to, turn_alone}
use Rattle.board_model.specs.Journal.{PlainAnswer}
use Rattle.board_model.specs.State.{DomainState}
use Rattle.board_model.specs.Answer.{refusal, success, answer, answer_by}
use Rattle.board_model.specs.Deeds.{Deed, calls}
use Rattle.board_model.proofs.OrderDeeds.{Does}
use Rattle.board_model.proofs.OrderSerials.{succeeds}
use Rattle.board_model.proofs.OrderMoments.{Moment}
use Rattle.board_model.proofs.OrderMessageCalls.{refused_does, create_does, send_does, available_does, raw_does, turn_does, wait_does, test_does, release_does, cancel_does, lookup_does, delete_does, receive_does, request_does}
use Rattle.board_model.proofs.OrderChannelCalls.{connect_does, open_does, close_does, packet_does, scalar_does, lend_does, value_does, packet_request_does}

module _ (room : ℕ) (before : List Deed) (s : DomainState) (moment : Moment room before s) (node : ℕ) where
  -- ---- all calls

  pub success_does : (call : DomainCall) → refusal s node call ≡ None → succeeds (calls node call (success s node call)) ≤ room → Does room before s (calls node call (success s node call))
  success_does (create_at port) is fits = create_does room before s moment node port is
  success_does (delete_at port) is fits = delete_does room before s moment node port is
  success_does (lookup_of name) is fits = lookup_does room before s moment node name is fits
  success_does (send_from port to priority bytes) is fits = send_does room before s moment node port to priority bytes is
  success_does (receive_at port max) is fits = receive_does room before s moment node port max is
  success_does (request_at port max) is fits = request_does room before s moment node port max is fits
  success_does (available_at port) is fits = available_does room before s moment node port is
  success_does (connect_from port to kind) is fits = connect_does room before s moment node port to kind is fits
  success_does (open_at port side kind) is fits = open_does room before s moment node port side kind is
  success_does (packet_from port bytes) is fits = packet_does room before s moment node port bytes is
  success_does (lend_at port) is fits = lend_does room before s moment node port is
  success_does (packet_request_at port) is fits = packet_request_does room before s moment node port is fits
  success_does (release_of place) is fits = release_does room before s moment node place is
  success_does (scalar_from port bits value) is fits = scalar_does room before s moment node port bits value is
  success_does (scalar_at port bits) is fits = value_does room before s moment node port bits is
  success_does (close_at port side) is fits = close_does room before s moment node port side is
  success_does (test_of place) is fits = test_does room before s moment node place is
  success_does (wait_for requests says_place) is fits = wait_does room before s moment node requests says_place is
  success_does (cancel_of place) is fits = cancel_does room before s moment node place is
  success_does (raw_to to bytes) is fits = raw_does room before s moment node to bytes is
  success_does turn_alone is fits = turn_does room before s moment node

  pub calls_does : (call : DomainCall) (a : PlainAnswer) → a ≡ answer s node call → succeeds (calls node call a) ≤ room → Does room before s (calls node call a)
  calls_does call a is fits = subst (λ x. Does room before s (calls node call x)) (sym is) (go (refusal s node call) refl (subst (λ x. succeeds (calls node call x) ≤ room) is fits))
    where
      go : (o : Option Refusal) → refusal s node call ≡ o → succeeds (calls node call (answer_by o (success s node call))) ≤ room → Does room before s (calls node call (answer_by o (success s node call)))
      go None none few = success_does call none few
      go (Some w) some few = refused_does room before s moment node call w some
