-- The answer of a call has the form of the call.
use Rattle.std.proofs.Common.{◌≡◌, ℕ, ◌+◌, Bool, true, false, not, ◌||◌, cond, List, [], ◌∷◌, Option, Some, None, refl, ◌∙◌}
use Rattle.std.specs.Prelude.{find, position, option_map, is_some}
use Rattle.std.specs.List.{list_any}
use Rattle.mc_base.specs.declared.channel.Bits.{Bits}
use Rattle.mc_base.specs.declared.refusal.Refusal.{Refusal}
use Rattle.mc_base.specs.declared.refusal.Refusal.TheVariants.{RequestInvalid, Timeout}
use Rattle.mc_base.specs.declared.request.PacketId.{PacketId}
use Rattle.mc_base.specs.declared.request.RequestId.{RequestId}
use Rattle.board_model.specs.declared.scenario.Call.{Call}
use Rattle.board_model.specs.declared.scenario.Call.TheVariants.{Create, Delete, Lookup, MsgSend, MsgRecv, MsgRecvI, MsgAvailable, Connect, OpenSend, OpenRecv, PktSend, PktRecv, PktRecvI, Release, SclSend, SclRecv, CloseSend, CloseRecv, Test, Wait, WaitAny, Cancel, Raw, Turn}
use Rattle.board_model.specs.Answer.{answer, answer_by, given, is_complete_at, lacks_request, lent_whole, refusal, success, value_of}
use Rattle.board_model.specs.DomainCall.{wait_for}
use Rattle.board_model.specs.Journal.{PlainAnswer, PlainResult, completes}
use Rattle.board_model.specs.State.{DomainState, Item}
use Rattle.board_model.specs.Step.{limit_of}
use Rattle.board_model.proofs.MessageLists.{some-position}
use Rattle.board_runner.specs.AnswerForms.{AnswerForm, ok_bytes, ok_number, done_result, done_place, form_of_answer, has_form}
use Rattle.board_runner.specs.Held.{Ids, PacketIds}
use Rattle.board_runner.specs.Lines.{call_by}
use Rattle.board_runner.specs.Waits.{says_place}

-- ---- the place of a request that is complete

any_found : {A : Type 0} (p : A → Bool) (xs : List A) → list_any p xs ≡ true → is_some (find p xs) ≡ true
any_found p [] any = absurd cc
any_found p (x ∷ xs) any = go (p x) any (λ some. any_found p xs some)
  where
    go : (b : Bool) → (b || list_any p xs) ≡ true → (list_any p xs ≡ true → is_some (find p xs) ≡ true) → is_some (cond b (Some x) (find p xs)) ≡ true
    go true some rest = refl
    go false some rest = rest some

placed : (o : Option ℕ) (r : PlainResult) → is_some o ≡ true → has_form done_place (completes (option_map (λ i. i + 1) o) r) ≡ true
placed None r some = absurd cc
placed (Some i) r some = refl

-- where a wait is not refused, one of its requests is complete
one_complete : (lacks any : Bool) → cond lacks (Some RequestInvalid) (cond (not any) (Some Timeout) None) ≡ None → any ≡ true
one_complete true any none = absurd cc
one_complete false true none = refl
one_complete false false none = absurd cc

module _ (s : DomainState) (node : ℕ) where
  any_place : (requests : List (Option ℕ)) (r : PlainResult) → refusal s node (wait_for requests true) ≡ None → has_form done_place (completes (option_map (λ i. i + 1) (position (is_complete_at s) requests)) r) ≡ true
  any_place requests r none =
      let any = one_complete (lacks_request s (wait_for requests true)) (list_any (is_complete_at s) requests) none in
      placed (position (is_complete_at s) requests) r (some-position (is_complete_at s) requests ∙ any_found (is_complete_at s) requests any)

  -- ---- what is answered where nothing is refused

  given_fits : (max : ℕ) (o : Option Item) → has_form ok_bytes (given max o) ≡ true
  given_fits max None = refl
  given_fits max (Some i) = refl

  lent_fits : (o : Option Item) → has_form ok_bytes (lent_whole o) ≡ true
  lent_fits None = refl
  lent_fits (Some i) = refl

  value_fits : (bits : Bits) (o : Option Item) → has_form ok_number (value_of bits o) ≡ true
  value_fits bits None = refl
  value_fits bits (Some i) = refl

  success_fits : (ids : Ids) (packets : PacketIds) (standing : List RequestId) (lent : List PacketId) (call : Call) → refusal s node (call_by ids packets standing lent call) ≡ None → has_form (form_of_answer call) (success s node (call_by ids packets standing lent call)) ≡ true
  success_fits ids packets standing lent (Create port) none = refl
  success_fits ids packets standing lent (Delete port) none = refl
  success_fits ids packets standing lent (Lookup name) none = refl
  success_fits ids packets standing lent (MsgSend port to priority bytes) none = refl
  success_fits ids packets standing lent (MsgRecv port max) none = given_fits max _
  success_fits ids packets standing lent (MsgRecvI port max) none = refl
  success_fits ids packets standing lent (MsgAvailable port) none = refl
  success_fits ids packets standing lent (Connect port to kind) none = refl
  success_fits ids packets standing lent (OpenSend port kind) none = refl
  success_fits ids packets standing lent (OpenRecv port kind) none = refl
  success_fits ids packets standing lent (PktSend port bytes) none = refl
  success_fits ids packets standing lent (PktRecv port) none = lent_fits _
  success_fits ids packets standing lent (PktRecvI port) none = refl
  success_fits ids packets standing lent (Release label) none = refl
  success_fits ids packets standing lent (SclSend port bits value) none = refl
  success_fits ids packets standing lent (SclRecv port bits) none = value_fits bits _
  success_fits ids packets standing lent (CloseSend port) none = refl
  success_fits ids packets standing lent (CloseRecv port) none = refl
  success_fits ids packets standing lent (Test label) none = refl
  success_fits ids packets standing lent (Wait label limit) none = refl
  success_fits ids packets standing lent (WaitAny names limit) none = any_place _ _ none
  success_fits ids packets standing lent (Cancel label) none = refl
  success_fits ids packets standing lent (Raw domain bytes) none = refl
  success_fits ids packets standing lent Turn none = refl

-- a refusal has every form
refused_or : (form : AnswerForm) (o : Option Refusal) (a : PlainAnswer) → (o ≡ None → has_form form a ≡ true) → has_form form (answer_by o a) ≡ true
refused_or form (Some word) a fits = refl
refused_or form None a fits = fits refl

-- ---- the answer

pub call-answers : (s : DomainState) (node : ℕ) (ids : Ids) (packets : PacketIds) (standing : List RequestId) (lent : List PacketId) (call : Call) → has_form (form_of_answer call) (answer s node (call_by ids packets standing lent call)) ≡ true
call-answers s node ids packets standing lent call =
    let c = call_by ids packets standing lent call in
    refused_or (form_of_answer call) (refusal s node c) (success s node c) (success_fits s node ids packets standing lent call)

-- and that of a wait
pub waited-answers : (s : DomainState) (node : ℕ) (requests : List (Option ℕ)) (call : Call) (limit : ℕ) → limit_of call ≡ Some limit → has_form (form_of_answer call) (answer s node (wait_for requests (says_place call))) ≡ true
waited-answers s node requests (Wait label n) limit is = refused_or done_result (refusal s node (wait_for requests false)) (success s node (wait_for requests false)) (λ none. refl)
waited-answers s node requests (WaitAny names n) limit is = refused_or done_place (refusal s node (wait_for requests true)) (success s node (wait_for requests true)) (any_place s node requests _)
waited-answers s node requests other limit is = absurd cc
