-- The call of a line: that what it puts fits into a frame, and that it is one call whatever lists the labels are held by.
use Rattle.std.proofs.Common.{◌≡◌, ℕ, true, false, List, [], ◌∷◌, ap, map, refl}
use Rattle.board_model.specs.declared.scenario.Call.{Call}
use Rattle.board_model.specs.declared.scenario.Call.TheVariants.{Create, Delete, Lookup, MsgSend, MsgRecv, MsgRecvI, MsgAvailable, Connect, OpenSend, OpenRecv, PktSend, PktRecv, PktRecvI, Release, SclSend, SclRecv, CloseSend, CloseRecv, Test, Wait, WaitAny, Cancel, Raw, Turn}
use Rattle.board_model.specs.DomainCall.{cancel_of, release_of, test_of, wait_for}
use Rattle.board_model.specs.Labels.{Labels, call_of, place_lent, place_of_label}
use Rattle.board_model.specs.State.{DomainState}
use Rattle.report_replay.specs.Puts.{FitsFrame}
use Rattle.report_check.specs.Runs.{FitsLine}

pub fits-call : (ls : Labels) (s : DomainState) (c : Call) → FitsLine c → FitsFrame (call_of ls s c)
fits-call ls s (Create port) fits = tt
fits-call ls s (Delete port) fits = tt
fits-call ls s (Lookup name) fits = tt
fits-call ls s (MsgSend port to priority bytes) fits = tt
fits-call ls s (MsgRecv port max) fits = tt
fits-call ls s (MsgRecvI port max) fits = tt
fits-call ls s (MsgAvailable port) fits = tt
fits-call ls s (Connect port to kind) fits = tt
fits-call ls s (OpenSend port kind) fits = tt
fits-call ls s (OpenRecv port kind) fits = tt
fits-call ls s (PktSend port bytes) fits = tt
fits-call ls s (PktRecv port) fits = tt
fits-call ls s (PktRecvI port) fits = tt
fits-call ls s (Release label) fits = tt
fits-call ls s (SclSend port bits value) fits = fits
fits-call ls s (SclRecv port bits) fits = tt
fits-call ls s (CloseSend port) fits = tt
fits-call ls s (CloseRecv port) fits = tt
fits-call ls s (Test label) fits = tt
fits-call ls s (Wait label limit) fits = tt
fits-call ls s (WaitAny names limit) fits = tt
fits-call ls s (Cancel label) fits = tt
fits-call ls s (Raw domain bytes) fits = fits
fits-call ls s Turn fits = tt

-- ---- two lists of labels that say the same, each in a state of its own

module _ (ls ms : Labels) (s t : DomainState) (same : (label : List ℕ) → place_of_label ls.requests s label ≡ place_of_label ms.requests t label) (lent : (label : List ℕ) → place_lent ls.packets s label ≡ place_lent ms.packets t label) where
  places-same : {A : Type 0} (f : A → List ℕ) (names : List A) → map (λ l. place_of_label ls.requests s (f l)) names ≡ map (λ l. place_of_label ms.requests t (f l)) names
  places-same f [] = refl
  places-same f (l ∷ more) = λ i. same (f l) i ∷ places-same f more i

  pub calls-same : (c : Call) → call_of ls s c ≡ call_of ms t c
  calls-same (Create port) = refl
  calls-same (Delete port) = refl
  calls-same (Lookup name) = refl
  calls-same (MsgSend port to priority bytes) = refl
  calls-same (MsgRecv port max) = refl
  calls-same (MsgRecvI port max) = refl
  calls-same (MsgAvailable port) = refl
  calls-same (Connect port to kind) = refl
  calls-same (OpenSend port kind) = refl
  calls-same (OpenRecv port kind) = refl
  calls-same (PktSend port bytes) = refl
  calls-same (PktRecv port) = refl
  calls-same (PktRecvI port) = refl
  calls-same (Release label) = ap release_of (lent label.items)
  calls-same (SclSend port bits value) = refl
  calls-same (SclRecv port bits) = refl
  calls-same (CloseSend port) = refl
  calls-same (CloseRecv port) = refl
  calls-same (Test label) = ap test_of (same label.items)
  calls-same (Wait label limit) = ap (λ p. wait_for (p ∷ []) false) (same label.items)
  calls-same (WaitAny names limit) = ap (λ ps. wait_for ps true) (places-same (λ l. l.items) names.items)
  calls-same (Cancel label) = ap cancel_of (same label.items)
  calls-same (Raw domain bytes) = refl
  calls-same Turn = refl
