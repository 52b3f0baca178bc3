-- The deeds of a domain whose log fits a role: no call is answered but those of a relay, and one connect at most.
use Rattle.std.proofs.Common.{◌≡◌, ℕ, ◌+◌, Bool, true, false, List, [], ◌∷◌, Option, Some, None, refl, ap, sym, subst, ◌∙◌}
use Rattle.std.specs.Prelude.{◌==◌}
use Rattle.mc_base.specs.declared.refusal.Refusal.{Refusal}
use Rattle.board_model.specs.declared.scenario.Call.{Call}
use Rattle.board_model.specs.declared.scenario.Call.TheVariants.{Connect, PktRecv, PktSend}
use Rattle.board_model.specs.declared.scenario.Scenario.{Scenario}
use Rattle.board_model.specs.Answer.{refusal, success, answer, answer_by}
use Rattle.board_model.specs.DomainCall.{DomainCall, create_at, lookup_of, connect_from, open_at, packet_from, lend_at, release_of, close_at, wait_for}
use Rattle.board_model.specs.Journal.{PlainAnswer, connects, refuses}
use Rattle.board_model.specs.State.{DomainState}
use Rattle.board_model.specs.Labels.{Labels, call_of}
use Rattle.board_model.specs.Deeds.{Deed, calls, along}
use Rattle.board_model.specs.Run.{IsDomainRun}
use Rattle.board_model.specs.Board.{DomainJournal}
use Rattle.board_model.specs.JournalDeeds.{deeds_of, opened}
use Rattle.board_model.specs.Logs.{log_of}
use Rattle.board_model.proofs.LogDeeds.{Collects, log-collects}
use Rattle.hop_relay.specs.declared.role.Role.{Role}
use Rattle.hop_relay.specs.Roles.{FitsRole}
use Rattle.hop_relay.proofs.RoleLines.{is_in_relay, mark, unless_refusal, strays_by, none_strays, connected_by, Connects, IsRoleOf, connects_next}

-- ---- calls that are not of a relay

abbrev pub is_of_relay : DomainCall → Bool
is_of_relay (create_at port) = true
is_of_relay (lookup_of name) = true
is_of_relay (connect_from port to kind) = true
is_of_relay (open_at port side kind) = true
is_of_relay (packet_from port bytes) = port == 1
is_of_relay (lend_at port) = port == 2
is_of_relay (release_of place) = true
is_of_relay (close_at port side) = true
is_of_relay (wait_for requests says_place) = true
is_of_relay other = false

-- a mark for each that was answered
abbrev pub strays_in : DomainState → Deed → List ℕ
strays_in s (calls node call a) = unless_refusal a (mark (is_of_relay call))
strays_in s other = []

same_relay : (s : DomainState) (labels : Labels) (call : Call) → is_of_relay (call_of labels s call) ≡ is_in_relay call
same_relay s labels (PktSend port bytes) = refl
same_relay s labels (PktRecv port) = refl
same_relay s labels call = refl

strays_collect : Collects strays_in strays_by
strays_collect = record {
  back = λ s p n. refl;
  owed = λ s p f. refl;
  ahead = λ s p n. refl;
  took = λ s p name f w. refl;
  same = λ s t labels node call a. ap (λ b. unless_refusal a (mark b)) (same_relay t labels call);
  refused = λ call w. refl;
}

pub no_deed_strays : (role : Role) (s : Scenario) (j : DomainJournal) → IsDomainRun s j.line j.entries → FitsRole role (log_of s j) → along strays_in (opened s j) (deeds_of s j) ≡ []
no_deed_strays role s j run fits = log-collects strays_in strays_by strays_collect s j run ∙ none_strays role (log_of s j) fits

-- ---- connects

-- the domain that an answered connect names
abbrev pub connects_in : DomainState → Deed → List ℕ
connects_in s (calls node (connect_from port to kind) (connects request channel)) = to.domain ∷ []
connects_in s other = []

same_connects : (s t : DomainState) (labels : Labels) (node : ℕ) (call : Call) (a : PlainAnswer) → connects_in s (calls node (call_of labels t call) a) ≡ connected_by call a
same_connects s t labels node (Connect port to kind) (connects request channel) = refl
same_connects s t labels node (Connect port to kind) a = refl
same_connects s t labels node call a = refl

refused_connects : (call : Call) (w : Refusal) → connected_by call (refuses w) ≡ []
refused_connects (Connect port to kind) w = refl
refused_connects call w = refl

connects_collect : Collects connects_in connected_by
connects_collect = record { back = λ s p n. refl; owed = λ s p f. refl; ahead = λ s p n. refl; took = λ s p name f w. refl; same = same_connects; refused = refused_connects }

pub deed_connects : (d : ℕ) (role : Role) (s : Scenario) (j : DomainJournal) → IsDomainRun s j.line j.entries → IsRoleOf d role → FitsRole role (log_of s j) → Connects (λ q. q ≡ d + 1) 1 (along connects_in (opened s j) (deeds_of s j))
deed_connects d role s j run is fits = subst (Connects (λ q. q ≡ d + 1) 1) (sym (log-collects connects_in connected_by connects_collect s j run)) (connects_next d role (log_of s j) is fits)

-- ---- the answer of a call

-- a call that was not refused has the answer of success
pub data Answered (s : DomainState) (node : ℕ) (call : DomainCall) (a : PlainAnswer) : Type 0 where
  was_refused : (w : Refusal) → refusal s node call ≡ Some w → a ≡ refuses w → Answered s node call a
  was_done : refusal s node call ≡ None → a ≡ success s node call → Answered s node call a

pub answered : (s : DomainState) (node : ℕ) (call : DomainCall) (a : PlainAnswer) → a ≡ answer s node call → Answered s node call a
answered s node call a is = go (refusal s node call) refl
  where
    go : (o : Option Refusal) → refusal s node call ≡ o → Answered s node call a
    go None at = was_done at (is ∙ ap (λ o. answer_by o (success s node call)) at)
    go (Some w) at = was_refused w at (is ∙ ap (λ o. answer_by o (success s node call)) at)
