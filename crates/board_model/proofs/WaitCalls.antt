-- What a call that waits puts and answers.
use Rattle.std.proofs.Common.{◌≡◌, ℕ, Bool, true, false, List, [], ◌∷◌, map, Option, Some, None, refl, ap, ◌∙◌, cond}
use Rattle.mc_base.specs.declared.refusal.Refusal.TheVariants.{RequestInvalid, Timeout}
use Rattle.board_model.specs.declared.scenario.Call.{Call}
use Rattle.board_model.specs.declared.scenario.Call.TheVariants.{Wait, WaitAny}
use Rattle.board_model.specs.declared.scenario.CallLine.{CallLine}
use Rattle.mc_base.specs.declared.refusal.Refusal.{Refusal}
use Rattle.board_model.specs.DomainCall.{DomainCall, wait_for}
use Rattle.board_model.specs.State.{DomainState}
use Rattle.board_model.specs.Labels.{Labels, place_of_label, call_of}
use Rattle.board_model.specs.Answer.{refusal, unless_refused, puts, answer, answer_by, success, lacks_request, lacks_complete}
use Rattle.board_model.specs.Step.{RunState, call_at, limit_of, is_tried}

-- the requests of a call that waits, and whether its answer says a place
pub record Waits (call : DomainCall) : Type 0 where
  pub requests : List (Option ℕ)
  pub says_place : Bool
  pub is : call ≡ wait_for requests says_place

pub call-waits : (labels : Labels) (s : DomainState) (call : Call) (limit : ℕ) → limit_of call ≡ Some limit → Waits (call_of labels s call)
call-waits labels s (Wait label n) limit is = record { requests = place_of_label labels.requests s label.items ∷ []; says_place = false; is = refl }
call-waits labels s (WaitAny names n) limit is = record { requests = map (λ l. place_of_label labels.requests s l.items) names.items; says_place = true; is = refl }
call-waits labels s other limit is = absurd cc

none_put : (s : DomainState) (node : ℕ) (call : DomainCall) → Waits call → puts s node call ≡ []
none_put s node call w = ap (puts s node) w.is ∙ go (refusal s node (wait_for w.requests w.says_place))
  where
    go : (o : Option Refusal) → ◌≡◌ {A = List (ℕ × List ℕ)} (unless_refused o [] []) []
    go None = refl
    go (Some word) = refl

-- a wait puts nothing
pub wait-puts : (r : RunState) (line : CallLine) (limit : ℕ) → limit_of line.call ≡ Some limit → puts r.state line.node (call_at r line) ≡ []
wait-puts r line limit is = none_put r.state line.node (call_at r line) (call-waits r.labels r.state line.call limit is)

untried : (s : DomainState) (node : ℕ) (call : DomainCall) → Waits call → is_tried (answer s node call) ≡ false
untried s node call w = ap (λ c. is_tried (answer s node c)) w.is ∙ go (lacks_request s (wait_for w.requests w.says_place)) (lacks_complete s (wait_for w.requests w.says_place))
  where
    go : (a b : Bool) → is_tried (answer_by (cond a (Some RequestInvalid) (cond b (Some Timeout) None)) (success s node (wait_for w.requests w.says_place))) ≡ false
    go true b = refl
    go false true = refl
    go false false = refl

-- and is not made again
pub wait-untried : (r : RunState) (line : CallLine) (limit : ℕ) → limit_of line.call ≡ Some limit → is_tried (answer r.state line.node (call_at r line)) ≡ false
wait-untried r line limit is = untried r.state line.node (call_at r line) (call-waits r.labels r.state line.call limit is)
