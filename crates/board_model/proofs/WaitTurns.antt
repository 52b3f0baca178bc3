-- What a turn makes of a wait: its requests stay, and it waits on or is done.
use Rattle.std.proofs.Common.{◌≡◌, ℕ, ◌+◌, Bool, true, false, not, cond, List, [], ◌∷◌, map, Option, Some, None, option_map, refl, sym, ap, ap₂, ◌∙◌, inl, inr, eq-eqb}
use Rattle.arrayvec.specs.ArrayVec.{ArrayVec}
use Rattle.mc_base.specs.declared.refusal.Refusal.TheVariants.{RequestInvalid, Timeout}
use Rattle.board_model.specs.declared.scenario.Call.{Call}
use Rattle.board_model.specs.declared.scenario.Call.TheVariants.{Wait, WaitAny}
use Rattle.board_model.specs.declared.scenario.CallLine.{CallLine}
use Rattle.board_model.specs.declared.scenario.Scenario.{Scenario}
use Rattle.board_model.specs.Scenario.{script}
use Rattle.board_model.specs.LinkedBoard.{Differ}
use Rattle.board_model.specs.Journal.{turned, PlainAnswer, PlainResult, refuses, agrees, tells, connects, gives, completes, Visit}
use Rattle.board_model.specs.DomainCall.{DomainCall, wait_for}
use Rattle.board_model.specs.State.{DomainState}
use Rattle.board_model.specs.Labels.{Labels, place_of_label, call_of}
use Rattle.board_model.specs.Turn.{after_turn}
use Rattle.board_model.specs.Answer.{answer, answer_by, lacks_request, lacks_complete}
use Rattle.board_model.specs.Step.{next_line, call_at, limit_of, is_timeout, is_done, is_done_now, one_turn_more}
use Rattle.board_model.specs.Loads.{turn_of, loads_turned}
use Rattle.board_model.specs.SerialRun.{Station, Running, turned_by, turned_once, all_turned}
use Rattle.board_model.proofs.MessageAlls.{all-weaken}
use Rattle.board_model.proofs.WaitCalls.{Waits}
use Rattle.board_model.proofs.WholeHas.{Has, has-gives}
use Rattle.board_model.proofs.WholeStations.{station, station_after, entered_all}
use Rattle.board_model.proofs.WholeWaits.{others_stay, turn_all_stand, turn_place}

-- ---- a round has one turn of each domain

own_turn : (s : Scenario) (r : Running) (d : ℕ) (t : Station) → station r d ≡ Some t → station (turned_once s r d) d ≡ Some (entered_all s (turned (turn_of t.run.state r.loads) ∷ []) t)
own_turn s r d t e =
    ap (λ o. station (turned_by s d o r) d) e
    ∙ station_after s d (turned (turn_of t.run.state r.loads) ∷ []) (record r { loads = loads_turned t.run.state r.loads }) t e d
    ∙ ap (λ b. cond b (Some (entered_all s (turned (turn_of t.run.state r.loads) ∷ []) t)) (station r d)) (eq-eqb d d refl)

pub one_turn : (s : Scenario) (ns : List ℕ) (d : ℕ) (r : Running) (t : Station) → Differ ns → Has (λ n. n ≡ d) ns → station r d ≡ Some t → (vs : List Visit) × (station (all_turned s r ns) d ≡ Some (entered_all s (turned vs ∷ []) t))
one_turn s [] d r t differ has e = absurd has
one_turn s (n ∷ ns) d r t differ (inl same) e =
    let rest = all-weaken (λ m. m ≡ n → ⊥) (λ m. d ≡ m → ⊥) (λ m apart is. apart (sym is ∙ sym same)) ns differ.0 in
    (turn_of t.run.state r.loads, others_stay s (turned_once s r n) ns d rest ∙ ap (λ m. station (turned_once s r m) d) same ∙ own_turn s r d t e)
one_turn s (n ∷ ns) d r t differ (inr later) e =
    let apart : d ≡ n → ⊥ = has-gives (λ m. m ≡ n → ⊥) (λ m. m ≡ d) (d ≡ n → ⊥) (λ m other is same. other (is ∙ same)) ns differ.0 later in
    one_turn s ns d (turned_once s r n) t differ.1 later (others_stay s r (n ∷ []) d (apart, tt) ∙ e)

-- ---- what a wait answers after a turn

same_places : (labels : Labels) (s : DomainState) (vs : List Visit) (names : List (ArrayVec ℕ)) → map (λ l. place_of_label labels.requests (after_turn s vs) l.items) names ≡ map (λ l. place_of_label labels.requests s l.items) names
same_places labels s vs [] = refl
same_places labels s vs (l ∷ ls) = ap₂ (λ (p : Option ℕ) (ps : List (Option ℕ)). p ∷ ps) (turn_place s vs labels.requests l.items) (same_places labels s vs ls)

-- a turn leaves the requests that a wait names
pub same_call : (labels : Labels) (s : DomainState) (vs : List Visit) (call : Call) (limit : ℕ) → limit_of call ≡ Some limit → call_of labels (after_turn s vs) call ≡ call_of labels s call
same_call labels s vs (Wait label n) limit is = ap (λ p. wait_for (p ∷ []) false) (turn_place s vs labels.requests label.items)
same_call labels s vs (WaitAny names n) limit is = ap (λ ps. wait_for ps true) (same_places labels s vs names.items)
same_call labels s vs other limit is = absurd cc

-- the answer of a wait, by what it lacks
abbrev answer_of_wait : Bool → Bool → PlainAnswer → PlainAnswer
answer_of_wait lacks_request lacks_complete done = answer_by (cond lacks_request (Some RequestInvalid) (cond lacks_complete (Some Timeout) None)) done

all_stood : (a b : Bool) (place : Option ℕ) (result : PlainResult) → is_timeout (answer_of_wait a b (completes place result)) ≡ true → a ≡ false
all_stood true b place result e = absurd cc
all_stood false b place result e = refl

one_done : (a b : Bool) (place : Option ℕ) (result : PlainResult) → a ≡ false → is_timeout (answer_of_wait a b (completes place result)) ≡ false → is_done (answer_of_wait a b (completes place result)) ≡ true
one_done true b place result stand e = absurd cc
one_done false true place result stand e = absurd cc
one_done false false place result stand e = refl

pub done_after : (s : DomainState) (vs : List Visit) (node : ℕ) (call : DomainCall) → Waits call → is_timeout (answer s node call) ≡ true → is_timeout (answer (after_turn s vs) node call) ≡ false → is_done (answer (after_turn s vs) node call) ≡ true
done_after s vs node call w waited ends =
    let c = wait_for w.requests w.says_place in
    let stood : lacks_request s c ≡ false = all_stood (lacks_request s c) (lacks_complete s c) _ _ (sym (ap (λ x. is_timeout (answer s node x)) w.is) ∙ waited) in
    let stand : lacks_request (after_turn s vs) c ≡ false = ap not (turn_all_stand s vs w.requests) ∙ stood in
    ap (λ x. is_done (answer (after_turn s vs) node x)) w.is
    ∙ one_done (lacks_request (after_turn s vs) c) (lacks_complete (after_turn s vs) c) _ _ stand (sym (ap (λ x. is_timeout (answer (after_turn s vs) node x)) w.is) ∙ ends)

undone : (a : PlainAnswer) → is_timeout a ≡ true → is_done a ≡ false
undone (refuses word) e = refl
undone agrees e = refl
undone (tells n) e = refl
undone (connects request number) e = refl
undone (gives n bytes) e = refl
undone (completes place result) e = absurd cc

-- ---- rounds

-- a station whose wait has begun, so many turns ago, and none of whose requests is complete
pub record IsWaiting (line : CallLine) (turns : ℕ) (t : Station) : Type 0 where
  pub begun : t.run.waited ≡ Some (record { turns = turns; done_before = false })
  pub pends : is_timeout (answer t.run.state line.node (call_at t.run line)) ≡ true

-- and what its wait is after a turn
pub one_more_turn : (s : Scenario) (line : CallLine) (turns : ℕ) (t : Station) (vs : List Visit) → next_line (script s t.line.domain) t.run ≡ Some line → IsWaiting line turns t → (entered_all s (turned vs ∷ []) t).run.waited ≡ Some (record { turns = turns + 1; done_before = false })
one_more_turn s line turns t vs next w =
    ap₂ (λ o x. option_map (one_turn_more (is_done_now o t.run)) x) next w.begun
    ∙ ap (λ b. Some (record { turns = turns + 1; done_before = b })) (undone (answer t.run.state line.node (call_at t.run line)) w.pends)
