-- What a call answers and leaves, by the first word of refusal that holds.
use Rattle.std.proofs.Common.{◌≡◌, ℕ, ◌+◌, ◌<◌, Bool, false, cond, List, [], length, map, Option, Some, None, refl, sym, ap, ◌∙◌, arith}
use Rattle.std.specs.Prelude.{is_some, not, nat_le}
use Rattle.mc_base.specs.declared.refusal.Refusal.{Refusal}
use Rattle.mc_base.specs.declared.refusal.Refusal.TheVariants.{NodeInvalid, ExistsAlready, EndpLimit, AddressSpent, RequestInvalid, Pending, TooLate}
use Rattle.board_model.specs.DomainCall.{DomainCall, create_at, test_of, cancel_of}
use Rattle.board_model.specs.Journal.{Line, noted_all, refuses}
use Rattle.board_model.specs.Serial.{put_entry}
use Rattle.board_model.specs.State.{DomainState, Request, request_at_place, place_at}
use Rattle.board_model.specs.Answer.{is_complete, answer, answer_by, puts, refusal, success, success_puts, unless_refused, local}

-- a refused call
pub answer-refused : (s : DomainState) (node : ℕ) (call : DomainCall) (word : Refusal) → refusal s node call ≡ Some word → refuses word ≡ answer s node call
answer-refused s node call word e = sym (ap (λ (o : Option Refusal). answer_by o (success s node call)) e)

-- a call that is not refused
pub answer-done : (s : DomainState) (node : ℕ) (call : DomainCall) → refusal s node call ≡ None → answer s node call ≡ success s node call
answer-done s node call e = ap (λ (o : Option Refusal). answer_by o (success s node call)) e

pub puts-done : (s : DomainState) (node : ℕ) (call : DomainCall) → refusal s node call ≡ None → puts s node call ≡ success_puts s node call
puts-done s node call e = ap (λ (o : Option Refusal). unless_refused o [] (success_puts s node call)) e

-- a refused call notes nothing
pub nothing-noted : (s : DomainState) (node : ℕ) (call : DomainCall) (word : Refusal) (lines : List Line) → refusal s node call ≡ Some word → lines ≡ noted_all lines (map put_entry (puts s node call))
nothing-noted s node call word lines e = ap (λ (o : Option Refusal). noted_all lines (map put_entry (unless_refused {A = List (ℕ × List ℕ)} o [] (success_puts s node call)))) (sym e)

either : (o : Option Refusal) → unless_refused {A = List (ℕ × List ℕ)} o [] [] ≡ []
either None = refl
either (Some word) = refl

-- a call whose success puts nothing puts nothing
pub puts-nothing : (s : DomainState) (node : ℕ) (call : DomainCall) → success_puts s node call ≡ [] → puts s node call ≡ []
puts-nothing s node call e = ap (λ (ps : List (ℕ × List ℕ)). unless_refused (refusal s node call) [] ps) e ∙ either (refusal s node call)

-- ---- the words of each call, by their conditions

abbrev create_by : Bool → Bool → Bool → Bool → Option Refusal
create_by b1 b2 b3 b4 = cond b1 (Some NodeInvalid) (cond b2 (Some ExistsAlready) (cond b3 (Some EndpLimit) (cond b4 (Some AddressSpent) None)))

pub create-done : (s : DomainState) (node port : ℕ) → node < s.nodes → is_some (place_at s (local node port)) ≡ false → length s.endpoints + length s.ended < 64 → s.endpoints_given < 60000 → refusal s node (create_at port) ≡ None
create-done s node port lt e2 few given =
    let e1 : nat_le s.nodes node ≡ false = grind arith in
    let e3 : nat_le 64 (length s.endpoints + length s.ended) ≡ false = grind arith in
    let e4 : nat_le 60000 s.endpoints_given ≡ false = grind arith in
    ap (λ (b : Bool). create_by b (is_some (place_at s (local node port))) (nat_le 64 (length s.endpoints + length s.ended)) (nat_le 60000 s.endpoints_given)) e1
    ∙ ap (λ (b : Bool). create_by false b (nat_le 64 (length s.endpoints + length s.ended)) (nat_le 60000 s.endpoints_given)) e2
    ∙ ap (λ (b : Bool). create_by false false b (nat_le 60000 s.endpoints_given)) e3
    ∙ ap (λ (b : Bool). create_by false false false b) e4

-- calls on a request, by whether it stands and is complete
abbrev pub test_by : Option Request → Option Refusal
test_by o = cond (not (is_some o)) (Some RequestInvalid) (cond (not (is_complete o)) (Some Pending) None)

pub test-is : (s : DomainState) (place : Option ℕ) (o : Option Request) → request_at_place s place ≡ o → refusal s 0 (test_of place) ≡ test_by o
test-is s place o e = ap test_by e

abbrev pub cancel_by : Option Request → Option Refusal
cancel_by o = cond (not (is_some o)) (Some RequestInvalid) (cond (is_complete o) (Some TooLate) None)

pub cancel-is : (s : DomainState) (place : Option ℕ) (o : Option Request) → request_at_place s place ≡ o → refusal s 0 (cancel_of place) ≡ cancel_by o
cancel-is s place o e = ap cancel_by e
