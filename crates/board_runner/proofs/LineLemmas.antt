-- A call at a domain alone is the call of a line at the line's station.
use Rattle.std.proofs.Common.{◌≡◌, ℕ, ◌<◌, ◌≤◌, ◌^◌, List, [], ◌∷◌, ◌++◌, map, Option, Some, None, option_map, option_to_list, refl, sym, ap, ap₂, ◌∙◌, subst, append-nil, take}
use Rattle.std.specs.Prelude.{IfSome, IfOk, IfErr, IsErr, IsNone, length, Result, Ok, Err}
use Rattle.std.proofs.lemmas.List.{length-take-le}
use Rattle.std.specs.Result.{result_ok}
use Rattle.mc_base.specs.declared.name.EndName.{EndName}
use Rattle.mc_base.specs.declared.refusal.NoMemory.{NoMemory}
use Rattle.mc_base.specs.declared.refusal.Refusal.{Refusal}
use Rattle.mc_base.specs.declared.refusal.Refusal.TheVariants.{BufInvalid}
use Rattle.mc_base.specs.declared.request.Done.{Done}
use Rattle.mc_base.specs.declared.request.Done.TheVariants as done
use Rattle.mc_base.specs.declared.request.PacketId.{PacketId}
use Rattle.mc_base.specs.declared.request.RequestId.{RequestId}
use Rattle.lane_end.specs.AnySender.{AnySends}
use Rattle.lane_end.specs.AnyReceiver.{AnyReceives}
use Rattle.board_model.specs.declared.scenario.CallLine.{CallLine}
use Rattle.board_model.specs.DomainCall.{DomainCall, lookup_of, release_of, test_of, cancel_of, raw_to, turn_alone}
use Rattle.board_model.specs.Lists.{without}
use Rattle.board_model.specs.Journal.{Line, PlainAnswer, refuses, tells, gives as gives_bytes, completes, brought, ended_by, connects, turned, noted_all}
use Rattle.board_model.specs.State.{DomainState, LentPacket}
use Rattle.board_model.specs.Answer.{refusal, unless_refused, success, answer, answer_by, puts}
use Rattle.board_model.specs.Labels.{success_request, request_given, success_packet, packet_given}
use Rattle.board_model.specs.Serial.{put_entry}
use Rattle.domain_core.specs.Calls.{Calls, place_ended, place_released, success_releases, LendsBy, tested, gives_whole, brings_whole, IsFresh, requested, given, connected, given_by}
use Rattle.domain_core.specs.DomainView.{DomainView, packet_lent_as}
use Rattle.domain_core.specs.Ends.{EndsMoved}
use Rattle.mc_journal.specs.Entry.{plain_answer, bytes_in_answer}
use Rattle.board_runner.specs.declared.station.Station.{Station}
use Rattle.board_runner.specs.declared.line.Made.{Made}
use Rattle.board_runner.specs.Lines.{CallsDomain, GivesWithin, MakesCall, call_at_station, dropped_by}
use Rattle.board_runner.specs.Near.{RunDomain}
use Rattle.board_model.proofs.RefusedCalls.{refused-is}

-- ---- requests that calls give

-- no request is given by a call that gives none
pub gives_none : (s : DomainState) (node : ℕ) (call : DomainCall) → success_request s call ≡ None → None ≡ request_given s node call
gives_none s node call e = go (refusal s node call)
  where
    go : (o : Option Refusal) → None ≡ unless_refused o None (success_request s call)
    go (Some w) = refl
    go None = sym e

-- a request is given where it is not refused
pub gives_requested : (s : DomainState) (node : ℕ) (call : DomainCall) (made : Result RequestId Refusal) → success s node call ≡ tells s.requests_given → success_request s call ≡ Some s.requests_given → requested made ≡ answer s node call → option_map (λ i. i.serial) (given made) ≡ request_given s node call
gives_requested s node call made told gives e = go (refusal s node call) made (e ∙ ap (answer_by (refusal s node call)) told) ∙ ap (unless_refused (refusal s node call) None) (sym gives)
  where
    go : (o : Option Refusal) (made : Result RequestId Refusal) → requested made ≡ answer_by o (tells s.requests_given) → option_map (λ i. i.serial) (given made) ≡ unless_refused o None (Some s.requests_given)
    go None (Ok id) e = cc
    go None (Err w) e = absurd cc
    go (Some v) (Ok id) e = absurd cc
    go (Some v) (Err w) e = refl

-- and so it is by a connect
pub gives_connected : (s : DomainState) (node : ℕ) (call : DomainCall) (made : Result (RequestId × ℕ) Refusal) (number : ℕ) → success s node call ≡ connects s.requests_given number → success_request s call ≡ Some s.requests_given → connected made ≡ answer s node call → option_map (λ i. i.serial) (given_by made) ≡ request_given s node call
gives_connected s node call made number told gives e = go (refusal s node call) made (e ∙ ap (answer_by (refusal s node call)) told) ∙ ap (unless_refused (refusal s node call) None) (sym gives)
  where
    go : (o : Option Refusal) (made : Result (RequestId × ℕ) Refusal) → connected made ≡ answer_by o (connects s.requests_given number) → option_map (λ i. i.serial) (given_by made) ≡ unless_refused o None (Some s.requests_given)
    go None (Ok (id, channel)) e = cc
    go None (Err w) e = absurd cc
    go (Some v) (Ok (id, channel)) e = absurd cc
    go (Some v) (Err w) e = refl

pub ok_given : (made : Result RequestId Refusal) → result_ok made ≡ given made
ok_given (Ok id) = refl
ok_given (Err w) = refl

-- ---- packets that calls lend

-- none is lent by a call that lends none
pub lends_none : (s : DomainState) (node : ℕ) (call : DomainCall) (lent : Option PacketId) → option_map (λ i. i.serial) lent ≡ packet_given s node call → success_packet s call ≡ None → None ≡ lent
lends_none s node call lent told none = go lent (refusal s node call) (told ∙ ap (unless_refused (refusal s node call) None) none)
  where
    go : (x : Option PacketId) (o : Option Refusal) → option_map (λ i. i.serial) x ≡ unless_refused o None None → None ≡ x
    go None o e = refl
    go (Some i) None e = absurd cc
    go (Some i) (Some w) e = absurd cc

-- none is lent by a call that is refused
pub refused_lends : (s : DomainState) (node : ℕ) (call : DomainCall) (word : Refusal) (lent : Option PacketId) → option_map (λ i. i.serial) lent ≡ packet_given s node call → refuses word ≡ answer s node call → None ≡ lent
refused_lends s node call word lent told is = go lent (told ∙ ap (λ (o : Option Refusal). unless_refused o None (success_packet s call)) (refused-is s node word call is))
  where
    go : (x : Option PacketId) → option_map (λ i. i.serial) x ≡ None → None ≡ x
    go None e = refl
    go (Some i) e = absurd cc

-- what is lent is what was added to the packets
front_off : (xs ys zs : List PacketId) → xs ++ ys ≡ xs ++ zs → ys ≡ zs
front_off [] ys zs e = e
front_off (x ∷ xs) ys zs e = front_off xs ys zs cc

lent_of : (a b : Option PacketId) → option_to_list a ≡ option_to_list b → a ≡ b
lent_of None None e = refl
lent_of None (Some i) e = absurd cc
lent_of (Some i) None e = absurd cc
lent_of (Some i) (Some j) e = cc

none_released : (o : Option Refusal) → unless_refused {A = Option ℕ} o None None ≡ None
none_released None = refl
none_released (Some w) = refl

pub lends_added : (s : DomainState) (node : ℕ) (call : DomainCall) (before packets after : List PacketId) (lent shown : Option PacketId) → success_releases call ≡ None → packets ≡ before → after ≡ without (place_released s node call) packets ++ option_to_list lent → after ≡ before ++ option_to_list shown → shown ≡ lent
lends_added s node call before packets after lent shown none same does told =
    lent_of shown lent (front_off before (option_to_list shown) (option_to_list lent) (sym told ∙ does ∙ ap (λ (o : Option ℕ). without o packets ++ option_to_list lent) (ap (unless_refused (refusal s node call) None) none ∙ none_released (refusal s node call)) ∙ ap (λ (ps : List PacketId). ps ++ option_to_list lent) same))

-- a test that brings no packet lends none
pub test_lends : {L : Type 0} (s : DomainState) (place : Option ℕ) (old new : DomainView L) (packets : List PacketId) (lent : Option PacketId) (made : Result Done Refusal) (out : List ℕ) (n : ℕ) → IfOk made (GivesWithin n) → packets ≡ old.packets → new.packets ≡ without (place_released s 0 (test_of place)) packets ++ option_to_list lent → option_map (λ i. i.serial) lent ≡ packet_given s 0 (test_of place) → tested made out (packet_lent_as new) ≡ answer s 0 (test_of place) → IfOk made (LendsBy old new) → None ≡ lent
test_lends s place old new packets lent (Err w) out n within same does told is last = refused_lends s 0 (test_of place) w lent told is
test_lends s place old new packets lent (Ok (done.Packet id)) out n within same does told is last = absurd within
test_lends s place old new packets lent (Ok (done.Address a)) out n within same does told is last = lends_added s 0 (test_of place) old.packets packets new.packets lent None refl same does (last ∙ sym (append-nil old.packets))
test_lends s place old new packets lent (Ok done.Accepted) out n within same does told is last = lends_added s 0 (test_of place) old.packets packets new.packets lent None refl same does (last ∙ sym (append-nil old.packets))
test_lends s place old new packets lent (Ok (done.Rejected r)) out n within same does told is last = lends_added s 0 (test_of place) old.packets packets new.packets lent None refl same does (last ∙ sym (append-nil old.packets))
test_lends s place old new packets lent (Ok (done.Message got)) out n within same does told is last = lends_added s 0 (test_of place) old.packets packets new.packets lent None refl same does (last ∙ sym (append-nil old.packets))
test_lends s place old new packets lent (Ok (done.Ended w)) out n within same does told is last = lends_added s 0 (test_of place) old.packets packets new.packets lent None refl same does (last ∙ sym (append-nil old.packets))

-- ---- packets by their bytes

-- the answer by the bytes of the packet that is lent, which are the first of a room, or by the word where there is none
pub whole_told : (p : Option LentPacket) (r : Result ℕ Refusal) (room : List ℕ) (a : PlainAnswer) → IfOk r (λ n. Some (take n room) ≡ option_map (λ p. p.item.content) p) → IfOk r (λ n. n ≤ length room) → (IsErr r → IsNone p) → (IsNone p → IsErr r) → IfErr r (λ w. w ≡ BufInvalid) → IfOk r (λ n. a ≡ gives_bytes n (take n room)) → IfErr r (λ w. a ≡ refuses w) → a ≡ gives_whole p
whole_told None (Ok n) room a bytes fits one two word given refused = absurd cc
whole_told (Some p) (Ok n) room a bytes fits one two word given refused =
    let same : take n room ≡ p.item.content = cc in
    given ∙ ap₂ gives_bytes (sym (length-take-le n room fits) ∙ ap length same) same
whole_told None (Err w) room a bytes fits one two word given refused = refused ∙ ap refuses word
whole_told (Some p) (Err w) room a bytes fits one two word given refused = let none = one refl in absurd cc

pub whole_brought : (place : Option ℕ) (p : Option LentPacket) (r : Result ℕ Refusal) (room : List ℕ) (a : PlainAnswer) → IfOk r (λ n. Some (take n room) ≡ option_map (λ p. p.item.content) p) → IfOk r (λ n. n ≤ length room) → (IsErr r → IsNone p) → (IsNone p → IsErr r) → IfErr r (λ w. w ≡ BufInvalid) → IfOk r (λ n. a ≡ completes place (brought n (take n room))) → IfErr r (λ w. a ≡ completes place (ended_by w)) → a ≡ completes place (brings_whole p)
whole_brought place None (Ok n) room a bytes fits one two word given refused = absurd cc
whole_brought place (Some p) (Ok n) room a bytes fits one two word given refused =
    let same : take n room ≡ p.item.content = cc in
    given ∙ ap₂ (λ (k : ℕ) (bs : List ℕ). completes place (brought k bs)) (sym (length-take-le n room fits) ∙ ap length same) same
whole_brought place None (Err w) room a bytes fits one two word given refused = refused ∙ ap (λ (v : Refusal). completes place (ended_by v)) word
whole_brought place (Some p) (Err w) room a bytes fits one two word given refused = let none = one refl in absurd cc

-- ---- a call

-- what the domain did, where room was made first, and the answer is written as a journal notes it
pub calls_domain : (node : ℕ) (call : DomainCall) (old new : RunDomain) (lines start lines' : List Line) (answered : PlainAnswer) (id : Option RequestId) (m : Made) → start ≡ lines → (c : Calls (EndsMoved AnySends AnyReceives) node call old new start lines' answered id) →
    plain_answer m.answer ≡ answered → m.given ≡ id → option_map (λ i. i.serial) id ≡ request_given c.turned_to.state node call → m.lent ≡ c.does.lent → bytes_in_answer m.answer ≤ 9000 → CallsDomain node call old new lines lines' m
calls_domain node call old new lines start lines' answered id m same c noted is gives lends fit = record {
  calls = record {
    visits = c.visits;
    numbers = c.numbers;
    turned_to = c.turned_to;
    turns = c.turns;
    does = record {
      answer = noted ∙ c.does.answer;
      state = c.does.state;
      numbered = c.does.numbered;
      moved = c.does.moved;
      ids = c.does.ids ∙ ap (λ (o : Option RequestId). without (place_ended c.turned_to.state node call) c.turned_to.ids ++ option_to_list o) (sym is);
      fresh = subst (λ (o : Option RequestId). IfSome o (IsFresh c.turned_to.ids c.turned_to.state)) (sym is) c.does.fresh;
      lent = c.does.lent;
      packets = c.does.packets;
      lends = c.does.lends;
    };
    told = c.told ∙ ap (λ (ls : List Line). noted_all ls (turned c.visits ∷ map put_entry (puts c.turned_to.state node call))) same;
  };
  gives = ap (option_map (λ (i : RequestId). i.serial)) is ∙ gives;
  lends = lends;
  bytes_fit = fit;
}

-- a call on requests, packets or names, and a turn, hang on no node
pub lookup_anywhere : (node : ℕ) (name : EndName) (old new : RunDomain) (lines lines' : List Line) (m : Made) → CallsDomain 0 (lookup_of name) old new lines lines' m → CallsDomain node (lookup_of name) old new lines lines' m
lookup_anywhere node name old new lines lines' m made =
    let c = made.calls in
    let d = c.does in
    record {
      calls = record {
        visits = c.visits;
        numbers = c.numbers;
        turned_to = c.turned_to;
        turns = c.turns;
        does = record { answer = d.answer; state = d.state; numbered = d.numbered; moved = d.moved; ids = d.ids; fresh = d.fresh; lent = d.lent; packets = d.packets; lends = d.lends };
        told = c.told;
      };
      gives = made.gives;
      lends = made.lends;
      bytes_fit = made.bytes_fit;
    }

pub release_anywhere : (node : ℕ) (place : Option ℕ) (old new : RunDomain) (lines lines' : List Line) (m : Made) → CallsDomain 0 (release_of place) old new lines lines' m → CallsDomain node (release_of place) old new lines lines' m
release_anywhere node place old new lines lines' m made =
    let c = made.calls in
    let d = c.does in
    record {
      calls = record {
        visits = c.visits;
        numbers = c.numbers;
        turned_to = c.turned_to;
        turns = c.turns;
        does = record { answer = d.answer; state = d.state; numbered = d.numbered; moved = d.moved; ids = d.ids; fresh = d.fresh; lent = d.lent; packets = d.packets; lends = d.lends };
        told = c.told;
      };
      gives = made.gives;
      lends = made.lends;
      bytes_fit = made.bytes_fit;
    }

pub test_anywhere : (node : ℕ) (place : Option ℕ) (old new : RunDomain) (lines lines' : List Line) (m : Made) → CallsDomain 0 (test_of place) old new lines lines' m → CallsDomain node (test_of place) old new lines lines' m
test_anywhere node place old new lines lines' m made =
    let c = made.calls in
    let d = c.does in
    record {
      calls = record {
        visits = c.visits;
        numbers = c.numbers;
        turned_to = c.turned_to;
        turns = c.turns;
        does = record { answer = d.answer; state = d.state; numbered = d.numbered; moved = d.moved; ids = d.ids; fresh = d.fresh; lent = d.lent; packets = d.packets; lends = d.lends };
        told = c.told;
      };
      gives = made.gives;
      lends = made.lends;
      bytes_fit = made.bytes_fit;
    }

pub cancel_anywhere : (node : ℕ) (place : Option ℕ) (old new : RunDomain) (lines lines' : List Line) (m : Made) → CallsDomain 0 (cancel_of place) old new lines lines' m → CallsDomain node (cancel_of place) old new lines lines' m
cancel_anywhere node place old new lines lines' m made =
    let c = made.calls in
    let d = c.does in
    record {
      calls = record {
        visits = c.visits;
        numbers = c.numbers;
        turned_to = c.turned_to;
        turns = c.turns;
        does = record { answer = d.answer; state = d.state; numbered = d.numbered; moved = d.moved; ids = d.ids; fresh = d.fresh; lent = d.lent; packets = d.packets; lends = d.lends };
        told = c.told;
      };
      gives = made.gives;
      lends = made.lends;
      bytes_fit = made.bytes_fit;
    }

pub raw_anywhere : (node to : ℕ) (bytes : List ℕ) (old new : RunDomain) (lines lines' : List Line) (m : Made) → CallsDomain 0 (raw_to to bytes) old new lines lines' m → CallsDomain node (raw_to to bytes) old new lines lines' m
raw_anywhere node to bytes old new lines lines' m made =
    let c = made.calls in
    let d = c.does in
    record {
      calls = record {
        visits = c.visits;
        numbers = c.numbers;
        turned_to = c.turned_to;
        turns = c.turns;
        does = record { answer = d.answer; state = d.state; numbered = d.numbered; moved = d.moved; ids = d.ids; fresh = d.fresh; lent = d.lent; packets = d.packets; lends = d.lends };
        told = c.told;
      };
      gives = made.gives;
      lends = made.lends;
      bytes_fit = made.bytes_fit;
    }

pub turn_anywhere : (node : ℕ) (old new : RunDomain) (lines lines' : List Line) (m : Made) → CallsDomain 0 turn_alone old new lines lines' m → CallsDomain node turn_alone old new lines lines' m
turn_anywhere node old new lines lines' m made =
    let c = made.calls in
    let d = c.does in
    record {
      calls = record {
        visits = c.visits;
        numbers = c.numbers;
        turned_to = c.turned_to;
        turns = c.turns;
        does = record { answer = d.answer; state = d.state; numbered = d.numbered; moved = d.moved; ids = d.ids; fresh = d.fresh; lent = d.lent; packets = d.packets; lends = d.lends };
        told = c.told;
      };
      gives = made.gives;
      lends = made.lends;
      bytes_fit = made.bytes_fit;
    }

-- ---- the call of a line

then_both : {A : Type 0} {P Q R : A → Type 0} (r : Result A NoMemory) → IfOk r P → IfOk r Q → ((x : A) → P x → Q x → R x) → IfOk r R
then_both (Ok x) p q f = f x p q
then_both (Err e) p q f = tt

-- all of a station but its domain and its journal stays
pub makes_call : (line : CallLine) (old new : Station) (r : Result Made NoMemory) → new.ids ≡ old.ids → new.packets ≡ old.packets → new.number ≡ old.number → new.dropped ≡ old.dropped → new.domain_number ≡ old.domain_number →
    IfOk r (λ m. CallsDomain line.node (call_at_station line old) old.domain new.domain old.journal.lines new.journal.lines m) → IfOk r (λ m. dropped_by line.call (plain_answer m.answer) < 2 ^ 32) → IfOk r (λ m. MakesCall line old new m)
makes_call line old new r ids packets number dropped domain_number made drops = then_both r made drops (λ m h fit. record { calls = h.calls; gives = h.gives; lends = h.lends; ids = ids; packets = packets; number = number; dropped = dropped; domain_number = domain_number; bytes_fit = h.bytes_fit; drops_fit = fit })
