-- A wait of a domain alone: its call, the packet that it lends, and its answer.
use Rattle.std.proofs.Common.{◌≡◌, ℕ, ◌+◌, ◌≤◌, Bool, true, false, cond, List, [], ◌∷◌, ◌++◌, length, map, Option, Some, None, option_to_list, refl, sym, ap, ◌∙◌, subst, arith, append-nil}
use Rattle.std.specs.Prelude.{IfOk, IsSome, Result, Ok, Err}
use Rattle.arrayvec.specs.ArrayVec.{ArrayVec}
use Rattle.mc_base.specs.declared.refusal.NoMemory.{NoMemory}
use Rattle.mc_base.specs.declared.refusal.Refusal.{Refusal}
use Rattle.mc_base.specs.declared.refusal.Refusal.TheVariants.{RequestInvalid, Timeout}
use Rattle.mc_base.specs.declared.request.Done.{Done}
use Rattle.mc_base.specs.declared.request.Done.TheVariants as done
use Rattle.mc_base.specs.declared.request.PacketId.{PacketId}
use Rattle.mc_base.specs.declared.request.RequestId.{RequestId}
use Rattle.board_model.specs.declared.scenario.Call.{Call}
use Rattle.board_model.specs.declared.scenario.Call.TheVariants.{Wait, WaitAny}
use Rattle.board_model.specs.declared.scenario.CallLine.{CallLine}
use Rattle.board_model.specs.Answer.{answer, answer_by, lacks_complete, lacks_request, success}
use Rattle.board_model.specs.DomainCall.{wait_for}
use Rattle.board_model.specs.Journal.{Line, PlainAnswer, Visit, completes, refuses}
use Rattle.board_model.specs.State.{DomainState}
use Rattle.board_model.specs.Step.{is_timeout, limit_of}
use Rattle.domain_core.specs.declared.WaitFault.{WaitFault}
use Rattle.domain_core.specs.declared.WaitFault.TheVariants as fault
use Rattle.domain_core.specs.Calls.{Does, GivesTo, Lending, LendsBy, result_of_done}
use Rattle.domain_core.specs.DomainView.{packet_lent_as, place_of_id}
use Rattle.domain_core.specs.Waiting.{Polls, Waits, wait_on, waited, waited_any}
use Rattle.mc_journal.specs.Entry.{plain_answer, bytes_in_answer}
use Rattle.board_runner.specs.declared.station.Station.{Station}
use Rattle.board_runner.specs.declared.line.Made.{Made}
use Rattle.board_runner.specs.Held.{Ids, PacketIds, id_or_none}
use Rattle.board_runner.specs.Lines.{GivesWithin, HasFitNumbers, call_by, dropped_by}
use Rattle.board_runner.specs.Near.{RunDomain}
use Rattle.board_runner.specs.Waits.{EndsWithout, GivesAtMost, WaitsAlone, WaitsDomain, ids_named, packet_in, says_place}
use Rattle.board_runner.proofs.LineLemmas.{lends_added, refused_lends}
use Rattle.board_runner.proofs.TurnEnds.{Moved}

-- ---- the call of a line that waits

named_places : (all : List RequestId) (ids : Ids) (names : List (ArrayVec ℕ)) → map (place_of_id all) (map (λ l. id_or_none ids l.items) names) ≡ map (λ l. place_of_id all (id_or_none ids l.items)) names
named_places all ids [] = refl
named_places all ids (l ∷ ls) = ap (λ (ps : List (Option ℕ)). place_of_id all (id_or_none ids l.items) ∷ ps) (named_places all ids ls)

-- it is the wait for the ids that are held for its labels
pub wait-named : (ids : Ids) (packets : PacketIds) (d : RunDomain) (call : Call) → IsSome (limit_of call) → wait_on (ids_named ids call) (says_place call) d ≡ call_by ids packets d.ids d.packets call
wait-named ids packets d (Wait label limit) waits = refl
wait-named ids packets d (WaitAny names limit) waits = ap (λ (ps : List (Option ℕ)). wait_for ps true) (named_places d.ids ids names.items)
wait-named ids packets d other waits = absurd cc

-- it names one request at least
many-named : (ids : Ids) (names : List (ArrayVec ℕ)) → length (map (λ l. id_or_none ids l.items) names) ≡ length names
many-named ids [] = refl
many-named ids (l ∷ ls) = omega (arith, many-named ids ls)

pub some-named : (n : ℕ) (ids : Ids) (call : Call) → IsSome (limit_of call) → HasFitNumbers n call → 1 ≤ length (ids_named ids call)
some-named n ids (Wait label limit) waits fit = omega arith
some-named n ids (WaitAny names limit) waits fit = omega (arith, fit, many-named ids names.items)
some-named n ids other waits fit = absurd cc

-- it drops no messages
pub wait-drops : (call : Call) (a : PlainAnswer) → IsSome (limit_of call) → dropped_by call a ≡ 0
wait-drops (Wait label limit) a waits = refl
wait-drops (WaitAny names limit) a waits = refl
wait-drops other a waits = absurd cc

-- ---- its answer

-- a wait is answered with a timeout wherever it is made, and whatever it says
pub timeout-anywhere : (s : DomainState) (node other : ℕ) (places : List (Option ℕ)) (says more : Bool) → is_timeout (answer s node (wait_for places says)) ≡ is_timeout (answer s other (wait_for places more))
timeout-anywhere s node other places says more = go (lacks_request s (wait_for places says)) (lacks_complete s (wait_for places says))
  where
    go : (a b : Bool) → is_timeout (answer_by (cond a (Some RequestInvalid) (cond b (Some Timeout) None)) (success s node (wait_for places says))) ≡ is_timeout (answer_by (cond a (Some RequestInvalid) (cond b (Some Timeout) None)) (success s other (wait_for places more)))
    go true b = refl
    go false true = refl
    go false false = refl

pub timeout-word : (a : PlainAnswer) → is_timeout a ≡ true → refuses Timeout ≡ a
timeout-word (refuses Timeout) e = refl
timeout-word other e = absurd cc

-- it hangs on no node
pub does-anywhere : (node : ℕ) (places : List (Option ℕ)) (says : Bool) (old new : RunDomain) (a : PlainAnswer) → Does Moved 0 (wait_for places says) old new a None → Does Moved node (wait_for places says) old new a None
does-anywhere node places says old new a d = record {
  answer = d.answer;
  state = d.state;
  numbered = d.numbered;
  moved = d.moved;
  ids = d.ids;
  fresh = d.fresh;
  lent = d.lent;
  packets = d.packets;
  lends = d.lends;
}

-- ---- what it lends

pub polls-packets : (ids : List RequestId) (turns : List (List Visit)) (old new : RunDomain) → Polls Moved ids turns old new → new.packets ≡ old.packets
polls-packets ids [] old new polls = ap (λ (d : RunDomain). d.packets) polls
polls-packets ids (visits ∷ turns) old new polls = polls-packets ids turns polls.2 new polls.4 ∙ polls.3.packets

pub polls-ids : (ids : List RequestId) (turns : List (List Visit)) (old new : RunDomain) → Polls Moved ids turns old new → new.ids ≡ old.ids
polls-ids ids [] old new polls = ap (λ (d : RunDomain). d.ids) polls
polls-ids ids (visits ∷ turns) old new polls = polls-ids ids turns polls.2 new polls.4 ∙ polls.3.ids

lends-told : (old new : RunDomain) (how : Done) → LendsBy old new how → new.packets ≡ old.packets ++ option_to_list (packet_in how)
lends-told old new (done.Packet id) told = told
lends-told old new (done.Address a) told = told ∙ sym (append-nil old.packets)
lends-told old new done.Accepted told = told ∙ sym (append-nil old.packets)
lends-told old new (done.Rejected r) told = told ∙ sym (append-nil old.packets)
lends-told old new (done.Message got) told = told ∙ sym (append-nil old.packets)
lends-told old new (done.Ended w) told = told ∙ sym (append-nil old.packets)

module _ (number limit : ℕ) (ids : List RequestId) (says : Bool) (old new : RunDomain) (lines lines' : List Line) where
  abbrev WaitsBy : Option PlainAnswer → Type 0
  WaitsBy answered = Waits Moved number limit ids says old new lines lines' answered

  wait-lends : (a : PlainAnswer) (w : WaitsBy (Some a)) (shown : Option PacketId) → new.packets ≡ old.packets ++ option_to_list shown → shown ≡ w.ends.0.lent
  wait-lends a w shown told =
      let d = w.polled_to in
      let does = w.ends.0 in
      lends_added d.state 0 (wait_on ids says d) old.packets d.packets new.packets does.lent shown refl (polls-packets ids w.turns old d w.polls) does.packets told

  refused-wait-lends : (a : PlainAnswer) (word : Refusal) → a ≡ refuses word → (w : WaitsBy (Some a)) → None ≡ w.ends.0.lent
  refused-wait-lends a word is w =
      let d = w.polled_to in
      let does = w.ends.0 in
      refused_lends d.state 0 (wait_on ids says d) word does.lent does.lends (sym is ∙ does.answer)

  -- it ended with a request
  pub ends-with : (place : Option ℕ) (how : Done) (out : List ℕ) (m : Made) → WaitsBy (Some (completes place (result_of_done how out (packet_lent_as new)))) → LendsBy old new how →
      plain_answer m.answer ≡ completes place (result_of_done how out (packet_lent_as new)) → m.given ≡ None → m.lent ≡ packet_in how → bytes_in_answer m.answer ≤ 9000 → WaitsDomain number limit ids says old new lines lines' m
  ends-with place how out m w lends answered given lent fits =
      let w' = subst (λ (a : PlainAnswer). WaitsBy (Some a)) (sym answered) w in
      record { waits = w'; given = given; lends = lent ∙ wait-lends (plain_answer m.answer) w' (packet_in how) (lends-told old new how lends); bytes_fit = fits }

  -- it ended with none
  abbrev pub fault_told : WaitFault → Option PlainAnswer
  fault_told (fault.Refused word) = Some (refuses word)
  fault_told fault.NoMemory = None

  ends-without : (f : WaitFault) (answered : Option PlainAnswer) (m : Made) → answered ≡ fault_told f → WaitsBy answered → EndsWithout f m → WaitsDomain number limit ids says old new lines lines' m
  ends-without (fault.Refused word) answered m is w h =
      let w' = subst WaitsBy (is ∙ ap (λ (a : PlainAnswer). Some a) (sym h.answer)) w in
      let none = h.no_bytes in
      record { waits = w'; given = h.given; lends = h.lent ∙ refused-wait-lends (plain_answer m.answer) word h.answer w'; bytes_fit = omega (arith, none) }
  ends-without fault.NoMemory answered m is w h = absurd h

  pub one-without : (f : WaitFault) (out : List ℕ) (lends : Lending) (r : Result Made NoMemory) → WaitsBy (waited (Err f) out lends) → IfOk r (EndsWithout f) → IfOk r (λ m. WaitsDomain number limit ids says old new lines lines' m)
  one-without f out lends (Ok m) w h = ends-without f (waited (Err f) out lends) m (told f) w h
    where
      told : (f : WaitFault) → waited (Err f) out lends ≡ fault_told f
      told (fault.Refused word) = refl
      told fault.NoMemory = refl
  one-without f out lends (Err e) w h = tt

  pub any-without : (f : WaitFault) (out : List ℕ) (lends : Lending) (r : Result Made NoMemory) → WaitsBy (waited_any (Err f) out lends) → IfOk r (EndsWithout f) → IfOk r (λ m. WaitsDomain number limit ids says old new lines lines' m)
  any-without f out lends (Ok m) w h = ends-without f (waited_any (Err f) out lends) m (told f) w h
    where
      told : (f : WaitFault) → waited_any (Err f) out lends ≡ fault_told f
      told (fault.Refused word) = refl
      told fault.NoMemory = refl
  any-without f out lends (Err e) w h = tt

-- ---- at a station

-- all of a station but its domain and its journal stays, and room was made first
pub waits-alone : (line : CallLine) (limit : ℕ) (ids : List RequestId) (says : Bool) (start : List Line) (old new : Station) (r : Result Made NoMemory) → start ≡ old.journal.lines → ids ≡ ids_named old.ids line.call → says ≡ says_place line.call →
    new.ids ≡ old.ids → new.packets ≡ old.packets → new.number ≡ old.number → new.dropped ≡ old.dropped → new.domain_number ≡ old.domain_number →
    IfOk r (λ m. WaitsDomain (old.number + 1) limit ids says old.domain new.domain start new.journal.lines m) → IfOk r (λ m. WaitsAlone line limit old new m)
waits-alone line limit ids says start old new (Ok m) lines named said held packets number dropped domain_number made = record {
  made =
      subst (λ (ls : List Line). WaitsDomain (old.number + 1) limit (ids_named old.ids line.call) (says_place line.call) old.domain new.domain ls new.journal.lines m) lines
      (subst (λ (b : Bool). WaitsDomain (old.number + 1) limit (ids_named old.ids line.call) b old.domain new.domain start new.journal.lines m) said
      (subst (λ (is : List RequestId). WaitsDomain (old.number + 1) limit is says old.domain new.domain start new.journal.lines m) named made));
  ids = held;
  packets = packets;
  number = number;
  dropped = dropped;
  domain_number = domain_number;
}
waits-alone line limit ids says start old new (Err e) lines named said held packets number dropped domain_number made = tt

-- ---- what a request brought

-- a message was given within the bytes that there are
pub gives-at-most : (n : ℕ) (how : Done) (old new : List ℕ) → length old ≡ n → GivesTo how old new → GivesAtMost n how
gives-at-most n (done.Message got) old new same gives = omega (arith, gives.0, same)
gives-at-most n other old new same gives = tt

-- and so it is of what is no packet
pub gives-within : (n : ℕ) (how : Done) → ((id : PacketId) → how ≡ done.Packet id → ⊥) → GivesAtMost n how → GivesWithin n how
gives-within n (done.Packet id) other gives = absurd (other id refl)
gives-within n (done.Message got) other gives = gives
gives-within n (done.Address a) other gives = tt
gives-within n done.Accepted other gives = tt
gives-within n (done.Rejected r) other gives = tt
gives-within n (done.Ended w) other gives = tt

-- what is no packet lends none
pub none-in : (how : Done) → ((id : PacketId) → how ≡ done.Packet id → ⊥) → None ≡ packet_in how
none-in (done.Packet id) other = absurd (other id refl)
none-in other_how other = refl

-- one of a wait for several is a wait for several
pub says-place : (call : Call) → IsSome (limit_of call) → ((label : ArrayVec ℕ) (n : ℕ) → call ≡ Wait label n → ⊥) → true ≡ says_place call
says-place (Wait label n) waits other = absurd (other label n refl)
says-place (WaitAny names n) waits other = refl
says-place call waits other = absurd cc
