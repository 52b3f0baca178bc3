-- No more messages are accepted than there are lines of calls.
use Rattle.std.proofs.Common.{◌≡◌, ℕ, ◌+◌, ◌≤◌, Bool, true, false, cond, List, [], ◌∷◌, length, map, filter, Option, Some, None, refl, sym, ap, ◌∙◌, arith}
use Rattle.std.specs.Prelude.{◌==◌}
use Rattle.std.specs.List.{AllByRecursion}
use Rattle.std.proofs.lemmas.List.{length-append}
use Rattle.std.proofs.lemmas.Simd.{map-map}
use Rattle.mc_base.specs.declared.name.EndName.{EndName}
use Rattle.board_model.specs.declared.scenario.CallLine.{CallLine}
use Rattle.board_model.specs.declared.scenario.DomainLine.{DomainLine}
use Rattle.board_model.specs.declared.scenario.Scenario.{Scenario}
use Rattle.board_model.specs.Scenario.{script, rising}
use Rattle.board_model.specs.LinkedBoard.{Differ, IsLinkedBoard}
use Rattle.board_model.specs.DomainCall.{create_at, delete_at, lookup_of, send_from, receive_at, request_at, available_at, connect_from, open_at, packet_from, lend_at, packet_request_at, release_of, scalar_from, scalar_at, close_at, test_of, wait_for, cancel_of, raw_to, turn_alone}
use Rattle.board_model.specs.Journal.{PlainAnswer, refuses, agrees, tells, connects, gives, completes}
use Rattle.board_model.specs.State.{Endpoint, DomainState, live_at}
use Rattle.board_model.specs.Answer.{local}
use Rattle.board_model.specs.CallChanges.{at_live}
use Rattle.board_model.specs.Run.{start, left_by, IsDomainRun}
use Rattle.board_model.specs.Board.{DomainJournal, IsBoardRun}
use Rattle.board_model.specs.Deeds.{Deed, looks_back, puts_owed, looks_ahead, takes, calls, after_deed, along}
use Rattle.board_model.specs.JournalDeeds.{deeds_of, opened}
use Rattle.board_model.specs.Messages.{Message, accepted_by, accepted_in, accepted}
use Rattle.board_model.proofs.MessageAlls.{all-weaken}
use Rattle.board_model.proofs.MessageOnce.{total, total-map, total-zero, times, differ-few, length-joined}
use Rattle.board_model.proofs.PlaceBoards.{rising_differ}
use Rattle.board_model.proofs.RunDeeds.{allowed-all}
use Rattle.board_model.proofs.OrderRuns.{few_left}
use Rattle.board_model.proofs.OrderSerials.{succeeds, all_succeed}

-- ---- one script: each message was accepted by a call that is not refused

one_message : (x : Option Endpoint) (f : Endpoint → Message) → length (at_live x (λ e. f e ∷ [])) ≤ 1
one_message None f = omega arith
one_message (Some e) f = omega arith

send_few : (d : ℕ) (s : DomainState) (node port : ℕ) (to : EndName) (priority : ℕ) (bytes : List ℕ) (a : PlainAnswer) → length (accepted_by d s (calls node (send_from port to priority bytes) a)) ≤ succeeds (calls node (send_from port to priority bytes) a)
send_few d s node port to priority bytes agrees = one_message (live_at s (local node port)) _
send_few d s node port to priority bytes (refuses w) = omega arith
send_few d s node port to priority bytes (tells n) = omega arith
send_few d s node port to priority bytes (connects n channel) = omega arith
send_few d s node port to priority bytes (gives size got) = omega arith
send_few d s node port to priority bytes (completes place x) = omega arith

deed_few : (d : ℕ) (s : DomainState) (e : Deed) → length (accepted_by d s e) ≤ succeeds e
deed_few d s (calls node (send_from port to priority bytes) a) = send_few d s node port to priority bytes a
deed_few d s (calls node (create_at port) a) = omega arith
deed_few d s (calls node (delete_at port) a) = omega arith
deed_few d s (calls node (lookup_of name) a) = omega arith
deed_few d s (calls node (receive_at port max) a) = omega arith
deed_few d s (calls node (request_at port max) a) = omega arith
deed_few d s (calls node (available_at port) a) = omega arith
deed_few d s (calls node (connect_from port to kind) a) = omega arith
deed_few d s (calls node (open_at port side kind) a) = omega arith
deed_few d s (calls node (packet_from port bytes) a) = omega arith
deed_few d s (calls node (lend_at port) a) = omega arith
deed_few d s (calls node (packet_request_at port) a) = omega arith
deed_few d s (calls node (release_of place) a) = omega arith
deed_few d s (calls node (scalar_from port bits value) a) = omega arith
deed_few d s (calls node (scalar_at port bits) a) = omega arith
deed_few d s (calls node (close_at port side) a) = omega arith
deed_few d s (calls node (test_of request) a) = omega arith
deed_few d s (calls node (wait_for requests says_place) a) = omega arith
deed_few d s (calls node (cancel_of request) a) = omega arith
deed_few d s (calls node (raw_to to bytes) a) = omega arith
deed_few d s (calls node turn_alone a) = omega arith
deed_few d s (looks_back q n) = omega arith
deed_few d s (puts_owed q f) = omega arith
deed_few d s (looks_ahead q n) = omega arith
deed_few d s (takes q name f w) = omega arith

deeds_few : (d : ℕ) (s : DomainState) (ds : List Deed) → length (along (accepted_by d) s ds) ≤ all_succeed ds
deeds_few d s [] = omega arith
deeds_few d s (e ∷ ds) = omega (arith, length-append (accepted_by d s e) (along (accepted_by d) (after_deed s e) ds), deed_few d s e, deeds_few d (after_deed s e) ds)

journal_few : (s : Scenario) (j : DomainJournal) → IsDomainRun s j.line j.entries → length (accepted_in s j) ≤ length (script s j.line.domain)
journal_few s j run =
    let lines : List CallLine = script s j.line.domain in
    omega (arith, deeds_few j.line.domain (opened s j) (deeds_of s j), few_left lines [] (start s j.line) j.entries (allowed-all lines (start s j.line) (left_by s j.line j.entries) j.entries run.steps) (omega arith))

-- ---- all scripts

line_more : (b : Bool) (c : CallLine) (cs : List CallLine) → length (cond b (c ∷ cs) cs) ≡ cond b 1 0 + length cs
line_more true c cs = omega arith
line_more false c cs = omega arith

-- of one domain, among these
scripts_more : (c : CallLine) (cs : List CallLine) (ns : List ℕ) → total (λ n. length (filter (λ x. x.domain == n) (c ∷ cs))) ns ≡ times (λ n. n) c.domain ns + total (λ n. length (filter (λ x. x.domain == n) cs)) ns
scripts_more c cs [] = refl
scripts_more c cs (n ∷ ns) = omega (arith, line_more (c.domain == n) c (filter (λ x. x.domain == n) cs), scripts_more c cs ns)

scripts_few : (cs : List CallLine) (ns : List ℕ) → Differ ns → total (λ n. length (filter (λ x. x.domain == n) cs)) ns ≤ length cs
scripts_few [] ns differ = omega (arith, total-zero (λ n. length (filter (λ (x : CallLine). x.domain == n) [])) (λ n. refl) ns)
scripts_few (c ∷ cs) ns differ = omega (arith, scripts_more c cs ns, differ-few c.domain ns differ, scripts_few cs ns differ)

total_few : {A : Type 0} (f g : A → ℕ) (xs : List A) → AllByRecursion (λ x. f x ≤ g x) xs → total f xs ≤ total g xs
total_few f g [] all = omega arith
total_few f g (x ∷ xs) all = omega (arith, all.0, total_few f g xs all.1)

pub accepted-few : (s : Scenario) (js : List DomainJournal) → IsLinkedBoard s → IsBoardRun s js → length (accepted s js) ≤ length s.calls
accepted-few s js board run =
    let few : total (λ j. length (accepted_in s j)) js ≤ total (λ j. length (script s j.line.domain)) js
    = total_few (λ j. length (accepted_in s j)) (λ j. length (script s j.line.domain)) js (all-weaken (λ j. IsDomainRun s j.line j.entries) (λ j. length (accepted_in s j) ≤ length (script s j.line.domain)) (journal_few s) js run.domain_runs) in
    let numbers : map (λ (j : DomainJournal). j.line.domain) js ≡ map (λ d. d.domain) (rising s) = sym (map-map (λ (d : DomainLine). d.domain) (λ (j : DomainJournal). j.line) js) ∙ ap (map (λ (d : DomainLine). d.domain)) run.each_domain in
    let lines : total (λ (j : DomainJournal). length (script s j.line.domain)) js ≡ total (λ n. length (script s n)) (map (λ d. d.domain) (rising s))
    = sym (total-map (λ n. length (script s n)) (λ (j : DomainJournal). j.line.domain) js) ∙ ap (total (λ n. length (script s n))) numbers in
    omega (arith, length-joined (accepted_in s) js, few, lines, scripts_few s.calls (map (λ d. d.domain) (rising s)) (rising_differ s board))
