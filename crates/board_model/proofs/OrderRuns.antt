-- The laws of one domain, of its journal: what its receives take, what its tests and deletes answer, and what its cancels leave.
use Rattle.std.proofs.Common.{◌≡◌, ℕ, zero, suc, ◌+◌, ◌<◌, ◌≤◌, ◌^◌, List, [], ◌∷◌, ◌++◌, map, length, Option, Some, None, refl, arith}
use Rattle.std.specs.Prelude.{slice_get, ◌==◌}
use Rattle.std.specs.List.{flat_map}
use Rattle.std.proofs.lemmas.List.Sums.{length-filter, count_by-le-length}
use Rattle.board_model.specs.declared.scenario.CallLine.{CallLine}
use Rattle.board_model.specs.declared.scenario.Scenario.{Scenario}
use Rattle.board_model.specs.Scenario.{script, neighbours}
use Rattle.board_model.specs.LinkedBoard.{IsLinkedBoard}
use Rattle.board_model.specs.Journal.{PlainEntry, turned, put, again, waits, called, PlainAnswer, refuses, agrees, tells, connects, gives, completes, Visit, Taken}
use Rattle.board_model.specs.Step.{RunState, next_line, after}
use Rattle.board_model.specs.Run.{start, left_by, IsDomainRun}
use Rattle.board_model.specs.Board.{DomainJournal}
use Rattle.board_model.specs.Deeds.{Deed, puts_owed, looks_ahead}
use Rattle.board_model.specs.Traffic.{taken_from}
use Rattle.board_model.specs.Turn.{takes_named}
use Rattle.board_model.specs.JournalDeeds.{names_from, named_deeds, call_deeds, deeds_along, deeds_of}
use Rattle.board_model.specs.MessageOrder.{ReceivesBest, TestsTellTaken, DeletesTellDropped, AvailableTellQueued, CancelledTookNothing}
use Rattle.board_model.proofs.RunDeeds.{AllAllowed, allowed-all, deeds_run}
use Rattle.board_model.proofs.OrderLaws.{run_takes_best, run_tests_tell, run_deletes_tell, run_available_tell, run_cancelled}
use Rattle.board_model.proofs.OrderSerials.{all_succeed}

-- ---- calls that are not refused are as many as lines at most

succeed_join : (xs ys : List Deed) → all_succeed (xs ++ ys) ≡ all_succeed xs + all_succeed ys
succeed_join [] ys = omega arith
succeed_join (x ∷ xs) ys = omega (arith, succeed_join xs ys)

puts_none : (peer : ℕ) (fs : List (List ℕ)) → all_succeed (map (puts_owed peer) fs) ≡ 0
puts_none peer [] = refl
puts_none peer (f ∷ fs) = omega (arith, puts_none peer fs)

takes_none : (name : ℕ → Option ℕ) (peer : ℕ) (ts : List Taken) → all_succeed (takes_named name peer ts) ≡ 0
takes_none name peer [] = refl
takes_none name peer (t ∷ ts) = omega (arith, takes_none (λ k. name (k + 1)) peer ts)

visit_none : (before : List PlainEntry) (v : Visit) → all_succeed (named_deeds before v) ≡ 0
visit_none before v =
    let name = names_from (length (taken_from v.peer before)) in
    omega (arith, succeed_join (map (puts_owed v.peer) v.owed) (looks_ahead v.peer v.see ∷ takes_named name v.peer v.takes), puts_none v.peer v.owed, takes_none name v.peer v.takes)

visits_none : (before : List PlainEntry) (vs : List Visit) → all_succeed (flat_map (named_deeds before) vs) ≡ 0
visits_none before [] = refl
visits_none before (v ∷ vs) = omega (arith, succeed_join (named_deeds before v) (flat_map (named_deeds before) vs), visit_none before v, visits_none before vs)

one_call : (o : Option CallLine) (r : RunState) (a : PlainAnswer) → all_succeed (call_deeds o r a) ≤ 1
one_call None r a = omega arith
one_call (Some line) r (refuses w) = omega arith
one_call (Some line) r agrees = omega arith
one_call (Some line) r (tells n) = omega arith
one_call (Some line) r (connects n channel) = omega arith
one_call (Some line) r (gives n bytes) = omega arith
one_call (Some line) r (completes place how) = omega arith

no_call : (o : Option CallLine) (r : RunState) (word : _) → all_succeed (call_deeds o r (refuses word)) ≡ 0
no_call None r word = refl
no_call (Some line) r word = refl

within : {A : Type 0} (xs : List A) (i : ℕ) (x : A) → slice_get xs i ≡ Some x → i < length xs
within [] i x is = absurd cc
within (y ∷ ys) zero x is = omega arith
within (y ∷ ys) (suc i) x is = let less = within ys i x is in omega arith

pub few_left : (lines : List CallLine) (before : List PlainEntry) (r : RunState) (es : List PlainEntry) → AllAllowed lines r es → r.lines_called ≤ length lines → all_succeed (deeds_along lines before r es) + r.lines_called ≤ length lines
few_left lines before r [] allowed le = omega arith
few_left lines before r (turned vs ∷ es) allowed le =
    omega (arith, succeed_join (flat_map (named_deeds before) vs) (deeds_along lines (before ++ turned vs ∷ []) (after lines r (turned vs)) es), visits_none before vs, few_left lines (before ++ turned vs ∷ []) (after lines r (turned vs)) es allowed.1 le)
few_left lines before r (put q f ∷ es) allowed le = few_left lines (before ++ put q f ∷ []) (after lines r (put q f)) es allowed.1 le
few_left lines before r (again w ∷ es) allowed le =
    omega (arith, succeed_join (call_deeds (next_line lines r) r (refuses w)) (deeds_along lines (before ++ again w ∷ []) (after lines r (again w)) es), no_call (next_line lines r) r w, few_left lines (before ++ again w ∷ []) (after lines r (again w)) es allowed.1 le)
few_left lines before r (waits k ∷ es) allowed le = few_left lines (before ++ waits k ∷ []) (after lines r (waits k)) es allowed.1 le
few_left lines before r (called k a ∷ es) allowed le =
    let more : r.lines_called < length lines = within lines r.lines_called allowed.0.0 allowed.0.1 in
    omega (arith, succeed_join (call_deeds (next_line lines r) r a) (deeds_along lines (before ++ called k a ∷ []) (after lines r (called k a)) es), one_call (next_line lines r) r a, few_left lines (before ++ called k a ∷ []) (after lines r (called k a)) es allowed.1 (omega arith))

script_within : (s : Scenario) (d : ℕ) → length (script s d) ≤ length s.calls
script_within s d = omega (arith, length-filter (λ (c : CallLine). c.domain == d) s.calls, count_by-le-length (λ (c : CallLine). c.domain == d) s.calls)

pub few : (s : Scenario) (j : DomainJournal) → IsLinkedBoard s → IsDomainRun s j.line j.entries → all_succeed (deeds_of s j) + 1 < 2 ^ 64
few s j board run =
    let lines = script s j.line.domain in
    omega (arith, few_left lines [] (start s j.line) j.entries (allowed-all lines (start s j.line) (left_by s j.line j.entries) j.entries run.steps) (omega arith), script_within s j.line.domain, board.lines_few)

-- ---- the laws

module _ (s : Scenario) (j : DomainJournal) (board : IsLinkedBoard s) (run : IsDomainRun s j.line j.entries) where
  pub receives_best : ReceivesBest s j
  receives_best = run_takes_best j.line.domain j.line.nodes (neighbours s j.line) (deeds_of s j) (deeds_run s j board run) (few s j board run)

  pub tests_tell_taken : TestsTellTaken s j
  tests_tell_taken = run_tests_tell j.line.domain j.line.nodes (neighbours s j.line) (deeds_of s j) (deeds_run s j board run) (few s j board run)

  pub deletes_tell_dropped : DeletesTellDropped s j
  deletes_tell_dropped = run_deletes_tell j.line.domain j.line.nodes (neighbours s j.line) (deeds_of s j) (deeds_run s j board run) (few s j board run)

  pub available_tell_queued : AvailableTellQueued s j
  available_tell_queued = run_available_tell j.line.domain j.line.nodes (neighbours s j.line) (deeds_of s j) (deeds_run s j board run) (few s j board run)

  pub cancelled_took_nothing : CancelledTookNothing s j
  cancelled_took_nothing = run_cancelled j.line.domain j.line.nodes (neighbours s j.line) (deeds_of s j) (deeds_run s j board run) (few s j board run)
