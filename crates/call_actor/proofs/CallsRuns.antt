-- The run of the actors of numbered calls: new ones are ready on their board, and what they leave is a run in which each domain's log fits its role.
use Rattle.std.proofs.Common.{◌≡◌, ℕ, zero, suc, ◌+◌, ◌*◌, ◌≤◌, ◌^◌, cond, List, [], ◌∷◌, ◌++◌, map, length, slice_get, find, Option, Some, None, Vec, Global, sum_by, flat_map, refl, sym, subst, ap, ◌∙◌, arith}
use Rattle.std.specs.Prelude.{◌==◌, IfOk, Result, Ok, Err}
use Rattle.mc_base.specs.declared.refusal.NoMemory.{NoMemory}
use Rattle.std.proofs.lemmas.Bool.{eq-eqb, ne_eqb}
use Rattle.std.proofs.lemmas.List.Folds.{flat_map-map}
use Rattle.std.proofs.lemmas.List.Sums.{sum_by-cons}
use Rattle.board_model.specs.declared.scenario.DomainLine.{DomainLine}
use Rattle.board_model.specs.declared.scenario.Scenario.{Scenario}
use Rattle.board_model.specs.Board.{DomainJournal}
use Rattle.board_model.specs.Language.{IsLawfulBoard}
use Rattle.board_model.specs.Logs.{LoggedCall, log_of}
use Rattle.board_model.specs.Scenario.{script}
use Rattle.board_model.proofs.LawfulBoards.{lawful_is_linked}
use Rattle.board_runner.specs.declared.actor.Actor.{Ghosts}
use Rattle.board_runner.specs.declared.outcome.Outcome.{Outcome}
use Rattle.board_runner.specs.ActorRun.{AllHaveEnded, AreReady, HaveActed, MayAct}
use Rattle.board_runner.specs.ActorRun.{HasEnded as ActorHasEnded}
use Rattle.call_service.specs.Served.{rising}
use Rattle.call_logs.specs.MessageDeeds.{log_in, log_at}
use Rattle.call_logs.specs.Roles.{Role, got_lines, FitsRole, HasEnded}
use Rattle.call_logs.specs.CallsBoard.{CallBoard, IsCallsRun, calls_of_client, role_of}
use Rattle.call_actor.specs.declared.call_actor.CallActor.{CallActor}
use Rattle.call_actor.specs.declared.call_actor.CallActor.TheVariants.{Client, Server}
use Rattle.call_actor.specs.declared.role.CallRole.{CallRole}
use Rattle.call_actor.specs.declared.role.CallRole.TheVariants as role
use Rattle.call_actor.specs.CallActors.{EndsActor, FitsActor, IsNew, gots_of_actor, line_asked, role_of_actor, service_of_actor, todo_of_actor}
use Rattle.call_actor.specs.CallRoles.{domain_of_role, plain_role}
use Rattle.call_actor.specs.CallsBoards.{AreNew, IsCallsBoard, call_domain, call_role_of}
use Rattle.call_actor.specs.CallsRun.{AreCalled, HoldsLog, IsCallsOutcome, service_in}
use Rattle.call_actor.proofs.CallsRows.{domains-rise}
use Rattle.call_actor.proofs.ClientSettles.{gots_are}
use Rattle.call_actor.proofs.Places.{get_within, past_all}
use Rattle.call_actor.proofs.RisingNumbers.{length-rising, rising-more}

-- what is told of an actor of numbered calls
abbrev pub call_actor : Ghosts CallActor CallRole
call_actor = record { role = role_of_actor; domain = λ a. domain_of_role (role_of_actor a); todo = todo_of_actor; asked = line_asked; Fits = FitsActor; Ends = EndsActor }

-- ---- what an actor holds that fits a log

log_fits : (a : CallActor) (log : List LoggedCall) → FitsActor a log → FitsRole (plain_role (role_of_actor a)) log
log_fits (Client c) log f = f.fits
log_fits (Server s) log f = f.fits

service_held : (a : CallActor) (log : List LoggedCall) → FitsActor a log → service_of_actor a ≡ service_in (plain_role (role_of_actor a)) log
service_held (Client c) log f = refl
service_held (Server s) log f = ap Some f.holds.service

gots_held : (a : CallActor) (log : List LoggedCall) → FitsActor a log → gots_of_actor a ≡ got_lines (plain_role (role_of_actor a)) log
gots_held (Client c) log f = gots_are c.task c.place c.first c.gots.items _ c.within f.messages
gots_held (Server s) log f = refl

module _ (b : CallBoard) where
  -- ---- before

  role_number : (d : ℕ) → domain_of_role (call_role_of b d) ≡ d
  role_number zero = refl
  role_number (suc n) = refl

  role_plain : (d : ℕ) → plain_role (call_role_of b d) ≡ role_of b d
  role_plain zero = refl
  role_plain (suc n) = refl

  -- a client's
  client-role : (d : ℕ) → 1 ≤ d → role.Client d b.repeat (calls_of_client b d) ≡ call_role_of b d
  client-role zero some = absurd (omega (arith, some))
  client-role (suc n) some = refl

  one-more-new : (ds : List ℕ) (actors : List CallActor) (d : ℕ) (a : CallActor) → AreNew b ds actors → IsNew (call_role_of b d) a → AreNew b (ds ++ d ∷ []) (actors ++ a ∷ [])
  one-more-new [] [] d a are is = (is, tt)
  one-more-new [] (x ∷ xs) d a are is = absurd are
  one-more-new (e ∷ es) [] d a are is = absurd are
  one-more-new (e ∷ es) (x ∷ xs) d a are is = (are.0, one-more-new es xs d a are.1 is)

  -- the server first, and then one client more
  pub first-new : (none after : List CallActor) (a : CallActor) → none ≡ [] → after ≡ none ++ a ∷ [] → IsNew (role.Server b.clients b.repeat (length b.calls)) a → AreNew b (rising 0 1) after
  first-new none after a is longer new = subst (AreNew b (rising 0 1)) (sym (longer ∙ ap (λ (xs : List CallActor). xs ++ a ∷ []) is)) (new, tt)

  pub next-new : (n : ℕ) (before after : List CallActor) (a : CallActor) (lines : List (ℕ × ℕ)) → 1 ≤ n → after ≡ before ++ a ∷ [] → lines ≡ calls_of_client b n → IsNew (role.Client n b.repeat lines) a → AreNew b (rising 0 n) before → AreNew b (rising 0 (n + 1)) after
  next-new n before after a lines some longer own new are =
      let place : 0 + n ≡ n = omega arith in
      let is : role.Client n b.repeat lines ≡ call_role_of b n = ap (λ (ls : List (ℕ × ℕ)). role.Client n b.repeat ls) own ∙ client-role n some in
      subst (AreNew b (rising 0 (n + 1))) (sym longer)
      (subst (λ (ds : List ℕ). AreNew b ds (before ++ a ∷ [])) (sym (rising-more 0 n ∙ ap (λ (m : ℕ). rising 0 n ++ m ∷ []) place))
      (one-more-new (rising 0 n) before n a are (subst (λ (r : CallRole). IsNew r a) is new)))

  are_ready : (ds : List ℕ) (actors : List CallActor) → AreNew b ds actors → AreReady call_actor (map call_domain ds) actors
  are_ready [] [] are = tt
  are_ready [] (a ∷ actors) are = absurd are
  are_ready (d ∷ ds) [] are = absurd are
  are_ready (d ∷ ds) (a ∷ actors) are = (record { own = ap domain_of_role are.0.role ∙ role_number d; asked = are.0.asked; fits = are.0.fits }, are_ready ds actors are.1)

  todo_few : (ds : List ℕ) (actors : List CallActor) → AreNew b ds actors → sum_by todo_of_actor actors + length ds ≤ 2 ^ 29 * length ds
  todo_few [] [] are = omega arith
  todo_few [] (a ∷ actors) are = absurd are
  todo_few (d ∷ ds) [] are = absurd are
  todo_few (d ∷ ds) (a ∷ actors) are = omega (arith, sum_by-cons todo_of_actor a actors, are.0.few, todo_few ds actors are.1)

  pub may-act : (size : ℕ) (board : Scenario) (actors : List CallActor) → b.clients ≤ 7 → IsCallsBoard b.clients size board → board.calls ≡ [] → IsLawfulBoard board → AreNew b (rising 0 (b.clients + 1)) actors → MayAct call_actor board actors
  may-act size board actors few is bare lawful are = record {
    lawful = lawful;
    bare = bare;
    ready = subst (λ (ds : List DomainLine). AreReady call_actor ds actors) (sym (domains-rise b.clients size board is)) (are_ready (rising 0 (b.clients + 1)) actors are);
    few = omega (arith, few, todo_few (rising 0 (b.clients + 1)) actors are, length-rising 0 (b.clients + 1));
  }

  -- ---- after

  -- the domain followed its role to its end, and its actor holds what its log comes to
  record Followed (log : List LoggedCall) (d : ℕ) (a : CallActor) : Type 0 where
    fit : FitsRole (role_of b d) log
    ended : HasEnded (role_of b d) log
    holds : HoldsLog (role_of b d) log a

  followed : (s : Scenario) (d : ℕ) (first : CallActor) (j : DomainJournal) (now : CallActor) → IsNew (call_role_of b d) first → ActorHasEnded call_actor s first j now → Followed (log_of s j) d now
  followed s d first j now new ended =
      let same : plain_role (role_of_actor now) ≡ role_of b d = ap plain_role (ended.role ∙ new.role) ∙ role_plain d in
      record {
        fit = subst (λ (r : Role). FitsRole r (log_of s j)) same (log_fits now (log_of s j) ended.fits);
        ended = subst (λ (r : Role). HasEnded r (log_of s j)) same ended.ends;
        holds = record {
          role = same;
          service = service_held now (log_of s j) ended.fits ∙ ap (λ (r : Role). service_in r (log_of s j)) same;
          gots = gots_held now (log_of s j) ended.fits ∙ ap (λ (r : Role). got_lines r (log_of s j)) same;
        };
      }

  module _ (s : Scenario) where
    -- in the place of a domain, of journals from a number on
    each_followed : (from n : ℕ) (firsts : List CallActor) (js : List DomainJournal) (nows : List CallActor) → map (λ j. j.line) js ≡ map call_domain (rising from n) → AreNew b (rising from n) firsts → AllHaveEnded call_actor s firsts js nows
        → (i : ℕ) (a : CallActor) → slice_get nows i ≡ Some a → Followed (log_in s (find (λ j. j.line.domain == from + i) js)) (from + i) a
    each_followed from n firsts js [] lines are ended i a there = absurd cc
    each_followed from zero [] [] (now ∷ nows) lines are ended i a there = absurd ended
    each_followed from zero [] (j ∷ js) (now ∷ nows) lines are ended i a there = absurd cc
    each_followed from zero (x ∷ firsts) js (now ∷ nows) lines are ended i a there = absurd are
    each_followed from (suc n) [] js (now ∷ nows) lines are ended i a there = absurd are
    each_followed from (suc n) (x ∷ firsts) [] (now ∷ nows) lines are ended i a there = absurd cc
    each_followed from (suc n) (x ∷ firsts) (j ∷ js) (now ∷ nows) lines are ended zero a there =
        let line : j.line ≡ call_domain from = cc in
        let same : now ≡ a = cc in
        let here : from ≡ from + 0 = omega arith in
        let own : j.line.domain ≡ from + 0 = ap (λ (l : DomainLine). l.domain) line ∙ here in
        subst (λ (x : CallActor). Followed (log_in s (find (λ k. k.line.domain == from + 0) (j ∷ js))) (from + 0) x) same
        (subst (λ (o : Option DomainJournal). Followed (log_in s o) (from + 0) now) (sym (ap (λ t. cond t (Some j) (find (λ k. k.line.domain == from + 0) js)) (eq-eqb j.line.domain (from + 0) own)))
        (subst (λ (d : ℕ). Followed (log_of s j) d now) here (followed s from x j now are.0 ended.0)))
    each_followed from (suc n) (x ∷ firsts) (j ∷ js) (now ∷ nows) lines are ended (suc i) a there =
        let line : j.line ≡ call_domain from = cc in
        let rest : map (λ (k : DomainJournal). k.line) js ≡ map call_domain (rising (from + 1) n) = cc in
        let shift : from + 1 + i ≡ from + suc i = omega arith in
        let other : j.line.domain ≡ from = ap (λ (l : DomainLine). l.domain) line in
        subst (λ (o : Option DomainJournal). Followed (log_in s o) (from + suc i) a)
        (sym (ap (λ t. cond t (Some j) (find (λ k. k.line.domain == from + suc i) js)) (ne_eqb j.line.domain (from + suc i) (λ is. absurd (omega (arith, is, other))))))
        (subst (λ (d : ℕ). Followed (log_in s (find (λ k. k.line.domain == d) js)) d a) shift (each_followed (from + 1) n firsts js nows rest are.1 ended.1 i a there))

    ended_count : (firsts : List CallActor) (js : List DomainJournal) (nows : List CallActor) → AllHaveEnded call_actor s firsts js nows → length nows ≡ length js
    ended_count [] [] [] ended = refl
    ended_count [] [] (now ∷ nows) ended = absurd ended
    ended_count [] (j ∷ js) nows ended = absurd ended
    ended_count (x ∷ firsts) [] nows ended = absurd ended
    ended_count (x ∷ firsts) (j ∷ js) [] ended = absurd ended
    ended_count (x ∷ firsts) (j ∷ js) (now ∷ nows) ended = ap suc (ended_count firsts js nows ended.1)

    -- no journal is of a number behind them
    none_behind : (from n d : ℕ) (js : List DomainJournal) → map (λ j. j.line) js ≡ map call_domain (rising from n) → from + n ≤ d → log_in s (find (λ j. j.line.domain == d) js) ≡ []
    none_behind from n d [] lines behind = refl
    none_behind from zero d (j ∷ js) lines behind = absurd cc
    none_behind from (suc n) d (j ∷ js) lines behind =
        let line : j.line ≡ call_domain from = cc in
        let rest : map (λ (k : DomainJournal). k.line) js ≡ map call_domain (rising (from + 1) n) = cc in
        let own : j.line.domain ≡ from = ap (λ (l : DomainLine). l.domain) line in
        ap (λ t. log_in s (cond t (Some j) (find (λ k. k.line.domain == d) js))) (ne_eqb j.line.domain d (λ is. absurd (omega (arith, is, own, behind))))
        ∙ none_behind (from + 1) n d js rest (omega (arith, behind))

    lines_count : (n : ℕ) (js : List DomainJournal) → map (λ j. j.line) js ≡ map call_domain (rising 0 n) → length js ≡ n
    lines_count n js lines = sym (length_of js) ∙ ap length lines ∙ mapped (rising 0 n) ∙ length-rising 0 n
      where
        length_of : (ks : List DomainJournal) → length (map (λ j. j.line) ks) ≡ length ks
        length_of [] = refl
        length_of (k ∷ ks) = ap suc (length_of ks)

        mapped : (ds : List ℕ) → length (map call_domain ds) ≡ length ds
        mapped [] = refl
        mapped (d ∷ ds) = ap suc (mapped ds)

    are_called : (firsts : List CallActor) (js : List DomainJournal) (nows : List CallActor) → map (λ j. j.line) js ≡ map call_domain (rising 0 (b.clients + 1)) → AreNew b (rising 0 (b.clients + 1)) firsts → AllHaveEnded call_actor s firsts js nows → AreCalled b s js nows
    are_called firsts js nows lines are ended = record {
      fit = λ d. by_place d (slice_get nows d) refl;
      ended = λ d within. (at d (has d within).0 (has d within).1).ended;
      counted = count;
      holds = λ d a there. (at d a there).holds;
    }
      where
        at : (d : ℕ) (a : CallActor) → slice_get nows d ≡ Some a → Followed (log_at s js d) d a
        at d a there =
            let place : 0 + d ≡ d = omega arith in
            subst (λ (k : ℕ). Followed (log_in s (find (λ j. j.line.domain == k) js)) k a) place (each_followed 0 (b.clients + 1) firsts js nows lines are ended d a there)

        count : length nows ≡ b.clients + 1
        count = ended_count firsts js nows ended ∙ lines_count (b.clients + 1) js lines

        has : (d : ℕ) → d ≤ b.clients → (a : CallActor) × (slice_get nows d ≡ Some a)
        has d within = get_within nows d (omega (arith, within, count))

        by_place : (d : ℕ) (o : Option CallActor) → slice_get nows d ≡ o → FitsRole (role_of b d) (log_at s js d)
        by_place d (Some a) there = (at d a there).fit
        by_place d None past =
            let none : log_at s js d ≡ [] = none_behind 0 (b.clients + 1) d js lines (omega (arith, past_all nows d past, count)) in
            subst (FitsRole (role_of b d)) (sym none) tt

  calls-outcome : (size : ℕ) (board : Scenario) (firsts : List CallActor) (s : Scenario) (o : Outcome) (nows : List CallActor) → IsCallsBoard b.clients size board → AreNew b (rising 0 (b.clients + 1)) firsts → HaveActed call_actor board firsts s o nows → IsCallsOutcome b size s o nows
  calls-outcome size board firsts s o nows is are acted =
      let made : IsCallsBoard b.clients size s = record { domains = acted.scripts.domains ∙ is.domains; links = acted.scripts.links ∙ is.links } in
      record {
        board = made;
        lines =
            acted.scripts.lines ∙ ap (flat_map (λ (d : DomainLine). script s d.domain)) (domains-rise b.clients size board is)
            ∙ flat_map-map (λ (d : DomainLine). script s d.domain) call_domain (rising 0 (b.clients + 1));
        lawful = acted.lawful;
        run = acted.run;
        called = are_called s firsts acted.run.journals nows (acted.run.run.each_domain ∙ domains-rise b.clients size s made) are acted.ended;
      }

  -- as the contract of the run has it
  pub if-outcome : (size : ℕ) (board : Scenario) (firsts : List CallActor) (r : Result (Scenario × Outcome × Vec CallActor Global) NoMemory) → IsCallsBoard b.clients size board → AreNew b (rising 0 (b.clients + 1)) firsts
      → IfOk r (λ left. HaveActed call_actor board firsts left.0 left.1 left.2.items)
      → IfOk r (λ left. IsCallsOutcome b size left.0 left.1 left.2.items)
  if-outcome size board firsts (Ok left) is are acted = calls-outcome size board firsts left.0 left.1 left.2.items is are acted
  if-outcome size board firsts (Err none) is are acted = tt

  -- ---- the law

  pub calls-run : (size : ℕ) (s : Scenario) (o : Outcome) (actors : List CallActor) → (h : IsCallsOutcome b size s o actors) → IsCallsRun b s h.run.journals
  calls-run size s o actors h = record { linked = lawful_is_linked s h.lawful; run = h.run.run; fits = h.called.fit }
